pub mod WavFile
