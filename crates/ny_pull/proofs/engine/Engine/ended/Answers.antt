use Rattle.std.proofs.Common.{List, Option, length, not, slice_index_or, sym, ap, ◌∙◌, arith}
use Rattle.ny_heap.specs.declared.sound.Sound.{Sound}
use Rattle.ny_pull.specs.Engine.{EngineState}
use Rattle.ny_pull.proofs.PlaceLemmas.{got_any, turned_back}
use Rattle.ny_pull.proofs.StateLemmas.{ended_told}
use Rattle.ny_pull.proofs.engine.Engine.ended.Goals as goal

pub returns : goal.returns
returns c =
    let at =
    got_any c.self.inside.channels.items c.args.c c.index-as_slice-c.result (omega (arith, c.requires, ap (λ (e : EngineState). length e.channels) c.self.view_is))
    (c.index-as_slice-c.is ∙ ap (λ (os : List (Option Sound)). slice_index_or os c.args.c c.index-as_slice-c.result) c.as_slice.ensures.value) in
    ended_told c.self.inside.program c.self.inside.rate c.self.inside.channels.items c.self.inside.pulled.items c.self.inside.spent c.self.inside.heap c.args.self.now c.self.view_is c.args.c c.self.inside.frames c.self.inside.pulls c.self.invariant
    c.index-as_slice-c.result at c.is_none.result (turned_back c.is_none.result ∙ ap not (sym c.is_none.ensures))
