use Rattle.ny_hands.proofs.ComingLemmas.{comes_shared, comes_brought}
use Rattle.ny_hands.proofs.PlaceLemmas.{comes_placed}
use Rattle.ny_hands.proofs.laws.meaning_laws.Goals as goal

pub returns-clause-shared : goal.returns-clause-shared
returns-clause-shared c = λ part old new a s laws begins step. comes_shared part old new a s laws begins step

pub returns-clause-brought : goal.returns-clause-brought
returns-clause-brought c = λ part old mid new r a s m rest laws comes step. comes_brought part old mid new r a s m rest laws comes step

pub returns-clause-placed : goal.returns-clause-placed
returns-clause-placed c = λ part old mid new p a s m rest laws comes step. comes_placed part old mid new p a s m rest laws comes step
