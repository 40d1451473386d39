-- Only a variable's value, a function's expression and a played one may end a text.
use Rattle.std.proofs.Common.{◌≡◌, ℕ, List, None, refl}
use Rattle.ny_syntax.specs.declared.token.Token.{Token}
use Rattle.ny_syntax.specs.declared.tree.Decl.{Decl}
use Rattle.ny_syntax.specs.declared.tree.Param.{Param}
use Rattle.ny_parse.specs.declared.frame.Label.{Label}
use Rattle.ny_parse.specs.declared.frame.Measured.{Measured}
use Rattle.ny_parse.specs.declared.frame.Frame.{Frame}
use Rattle.ny_parse.specs.declared.frame.Frame.TheVariants as frames
use Rattle.ny_parse.specs.Reading.{ended}

pub no_end : (text : List ℕ) (frame : Frame) (x : Measured) (ds : List Decl)
    → ((l : Label) → frame ≡ frames.Variable l → ⊥) → ((l : Label) (ps : List Param) → frame ≡ frames.Function l ps → ⊥) → ((t : Token) → frame ≡ frames.Play t → ⊥)
    → ended text frame x ds ≡ None
unfolding ended
no_end text (frames.Variable l) x ds v f p = absurd (v l refl)
no_end text (frames.Function l ps) x ds v f p = absurd (f l ps refl)
no_end text (frames.Play t) x ds v f p = absurd (p t refl)
no_end text _ x ds v f p = refl
