-- Small facts on heights, levels and stacks.
use Rattle.std.proofs.Common.{◌≡◌, ℕ, ◌+◌, ◌≤◌, List, [], ◌∷◌, ◌++◌, length, Bool, true, false, None, refl, sym, ap, ◌∙◌, append_assoc, append-nil, if◌then◌else◌, arith}
use Rattle.std.proofs.lemmas.Bool.Decides.{nat_tests}
use Rattle.ny_syntax.specs.declared.token.Token.{Token}
use Rattle.ny_syntax.specs.declared.token.TokenKind.{TokenKind}
use Rattle.ny_syntax.specs.declared.token.TokenKind.TheVariants as kinds
use Rattle.ny_syntax.specs.declared.token.Mark.TheVariants as marks
use Rattle.ny_syntax.specs.declared.tree.Decl.{Decl}
use Rattle.ny_syntax.specs.Levels.{level_of, left_least, right_least}
use Rattle.ny_syntax.specs.Grammar
use Rattle.ny_syntax.specs.Grammar.{Parse, Declaration, height, height_limit, level, IsRight, AreMoreParams, AreDeclarations, IsDeclaration, declaration_height, declarations_height, declaration_tokens, declarations_tokens, declaration_of, declarations_of, more_param_tokens, more_params_of, param_of}
use Rattle.ny_parse.specs.declared.frame.Frame.{Frame}
use Rattle.ny_parse.specs.declared.frame.Frame.TheVariants as frames
use Rattle.ny_parse.specs.Reading.{Next, is_full, deeper}
use Rattle.ny_parse.proofs.Partial.{Holds, HasDecls, Keeps, least, is_over}

pub height-positive : (p : Parse) → 1 ≤ height p
height-positive (Grammar.number t v) = omega arith
height-positive (Grammar.name t) = omega arith
height-positive (Grammar.grouped o p c) = omega arith
height-positive (Grammar.prefixed m p) = omega arith
height-positive (Grammar.binary a op b) = omega arith
height-positive (Grammar.bare_call t o c) = omega arith
height-positive (Grammar.call t o es c) = omega arith
height-positive (Grammar.conditional i o p c q d r e) = omega arith
height-positive (Grammar.bare_block b r p e) = omega arith
height-positive (Grammar.block b w bs r p e) = omega arith

pub level-bound : (kind : TokenKind) → level_of kind ≤ 6
level-bound (kinds.Sign marks.Or) = omega arith
level-bound (kinds.Sign marks.And) = omega arith
level-bound (kinds.Sign marks.Equal) = omega arith
level-bound (kinds.Sign marks.NotEqual) = omega arith
level-bound (kinds.Sign marks.Less) = omega arith
level-bound (kinds.Sign marks.Greater) = omega arith
level-bound (kinds.Sign marks.LessEqual) = omega arith
level-bound (kinds.Sign marks.GreaterEqual) = omega arith
level-bound (kinds.Sign marks.Plus) = omega arith
level-bound (kinds.Sign marks.Minus) = omega arith
level-bound (kinds.Sign marks.Times) = omega arith
level-bound (kinds.Sign marks.Over) = omega arith
level-bound (kinds.Sign marks.At) = omega arith
level-bound (kinds.Sign marks.Tilde) = omega arith
level-bound _ = omega arith

pub left-bound : (kind : TokenKind) → level_of kind ≤ left_least kind
left-bound (kinds.Sign marks.Equal) = omega arith
left-bound (kinds.Sign marks.NotEqual) = omega arith
left-bound (kinds.Sign marks.Less) = omega arith
left-bound (kinds.Sign marks.Greater) = omega arith
left-bound (kinds.Sign marks.LessEqual) = omega arith
left-bound (kinds.Sign marks.GreaterEqual) = omega arith
left-bound _ = omega arith

pub least-bound : (k : List Frame) → least k ≤ 7
least-bound [] = omega arith
least-bound (frames.Right a op ∷ k) = omega (arith, level-bound op.kind)
least-bound (frames.Prefix m ∷ k) = omega arith
least-bound (_ ∷ k) = omega arith

pub right-fits : (kind : TokenKind) (p : Parse) → is_over kind ≡ false → right_least kind ≤ level p → IsRight kind p
right-fits (kinds.Sign marks.Over) p e h = absurd (cc)
right-fits _ p e h = h

pub holds-some : (text : List ℕ) (ds : List Decl) (k : List Frame) (used : List Token) → Holds text ds k used → 1 ≤ length k
holds-some text ds [] used h = absurd h
holds-some text ds (frame ∷ k) used h = omega arith

pub one_frame : (k : List Frame) → k ≡ [] → 1 + length k ≤ 200
one_frame k e = rw e (omega arith)

pub one_more : (k : List Frame) → k ≡ [] → 2 + length k ≤ 200
one_more k e = rw e (omega arith)

pub deeper-keeps : (text : List ℕ) (used : List Token) (k : List Frame) (next : Next) → (1 + length k ≤ height_limit → Keeps text used next) → Keeps text used (deeper k next)
deeper-keeps text used k next h = by_case (is_full k) refl
  where
    by_case : (full : Bool) → is_full k ≡ full → Keeps text used (if full then None else next)
    by_case true e = tt
    by_case false e = h (grind (arith, nat_tests))

-- one more parameter
pub more-tokens : (mores : List (Token × Token)) (c n : Token) → more_param_tokens (mores ++ (c, n) ∷ []) ≡ more_param_tokens mores ++ (c ∷ n ∷ [])
more-tokens [] c n = refl
more-tokens (m ∷ mores) c n = ap (λ l. m.0 ∷ m.1 ∷ l) (more-tokens mores c n)

pub more-params : (text : List ℕ) (mores : List (Token × Token)) (c n : Token) → more_params_of text (mores ++ (c, n) ∷ []) ≡ more_params_of text mores ++ param_of text n ∷ []
more-params text [] c n = refl
more-params text (m ∷ mores) c n = ap (λ l. param_of text m.1 ∷ l) (more-params text mores c n)

pub more-are : (mores : List (Token × Token)) (c n : Token) → AreMoreParams mores → c.kind ≡ kinds.Sign marks.Comma → n.kind ≡ kinds.Name → AreMoreParams (mores ++ (c, n) ∷ [])
more-are [] c n are ck nk = (ck, nk, tt)
more-are (m ∷ mores) c n (comma, named, are) ck nk = (comma, named, more-are mores c n are ck nk)

-- one more declaration
declarations-tokens : (all : List Declaration) (d : Declaration) → declarations_tokens (all ++ d ∷ []) ≡ declarations_tokens all ++ declaration_tokens d
declarations-tokens [] d = append-nil (declaration_tokens d)
declarations-tokens (x ∷ all) d = ap (λ l. declaration_tokens x ++ l) (declarations-tokens all d) ∙ sym (append_assoc (declaration_tokens x) (declarations_tokens all) (declaration_tokens d))

declarations-of : (text : List ℕ) (all : List Declaration) (d : Declaration) → declarations_of text (all ++ d ∷ []) ≡ declarations_of text all ++ declaration_of text d ∷ []
declarations-of text [] d = refl
declarations-of text (x ∷ all) d = ap (λ l. declaration_of text x ∷ l) (declarations-of text all d)

declarations-are : (all : List Declaration) (d : Declaration) → AreDeclarations all → IsDeclaration d → AreDeclarations (all ++ d ∷ [])
declarations-are [] d are is = (is, tt)
declarations-are (x ∷ all) d (first, are) is = (first, declarations-are all d are is)

declarations-height : (all : List Declaration) (d : Declaration) → declarations_height all ≤ 200 → declaration_height d ≤ 200 → declarations_height (all ++ d ∷ []) ≤ 200
declarations-height [] d h low = omega arith
declarations-height (x ∷ all) d h low = omega (arith, declarations-height all d (omega arith) low)

pub with_declaration : (text : List ℕ) (ds : List Decl) (before used : List Token) (d : Declaration) → HasDecls text ds before → IsDeclaration d → declaration_height d ≤ height_limit
    → used ≡ before ++ declaration_tokens d → HasDecls text (ds ++ declaration_of text d ∷ []) used
with_declaration text ds before used d (all, are, low, tk, of) is h e = (
  all ++ d ∷ [],
  declarations-are all d are is,
  declarations-height all d low h,
  declarations-tokens all d ∙ ap (λ l. l ++ declaration_tokens d) tk ∙ sym e,
  declarations-of text all d ∙ ap (λ l. l ++ declaration_of text d ∷ []) of,
)
