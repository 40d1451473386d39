-- Places have no part in the canonical text.
use Rattle.std.proofs.Common.{◌≡◌, ℕ, List, [], ◌∷◌, ◌++◌, map, refl, sym, ap, ◌∙◌, subst, Bool, true, false}
use Rattle.ny_syntax.specs.declared.token.Token.{Token}
use Rattle.ny_syntax.specs.declared.token.Mark.TheVariants as marks
use Rattle.ny_syntax.specs.declared.token.Word.TheVariants as words
use Rattle.ny_syntax.specs.declared.tree.Name.{Name}
use Rattle.ny_syntax.specs.declared.tree.BinOp.{BinOp}
use Rattle.ny_syntax.specs.declared.tree.Param.{Param}
use Rattle.ny_syntax.specs.declared.tree.Tree.{Tree}
use Rattle.ny_syntax.specs.Levels.{operator_of, prefix_of}
use Rattle.ny_syntax.specs.Grammar as parses
use Rattle.ny_syntax.specs.Grammar.{Parse, grouped, prefixed, binary, bare_call, call, conditional, bare_block, block, Arguments, argument, arguments, Bindings, binding, bindings, Body, returned, block_body, Declaration, function, variable, Play, silent, plays, Program, program, name_of, tree_of, trees_of, binds_of, bind_of, params_of, body_of, declaration_of, declarations_of, played_of, program_of, HasTree}
use Rattle.ny_syntax.specs.Spelled.{Lexeme, sign, reserved, name}
use Rattle.ny_syntax.specs.Canonical.{Written, written, written_bind, call_written, choice_written, block_written, binary_written, prefix_written, comma_after, separated_params, declaration_lexemes, play_lines, canonical_lines}
use Rattle.ny_syntax.specs.SameTree.{unplaced, unplaced_bind, unplaced_param, unplaced_declaration, unplaced_play, without_places}
use Rattle.ny_syntax.proofs.WrittenEquations.{written-number, written-name, written-call, written-if, written-block, written-binary, written-prefix, written_bind-is}
use Rattle.ny_syntax.proofs.UnplacedEquations.{unplaced-number, unplaced-name, unplaced-call, unplaced-if, unplaced-block, unplaced-binary, unplaced-prefix, unplaced_bind-is}
use Rattle.ny_syntax.proofs.AgainLists.{bound, bound_written}
use Rattle.ny_syntax.proofs.CanonicalParse.{rewritten}

bind-unplaced : (text : List ℕ) (n : Token) (p : Parse) → written (unplaced (tree_of text p)) ≡ rewritten text p
    → written_bind (unplaced_bind (bind_of text n (tree_of text p))) ≡ written_bind (bind_of text n (tree_of text p))
bind-unplaced text n p same =
    ap written_bind (unplaced_bind-is (bind_of text n (tree_of text p)))
    ∙ written_bind-is (bound 0 (name_of text n) (unplaced (tree_of text p)))
    ∙ ap (bound_written (name_of text n)) same
    ∙ sym (written_bind-is (bind_of text n (tree_of text p)))

mutual
  pub written-unplaced : (text : List ℕ) (p : Parse) → written (unplaced (tree_of text p)) ≡ rewritten text p
  written-unplaced text (parses.number t v) = ap written (unplaced-number t.from v) ∙ written-number 0 v ∙ sym (written-number t.from v)
  written-unplaced text (parses.name t) = ap written (unplaced-name t.from (name_of text t)) ∙ written-name 0 (name_of text t) ∙ sym (written-name t.from (name_of text t))
  written-unplaced text (grouped o p c) = written-unplaced text p
  written-unplaced text (prefixed m p) =
      let op = prefix_of m.kind in
      ap written (unplaced-prefix m.from op (tree_of text p)) ∙ written-prefix 0 op (unplaced (tree_of text p))
      ∙ ap (prefix_written op) (written-unplaced text p)
      ∙ sym (written-prefix m.from op (tree_of text p))
  written-unplaced text (binary a o b) =
      let op : BinOp = operator_of o.kind in
      ap written (unplaced-binary o.from op (tree_of text a) (tree_of text b)) ∙ written-binary 0 op (unplaced (tree_of text a)) (unplaced (tree_of text b))
      ∙ ap (λ z. binary_written op z (written (unplaced (tree_of text b)))) (written-unplaced text a)
      ∙ ap (λ z. binary_written op (rewritten text a) z) (written-unplaced text b)
      ∙ sym (written-binary o.from op (tree_of text a) (tree_of text b))
  written-unplaced text (bare_call t o c) =
      let n : Name = name_of text t in ap written (unplaced-call t.from n []) ∙ written-call 0 n [] ∙ sym (written-call t.from n [])
  written-unplaced text (call t o es c) =
      let n : Name = name_of text t in
      ap written (unplaced-call t.from n (trees_of text es)) ∙ written-call 0 n (map unplaced (trees_of text es))
      ∙ ap (call_written n) (arguments-unplaced text es)
      ∙ sym (written-call t.from n (trees_of text es))
  written-unplaced text (conditional i o p c q d r e) =
      ap written (unplaced-if i.from (tree_of text p) (tree_of text q) (tree_of text r))
      ∙ written-if 0 (unplaced (tree_of text p)) (unplaced (tree_of text q)) (unplaced (tree_of text r))
      ∙ ap (λ z. choice_written z (written (unplaced (tree_of text q))) (written (unplaced (tree_of text r)))) (written-unplaced text p)
      ∙ ap (λ z. choice_written (rewritten text p) z (written (unplaced (tree_of text r)))) (written-unplaced text q)
      ∙ ap (λ z. choice_written (rewritten text p) (rewritten text q) z) (written-unplaced text r)
      ∙ sym (written-if i.from (tree_of text p) (tree_of text q) (tree_of text r))
  written-unplaced text (bare_block b r p e) =
      ap written (unplaced-block b.from [] (tree_of text p)) ∙ written-block 0 [] (unplaced (tree_of text p))
      ∙ ap (block_written []) (written-unplaced text p)
      ∙ sym (written-block b.from [] (tree_of text p))
  written-unplaced text (block b i bs r p e) =
      ap written (unplaced-block b.from (binds_of text bs) (tree_of text p)) ∙ written-block 0 (map unplaced_bind (binds_of text bs)) (unplaced (tree_of text p))
      ∙ ap (λ z. block_written z (written (unplaced (tree_of text p)))) (bindings-unplaced text bs)
      ∙ ap (λ z. block_written (map written_bind (binds_of text bs)) z) (written-unplaced text p)
      ∙ sym (written-block b.from (binds_of text bs) (tree_of text p))

  arguments-unplaced : (text : List ℕ) (es : Arguments) → map written (map unplaced (trees_of text es)) ≡ map written (trees_of text es)
  arguments-unplaced text (argument p) = ap (λ z. z ∷ []) (written-unplaced text p)
  arguments-unplaced text (arguments p comma es) =
      ap (λ z. z ∷ map written (map unplaced (trees_of text es))) (written-unplaced text p) ∙ ap (λ z. rewritten text p ∷ z) (arguments-unplaced text es)

  bindings-unplaced : (text : List ℕ) (bs : Bindings) → map written_bind (map unplaced_bind (binds_of text bs)) ≡ map written_bind (binds_of text bs)
  bindings-unplaced text (binding n is p) = ap (λ z. z ∷ []) (bind-unplaced text n p (written-unplaced text p))
  bindings-unplaced text (bindings n is p comma bs) =
      ap (λ z. z ∷ map written_bind (map unplaced_bind (binds_of text bs))) (bind-unplaced text n p (written-unplaced text p))
      ∙ ap (λ z. written_bind (bind_of text n (tree_of text p)) ∷ z) (bindings-unplaced text bs)

params-unplaced : (some : Bool) (ps : List Param) → separated_params some (map unplaced_param ps) ≡ separated_params some ps
params-unplaced some [] = refl
params-unplaced some (p ∷ ps) = ap (λ z. comma_after some ++ name p.name ∷ z) (params-unplaced true ps)

body-unplaced : (text : List ℕ) (body : Body) → written (unplaced (body_of text body)) ≡ written (body_of text body)
body-unplaced text (returned r p) = written-unplaced text p
body-unplaced text (block_body p) = written-unplaced text p

abbrev declared : Name → List Lexeme → List Lexeme → List Lexeme
declared n params body =
    reserved words.Define ∷ reserved words.Function ∷ name n ∷ sign marks.Open ∷ (params ++ sign marks.Close ∷ reserved words.Return ∷ body)

declaration-unplaced : (text : List ℕ) (d : Declaration) → declaration_lexemes (unplaced_declaration (declaration_of text d)) ≡ declaration_lexemes (declaration_of text d)
declaration-unplaced text (function d f n o ps c body) =
    let line : List Lexeme → Written → List Lexeme = λ params w. declared (name_of text n) params w.lexemes in
    ap (λ z. line z (written (unplaced (body_of text body)))) (params-unplaced false (params_of text ps))
    ∙ ap (λ z. line (separated_params false (params_of text ps)) z) (body-unplaced text body)
declaration-unplaced text (variable d v n is p) =
    ap (λ z. reserved words.Define ∷ reserved words.Variable ∷ name (name_of text n) ∷ sign marks.Equal ∷ z.lexemes) (written-unplaced text p)

lines-unplaced : (text : List ℕ) (ds : List Declaration) → map declaration_lexemes (map unplaced_declaration (declarations_of text ds)) ≡ map declaration_lexemes (declarations_of text ds)
lines-unplaced text [] = refl
lines-unplaced text (d ∷ ds) =
    ap (λ z. z ∷ map declaration_lexemes (map unplaced_declaration (declarations_of text ds))) (declaration-unplaced text d)
    ∙ ap (λ z. declaration_lexemes (declaration_of text d) ∷ z) (lines-unplaced text ds)

play-unplaced : (text : List ℕ) (play : Play) → play_lines (unplaced_play (played_of text play)) ≡ play_lines (played_of text play)
play-unplaced text silent = refl
play-unplaced text (plays t p) = ap (λ z. (reserved words.Play ∷ z.lexemes) ∷ []) (written-unplaced text p)

program-unplaced : (text : List ℕ) (p : Program) → canonical_lines (without_places (program_of text p)) ≡ canonical_lines (program_of text p)
program-unplaced text (program ds play) =
    ap (λ z. z ++ play_lines (unplaced_play (played_of text play))) (lines-unplaced text ds)
    ∙ ap (λ z. map declaration_lexemes (declarations_of text ds) ++ z) (play-unplaced text play)

canonical_lines-unplaced : (text : List ℕ) (ts : List Token) (tree : Tree) → HasTree text ts tree → canonical_lines (without_places tree) ≡ canonical_lines tree
canonical_lines-unplaced text ts tree (p, is, low, these, same) = subst (λ z. canonical_lines (without_places z) ≡ canonical_lines z) same (program-unplaced text p)

-- trees that are the same but for places have the same lines
pub canonical_lines-same : (text other : List ℕ) (ts others : List Token) (tree same : Tree) → HasTree text ts tree → HasTree other others same → without_places same ≡ without_places tree
    → canonical_lines same ≡ canonical_lines tree
canonical_lines-same text other ts others tree same has has_same is =
    sym (canonical_lines-unplaced other others same has_same) ∙ ap canonical_lines is ∙ canonical_lines-unplaced text ts tree has
