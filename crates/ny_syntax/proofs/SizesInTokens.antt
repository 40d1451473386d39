-- A tree has no more expressions and names than a text has tokens, and a text no more tokens than bytes.
use Rattle.std.proofs.Common.{◌≡◌, ℕ, ◌+◌, ◌≤◌, ◌<◌, List, [], ◌∷◌, ◌++◌, map, length, Option, sym, ap, ◌∙◌, arith, length-append, refl}
use Rattle.ny_syntax.specs.declared.token.Token.{Token}
use Rattle.ny_syntax.specs.declared.tree.Expr.{Expr}
use Rattle.ny_syntax.specs.declared.tree.Tree.{Tree}
use Rattle.ny_syntax.specs.declared.tree.Decl.{Decl}
use Rattle.ny_syntax.specs.declared.tree.Decl.TheVariants as decls
use Rattle.ny_syntax.specs.declared.tree.Form.TheVariants as forms
use Rattle.ny_syntax.specs.Levels.{operator_of, prefix_of}
use Rattle.ny_syntax.specs.Grammar.{Parse, number, name, grouped, prefixed, binary, bare_call, call, conditional, bare_block, block, Arguments, argument, arguments, Bindings, binding, bindings, Params, no_params, params, Body, returned, block_body, Declaration, function, variable, Play, silent, plays, Program, program, tokens, argument_tokens, binding_tokens, more_param_tokens, param_tokens, body_tokens, declaration_tokens, declarations_tokens, play_tokens, program_tokens, name_of, bind_of, tree_of, trees_of, binds_of, more_params_of, params_of, body_of, declaration_of, declarations_of, played_of, program_of, HasTree}
use Rattle.ny_syntax.specs.Places.{AreInOrder}
use Rattle.ny_syntax.specs.Sizes.{total, size_of, size_of_bind, declaration_size, play_size, tree_size}
use Rattle.ny_syntax.proofs.SizeEquations.{size-number, size-name, size-call, size-if, size-block, size-binary, size-prefix, size_of_bind-is}

mutual
  size-tokens : (text : List ℕ) (p : Parse) → size_of (tree_of text p) ≤ length (tokens p)
  size-tokens text (number t v) = omega (arith, size-number t.from v)
  size-tokens text (name t) = omega (arith, size-name t.from (name_of text t))
  size-tokens text (grouped o p c) = omega (arith, size-tokens text p, length-append (tokens p) (c ∷ []))
  size-tokens text (prefixed m p) = omega (arith, size-prefix m.from (prefix_of m.kind) (tree_of text p), size-tokens text p)
  size-tokens text (binary a op b) =
      omega (arith, size-binary op.from (operator_of op.kind) (tree_of text a) (tree_of text b), size-tokens text a, size-tokens text b, length-append (tokens a) (op ∷ tokens b))
  size-tokens text (bare_call t o c) = omega (arith, size-call t.from (name_of text t) [])
  size-tokens text (call t o es c) =
      omega (arith, size-call t.from (name_of text t) (trees_of text es), size-arguments text es, length-append (argument_tokens es) (c ∷ []))
  size-tokens text (conditional i o p c q d r e) =
      omega (
        arith,
        size-if i.from (tree_of text p) (tree_of text q) (tree_of text r),
        size-tokens text p,
        size-tokens text q,
        size-tokens text r,
        length-append (tokens p) (c ∷ tokens q ++ d ∷ tokens r ++ e ∷ []),
        length-append (tokens q) (d ∷ tokens r ++ e ∷ []),
        length-append (tokens r) (e ∷ []),
        length-append (tokens p ++ c ∷ tokens q) (d ∷ tokens r ++ e ∷ []),
        length-append (tokens p) (c ∷ tokens q),
        length-append (tokens p ++ c ∷ tokens q ++ d ∷ tokens r) (e ∷ []),
        length-append (tokens p ++ c ∷ tokens q) (d ∷ tokens r),
      )
  size-tokens text (bare_block b r p e) =
      omega (arith, size-block b.from [] (tree_of text p), size-tokens text p, length-append (tokens p) (e ∷ []))
  size-tokens text (block b w bs r p e) =
      omega (
        arith,
        size-block b.from (binds_of text bs) (tree_of text p),
        size-bindings text bs,
        size-tokens text p,
        length-append (binding_tokens bs) (r ∷ tokens p ++ e ∷ []),
        length-append (tokens p) (e ∷ []),
        length-append (binding_tokens bs ++ r ∷ tokens p) (e ∷ []),
        length-append (binding_tokens bs) (r ∷ tokens p),
      )

  size-arguments : (text : List ℕ) (es : Arguments) → total (map size_of (trees_of text es)) ≤ length (argument_tokens es)
  size-arguments text (argument p) = omega (arith, size-tokens text p)
  size-arguments text (arguments p comma es) =
      let all : total (map size_of (trees_of text (arguments p comma es))) ≡ size_of (tree_of text p) + total (map size_of (trees_of text es)) = refl in
      let written : length (argument_tokens (arguments p comma es)) ≡ length (tokens p ++ comma ∷ argument_tokens es) = refl in
      omega (arith, size-tokens text p, size-arguments text es, length-append (tokens p) (comma ∷ argument_tokens es))

  size-bindings : (text : List ℕ) (bs : Bindings) → total (map size_of_bind (binds_of text bs)) ≤ length (binding_tokens bs)
  size-bindings text (binding n is p) = omega (arith, size_of_bind-is (bind_of text n (tree_of text p)), size-tokens text p)
  size-bindings text (bindings n is p comma bs) =
      let all : total (map size_of_bind (binds_of text (bindings n is p comma bs))) ≡ size_of_bind (bind_of text n (tree_of text p)) + total (map size_of_bind (binds_of text bs)) = refl in
      let written : length (binding_tokens (bindings n is p comma bs)) ≡ length (n ∷ is ∷ tokens p ++ comma ∷ binding_tokens bs) = refl in
      omega (arith, size_of_bind-is (bind_of text n (tree_of text p)), size-tokens text p, size-bindings text bs, length-append (tokens p) (comma ∷ binding_tokens bs))

size-more_params : (text : List ℕ) (mores : List (Token × Token)) → length (more_params_of text mores) ≤ length (more_param_tokens mores)
size-more_params text [] = omega arith
size-more_params text (more ∷ mores) = omega (arith, size-more_params text mores)

size-params : (text : List ℕ) (ps : Params) → length (params_of text ps) ≤ length (param_tokens ps)
size-params text no_params = omega arith
size-params text (params first mores) = omega (arith, size-more_params text mores)

size-body : (text : List ℕ) (b : Body) → size_of (body_of text b) ≤ length (body_tokens b)
size-body text (returned r p) = omega (arith, size-tokens text p)
size-body text (block_body p) = size-tokens text p

size-declaration : (text : List ℕ) (d : Declaration) → declaration_size (declaration_of text d) ≤ length (declaration_tokens d)
size-declaration text (function d f n o ps c body) =
    omega (arith, size-params text ps, size-body text body, length-append (param_tokens ps) (c ∷ body_tokens body))
size-declaration text (variable d v n is p) = omega (arith, size-tokens text p)

size-declarations : (text : List ℕ) (ds : List Declaration) → total (map declaration_size (declarations_of text ds)) ≤ length (declarations_tokens ds)
size-declarations text [] = omega arith
size-declarations text (d ∷ ds) = omega (arith, size-declaration text d, size-declarations text ds, length-append (declaration_tokens d) (declarations_tokens ds))

size-play : (text : List ℕ) (p : Play) → play_size (played_of text p) ≤ length (play_tokens p)
size-play text silent = omega arith
size-play text (plays t p) = omega (arith, size-tokens text p)

size-program : (text : List ℕ) (p : Program) → tree_size (program_of text p) ≤ length (program_tokens p)
unfolding tree_size
size-program text (program ds play) = omega (arith, size-declarations text ds, size-play text play, length-append (declarations_tokens ds) (play_tokens play))

tokens-bytes : (start : ℕ) (ts : List Token) (end : ℕ) → AreInOrder start ts end → start + length ts ≤ end
tokens-bytes start [] end h = omega arith
tokens-bytes start (t ∷ ts) end h = let rest = tokens-bytes t.to ts end h.2 in omega arith

pub size-text : (text : List ℕ) (ts : List Token) (tree : Tree) (end : ℕ) → HasTree text ts tree → AreInOrder 0 ts end → tree_size tree ≤ end
size-text text ts tree end h order =
    let within = size-program text h.0 in
    let few = tokens-bytes 0 ts end order in
    omega (arith, ap length h.3, ap tree_size h.4)

one_each : (ds : List Decl) → length ds ≤ total (map declaration_size ds)
one_each [] = omega arith
one_each (decls.Function at n ps body ∷ ds) = omega (arith, one_each ds)
one_each (decls.Variable at n value ∷ ds) = omega (arith, one_each ds)

pub declared-size : (tree : Tree) → length tree.decls ≤ tree_size tree
unfolding tree_size
declared-size tree = omega (arith, one_each tree.decls)
