-- How large each kind of term is.
use Rattle.std.proofs.Common.{◌≡◌, ◌≤◌, ℕ, ◌+◌, List, [], ◌∷◌, ◌++◌, map, Option, sym, ap, ◌∙◌, arith}
use Rattle.std.specs.Prelude.{ℤ, IfOk, Ok, Err}
use Rattle.std.specs.declared.result.Result.{Result}
use Rattle.ny_num.specs.declared.rate.Rate.{Rate}
use Rattle.ny_syntax.specs.declared.tree.Tree.{Tree}
use Rattle.ny_syntax.specs.declared.tree.Bind.{Bind}
use Rattle.ny_syntax.specs.declared.tree.Decl.{Decl}
use Rattle.ny_syntax.proofs.SizeEquations.{size_of_bind-is}
use Rattle.ny_syntax.specs.Sizes.{size_of, size_of_bind, total, declaration_size, play_size, tree_size}
use Rattle.ny_resolve.specs.declared.builtin.Operator.{Operator}
use Rattle.ny_resolve.specs.declared.builtin.Order.{Order}
use Rattle.ny_resolve.specs.declared.builtin.Rated.{Rated}
use Rattle.ny_resolve.specs.declared.term.NameId.{NameId}
use Rattle.ny_resolve.specs.declared.term.Term.TheVariants as term
use Rattle.ny_resolve.specs.declared.term.Term.TheVariants.{rolls-Number, rolls-Local, rolls-Global, rolls-Call, rolls-Block, rolls-Apply, rolls-Over, rolls-Repeat, rolls-Nameless, rolls-Warp, rolls-Rate}
use Rattle.ny_resolve.specs.declared.term.Term.TheFolds.{fold_out-Part, fold_out-Bound, fold-roll-Term}
use Rattle.ny_resolve.specs.declared.term.Term.TheOpen.{Term-F}
use Rattle.ny_resolve.specs.declared.term.Part.{Part}
use Rattle.ny_resolve.specs.declared.term.Bound.{Bound}
use Rattle.ny_resolve.specs.declared.term.Declared.{Declared}
use Rattle.ny_resolve.specs.declared.declarations.ReadTree.{ReadTree}
use Rattle.ny_resolve.specs.Sizes.{term_size, bound_size, part_size, size_of_part, size_of_term, size_of_bound, declared_size, played_size, text_size}

pub size-part : (p : Part) → size_of_part p ≡ size_of_term p.term
size-part p = fold_out-Part ℕ ℕ ℕ term_size bound_size part_size p

pub size-bound : (b : Bound) → size_of_bound b ≡ size_of_part b.value
size-bound b = fold_out-Bound ℕ ℕ ℕ term_size bound_size part_size b

pub size-Number : (v : ℤ) → size_of_term (term.Number v) ≡ 1
size-Number v = ap size_of_term (sym (rolls-Number v)) ∙ fold-roll-Term ℕ ℕ ℕ term_size bound_size part_size (Term-F.Number v)

pub size-Local : (x : NameId) → size_of_term (term.Local x) ≡ 1
size-Local x = ap size_of_term (sym (rolls-Local x)) ∙ fold-roll-Term ℕ ℕ ℕ term_size bound_size part_size (Term-F.Local x)

pub size-Global : (n : ℕ) → size_of_term (term.Global n) ≡ 1
size-Global n = ap size_of_term (sym (rolls-Global n)) ∙ fold-roll-Term ℕ ℕ ℕ term_size bound_size part_size (Term-F.Global n)

pub size-Call : (n : ℕ) (ps : List Part) → size_of_term (term.Call n ps) ≡ 1 + total (map size_of_part ps)
size-Call n ps = ap size_of_term (sym (rolls-Call n ps)) ∙ fold-roll-Term ℕ ℕ ℕ term_size bound_size part_size (Term-F.Call n ps)

pub size-Block : (bs : List Bound) (p : Part) → size_of_term (term.Block bs p) ≡ 1 + (total (map size_of_bound bs) + size_of_part p)
size-Block bs p = ap size_of_term (sym (rolls-Block bs p)) ∙ fold-roll-Term ℕ ℕ ℕ term_size bound_size part_size (Term-F.Block bs p)

pub size-Apply : (o : Operator) (ps : List Part) → size_of_term (term.Apply o ps) ≡ 1 + total (map size_of_part ps)
size-Apply o ps = ap size_of_term (sym (rolls-Apply o ps)) ∙ fold-roll-Term ℕ ℕ ℕ term_size bound_size part_size (Term-F.Apply o ps)

pub size-Over : (p : Part) (v : ℤ) → size_of_term (term.Over p v) ≡ 1 + size_of_part p
size-Over p v = ap size_of_term (sym (rolls-Over p v)) ∙ fold-roll-Term ℕ ℕ ℕ term_size bound_size part_size (Term-F.Over p v)

pub size-Repeat : (o : Order) (x : NameId) (n : ℕ) (p : Part) → size_of_term (term.Repeat o x n p) ≡ 1 + size_of_part p
size-Repeat o x n p = ap size_of_term (sym (rolls-Repeat o x n p)) ∙ fold-roll-Term ℕ ℕ ℕ term_size bound_size part_size (Term-F.Repeat o x n p)

pub size-Nameless : (p : Part) → size_of_term (term.Nameless p) ≡ 1 + size_of_part p
size-Nameless p = ap size_of_term (sym (rolls-Nameless p)) ∙ fold-roll-Term ℕ ℕ ℕ term_size bound_size part_size (Term-F.Nameless p)

pub size-Warp : (vs : List ℤ) (p : Part) → size_of_term (term.Warp vs p) ≡ 1 + size_of_part p
size-Warp vs p = ap size_of_term (sym (rolls-Warp vs p)) ∙ fold-roll-Term ℕ ℕ ℕ term_size bound_size part_size (Term-F.Warp vs p)

pub size-Rate : (a : Rated) (r : Rate) (p : Part) → size_of_term (term.Rate a r p) ≡ 1 + size_of_part p
size-Rate a r p = ap size_of_term (sym (rolls-Rate a r p)) ∙ fold-roll-Term ℕ ℕ ℕ term_size bound_size part_size (Term-F.Rate a r p)

pub total-push : {A : Type 0} (f : A → ℕ) (xs : List A) (x : A) → total (map f (xs ++ x ∷ [])) ≡ total (map f xs) + f x
total-push f [] x = omega arith
total-push f (y ∷ xs) x = omega (arith, total-push f xs x)

pub part_pushed : (ps all : List Part) (q : Part) → all ≡ ps ++ q ∷ [] → total (map size_of_part all) ≡ total (map size_of_part ps) + size_of_part q
part_pushed ps all q is = ap (λ (xs : List Part). total (map size_of_part xs)) is ∙ total-push size_of_part ps q

-- one more is read, which is no larger than what it is read from
pub read_step : {A B : Type 0} (f : A → ℕ) (g : B → ℕ) (done all : List A) (now rest : List B) (x : A) (e : B) (n : ℕ) → all ≡ done ++ x ∷ [] → now ≡ e ∷ rest → f x ≤ g e → total (map f done) + total (map g now) ≤ n → total (map f all) + total (map g rest) ≤ n
read_step f g done all now rest x e n pushed here small so_far =
    let left : total (map g now) ≡ g e + total (map g rest) = ap (λ es. total (map g es)) here in
    let right : total (map f all) ≡ total (map f done) + f x = ap (λ xs. total (map f xs)) pushed ∙ total-push f done x in
    omega (arith, left, right, small, so_far)

-- a bind counts for its name too
pub bound-small : (b : Bound) (e : Bind) → size_of_part b.value ≤ size_of e.value → size_of_bound b ≤ size_of_bind e
bound-small b e small = omega (arith, size-bound b, size_of_bind-is e, small)

pub last-small : (q : Part) (ps all : List Part) → all ≡ ps ++ q ∷ [] → size_of_part q ≤ total (map size_of_part all)
last-small q ps all is = rw is (omega (arith, total-push size_of_part ps q))

tree-small : (tree : Tree) (ds : List Declared) (play : Option Part) → total (map declared_size ds) ≤ total (map declaration_size tree.decls) → played_size play ≤ play_size tree.play → text_size ds play ≤ tree_size tree
unfolding text_size tree_size
tree-small tree ds play each played = omega (arith, each, played)

-- what is read of the declarations, and then of what is played, is no larger than the tree
pub read-small : {E : Type 0} (tree : Tree) (decls : List Decl) (ds : List Declared) (r : Result ReadTree E) → decls ≡ tree.decls
    → total (map declared_size ds) ≤ total (map declaration_size decls) → IfOk r (λ t. t.declared ≡ ds) → IfOk r (λ t. played_size t.play ≤ play_size tree.play)
    → IfOk r (λ t. text_size t.declared t.play ≤ tree_size tree)
read-small tree decls ds (Ok t) is each same played =
    let here : total (map declared_size t.declared) ≡ total (map declared_size ds) = ap (λ (xs : List Declared). total (map declared_size xs)) same in
    let there : total (map declaration_size decls) ≡ total (map declaration_size tree.decls) = ap (λ (xs : List Decl). total (map declaration_size xs)) is in
    tree-small tree t.declared t.play (omega (arith, here, there, each)) played
read-small tree decls ds (Err e) is each same played = tt

pub ruleset last_small = (last-small)

pub ruleset block_sizes = (size-Block)

pub ruleset term_sizes = (size-part, size-Number, size-Local, size-Global, size-Call, size-Block, size-Apply, size-Over, size-Repeat, size-Nameless, size-Warp, size-Rate)
