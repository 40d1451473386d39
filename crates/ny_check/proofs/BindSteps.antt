-- One more bind of a block is written.
use Rattle.std.proofs.Common.{◌≡◌, List, [], ◌∷◌, ◌++◌, map, sym, ap, ◌∙◌}
use Rattle.ny_resolve.specs.declared.term.Term.TheFolds.{fold_out-Bound}
use Rattle.ny_resolve.specs.declared.term.Bound.{Bound}
use Rattle.ny_resolve.specs.declared.term.NameId.{NameId}
use Rattle.ny_check.specs.declared.node.ExprId.{ExprId}
use Rattle.ny_check.specs.declared.node.Function.{Function}
use Rattle.ny_check.specs.Writing.{Table, Writing, BindWriting, Written, WrittenBinds, term_writing, bound_writing, part_writing, writing, writing_of_bind, write_binds}

bind-is : (b : Bound) → writing_of_bind b ≡ record { name = b.name; write = (writing b.value).write; uses = (writing b.value).uses }
bind-is b = fold_out-Bound Writing BindWriting Writing term_writing bound_writing part_writing b

pub bind_step : (now rest : List Bound) (b : Bound) (fs fs' : List Function) (ns ns' : Table) (done done' : List (NameId × ExprId)) (id : ExprId) (all : WrittenBinds)
    → now ≡ b ∷ rest → record { table = ns'; id = id } ≡ (writing b.value).write [] fs ns → done' ≡ done ++ (b.name, id) ∷ [] → fs' ≡ fs
    → write_binds (map writing_of_bind now) fs done ns ≡ all → write_binds (map writing_of_bind rest) fs' done' ns' ≡ all
bind_step now rest b fs fs' ns ns' done done' id all here written pushed same h =
    let step : map writing_of_bind now ≡ record { name = b.name; write = (writing b.value).write; uses = (writing b.value).uses } ∷ map writing_of_bind rest =
    ap (map writing_of_bind) here ∙ ap (λ (w : BindWriting). w ∷ map writing_of_bind rest) (bind-is b) in
    ap (λ (gs : List Function). write_binds (map writing_of_bind rest) gs done' ns') same
    ∙ ap (λ (ds : List (NameId × ExprId)). write_binds (map writing_of_bind rest) fs ds ns') pushed
    ∙ ap (λ (w : Written). write_binds (map writing_of_bind rest) fs (done ++ (b.name, w.id) ∷ []) w.table) written
    ∙ ap (λ (ws : List BindWriting). write_binds ws fs done ns) (sym step) ∙ h
