use Rattle.std.proofs.Common.{◌≡◌, ◌∙◌, ℕ, ◌+◌, Some, sym, subst}
use Rattle.ny_list.specs.Store.{CursorState}
use Rattle.ny_list.proofs.IndexLemmas.{same_some}
use Rattle.ny_heap.specs.declared.table.Unit.{Unit as UnitData}
use Rattle.ny_heap.specs.declared.table.Table.{Table}
use Rattle.ny_heap.specs.declared.settling.Next.TheVariants.{Pass}
use Rattle.ny_heap.specs.Work.{cursor_at}
use Rattle.ny_heap.specs.Table.{timing_at, input_of}
use Rattle.ny_heap.specs.View.{filled_in}
use Rattle.ny_heap.specs.Filling.{IsNextOf, moved_in}
use Rattle.ny_heap.proofs.NextLemmas.{inside_of}
use Rattle.ny_heap.proofs.SettleLemmas.{taken_has, taken_reads, taken_unit_is, advance_stands, advance_computed, passed_settling, passed_settles}
use Rattle.ny_heap.proofs.blocks.pass.Goals as goal

next_of_cursor : (t : Table) (u i n : ℕ) (x : UnitData) (c : CursorState) → IsNextOf t u i x (Pass n) → cursor_at x.work i ≡ Some c
    → moved_in t.block x (filled_in t.store u) (input_of x i) ≡ Some (record { node = c.list; place = c.place + n; timing = timing_at x i })
next_of_cursor t u i n x c next reads =
    subst (λ (d : CursorState). moved_in t.block x (filled_in t.store u) (input_of x i) ≡ Some (record { node = d.list; place = d.place + n; timing = timing_at x i }))
    (same_some (sym next.1 ∙ reads)) next.2

pub advance-requires-clause-stands : goal.advance-requires-clause-stands
advance-requires-clause-stands c =
    let s = c.requires.settling in
    let reads : cursor_at s.unit.work c.args.i ≡ Some c.unwrap-c.result = sym (c.take_input.ensures.cursor s.unit s.there) ∙ c.unwrap-c.ensures in
    advance_stands c.args.table.now c.take_input.new.table c.args.u c.args.i s.unit c.unwrap-c.result s s.there (inside_of c.args.table.now c.args.u c.args.i s.unit c.requires.inside s.there)
    reads (c.take_input.ensures.taken s.unit s.there) c.args.n (next_of_cursor c.args.table.now c.args.u c.args.i c.args.n s.unit c.unwrap-c.result (c.requires.passes s.unit s.there) reads)

pub advance-requires-clause-computed : goal.advance-requires-clause-computed
advance-requires-clause-computed c =
    let s = c.requires.settling in
    let reads : cursor_at s.unit.work c.args.i ≡ Some c.unwrap-c.result = sym (c.take_input.ensures.cursor s.unit s.there) ∙ c.unwrap-c.ensures in
    advance_computed c.args.table.now c.take_input.new.table c.args.u c.args.i s.unit c.unwrap-c.result s s.there (inside_of c.args.table.now c.args.u c.args.i s.unit c.requires.inside s.there)
    reads (c.take_input.ensures.taken s.unit s.there) c.args.n (next_of_cursor c.args.table.now c.args.u c.args.i c.args.n s.unit c.unwrap-c.result (c.requires.passes s.unit s.there) reads)

pub put_input-requires-clause-inside : goal.put_input-requires-clause-inside
put_input-requires-clause-inside c =
    let s = c.requires.settling in
    taken_has c.args.table.now c.take_input.new.table c.args.u c.args.i s.unit c.unwrap-c.result s s.there (inside_of c.args.table.now c.args.u c.args.i s.unit c.requires.inside s.there)
    (sym (c.take_input.ensures.cursor s.unit s.there) ∙ c.unwrap-c.ensures) (c.take_input.ensures.taken s.unit s.there) c.advance.new.self

pub put_input-requires-clause-reader : goal.put_input-requires-clause-reader
put_input-requires-clause-reader c = λ y is.
    let s = c.requires.settling in
    taken_reads c.args.table.now c.take_input.new.table c.args.u c.args.i s.unit c.unwrap-c.result s s.there (inside_of c.args.table.now c.args.u c.args.i s.unit c.requires.inside s.there)
    (sym (c.take_input.ensures.cursor s.unit s.there) ∙ c.unwrap-c.ensures) (c.take_input.ensures.taken s.unit s.there) y is

pub returns-clause-settling : goal.returns-clause-settling
returns-clause-settling c =
    let s = c.requires.settling in
    let reads : cursor_at s.unit.work c.args.i ≡ Some c.unwrap-c.result = sym (c.take_input.ensures.cursor s.unit s.there) ∙ c.unwrap-c.ensures in
    let inside = inside_of c.args.table.now c.args.u c.args.i s.unit c.requires.inside s.there in
    let took = c.take_input.ensures.taken s.unit s.there in
    passed_settling c.args.table.now c.take_input.new.table c.args.u c.args.i s.unit c.unwrap-c.result s s.there inside
    reads took c.args.n (next_of_cursor c.args.table.now c.args.u c.args.i c.args.n s.unit c.unwrap-c.result (c.requires.passes s.unit s.there) reads)
    c.put_input.new.table c.advance.new.self c.advance.new.c c.advance.ensures.moved c.advance.ensures.laws c.advance.ensures.passed
    (c.put_input.ensures _ (taken_unit_is c.args.table.now c.take_input.new.table c.args.u c.args.i s.unit c.unwrap-c.result s s.there inside reads took))

pub returns-clause-settles : goal.returns-clause-settles
returns-clause-settles c =
    let s = c.requires.settling in
    let reads : cursor_at s.unit.work c.args.i ≡ Some c.unwrap-c.result = sym (c.take_input.ensures.cursor s.unit s.there) ∙ c.unwrap-c.ensures in
    let inside = inside_of c.args.table.now c.args.u c.args.i s.unit c.requires.inside s.there in
    let took = c.take_input.ensures.taken s.unit s.there in
    passed_settles c.args.table.now c.take_input.new.table c.args.u c.args.i s.unit c.unwrap-c.result s s.there inside
    reads took c.args.n (next_of_cursor c.args.table.now c.args.u c.args.i c.args.n s.unit c.unwrap-c.result (c.requires.passes s.unit s.there) reads)
    c.put_input.new.table c.advance.new.self c.advance.new.c c.advance.ensures.moved c.advance.ensures.laws c.advance.ensures.passed
    (c.put_input.ensures _ (taken_unit_is c.args.table.now c.take_input.new.table c.args.u c.args.i s.unit c.unwrap-c.result s s.there inside reads took))
