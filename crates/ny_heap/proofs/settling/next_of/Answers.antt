use Rattle.std.proofs.Common.{◌≡◌, ◌∙◌, ◌-◌, Some, sym, ap, subst, arith}
use Rattle.ny_list.proofs.IndexLemmas.{same_some}
use Rattle.ny_heap.specs.declared.table.Unit.{Unit as UnitData}
use Rattle.ny_heap.specs.declared.settling.Next.TheVariants.{Drop, Pass}
use Rattle.ny_heap.specs.Work.{cursor_at, need_in}
use Rattle.ny_heap.specs.Filling.{IsNextOf}
use Rattle.ny_heap.proofs.NextLemmas.{settling_there, inside_of, its_end, need_now, passed_less, drops_closed, drops_passed, passes_on}
use Rattle.ny_heap.proofs.settling.next_of.Goals as goal
use Rattle.ny_heap.proofs.settling.next_of.Goals.{then-not-is_unfilled-via-then-not-is_unfilled, then-not-is_unfilled-via-else-not-is_unfilled+then-need-visible}

pub computed-requires : goal.computed-requires
computed-requires c = settling_there c.args.table.now c.args.u c.args.i c.requires.settling

pub is_unfilled-requires-clause-there : goal.is_unfilled-requires-clause-there
is_unfilled-requires-clause-there c = settling_there c.args.table.now c.args.u c.args.i c.requires.settling

pub returns-then-not-is_unfilled : goal.returns-then-not-is_unfilled
returns-then-not-is_unfilled c = λ x is.
    let t = c.args.table.now in
    let s = c.requires.settling in
    let y = c.unit_of.result.now in
    let d = c.in-Some.c.now in
    let inside = inside_of t c.args.u c.args.i y c.requires.inside c.unit_of.ensures in
    let reads : cursor_at y.work c.args.i ≡ Some d = sym c.in-Some.ensures in
    let need = c.need-need.ensures ∙ ap (need_in y.work c.args.i) c.computed.ensures ∙ need_now t c.args.u c.args.i s y c.unit_of.ensures inside d reads in
    subst (λ (z : UnitData). IsNextOf t c.args.u c.args.i z Drop) (same_some (sym c.unit_of.ensures ∙ is)) (
      d,
      reads,
      elim c.then-not-is_unfilled.branch [
        | then-not-is_unfilled-via-then-not-is_unfilled w ↦ drops_closed t c.args.u c.args.i s y c.unit_of.ensures inside d reads (sym c.is_unfilled.ensures ∙ w.if-not-is_unfilled.true)
        | then-not-is_unfilled-via-else-not-is_unfilled+then-need-visible w ↦
            drops_passed t c.args.u c.args.i s y c.unit_of.ensures inside d reads (sym c.is_unfilled.ensures ∙ w.if-not-is_unfilled.false)
            (omega (arith, need, w.if-need-visible.true, w.visible.ensures, its_end t c.args.u c.args.i s y c.unit_of.ensures inside d reads))
      ],
    )

pub overflow_sub-result : goal.overflow_sub-result
overflow_sub-result c =
    let t = c.args.table.now in
    let s = c.requires.settling in
    let y = c.unit_of.result.now in
    let d = c.in-Some.c.now in
    let inside = inside_of t c.args.u c.args.i y c.requires.inside c.unit_of.ensures in
    let reads : cursor_at y.work c.args.i ≡ Some d = sym c.in-Some.ensures in
    omega (arith, c.position.ensures.place, passed_less t c.args.u c.args.i s y c.unit_of.ensures inside d reads, c.need-need.ensures ∙ ap (need_in y.work c.args.i) c.computed.ensures ∙ need_now t c.args.u c.args.i s y c.unit_of.ensures inside d reads)

pub returns : goal.returns
returns c = λ x is.
    let t = c.args.table.now in
    let s = c.requires.settling in
    let y = c.unit_of.result.now in
    let d = c.in-Some.c.now in
    let inside = inside_of t c.args.u c.args.i y c.requires.inside c.unit_of.ensures in
    let reads : cursor_at y.work c.args.i ≡ Some d = sym c.in-Some.ensures in
    let need = c.need-need.ensures ∙ ap (need_in y.work c.args.i) c.computed.ensures ∙ need_now t c.args.u c.args.i s y c.unit_of.ensures inside d reads in
    subst (λ (z : UnitData). IsNextOf t c.args.u c.args.i z (Pass (c.need-need.result - c.position.result))) (same_some (sym c.unit_of.ensures ∙ is)) (
      d,
      reads,
      passes_on t c.args.u c.args.i s y c.unit_of.ensures inside d reads (sym c.is_unfilled.ensures ∙ c.if-not-is_unfilled.false)
          (omega (arith, need, c.if-need-visible.false, c.visible.ensures, its_end t c.args.u c.args.i s y c.unit_of.ensures inside d reads))
          (c.need-need.result - c.position.result) (omega (arith, need, c.position.ensures.place)),
    )
