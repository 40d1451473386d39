use Rattle.std.proofs.Common.{◌≡◌, ◌+◌, ◌∷◌, drop, refl, ◌∙◌, sym, arith}
use Rattle.std.proofs.lemmas.Grind.{common_steps}
use Rattle.ny_syntax.specs.Sizes.{size_of, size_of_bind}
use Rattle.ny_scope.proofs.Kept.{kept_more}
use Rattle.ny_resolve.specs.declared.term.Bound.{Bound}
use Rattle.ny_resolve.specs.Names.{Scope, scope_of}
use Rattle.ny_resolve.specs.Sizes.{size_of_part, size_of_bound}
use Rattle.ny_resolve.proofs.Earliest.{more, after_none}
use Rattle.ny_resolve.proofs.Forms.{faults-Number, faults-If, faults-Division, faults-Binary, bind_is, arguments-none}
use Rattle.ny_resolve.proofs.PartSizes.{read_step, bound-small}
use Rattle.ny_resolve.proofs.reading.+read.Goals as goal

pub read_form-returns-in-Number-clause-first : goal.read_form-returns-in-Number-clause-first
read_form-returns-in-Number-clause-first t c =
    let s : Scope = scope_of c.args.names.now c.args.here c.args.locals.now in
    after_none c.args.first _ (faults-Number c.args.e.now c.in-Number.v s c.in-Number.is)

pub read_form-returns-in_ok-first-in-If-3-clause-first : goal.read_form-returns-in_ok-first-in-If-3-clause-first
read_form-returns-in_ok-first-in-If-3-clause-first t c =
    let s : Scope = scope_of c.args.names.now c.args.here c.args.locals.now in
    grind (arith, more, faults-If c.args.e.now c.in-If.c c.in-If.a c.in-If.b s c.in-If.is)

pub read_form-returns-in_ok-divided-in-Binary-clause-first : goal.read_form-returns-in_ok-divided-in-Binary-clause-first
read_form-returns-in_ok-divided-in-Binary-clause-first t c =
    let s : Scope = scope_of c.args.names.now c.args.here c.args.locals.now in
    grind (arith, more, faults-Division c.args.e.now c.in-Binary.operator c.in-Binary.a c.in-Binary.b s c.in-Binary.is (sym c.is_division.ensures ∙ c.if-is_division.true))

pub read_form-returns-in_ok-first-in-Binary-2-clause-first : goal.read_form-returns-in_ok-first-in-Binary-2-clause-first
read_form-returns-in_ok-first-in-Binary-2-clause-first t c =
    let s : Scope = scope_of c.args.names.now c.args.here c.args.locals.now in
    grind (arith, more, faults-Binary c.args.e.now c.in-Binary.operator c.in-Binary.a c.in-Binary.b s c.in-Binary.is (sym c.is_division.ensures ∙ c.if-is_division.false))

pub read_inside-returns-in_default : goal.read_inside-returns-in_default
read_inside-returns-in_default t c = record { first = after_none c.args.first _ (arguments-none c.args.e.now _ c.in_default.not-Call); same = refl }

pub read_each-loop-part-preserved : goal.read_each-loop-part-preserved
read_each-loop-part-preserved t c = let here : drop c.loop-part.part-index c.args.parts.now ≡ c.part-item.result ∷ drop (c.loop-part.part-index + 1) c.args.parts.now = grind (arith, common_steps) in record {
  parts = grind (arith, common_steps);
  first = grind (arith, common_steps, more);
  same = grind (arith, common_steps);
  small = read_step size_of_part size_of c.loop-part.done c.push.new.self (drop c.loop-part.part-index c.args.parts.now) (drop (c.loop-part.part-index + 1) c.args.parts.now) c.in_ok-read.read.part c.part-item.result _ c.in_ok-push.ensures.ok here c.in_ok-read.ensures.small c.loop-part.invariant.small;
}

pub read_arguments-loop-j-preserved : goal.read_arguments-loop-j-preserved
read_arguments-loop-j-preserved t c = let here : drop c.loop-j.j c.args.parts.now ≡ c.index-parts-j.result ∷ drop (c.loop-j.j + 1) c.args.parts.now = grind (arith, common_steps) in record {
  parts = grind (arith, common_steps);
  first = grind (arith, common_steps, more);
  same = grind (arith, common_steps);
  small = read_step size_of_part size_of c.loop-j.done c.push.new.self (drop c.loop-j.j c.args.parts.now) (drop (c.loop-j.j + 1) c.args.parts.now) c.in_ok-read.read.part c.index-parts-j.result _ c.in_ok-push.ensures.ok here c.in_ok-read.ensures.small c.loop-j.invariant.small;
  count = grind (arith, common_steps);
}

pub read_each_bind-loop-bind-preserved : goal.read_each_bind-loop-bind-preserved
read_each_bind-loop-bind-preserved t c =
    let here : drop c.loop-bind.bind-index c.args.binds.now ≡ c.bind-item.result ∷ drop (c.loop-bind.bind-index + 1) c.args.binds.now = grind (arith, common_steps) in record {
      binds = grind (arith, common_steps, bind_is c.bind-item.result);
      bound = grind (arith, common_steps, bind_is c.bind-item.result);
      first = grind (arith, common_steps, more, bind_is c.bind-item.result);
      kept = grind (arith, common_steps, kept_more);
      small =
          let bound : Bound = record { name = record { 0 = c.bind-item.result.at }; value = c.in_ok-read.read.part } in
          read_step size_of_bound size_of_bind c.loop-bind.done c.push.new.self (drop c.loop-bind.bind-index c.args.binds.now) (drop (c.loop-bind.bind-index + 1) c.args.binds.now) bound c.bind-item.result _ c.in_ok-push.ensures.ok here (bound-small bound c.bind-item.result c.in_ok-read.ensures.small) c.loop-bind.invariant.small;
    }
