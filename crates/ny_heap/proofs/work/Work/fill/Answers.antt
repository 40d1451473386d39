use Rattle.std.proofs.Common.{ℕ, ◌+◌, length, sym, ap, subst, ◌∙◌}
use Rattle.ny_kernels.specs.Operations.{operation}
use Rattle.ny_num.specs.Numbers.{sample_abs}
use Rattle.ny_units.specs.Playing.{leaf_value}
use Rattle.ny_units.specs.Inputs.{start_of}
use Rattle.ny_num.specs.Mix.{sum_at}
use Rattle.ny_mix.specs.Mixes.{sounds_of}
use Rattle.ny_heap.specs.declared.work.Work.{Work}
use Rattle.ny_heap.specs.declared.work.Work.TheVariants.{Resample as ResampleWork, Filter as FilterWork}
use Rattle.ny_heap.specs.Work.{CanWork, MovesOn, Recalls, work_value, heard_in}
use Rattle.ny_heap.proofs.WorkLemmas.{read_to, parts_to, shows_input, sample_of, sample_at, filter_sample, filter_recalls, filter_moves, resample_sample, resample_recalls, resample_moves}
use Rattle.ny_heap.proofs.work.Work.fill.Goals as goal

pub fill-requires-in-Pair-clause-left : goal.fill-requires-in-Pair-clause-left
fill-requires-in-Pair-clause-left c =
    read_to c.args.reads.now c.in-Pair.unit.left c.in-Pair.unit.start c.args.from (length c.args.out.now)
    (subst (λ (w : Work). CanWork c.args.reads.now w c.args.from (c.args.from + length c.args.out.now)) c.in-Pair.is c.requires.ready).0

pub fill-requires-in-Pair-clause-right : goal.fill-requires-in-Pair-clause-right
fill-requires-in-Pair-clause-right c =
    read_to c.args.reads.now c.in-Pair.unit.right c.in-Pair.unit.start c.args.from (length c.args.out.now)
    (subst (λ (w : Work). CanWork c.args.reads.now w c.args.from (c.args.from + length c.args.out.now)) c.in-Pair.is c.requires.ready).1

pub fill-requires-in-Abs : goal.fill-requires-in-Abs
fill-requires-in-Abs c = record {
  ready =
      read_to c.args.reads.now c.in-Abs.unit (start_of c.in-Abs.unit) c.args.from (length c.args.out.now)
      (subst (λ (w : Work). CanWork c.args.reads.now w c.args.from (c.args.from + length c.args.out.now)) c.in-Abs.is c.requires.ready);
}

pub fill-requires-in-Channel : goal.fill-requires-in-Channel
fill-requires-in-Channel c = record {
  ready =
      read_to c.args.reads.now c.in-Channel.unit.input c.in-Channel.unit.start c.args.from (length c.args.out.now)
      (subst (λ (w : Work). CanWork c.args.reads.now w c.args.from (c.args.from + length c.args.out.now)) c.in-Channel.is c.requires.ready);
}

pub fill-requires-in-Mix : goal.fill-requires-in-Mix
fill-requires-in-Mix c = record {
  ready =
      parts_to c.args.reads.now c.in-Mix.mix c.args.from (length c.args.out.now)
      (subst (λ (w : Work). CanWork c.args.reads.now w c.args.from (c.args.from + length c.args.out.now)) c.in-Mix.is c.requires.ready);
}

pub returns-in-Leaf-clause-samples : goal.returns-in-Leaf-clause-samples
returns-in-Leaf-clause-samples c = λ whole shows k inside.
    sample_at (leaf_value c.in-Leaf.unit.leaf) c.args.from (length c.args.out.now) k c.fill.new.out c.fill.ensures.samples inside
    ∙ ap (λ (w : Work). work_value w whole c.args.from (c.args.from + k)) (sym c.in-Leaf.is)

pub returns-in-Pair-clause-samples : goal.returns-in-Pair-clause-samples
returns-in-Pair-clause-samples c = λ whole shows k inside.
    let p = c.in-Pair.unit in
    sample_of (λ m. operation p.op (heard_in whole p.left m) (heard_in whole p.right m)) p.start c.args.from (length c.args.out.now) k c.fill-in-Pair.new.out
    (c.fill-in-Pair.ensures.samples _ _ (shows_input c.args.reads.now whole p.left shows) (shows_input c.args.reads.now whole p.right shows)) inside
    ∙ ap (λ (w : Work). work_value w whole c.args.from (c.args.from + k)) (sym c.in-Pair.is)

pub returns-in-Abs-clause-samples : goal.returns-in-Abs-clause-samples
returns-in-Abs-clause-samples c = λ whole shows k inside.
    let s = c.in-Abs.unit in
    sample_of (λ m. sample_abs (heard_in whole s m)) (start_of s) c.args.from (length c.args.out.now) k c.fill-in-Abs.new.out
    (c.fill-in-Abs.ensures.samples _ (shows_input c.args.reads.now whole s shows)) inside
    ∙ ap (λ (w : Work). work_value w whole c.args.from (c.args.from + k)) (sym c.in-Abs.is)

pub returns-in-Channel-clause-samples : goal.returns-in-Channel-clause-samples
returns-in-Channel-clause-samples c = λ whole shows k inside.
    let p = c.in-Channel.unit in
    sample_of (heard_in whole p.input) p.start c.args.from (length c.args.out.now) k c.fill-in-Channel.new.out
    (c.fill-in-Channel.ensures.samples _ (shows_input c.args.reads.now whole p.input shows)) inside
    ∙ ap (λ (w : Work). work_value w whole c.args.from (c.args.from + k)) (sym c.in-Channel.is)

pub returns-in-Mix-clause-samples : goal.returns-in-Mix-clause-samples
returns-in-Mix-clause-samples c = λ whole shows k inside.
    let m = c.in-Mix.mix in
    sample_of (sum_at (sounds_of m.timing.rate whole m.parts)) m.timing.start c.args.from (length c.args.out.now) k c.fill-in-Mix.new.out
    (c.fill-in-Mix.ensures.samples whole (λ i c inside is. shows c.list)) inside
    ∙ ap (λ (w : Work). work_value w whole c.args.from (c.args.from + k)) (sym c.in-Mix.is)

pub returns-in-Filter-clause-moves : goal.returns-in-Filter-clause-moves
returns-in-Filter-clause-moves c =
    let u = c.in-Filter.unit in
    let v = c.fill-in-Filter.new.self in
    let n : ℕ = c.args.from + length c.args.out.now in
    subst (λ (w : Work). MovesOn w (FilterWork v c.in-Filter.field-1) n) (sym c.in-Filter.is)
    (filter_moves u v c.in-Filter.field-1 n c.fill-in-Filter.ensures.filter c.fill-in-Filter.ensures.reader)

pub returns-in-Filter-clause-recalls : goal.returns-in-Filter-clause-recalls
returns-in-Filter-clause-recalls c = λ whole shows.
    let u = c.in-Filter.unit in
    let v = c.fill-in-Filter.new.self in
    let n : ℕ = length c.args.out.now in
    let can = subst (λ (w : Work). CanWork c.args.reads.now w c.args.from (c.args.from + n)) c.in-Filter.is c.requires.ready in
    subst (λ (w : Work). Recalls w (FilterWork v c.in-Filter.field-1) whole c.args.from n) (sym c.in-Filter.is)
    (filter_recalls c.args.reads.now whole shows u c.in-Filter.field-1 c.args.from n can v c.fill-in-Filter.ensures.keeps)

pub returns-in-Filter-clause-samples : goal.returns-in-Filter-clause-samples
returns-in-Filter-clause-samples c = λ whole shows k inside.
    let u = c.in-Filter.unit in
    let n : ℕ = length c.args.out.now in
    let can = subst (λ (w : Work). CanWork c.args.reads.now w c.args.from (c.args.from + n)) c.in-Filter.is c.requires.ready in
    filter_sample c.args.reads.now whole shows u c.in-Filter.field-1 c.args.from n can k c.fill-in-Filter.new.out c.fill-in-Filter.ensures.rest inside
    ∙ ap (λ (w : Work). work_value w whole c.args.from (c.args.from + k)) (sym c.in-Filter.is)

pub returns-in-Resample-clause-moves : goal.returns-in-Resample-clause-moves
returns-in-Resample-clause-moves c =
    let v = c.fill-in-Resample.new.self in
    let n : ℕ = c.args.from + length c.args.out.now in
    let e = c.fill-in-Resample.ensures in
    subst (λ (w : Work). MovesOn w (ResampleWork v) n) (sym c.in-Resample.is) (resample_moves c.in-Resample.unit v n e.from e.to e.reader e.given)

pub returns-in-Resample-clause-recalls : goal.returns-in-Resample-clause-recalls
returns-in-Resample-clause-recalls c = λ whole shows.
    let v = c.fill-in-Resample.new.self in
    let n : ℕ = length c.args.out.now in
    let can = subst (λ (w : Work). CanWork c.args.reads.now w c.args.from (c.args.from + n)) c.in-Resample.is c.requires.ready in
    subst (λ (w : Work). Recalls w (ResampleWork v) whole c.args.from n) (sym c.in-Resample.is)
    (resample_recalls c.args.reads.now whole shows c.in-Resample.unit c.args.from n can.0 v c.fill-in-Resample.ensures.before c.fill-in-Resample.ensures.after)

pub returns-in-Resample-clause-samples : goal.returns-in-Resample-clause-samples
returns-in-Resample-clause-samples c = λ whole shows k inside.
    let n : ℕ = length c.args.out.now in
    let can = subst (λ (w : Work). CanWork c.args.reads.now w c.args.from (c.args.from + n)) c.in-Resample.is c.requires.ready in
    resample_sample c.args.reads.now whole shows c.in-Resample.unit c.args.from n can.0 k c.fill-in-Resample.new.out c.fill-in-Resample.ensures.rest inside
    ∙ ap (λ (w : Work). work_value w whole c.args.from (c.args.from + k)) (sym c.in-Resample.is)
