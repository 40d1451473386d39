use Rattle.std.proofs.Common.{◌≡◌, ◌+◌, ◌∙◌, sym, ap, subst, length, take, drop, Some}
use Rattle.ny_list.specs.Store.{CursorState}
use Rattle.ny_list.specs.Reading.{Shows}
use Rattle.ny_filters.specs.Filtering.{Filtering, IsAfter, filtered, silent, memory_after}
use Rattle.ny_filters.specs.Stages.{filter_of, memory_of}
use Rattle.ny_filters.proofs.Filterings.{slice_is, kept_is}
use Rattle.ny_filters.proofs.Fillings.{stage_memory}
use Rattle.ny_filters.proofs.unit.FilterUnit.fill.Goals as goal

same_reader : {a b : CursorState} → Some a ≡ Some b → a ≡ b
same_reader e = cc

pub fill-requires-clause-ready : goal.fill-requires-clause-ready
fill-requires-clause-ready c = c.requires.ready c.in-Some.c (sym (ap (λ (u : Filtering). u.reader) c.self.view_is) ∙ c.in-Some.is)

pub returns-in-Some-clause-samples : goal.returns-in-Some-clause-samples
returns-in-Some-clause-samples c = λ x there xs shows after.
    let stage = c.self.inside.stage in
    let reader : x ≡ c.in-Some.c = same_reader (sym there ∙ sym (ap (λ (u : Filtering). u.reader) c.self.view_is) ∙ c.in-Some.is) in
    let heard : Shows c.args.reads.now c.in-Some.c.list xs = subst (λ (q : CursorState). Shows c.args.reads.now q.list xs) reader shows in
    let kept : memory_of stage ≡ memory_after (filter_of stage) (silent (filter_of stage)) (take c.args.from xs) = subst (λ (u : Filtering). IsAfter u xs c.args.from) (sym c.self.view_is) after in
    slice_is (filter_of stage) (memory_of stage) c.args.from (length c.args.out.now) xs c.fill.new.out (stage_memory stage c.self.invariant) kept c.fill.auto.out (c.fill.ensures.samples xs heard)
    ∙ ap (λ (u : Filtering). take (length c.args.out.now) (drop c.args.from (filtered u.filter xs))) c.self.view_is

pub returns-in-Some-clause-after : goal.returns-in-Some-clause-after
returns-in-Some-clause-after c = λ x there xs shows after.
    let stage = c.self.inside.stage in
    let reader : x ≡ c.in-Some.c = same_reader (sym there ∙ sym (ap (λ (u : Filtering). u.reader) c.self.view_is) ∙ c.in-Some.is) in
    let heard : Shows c.args.reads.now c.in-Some.c.list xs = subst (λ (q : CursorState). Shows c.args.reads.now q.list xs) reader shows in
    let kept : memory_of stage ≡ memory_after (filter_of stage) (silent (filter_of stage)) (take c.args.from xs) = subst (λ (u : Filtering). IsAfter u xs c.args.from) (sym c.self.view_is) after in
    kept_is (filter_of stage) (memory_of stage) (memory_of c.fill.new.self) c.args.from (length c.args.out.now) xs (stage_memory stage c.self.invariant) kept (c.fill.ensures.memory xs heard)
    ∙ ap (λ f. memory_after f (silent f) (take (c.args.from + length c.args.out.now) xs)) (sym c.fill.ensures.filter)
