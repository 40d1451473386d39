use Rattle.std.proofs.Common.{◌≡◌, ◌<◌, ◌≤◌, ℕ, List, Option, Some, None, IfSome, sym, ap, subst, ◌∙◌, arith}
use Rattle.std.specs.Option.{unwrap_or}
use Rattle.ny_list.specs.declared.chain.Standing.{Standing}
use Rattle.ny_list.specs.declared.chain.Link.{Link}
use Rattle.ny_list.specs.Chain.{home_at, nth}
use Rattle.ny_list.proofs.IndexLemmas.{same_some}
use Rattle.ny_list.proofs.ChainLemmas.{home_some}
use Rattle.ny_list.proofs.chain.find.Goals as goal

-- where the search begins
begins : (links : List (Option Link)) (l j : ℕ) (o : Option Standing) (s r : Standing) → IfSome o (λ s. (home_at links s.at ≡ nth l s.number) × (s.number ≤ j)) → (home_at links s.at ≡ nth l s.number) × (s.number ≤ j) → r ≡ unwrap_or o s → (home_at links r.at ≡ nth l r.number) × (r.number ≤ j)
begins links l j None s r known first e = subst (λ (q : Standing). (home_at links q.at ≡ nth l q.number) × (q.number ≤ j)) (sym e) first
begins links l j (Some k) s r known first e = subst (λ (q : Standing). (home_at links q.at ≡ nth l q.number) × (q.number ≤ j)) (sym e) known

pub loop-reached-init : goal.loop-reached-init
loop-reached-init c =
    let t = c.args.table.now in
    let h = c.requires.there in
    let x = c.get.result.now in
    let same = same_some (sym h.there ∙ c.get.ensures.value) in
    let from : x.span.gone ≤ c.args.number = subst (λ (q : _). q.span.gone ≤ c.args.number) same h.from in
    let below : c.args.number < x.span.filled = subst (λ (q : _). c.args.number < q.span.filled) same h.below in
    let first = c.requires.table.chain.first c.args.list x.span (ap (λ o. Rattle.std.specs.Option.option_map (λ q. q.span) o) c.get.ensures.value) (omega arith) in
    begins t.links.items c.args.list c.args.number c.known.result (record { at = x.span.first; number = x.span.gone }) c.unwrap_or-start.result
    (subst (λ links. IfSome c.known.result (λ s. (home_at links s.at ≡ nth c.args.list s.number) × (s.number ≤ c.args.number))) c.as_slice.ensures.value c.known.ensures)
    (first, from) c.unwrap_or-start.ensures

pub next_of-at-requires : goal.next_of-at-requires
next_of-at-requires c =
    rw c.as_slice-in-loop-reached.ensures.value (home_some _ _ c.loop-reached.invariant.0)

pub loop-reached-preserved : goal.loop-reached-preserved
loop-reached-preserved c =
    let t = c.args.table.now in
    let h = c.requires.there in
    let e = c.next_of-at.ensures in
    let less : c.loop-reached.reached < c.args.number = omega (arith, c.loop-reached-test.true) in
    let next = c.requires.table.chain.next c.loop-reached.at c.args.list c.loop-reached.reached h.entry.span c.loop-reached.invariant.0 (ap (λ o. Rattle.std.specs.Option.option_map (λ q. q.span) o) h.there) (omega (arith, less, h.below)) in
    (rw (e, c.as_slice-in-loop-reached.ensures.value) next, omega (arith, less))

pub returns : goal.returns
returns c =
    let e : c.loop-reached.reached ≡ c.args.number = omega (arith, c.loop-reached-test.false, c.loop-reached.invariant.1) in
    subst (λ n. home_at c.args.table.now.links.items c.loop-reached.at ≡ nth c.args.list n) e c.loop-reached.invariant.0
