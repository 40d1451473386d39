use Rattle.std.proofs.Common.{◌≡◌, ◌<◌, ◌^◌, ◌-◌, arith}
use Rattle.std.proofs.lemmas.Grind.{common_steps}
use Rattle.std.proofs.Math.Nat.{pow-zero}
use Rattle.ny_num.proofs.Places.{places-at, rest-at, written-more, written-whole}
use Rattle.ny_num.proofs.decimal.push_places.Goals as goal

pub loop-place-preserved : goal.loop-place-preserved
loop-place-preserved c =
    let place = c.loop-place.place in
    let rest = c.loop-place.rest in
    let worth = c.pow-worth.result in
    record {
      within = rest-at place rest worth (omega arith) c.pow-worth.ensures;
      same = written-more _ _ _ _ _ _
          (grind (arith, common_steps))
          (places-at place rest worth (omega arith) (omega arith) c.loop-place.invariant.within c.pow-worth.ensures)
          c.loop-place.invariant.same;
    }

pub returns-after-loop-place : goal.returns-after-loop-place
returns-after-loop-place c =
    let over : 6 - c.loop-place.place ≡ 0 = omega arith in
    let within : c.loop-place.rest < 10 ^ 0 = rw over at c.loop-place.invariant.within in
    written-whole _ _ _ _ _ _ (omega arith) (omega (arith, pow-zero 10)) (grind (arith, common_steps)) c.loop-place.invariant.same

pub returns-then-rest-eq0 : goal.returns-then-rest-eq0
returns-then-rest-eq0 c =
    written-whole _ _ _ _ _ _ (omega arith) c.if-rest-eq0.true (grind (arith, common_steps)) c.loop-place.invariant.same
