use Rattle.std.proofs.Common.{arith, ◌≡◌, ◌+◌, ◌∷◌, drop}
use Rattle.std.proofs.lemmas.Grind.{common_steps}
use Rattle.ny_syntax.specs.Sizes.{declaration_size}
use Rattle.ny_resolve.specs.Sizes.{declared_size}
use Rattle.ny_resolve.proofs.Earliest.{more}
use Rattle.ny_resolve.proofs.PartSizes.{read_step}
use Rattle.ny_resolve.proofs.declarations.declarations_read.Goals as goal

pub loop-i-preserved : goal.loop-i-preserved
loop-i-preserved c = let here : drop c.loop-i.i c.args.declarations.now ≡ c.index-declarations-i.result ∷ drop (c.loop-i.i + 1) c.args.declarations.now = grind (arith, common_steps) in record {
  declared = grind (arith, common_steps);
  first = grind (arith, common_steps, more);
  small = read_step declared_size declaration_size c.loop-i.done c.push.new.self (drop c.loop-i.i c.args.declarations.now) (drop (c.loop-i.i + 1) c.args.declarations.now) c.in_ok-read.read.declared c.index-declarations-i.result _ c.in_ok-push.ensures.ok here c.in_ok-read.ensures.small c.loop-i.invariant.small;
  count = grind (arith, common_steps);
}
