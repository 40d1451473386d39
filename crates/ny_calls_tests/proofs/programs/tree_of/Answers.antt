use Rattle.std.proofs.Common.{◌≤◌, sym, subst, List, length, arith}
use Rattle.ny_syntax.specs.declared.token.Token.{Token}
use Rattle.ny_syntax.specs.Places.{AreInOrder}
use Rattle.ny_syntax.specs.Sizes.{tree_size}
use Rattle.ny_calls_tests.proofs.programs.tree_of.Goals as goal

pub parse-requires-clause-in_order : goal.parse-requires-clause-in_order
parse-requires-clause-in_order c =
    let P : List Token → Type 0 = λ tokens. AreInOrder 0 tokens (length c.args.text.now) in
    subst P (sym c.deref.ensures.value) c.in-Ok.ensures.in_order

pub returns-in-Ok-parse : goal.returns-in-Ok-parse
returns-in-Ok-parse c =
    let P : List Token → Type 0 = λ tokens. AreInOrder 0 tokens (length c.args.text.now) in
    let in_order : P c.deref.result.now = subst P (sym c.deref.ensures.value) c.in-Ok.ensures.in_order in
    let few : tree_size c.in-Ok-parse.tree ≤ length c.args.text.now =
    c.size_laws.ensures.few c.args.text.now c.deref.result.now c.in-Ok-parse.tree (length c.args.text.now) c.in-Ok-parse.ensures.tree in_order in
    omega arith
