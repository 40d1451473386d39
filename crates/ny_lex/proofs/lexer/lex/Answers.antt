use Rattle.std.proofs.Common.{◌≡◌, ◌-◌, ◌<◌, length, refl, rules}
use Rattle.ny_lex.specs.declared.fault.LexFault.TheVariants.{Bad}
use Rattle.ny_lex.specs.Spelling.{HasTokens, IsUnreadable}
use Rattle.ny_lex.proofs.Tokens.{refused-leftmost, refused-no_tokens, spells-all, spells-unique, has_tokens-in_order}
use Rattle.ny_lex.proofs.Slices.{has_tokens-alone}
use Rattle.ny_lex.proofs.lexer.lex.Goals as goal

pub returns-in-Err-clause-leftmost : goal.returns-in-Err-clause-leftmost
returns-in-Err-clause-leftmost c =
    let text = c.args.text.now in
    let rest = c.loop-rest.rest.now in
    let some : 0 < length rest = search rules in
    let place = length text - length rest in
    let here : IsUnreadable text place c.in-Err.why = (c.loop-rest.tokens.items, rest, c.loop-rest.invariant.spelled, some, c.in-Err.ensures, refl) in
    refused-leftmost text (Bad place c.in-Err.why) here

pub returns-in-Err-clause-none : goal.returns-in-Err-clause-none
returns-in-Err-clause-none c =
    let text = c.args.text.now in
    let rest = c.loop-rest.rest.now in
    let some : 0 < length rest = search rules in
    let place = length text - length rest in
    let here : IsUnreadable text place c.in-Err.why = (c.loop-rest.tokens.items, rest, c.loop-rest.invariant.spelled, some, c.in-Err.ensures, refl) in
    refused-no_tokens text (Bad place c.in-Err.why) here

pub returns-clause-only : goal.returns-clause-only
returns-clause-only c =
    let text = c.args.text.now in
    let none : length c.loop-rest.rest.now ≡ 0 = search rules in
    let has : HasTokens text c.loop-rest.tokens.items = spells-all (length text) text c.loop-rest.rest.now c.loop-rest.tokens.items c.loop-rest.invariant.spelled none in
    λ other is. spells-unique (length text) text c.loop-rest.tokens.items other has is

pub returns-clause-in_order : goal.returns-clause-in_order
returns-clause-in_order c =
    let text = c.args.text.now in
    let none : length c.loop-rest.rest.now ≡ 0 = search rules in
    let has : HasTokens text c.loop-rest.tokens.items = spells-all (length text) text c.loop-rest.rest.now c.loop-rest.tokens.items c.loop-rest.invariant.spelled none in
    has_tokens-in_order text c.loop-rest.tokens.items has

pub returns-clause-alone : goal.returns-clause-alone
returns-clause-alone c =
    let text = c.args.text.now in
    let none : length c.loop-rest.rest.now ≡ 0 = search rules in
    let has : HasTokens text c.loop-rest.tokens.items = spells-all (length text) text c.loop-rest.rest.now c.loop-rest.tokens.items c.loop-rest.invariant.spelled none in
    has_tokens-alone text c.loop-rest.tokens.items has
