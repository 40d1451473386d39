use Rattle.std.proofs.Common.{rules, ◌≡◌, ◌+◌, List, length, sym, subst, arith}
use Rattle.ny_mix.specs.Mixes.{CanReadParts}
use Rattle.ny_mix.specs.declared.part.Part.{Part}
use Rattle.ny_mix.proofs.mix.Mix.fill.Goals as goal

pub fill_parts-requires-clause-ready : goal.fill_parts-requires-clause-ready
fill_parts-requires-clause-ready g c =
    let s = c.args.reads.now in
    let len = length c.args.out.now in
    let start = c.self.inside.timing.start + c.args.from in
    let ready : CanReadParts s c.self.inside.parts.items start (start + len) = rw (← c.self.view_is) at c.requires.ready in
    let same : c.deref-2.result.now ≡ c.self.inside.parts.items = search rules in
    let at : c.from.result + c.from-2.result ≡ start = omega arith in
    subst (λ n. CanReadParts s c.deref-2.result.now n (n + len)) (sym at) (subst (λ (l : List Part). CanReadParts s l start (start + len)) (sym same) ready)
