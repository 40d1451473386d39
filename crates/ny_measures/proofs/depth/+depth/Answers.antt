use Rattle.std.proofs.Common.{◌≡◌, ℕ, ◌+◌, [], ◌∷◌, ◌++◌, drop, take, length, map, List, ap, ◌∙◌, arith}
use Rattle.std.proofs.lemmas.Grind.{common_steps}
use Rattle.ny_scope.proofs.Kept.{kept_more}
use Rattle.ny_resolve.specs.declared.term.NameId.{NameId}
use Rattle.ny_resolve.specs.declared.term.Part.{Part}
use Rattle.ny_measures.specs.Counts.{capped}
use Rattle.ny_measures.specs.Depth.{greatest, depth_of, depth_of_bind, scope_of, names_after, binds_depth}
use Rattle.ny_measures.proofs.Depths.{arm-Local, arm-Call, arm-Repeat, binds_step}
use Rattle.ny_measures.proofs.depth.+depth.Goals as goal

pub depth-returns-in-Local-clause-value : goal.depth-returns-in-Local-clause-value
depth-returns-in-Local-clause-value t c = λ vs ds h k. arm-Local c.args.e.now c.in-Local.x vs c.args.values.now ds c.value_of.result c.max.result c.in-Local.is h c.value_of.ensures c.max.ensures

pub depth-returns-in_ok-arguments-in-Call-clause-value : goal.depth-returns-in_ok-arguments-in-Call-clause-value
depth-returns-in_ok-arguments-in-Call-clause-value t c = λ vs ds h k.
    c.sum-in-Call.ensures.value ∙ ap (λ (n : ℕ). capped (n + c.known_of.result)) c.sum.ensures.value
    ∙ arm-Call c.args.e.now c.in-Call.number c.in-Call.parts vs c.args.known.now ds c.in_ok-arguments-in-Call.arguments c.known_of.result c.in-Call.is k
    (c.in_ok-arguments-in-Call.ensures.value vs ds h k ∙ ap (λ (es : List Part). capped (greatest (map depth_of es) (scope_of vs ds))) c.as_slice.ensures) c.known_of.ensures

pub depth-returns-in_ok-part-in-Repeat-clause-value : goal.depth-returns-in_ok-part-in-Repeat-clause-value
depth-returns-in_ok-part-in-Repeat-clause-value t c = λ vs ds h k.
    c.sum-in-Repeat.ensures.value
    ∙ arm-Repeat c.args.e.now c.in-Repeat.field-0 c.in-Repeat.x c.in-Repeat.field-2 c.in-Repeat.part vs c.args.values.now c.bind.new.self ds c.in_ok-part-in-Repeat.part c.max-in-Repeat.result c.in-Repeat.is h
    c.in_ok-bind-in-Repeat.ensures.bound
    (λ us e. c.in_ok-part-in-Repeat.ensures.value us ds e k ∙ ap (λ (b : Part). capped (depth_of b (scope_of us ds))) c.get-in-Repeat.ensures)
    c.max-in-Repeat.ensures

pub binds_depth-loop-bind-preserved : goal.binds_depth-loop-bind-preserved
binds_depth-loop-bind-preserved t c =
    let here : drop c.loop-bind.bind-index c.args.binds.now ≡ c.bind-item.result ∷ drop (c.loop-bind.bind-index + 1) c.args.binds.now = grind (arith, common_steps) in
    let pushed : c.bind.new.self ≡ c.loop-bind.values ++ (c.bind-item.result.name, c.in_ok-depth.depth) ∷ [] = c.in_ok-bind.ensures.bound ∙ ap (λ (w : List (NameId × ℕ)). w ++ (c.bind-item.result.name, c.in_ok-depth.depth) ∷ []) c.in_ok-depth.ensures.same in
    record {
      value = λ vs ds h k.
          binds_step (drop c.loop-bind.bind-index c.args.binds.now) (drop (c.loop-bind.bind-index + 1) c.args.binds.now) c.bind-item.result c.loop-bind.values c.bind.new.self c.loop-bind.most c.max-most.result c.in_ok-depth.depth ds
          (names_after (map depth_of_bind c.args.binds.now) (scope_of vs ds)) (capped (binds_depth (map depth_of_bind c.args.binds.now) (scope_of vs ds)))
          here pushed c.max-most.ensures
          (λ us e. c.in_ok-depth.ensures.value us ds e k) (c.loop-bind.invariant.value vs ds h k);
      kept = ap (take (length c.args.values.now)) pushed ∙ kept_more c.args.values.now c.loop-bind.values ((c.bind-item.result.name, c.in_ok-depth.depth) ∷ []) c.loop-bind.invariant.kept;
    }
