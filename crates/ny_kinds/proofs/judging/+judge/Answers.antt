use Rattle.std.proofs.Common.{◌≡◌, ◌≤◌, ◌<◌, ◌+◌, ◌*◌, ◌++◌, ◌∷◌, [], List, Option, ap, ◌∙◌, arith, take, length, vec_len}
use Rattle.ny_scope.proofs.Kept.{kept_more}
use Rattle.ny_resolve.specs.declared.term.NameId.{NameId}
use Rattle.ny_kinds.specs.declared.kind.Kind.{Kind}
use Rattle.ny_resolve.specs.declared.term.Part.{Part}
use Rattle.ny_kinds.specs.Kinds.{named_kind, kind_of, scope_of}
use Rattle.ny_kinds.proofs.Heights.{body-falls}
use Rattle.ny_kinds.proofs.Joined.{binds-step, arm-Repeat}
use Rattle.ny_kinds.proofs.judging.+judge.Goals as goal

pub body_found-judge_body-requires : goal.body_found-judge_body-requires
body_found-judge_body-requires t c =
    (omega (arith, body-falls c.args.ds.now c.args.number c.args.here (omega arith), c.decreases), (omega arith, c.requires.known))

pub body_found-returns-in-Err-clause-missing : goal.body_found-returns-in-Err-clause-missing
body_found-returns-in-Err-clause-missing t c = c.called_from.ensures c.args.limits.most c.args.here (omega arith) c.in-Err.ensures.missing

pub judge-returns-in_ok-part-in-Repeat-clause-found : goal.judge-returns-in_ok-part-in-Repeat-clause-found
judge-returns-in_ok-part-in-Repeat-clause-found t c =
    arm-Repeat c.args.e.now c.in-Repeat.field-0 c.in-Repeat.x c.in-Repeat.field-2 c.in-Repeat.part c.args.ds.now c.args.here c.args.values.now c.bind.new.self
    c.in_ok-part-in-Repeat.part c.sound_row.result c.judged-in-Repeat.result c.in-Repeat.is c.in_ok-bind-in-Repeat.ensures.bound
    (c.in_ok-part-in-Repeat.ensures.found ∙ ap (λ (p : Part). kind_of p (scope_of c.bind.new.self c.args.ds.now c.args.here)) c.get-in-Repeat.ensures) c.sound_row.ensures c.judged-in-Repeat.ensures

pub judge_binds-loop-bind-preserved : goal.judge_binds-loop-bind-preserved
judge_binds-loop-bind-preserved t c =
    let name : NameId = c.bind-item.result.name in
    let outer : List (NameId × Option Kind) = c.args.values.now in
    let named : c.bind.new.self ≡ c.loop-bind.values ++ (name, named_kind c.in_ok-found.found.kind) ∷ [] =
    c.in_ok-bind.ensures.bound ∙ ap (λ (vs : List (NameId × Option Kind)). vs ++ (name, c.named_kind.result) ∷ []) c.in_ok-found.ensures.same
    ∙ ap (λ (k : Option Kind). c.loop-bind.values ++ (name, k) ∷ []) c.named_kind.ensures in
    record {
      binds = binds-step c.args.binds.now c.loop-bind.bind-index c.bind-item.result c.args.ds.now c.args.here c.loop-bind.values c.bind.new.self
          c.loop-bind.kinds.items c.push.new.self.items c.loop-bind.fault c.least-fault.result c.in_ok-found.found _ c.loop-bind-test.true c.bind-item.is
          c.in_ok-found.ensures.found c.least-fault.ensures named c.in_ok-push.ensures.items c.loop-bind.invariant.binds;
      outer = ap (take (length outer)) named ∙ kept_more outer c.loop-bind.values _ c.loop-bind.invariant.outer;
      known = c.in_ok-found.ensures.known;
      kept = omega (arith, c.loop-bind.invariant.kept, c.in_ok-found.ensures.kept);
    }
