use Rattle.std.proofs.Common.{◌≡◌, ◌∙◌, ◌<◌, ◌≤◌, ◌-◌, sym, ap, subst, length, take, drop}
use Rattle.ny_list.specs.Store.{run_of}
use Rattle.ny_list.specs.Laws.{StoreLaws}
use Rattle.ny_list.proofs.ReadLemmas.{run_some, run_seen_few, run_shown}
use Rattle.ny_list.proofs.reads.Reads.run.Goals as goal

pub returns : goal.returns
returns c =
    let samples : c.run_from.result.now ≡ run_of c.args.self.now c.args.c.now c.args.from =
    c.run_from.ensures.samples ∙ ap (λ s. run_of s c.args.c.now c.args.from) c.self.view_is in
    let laws : StoreLaws c.args.self.now = subst StoreLaws c.self.view_is c.run_from.ensures.laws in
    record {
      samples = samples;
      some = λ computed seen. subst (λ ys. 0 < length ys) (sym samples) (run_some c.args.self.now c.args.c.now c.args.from laws c.requires.stands c.requires.ahead computed seen);
      seen = subst (λ ys. length ys ≤ c.args.c.now.visible - c.args.from) (sym samples) (run_seen_few c.args.self.now c.args.c.now c.args.from);
      shown = λ xs shows. subst (λ ys. ys ≡ take (length ys) (drop c.args.from xs)) (sym samples) (run_shown c.args.self.now c.args.c.now c.args.from xs shows);
    }
