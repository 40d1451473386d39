use Rattle.std.proofs.Common.{◌≡◌, ◌++◌, take, drop, sym, subst, ◌∙◌}
use Rattle.ny_heap.specs.Heap.{list_of, place_of}
use Rattle.ny_heap.specs.Means.{sound_in}
use Rattle.ny_heap.specs.declared.sound.Sound.{Sound as SoundOf}
use Rattle.ny_pull.proofs.PlaceLemmas.{got, got_same}
use Rattle.ny_pull.proofs.EngineLemmas.{set_twice}
use Rattle.ny_pull.proofs.engine.read_at.Goals as goal

pub left-requires-clause-held : goal.left-requires-clause-held
left-requires-clause-held c =
    let at = got c.args.channels.now c.args.c c.index-channels-c.result c.in-Some.sound c.requires.within (sym c.take.ensures.value ∙ c.in-Some.is) in
    let r = c.read-count.ensures in
    c.requires.held c.in-Some.sound c.read-count.new.s c.read-count.result c.read-count.new.self at r.passes r.count r.laws r.trimmed r.keeps

pub returns-clause-reads : goal.returns-clause-reads
returns-clause-reads c =
    let at = got c.args.channels.now c.args.c c.index-channels-c.result c.in-Some.sound c.requires.within (sym c.take.ensures.value ∙ c.in-Some.is) in
    let r = c.read-count.ensures in
    record {
      sound = c.in-Some.sound;
      was = at;
      to = c.read-count.new.s;
      passes = r.passes;
      run = r.count;
      read = c.read-count.new.self;
      reads = r.trimmed;
      read_laws = r.laws;
      read_keeps = r.keeps;
      left = c.left.result;
      leaves = c.left.ensures.left;
      laws = c.left.ensures.laws;
      keeps = c.left.ensures.keeps;
      now = set_twice c.args.channels.now c.args.c c.take.new.self c.left.result;
    }

pub returns-clause-samples : goal.returns-clause-samples
returns-clause-samples c = λ s is part w means.
    let same = got_same c.args.channels.now c.args.c c.index-channels-c.result c.in-Some.sound s c.requires.within (sym c.take.ensures.value ∙ c.in-Some.is) is in
    subst (λ (q : SoundOf). c.read-count.new.out ≡ take c.read-count.result (drop (place_of q) (sound_in w.samples (list_of q) q.timing).samples) ++ drop c.read-count.result c.args.out.now) same (c.read-count.ensures.samples part w means)
