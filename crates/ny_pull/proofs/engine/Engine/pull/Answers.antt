use Rattle.std.proofs.Common.{inl, ◌+◌, ◌<◌, ◌++◌, length, take, drop, slice_get, slice_index, length-set, refl, sym, ap, subst, ◌∙◌, arith}
use Rattle.ny_pull.specs.Engine.{EngineState, with_pull}
use Rattle.ny_pull.specs.Inside.{IsEngineInside}
use Rattle.ny_pull.specs.Places.{unit_at, ReadsAt}
use Rattle.ny_pull.proofs.PlaceLemmas.{put_back}
use Rattle.ny_pull.proofs.EngineLemmas.{found_at, playing, channel_of, over_at, held_mid, held_after, few_at, few_pulls, inside_now, count_now, samples_now, some_now, size_now, spends, none_spent}
use Rattle.ny_pull.proofs.StateLemmas.{next_is, ended_at, not_ended, none_next, one_pull, stops, lacks, needs_quietly, waits_now, want_is_not_full, all_taken, same_piece, means_channels, within_pulled}
use Rattle.ny_pull.proofs.PullLemmas.{follows, fills_nothing, fills_as_planned, seated_now, finds_all_live}
use Rattle.ny_pull.proofs.PulledLemmas.{first_there, then_pulled}
use Rattle.ny_pull.proofs.engine.Engine.pull.Goals as goal

pub returns-in-Some-clause-means : goal.returns-in-Some-clause-means
returns-in-Some-clause-means c = means_channels c.self.inside.program c.self.inside.rate c.self.inside.heap c.self.inside.channels.items c.self.inside.pulled.items c.self.inside.frames c.self.inside.pulls c.self.inside.spent c.args.self.now c.self.view_is c.self.invariant

pub unit_at-requires-clause-held : goal.unit_at-requires-clause-held
unit_at-requires-clause-held c = λ s at. (channel_of c.self.inside.program c.self.inside.rate c.self.inside.heap c.self.inside.channels.items c.self.inside.pulled.items c.self.inside.frames c.self.inside.pulls c.self.inside.spent c.self.invariant c.in_default.is c.args.c s (ap (λ os. slice_get os c.args.c) (sym c.as_slice.ensures.value) ∙ at)).held

pub returns-in_default-unit_at-clause-count : goal.returns-in_default-unit_at-clause-count
returns-in_default-unit_at-clause-count c =
    let over = over_at c.self.inside.program c.self.inside.rate c.self.inside.heap c.self.inside.channels.items c.self.inside.pulled.items c.self.inside.frames c.self.inside.pulls c.self.inside.spent c.self.invariant c.in_default.is c.args.c (subst (λ (e : EngineState). c.args.c < length e.channels) (sym c.self.view_is) c.requires.channel) (ap (λ os. unit_at c.self.inside.heap os c.args.c) (sym c.as_slice.ensures.value) ∙ sym c.in_default-unit_at.ensures.unit) in
    let ended = ended_at c.self.inside.program c.self.inside.rate c.self.inside.channels.items c.self.inside.pulled.items c.self.inside.spent c.self.inside.heap c.args.self.now c.self.view_is c.args.c c.self.inside.frames c.self.inside.pulls c.self.invariant over in
    sym (ap length (none_next c.args.self.now c.args.c ended))

pub returns-in_default-unit_at-clause-samples : goal.returns-in_default-unit_at-clause-samples
returns-in_default-unit_at-clause-samples c =
    let over = over_at c.self.inside.program c.self.inside.rate c.self.inside.heap c.self.inside.channels.items c.self.inside.pulled.items c.self.inside.frames c.self.inside.pulls c.self.inside.spent c.self.invariant c.in_default.is c.args.c (subst (λ (e : EngineState). c.args.c < length e.channels) (sym c.self.view_is) c.requires.channel) (ap (λ os. unit_at c.self.inside.heap os c.args.c) (sym c.as_slice.ensures.value) ∙ sym c.in_default-unit_at.ensures.unit) in
    let ended = ended_at c.self.inside.program c.self.inside.rate c.self.inside.channels.items c.self.inside.pulled.items c.self.inside.spent c.self.inside.heap c.args.self.now c.self.view_is c.args.c c.self.inside.frames c.self.inside.pulls c.self.invariant over in
    ap (λ xs. xs ++ c.args.out.now) (sym (none_next c.args.self.now c.args.c ended))

pub returns-in_default-unit_at-clause-gives : goal.returns-in_default-unit_at-clause-gives
returns-in_default-unit_at-clause-gives c =
    let over = over_at c.self.inside.program c.self.inside.rate c.self.inside.heap c.self.inside.channels.items c.self.inside.pulled.items c.self.inside.frames c.self.inside.pulls c.self.inside.spent c.self.invariant c.in_default.is c.args.c (subst (λ (e : EngineState). c.args.c < length e.channels) (sym c.self.view_is) c.requires.channel) (ap (λ os. unit_at c.self.inside.heap os c.args.c) (sym c.as_slice.ensures.value) ∙ sym c.in_default-unit_at.ensures.unit) in
    let ended = ended_at c.self.inside.program c.self.inside.rate c.self.inside.channels.items c.self.inside.pulled.items c.self.inside.spent c.self.inside.heap c.args.self.now c.self.view_is c.args.c c.self.inside.frames c.self.inside.pulls c.self.invariant over in
    inl ended

pub returns-in_default-unit_at-clause-means : goal.returns-in_default-unit_at-clause-means
returns-in_default-unit_at-clause-means c = means_channels c.self.inside.program c.self.inside.rate c.self.inside.heap c.self.inside.channels.items c.self.inside.pulled.items c.self.inside.frames c.self.inside.pulls c.self.inside.spent c.args.self.now c.self.view_is c.self.invariant

pub drive-requires-clause-settled : goal.drive-requires-clause-settled
drive-requires-clause-settled c = (playing c.self.inside.program c.self.inside.rate c.self.inside.heap c.self.inside.channels.items c.self.inside.pulled.items c.self.inside.frames c.self.inside.pulls c.self.inside.spent c.self.invariant c.in_default.is).settled

pub invariant_of-self : goal.invariant_of-self
invariant_of-self c =
    let found = found_at c.self.inside.heap c.self.inside.channels.items c.args.c c.in-Some-unit_at.unit.0.0 (ap (λ os. unit_at c.self.inside.heap os c.args.c) (sym c.as_slice.ensures.value) ∙ sym c.in-Some-unit_at.ensures.unit) in
    let d = c.in-Err-PoolFull.ensures in
    let is = c.in-Err-PoolFull.field-0-is in
    let l = c.live.ensures in
    spends c.self.inside.program c.self.inside.rate c.self.inside.heap c.drive.new.heap c.self.inside.channels.items c.self.inside.pulled.items c.self.inside.frames c.self.inside.pulls c.self.inside.spent c.self.invariant c.in_default.is c.args.c c.in-Some-unit_at.unit.0.0 c.live.result found (d.stopped is) (d.heard is) (d.ready_still is) l.live (all_taken c.drive.new.heap c.live.result l.live l.within (d.full is))

pub returns-in-Err-PoolFull-clause-ended : goal.returns-in-Err-PoolFull-clause-ended
returns-in-Err-PoolFull-clause-ended c = λ unspent ended.
    let found = found_at c.self.inside.heap c.self.inside.channels.items c.args.c c.in-Some-unit_at.unit.0.0 (ap (λ os. unit_at c.self.inside.heap os c.args.c) (sym c.as_slice.ensures.value) ∙ sym c.in-Some-unit_at.ensures.unit) in
    absurd (not_ended c.self.inside.program c.self.inside.rate c.self.inside.channels.items c.self.inside.pulled.items c.self.inside.spent c.self.inside.heap c.args.self.now c.self.view_is c.args.c c.self.inside.frames c.self.inside.pulls c.self.invariant found.0 found.1 ended)

pub returns-in-Err-PoolFull-clause-exact : goal.returns-in-Err-PoolFull-clause-exact
returns-in-Err-PoolFull-clause-exact c = λ unspent quiet.
    let found = found_at c.self.inside.heap c.self.inside.channels.items c.args.c c.in-Some-unit_at.unit.0.0 (ap (λ os. unit_at c.self.inside.heap os c.args.c) (sym c.as_slice.ensures.value) ∙ sym c.in-Some-unit_at.ensures.unit) in
    needs_quietly c.self.inside.program c.self.inside.rate c.self.inside.channels.items c.self.inside.pulled.items c.self.inside.spent c.self.inside.heap c.args.self.now c.self.view_is c.args.c found.0 c.in-Some-unit_at.unit.0.0 found.1 found.2 c.self.invariant.laws quiet _ c.in-Err-PoolFull.ensures.exact

pub returns-in-Err-PoolFull-clause-stops : goal.returns-in-Err-PoolFull-clause-stops
returns-in-Err-PoolFull-clause-stops c = λ other unspent.
    let found = found_at c.self.inside.heap c.self.inside.channels.items c.args.c c.in-Some-unit_at.unit.0.0 (ap (λ os. unit_at c.self.inside.heap os c.args.c) (sym c.as_slice.ensures.value) ∙ sym c.in-Some-unit_at.ensures.unit) in
    let d = c.in-Err-PoolFull.ensures in
    let is = c.in-Err-PoolFull.field-0-is in
    let l = c.live.ensures in
    let walk = d.stops is in
    stops c.self.inside.program c.self.inside.rate c.self.inside.channels.items c.self.inside.pulled.items c.self.inside.spent c.self.inside.heap c.args.self.now c.self.view_is c.args.c found.0 c.in-Some-unit_at.unit.0.0 walk.0 walk.1 c.drive.new.heap _ found.1 found.2 walk.2

pub returns-in-Err-PoolFull-clause-means : goal.returns-in-Err-PoolFull-clause-means
returns-in-Err-PoolFull-clause-means c =
    let found = found_at c.self.inside.heap c.self.inside.channels.items c.args.c c.in-Some-unit_at.unit.0.0 (ap (λ os. unit_at c.self.inside.heap os c.args.c) (sym c.as_slice.ensures.value) ∙ sym c.in-Some-unit_at.ensures.unit) in
    let d = c.in-Err-PoolFull.ensures in
    let is = c.in-Err-PoolFull.field-0-is in
    let l = c.live.ensures in
    means_channels c.self.inside.program c.self.inside.rate c.drive.new.heap c.self.inside.channels.items c.self.inside.pulled.items c.self.inside.frames c.self.inside.pulls _ _ refl (spends c.self.inside.program c.self.inside.rate c.self.inside.heap c.drive.new.heap c.self.inside.channels.items c.self.inside.pulled.items c.self.inside.frames c.self.inside.pulls c.self.inside.spent c.self.invariant c.in_default.is c.args.c c.in-Some-unit_at.unit.0.0 c.live.result found (d.stopped is) (d.heard is) (d.ready_still is) l.live (all_taken c.drive.new.heap c.live.result l.live l.within (d.full is)))

pub returns-in-Err-OutOfMemory-clause-ended : goal.returns-in-Err-OutOfMemory-clause-ended
returns-in-Err-OutOfMemory-clause-ended c = λ unspent ended.
    let found = found_at c.self.inside.heap c.self.inside.channels.items c.args.c c.in-Some-unit_at.unit.0.0 (ap (λ os. unit_at c.self.inside.heap os c.args.c) (sym c.as_slice.ensures.value) ∙ sym c.in-Some-unit_at.ensures.unit) in
    absurd (not_ended c.self.inside.program c.self.inside.rate c.self.inside.channels.items c.self.inside.pulled.items c.self.inside.spent c.self.inside.heap c.args.self.now c.self.view_is c.args.c c.self.inside.frames c.self.inside.pulls c.self.invariant found.0 found.1 ended)

pub returns-in-Err-OutOfMemory-clause-exact : goal.returns-in-Err-OutOfMemory-clause-exact
returns-in-Err-OutOfMemory-clause-exact c = λ unspent quiet.
    let found = found_at c.self.inside.heap c.self.inside.channels.items c.args.c c.in-Some-unit_at.unit.0.0 (ap (λ os. unit_at c.self.inside.heap os c.args.c) (sym c.as_slice.ensures.value) ∙ sym c.in-Some-unit_at.ensures.unit) in
    needs_quietly c.self.inside.program c.self.inside.rate c.self.inside.channels.items c.self.inside.pulled.items c.self.inside.spent c.self.inside.heap c.args.self.now c.self.view_is c.args.c found.0 c.in-Some-unit_at.unit.0.0 found.1 found.2 c.self.invariant.laws quiet _ c.in-Err-OutOfMemory.ensures.exact

pub returns-in-Err-OutOfMemory-clause-waits : goal.returns-in-Err-OutOfMemory-clause-waits
returns-in-Err-OutOfMemory-clause-waits c = λ short unspent.
    waits_now c.self.inside.program c.self.inside.rate c.self.inside.channels.items c.self.inside.pulled.items c.self.inside.spent c.self.inside.heap c.args.self.now c.self.view_is c.args.c c.self.invariant.laws (λ none. want_is_not_full (sym c.in-Err-OutOfMemory.field-0-is ∙ c.in-Err-OutOfMemory.ensures.enough none))

pub returns-in-Err-OutOfMemory-clause-lacks : goal.returns-in-Err-OutOfMemory-clause-lacks
returns-in-Err-OutOfMemory-clause-lacks c = λ short unspent.
    let found = found_at c.self.inside.heap c.self.inside.channels.items c.args.c c.in-Some-unit_at.unit.0.0 (ap (λ os. unit_at c.self.inside.heap os c.args.c) (sym c.as_slice.ensures.value) ∙ sym c.in-Some-unit_at.ensures.unit) in
    let d = c.in-Err-OutOfMemory.ensures in
    let walk = d.lacks c.in-Err-OutOfMemory.field-0-is in
    lacks c.self.inside.program c.self.inside.rate c.self.inside.channels.items c.self.inside.pulled.items c.self.inside.spent c.self.inside.heap c.args.self.now c.self.view_is c.args.c found.0 c.in-Some-unit_at.unit.0.0 walk.0 walk.1 walk.2 found.1 found.2 walk.3

pub read_at-count-requires-clause-there : goal.read_at-count-requires-clause-there
read_at-count-requires-clause-there c =
    let found = found_at c.self.inside.heap c.self.inside.channels.items c.args.c c.in-Some-unit_at.unit.0.0 (ap (λ os. unit_at c.self.inside.heap os c.args.c) (sym c.as_slice.ensures.value) ∙ sym c.in-Some-unit_at.ensures.unit) in
    let d = c.in-Ok.ensures in
    (found.0, ap (λ os. slice_get os c.args.c) c.as_mut_slice.ensures.value ∙ found.1, held_mid c.self.inside.program c.self.inside.rate c.self.inside.heap c.drive.new.heap c.self.inside.channels.items c.self.inside.pulled.items c.self.inside.frames c.self.inside.pulls c.self.inside.spent c.self.invariant c.in_default.is c.args.c c.in-Some-unit_at.unit.0.0 found d.walked d.hears d.ready)

pub read_at-count-requires-clause-held : goal.read_at-count-requires-clause-held
read_at-count-requires-clause-held c = λ s to n h at passes run laws trimmed keeps.
    let found = found_at c.self.inside.heap c.self.inside.channels.items c.args.c c.in-Some-unit_at.unit.0.0 (ap (λ os. unit_at c.self.inside.heap os c.args.c) (sym c.as_slice.ensures.value) ∙ sym c.in-Some-unit_at.ensures.unit) in
    let d = c.in-Ok.ensures in
    held_after c.self.inside.program c.self.inside.rate c.self.inside.heap c.drive.new.heap c.self.inside.channels.items c.self.inside.pulled.items c.self.inside.frames c.self.inside.pulls c.self.inside.spent c.self.invariant c.in_default.is c.args.c c.in-Some-unit_at.unit.0.0 found d.walked d.hears d.ready (length c.args.out.now) n s to h (c.requires.room ∙ sym (ap (λ (e : EngineState). e.heap.block) c.self.view_is)) (ap (λ os. slice_get os c.args.c) (sym c.as_mut_slice.ensures.value) ∙ at) passes run laws trimmed keeps

pub count_at-requires-clause-few : goal.count_at-requires-clause-few
count_at-requires-clause-few c =
    let found = found_at c.self.inside.heap c.self.inside.channels.items c.args.c c.in-Some-unit_at.unit.0.0 (ap (λ os. unit_at c.self.inside.heap os c.args.c) (sym c.as_slice.ensures.value) ∙ sym c.in-Some-unit_at.ensures.unit) in
    let d = c.in-Ok.ensures in
    let reads = subst (λ os. ReadsAt c.drive.new.heap c.read_at-count.new.heap os c.read_at-count.new.channels c.args.c (length c.args.out.now) c.read_at-count.result) c.as_mut_slice.ensures.value c.read_at-count.ensures.reads in
    subst (λ ns. slice_index ns c.args.c < 172800000) (sym c.as_mut_slice-2.ensures.value) (few_at c.self.inside.program c.self.inside.rate c.self.inside.heap c.drive.new.heap c.read_at-count.new.heap c.self.inside.channels.items c.read_at-count.new.channels c.self.inside.pulled.items c.self.inside.frames c.self.inside.pulls c.self.inside.spent c.self.invariant c.in_default.is c.args.c c.in-Some-unit_at.unit.0.0 (length c.args.out.now) c.read_at-count.result found d.walked d.hears d.ready (c.requires.room ∙ sym (ap (λ (e : EngineState). e.heap.block) c.self.view_is)) reads)

pub overflow_add-self : goal.overflow_add-self
overflow_add-self c = omega (arith, few_pulls c.self.inside.program c.self.inside.rate c.self.inside.heap c.self.inside.channels.items c.self.inside.pulled.items c.self.inside.frames c.self.inside.pulls c.self.inside.spent c.self.invariant)

pub invariant_of-self-2 : goal.invariant_of-self-2
invariant_of-self-2 c =
    let found = found_at c.self.inside.heap c.self.inside.channels.items c.args.c c.in-Some-unit_at.unit.0.0 (ap (λ os. unit_at c.self.inside.heap os c.args.c) (sym c.as_slice.ensures.value) ∙ sym c.in-Some-unit_at.ensures.unit) in
    let d = c.in-Ok.ensures in
    let reads = subst (λ os. ReadsAt c.drive.new.heap c.read_at-count.new.heap os c.read_at-count.new.channels c.args.c (length c.args.out.now) c.read_at-count.result) c.as_mut_slice.ensures.value c.read_at-count.ensures.reads in
    let laws = c.program_laws.ensures in
    let seats = seated_now c.self.inside.program c.self.inside.rate c.self.inside.heap c.self.inside.channels.items c.self.inside.pulled.items c.self.inside.frames c.self.inside.pulls c.self.inside.spent c.self.invariant c.in_default.is laws.ordered laws.free laws.made laws.tall c.args.c c.in-Some-unit_at.unit.0.0 found d.walks.0 d.walks.1 c.drive.new.heap d.walks.2 c.read_at-count.new.heap c.read_at-count.new.channels (length c.args.out.now) c.read_at-count.result reads in
    let chans = put_back c.self.inside.channels.len c.read_at-count.new.channels (drop (length c.read_at-count.new.channels) c.self.inside.channels.items) (ap length reads.now ∙ (length-set c.self.inside.channels.items c.args.c reads.left ∙ (ap length (sym c.as_mut_slice.ensures.value) ∙ c.as_mut_slice.ensures.len))) in
    let told = c.count_at.ensures ∙ ap (λ ns. with_pull ns c.args.c) c.as_mut_slice-2.ensures.value in
    let counts = put_back c.self.inside.pulled.len c.count_at.new.pulled (drop (length c.count_at.new.pulled) c.self.inside.pulled.items) (ap length told ∙ (length-set c.self.inside.pulled.items c.args.c _ ∙ (ap length (sym c.as_mut_slice-2.ensures.value) ∙ c.as_mut_slice-2.ensures.len))) ∙ told in
    (subst (λ ns. IsEngineInside c.self.inside.program c.self.inside.rate c.read_at-count.new.heap (take c.self.inside.channels.len (c.read_at-count.new.channels ++ drop (length c.read_at-count.new.channels) c.self.inside.channels.items)) ns c.self.inside.frames (c.self.inside.pulls + 1) c.self.inside.spent) (sym counts) (subst (λ os. IsEngineInside c.self.inside.program c.self.inside.rate c.read_at-count.new.heap os (with_pull c.self.inside.pulled.items c.args.c) c.self.inside.frames (c.self.inside.pulls + 1) c.self.inside.spent) (sym chans) (inside_now c.self.inside.program c.self.inside.rate c.self.inside.heap c.drive.new.heap c.read_at-count.new.heap c.self.inside.channels.items c.read_at-count.new.channels c.self.inside.pulled.items c.self.inside.frames c.self.inside.pulls c.self.inside.spent c.self.invariant c.in_default.is c.args.c c.in-Some-unit_at.unit.0.0 (length c.args.out.now) c.read_at-count.result found d.walked d.hears d.ready (c.requires.room ∙ sym (ap (λ (e : EngineState). e.heap.block) c.self.view_is)) reads seats)))

pub returns-clause-count : goal.returns-clause-count
returns-clause-count c =
    let found = found_at c.self.inside.heap c.self.inside.channels.items c.args.c c.in-Some-unit_at.unit.0.0 (ap (λ os. unit_at c.self.inside.heap os c.args.c) (sym c.as_slice.ensures.value) ∙ sym c.in-Some-unit_at.ensures.unit) in
    let d = c.in-Ok.ensures in
    let reads = subst (λ os. ReadsAt c.drive.new.heap c.read_at-count.new.heap os c.read_at-count.new.channels c.args.c (length c.args.out.now) c.read_at-count.result) c.as_mut_slice.ensures.value c.read_at-count.ensures.reads in
    count_now c.self.inside.program c.self.inside.rate c.self.inside.heap c.drive.new.heap c.read_at-count.new.heap c.self.inside.channels.items c.read_at-count.new.channels c.self.inside.pulled.items c.self.inside.frames c.self.inside.pulls c.self.inside.spent c.self.invariant c.in_default.is c.args.c c.in-Some-unit_at.unit.0.0 (length c.args.out.now) c.read_at-count.result found d.walked d.hears d.ready (c.requires.room ∙ sym (ap (λ (e : EngineState). e.heap.block) c.self.view_is)) reads ∙ ap length (next_is c.self.inside.program c.self.inside.rate c.self.inside.channels.items c.self.inside.pulled.items c.self.inside.spent c.self.inside.heap c.args.self.now c.self.view_is c.args.c)

pub returns-clause-samples : goal.returns-clause-samples
returns-clause-samples c =
    let found = found_at c.self.inside.heap c.self.inside.channels.items c.args.c c.in-Some-unit_at.unit.0.0 (ap (λ os. unit_at c.self.inside.heap os c.args.c) (sym c.as_slice.ensures.value) ∙ sym c.in-Some-unit_at.ensures.unit) in
    let d = c.in-Ok.ensures in
    let reads = subst (λ os. ReadsAt c.drive.new.heap c.read_at-count.new.heap os c.read_at-count.new.channels c.args.c (length c.args.out.now) c.read_at-count.result) c.as_mut_slice.ensures.value c.read_at-count.ensures.reads in
    samples_now c.self.inside.program c.self.inside.rate c.self.inside.heap c.drive.new.heap c.read_at-count.new.heap c.self.inside.channels.items c.read_at-count.new.channels c.self.inside.pulled.items c.self.inside.frames c.self.inside.pulls c.self.inside.spent c.self.invariant c.in_default.is c.args.c c.in-Some-unit_at.unit.0.0 (length c.args.out.now) c.read_at-count.result found d.walked d.hears d.ready (c.requires.room ∙ sym (ap (λ (e : EngineState). e.heap.block) c.self.view_is)) reads c.args.out.now c.read_at-count.new.out (λ s at part w means. c.read_at-count.ensures.samples s (ap (λ os. slice_get os c.args.c) c.as_mut_slice.ensures.value ∙ at) part w means) ∙ ap (λ xs. xs ++ drop c.read_at-count.result c.args.out.now) (next_is c.self.inside.program c.self.inside.rate c.self.inside.channels.items c.self.inside.pulled.items c.self.inside.spent c.self.inside.heap c.args.self.now c.self.view_is c.args.c)

pub returns-clause-pulled : goal.returns-clause-pulled
returns-clause-pulled c =
    let found = found_at c.self.inside.heap c.self.inside.channels.items c.args.c c.in-Some-unit_at.unit.0.0 (ap (λ os. unit_at c.self.inside.heap os c.args.c) (sym c.as_slice.ensures.value) ∙ sym c.in-Some-unit_at.ensures.unit) in
    let d = c.in-Ok.ensures in
    let reads = subst (λ os. ReadsAt c.drive.new.heap c.read_at-count.new.heap os c.read_at-count.new.channels c.args.c (length c.args.out.now) c.read_at-count.result) c.as_mut_slice.ensures.value c.read_at-count.ensures.reads in
    let told = c.count_at.ensures ∙ ap (λ ns. with_pull ns c.args.c) c.as_mut_slice-2.ensures.value in
    let counts = put_back c.self.inside.pulled.len c.count_at.new.pulled (drop (length c.count_at.new.pulled) c.self.inside.pulled.items) (ap length told ∙ (length-set c.self.inside.pulled.items c.args.c _ ∙ (ap length (sym c.as_mut_slice-2.ensures.value) ∙ c.as_mut_slice-2.ensures.len))) ∙ told in
    counts ∙ one_pull c.self.inside.program c.self.inside.rate c.self.inside.channels.items c.self.inside.pulled.items c.self.inside.spent c.self.inside.heap c.args.self.now c.self.view_is c.args.c c.read_at-count.result (some_now c.self.inside.program c.self.inside.rate c.self.inside.heap c.drive.new.heap c.read_at-count.new.heap c.self.inside.channels.items c.read_at-count.new.channels c.self.inside.pulled.items c.self.inside.frames c.self.inside.pulls c.self.inside.spent c.self.invariant c.in_default.is c.args.c c.in-Some-unit_at.unit.0.0 (length c.args.out.now) c.read_at-count.result found d.walked d.hears d.ready (c.requires.room ∙ sym (ap (λ (e : EngineState). e.heap.block) c.self.view_is)) reads)

pub returns-clause-ended : goal.returns-clause-ended
returns-clause-ended c = λ unspent ended.
    let found = found_at c.self.inside.heap c.self.inside.channels.items c.args.c c.in-Some-unit_at.unit.0.0 (ap (λ os. unit_at c.self.inside.heap os c.args.c) (sym c.as_slice.ensures.value) ∙ sym c.in-Some-unit_at.ensures.unit) in
    absurd (not_ended c.self.inside.program c.self.inside.rate c.self.inside.channels.items c.self.inside.pulled.items c.self.inside.spent c.self.inside.heap c.args.self.now c.self.view_is c.args.c c.self.inside.frames c.self.inside.pulls c.self.invariant found.0 found.1 ended)

pub returns-clause-exact : goal.returns-clause-exact
returns-clause-exact c = λ unspent quiet.
    let found = found_at c.self.inside.heap c.self.inside.channels.items c.args.c c.in-Some-unit_at.unit.0.0 (ap (λ os. unit_at c.self.inside.heap os c.args.c) (sym c.as_slice.ensures.value) ∙ sym c.in-Some-unit_at.ensures.unit) in
    needs_quietly c.self.inside.program c.self.inside.rate c.self.inside.channels.items c.self.inside.pulled.items c.self.inside.spent c.self.inside.heap c.args.self.now c.self.view_is c.args.c found.0 c.in-Some-unit_at.unit.0.0 found.1 found.2 c.self.invariant.laws quiet _ c.in-Ok.ensures.exact

pub returns-clause-same : goal.returns-clause-same
returns-clause-same c =
    let found = found_at c.self.inside.heap c.self.inside.channels.items c.args.c c.in-Some-unit_at.unit.0.0 (ap (λ os. unit_at c.self.inside.heap os c.args.c) (sym c.as_slice.ensures.value) ∙ sym c.in-Some-unit_at.ensures.unit) in
    let d = c.in-Ok.ensures in
    let reads = subst (λ os. ReadsAt c.drive.new.heap c.read_at-count.new.heap os c.read_at-count.new.channels c.args.c (length c.args.out.now) c.read_at-count.result) c.as_mut_slice.ensures.value c.read_at-count.ensures.reads in
    let chans = put_back c.self.inside.channels.len c.read_at-count.new.channels (drop (length c.read_at-count.new.channels) c.self.inside.channels.items) (ap length reads.now ∙ (length-set c.self.inside.channels.items c.args.c reads.left ∙ (ap length (sym c.as_mut_slice.ensures.value) ∙ c.as_mut_slice.ensures.len))) in
    same_piece c.self.inside.program c.self.inside.rate c.self.inside.channels.items c.self.inside.pulled.items c.self.inside.spent c.self.inside.heap c.args.self.now c.self.view_is c.args.c _ _ _ c.read_at-count.new.heap (ap length chans ∙ (ap length reads.now ∙ length-set c.self.inside.channels.items c.args.c reads.left)) (size_now c.self.inside.program c.self.inside.rate c.self.inside.heap c.drive.new.heap c.read_at-count.new.heap c.self.inside.channels.items c.read_at-count.new.channels c.self.inside.pulled.items c.self.inside.frames c.self.inside.pulls c.self.inside.spent c.self.invariant c.in_default.is c.args.c c.in-Some-unit_at.unit.0.0 (length c.args.out.now) c.read_at-count.result found d.walked d.hears d.ready (c.requires.room ∙ sym (ap (λ (e : EngineState). e.heap.block) c.self.view_is)) reads).0 (size_now c.self.inside.program c.self.inside.rate c.self.inside.heap c.drive.new.heap c.read_at-count.new.heap c.self.inside.channels.items c.read_at-count.new.channels c.self.inside.pulled.items c.self.inside.frames c.self.inside.pulls c.self.inside.spent c.self.invariant c.in_default.is c.args.c c.in-Some-unit_at.unit.0.0 (length c.args.out.now) c.read_at-count.result found d.walked d.hears d.ready (c.requires.room ∙ sym (ap (λ (e : EngineState). e.heap.block) c.self.view_is)) reads).1

pub returns-clause-means : goal.returns-clause-means
returns-clause-means c =
    let found = found_at c.self.inside.heap c.self.inside.channels.items c.args.c c.in-Some-unit_at.unit.0.0 (ap (λ os. unit_at c.self.inside.heap os c.args.c) (sym c.as_slice.ensures.value) ∙ sym c.in-Some-unit_at.ensures.unit) in
    let d = c.in-Ok.ensures in
    let reads = subst (λ os. ReadsAt c.drive.new.heap c.read_at-count.new.heap os c.read_at-count.new.channels c.args.c (length c.args.out.now) c.read_at-count.result) c.as_mut_slice.ensures.value c.read_at-count.ensures.reads in
    let laws = c.program_laws.ensures in
    let seats = seated_now c.self.inside.program c.self.inside.rate c.self.inside.heap c.self.inside.channels.items c.self.inside.pulled.items c.self.inside.frames c.self.inside.pulls c.self.inside.spent c.self.invariant c.in_default.is laws.ordered laws.free laws.made laws.tall c.args.c c.in-Some-unit_at.unit.0.0 found d.walks.0 d.walks.1 c.drive.new.heap d.walks.2 c.read_at-count.new.heap c.read_at-count.new.channels (length c.args.out.now) c.read_at-count.result reads in
    let chans = put_back c.self.inside.channels.len c.read_at-count.new.channels (drop (length c.read_at-count.new.channels) c.self.inside.channels.items) (ap length reads.now ∙ (length-set c.self.inside.channels.items c.args.c reads.left ∙ (ap length (sym c.as_mut_slice.ensures.value) ∙ c.as_mut_slice.ensures.len))) in
    let told = c.count_at.ensures ∙ ap (λ ns. with_pull ns c.args.c) c.as_mut_slice-2.ensures.value in
    let counts = put_back c.self.inside.pulled.len c.count_at.new.pulled (drop (length c.count_at.new.pulled) c.self.inside.pulled.items) (ap length told ∙ (length-set c.self.inside.pulled.items c.args.c _ ∙ (ap length (sym c.as_mut_slice-2.ensures.value) ∙ c.as_mut_slice-2.ensures.len))) ∙ told in
    means_channels c.self.inside.program c.self.inside.rate c.read_at-count.new.heap _ _ c.self.inside.frames (c.self.inside.pulls + 1) c.self.inside.spent _ refl (subst (λ ns. IsEngineInside c.self.inside.program c.self.inside.rate c.read_at-count.new.heap (take c.self.inside.channels.len (c.read_at-count.new.channels ++ drop (length c.read_at-count.new.channels) c.self.inside.channels.items)) ns c.self.inside.frames (c.self.inside.pulls + 1) c.self.inside.spent) (sym counts) (subst (λ os. IsEngineInside c.self.inside.program c.self.inside.rate c.read_at-count.new.heap os (with_pull c.self.inside.pulled.items c.args.c) c.self.inside.frames (c.self.inside.pulls + 1) c.self.inside.spent) (sym chans) (inside_now c.self.inside.program c.self.inside.rate c.self.inside.heap c.drive.new.heap c.read_at-count.new.heap c.self.inside.channels.items c.read_at-count.new.channels c.self.inside.pulled.items c.self.inside.frames c.self.inside.pulls c.self.inside.spent c.self.invariant c.in_default.is c.args.c c.in-Some-unit_at.unit.0.0 (length c.args.out.now) c.read_at-count.result found d.walked d.hears d.ready (c.requires.room ∙ sym (ap (λ (e : EngineState). e.heap.block) c.self.view_is)) reads seats)))

pub returns-clause-follows : goal.returns-clause-follows
returns-clause-follows c = λ unspent.
    let found = found_at c.self.inside.heap c.self.inside.channels.items c.args.c c.in-Some-unit_at.unit.0.0 (ap (λ os. unit_at c.self.inside.heap os c.args.c) (sym c.as_slice.ensures.value) ∙ sym c.in-Some-unit_at.ensures.unit) in
    let d = c.in-Ok.ensures in
    let reads = subst (λ os. ReadsAt c.drive.new.heap c.read_at-count.new.heap os c.read_at-count.new.channels c.args.c (length c.args.out.now) c.read_at-count.result) c.as_mut_slice.ensures.value c.read_at-count.ensures.reads in
    let laws = c.program_laws.ensures in
    let seats = seated_now c.self.inside.program c.self.inside.rate c.self.inside.heap c.self.inside.channels.items c.self.inside.pulled.items c.self.inside.frames c.self.inside.pulls c.self.inside.spent c.self.invariant c.in_default.is laws.ordered laws.free laws.made laws.tall c.args.c c.in-Some-unit_at.unit.0.0 found d.walks.0 d.walks.1 c.drive.new.heap d.walks.2 c.read_at-count.new.heap c.read_at-count.new.channels (length c.args.out.now) c.read_at-count.result reads in
    let chans = put_back c.self.inside.channels.len c.read_at-count.new.channels (drop (length c.read_at-count.new.channels) c.self.inside.channels.items) (ap length reads.now ∙ (length-set c.self.inside.channels.items c.args.c reads.left ∙ (ap length (sym c.as_mut_slice.ensures.value) ∙ c.as_mut_slice.ensures.len))) in
    let told = c.count_at.ensures ∙ ap (λ ns. with_pull ns c.args.c) c.as_mut_slice-2.ensures.value in
    let counts = put_back c.self.inside.pulled.len c.count_at.new.pulled (drop (length c.count_at.new.pulled) c.self.inside.pulled.items) (ap length told ∙ (length-set c.self.inside.pulled.items c.args.c _ ∙ (ap length (sym c.as_mut_slice-2.ensures.value) ∙ c.as_mut_slice-2.ensures.len))) ∙ told in
    follows c.self.inside.program c.self.inside.rate c.read_at-count.new.heap _ _ c.self.inside.frames (c.self.inside.pulls + 1) c.self.inside.spent (subst (λ ns. IsEngineInside c.self.inside.program c.self.inside.rate c.read_at-count.new.heap (take c.self.inside.channels.len (c.read_at-count.new.channels ++ drop (length c.read_at-count.new.channels) c.self.inside.channels.items)) ns c.self.inside.frames (c.self.inside.pulls + 1) c.self.inside.spent) (sym counts) (subst (λ os. IsEngineInside c.self.inside.program c.self.inside.rate c.read_at-count.new.heap os (with_pull c.self.inside.pulled.items c.args.c) c.self.inside.frames (c.self.inside.pulls + 1) c.self.inside.spent) (sym chans) (inside_now c.self.inside.program c.self.inside.rate c.self.inside.heap c.drive.new.heap c.read_at-count.new.heap c.self.inside.channels.items c.read_at-count.new.channels c.self.inside.pulled.items c.self.inside.frames c.self.inside.pulls c.self.inside.spent c.self.invariant c.in_default.is c.args.c c.in-Some-unit_at.unit.0.0 (length c.args.out.now) c.read_at-count.result found d.walked d.hears d.ready (c.requires.room ∙ sym (ap (λ (e : EngineState). e.heap.block) c.self.view_is)) reads seats))) c.in_default.is _ refl

pub returns-clause-fills : goal.returns-clause-fills
returns-clause-fills c =
    let found = found_at c.self.inside.heap c.self.inside.channels.items c.args.c c.in-Some-unit_at.unit.0.0 (ap (λ os. unit_at c.self.inside.heap os c.args.c) (sym c.as_slice.ensures.value) ∙ sym c.in-Some-unit_at.ensures.unit) in
    let d = c.in-Ok.ensures in
    let laws = c.program_laws.ensures in
    let reads = subst (λ os. ReadsAt c.drive.new.heap c.read_at-count.new.heap os c.read_at-count.new.channels c.args.c (length c.args.out.now) c.read_at-count.result) c.as_mut_slice.ensures.value c.read_at-count.ensures.reads in
    let told = c.count_at.ensures ∙ ap (λ ns. with_pull ns c.args.c) c.as_mut_slice-2.ensures.value in
    let counts = put_back c.self.inside.pulled.len c.count_at.new.pulled (drop (length c.count_at.new.pulled) c.self.inside.pulled.items) (ap length told ∙ (length-set c.self.inside.pulled.items c.args.c _ ∙ (ap length (sym c.as_mut_slice-2.ensures.value) ∙ c.as_mut_slice-2.ensures.len))) ∙ told in
    fills_as_planned c.self.inside.program c.self.inside.rate c.self.inside.heap c.self.inside.channels.items c.self.inside.pulled.items c.self.inside.frames c.self.inside.pulls c.self.inside.spent c.self.invariant c.in_default.is laws.ordered laws.free laws.made laws.tall c.args.c c.in-Some-unit_at.unit.0.0 found d.walks.0 d.walks.1 c.drive.new.heap d.walks.2 c.read_at-count.new.heap c.read_at-count.new.channels _ _ _ (length c.args.out.now) c.read_at-count.result reads counts _ c.self.view_is

pub returns-in-Err-PoolFull-clause-finds : goal.returns-in-Err-PoolFull-clause-finds
returns-in-Err-PoolFull-clause-finds c = λ other unspent.
    let found = found_at c.self.inside.heap c.self.inside.channels.items c.args.c c.in-Some-unit_at.unit.0.0 (ap (λ os. unit_at c.self.inside.heap os c.args.c) (sym c.as_slice.ensures.value) ∙ sym c.in-Some-unit_at.ensures.unit) in
    let d = c.in-Err-PoolFull.ensures in
    let laws = c.program_laws.ensures in
    let walk = d.stops c.in-Err-PoolFull.field-0-is in
    let l = c.live.ensures in
    finds_all_live c.self.inside.program c.self.inside.rate c.self.inside.heap c.self.inside.channels.items c.self.inside.pulled.items c.self.inside.frames c.self.inside.pulls c.self.inside.spent c.self.invariant c.in_default.is laws.ordered laws.free laws.made laws.tall c.args.c c.in-Some-unit_at.unit.0.0 found walk.0 walk.1 c.drive.new.heap walk.2 (omega (arith, l.live, l.within)) _ c.self.view_is

pub returns-in_default-unit_at-clause-fills : goal.returns-in_default-unit_at-clause-fills
returns-in_default-unit_at-clause-fills c =
    let over = over_at c.self.inside.program c.self.inside.rate c.self.inside.heap c.self.inside.channels.items c.self.inside.pulled.items c.self.inside.frames c.self.inside.pulls c.self.inside.spent c.self.invariant c.in_default.is c.args.c (subst (λ (e : EngineState). c.args.c < length e.channels) (sym c.self.view_is) c.requires.channel) (ap (λ os. unit_at c.self.inside.heap os c.args.c) (sym c.as_slice.ensures.value) ∙ sym c.in_default-unit_at.ensures.unit) in
    fills_nothing c.self.inside.program c.self.inside.rate c.self.inside.heap c.self.inside.channels.items c.self.inside.pulled.items c.self.inside.frames c.self.inside.pulls c.self.inside.spent c.self.invariant c.in_default.is c.args.c (subst (λ (e : EngineState). c.args.c < length e.channels) (sym c.self.view_is) c.requires.channel) over c.args.self.now c.self.view_is

pub returns-in_default-unit_at-clause-follows : goal.returns-in_default-unit_at-clause-follows
returns-in_default-unit_at-clause-follows c = λ unspent. follows c.self.inside.program c.self.inside.rate c.self.inside.heap c.self.inside.channels.items c.self.inside.pulled.items c.self.inside.frames c.self.inside.pulls c.self.inside.spent c.self.invariant c.in_default.is c.args.self.now c.self.view_is

pub returns-in-Some-clause-follows : goal.returns-in-Some-clause-follows
returns-in-Some-clause-follows c = λ unspent. follows c.self.inside.program c.self.inside.rate c.self.inside.heap c.self.inside.channels.items c.self.inside.pulled.items c.self.inside.frames c.self.inside.pulls c.self.inside.spent c.self.invariant (ap (λ (e : EngineState). e.spent) c.self.view_is ∙ unspent) c.args.self.now c.self.view_is

pub returns-clause-order : goal.returns-clause-order
returns-clause-order c = λ order has.
    let found = found_at c.self.inside.heap c.self.inside.channels.items c.args.c c.in-Some-unit_at.unit.0.0 (ap (λ os. unit_at c.self.inside.heap os c.args.c) (sym c.as_slice.ensures.value) ∙ sym c.in-Some-unit_at.ensures.unit) in
    let d = c.in-Ok.ensures in
    let reads = subst (λ os. ReadsAt c.drive.new.heap c.read_at-count.new.heap os c.read_at-count.new.channels c.args.c (length c.args.out.now) c.read_at-count.result) c.as_mut_slice.ensures.value c.read_at-count.ensures.reads in
    then_pulled order c.args.self.now has c.args.c _ (returns-clause-same c) (returns-clause-fills c) c.read_at-count.result
    (some_now c.self.inside.program c.self.inside.rate c.self.inside.heap c.drive.new.heap c.read_at-count.new.heap c.self.inside.channels.items c.read_at-count.new.channels c.self.inside.pulled.items c.self.inside.frames c.self.inside.pulls c.self.inside.spent c.self.invariant c.in_default.is c.args.c c.in-Some-unit_at.unit.0.0 (length c.args.out.now) c.read_at-count.result found d.walked d.hears d.ready (c.requires.room ∙ sym (ap (λ (e : EngineState). e.heap.block) c.self.view_is)) reads)
    (within_pulled c.self.inside.program c.self.inside.rate c.self.inside.channels.items c.self.inside.pulled.items c.self.inside.spent c.self.inside.heap c.args.self.now c.self.view_is c.args.c c.self.inside.frames c.self.inside.pulls c.self.invariant c.requires.channel)
    (returns-clause-pulled c)

pub returns-in_default-unit_at-clause-order : goal.returns-in_default-unit_at-clause-order
returns-in_default-unit_at-clause-order c = λ order has. has

pub returns-in-Err-PoolFull-clause-first : goal.returns-in-Err-PoolFull-clause-first
returns-in-Err-PoolFull-clause-first c = λ other unspent order rest has. first_there order c.args.self.now has c.args.c rest (returns-in-Err-PoolFull-clause-finds c other unspent)

pub returns-in-Err-OutOfMemory-clause-first : goal.returns-in-Err-OutOfMemory-clause-first
returns-in-Err-OutOfMemory-clause-first c = λ other unspent order rest has. absurd (other refl)

pub returns-in-Some-clause-first : goal.returns-in-Some-clause-first
returns-in-Some-clause-first c = λ other unspent order rest has. absurd (none_spent _ _ (ap (λ (e : EngineState). e.spent) c.self.view_is ∙ unspent) c.in-Some.is)
