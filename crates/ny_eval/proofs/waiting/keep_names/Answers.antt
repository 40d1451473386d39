use Rattle.std.proofs.Common.{rules, ◌<◌, length, drop, arith}
use Rattle.std.proofs.lemmas.List.{drop_all}
use Rattle.ny_hands.proofs.HeldLemmas.{names_later}
use Rattle.ny_eval.specs.Framed.{names_in}
use Rattle.ny_eval.proofs.WaitingLemmas.{kept_none, kept_step, kept_all}
use Rattle.ny_eval.proofs.waiting.keep_names.Goals as goal

pub loop-x-init : goal.loop-x-init
loop-x-init c = record {
  so_far = kept_none (names_in c.args.frame.now) c.args.free.now c.args.heap.now c.args.names.now.items c.args.sounds.now.items c.requires.no_names c.requires.no_sounds c.lawful.ensures;
  names_len = omega arith;
  names_capacity = search rules;
  sounds_len = omega arith;
  sounds_capacity = search rules;
}

pub keep_name-requires-clause-names_room : goal.keep_name-requires-clause-names_room
keep_name-requires-clause-names_room c =
    let less : c.loop-x.x-index < length c.args.free.now = omega arith in
    omega (arith, less, c.loop-x.invariant.names_len, c.loop-x.invariant.names_capacity, c.requires.names_room)

pub keep_name-requires-clause-sounds_room : goal.keep_name-requires-clause-sounds_room
keep_name-requires-clause-sounds_room c =
    let less : c.loop-x.x-index < length c.args.free.now = omega arith in
    omega (arith, less, c.loop-x.invariant.sounds_len, c.loop-x.invariant.sounds_capacity, c.requires.sounds_room)

pub keep_name-requires-clause-held : goal.keep_name-requires-clause-held
keep_name-requires-clause-held c = names_later c.args.heap.now c.loop-x.heap c.loop-x.sounds.items (names_in c.args.frame.now) c.lawful.ensures c.loop-x.invariant.so_far.hand c.requires.held

pub loop-x-preserved : goal.loop-x-preserved
loop-x-preserved c =
    let less : c.loop-x.x-index < length c.args.free.now = omega arith in
    let held = names_later c.args.heap.now c.loop-x.heap c.loop-x.sounds.items (names_in c.args.frame.now) c.lawful.ensures c.loop-x.invariant.so_far.hand c.requires.held in
    record {
      so_far = kept_step (names_in c.args.frame.now) c.args.free.now c.loop-x.x-index (record { 0 = 0 }) c.args.heap.now c.loop-x.heap c.keep_name.new.heap c.loop-x.names.items c.keep_name.new.names.items c.loop-x.sounds.items c.keep_name.new.sounds.items less held c.loop-x.invariant.so_far (search rules);
      names_len = omega (arith, c.loop-x.invariant.names_len, c.keep_name.ensures.names_len);
      names_capacity = search rules;
      sounds_len = omega (arith, c.loop-x.invariant.sounds_len, c.keep_name.ensures.sounds_len);
      sounds_capacity = search rules;
    }

pub returns-clause-keeps : goal.returns-clause-keeps
returns-clause-keeps c =
    kept_all (names_in c.args.frame.now) c.args.free.now (drop c.loop-x.x-index c.args.free.now) c.args.heap.now c.loop-x.heap c.loop-x.names.items c.loop-x.sounds.items (drop_all c.loop-x.x-index c.args.free.now (omega arith)) c.loop-x.invariant.so_far
