use Rattle.std.proofs.Common.{◌≡◌, ◌≤◌, ◌+◌, ◌++◌, None, replicate, vec_len, vec_capacity}
use Rattle.ny_pool.specs.Vacant.{AreVacant}
use Rattle.ny_pool.proofs.slots.Slots.reserve.Given as goal

abbrev pub invariant-loop-added : goal.invariant-loop-added
invariant-loop-added g l =
    (l.self-inside.slots.items ≡ l.initial.self-inside.slots.items ++ replicate l.added None)
    × (vec_len l.self-inside.slots ≡ l.length + l.added)
    × (vec_len l.self-inside.vacant ≡ l.spare + l.added)
    × (l.length + l.more ≤ vec_capacity l.self-inside.slots)
    × (l.length + l.more ≤ vec_capacity l.self-inside.vacant)
    × AreVacant l.self-inside.slots.items l.self-inside.vacant.items (vec_capacity l.self-inside.vacant)
