use Rattle.std.proofs.Common.{◌≡◌, ◌≤◌, ◌<◌, ℕ, false, ◌++◌, drop, get_or, vec_len, vec_capacity}
use Rattle.std.specs.Mem.Slots.{slots_items, slots_len, slots_filled}
use Rattle.std.specs.Mem.Slots.Ownership.{Filled}
use Rattle.job_slots.specs.Inner.Kept.{kept}
use Rattle.job_slots.proofs.closing.gather.Given as goal

-- the values from this slot on are still there, and the jobs of the slots before it are in the room
abbrev pub invariant-loop-slot : goal.invariant-loop-slot
invariant-loop-slot g l = record {
  words : l.closed.words ≡ l.initial.closed.words;
  slots : (slots_items l.closed.slots ≡ slots_items l.initial.closed.slots) × (slots_len l.closed.slots ≡ slots_len l.initial.closed.slots);
  left : Filled (slots_filled l.closed.slots) l.slot (slots_len l.closed.slots);
  taken : (k : ℕ) → k < l.slot → get_or (slots_filled l.closed.slots) k false ≡ false;
  roomy : (vec_len l.room ≤ l.slot) × (slots_len l.closed.slots ≤ vec_capacity l.room);
  jobs : l.room.items ++ kept (drop l.slot (slots_items l.initial.closed.words)) (drop l.slot (slots_items l.initial.closed.slots)) ≡ kept (slots_items l.initial.closed.words) (slots_items l.initial.closed.slots);
}
