-- What may become of a past, event by event.
use Rattle.std.specs.Prelude.{ℕ, ◌+◌, ◌==◌, List, [], ◌∷◌, ◌++◌, map, Some, None, if◌then◌else◌}
use Rattle.rpc_messages.specs.Numbering.{units_numbers}
use Rattle.rpc_messages.specs.Unit.{SeenUnit}
use Rattle.peer_output.specs.Course.{Sending, Course}
use Rattle.peer_output.specs.Items.{sent, answered}
use Rattle.peer_output.specs.Past.{Past, dues_of}

-- at the start
abbrev pub no_past : Past
no_past = record { released = []; left = []; sends = λ n. []; took = λ n. None; items = [] }

-- the value of one number, and as before of the others
abbrev pub with_at : {A : Type 0} → ℕ → A → (ℕ → A) → ℕ → A
with_at n a f m = if n == m then a else f m

-- units came
abbrev pub with_units : Past → List SeenUnit → Past
with_units past units = record past { left = past.left ++ units }

-- a number has sent all this by now
abbrev pub with_sends : Past → ℕ → List Sending → Past
with_sends past n sends = record past { sends = with_at n sends past.sends }

-- a number is finished, with this course
abbrev pub with_course : Past → ℕ → Course → Past
with_course past n c = record past { sends = with_at n c.sends past.sends; took = with_at n (Some c) past.took }

-- a sending was written
abbrev pub with_sent : Past → ℕ → Sending → Past
with_sent past n s = record past { items = past.items ++ sent n s ∷ [] }

-- the answers of the next units were written, and these are left
abbrev pub with_released : Past → List SeenUnit → List SeenUnit → Past
with_released past units left = record past {
  released = past.released ++ units;
  left = left;
  items = past.items ++ map answered (dues_of past.took (1 + units_numbers past.released) units);
}
