-- The other side's calls that are open.
use Rattle.std.specs.Prelude.{ℕ, Bool, true, false, ◌&&◌, not, List, Option, Some, None}
use Rattle.message_ids.specs.declared.id.Id.{Id}
use Rattle.message_ids.specs.Ids.{has_id}
use Rattle.open_calls.specs.declared.their_call.TheirCall.{TheirCall}
use Rattle.number_windows.specs.Numbered.{number_of_first, changed_at}

-- how many came, and those that are open, by their numbers
pub record TheirState : Type 0 where
  pub came : ℕ
  pub calls : List (ℕ × TheirCall)

-- a call that just came
abbrev pub new_call : Option Id → ℕ → ℕ → TheirCall
new_call id place slot = record { id = id; is_cancelled = false; place = place; slot = slot }

abbrev pub cancelled : TheirCall → TheirCall
cancelled call = record call { is_cancelled = true }

-- a request with this id that no cancel has reached
abbrev pub is_reached : Id → TheirCall → Bool
is_reached id call = has_id id call.id && not call.is_cancelled

-- the number of the first of them
abbrev pub reached : Id → List (ℕ × TheirCall) → Option ℕ
reached id calls = number_of_first (λ e. is_reached id e.1) calls

-- the calls, where a cancel has reached this one
abbrev pub cancelled_at : Option ℕ → List (ℕ × TheirCall) → List (ℕ × TheirCall)
cancelled_at None calls = calls
cancelled_at (Some number) calls = changed_at number cancelled calls
