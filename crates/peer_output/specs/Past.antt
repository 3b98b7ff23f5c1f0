-- What a peer has done so far with its stream, whatever may yet come.
use Rattle.std.specs.Prelude.{◌≡◌, ℕ, ◌+◌, ◌<◌, List, [], ◌∷◌, ◌++◌, All, Bool, Option, Some, None}
use Rattle.serde_json.specs.Data.{null}
use Rattle.rpc_messages.specs.Dues.{Due, dues, unit_requests}
use Rattle.rpc_messages.specs.Entry.{SeenEntry}
use Rattle.rpc_messages.specs.Numbering.{unit_numbers, units_numbers}
use Rattle.rpc_messages.specs.Replies.{entries_along}
use Rattle.rpc_messages.specs.Unit.{SeenUnit}
use Rattle.rpc_messages.specs.declared.reply.Reply.{Reply}
use Rattle.rpc_messages.specs.declared.reply.Reply.TheVariants.{Done}
use Rattle.method_steps.specs.Steps.{MethodTable}
use Rattle.peer_output.specs.Course.{Sending, Course}
use Rattle.peer_output.specs.Cancelled.{Begins}
use Rattle.peer_output.specs.Items.{Item, answered, sent_by, answers_in}
use Rattle.peer_output.specs.Later.{IsUnderWay, IsFinished}

-- A past, of the stream so far.
pub record Past : Type 0 where
  -- the units whose answers went out, and those that are left
  pub released : List SeenUnit
  pub left : List SeenUnit
  -- what each number has sent, whether that was written or not
  pub sends : ℕ → List Sending
  -- the course that it took, once it is finished
  pub took : ℕ → Option Course
  -- what was written
  pub items : List Item

abbrev pub past_units : Past → List SeenUnit
past_units past = past.released ++ past.left

abbrev pub past_entries : Past → List SeenEntry
past_entries past = entries_along (past_units past)

-- the numbers of the requests of units, where the first call has this number
abbrev pub requests_of : ℕ → List SeenUnit → List ℕ
requests_of n [] = []
requests_of n (u ∷ us) = unit_requests n u ++ requests_of (n + unit_numbers u) us

-- A number under way has sent a front of its course, and a finished one all of the course that it took, whatever comes.
abbrev pub NumberStands : MethodTable → Bool → List SeenEntry → ℕ → List Sending → Option Course → Type 0
NumberStands table is_over entries n sends None = IsUnderWay table is_over entries n sends
NumberStands table is_over entries n sends (Some c) = (sends ≡ c.sends) × IsFinished table is_over entries n c

-- the number is finished, and all that its course sends stands among these items
pub record IsAllSent (took : ℕ → Option Course) (items : List Item) (n : ℕ) : Type 0 where
  pub course : Course
  pub finished : took n ≡ Some course
  pub all : sent_by n items ≡ course.sends

-- what a finished number answers
abbrev pub answer_of : Option Course → Reply
answer_of None = Done null
answer_of (Some c) = c.answer

-- what is due to units all of whose requests are finished, where their first call has this number
abbrev pub dues_of : (ℕ → Option Course) → ℕ → List SeenUnit → List Due
dues_of took n units = dues (λ k. answer_of (took k)) n units

-- This may have become of a stream whose input is over, or goes on.
pub record IsPast (table : MethodTable) (is_over : Bool) (past : Past) : Type 0 where
  -- each number keeps to its course, and those not yet given have none
  pub numbers : (n : ℕ) → NumberStands table is_over (past_entries past) n (past.sends n) (past.took n)
  pub later : (n : ℕ) → units_numbers (past_units past) < n → (past.sends n ≡ []) × (past.took n ≡ None)
  -- what was written of each number is a front of what it has sent
  pub written : (n : ℕ) → Begins (sent_by n past.items) (past.sends n)
  -- the answers that were written are those of the released units, whose requests are finished
  pub answers : answers_in past.items ≡ dues_of past.took 1 past.released
  pub finished : All (λ n. (c : Course) × (past.took n ≡ Some c)) (requests_of 1 past.released)
  -- and before each of them stands all that its requests have sent
  pub order : (before after : List Item) (due : Due) → past.items ≡ before ++ answered due ∷ after → All (IsAllSent past.took before) due.requests
