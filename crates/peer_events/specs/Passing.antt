-- What becomes of numbers as entries are passed: each stays as it was, or is finished, by its own fault or by a cancel.
use Rattle.std.specs.Prelude.{◌≡◌, ◌⊎◌, ℕ, List, ◌++◌, map, filter, true, not, Some, None, is_some}
use Rattle.rpc_messages.specs.declared.reply.Reply.TheVariants.{Standard as Fixed}
use Rattle.message_ids.specs.declared.standard.Standard.{Standard}
use Rattle.message_ids.specs.declared.standard.Standard.TheVariants.{Cancelled}
use Rattle.rpc_messages.specs.Entry.{SeenEntry}
use Rattle.rpc_messages.specs.Replies.{reply_to}
use Rattle.handler_future.specs.State.{HandlerState}
use Rattle.peer_events.specs.declared.stage.Stage.TheVariants.{Faulty, Idle}
use Rattle.peer_output.specs.Course.{withdrawal, Course, silent}
use Rattle.peer_output.specs.Cancelled.{Begins, is_cancelled}
use Rattle.peer_output.specs.Past.{Past, past_entries}
use Rattle.peer_events.specs.Core.{Core, stage_at}

pub record StaysAsItWas (s after : Core) (past later : Past) (n : ℕ) : Type 0 where
  pub stage : stage_at after n ≡ stage_at s n
  pub sends : later.sends n ≡ past.sends n
  pub took : later.took n ≡ past.took n

-- it wasn't finished, and now is, with this course
pub record IsFinishedWith (past later : Past) (n : ℕ) (c : Course) : Type 0 where
  pub unfinished : past.took n ≡ None
  pub took : later.took n ≡ Some c
  pub sends : later.sends n ≡ c.sends

-- A call at fault is finished as its entry is passed: it sends nothing, and its answer is the error.
pub record EndsByFault (s : Core) (past later : Past) (n : ℕ) : Type 0 where
  pub error : Standard
  pub was : stage_at s n ≡ Faulty error
  pub ends : IsFinishedWith past later n (silent (Fixed error))

-- those of the turns of a number to which no reply has come
abbrev pub unanswered : List SeenEntry → ℕ → List ℕ → List ℕ
unanswered passed n turns = filter (λ t. not (is_some (reply_to n t passed))) turns

-- A request whose handler is here is finished as a cancel reaches it: behind what it has sent it withdraws the calls that it waits
-- for and to which no reply has come, and its answer is `Request cancelled` (LSP 3.17, "Cancellation Support").
pub record EndsByCancel (s : Core) (past later : Past) (n : ℕ) : Type 0 where
  pub handler : HandlerState
  pub so_far : ℕ
  pub was : stage_at s n ≡ Idle handler so_far
  pub passed : List SeenEntry
  pub begins : Begins passed (past_entries past)
  pub reached : is_cancelled passed n ≡ true
  pub ends : IsFinishedWith past later n (record { sends = past.sends n ++ map withdrawal (unanswered passed n handler.waits); answer = Fixed Cancelled })

abbrev pub PassesNumber : Core → Core → Past → Past → ℕ → Type 0
PassesNumber s after past later n = StaysAsItWas s after past later n ⊎ (EndsByFault s past later n ⊎ EndsByCancel s past later n)

-- The units and what was written are as before.
pub record Passes (s after : Core) (past later : Past) : Type 0 where
  pub released : later.released ≡ past.released
  pub left : later.left ≡ past.left
  pub items : later.items ≡ past.items
  pub numbers : (n : ℕ) → PassesNumber s after past later n
