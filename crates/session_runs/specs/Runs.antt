-- What the runs of a session keep true of their numbers, and of the sets of those that are ready and that have something to write.
use Rattle.std.specs.Prelude.{◌≡◌, ℕ, ◌+◌, ◌≤◌, nat_lt, List, [], ◌∷◌, ◌++◌, map, length, Bool, true, false, if◌then◌else◌}
use Rattle.rpc_messages.specs.declared.key.TheConstants.{MOST_NUMBERS}
use Rattle.peer_output.specs.Items.{Item, sent}
use Rattle.number_set.specs.Numbers.{Marked, HasRoom, is_in}
use Rattle.answer_desk.specs.State.{State, is_open, front_texts}
use Rattle.handler_future.specs.State.{HandlerState}
use Rattle.peer_events.specs.declared.stage.Stage.{Stage}
use Rattle.peer_events.specs.declared.stage.Stage.TheVariants.{Gone, Faulty, Idle, Out, Over, Failed}
use Rattle.peer_events.specs.Stages.{is_gone}
use Rattle.peer_events.specs.Core.{Core, stage_at, unwritten, unwritten_from}
use Rattle.peer_events.specs.Turning.{is_ready_stage, drained}

-- a number whose handler is here
abbrev pub is_idle : Stage → Bool
is_idle (Idle h written) = true
is_idle Gone = false
is_idle (Faulty error) = false
is_idle (Out written) = false
is_idle (Over h written) = false
is_idle Failed = false

-- a number that isn't finished
abbrev pub is_live : Stage → Bool
is_live (Idle h written) = true
is_live (Faulty error) = true
is_live (Out written) = true
is_live Gone = false
is_live (Over h written) = false
is_live Failed = false

-- whether messages and withdrawals are left behind so many
abbrev pub is_more_than : ℕ → HandlerState → Bool
is_more_than written h = nat_lt written (length h.messages + length h.waits)

-- whether something of what a number has sent isn't written
abbrev pub has_unwritten : Stage → Bool
has_unwritten (Idle h written) = nat_lt written (length h.messages)
has_unwritten (Over h written) = is_more_than written h
has_unwritten Gone = false
has_unwritten (Faulty error) = false
has_unwritten (Out written) = false
has_unwritten Failed = false

-- A number that isn't finished is open at the desk, and a handler has its own number. One that is over has something left to write.
abbrev pub StageFits : State → ℕ → Stage → Type 0
StageFits desk n (Idle h written) = (is_open desk n ≡ true) × (h.number ≡ n)
StageFits desk n (Faulty error) = is_open desk n ≡ true
StageFits desk n (Out written) = is_open desk n ≡ true
StageFits desk n (Over h written) = is_more_than written h ≡ true
StageFits desk n Gone = Unit {0}
StageFits desk n Failed = Unit {0}

pub record AreRuns (core : Core) (ready_set unwritten_set : Marked) : Type 0 where
  pub numbers : length core.stages ≡ length core.desk.numbers
  pub few : length core.stages ≤ MOST_NUMBERS + 1
  pub fits : (n : ℕ) → StageFits core.desk n (stage_at core n)
  pub ready : (n : ℕ) → is_in ready_set n ≡ is_ready_stage core.desk (stage_at core n)
  pub unwritten : (n : ℕ) → is_in unwritten_set n ≡ has_unwritten (stage_at core n)
  pub room : (n : ℕ) → is_gone (stage_at core n) ≡ false → HasRoom ready_set n × HasRoom unwritten_set n

-- the numbers that have something to write, from number n on
abbrev pub unwritten_numbers_from : ℕ → List Stage → List ℕ
unwritten_numbers_from n [] = []
unwritten_numbers_from n (stage ∷ stages) =
    if has_unwritten stage then n ∷ unwritten_numbers_from (n + 1) stages else unwritten_numbers_from (n + 1) stages

abbrev pub unwritten_numbers : Core → List ℕ
unwritten_numbers core = unwritten_numbers_from 0 core.stages

-- what these numbers have sent and isn't written
abbrev pub unwritten_of : Core → List ℕ → List Item
unwritten_of core [] = []
unwritten_of core (n ∷ ns) = map (sent n) (unwritten (stage_at core n)) ++ unwritten_of core ns

-- nothing is due, and a drain changes nothing
pub record NothingDue (core : Core) : Type 0 where
  pub sendings : unwritten_from 0 core.stages ≡ []
  pub answers : front_texts core.desk ≡ []
  pub same : drained core ≡ core

-- what a desk and stages are together
abbrev pub core_of : State → List Stage → Core
core_of desk stages = record { desk = desk; stages = stages }
