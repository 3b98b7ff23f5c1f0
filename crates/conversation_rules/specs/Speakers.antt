-- What is kept of a side.
use Rattle.std.specs.Prelude.{ℕ, ◌+◌, ◌-◌, ◌^◌, ◌==◌, ◌||◌, List, [], Bool, true, false, ◌∷◌, if◌then◌else◌}
use Rattle.content_streams.specs.Streams.{capped}
use Rattle.conversation_rules.specs.Owed.{Due}
use Rattle.conversation_rules.specs.Used.{Used, none_used}
use Rattle.conversation_rules.specs.declared.finding.Finding.{Finding}
use Rattle.conversation_rules.specs.declared.finding.Message.{Message}
use Rattle.conversation_rules.specs.declared.finding.Rule.{Rule}
use Rattle.conversation_rules.specs.declared.level.Level.{Level}
use Rattle.conversation_rules.specs.declared.reply.Refusals.{Refusals}

pub record Speaker : Type 0 where
  -- how many contents it has
  pub count : ℕ
  -- what the other side owes on them, the oldest first
  pub owed : List Due
  -- A content of the other side couldn't be read, and may have been the answer to what is owed on this content, or on an
  -- older one: its number, or 0.
  pub unsure_up_to : ℕ
  -- what the other side may have refused of it
  pub refusals : Refusals
  -- the ids that its requests had, and those of `initialize`
  pub used : Used
  pub initialize : Used
  -- whether it sent a cancel by rules where a request whose cancel was seen may be left
  pub has_cancelled : Bool
  -- whether it had to be guessed for which of its batches an array was
  pub is_guessed : Bool
  -- whether it sent the notification `exit` of LSP
  pub has_exited : Bool
  -- whether a content of it couldn't be read
  pub has_unreadable : Bool
  -- whether the judge reads its stream no further
  pub is_over : Bool
  pub has_ended : Bool

abbrev pub none_refused : Refusals
none_refused = record { refused = 0; unowed = 0 }

-- a count that has reached the largest of 64 bits stays there
abbrev pub one_more : ℕ → ℕ
one_more count = capped (count + 1)

abbrev pub one_less : ℕ → ℕ
one_less count = if count == 2 ^ 64 - 1 then count else count - 1

abbrev pub new_speaker : ℕ → Speaker
new_speaker most = record { count = 0; owed = []; unsure_up_to = 0; refusals = none_refused; used = none_used most; initialize = none_used most; has_cancelled = false; is_guessed = false; has_exited = false; has_unreadable = false; is_over = false; has_ended = false }

-- the side that is seen, and the other one
pub record Pair : Type 0 where
  pub own : Speaker
  pub other : Speaker

-- What is owed can't be known: the judge reads the stream of either side no further, or had to guess.
abbrev pub is_broken : Pair → Bool
is_broken pair = pair.own.is_over || (pair.other.is_over || pair.other.is_guessed)

-- a finding of an entry of a content, or of the whole of it
abbrev pub found : Message → ℕ → Rule → Level → Finding
found message entry rule level = record { side = message.side; rule = rule; level = level; number = message.number; offset = message.offset; entry = entry }

abbrev pub found_if : Bool → Finding → List Finding
found_if true finding = finding ∷ []
found_if false finding = []
