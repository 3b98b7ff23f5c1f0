-- What stands of a recording while it is replayed.
use Rattle.std.specs.Prelude.{◌≡◌, ℕ, List, [], ◌∷◌, ◌++◌, Option, Some, None}
use Rattle.std.specs.Io.KnownBytes.{Appends}
use Rattle.content_streams.specs.Lines.{parts}
use Rattle.content_streams.specs.declared.framing.Framing.{Framing}
use Rattle.conversation_judge.specs.Judged.{Judged, Stands}
use Rattle.conversation_rules.specs.Judging.{Seen}
use Rattle.conversation_rules.specs.declared.finding.Finding.{Finding}
use Rattle.conversation_rules.specs.declared.finding.Limits.{Limits}
use Rattle.conversation_rules.specs.declared.protocol.Protocol.{Protocol}
use Rattle.recorded_talks.specs.Recorded.{head_of}
use Rattle.recorded_talks.specs.Replayed.{seen_in, protocol_by, framing_by, limits, findings_text, counted}
use Rattle.recorded_talks.specs.declared.counts.Counts.{Counts}
use Rattle.recorded_talks.specs.declared.head.Head.{Head}
use Rattle.recorded_talks.specs.declared.options.TalkOptions.{TalkOptions}
use Rattle.recorded_talks.specs.declared.replay.Replay.{Replay}

-- From a to b the judge saw this, behind all that it saw before.
abbrev pub SeesMore : Judged → Judged → List Seen → Type 0
SeesMore a b more = (protocol : Protocol) (framing : Framing) (limits : Limits) (seen : List Seen) (told : List Finding)
    → Stands protocol framing limits a seen told → Stands protocol framing limits b (seen ++ more) told

-- The judge, which there is from the first line on, has seen what these lines say, and told these findings.
abbrev pub Sees : TalkOptions → List (List ℕ) → List Finding → Option Judged → Type 0
Sees options [] told None = told ≡ []
Sees options [] told (Some judged) = ⊥
Sees options (first ∷ others) told None = ⊥
Sees options (first ∷ others) told (Some judged) = (head : Head) × (seen : List Seen) × (head_of first ≡ Some head) × (seen_in others ≡ Some seen)
    × Stands (protocol_by options head) (framing_by options head) limits judged seen told

-- the findings that weren't told
abbrev pub untold : Option Judged → List Finding
untold None = []
untold (Some judged) = judged.untold

abbrev pub with_untold : List Finding → Option Judged → Option Judged
with_untold found None = None
with_untold found (Some judged) = Some (record judged { untold = found })

abbrev pub IsOf : TalkOptions → Replay → Type 0
IsOf options replay = (replay.protocol ≡ options.protocol) × (replay.framing ≡ options.framing)

-- what comes behind the line under way goes on with it
abbrev pub lead : List ℕ → List (List ℕ) → List (List ℕ)
lead line [] = line ∷ []
lead line (next ∷ lines) = (line ++ next) ∷ lines

-- Of a recording that begins with this text, all was taken but what is left of the text: the judge has seen its whole lines,
-- and told these findings.
pub record Replays (options : TalkOptions) (text left : List ℕ) (told : List Finding) (replay : Replay) : Type 0 where
  pub lines : List (List ℕ)
  pub is_of : IsOf options replay
  pub parted : parts text ≡ lines ++ lead replay.line.items (parts left)
  pub sees : Sees options lines told replay.judge

-- From a to b this text was taken, and these findings were told: counted, and written.
pub record Went (a b : Replay) (counts counts' : Counts) (before after : Option (List ℕ)) (more : List ℕ) (found : List Finding) : Type 0 where
  pub replays : (options : TalkOptions) (text : List ℕ) (told : List Finding) → Replays options text [] told a → Replays options (text ++ more) [] (told ++ found) b
  pub is_counted : counts' ≡ counted found counts
  pub is_written : Appends before after (findings_text found)

-- From a to b its end was taken: the line under way is the last one, and all findings were told.
pub record Ended (a b : Replay) (counts counts' : Counts) (before after : Option (List ℕ)) (found : List Finding) : Type 0 where
  pub sees : (options : TalkOptions) (text : List ℕ) (told : List Finding) → Replays options text [] told a → Sees options (parts text) (told ++ found) b.judge
  pub none_left : untold b.judge ≡ []
  pub is_counted : counts' ≡ counted found counts
  pub is_written : Appends before after (findings_text found)
