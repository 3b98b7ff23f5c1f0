-- What comes of a recording: its lines, what they say was seen, what is found in that, and what is written.
use Rattle.std.specs.Prelude.{◌≡◌, ℕ, List, [], ◌∷◌, ◌++◌, Option, Some, codes, option_map, option_and_then}
use Rattle.std.specs.Option.{option_to_list, unwrap_or}
use Rattle.content_streams.specs.Lines.{parts}
use Rattle.content_streams.specs.declared.framing.Framing.{Framing}
use Rattle.conversation_rules.specs.Judging.{Seen, findings_of}
use Rattle.conversation_rules.specs.declared.finding.Finding.{Finding}
use Rattle.conversation_rules.specs.declared.finding.Limits.{Limits}
use Rattle.conversation_rules.specs.declared.protocol.Protocol.{Protocol}
use Rattle.lsp_frames.specs.declared.limits.TheConstants.{LARGEST_CONTENT}
use Rattle.recorded_talks.specs.Counted.{none, with_one}
use Rattle.recorded_talks.specs.Recorded.{head_of, said_by}
use Rattle.recorded_talks.specs.Told.{finding_text, counts_text}
use Rattle.recorded_talks.specs.declared.counts.Counts.{Counts}
use Rattle.recorded_talks.specs.declared.head.Head.{Head}
use Rattle.recorded_talks.specs.declared.options.TalkOptions.{TalkOptions}

-- ---- what is seen

-- What these lines say, in their order: what one says that was seen, and then what the others do. None where one of them is
-- none of a recording.
abbrev pub seen_in : List (List ℕ) → Option (List Seen)
seen_in [] = Some []
seen_in (line ∷ lines) = option_and_then (λ said. option_map (λ seen. option_to_list said ++ seen) (seen_in lines)) (said_by line)

-- ---- what is found

-- the options stand before the first line
abbrev pub protocol_by : TalkOptions → Head → Protocol
protocol_by options head = unwrap_or options.protocol head.protocol

abbrev pub framing_by : TalkOptions → Head → Framing
framing_by options head = unwrap_or options.framing head.framing

abbrev pub limits : Limits
limits = record { content = LARGEST_CONTENT; ids = 1000000 }

-- The findings of a recording of these lines: the first one is a head, the others say what was seen, and the findings are
-- those of all that was seen.
abbrev pub Finds : TalkOptions → List (List ℕ) → List Finding → Type 0
Finds options [] found = ⊥
Finds options (first ∷ others) found = (head : Head) × (seen : List Seen) × (head_of first ≡ Some head) × (seen_in others ≡ Some seen)
    × (findings_of (protocol_by options head) (framing_by options head) limits seen ≡ found)

-- ---- what is written

-- a line for each finding, in their order
abbrev pub findings_text : List Finding → List ℕ
findings_text [] = []
findings_text (it ∷ others) = (finding_text it ++ codes "\n") ++ findings_text others

abbrev pub counted : List Finding → Counts → Counts
counted [] counts = counts
counted (it ∷ others) counts = counted others (with_one it.level counts)

-- A recording of this text was judged: its lines are what stands between its LFs, its findings were counted, and written
-- were their lines and then the one that counts them.
pub record Talk (options : TalkOptions) (text : List ℕ) (counts : Counts) (written : List ℕ) : Type 0 where
  pub found : List Finding
  pub finds : Finds options (parts text) found
  pub is_counted : counts ≡ counted found none
  pub is_written : written ≡ findings_text found ++ (counts_text counts ++ codes "\n")
