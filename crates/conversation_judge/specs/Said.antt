-- What is kept of the two sides, as the definitions have it.
use Rattle.std.specs.Prelude.{ℕ, ◌+◌, ◌++◌, ◌∷◌, List, [], Bool, Option, Some, None}
use Rattle.lsp_frames.specs.declared.frame.Frame.{Frame}
use Rattle.content_streams.specs.Streams.{Stream, next_placed}
use Rattle.content_streams.specs.declared.ending.HowEnded.{HowEnded}
use Rattle.content_streams.specs.declared.ending.HowEnded.TheVariants.{Closed, ReadFailed}
use Rattle.conversation_judge.specs.declared.arrays.Looked.{Looked}
use Rattle.conversation_entries.specs.Said.{said}
use Rattle.conversation_entries.specs.declared.speaker.Speaker.{Speaker}
use Rattle.conversation_rules.specs.Answers.{Each, taken_findings}
use Rattle.conversation_rules.specs.Contents.{content_outcome}
use Rattle.conversation_rules.specs.Judging as judging
use Rattle.conversation_rules.specs.Judging.{Seen, State}
use Rattle.conversation_rules.specs.Owed.{Due}
use Rattle.conversation_rules.specs.Speakers.{Pair}
use Rattle.conversation_rules.specs.declared.finding.Finding.{Finding}
use Rattle.conversation_rules.specs.declared.found.Fit.{Fit}
use Rattle.conversation_rules.specs.declared.finding.Message.{Message}
use Rattle.conversation_rules.specs.declared.protocol.Protocol.{Protocol}
use Rattle.conversation_rules.specs.declared.reply.Reply.{Reply}
use Rattle.conversation_rules.specs.declared.reply.Sight.{Sight}
use Rattle.conversation_rules.specs.declared.side.Side.{Side}

abbrev pub pair : Speaker → Speaker → Pair
pair own other = record { own = said own; other = said other }

abbrev pub each : List Due → Looked → Each
each owed looked = record { owed = owed; findings = looked.findings.items; strays = looked.strays.items; is_told = looked.is_told }

-- ---- one content after another

abbrev pub next_findings : Protocol → Side → Bool → Pair → Option (ℕ × Frame) → List Finding
next_findings protocol side is_unfinished both None = []
next_findings protocol side is_unfinished both (Some placed) = (content_outcome protocol side is_unfinished placed both).findings

abbrev pub behind_next : Protocol → Side → Bool → Pair → Option (ℕ × Frame) → Pair
behind_next protocol side is_unfinished both None = both
behind_next protocol side is_unfinished both (Some placed) = (content_outcome protocol side is_unfinished placed both).pair

abbrev pub taken_by : Stream → Option (ℕ × Frame) → Stream
taken_by stream None = stream
taken_by stream (Some placed) = record stream { taken = stream.taken + 1 }

abbrev pub stream_behind_next : Stream → Stream
stream_behind_next stream = taken_by stream (next_placed stream)

-- how a side ended
abbrev pub ended_as : Side → HowEnded → Seen
ended_as side Closed = judging.Closed side
ended_as side ReadFailed = judging.Failed side

abbrev pub state : Stream → Stream → Speaker → Speaker → State
state client_stream server_stream client server = record { client_stream = client_stream; server_stream = server_stream; client = said client; server = said server }

-- ---- the answers of a batch behind findings

unfoldable pub found_with : Protocol → Sight → Message → Reply → Option Fit → List Finding → List Finding
found_with protocol sight message reply fit found = found ++ taken_findings protocol sight message reply fit

abbrev pub array_found : Protocol → Sight → Message → List Reply → List (Option Fit) → List Finding → List Finding
array_found protocol sight message [] fits found = found
array_found protocol sight message (reply ∷ replies) [] found = found
array_found protocol sight message (reply ∷ replies) (fit ∷ fits) found = array_found protocol sight message replies fits (found_with protocol sight message reply fit found)
