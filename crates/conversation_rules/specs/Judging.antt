-- What is found in what was seen of two sides.
use Rattle.std.specs.Prelude.{ℕ, ◌-◌, ◌||◌, ◌&&◌, ◌==◌, not, nat_le, List, [], ◌∷◌, ◌++◌, map, drop, max, length, Bool, true, false, Option, Some, None, is_some, if◌then◌else◌}
use Rattle.std.specs.Option.{option_map_or}
use Rattle.lsp_frames.specs.declared.frame.Frame.{Frame}
use Rattle.lsp_frames.specs.declared.frame.FrameFault.{FrameFault}
use Rattle.lsp_frames.specs.declared.frame.FrameFault.TheVariants.{BadHead, BadLength, TwoLengths, TooLarge, NoLength, HeadTooLong, Truncated, LongLength}
use Rattle.content_streams.specs.Streams.{Stream, capped, close_of, fault_place, placed_contents}
use Rattle.content_streams.specs.declared.ending.HowEnded.{HowEnded}
use Rattle.content_streams.specs.declared.ending.HowEnded.TheVariants as how
use Rattle.content_streams.specs.declared.ending.StreamEnd.{StreamEnd}
use Rattle.content_streams.specs.declared.ending.StreamEnd.TheVariants as ends
use Rattle.content_streams.specs.declared.framing.Framing.{Framing}
use Rattle.conversation_rules.specs.Answers.{or_note}
use Rattle.conversation_rules.specs.Contents.{Outcome, content_outcome, next_message}
use Rattle.conversation_rules.specs.Dues.{unanswered}
use Rattle.conversation_rules.specs.Protocols.{is_mcp}
use Rattle.conversation_rules.specs.Speakers.{Speaker, Pair, new_speaker, none_refused, found, is_broken}
use Rattle.conversation_rules.specs.declared.finding.Finding.{Finding}
use Rattle.conversation_rules.specs.declared.finding.Limits.{Limits}
use Rattle.conversation_rules.specs.declared.finding.Rule.{Rule}
use Rattle.conversation_rules.specs.declared.finding.Rule.TheVariants as rules
use Rattle.conversation_rules.specs.declared.found.Unanswered.{Unanswered}
use Rattle.conversation_rules.specs.declared.level.Level.{Level}
use Rattle.conversation_rules.specs.declared.level.Level.TheVariants.{Must, Note}
use Rattle.conversation_rules.specs.declared.protocol.Protocol.{Protocol}
use Rattle.conversation_rules.specs.declared.side.Side.{Side}
use Rattle.conversation_rules.specs.declared.side.Side.TheVariants.{Client, Server}

-- What was seen: a side wrote these bytes, or its stream was closed, or reading it failed.
pub data Seen : Type 0 where
  Wrote : Side → List ℕ → Seen
  Closed : Side → Seen
  Failed : Side → Seen

-- What is kept of what was seen: of each side its stream, with how many of its contents were judged, and what was said.
pub record State : Type 0 where
  pub client_stream : Stream
  pub server_stream : Stream
  pub client : Speaker
  pub server : Speaker

abbrev pub new_stream : Framing → Limits → Stream
new_stream framing limits = record { framing = framing; limit = limits.content; pieces = []; ended = None; taken = 0 }

abbrev pub new_state : Framing → Limits → State
new_state framing limits = record { client_stream = new_stream framing limits; server_stream = new_stream framing limits; client = new_speaker limits.ids; server = new_speaker limits.ids }

-- ---- the side that is seen, and the other one

abbrev pub stream_of : Side → State → Stream
stream_of Client state = state.client_stream
stream_of Server state = state.server_stream

abbrev pub pair_of : Side → State → Pair
pair_of Client state = record { own = state.client; other = state.server }
pair_of Server state = record { own = state.server; other = state.client }

abbrev pub state_with : Side → Stream → Pair → State → State
state_with Client stream pair state = record { client_stream = stream; server_stream = state.server_stream; client = pair.own; server = pair.other }
state_with Server stream pair state = record { client_stream = state.client_stream; server_stream = stream; client = pair.other; server = pair.own }

-- ---- contents, one behind another

abbrev pub contents_findings : Protocol → Side → Bool → List (ℕ × Frame) → Pair → List Finding
contents_findings protocol side is_unfinished [] pair = []
contents_findings protocol side is_unfinished (placed ∷ contents) pair =
    (content_outcome protocol side is_unfinished placed pair).findings ++ contents_findings protocol side is_unfinished contents (content_outcome protocol side is_unfinished placed pair).pair

abbrev pub behind_contents : Protocol → Side → Bool → List (ℕ × Frame) → Pair → Pair
behind_contents protocol side is_unfinished [] pair = pair
behind_contents protocol side is_unfinished (placed ∷ contents) pair = behind_contents protocol side is_unfinished contents (content_outcome protocol side is_unfinished placed pair).pair

-- those of a stream that weren't judged yet
abbrev pub new_contents : Stream → List (ℕ × Frame)
new_contents stream = drop stream.taken (placed_contents stream)

abbrev pub all_taken : Stream → Stream
all_taken stream = record stream { taken = max stream.taken (length (placed_contents stream)) }

-- ---- head, cut-off, not-judged: a stream that can't be cut any further

-- A length of more digits than are read may be right.
abbrev pub fault_rule : FrameFault → Rule
fault_rule BadHead = rules.Head
fault_rule BadLength = rules.Head
fault_rule TwoLengths = rules.Head
fault_rule TooLarge = rules.NotJudged
fault_rule NoLength = rules.Head
fault_rule HeadTooLong = rules.NotJudged
fault_rule Truncated = rules.CutOff
fault_rule LongLength = rules.NotJudged

abbrev pub fault_level : FrameFault → Level
fault_level BadHead = Must
fault_level BadLength = Must
fault_level TwoLengths = Must
fault_level TooLarge = Note
fault_level NoLength = Must
fault_level HeadTooLong = Note
fault_level Truncated = Must
fault_level LongLength = Note

abbrev pub fault_finding : Side → ℕ → Pair → FrameFault → Finding
fault_finding side place pair fault = found (next_message side place pair) 0 (fault_rule fault) (fault_level fault)

abbrev pub fault_findings_of : Side → Option ℕ → Pair → Option StreamEnd → List Finding
fault_findings_of side place pair None = []
fault_findings_of side place pair (Some ends.Clean) = []
fault_findings_of side place pair (Some ends.ReadFailed) = []
fault_findings_of side place pair (Some (ends.Fault fault)) = option_map_or (λ place. fault_finding side place pair fault ∷ []) place []

abbrev pub is_fault : Option StreamEnd → Bool
is_fault None = false
is_fault (Some ends.Clean) = false
is_fault (Some ends.ReadFailed) = false
is_fault (Some (ends.Fault fault)) = true

-- it is told once
abbrev pub fault_findings : Side → Stream → Pair → List Finding
fault_findings side stream pair = if pair.own.is_over then [] else fault_findings_of side (fault_place stream) pair (close_of stream)

-- ---- a side wrote bytes

abbrev pub fed : List ℕ → Stream → Stream
fed bytes stream = record stream { pieces = stream.pieces ++ bytes ∷ [] }

abbrev pub over_pair : Stream → Pair → Pair
over_pair stream pair = record pair { own = record pair.own { is_over = pair.own.is_over || is_fault (close_of stream) } }

-- the contents that are whole by them, and then a fault
abbrev pub wrote_findings : Protocol → Side → Stream → Pair → List Finding
wrote_findings protocol side stream pair =
    contents_findings protocol side false (new_contents stream) pair ++ fault_findings side stream (behind_contents protocol side false (new_contents stream) pair)

abbrev pub behind_wrote : Protocol → Side → Stream → Pair → Pair
behind_wrote protocol side stream pair = over_pair stream (behind_contents protocol side false (new_contents stream) pair)

-- ---- a side ended: `cut-off` or `line-end`, and then what it owes

abbrev pub ended_stream : HowEnded → Stream → Stream
ended_stream how stream = record stream { ended = Some how }

-- where reading failed, or the judge couldn't read, the answer may have been there
abbrev pub unanswered_level : HowEnded → Bool → Unanswered → Level
unanswered_level how.ReadFailed is_broken request = Note
unanswered_level how.Closed is_broken request = if request.may_be_answered then Note else or_note is_broken Must

abbrev pub unanswered_finding : Side → HowEnded → Bool → Unanswered → Finding
unanswered_finding side how is_broken request = record { side = side; rule = rules.Unanswered; level = unanswered_level how is_broken request; number = request.number; offset = request.offset; entry = request.entry }

-- The client ends the session: in LSP it sent `exit`, and in MCP it does so by its end (LSP 3.17, Exit Notification; MCP,
-- lifecycle, Shutdown).
abbrev pub ends_session : Protocol → Side → Speaker → Bool
ends_session protocol Client own = own.has_exited || is_mcp protocol
ends_session protocol Server own = false

-- the other one had ended before, or sent `exit`; or the session ends
abbrev pub is_excused : Protocol → Side → Pair → Bool
is_excused protocol side pair = pair.other.has_ended || (pair.other.has_exited || ends_session protocol side pair.own)

-- Those up to a content may have been answered by what couldn't be read.
abbrev pub maybe_answered : ℕ → Unanswered → Unanswered
maybe_answered unsure_up_to request = record request { may_be_answered = nat_le request.number unsure_up_to }

-- Which of them may have been refused isn't known: of what may be refused whole, those of the oldest contents count as such, one
-- content for each error. What is left of a content stands side by side, and `number` is that of the last one that counts.
abbrev pub counts_as_refused : ℕ → ℕ → Unanswered → Bool
counts_as_refused refused number request = request.may_be_refused && (not (refused == 0) && not (request.number == number))

abbrev pub when_refused : ℕ → Unanswered → Unanswered
when_refused number request = if request.number == number then record request { may_be_answered = true } else request

abbrev pub counted_as_refused : ℕ → ℕ → List Unanswered → List Unanswered
counted_as_refused refused number [] = []
counted_as_refused refused number (request ∷ requests) =
    if counts_as_refused refused number request then when_refused request.number request ∷ counted_as_refused (refused - 1) request.number requests
    else when_refused number request ∷ counted_as_refused refused number requests

abbrev pub left_unanswered : Speaker → List Unanswered
left_unanswered asker = counted_as_refused asker.refusals.refused 0 (map (maybe_answered asker.unsure_up_to) (unanswered asker.owed))

abbrev pub unanswered_findings : Protocol → Side → HowEnded → Pair → List Finding
unanswered_findings protocol side how pair = if is_excused protocol side pair then [] else map (unanswered_finding side how (is_broken pair)) (left_unanswered pair.other)

abbrev pub ended_findings : Protocol → Side → HowEnded → Stream → Pair → List Finding
ended_findings protocol side how stream pair =
    let last = behind_contents protocol side true (new_contents stream) pair in
    contents_findings protocol side true (new_contents stream) pair ++ fault_findings side stream last ++ unanswered_findings protocol side how last

abbrev pub ended_pair : Pair → Pair
ended_pair pair = record { own = record pair.own { has_ended = true }; other = record pair.other { owed = []; refusals = none_refused } }

abbrev pub behind_ended : Protocol → Side → Stream → Pair → Pair
behind_ended protocol side stream pair = ended_pair (behind_contents protocol side true (new_contents stream) pair)

-- ---- anything that is seen. What is seen of a side that has ended doesn't count.

-- the stream with what was seen of it
abbrev pub seen_findings : Protocol → Side → Option HowEnded → Stream → Pair → List Finding
seen_findings protocol side None stream pair = wrote_findings protocol side stream pair
seen_findings protocol side (Some how) stream pair = ended_findings protocol side how stream pair

abbrev pub behind_seen : Protocol → Side → Option HowEnded → Stream → Pair → Pair
behind_seen protocol side None stream pair = behind_wrote protocol side stream pair
behind_seen protocol side (Some how) stream pair = behind_ended protocol side stream pair

abbrev pub event_findings : Protocol → Side → Option HowEnded → Stream → Stream → Pair → List Finding
event_findings protocol side how before after pair = if is_some before.ended then [] else seen_findings protocol side how after pair

abbrev pub event_pair : Protocol → Side → Option HowEnded → Stream → Stream → Pair → Pair
event_pair protocol side how before after pair = if is_some before.ended then pair else behind_seen protocol side how after pair

abbrev pub event_stream : Stream → Stream → Stream
event_stream before after = if is_some before.ended then before else all_taken after

abbrev pub behind_event : Protocol → Side → Option HowEnded → Stream → State → State
behind_event protocol side how after state = state_with side (event_stream (stream_of side state) after) (event_pair protocol side how (stream_of side state) after (pair_of side state)) state

abbrev pub step_findings : Protocol → Seen → State → List Finding
step_findings protocol (Wrote side bytes) state = event_findings protocol side None (stream_of side state) (fed bytes (stream_of side state)) (pair_of side state)
step_findings protocol (Closed side) state = event_findings protocol side (Some how.Closed) (stream_of side state) (ended_stream how.Closed (stream_of side state)) (pair_of side state)
step_findings protocol (Failed side) state = event_findings protocol side (Some how.ReadFailed) (stream_of side state) (ended_stream how.ReadFailed (stream_of side state)) (pair_of side state)

abbrev pub step : Protocol → Seen → State → State
step protocol (Wrote side bytes) state = behind_event protocol side None (fed bytes (stream_of side state)) state
step protocol (Closed side) state = behind_event protocol side (Some how.Closed) (ended_stream how.Closed (stream_of side state)) state
step protocol (Failed side) state = behind_event protocol side (Some how.ReadFailed) (ended_stream how.ReadFailed (stream_of side state)) state

-- ---- all that was seen, in its order

abbrev pub findings_from : Protocol → State → List Seen → List Finding
findings_from protocol state [] = []
findings_from protocol state (seen ∷ others) = step_findings protocol seen state ++ findings_from protocol (step protocol seen state) others

abbrev pub state_from : Protocol → State → List Seen → State
state_from protocol state [] = state
state_from protocol state (seen ∷ others) = state_from protocol (step protocol seen state) others

abbrev pub findings_of : Protocol → Framing → Limits → List Seen → List Finding
findings_of protocol framing limits seen = findings_from protocol (new_state framing limits) seen

abbrev pub state_of : Protocol → Framing → Limits → List Seen → State
state_of protocol framing limits seen = state_from protocol (new_state framing limits) seen
