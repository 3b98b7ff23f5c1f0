-- What the lines of a recording say: the first one whose rules count and how contents are framed, and each other one what was
-- seen, or nothing.
use Rattle.std.specs.Prelude.{ℕ, ◌-◌, ◌&&◌, ◌||◌, ◌==◌, nat_eq, nat_lt, nat_le, List, [], ◌∷◌, Bool, true, Option, Some, None, option_map, option_and_then, take, drop, length, codes, if◌then◌else◌}
use Rattle.std.specs.List.{list_all, starts_with, ends_with, position_or_len, before_first, after_first}
use Rattle.std.specs.Str.{bytes_eq, is_utf8}
use Rattle.content_streams.specs.declared.framing.Framing.{Framing}
use Rattle.content_streams.specs.declared.framing.Framing.TheVariants.{Frames, Lines, Contents}
use Rattle.conversation_rules.specs.Judging.{Seen, Wrote, Closed, Failed}
use Rattle.conversation_rules.specs.declared.protocol.Protocol.{Protocol}
use Rattle.conversation_rules.specs.declared.protocol.Protocol.TheVariants.{JsonRpc, Lsp, Mcp, Mcp20250618, Mcp20250326, Mcp20241105}
use Rattle.conversation_rules.specs.declared.side.Side.{Side}
use Rattle.conversation_rules.specs.declared.side.Side.TheVariants.{Client, Server}
use Rattle.recorded_talks.specs.Digits.{bytes_of}
use Rattle.recorded_talks.specs.declared.time.TheConstants.{MOST_DIGITS}
use Rattle.recorded_talks.specs.declared.head.Head.{Head}

-- ---- the text of a line

-- A blank, a tab and a CR at the end of a line don't count.
abbrev pub is_blank : ℕ → Bool
is_blank c = c == 32 || (c == 9 || c == 13)

abbrev pub put_unless_last : ℕ → List ℕ → List ℕ
put_unless_last c [] = if is_blank c then [] else c ∷ []
put_unless_last c (d ∷ ds) = c ∷ d ∷ ds

abbrev pub trimmed : List ℕ → List ℕ
trimmed [] = []
trimmed (c ∷ cs) = put_unless_last c (trimmed cs)

-- there is none where it isn't UTF-8
abbrev pub text_in : List ℕ → Option (List ℕ)
text_in bytes = if is_utf8 bytes then Some bytes else None

abbrev pub text_of : List ℕ → Option (List ℕ)
text_of line = text_in (trimmed line)

-- ---- the first line: `judge 1 RULES FRAMING`

abbrev pub protocol_named : List ℕ → Option Protocol
protocol_named name =
    if bytes_eq name (codes "jsonrpc") then Some JsonRpc else
    if bytes_eq name (codes "lsp") then Some Lsp else
    if bytes_eq name (codes "mcp") then Some Mcp else
    if bytes_eq name (codes "mcp:2025-11-25") then Some Mcp else
    if bytes_eq name (codes "mcp:2025-06-18") then Some Mcp20250618 else
    if bytes_eq name (codes "mcp:2025-03-26") then Some Mcp20250326 else
    if bytes_eq name (codes "mcp:2024-11-05") then Some Mcp20241105 else
    None

abbrev pub framing_named : List ℕ → Option Framing
framing_named name =
    if bytes_eq name (codes "frames") then Some Frames else
    if bytes_eq name (codes "lines") then Some Lines else
    if bytes_eq name (codes "contents") then Some Contents else
    None

-- two names, and a blank between them
abbrev pub head_named : List ℕ → Option Head
head_named names =
    option_and_then (λ framing. option_map (λ protocol. record { protocol = protocol; framing = framing }) (protocol_named (before_first (λ c. c == 32) names)))
    (framing_named (after_first (λ c. c == 32) names))

abbrev pub head_in : List ℕ → Option Head
head_in line = if starts_with nat_eq line (codes "judge 1 ") then option_and_then head_named (text_in (drop 8 line)) else None

abbrev pub head_of : List ℕ → Option Head
head_of line = head_in (trimmed line)

-- ---- the time at the end of a line: ` # N`, or ` #N`

abbrev pub is_digit : ℕ → Bool
is_digit c = nat_le 48 c && nat_le c 57

-- one blank may stand before the digits
abbrev pub behind_one_blank : List ℕ → List ℕ
behind_one_blank [] = []
behind_one_blank (c ∷ cs) = if c == 32 then cs else c ∷ cs

abbrev pub is_number : List ℕ → Bool
is_number digits = nat_le 1 (length digits) && (nat_le (length digits) MOST_DIGITS && list_all is_digit digits)

-- one blank has to stand before the `#`
abbrev pub before_one_blank : List ℕ → Option (List ℕ)
before_one_blank text = if ends_with nat_eq text (codes " ") then Some (take (length text - 1) text) else None

-- What stands before the time, or all where no `#` stands in the text. What stands behind a `#` has to be a time.
abbrev pub without_time : List ℕ → Option (List ℕ)
without_time text =
    if nat_lt (position_or_len (λ c. c == 35) text) (length text) then
    (if is_number (behind_one_blank (after_first (λ c. c == 35) text)) then before_one_blank (before_first (λ c. c == 35) text) else None)
    else Some text

-- ---- what was seen

abbrev pub side_marked : ℕ → Option Side
side_marked mark = if mark == 62 then Some Client else (if mark == 60 then Some Server else None)

-- a blank stands behind the mark, or nothing
abbrev pub behind_mark : List ℕ → Option (List ℕ)
behind_mark [] = Some []
behind_mark (c ∷ what) = if c == 32 then Some what else None

-- `closed`, `failed`, or the digits of bytes
abbrev pub seen_of : Side → List ℕ → Option Seen
seen_of side what =
    if bytes_eq what (codes "closed") then Some (Closed side) else
    if bytes_eq what (codes "failed") then Some (Failed side) else
    option_map (λ bytes. Wrote side bytes) (bytes_of what)

abbrev pub seen_by : List ℕ → Option Seen
seen_by [] = None
seen_by (mark ∷ behind) = option_and_then (λ side. option_and_then (seen_of side) (behind_mark behind)) (side_marked mark)

-- a line that is empty, or begins with `#`
abbrev pub says_nothing : List ℕ → Bool
says_nothing [] = true
says_nothing (c ∷ cs) = c == 35

abbrev pub said_in : List ℕ → Option (Option Seen)
said_in text = if says_nothing text then Some None else option_map (λ seen. Some seen) (option_and_then seen_by (without_time text))

-- What a line behind the first says; None where it is none of a recording.
abbrev pub said_by : List ℕ → Option (Option Seen)
said_by line = option_and_then said_in (text_of line)
