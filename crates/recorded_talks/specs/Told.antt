-- How findings are told: a line for each, and a last one that counts them.
use Rattle.std.specs.Prelude.{ℕ, nat_lt, List, [], ◌++◌, codes, decimal, if◌then◌else◌}
use Rattle.conversation_rules.specs.declared.finding.Finding.{Finding}
use Rattle.conversation_rules.specs.declared.finding.Rule.{Rule}
use Rattle.conversation_rules.specs.declared.finding.Rule.TheVariants as rules
use Rattle.conversation_rules.specs.declared.level.Level.{Level}
use Rattle.conversation_rules.specs.declared.level.Level.TheVariants.{Must, Should, Note}
use Rattle.conversation_rules.specs.declared.side.Side.{Side}
use Rattle.conversation_rules.specs.declared.side.Side.TheVariants.{Client, Server}
use Rattle.recorded_talks.specs.declared.counts.Counts.{Counts}

abbrev pub level_name : Level → List ℕ
level_name Must = codes "must"
level_name Should = codes "should"
level_name Note = codes "note"

abbrev pub side_name : Side → List ℕ
side_name Client = codes "client"
side_name Server = codes "server"

-- a rule's name
abbrev pub rule_name : Rule → List ℕ
rule_name rules.Head = codes "head"
rule_name rules.NotJson = codes "not-json"
rule_name rules.Charset = codes "charset"
rule_name rules.CutOff = codes "cut-off"
rule_name rules.LineEnd = codes "line-end"
rule_name rules.Object = codes "object"
rule_name rules.Version = codes "version"
rule_name rules.Method = codes "method"
rule_name rules.Params = codes "params"
rule_name rules.Id = codes "id"
rule_name rules.Outcome = codes "outcome"
rule_name rules.Error = codes "error"
rule_name rules.BothKinds = codes "both-kinds"
rule_name rules.Twice = codes "twice"
rule_name rules.EmptyArray = codes "empty-array"
rule_name rules.Batch = codes "batch"
rule_name rules.NotOwed = codes "not-owed"
rule_name rules.NotAsArray = codes "not-as-array"
rule_name rules.IdFraction = codes "id-fraction"
rule_name rules.IdNull = codes "id-null"
rule_name rules.IdForm = codes "id-form"
rule_name rules.IdAgain = codes "id-again"
rule_name rules.RpcName = codes "rpc-name"
rule_name rules.Code = codes "code"
rule_name rules.CancelledCode = codes "cancelled-code"
rule_name rules.CancelParams = codes "cancel-params"
rule_name rules.CancelUnknown = codes "cancel-unknown"
rule_name rules.CancelInitialize = codes "cancel-initialize"
rule_name rules.AfterCancel = codes "after-cancel"
rule_name rules.ParamsObject = codes "params-object"
rule_name rules.ResultObject = codes "result-object"
rule_name rules.Unanswered = codes "unanswered"
rule_name rules.NotJudged = codes "not-judged"

-- where it stands, in parentheses; a rule that is none stands nowhere
abbrev pub rule_place : Rule → List ℕ
rule_place rules.Head = codes " (LSP, Base Protocol)"
rule_place rules.NotJson = codes " (JSON-RPC 4; RFC 8259; MCP, stdio)"
rule_place rules.Charset = codes " (LSP, Base Protocol)"
rule_place rules.CutOff = codes " (LSP, Base Protocol; MCP, stdio)"
rule_place rules.LineEnd = codes " (MCP, stdio)"
rule_place rules.Object = codes " (JSON-RPC 4)"
rule_place rules.Version = codes " (JSON-RPC 4, 5)"
rule_place rules.Method = codes " (JSON-RPC 4)"
rule_place rules.Params = codes " (JSON-RPC 4.2)"
rule_place rules.Id = codes " (JSON-RPC 4, 5)"
rule_place rules.Outcome = codes " (JSON-RPC 4, 5)"
rule_place rules.Error = codes " (JSON-RPC 5.1)"
rule_place rules.BothKinds = codes " (JSON-RPC 4, 5)"
rule_place rules.Twice = codes " (JSON-RPC 4, 5; RFC 8259, 4)"
rule_place rules.EmptyArray = codes " (JSON-RPC 6)"
rule_place rules.Batch = codes " (LSP has no word on them; MCP 2025-06-18, changes)"
rule_place rules.NotOwed = codes " (JSON-RPC 4.1, 5)"
rule_place rules.NotAsArray = codes " (JSON-RPC 6)"
rule_place rules.IdFraction = codes " (JSON-RPC 4; LSP, Request Message; MCP, messages)"
rule_place rules.IdNull = codes " (JSON-RPC 4; LSP, Request Message; MCP, messages)"
rule_place rules.IdForm = codes " (JSON-RPC 4)"
rule_place rules.IdAgain = codes " (JSON-RPC 6; MCP, messages)"
rule_place rules.RpcName = codes " (JSON-RPC 4)"
rule_place rules.Code = codes " (JSON-RPC 5.1; LSP, ErrorCodes)"
rule_place rules.CancelledCode = codes " (LSP, Cancellation Support)"
rule_place rules.CancelParams = codes " (LSP, Cancellation Support; MCP, cancellation)"
rule_place rules.CancelUnknown = codes " (LSP, Cancellation Support; MCP, cancellation)"
rule_place rules.CancelInitialize = codes " (MCP, cancellation)"
rule_place rules.AfterCancel = codes " (MCP, cancellation)"
rule_place rules.ParamsObject = codes " (MCP, messages)"
rule_place rules.ResultObject = codes " (MCP, messages)"
rule_place rules.Unanswered = codes " (JSON-RPC 5; LSP, Cancellation Support)"
rule_place rules.NotJudged = []

-- Whose message it is, where it isn't the side's own: a request without an answer is that of the side that asked.
abbrev pub asked_by : Side → List ℕ
asked_by Client = codes "server's "
asked_by Server = codes "client's "

abbrev pub whose : Rule → Side → List ℕ
whose rules.Unanswered side = asked_by side
whose _ side = []

-- of an array's entry, from 1
unfoldable pub entry_place : ℕ → List ℕ
entry_place entry = if nat_lt 0 entry then codes ", entry " ++ decimal entry else []

unfoldable pub who_text : Finding → List ℕ
who_text it = level_name it.level ++ codes ": " ++ side_name it.side ++ codes ", " ++ whose it.rule it.side

unfoldable pub message_text : ℕ → ℕ → List ℕ
message_text number offset = codes "message " ++ (decimal number ++ (codes " at byte " ++ decimal offset))

unfoldable pub rule_text : Rule → List ℕ
rule_text rule = codes ": " ++ rule_name rule ++ rule_place rule

-- the line of a finding, without its LF
abbrev pub finding_text : Finding → List ℕ
finding_text it = who_text it ++ (message_text it.number it.offset ++ (entry_place it.entry ++ rule_text it.rule))

-- the last line, without its LF
abbrev pub counts_text : Counts → List ℕ
counts_text it = codes "found: " ++ decimal it.must ++ codes " must, " ++ decimal it.should ++ codes " should, " ++ decimal it.note ++ codes " note"
