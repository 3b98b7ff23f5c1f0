-- Worked rows: what is owed on small contents.
use Rattle.std.specs.Prelude.{ℕ, zero, suc, List, [], ◌∷◌, ◌++◌, Bool, true, false, Option, option_map, codes}
use Rattle.std.specs.Option.{option_map_or}
use Rattle.json.specs.Json.{Json, Items, no_items, item, null, object, string, array}
use Rattle.content_streams.specs.declared.ending.HowEnded.{HowEnded}
use Rattle.conversation_reading.specs.Rows.{message, method, id, outcome, failure, members_of}
use Rattle.conversation_reading.specs.declared.reading.Reading.TheVariants.{NotJson}
use Rattle.conversation_rules.specs.Contents.{Outcome, reading_outcome, next_message, counted}
use Rattle.conversation_rules.specs.Judging.{unanswered_findings, ended_pair}
use Rattle.conversation_rules.specs.Speakers.{Speaker, Pair, new_speaker}
use Rattle.conversation_rules.specs.declared.finding.Finding.{Finding}
use Rattle.conversation_rules.specs.declared.finding.Rule.{Rule}
use Rattle.conversation_rules.specs.declared.level.Level.{Level}
use Rattle.conversation_rules.specs.declared.side.Side.{Side}
use Rattle.conversation_rules.specs.declared.side.Side.TheVariants.{Client, Server}
use Rattle.conversation_reading.specs.Strictly as strictly
use Rattle.conversation_reading.specs.declared.entry.WrittenId.{WrittenId}
use Rattle.conversation_rules.specs.Owed.{Due, owed_on, single_due, array_due}
use Rattle.conversation_rules.specs.declared.protocol.Protocol.{Protocol}
use Rattle.conversation_rules.specs.declared.protocol.Protocol.TheVariants.{JsonRpc}

-- a request with an id of these digits
abbrev pub request : List ℕ → Json
request digits = message (method ∷ id digits ∷ [])

-- a request of another version, which is none
abbrev pub old_request : List ℕ → Json
old_request digits = object (members_of (method ∷ id digits ∷ []))

-- one whose method is null, and whose id is a text
abbrev pub no_method : List ℕ → Json
no_method text = message ((codes "method", null) ∷ (codes "id", string text) ∷ [])

-- a request with two ids
abbrev pub two_ids : Json
two_ids = message (method ∷ id (codes "7") ∷ id (codes "8") ∷ [])

abbrev pub single : Json → Due
single j = single_due 1 0 false JsonRpc (strictly.entry_of j)

-- with a number beyond a float's range
abbrev pub huge : Json → Due
huge j = single_due 1 0 true JsonRpc (strictly.entry_of j)

abbrev pub batch : Json → Json → Due
batch a b = array_due 1 0 false JsonRpc (strictly.entry_of a ∷ strictly.entry_of b ∷ [])

-- a request with the id null, one whose params are null too, and one whose params alone are
abbrev pub null_request : Json
null_request = message (method ∷ (codes "id", null) ∷ [])

abbrev pub null_call : Json
null_call = message (method ∷ (codes "id", null) ∷ (codes "params", null) ∷ [])

abbrev pub request_without_params : List ℕ → Json
request_without_params digits = message (method ∷ id digits ∷ (codes "params", null) ∷ [])

-- a value in so many arrays
abbrev pub in_arrays : ℕ → Json → Json
in_arrays zero j = j
in_arrays (suc depth) j = array (item (in_arrays depth j) no_items)

-- a request whose id is a text, and one whose params are an array too that nests so deep
abbrev pub text_request : List ℕ → Json
text_request text = message (method ∷ (codes "id", string text) ∷ [])

abbrev pub deep_request : ℕ → List ℕ → Json
deep_request depth text = message (method ∷ (codes "id", string text) ∷ (codes "params", in_arrays depth null) ∷ [])

-- whether it must be answered
abbrev pub must_be_answered : Protocol → Json → Bool
must_be_answered rules j = option_map_or (λ owed. owed.must) (owed_on rules 0 (strictly.entry_of j)) false

-- the id that its answer is expected to have, if it may be answered at all
abbrev pub expected_of : Json → Option (Option WrittenId)
expected_of j = option_map (λ owed. owed.expected) (owed_on JsonRpc 0 (strictly.entry_of j))

-- ---- conversations: each content by its JSON value, at the offset 0

pub data Said : Type 0 where
  -- a side wrote this content; or one that isn't JSON; or its stream ended
  says : Side → Json → Said
  babbles : Side → Said
  ends : Side → HowEnded → Said

pub record Both : Type 0 where
  pub client : Speaker
  pub server : Speaker

abbrev pub pair_in : Side → Both → Pair
pair_in Client both = record { own = both.client; other = both.server }
pair_in Server both = record { own = both.server; other = both.client }

abbrev pub both_with : Side → Pair → Both
both_with Client pair = record { client = pair.own; server = pair.other }
both_with Server pair = record { client = pair.other; server = pair.own }

abbrev pub said_outcome : Protocol → Said → Both → Outcome
said_outcome protocol (says side j) both = reading_outcome protocol false (next_message side 0 (pair_in side both)) (counted (pair_in side both)) (strictly.value_reading j)
said_outcome protocol (babbles side) both = reading_outcome protocol false (next_message side 0 (pair_in side both)) (counted (pair_in side both)) NotJson
said_outcome protocol (ends side how) both = record { findings = unanswered_findings protocol side how (pair_in side both); pair = ended_pair (pair_in side both) }

abbrev pub side_of : Said → Side
side_of (says side j) = side
side_of (babbles side) = side
side_of (ends side how) = side

abbrev pub told_from : Protocol → Both → List Said → List Finding
told_from protocol both [] = []
told_from protocol both (said ∷ others) = (said_outcome protocol said both).findings ++ told_from protocol (both_with (side_of said) (said_outcome protocol said both).pair) others

-- what is found in a conversation
abbrev pub told : Protocol → List Said → List Finding
told protocol said = told_from protocol (record { client = new_speaker 1000; server = new_speaker 1000 }) said

-- a finding of the how-manieth content, of an entry of it or of the whole
abbrev pub tells : Side → Rule → Level → ℕ → ℕ → Finding
tells side rule level number entry = record { side = side; rule = rule; level = level; number = number; offset = 0; entry = entry }

-- ---- messages

abbrev pub answer : List ℕ → Json
answer digits = message (id digits ∷ outcome ∷ [])

abbrev pub null_answer : List ℕ → Json
null_answer code = message ((codes "id", null) ∷ failure code ∷ [])

abbrev pub error_answer : List ℕ → List ℕ → Json
error_answer digits code = message (id digits ∷ failure code ∷ [])

abbrev pub notification : List ℕ → Json
notification name = message ((codes "method", string name) ∷ [])

abbrev pub call : List ℕ → List ℕ → Json
call name digits = message ((codes "method", string name) ∷ id digits ∷ [])

-- a cancel of LSP, and of MCP
abbrev pub lsp_cancel : Json → Json
lsp_cancel target = message ((codes "method", string (codes "$/cancelRequest")) ∷ (codes "params", object (members_of ((codes "id", target) ∷ []))) ∷ [])

abbrev pub mcp_cancel_with : List (List ℕ × Json) → Json
mcp_cancel_with params = message ((codes "method", string (codes "notifications/cancelled")) ∷ (codes "params", object (members_of params)) ∷ [])

abbrev pub mcp_cancel : Json → Json
mcp_cancel target = mcp_cancel_with ((codes "requestId", target) ∷ [])

abbrev pub items_of : List Json → Items
items_of [] = no_items
items_of (j ∷ js) = item j (items_of js)

abbrev pub array_of : List Json → Json
array_of js = array (items_of js)
