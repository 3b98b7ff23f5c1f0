-- Units whose answer isn't released yet, and the texts that they are answered with (JSON-RPC 2.0, sections 5 and 6).
use Rattle.std.specs.Prelude.{ℕ, ◌==◌, List, [], ◌∷◌, Option, Some, None, Bool, true, false, if◌then◌else◌, map}
use Rattle.std.specs.List.{filter_map, list_all}
use Rattle.message_ids.specs.declared.id.Id.{Id}
use Rattle.message_ids.specs.declared.id.Id.TheVariants.{Null}
use Rattle.rpc_messages.specs.declared.reply.Reply.{Reply}
use Rattle.rpc_messages.specs.declared.reply.Reply.TheVariants.{Standard}
use Rattle.message_ids.specs.declared.standard.Standard.TheVariants.{ParseError, InvalidRequest}
use Rattle.rpc_messages.specs.Dues.{SeenAnswer, unit_text as text_of_answers}
use Rattle.rpc_messages.specs.declared.kind.Kind.{Kind}

-- one entry of a unit: no JSON; no call and no reply; a reply or a notification; a request with its number, its id and,
-- once it is finished, its answer
pub data Part : Type 0 where
  unreadable : Part
  invalid : Part
  silent : Part
  request : ℕ → Id → Option Reply → Part

pub record Waiting : Type 0 where
  pub kind : Kind
  pub parts : List Part

-- what an entry is answered with
abbrev pub part_answer : Part → Option SeenAnswer
part_answer unreadable = Some (record { id = Null; reply = Standard ParseError })
part_answer invalid = Some (record { id = Null; reply = Standard InvalidRequest })
part_answer silent = None
part_answer (request number id None) = None
part_answer (request number id (Some reply)) = Some (record { id = id; reply = reply })

-- the text that a unit is answered with
abbrev pub unit_text : Waiting → Option (List ℕ)
unit_text unit = text_of_answers unit.kind (filter_map part_answer unit.parts)

abbrev pub is_finished : Part → Bool
is_finished unreadable = true
is_finished invalid = true
is_finished silent = true
is_finished (request number id None) = false
is_finished (request number id (Some reply)) = true

-- each request of the unit is finished
abbrev pub is_whole : Waiting → Bool
is_whole unit = list_all is_finished unit.parts

-- the longest front of whole units, and what is left behind it
abbrev pub whole_front : List Waiting → List Waiting
whole_front [] = []
whole_front (unit ∷ units) = if is_whole unit then unit ∷ whole_front units else []

abbrev pub behind_front : List Waiting → List Waiting
behind_front [] = []
behind_front (unit ∷ units) = if is_whole unit then behind_front units else unit ∷ units

-- an entry, and a unit, once the request with this number was finished
abbrev pub part_answered : ℕ → Reply → Part → Part
part_answered number reply unreadable = unreadable
part_answered number reply invalid = invalid
part_answered number reply silent = silent
part_answered number reply (request other id answer) = request other id (if other == number then Some reply else answer)

abbrev pub unit_answered : ℕ → Reply → Waiting → Waiting
unit_answered number reply unit = record { kind = unit.kind; parts = map (part_answered number reply) unit.parts }
