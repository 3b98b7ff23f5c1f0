-- What a content is: one entry, or a batch of them (JSON-RPC 2.0, section 6).
use Rattle.std.specs.Prelude.{ℕ, List, [], ◌∷◌, map, Bool, true, false, Option, Some, None, if◌then◌else◌}
use Rattle.std.specs.Str.{is_utf8}
use Rattle.lsp_frames.specs.declared.frame.Frame.{Frame}
use Rattle.serde_json.specs.Data.{Data, array, Items, no_items, item}
use Rattle.serde_json.specs.Read.{read}
use Rattle.rpc_messages.specs.Entry.{SeenEntry, invalid, entry_seen, entry_of}
use Rattle.rpc_messages.specs.declared.unit.Unit.{Unit as UnitRead}
use Rattle.rpc_messages.specs.declared.unit.Unit.TheVariants as unit

-- A unit: what gets one answer, or none.
pub data SeenUnit : Type 0 where
  unreadable : SeenUnit
  single : SeenEntry → SeenUnit
  batch : List SeenEntry → SeenUnit

-- what a `Unit` holds
abbrev pub unit_seen : UnitRead → SeenUnit
unit_seen unit.Unreadable = unreadable
unit_seen (unit.Single e) = single (entry_seen e)
unit_seen (unit.Batch es) = batch (map entry_seen es)

-- the entries of an array's elements, in their order
abbrev pub entries_of : Items → List SeenEntry
entries_of no_items = []
entries_of (item d ds) = entry_of d ∷ entries_of ds

-- an empty array is no batch, but one invalid entry
abbrev pub batch_of : List SeenEntry → SeenUnit
batch_of [] = single invalid
batch_of (e ∷ es) = batch (e ∷ es)

abbrev pub value_unit : Data → SeenUnit
value_unit (array ds) = batch_of (entries_of ds)
value_unit d = single (entry_of d)

abbrev pub unit_of_reading : Option Data → SeenUnit
unit_of_reading None = unreadable
unit_of_reading (Some d) = value_unit d

-- The content of a foreign frame, one that is no UTF-8 and one that isn't JSON of at most 127 levels are unreadable.
unfoldable pub unit_of : Bool → List ℕ → SeenUnit
unit_of true content = unreadable
unit_of false content = if is_utf8 content then unit_of_reading (read content) else unreadable

-- the units of frames, in their order
abbrev pub units_of : List Frame → List SeenUnit
units_of fs = map (λ f. unit_of f.foreign f.content) fs
