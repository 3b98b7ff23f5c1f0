-- What is shown of a unit and of its parts: all, or all but the params of a call that came alone. Only private functions' clauses cite it.
use Rattle.std.specs.Prelude.{Bool, true, false, Option, option_map, option_and_then, codes}
use Rattle.std.specs.Option.{option_map_or}
use Rattle.std.specs.Str.{bytes_eq}
use Rattle.serde_json.specs.Find.{as_str}
use Rattle.serde_json.specs.Data.{Data, null, array, object}
use Rattle.rpc_messages.specs.Entry.{SeenEntry}
use Rattle.rpc_messages.specs.Envelope.{SeenEnvelope}
use Rattle.rpc_messages.specs.Outline.{outline, outline_entry}
use Rattle.rpc_messages.specs.Unit.{SeenUnit}

abbrev pub shown : Bool → SeenUnit → SeenUnit
shown true u = u
shown false u = outline u

abbrev pub shown_entry : Bool → SeenEntry → SeenEntry
shown_entry true e = e
shown_entry false e = outline_entry e

-- the method of a cancel (LSP 3.17, "Cancellation Support")
abbrev pub is_cancel_method : Option Data → Bool
is_cancel_method method = option_map_or (bytes_eq (codes "$/cancelRequest")) (option_and_then as_str method) false

-- null in place of an array or an object, as which params count as omitted
abbrev pub stand_in : Data → Data
stand_in (array ds) = null
stand_in (object ms) = null
stand_in d = d

abbrev pub shown_value : Bool → Data → Data
shown_value true d = d
shown_value false d = stand_in d

abbrev pub shown_envelope : Bool → SeenEnvelope → SeenEnvelope
shown_envelope true e = e
shown_envelope false e = record {
  version = e.version;
  method = e.method;
  params = option_map stand_in e.params;
  id = e.id;
  result = e.result;
  error = e.error;
}
