-- What an `Envelope` holds, and what one more member makes of it. Only private functions' clauses cite it.
use Rattle.std.specs.Prelude.{ℕ, List, Bool, true, false, Some, option_map, codes, if◌then◌else◌}
use Rattle.std.specs.Str.{bytes_eq}
use Rattle.serde_json.specs.Data.{Data}
use Rattle.json_reading.specs.Piece.{piece_view}
use Rattle.rpc_messages.specs.Envelope.{SeenEnvelope}
use Rattle.rpc_messages.specs.declared.read.envelope.Envelope.{Envelope}
use Rattle.rpc_messages.specs.declared.read.names.Name.{Name}
use Rattle.rpc_messages.specs.declared.read.names.Name.TheVariants.{Version, Method, Params, Id, Result, Error, Other}

abbrev pub envelope_view : Envelope → SeenEnvelope
envelope_view e = record {
  version = option_map piece_view e.version;
  method = option_map piece_view e.method;
  params = option_map piece_view e.params;
  id = option_map piece_view e.id;
  result = option_map piece_view e.result;
  error = option_map piece_view e.error;
}

-- which of the names that count it is
abbrev pub name_of : List ℕ → Name
name_of name =
    if bytes_eq name (codes "jsonrpc") then Version
    else if bytes_eq name (codes "method") then Method
    else if bytes_eq name (codes "params") then Params
    else if bytes_eq name (codes "id") then Id
    else if bytes_eq name (codes "result") then Result
    else if bytes_eq name (codes "error") then Error
    else Other

-- the envelope with one more member, which counts before earlier ones of its name
abbrev pub with_member : Name → Data → SeenEnvelope → SeenEnvelope
with_member Version d e = record { version = Some d; method = e.method; params = e.params; id = e.id; result = e.result; error = e.error }
with_member Method d e = record { version = e.version; method = Some d; params = e.params; id = e.id; result = e.result; error = e.error }
with_member Params d e = record { version = e.version; method = e.method; params = Some d; id = e.id; result = e.result; error = e.error }
with_member Id d e = record { version = e.version; method = e.method; params = e.params; id = Some d; result = e.result; error = e.error }
with_member Result d e = record { version = e.version; method = e.method; params = e.params; id = e.id; result = Some d; error = e.error }
with_member Error d e = record { version = e.version; method = e.method; params = e.params; id = e.id; result = e.result; error = Some d }
with_member Other d e = e

abbrev pub is_params : Name → Bool
is_params Params = true
is_params _ = false
