-- What a request or a notification is (JSON-RPC 2.0, section 4), and what a cancel names (LSP 3.17, "Cancellation Support").
use Rattle.std.specs.Prelude.{ℕ, List, Bool, true, false, Option, Some, None, option_map, option_and_then, codes, if◌then◌else◌}
use Rattle.std.specs.Option.{option_map_or}
use Rattle.std.specs.Str.{bytes_eq}
use Rattle.serde_json.specs.Data.{Num, unsigned, negative, float, Data, null, number, string, array, object}
use Rattle.serde_json.specs.Find.{get, as_str}
use Rattle.json_values.specs.Whole.{whole}
use Rattle.rpc_messages.specs.Envelope.{SeenEnvelope}
use Rattle.rpc_messages.specs.declared.call.Call.{Call}
use Rattle.message_ids.specs.declared.id.Id.{Id}
use Rattle.message_ids.specs.declared.id.Id.TheVariants.{Null, Text, Signed, Unsigned}
use Rattle.rpc_messages.specs.declared.params.Params.{Params}
use Rattle.rpc_messages.specs.declared.params.Params.TheVariants.{Omitted, Whole, Fractional}

-- section 4: the member `jsonrpc` is exactly "2.0"
abbrev pub is_version_2 : Option Data → Bool
is_version_2 version = option_map_or (bytes_eq (codes "2.0")) (option_and_then as_str version) false

-- section 4: an id is a string, a number or null, and here the number is a whole one
abbrev pub number_id : Num → Option Id
number_id (unsigned n) = Some (Unsigned n)
number_id (negative z) = Some (Signed z)
number_id (float x) = None

abbrev pub id_of : Data → Option Id
id_of null = Some Null
id_of (number n) = number_id n
id_of (string s) = Some (Text s)
id_of _ = None

-- section 4.1: a call without the member `id` is a notification
abbrev pub call_id : Option Data → Option (Option Id)
call_id None = Some None
call_id (Some d) = option_map Some (id_of d)

abbrev pub params_of : Data → Params
params_of d = option_map_or Whole (whole d) Fractional

-- section 4.2: `params` may be omitted, and is an array or an object; null counts as omitted
abbrev pub call_params : Option Data → Option Params
call_params None = Some Omitted
call_params (Some null) = Some Omitted
call_params (Some (array ds)) = Some (params_of (array ds))
call_params (Some (object ms)) = Some (params_of (object ms))
call_params (Some _) = None

-- LSP: the id to cancel is an integer or a string, and never null
abbrev pub cancelled_id : Data → Option Id
cancelled_id (number n) = number_id n
cancelled_id (string s) = Some (Text s)
cancelled_id _ = None

-- LSP: a notification `$/cancelRequest` cancels the requests with the id in its params, which are an object
abbrev pub target_of : Option Id → List ℕ → Params → Option Id
target_of None method (Whole d) = if bytes_eq method (codes "$/cancelRequest") then option_and_then cancelled_id (get (codes "id") d) else None
target_of _ _ _ = None

-- a call with the target that the other three show
abbrev pub call_with : Option Id → List ℕ → Params → Call
call_with id method params = record { id = id; method = method; params = params; target = target_of id method params }

-- a call has the version, a string as its method, and params and an id as said
abbrev pub call_from : Bool → Option (List ℕ) → Option Params → Option (Option Id) → Option Call
call_from true (Some method) (Some params) (Some id) = Some (call_with id method params)
call_from _ _ _ _ = None

abbrev pub call_in : SeenEnvelope → Option Call
call_in e = call_from (is_version_2 e.version) (option_and_then as_str e.method) (call_params e.params) (call_id e.id)
