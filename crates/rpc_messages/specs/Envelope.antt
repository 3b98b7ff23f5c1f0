-- The members of an object that count for a message (JSON-RPC 2.0, sections 4 and 5).
use Rattle.std.specs.Prelude.{Option, codes}
use Rattle.serde_json.specs.Data.{Data, Members}
use Rattle.serde_json.specs.Find.{get_member}

-- what there is under each of the six names
pub record SeenEnvelope : Type 0 where
  pub version : Option Data
  pub method : Option Data
  pub params : Option Data
  pub id : Option Data
  pub result : Option Data
  pub error : Option Data

abbrev pub envelope_of : Members → SeenEnvelope
envelope_of ms = record {
  version = get_member (codes "jsonrpc") ms;
  method = get_member (codes "method") ms;
  params = get_member (codes "params") ms;
  id = get_member (codes "id") ms;
  result = get_member (codes "result") ms;
  error = get_member (codes "error") ms;
}
