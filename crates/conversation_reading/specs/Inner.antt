-- How the members of a message are looked up.
use Rattle.std.specs.Prelude.{◌≡◌, option_map, codes}
use Rattle.json.specs.Json.{Json}
use Rattle.json.specs.Find.{get}
use Rattle.json.specs.Value.{value_view}
use Rattle.conversation_reading.specs.Twice.{has_twice}
use Rattle.conversation_reading.specs.declared.lookup.Members.{Members}

-- these are the members of a message
pub record AreMembers (members : Members) (j : Json) : Type 0 where
  pub version : option_map (λ v. value_view v.now) members.version ≡ get (codes "jsonrpc") j
  pub id : option_map (λ v. value_view v.now) members.id ≡ get (codes "id") j
  pub method : option_map (λ v. value_view v.now) members.method ≡ get (codes "method") j
  pub params : option_map (λ v. value_view v.now) members.params ≡ get (codes "params") j
  pub result : option_map (λ v. value_view v.now) members.result ≡ get (codes "result") j
  pub error : option_map (λ v. value_view v.now) members.error ≡ get (codes "error") j
  pub is_twice : members.is_twice ≡ has_twice j
