-- What the texts of an object's members say.
use Rattle.std.specs.Prelude.{◌≡◌, ◌≤◌, ℕ, suc, List, Bool, Option, Some, None, option_map, option_and_then, is_some, codes, true, ⊤, if◌then◌else◌}
use Rattle.std.specs.Borrow.{Bor}
use Rattle.std.specs.Str.{bytes_eq}
use Rattle.json.specs.Json.{Json, array, object, Items, no_items, item, Members}
use Rattle.json.specs.Find.{get, as_str}
use Rattle.json.specs.Tree.{members_depth, HasNumbers, MembersHaveNumbers}
use Rattle.json_texts.specs.Standing.{Stands}
use Rattle.json_texts.specs.Texts.{json_text, value_of}
use Rattle.message_ids.specs.declared.id.Id.{Id}
use Rattle.connection_messages.specs.Reading.{is_version_2, call_id, call_params, call_in, cancel_method, cancel_member, cancelled_id, entry_of, entries_of}
use Rattle.connection_messages.specs.declared.call.Call.{Call}
use Rattle.connection_messages.specs.declared.cancels.Cancels.{Cancels}
use Rattle.connection_messages.specs.declared.cancels.Cancels.TheVariants.{Lsp, Mcp}
use Rattle.connection_messages.specs.declared.entry.Entry.{Entry}
use Rattle.connection_messages.specs.declared.read.envelope.Envelope.{Envelope}
use Rattle.connection_messages.specs.declared.read.unit.TheConstants.{MOST_DEPTH_IN}
use Rattle.connection_messages.specs.declared.rules.Rules.{Rules}

-- the text is the member's, or both are absent
abbrev pub IsMember : Option (Bor (List ℕ)) → Option Json → Type 0
IsMember part member = option_map (λ s. s.now) part ≡ option_map json_text member

-- the texts are those of the value's members
pub record Names (e : Envelope) (j : Json) : Type 0 where
  pub version : IsMember e.version (get (codes "jsonrpc") j)
  pub id : IsMember e.id (get (codes "id") j)
  pub method : IsMember e.method (get (codes "method") j)
  pub params : IsMember e.params (get (codes "params") j)
  pub result : IsMember e.result (get (codes "result") j)
  pub error : IsMember e.error (get (codes "error") j)
  pub request : IsMember e.request (get (codes "requestId") j)

-- an object stands there, and the envelope is of its members
pub record HasEnvelopeAt (levels : ℕ) (text : List ℕ) (from end : ℕ) (e : Envelope) : Type 0 where
  pub members : Members
  pub numbers : MembersHaveNumbers members
  pub nests : members_depth members ≤ levels
  pub stands : Stands text from (json_text (object members)) end
  pub names : Names e (object members)

-- the text is an object's, and the envelope is of its members
pub record HasEnvelope (text : List ℕ) (e : Envelope) : Type 0 where
  pub members : Members
  pub is : value_of MOST_DEPTH_IN text ≡ Some (object members)
  pub numbers : MembersHaveNumbers members
  pub names : Names e (object members)

-- the text is an array's, and these are the entries of its elements
pub record HasBatch (rules : Rules) (text : List ℕ) (entries : List Entry) : Type 0 where
  pub first : Json
  pub rest : Items
  pub is : value_of MOST_DEPTH_IN text ≡ Some (array (item first rest))
  pub are : entries ≡ entries_of rules (item first rest)

abbrev pub item_count : Items → ℕ
item_count no_items = 0
item_count (item j js) = suc (item_count js)

-- the text is an array's, of so many values
pub record HasValues (text : List ℕ) (count : ℕ) : Type 0 where
  pub items : Items
  pub is : value_of MOST_DEPTH_IN text ≡ Some (array items)
  pub many : item_count items ≡ count

abbrev pub MemberHasNumbers : Option Json → Type 0
MemberHasNumbers None = ⊤
MemberHasNumbers (Some j) = HasNumbers j

-- ---- what is read, for each value of which there are these texts

abbrev pub GivesId : Option (Bor (List ℕ)) → Option Id → Type 0
GivesId part id = (member : Option Json) → MemberHasNumbers member → IsMember part member → call_id member ≡ Some id

abbrev pub GivesParams : Bool → Option (Bor (List ℕ)) → Option (List ℕ) → Type 0
GivesParams told part params = (member : Option Json) → MemberHasNumbers member → IsMember part member → call_params told member ≡ Some params

abbrev pub GivesVersion : Envelope → Type 0
GivesVersion e = (j : Json) → HasNumbers j → Names e j → is_version_2 j ≡ true

abbrev pub GivesCall : Bool → Envelope → List ℕ → Call → Type 0
GivesCall told e method call =
    (j : Json) → HasNumbers j → Names e j → is_version_2 j ≡ true → option_and_then as_str (get (codes "method") j) ≡ Some method → call_in told j ≡ Some call

abbrev pub GivesEntry : Rules → Envelope → Entry → Type 0
GivesEntry rules e entry = (j : Json) → HasNumbers j → Names e j → entry ≡ entry_of rules j

abbrev pub GivesReply : Rules → Envelope → Entry → Type 0
GivesReply rules e entry = (j : Json) → HasNumbers j → Names e j → is_version_2 j ≡ true → get (codes "method") j ≡ None → entry ≡ entry_of rules j

-- the id that the params of a cancel name
abbrev pub GivesTarget : Cancels → List ℕ → Id → Type 0
GivesTarget by params target =
    (p : Json) → HasNumbers p → json_text p ≡ params → ((told : Bool) → call_params told (Some p) ≡ Some (Some params)) × (option_and_then cancelled_id (get (cancel_member by) p) ≡ Some target)

-- the text by which such cancels name a request
abbrev pub target_part : Cancels → Envelope → Option (Bor (List ℕ))
target_part Lsp e = e.id
target_part Mcp e = e.request

-- the cancels, where theirs have this method
abbrev pub cancels_by : Option Cancels → List ℕ → Option Cancels
cancels_by None method = None
cancels_by (Some by) method = if bytes_eq method (cancel_method by) then Some by else None

abbrev pub GivesCancel : Cancels → Envelope → Entry → Type 0
GivesCancel by e entry =
    (rules : Rules) (j : Json) → rules.cancels ≡ Some by → HasNumbers j → Names e j → is_version_2 j ≡ true → (is_some (get (codes "method") j) ≡ true) × (option_and_then as_str (get (codes "method") j) ≡ Some (cancel_method by)) → entry ≡ entry_of rules j
