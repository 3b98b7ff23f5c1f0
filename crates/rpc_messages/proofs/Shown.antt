-- What is shown of a message whose params weren't made is what is shown of the message.
use Rattle.std.proofs.Common.{◌≡◌, ℕ, List, Bool, true, false, not, ◌||◌, ◌&&◌, Option, Some, None, is_some, cond, bytes_eq, true≢false, refl, sym, ap, ◌∙◌}
use Rattle.std.proofs.lemmas.Slice.Eq.{bytes_eq-Decides}
use Rattle.std.specs.Option.{option_map_or}
use Rattle.std.specs.Prelude.{codes, option_map, option_and_then}
use Rattle.serde_json.specs.Data.{Data, null, boolean, number, string, array, object, no_members}
use Rattle.serde_json.specs.Find.{as_str, get}
use Rattle.json_values.specs.Whole.{whole}
use Rattle.message_ids.specs.declared.id.Id.{Id}
use Rattle.rpc_messages.specs.Call.{call_from, call_id, call_params, call_with, cancelled_id, is_version_2}
use Rattle.rpc_messages.specs.Entry.{SeenEntry, call, call_or_invalid, message_in}
use Rattle.rpc_messages.specs.Envelope.{SeenEnvelope, envelope_of}
use Rattle.rpc_messages.specs.Held.{with_member, is_params}
use Rattle.rpc_messages.specs.declared.read.names.Name.{Name}
use Rattle.rpc_messages.specs.declared.read.names.Name.TheVariants as names
use Rattle.rpc_messages.specs.Outline.{outline_entry}
use Rattle.rpc_messages.specs.Shown.{shown, shown_entry, shown_envelope, shown_value, stand_in, is_cancel_method}
use Rattle.rpc_messages.specs.Unit.{single}
use Rattle.rpc_messages.specs.declared.params.Params.TheVariants.{Omitted, Whole, Fractional}

-- ---- envelopes

pub empty_shown : (w : Bool) → envelope_of no_members ≡ shown_envelope w (envelope_of no_members)
empty_shown true = refl
empty_shown false = refl

-- under the name of params there is the stand-in
pub member_shown : (w : Bool) (n : Name) (d : Data) (e : SeenEnvelope) → with_member n (shown_value (w || not (is_params n)) d) (shown_envelope w e) ≡ shown_envelope w (with_member n d e)
member_shown true n d e = refl
member_shown false names.Version d e = refl
member_shown false names.Method d e = refl
member_shown false names.Params d e = refl
member_shown false names.Id d e = refl
member_shown false names.Result d e = refl
member_shown false names.Error d e = refl
member_shown false names.Other d e = refl

-- ---- messages

by_test : (method : List ℕ) (b : Bool) → bytes_eq method (codes "$/cancelRequest") ≡ b → bytes_eq (codes "$/cancelRequest") method ≡ false → b ≡ false
by_test method false is other = refl
by_test method true is other = absurd (true≢false (sym ((bytes_eq-Decides (codes "$/cancelRequest") method).1 (sym ((bytes_eq-Decides method (codes "$/cancelRequest")).0 is))) ∙ other))

-- what isn't a cancel has no target, so that nothing but its params is of them
call_shown : (id : Option Id) (method : List ℕ) (p : Option Data) → bytes_eq (codes "$/cancelRequest") method ≡ false
    → outline_entry (call (call_with id method Omitted)) ≡ outline_entry (call (call_with id method (option_map_or Whole p Fractional)))
call_shown (Some id) method None other = refl
call_shown (Some id) method (Some d) other = refl
call_shown None method None other = refl
call_shown None method (Some d) other =
    ap (λ b. outline_entry (call (record { id = None; method = method; params = Omitted; target = cond b (option_and_then cancelled_id (get (codes "id") d)) None })))
    (sym (by_test method (bytes_eq method (codes "$/cancelRequest")) refl other))

container_shown : (method : List ℕ) (p : Option Data) (id : Option (Option Id)) → bytes_eq (codes "$/cancelRequest") method ≡ false
    → outline_entry (call_or_invalid (call_from true (Some method) (Some Omitted) id)) ≡ outline_entry (call_or_invalid (call_from true (Some method) (Some (option_map_or Whole p Fractional)) id))
container_shown method p None other = refl
container_shown method p (Some id) other = call_shown id method p other

from_shown : (version : Bool) (method : Option (List ℕ)) (p : Option Data) (id : Option (Option Id)) → option_map_or (bytes_eq (codes "$/cancelRequest")) method false ≡ false
    → outline_entry (call_or_invalid (call_from version method (call_params (option_map stand_in p)) id)) ≡ outline_entry (call_or_invalid (call_from version method (call_params p) id))
from_shown false method p id other = refl
from_shown true None p id other = refl
from_shown true (Some method) None id other = refl
from_shown true (Some method) (Some null) id other = refl
from_shown true (Some method) (Some (boolean b)) id other = refl
from_shown true (Some method) (Some (number n)) id other = refl
from_shown true (Some method) (Some (string s)) id other = refl
from_shown true (Some method) (Some (array ds)) id other = container_shown method (whole (array ds)) id other
from_shown true (Some method) (Some (object ms)) id other = container_shown method (whole (object ms)) id other

either : (b : Bool) (x y z : SeenEntry) → outline_entry x ≡ outline_entry y → outline_entry (cond b x z) ≡ outline_entry (cond b y z)
either true x y z same = same
either false x y z same = refl

pub message_shown : (w : Bool) (e : SeenEnvelope) → (w ≡ false → is_cancel_method e.method ≡ false) → shown_entry w (message_in (shown_envelope w e)) ≡ shown_entry w (message_in e)
message_shown true e other = refl
message_shown false e other =
    either (is_some e.method) _ _ _ (from_shown (is_version_2 e.version) (option_and_then as_str e.method) e.params (call_id e.id) (other refl))

pub no_cancel : (w : Bool) (e : SeenEnvelope) → (not w && is_cancel_method (shown_envelope w e).method) ≡ false → w ≡ false → is_cancel_method e.method ≡ false
no_cancel true e is wanted = absurd (true≢false wanted)
no_cancel false e is wanted = is

-- ---- units

pub single_shown : (w : Bool) (e : SeenEntry) → shown w (single e) ≡ single (shown_entry w e)
single_shown true e = refl
single_shown false e = refl
