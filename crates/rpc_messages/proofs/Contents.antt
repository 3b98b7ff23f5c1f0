-- A content is read, or refused.
use Rattle.std.proofs.Common.{◌≡◌, ℕ, List, [], ◌∷◌, map, Bool, true, false, cond, Some, None, refl, sym, ap, ◌∙◌}
use Rattle.std.proofs.lemmas.Str.{is_utf8-from_IsUtf8, IsUtf8-from_is_utf8}
use Rattle.std.specs.Str.{IsUtf8, is_utf8}
use Rattle.serde_json.specs.Data.{Data}
use Rattle.serde_json.specs.Read.{read}
use Rattle.rpc_messages.specs.Entry.{entry_seen}
use Rattle.rpc_messages.specs.Unit.{unreadable, batch, batch_of, value_unit, unit_of_reading, unit_of}
use Rattle.rpc_messages.specs.declared.entry.Entry.{Entry}

pub unit_of_read : (content : List ℕ) (d : Data) → IsUtf8 content → read content ≡ Some d → value_unit d ≡ unit_of false content
unfolding unit_of
unit_of_read content d text is = sym (ap (λ b. cond b (unit_of_reading (read content)) unreadable) (is_utf8-from_IsUtf8 content text) ∙ ap unit_of_reading is)

unless_text : (b : Bool) (content : List ℕ) → is_utf8 content ≡ b → (IsUtf8 content → read content ≡ None) → unreadable ≡ cond b (unit_of_reading (read content)) unreadable
unless_text true content is refused = sym (ap unit_of_reading (refused (IsUtf8-from_is_utf8 content is)))
unless_text false content is refused = refl

pub unit_of_refused : (content : List ℕ) → (IsUtf8 content → read content ≡ None) → unreadable ≡ unit_of false content
unfolding unit_of
unit_of_refused content refused = unless_text _ content refl refused

-- some entries are a batch
pub batch_of_some : (es : List Entry) → (es ≡ [] → ⊥) → batch (map entry_seen es) ≡ batch_of (map entry_seen es)
batch_of_some [] some = absurd (some refl)
batch_of_some (e ∷ es) some = refl

pub unit_of_text : (content text : List ℕ) → IsUtf8 content → text ≡ content → unit_of_reading (read text) ≡ unit_of false content
unfolding unit_of
unit_of_text content text utf8 same =
    ap (λ t. unit_of_reading (read t)) same ∙ sym (ap (λ b. cond b (unit_of_reading (read content)) unreadable) (is_utf8-from_IsUtf8 content utf8))
