-- Bytes that are UTF-8, or aren't.
use Rattle.std.proofs.Common.{◌≡◌, ℕ, List, Bool, true, false, refl, sym, ap, if◌then◌else◌}
use Rattle.std.proofs.lemmas.Str.{is_utf8-from_IsUtf8, IsUtf8-from_is_utf8}
use Rattle.std.specs.Str.{IsUtf8, is_utf8}
use Rattle.json_texts.specs.Texts.{value_of}
use Rattle.conversation_reading.specs.Strictly.{json_reading, reading_of}
use Rattle.conversation_reading.specs.declared.reading.Reading.TheVariants.{NotText}
use Rattle.conversation_reading.specs.declared.reading.TheConstants.{MOST_DEPTH_IN}

pub reading_of_text : (bytes : List ℕ) → IsUtf8 bytes → json_reading bytes (value_of MOST_DEPTH_IN bytes) ≡ reading_of false bytes
reading_of_text bytes utf8 = sym (ap (λ b. if b then json_reading bytes (value_of MOST_DEPTH_IN bytes) else NotText) (is_utf8-from_IsUtf8 bytes utf8))

pub reading_of_no_text : (bytes : List ℕ) → (IsUtf8 bytes → ⊥) → NotText ≡ reading_of false bytes
reading_of_no_text bytes not_text = by_test (is_utf8 bytes) refl
  where
    by_test : (b : Bool) → is_utf8 bytes ≡ b → NotText ≡ reading_of false bytes
    by_test true is = absurd (not_text (IsUtf8-from_is_utf8 bytes is))
    by_test false is = sym (ap (λ b. if b then json_reading bytes (value_of MOST_DEPTH_IN bytes) else NotText) is)
