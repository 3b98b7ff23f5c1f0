-- Texts, and what stands at the end of a line.
use Rattle.std.proofs.Common.{◌≡◌, ℕ, List, [], ◌∷◌, ◌++◌, Bool, true, false, Some, None, refl, ap, ◌∙◌}
use Rattle.std.specs.Prelude.{IsUtf8}
use Rattle.std.specs.Str.{is_utf8}
use Rattle.std.proofs.lemmas.Str.{is_utf8-from_IsUtf8, IsUtf8-from_is_utf8}
use Rattle.recorded_talks.specs.Recorded.{is_blank, put_unless_last, trimmed, text_in}

-- ---- what is UTF-8 is a text, and what isn't is none

pub is_text : (bytes : List ℕ) → IsUtf8 bytes → text_in bytes ≡ Some bytes
is_text bytes utf8 = rw (is_utf8-from_IsUtf8 bytes utf8)

not_true : (b : Bool) → (b ≡ true → ⊥) → b ≡ false
not_true true never = absurd (never refl)
not_true false never = refl

pub is_no_text : (bytes : List ℕ) → (IsUtf8 bytes → ⊥) → text_in bytes ≡ None
is_no_text bytes never =
    let none : is_utf8 bytes ≡ false = not_true (is_utf8 bytes) (λ is. never (IsUtf8-from_is_utf8 bytes is)) in
    rw none refl

-- ---- a blank at the end counts nothing, and what ends otherwise stays

pub one_more_blank : (xs : List ℕ) (c : ℕ) → is_blank c ≡ true → trimmed (xs ++ c ∷ []) ≡ trimmed xs
one_more_blank [] c blank = rw blank
one_more_blank (x ∷ xs) c blank = ap (put_unless_last x) (one_more_blank xs c blank)

kept_before : (x : ℕ) (xs : List ℕ) (c : ℕ) → put_unless_last x (xs ++ c ∷ []) ≡ x ∷ (xs ++ c ∷ [])
kept_before x [] c = refl
kept_before x (y ∷ ys) c = refl

pub ends_in_text : (xs : List ℕ) (c : ℕ) → is_blank c ≡ false → trimmed (xs ++ c ∷ []) ≡ xs ++ c ∷ []
ends_in_text [] c text = rw text
ends_in_text (x ∷ xs) c text = ap (put_unless_last x) (ends_in_text xs c text) ∙ kept_before x xs c
