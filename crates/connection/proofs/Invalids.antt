-- The entries of a unit that are invalid, one entry after another.
use Rattle.std.proofs.Common.{◌≡◌, ◌≤◌, ◌<◌, ℕ, ◌+◌, Bool, true, false, cond, List, [], ◌∷◌, ◌++◌, suc, take, drop, length, get_or, refl, sym, ap, ◌∙◌, length-append, drop-cons, arith}
use Rattle.std.proofs.lemmas.List.{take_more}
use Rattle.std.proofs.lemmas.List.Elements.{filter-append}
use Rattle.std.specs.Prelude.{filter}
use mir.Val.{bool_byte}
use Rattle.connection_messages.specs.declared.entry.Entry.{Entry}
use Rattle.connection_history.specs.Stream.{is_invalid}
use Rattle.connection_history.specs.Events.{first_invalid}

-- ---- how many

one_if : (b : Bool) (e : Entry) → length (cond b (e ∷ []) []) ≡ bool_byte b
one_if true e = refl
one_if false e = refl

pub invalid_few : (b : Bool) → bool_byte b ≤ 1
invalid_few true = omega arith
invalid_few false = omega arith

pub invalid_more : (es : List Entry) (n : ℕ) (e : Entry) (b : Bool) → n < length es → e ≡ get_or es n e → b ≡ is_invalid e
    → length (filter is_invalid (take (n + 1) es)) ≡ length (filter is_invalid (take n es)) + bool_byte b
invalid_more es n e b within is test =
    ap (λ xs. length (filter is_invalid xs)) (take_more es n e within ∙ ap (λ x. take n es ++ x ∷ []) (sym is))
    ∙ ap length (filter-append is_invalid (take n es) (e ∷ []))
    ∙ length-append (filter is_invalid (take n es)) (filter is_invalid (e ∷ []))
    ∙ ap (λ m. length (filter is_invalid (take n es)) + m) (one_if (is_invalid e) e ∙ ap bool_byte (sym test))

-- ---- the first

at_place : (es : List Entry) (n : ℕ) (e : Entry) → n < length es → e ≡ get_or es n e → drop n es ≡ e ∷ drop (n + 1) es
at_place es n e within is = let next : suc n ≡ n + 1 = omega arith in drop-cons es n e within ∙ (λ i. sym is i ∷ drop (next i) es)

pub first_here : (es : List Entry) (n : ℕ) (e : Entry) → n < length es → e ≡ get_or es n e → is_invalid e ≡ true → first_invalid (drop n es) ≡ 0
first_here es n e within is test =
    ap first_invalid (at_place es n e within is) ∙ ap (λ b. cond b 0 (first_invalid (drop (n + 1) es) + 1)) test

pub first_later : (es : List Entry) (n : ℕ) (e : Entry) → n < length es → e ≡ get_or es n e → is_invalid e ≡ false → first_invalid (drop n es) ≡ first_invalid (drop (n + 1) es) + 1
first_later es n e within is test =
    ap first_invalid (at_place es n e within is) ∙ ap (λ b. cond b 0 (first_invalid (drop (n + 1) es) + 1)) test

pub first_none : (es : List Entry) → first_invalid (drop (length es) es) ≡ 0
first_none [] = refl
first_none (e ∷ es) = first_none es
