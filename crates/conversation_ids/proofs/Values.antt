-- Two numbers have one value just where their digits, without zeros at their ends, and their places are the same.
use Rattle.std.proofs.Common.{◌≡◌, ◌⊎◌, ◌==◌, ◌&&◌, ◌||◌, ℕ, zero, suc, ◌+◌, ◌*◌, ◌%◌, ◌^◌, ◌<◌, ◌≤◌, Bool, true, false, refl, ap, sym, ◌∙◌, arith, inl, inr, eq-eqb, List, [], ◌∷◌, ◌++◌, length}
use Rattle.std.proofs.Math.Nat.{mul_assoc}
use Rattle.std.proofs.lemmas.Nat.{pow-add}
use Rattle.conversation_reading.specs.Numbers.{number_of}
use Rattle.conversation_ids.specs.Digits.{same_value}
use Rattle.conversation_ids.proofs.Numbers.{ten_times, same_scaled, no_test}

at_least : (A z : ℕ) → A ≤ A * 10 ^ z
at_least A zero = omega arith
at_least A (suc z) = let e = ten_times A z in let i = at_least A z in omega (arith, e, i)

zero_is : (D A z : ℕ) → D ≡ A * 10 ^ z → A ≡ 0 → D ≡ 0
zero_is D A z is none = let f : A * 10 ^ z ≡ 0 * 10 ^ z = ap (λ n. n * 10 ^ z) none in omega (arith, is, f)

scaled : (D A z e : ℕ) → D ≡ A * 10 ^ z → D * 10 ^ e ≡ A * 10 ^ (z + e)
scaled D A z e is = ap (λ n. n * 10 ^ e) is ∙ mul_assoc A (10 ^ z) (10 ^ e) ∙ ap (λ n. A * n) (sym (pow-add 10 z e))

signed : (sign size zero : Bool) → zero ≡ false → (sign && size) ≡ (size && (sign || zero))
signed true true z is = refl
signed true false z is = refl
signed false true z is = sym is
signed false false z is = refl

false_is : (b : Bool) → false ≡ b → b ≡ false
false_is b is = sym is

-- both are left
both_left : (Da Db A B za zb ea eb pa pb : ℕ) (sign : Bool) → Da ≡ A * 10 ^ za → Db ≡ B * 10 ^ zb → 0 < A % 10 → 0 < B % 10 → za + ea ≡ pa → zb + eb ≡ pb →
    (sign && ((A == B) && (pa == pb))) ≡ ((Da * 10 ^ ea == Db * 10 ^ eb) && (sign || (Da == 0)))
both_left Da Db A B za zb ea eb pa pb sign is_a is_b a b at_a at_b =
    let size : (Da * 10 ^ ea == Db * 10 ^ eb) ≡ ((A == B) && (pa == pb)) =
    ap (λ n. n == Db * 10 ^ eb) (scaled Da A za ea is_a) ∙ ap (λ n. A * 10 ^ (za + ea) == n) (scaled Db B zb eb is_b)
    ∙ same_scaled A B (za + ea) (zb + eb) a b
    ∙ ap (λ n. (A == B) && (n == zb + eb)) at_a ∙ ap (λ n. (A == B) && (pa == n)) at_b in
    let some : (Da == 0) ≡ false = sym (no_test Da 0 (λ none. let l = at_least A za in omega (arith, l, is_a, none))) in
    signed sign ((A == B) && (pa == pb)) (Da == 0) some ∙ ap (λ t. t && (sign || (Da == 0))) (sym size)

-- the first is zero, and the second isn't; and the other way round
first_none : (Da Db B zb ea eb : ℕ) (rest : Bool) → Da ≡ 0 → Db ≡ B * 10 ^ zb → 0 < B % 10 → false ≡ ((Da * 10 ^ ea == Db * 10 ^ eb) && rest)
first_none Da Db B zb ea eb rest none is_b b =
    let f : Da * 10 ^ ea ≡ 0 * 10 ^ ea = ap (λ n. n * 10 ^ ea) none in
    let differs = no_test (Da * 10 ^ ea) (Db * 10 ^ eb) (λ is. let l = at_least B zb in let m = at_least Db eb in omega (arith, f, is, l, m, is_b)) in
    ap (λ t. t && rest) differs

second_none : (Da Db A za ea eb : ℕ) (rest : Bool) → Db ≡ 0 → Da ≡ A * 10 ^ za → 0 < A % 10 → false ≡ ((Da * 10 ^ ea == Db * 10 ^ eb) && rest)
second_none Da Db A za ea eb rest none is_a a =
    let f : Db * 10 ^ eb ≡ 0 * 10 ^ eb = ap (λ n. n * 10 ^ eb) none in
    let differs = no_test (Da * 10 ^ ea) (Db * 10 ^ eb) (λ is. let l = at_least A za in let m = at_least Da ea in omega (arith, f, is, l, m, is_a)) in
    ap (λ t. t && rest) differs

or_true : (a b : Bool) → b ≡ true → true ≡ (a || b)
or_true true b is = refl
or_true false b is = sym is

both_none : (Da Db ea eb : ℕ) (sign : Bool) → Da ≡ 0 → Db ≡ 0 → true ≡ ((Da * 10 ^ ea == Db * 10 ^ eb) && (sign || (Da == 0)))
both_none Da Db ea eb sign a b =
    let f : Da * 10 ^ ea ≡ 0 * 10 ^ ea = ap (λ n. n * 10 ^ ea) a in
    let g : Db * 10 ^ eb ≡ 0 * 10 ^ eb = ap (λ n. n * 10 ^ eb) b in
    or_true sign (Da == 0) (eq-eqb Da 0 a)
    ∙ ap (λ t. t && (sign || (Da == 0))) (sym (eq-eqb (Da * 10 ^ ea) (Db * 10 ^ eb) (let e : Da * 10 ^ ea ≡ Db * 10 ^ eb = omega (arith, f, g) in e)))

pub same_where : (Da Db A B za zb ea eb pa pb ca cb : ℕ) (sign : Bool) → Da ≡ A * 10 ^ za → Db ≡ B * 10 ^ zb →
    (0 < A % 10) ⊎ (ca ≡ 0) → (0 < B % 10) ⊎ (cb ≡ 0) → (ca ≡ 0 → A ≡ 0) → (cb ≡ 0 → B ≡ 0) → za + ea ≡ pa → zb + eb ≡ pb →
    same_value (ca == 0) (cb == 0) sign ((A == B) && (pa == pb)) ≡ ((Da * 10 ^ ea == Db * 10 ^ eb) && (sign || (Da == 0)))
same_where Da Db A B za zb ea eb pa pb ca cb sign is_a is_b (inl a) (inl b) none_a none_b at_a at_b =
    let x : (ca == 0) ≡ false = sym (no_test ca 0 (λ n. let e = none_a n in omega (arith, e, a))) in
    let y : (cb == 0) ≡ false = sym (no_test cb 0 (λ n. let e = none_b n in omega (arith, e, b))) in
    ap (λ t. same_value t (cb == 0) sign ((A == B) && (pa == pb))) x ∙ ap (λ t. same_value false t sign ((A == B) && (pa == pb))) y
    ∙ both_left Da Db A B za zb ea eb pa pb sign is_a is_b a b at_a at_b
same_where Da Db A B za zb ea eb pa pb ca cb sign is_a is_b (inr a) (inl b) none_a none_b at_a at_b =
    let y : (cb == 0) ≡ false = sym (no_test cb 0 (λ n. let e = none_b n in omega (arith, e, b))) in
    ap (λ t. same_value t (cb == 0) sign ((A == B) && (pa == pb))) (eq-eqb ca 0 a) ∙ ap (λ t. same_value true t sign ((A == B) && (pa == pb))) y
    ∙ first_none Da Db B zb ea eb (sign || (Da == 0)) (zero_is Da A za is_a (none_a a)) is_b b
same_where Da Db A B za zb ea eb pa pb ca cb sign is_a is_b (inl a) (inr b) none_a none_b at_a at_b =
    let x : (ca == 0) ≡ false = sym (no_test ca 0 (λ n. let e = none_a n in omega (arith, e, a))) in
    ap (λ t. same_value t (cb == 0) sign ((A == B) && (pa == pb))) x ∙ ap (λ t. same_value false t sign ((A == B) && (pa == pb))) (eq-eqb cb 0 b)
    ∙ second_none Da Db A za ea eb (sign || (Da == 0)) (zero_is Db B zb is_b (none_b b)) is_a a
same_where Da Db A B za zb ea eb pa pb ca cb sign is_a is_b (inr a) (inr b) none_a none_b at_a at_b =
    ap (λ t. same_value t (cb == 0) sign ((A == B) && (pa == pb))) (eq-eqb ca 0 a) ∙ ap (λ t. same_value true t sign ((A == B) && (pa == pb))) (eq-eqb cb 0 b)
    ∙ both_none Da Db ea eb sign (zero_is Da A za is_a (none_a a)) (zero_is Db B zb is_b (none_b b))

-- where no digit is left, the number is zero
pub none_left : (digits behind : List ℕ) (more : ℕ) → length digits + length behind + more ≡ 0 → number_of (digits ++ behind) + more ≡ 0
none_left [] [] more is = omega arith
none_left [] (b ∷ behind) more is = absurd (let e : 0 + suc (length behind) + more ≡ 0 = is in omega (arith, e))
none_left (d ∷ digits) behind more is = absurd (let e : suc (length digits) + length behind + more ≡ 0 = is in omega (arith, e))

pub flags : (az az' bz bz' s s' d d' p p' : Bool) → az ≡ az' → bz ≡ bz' → s ≡ s' → d ≡ d' → p ≡ p' → same_value az bz s (d && p) ≡ same_value az' bz' s' (d' && p')
flags az az' bz bz' s s' d d' p p' a b e f g = cc
