-- Marking the requests that a cancel reaches, one at a time.
use Rattle.std.proofs.Common.{◌≡◌, ℕ, suc, zero, ◌<◌, ◌&&◌, ◌||◌, not, List, [], ◌∷◌, set, refl, ap, arith, Bool, true, false, true≢false, sym, ◌∙◌, Option, Some, None, IfSome, IfNone, is_some}
use Rattle.message_ids.specs.declared.id.Id.{Id}
use Rattle.open_numbers.specs.declared.kept.Kept.{Kept}
use Rattle.open_numbers.specs.declared.kept.Kept.TheVariants.{Open, Answered}
use Rattle.message_ids.specs.Ids.{has_id}
use Rattle.open_numbers.specs.Kept.{kept_at, with_mark, with_reach}
use Rattle.open_numbers.specs.Numbers.{with_marks_below, NoneReachedBelow, IsLowestReached}
use Rattle.open_numbers.specs.Requests.{is_reached_by, count_in_reach}
use Rattle.open_numbers.proofs.Indexed.{fewer-marked}

-- a cancel leaves what it doesn't reach

left_if : (has marked : Bool) → (has && not marked) ≡ false → (marked || has) ≡ marked
left_if has true is = refl
left_if true false is = absurd (true≢false is)
left_if false false is = refl

pub unreached-left : (entry : Option Kept) (id : Id) → is_reached_by id entry ≡ false → with_mark id entry ≡ entry
unreached-left (Some (Open n)) id is = ap (λ b. Some (Open (record n { is_marked = b }))) (left_if (has_id id n.id) n.is_marked is)
unreached-left (Some (Answered other reply)) id is = refl
unreached-left None id is = refl

-- and marks what it reaches

mark_if : (has marked : Bool) → (has && not marked) ≡ true → (marked || has) ≡ true
mark_if has true is = refl
mark_if true false is = refl
mark_if false false is = is

pub reached-marked : (entry : Option Kept) (id : Id) → is_reached_by id entry ≡ true → with_mark id (with_reach entry) ≡ with_mark id entry
reached-marked (Some (Open n)) id is = ap (λ b. Some (Open (record n { is_marked = b }))) (sym (mark_if (has_id id n.id) n.is_marked is))
reached-marked (Some (Answered other reply)) id is = refl
reached-marked None id is = refl

pub with_marks_below-none : (id : Id) (before : ℕ) (entries : List (Option Kept)) → NoneReachedBelow id before entries → with_marks_below id before entries ≡ entries
with_marks_below-none id zero entries none = refl
with_marks_below-none id (suc before) [] none = refl
with_marks_below-none id (suc before) (e ∷ es) none =
    rw (unreached-left e id (none zero (omega arith)), with_marks_below-none id before es (λ k below. none (suc k) (omega arith))) refl

-- nothing else becomes of it where one of the requests that it reaches was marked before

pub with_marks_below-one : (id : Id) (before n : ℕ) (entries : List (Option Kept)) → n < before → is_reached_by id (kept_at entries n) ≡ true
    → with_marks_below id before (set entries n (with_reach (kept_at entries n))) ≡ with_marks_below id before entries
with_marks_below-one id zero n entries below hit = absurd (omega arith)
with_marks_below-one id (suc before) n [] below hit = refl
with_marks_below-one id (suc before) zero (e ∷ es) below hit = ap (λ e'. e' ∷ with_marks_below id before es) (reached-marked e id hit)
with_marks_below-one id (suc before) (suc n) (e ∷ es) below hit = ap (λ es'. with_mark id e ∷ es') (with_marks_below-one id before n es (omega arith) hit)

-- one step of the walk over the requests that a cancel reaches

abbrev pub MarkedOne : List (Option Kept) → List (Option Kept) → ℕ → Type 0
MarkedOne was now n = now ≡ set was n (with_reach (kept_at was n))

pub marks-step : (id : Id) (before : ℕ) (was now all : List (Option Kept)) (result : Option ℕ) → is_some result ≡ true → IsLowestReached id before was result
    → IfSome result (MarkedOne was now) → with_marks_below id before was ≡ all → with_marks_below id before now ≡ all
marks-step id before was now all None some lowest one so_far = absurd (true≢false (sym some))
marks-step id before was now all (Some n) some lowest one so_far =
    ap (with_marks_below id before) one ∙ with_marks_below-one id before n was lowest.0 lowest.1 ∙ so_far

pub marks-fewer : (id : Id) (before : ℕ) (was now : List (Option Kept)) (result : Option ℕ) → is_some result ≡ true → IsLowestReached id before was result
    → IfSome result (MarkedOne was now) → count_in_reach now < count_in_reach was
marks-fewer id before was now None some lowest one = absurd (true≢false (sym some))
marks-fewer id before was now (Some n) some lowest one = omega (arith, ap count_in_reach one, fewer-marked was n id lowest.1)

pub marks-done : (id : Id) (before : ℕ) (was now all : List (Option Kept)) (result : Option ℕ) → is_some result ≡ false → IsLowestReached id before was result
    → IfNone result (now ≡ was) → with_marks_below id before was ≡ all → now ≡ all
marks-done id before was now all None none lowest end so_far = end ∙ sym (with_marks_below-none id before was lowest) ∙ so_far
marks-done id before was now all (Some n) none lowest end so_far = absurd (true≢false none)
