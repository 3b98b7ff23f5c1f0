-- Stops that were seen ahead, from one place to another.
use Rattle.std.proofs.Common.{◌≡◌, ℕ, zero, suc, ◌+◌, ◌-◌, ◌*◌, ◌/◌, ◌^◌, ◌<◌, ◌≤◌, ◌⊎◌, inl, inr, Bool, true, false, cond, List, [], ◌∷◌, map, length, take, drop, refl, sym, ap, ◌∙◌, arith, drop-drop, length-take}
use Rattle.std.proofs.lemmas.Bool.{cases_lt}
use Rattle.std.proofs.lemmas.List.{drop_all, drop-take, drop-map}
use Rattle.std.proofs.Math.Nat.{zero-div, div-one}
use Rattle.std.proofs.lemmas.Nat.{shr-shr}
use Rattle.std.specs.List.{prefix_len}
use Rattle.std.specs.Simd.Lanes.{mask_l}
use lib.Count.{count_trailing_zeros}
use Rattle.json.specs.Run.{is_stop, is_plain}
use Rattle.json_texts.specs.Ahead.{IsAhead}
use Rattle.json_texts.proofs.Runs.{run_stops}

half : (b : Bool) (n : ℕ) → (cond b 1 0 + 2 * n) / 2 ≡ n
half true n = omega arith
half false n = omega arith

mask-drop : (ms : List Bool) (k : ℕ) → mask_l ms / 2 ^ k ≡ mask_l (drop k ms)
mask-drop [] k = zero-div (2 ^ k) ∙ ap mask_l (sym (drop_all k [] (omega arith)))
mask-drop (m ∷ ms) zero = div-one (mask_l (m ∷ ms))
mask-drop (m ∷ ms) (suc k) =
    let next : suc k ≡ 1 + k = omega arith in
    ap (λ n. mask_l (m ∷ ms) / 2 ^ n) next ∙ sym (shr-shr (mask_l (m ∷ ms)) 1 k) ∙ ap (λ n. n / 2 ^ k) (half m (mask_l ms)) ∙ mask-drop ms k

pub none_ahead : (text : List ℕ) (at : ℕ) → IsAhead text at 0
none_ahead text at = record { lanes = 0; few = omega arith; within = omega arith; seen = refl }

pub chunk_ahead : (text : List ℕ) (at n mask : ℕ) → at + n ≤ length text → n ≤ 64 → mask ≡ mask_l (map is_stop (take n (drop at text))) → IsAhead text at mask
chunk_ahead text at n mask within few seen = record { lanes = n; few = few; within = omega arith; seen = seen }

behind : (text : List ℕ) (at k n : ℕ) → (n < k) ⊎ (k ≤ n) → (m : ℕ) → n ≤ 64 → n ≤ length text - at → m ≡ mask_l (map is_stop (drop k (take n (drop at text)))) → IsAhead text (at + k) m
behind text at k n (inl past) m few within seen =
    let size = length-take n (drop at text) in
    record { lanes = 0; few = omega arith; within = omega arith; seen = seen ∙ ap (λ l. mask_l (map is_stop l)) (drop_all k (take n (drop at text)) (omega (arith, size, past))) }
behind text at k n (inr inside) m few within seen =
    let whole : n ≡ k + (n - k) = omega (arith, inside) in
    record {
      lanes = n - k;
      few = omega (arith, few);
      within = omega (arith, within);
      seen = seen
          ∙ ap (λ l. mask_l (map is_stop l))
          (ap (λ j. drop k (take j (drop at text))) whole ∙ drop-take k (n - k) (drop at text) ∙ ap (take (n - k)) (drop-drop k at text));
    }

-- some bytes further on
pub further : (text : List ℕ) (at k mask : ℕ) → IsAhead text at mask → IsAhead text (at + k) (mask / 2 ^ k)
further text at k mask a =
    let lanes = take a.lanes (drop at text) in
    behind text at k a.lanes (cases_lt a.lanes k) (mask / 2 ^ k) a.few a.within
    (ap (λ m. m / 2 ^ k) a.seen ∙ mask-drop (map is_stop lanes) k ∙ ap mask_l (drop-map is_stop k lanes))

first_of_lanes : (text : List ℕ) (at mask n : ℕ) → n ≤ 64 → n ≤ length text - at → mask ≡ mask_l (map is_stop (take n (drop at text))) → 0 < mask
    → prefix_len is_plain (drop at text) ≡ count_trailing_zeros 64 mask
first_of_lanes text at mask zero few within seen some = absurd (let none : mask ≡ 0 = seen in omega (arith, none, some))
first_of_lanes text at mask (suc n) few within seen some =
    run_stops is_stop is_plain (λ x. refl) text at (suc n) (omega (arith, within)) few (omega (arith, some, seen)) ∙ ap (count_trailing_zeros 64) (sym seen)

-- the first of them
pub first_ahead : (text : List ℕ) (at mask : ℕ) → IsAhead text at mask → 0 < mask → prefix_len is_plain (drop at text) ≡ count_trailing_zeros 64 mask
first_ahead text at mask a some = first_of_lanes text at mask a.lanes a.few a.within a.seen some
