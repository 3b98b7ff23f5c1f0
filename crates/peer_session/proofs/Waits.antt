-- The turns that a handler waits for ascend.
use Rattle.std.proofs.Common.{◌≡◌, ◌≢◌, ℕ, zero, suc, ◌+◌, ◌<◌, ◌≤◌, ◌==◌, List, [], ◌∷◌, length, drop, get_or, not, Bool, true, false, if◌then◌else◌, refl, subst, ap, sym, ◌∙◌, arith}
use Rattle.std.specs.List.{filter, range_with_len}
use Rattle.std.proofs.lemmas.List.{drop_more}
use Rattle.std.specs.Cmp.{unsigned_Decides}
use Rattle.handler_future.specs.declared.message.Message.{Message}
use Rattle.handler_future.specs.declared.message.Message.TheVariants as message
use Rattle.handler_future.specs.Front.{Heard, turns_of, last_turns, unheard, is_heard}
use Rattle.peer_session.specs.Inner.Waits.{StandsAlone}

abbrev pub Ascends : ℕ → List ℕ → Type 0
Ascends bound [] = Unit {0}
Ascends bound (x ∷ xs) = (bound ≤ x) × Ascends (suc x) xs

ascends-from : (lower bound : ℕ) (xs : List ℕ) → lower ≤ bound → Ascends bound xs → Ascends lower xs
ascends-from lower bound [] less up = tt
ascends-from lower bound (x ∷ xs) less up = (omega (arith, less, up.0), up.1)

ascends-range : (first count : ℕ) → Ascends first (range_with_len first count)
ascends-range first zero = tt
ascends-range first (suc count) = let next : first + 1 ≡ suc first = omega arith in (omega arith, rw next (ascends-range (suc first) count))

ascends-filter-if : (p : ℕ → Bool) (hit : Bool) (bound x : ℕ) (xs : List ℕ) → p x ≡ hit → bound ≤ x → Ascends (suc x) (filter p xs) → Ascends bound (filter p (x ∷ xs))
ascends-filter-if p true bound x xs is less up = rw is (less, up)
ascends-filter-if p false bound x xs is less up = rw is (ascends-from bound (suc x) (filter p xs) (omega (arith, less)) up)

pub ascends-filter : (p : ℕ → Bool) (bound : ℕ) (xs : List ℕ) → Ascends bound xs → Ascends bound (filter p xs)
ascends-filter p bound [] up = tt
ascends-filter p bound (x ∷ xs) up = ascends-filter-if p (p x) bound x xs refl up.0 (ascends-filter p (suc x) xs up.1)

ascends-turns : (m : Message) → Ascends 0 (turns_of m)
ascends-turns (message.Call t o) = (omega arith, tt)
ascends-turns (message.Calls t os) = ascends-from 0 t (range_with_len t (length os)) (omega arith) (ascends-range t (length os))
ascends-turns (message.Notice o) = tt

ascends-last : (ms : List Message) → Ascends 0 (last_turns ms)
ascends-last [] = tt
ascends-last (m ∷ []) = ascends-turns m
ascends-last (m ∷ n ∷ ms) = ascends-last (n ∷ ms)

pub ascends-unheard : (heard : Heard) (ms : List Message) → Ascends 0 (unheard heard (last_turns ms))
ascends-unheard heard ms = ascends-filter (λ t. not (is_heard heard t)) 0 (last_turns ms) (ascends-last ms)

differ : (x t : ℕ) → x ≢ t → (x == t) ≡ false
differ x t apart = differ-if (x == t) refl
  where
    differ-if : (hit : Bool) → (x == t) ≡ hit → (x == t) ≡ false
    differ-if true is = absurd (apart ((unsigned_Decides x t).0 is))
    differ-if false is = is

none-left : (t : ℕ) (xs : List ℕ) → Ascends (suc t) xs → filter (λ u. not (u == t)) xs ≡ xs
none-left t [] up = refl
none-left t (x ∷ xs) up =
    let apart : (x == t) ≡ false = differ x t (λ same. omega (arith, same, up.0)) in
    ap (λ b. if not b then x ∷ filter (λ u. not (u == t)) xs else filter (λ u. not (u == t)) xs) apart ∙ ap (λ ys. x ∷ ys) (none-left t xs (ascends-from (suc t) (suc x) xs (omega (arith, up.0)) up.1))

reaches : (bound k : ℕ) (xs : List ℕ) (d : ℕ) → Ascends bound xs → k < length xs → bound ≤ get_or xs k d
reaches bound k [] d up below = absurd (omega (arith, below))
reaches bound zero (x ∷ xs) d up below = up.0
reaches bound (suc k) (x ∷ xs) d up below = let more = reaches (suc x) k xs d up.1 (omega (arith, below)) in omega (arith, more, up.0)

pub without-one : (bound k : ℕ) (xs : List ℕ) (t : ℕ) → Ascends bound xs → k < length xs → t ≡ get_or xs k t → drop k (filter (λ u. not (u == t)) xs) ≡ drop (k + 1) xs
without-one bound k [] t up below is = absurd (omega (arith, below))
without-one bound zero (x ∷ xs) t up below is =
    let hit : (x == t) ≡ true = (unsigned_Decides x t).1 (sym is) in
    ap (λ b. if not b then x ∷ filter (λ u. not (u == t)) xs else filter (λ u. not (u == t)) xs) hit ∙ none-left t xs (ascends-from (suc t) (suc x) xs (omega (arith, is)) up.1)
without-one bound (suc k) (x ∷ xs) t up below is =
    let more : suc x ≤ get_or xs k t = reaches (suc x) k xs t up.1 (omega (arith, below)) in
    let apart : (x == t) ≡ false = differ x t (λ same. omega (arith, same, more, is)) in
    ap (λ b. drop (suc k) (if not b then x ∷ filter (λ u. not (u == t)) xs else filter (λ u. not (u == t)) xs)) apart
    ∙ without-one (suc x) k xs t up.1 (omega (arith, below)) is
    ∙ ap (λ n. drop n (x ∷ xs)) (let e : suc (k + 1) ≡ suc k + 1 = omega arith in e)

-- the turn at a place, of those that a handler waits for
pub stands-alone : (heard : Heard) (ms : List Message) (waits : List ℕ) (place t : ℕ) → waits ≡ unheard heard (last_turns ms) → place < length waits → t ≡ get_or waits place t
    → StandsAlone waits place t
stands-alone heard ms waits place t last below is = record {
  within = below;
  rest = drop_more waits place t below ∙ ap (λ u. u ∷ drop (place + 1) waits) (sym is);
  others = without-one 0 place waits t (subst (Ascends 0) (sym last) (ascends-unheard heard ms)) below is;
}

pub none-further : (waits : List ℕ) (place : ℕ) → length waits ≤ place → drop place waits ≡ []
none-further waits place past = drop_past waits place past
  where
    drop_past : (xs : List ℕ) (k : ℕ) → length xs ≤ k → drop k xs ≡ []
    drop_past [] zero past = refl
    drop_past [] (suc k) past = refl
    drop_past (x ∷ xs) zero past = absurd (omega (arith, past))
    drop_past (x ∷ xs) (suc k) past = drop_past xs k (omega (arith, past))

pub get-any : (xs : List ℕ) (k d e : ℕ) → k < length xs → get_or xs k d ≡ get_or xs k e
get-any [] k d e below = absurd (omega (arith, below))
get-any (x ∷ xs) zero d e below = refl
get-any (x ∷ xs) (suc k) d e below = get-any xs k d e (omega (arith, below))
