-- The numbers that are in a set, as the list of those of which something holds.
use Rattle.std.proofs.Common.{◌≡◌, ℕ, zero, suc, ◌+◌, ◌-◌, ◌<◌, ◌≤◌, ◌&&◌, nat_le, List, [], ◌∷◌, length, slice_index_or, Bool, true, false, if◌then◌else◌, Option, Some, None, IfSome, slice_get, refl, ap, sym, ◌∙◌, arith}
use Rattle.std.proofs.lemmas.List.{get_or_past}
use Rattle.number_set.specs.Numbers.{Marked, is_in, numbers, numbers_from}
use Rattle.answer_desk.specs.State.{State}
use Rattle.peer_events.specs.declared.stage.Stage.{Stage}
use Rattle.peer_events.specs.declared.stage.Stage.TheVariants.{Gone}
use Rattle.peer_events.specs.Core.{Core, stage_at}
use Rattle.peer_events.specs.Turning.{is_ready_stage, ready_from, ready}
use Rattle.session_runs.specs.Runs.{AreRuns, has_unwritten, unwritten_numbers_from, unwritten_numbers}

-- of so many numbers from n on, those of which p is true
abbrev pub collect : (ℕ → Bool) → ℕ → ℕ → List ℕ
collect p n zero = []
collect p n (suc count) = if p n then n ∷ collect p (suc n) count else collect p (suc n) count

collect-same : (p q : ℕ → Bool) (n count : ℕ) → ((k : ℕ) → p k ≡ q k) → collect p n count ≡ collect q n count
collect-same p q n zero same = refl
collect-same p q n (suc count) same = rw (same n, collect-same p q (suc n) count same) refl

collect-none : (p : ℕ → Bool) (n count : ℕ) → ((k : ℕ) → n ≤ k → p k ≡ false) → collect p n count ≡ []
collect-none p n zero none = refl
collect-none p n (suc count) none = rw (none n (omega arith), collect-none p (suc n) count (λ k beyond. none k (omega (arith, beyond)))) refl

-- more numbers behind the last of which p is true
collect-beyond : (p : ℕ → Bool) (n count more : ℕ) → ((k : ℕ) → n + count ≤ k → p k ≡ false) → collect p n (count + more) ≡ collect p n count
collect-beyond p n zero more none = ap (collect p n) (let e : 0 + more ≡ more = omega arith in e) ∙ collect-none p n more (λ k beyond. none k (omega (arith, beyond)))
collect-beyond p n (suc count) more none =
    let rest : collect p (suc n) (count + more) ≡ collect p (suc n) count = collect-beyond p (suc n) count more (λ k beyond. none k (omega (arith, beyond))) in
    let total : suc count + more ≡ suc (count + more) = omega arith in
    ap (collect p n) total ∙ ap (λ ns. if p n then n ∷ ns else ns) rest

-- and before the first
collect-before : (p : ℕ → Bool) (n skip count : ℕ) → ((k : ℕ) → k < n + skip → p k ≡ false) → collect p n (skip + count) ≡ collect p (n + skip) count
collect-before p n zero count none = let e : 0 + count ≡ count = omega arith in let f : n + 0 ≡ n = omega arith in rw (e, f) refl
collect-before p n (suc skip) count none =
    let total : suc skip + count ≡ suc (skip + count) = omega arith in
    let place : n + suc skip ≡ suc n + skip = omega arith in
    ap (collect p n) total ∙ ap (λ b. if b then n ∷ collect p (suc n) (skip + count) else collect p (suc n) (skip + count)) (none n (omega arith))
    ∙ collect-before p (suc n) skip count (λ k before. none k (omega (arith, before, place)))
    ∙ ap (λ m. collect p m count) (sym place)

-- two ranges that hold all of which p is true
collect-ranges : (p : ℕ → Bool) (first count all : ℕ) → ((k : ℕ) → k < first → p k ≡ false) → ((k : ℕ) → first + count ≤ k → p k ≡ false) → ((k : ℕ) → all ≤ k → p k ≡ false)
    → collect p first count ≡ collect p 0 all
collect-ranges p first count all below beyond none =
    let start : 0 + first ≡ first = omega arith in
    let turned : (first + count) + all ≡ all + (first + count) = omega arith in
    ap (λ m. collect p m count) (sym start)
    ∙ sym (collect-before p 0 first count (λ k before. below k (omega (arith, before))))
    ∙ sym (collect-beyond p 0 (first + count) all (λ k past. beyond k (omega (arith, past))))
    ∙ ap (collect p 0) turned
    ∙ collect-beyond p 0 all (first + count) (λ k past. none k (omega (arith, past)))

-- ---- a set's numbers

numbers_from-collect : (p : ℕ → Bool) (n : ℕ) (marks : List Bool) → ((i : ℕ) → i < length marks → slice_index_or marks i false ≡ p (n + i)) → numbers_from n marks ≡ collect p n (length marks)
numbers_from-collect p n [] same = refl
numbers_from-collect p n (mark ∷ marks) same =
    let here : mark ≡ p n = same 0 (omega arith) ∙ ap p (let e : n + 0 ≡ n = omega arith in e) in
    let rest = numbers_from-collect p (suc n) marks (λ i below. same (suc i) (omega (arith, below)) ∙ ap p (let e : n + suc i ≡ suc n + i = omega arith in e)) in
    by_mark mark (p n) n marks here ∙ ap (λ ns. if p n then n ∷ ns else ns) rest
  where
    by_mark : (mark b : Bool) (n : ℕ) (marks : List Bool) → mark ≡ b → numbers_from n (mark ∷ marks) ≡ (if b then n ∷ numbers_from (suc n) marks else numbers_from (suc n) marks)
    by_mark true b n marks is = rw (← is) refl
    by_mark false b n marks is = rw (← is) refl

at_least : (a b : ℕ) → a ≤ b → nat_le a b ≡ true
at_least a b h = grind (arith, h)

not_at_least : (a b : ℕ) → b < a → nat_le a b ≡ false
not_at_least a b h = grind (arith, h)

and-false : (b : Bool) → (b && false) ≡ false
and-false true = refl
and-false false = refl

set-numbers : (s : Marked) → numbers s ≡ collect (is_in s) s.first (length s.marks)
set-numbers s =
    numbers_from-collect (is_in s) s.first s.marks (λ i below.
    let place : s.first + i - s.first ≡ i = omega arith in
    sym (ap (λ b. b && slice_index_or s.marks (s.first + i - s.first) false) (at_least s.first (s.first + i) (omega arith)) ∙ ap (λ j. slice_index_or s.marks j false) place))

in-below : (s : Marked) (k : ℕ) → k < s.first → is_in s k ≡ false
in-below s k before = ap (λ b. b && slice_index_or s.marks (k - s.first) false) (not_at_least s.first k before)

in-beyond : (s : Marked) (k : ℕ) → s.first + length s.marks ≤ k → is_in s k ≡ false
in-beyond s k beyond = ap (λ b. nat_le s.first k && b) (get_or_past s.marks (k - s.first) false (omega (arith, beyond))) ∙ and-false (nat_le s.first k)

-- ---- the stages' numbers

ready-collect : (d : State) (p : ℕ → Bool) (n : ℕ) (stages : List Stage) → ((i : ℕ) → p (n + i) ≡ is_ready_stage d (slice_index_or stages i Gone)) → ready_from d n stages ≡ collect p n (length stages)
ready-collect d p n [] same = refl
ready-collect d p n (stage ∷ stages) same =
    let here : p n ≡ is_ready_stage d stage = ap p (let e : n ≡ n + 0 = omega arith in e) ∙ same 0 in
    let next : n + 1 ≡ suc n = omega arith in
    let rest = ready-collect d p (suc n) stages (λ i. ap p (let e : suc n + i ≡ n + suc i = omega arith in e) ∙ same (suc i)) in
    ap (λ m. if is_ready_stage d stage then n ∷ ready_from d m stages else ready_from d m stages) next
    ∙ ap (λ b. if b then n ∷ ready_from d (suc n) stages else ready_from d (suc n) stages) (sym here)
    ∙ ap (λ ns. if p n then n ∷ ns else ns) rest

unwritten-collect : (p : ℕ → Bool) (n : ℕ) (stages : List Stage) → ((i : ℕ) → p (n + i) ≡ has_unwritten (slice_index_or stages i Gone)) → unwritten_numbers_from n stages ≡ collect p n (length stages)
unwritten-collect p n [] same = refl
unwritten-collect p n (stage ∷ stages) same =
    let here : p n ≡ has_unwritten stage = ap p (let e : n ≡ n + 0 = omega arith in e) ∙ same 0 in
    let next : n + 1 ≡ suc n = omega arith in
    let rest = unwritten-collect p (suc n) stages (λ i. ap p (let e : suc n + i ≡ n + suc i = omega arith in e) ∙ same (suc i)) in
    ap (λ m. if has_unwritten stage then n ∷ unwritten_numbers_from m stages else unwritten_numbers_from m stages) next
    ∙ ap (λ b. if b then n ∷ unwritten_numbers_from (suc n) stages else unwritten_numbers_from (suc n) stages) (sym here)
    ∙ ap (λ ns. if p n then n ∷ ns else ns) rest

pub ready-numbers : (core : Core) (r u : Marked) → AreRuns core r u → numbers r ≡ ready core
ready-numbers core r u inv =
    set-numbers r
    ∙ collect-ranges (is_in r) r.first (length r.marks) (length core.stages) (in-below r) (in-beyond r)
    (λ k beyond. inv.ready k ∙ ap (is_ready_stage core.desk) (get_or_past core.stages k Gone beyond))
    ∙ sym (ready-collect core.desk (is_in r) 0 core.stages (λ i. ap (is_in r) (let e : 0 + i ≡ i = omega arith in e) ∙ inv.ready i))

pub unwritten-numbers : (core : Core) (r u : Marked) → AreRuns core r u → numbers u ≡ unwritten_numbers core
unwritten-numbers core r u inv =
    set-numbers u
    ∙ collect-ranges (is_in u) u.first (length u.marks) (length core.stages) (in-below u) (in-beyond u)
    (λ k beyond. inv.unwritten k ∙ ap has_unwritten (get_or_past core.stages k Gone beyond))
    ∙ sym (unwritten-collect (is_in u) 0 core.stages (λ i. ap (is_in u) (let e : 0 + i ≡ i = omega arith in e) ∙ inv.unwritten i))

ready-found-if : (known : Bool) (d : State) (n : ℕ) (stage : Stage) (stages : List Stage) (place m : ℕ) → is_ready_stage d stage ≡ known
    → ((k : ℕ) → slice_get (ready_from d (n + 1) stages) k ≡ Some m → (n + 1 ≤ m) × (is_ready_stage d (slice_index_or stages (m - (n + 1)) Gone) ≡ true))
    → slice_get (ready_from d n (stage ∷ stages)) place ≡ Some m → (n ≤ m) × (is_ready_stage d (slice_index_or (stage ∷ stages) (m - n) Gone) ≡ true)
ready-found-if known d n stage stages place m is rest found = ready-found-at known place is found
  where
    behind : (k : ℕ) → slice_get (ready_from d (n + 1) stages) k ≡ Some m → (n ≤ m) × (is_ready_stage d (slice_index_or (stage ∷ stages) (m - n) Gone) ≡ true)
    behind k there =
        let both = rest k there in
        let place_is : m - n ≡ suc (m - (n + 1)) = omega (arith, both.0) in
        (omega (arith, both.0), rw place_is both.1)

    ready-found-at : (b : Bool) (k : ℕ) → is_ready_stage d stage ≡ b → slice_get (ready_from d n (stage ∷ stages)) k ≡ Some m → (n ≤ m) × (is_ready_stage d (slice_index_or (stage ∷ stages) (m - n) Gone) ≡ true)
    ready-found-at false k is_not there = behind k (ap (λ b. slice_get (if b then n ∷ ready_from d (n + 1) stages else ready_from d (n + 1) stages) k) (sym is_not) ∙ there)
    ready-found-at true zero is_so there =
        let first : Some n ≡ Some m = ap (λ b. slice_get (if b then n ∷ ready_from d (n + 1) stages else ready_from d (n + 1) stages) 0) (sym is_so) ∙ there in
        let same : n ≡ m = cc in
        let place_is : m - n ≡ 0 = omega (arith, same) in
        (omega (arith, same), rw place_is is_so)
    ready-found-at true (suc k) is_so there =
        behind k (ap (λ b. slice_get (if b then n ∷ ready_from d (n + 1) stages else ready_from d (n + 1) stages) (suc k)) (sym is_so) ∙ there)

ready-found : (d : State) (n : ℕ) (stages : List Stage) (place m : ℕ) → slice_get (ready_from d n stages) place ≡ Some m
    → (n ≤ m) × (is_ready_stage d (slice_index_or stages (m - n) Gone) ≡ true)
ready-found d n [] place m found = cc
ready-found d n (stage ∷ stages) place m found =
    ready-found-if (is_ready_stage d stage) d n stage stages place m refl (λ k there. ready-found d (n + 1) stages k m there) found

pub ready-is : (core : Core) (place : ℕ) (result : Option ℕ) → result ≡ slice_get (ready core) place → IfSome result (λ n. is_ready_stage core.desk (stage_at core n) ≡ true)
ready-is core place None is = tt
ready-is core place (Some n) is =
    let place_is : n - 0 ≡ n = omega arith in
    ap (λ k. is_ready_stage core.desk (slice_index_or core.stages k Gone)) (sym place_is) ∙ (ready-found core.desk 0 core.stages place n (sym is)).1
