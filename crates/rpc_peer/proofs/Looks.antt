-- How many slots are free, as jobs come home and go out.
use Rattle.std.proofs.Common.{◌≡◌, ℕ, zero, suc, ◌+◌, ◌<◌, ◌≤◌, List, [], ◌∷◌, Bool, true, false, cond, Option, Some, None, Result, Ok, Err, IfOk, OnErr, is_ok, is_some, get_or, length, refl, sym, ap, subst, ◌∙◌, arith}
use Rattle.std.specs.Prelude.{slice_get, slice_set, position, if◌then◌else◌}
use Rattle.std.proofs.lemmas.List.Sums.{sum_by-cons, sum_by-set, get_or-le-sum_by, count_by-le-length}
use Rattle.std.proofs.lemmas.List.Quantifiers.{position-Some}
use Rattle.job_slots.specs.declared.limits.TheConstants.{MOST_SLOTS}
use Rattle.job_slots.specs.declared.view.Look.{Look}
use Rattle.job_slots.specs.declared.view.Look.TheVariants.{Free, In}
use Rattle.job_slots.specs.Looks.{is_free}
use Rattle.rpc_peer.specs.Moves.{free_count, BringsHome, BringsSomeHome}

module _ {J : Type 0} where
  free-cons : (look : Look J) (looks : List (Look J)) → free_count (look ∷ looks) ≡ cond (is_free look) 1 0 + free_count looks
  free-cons look looks = sum_by-cons (λ (l : Look J). cond (is_free l) 1 0) look looks

  same-look : (look other : Look J) → Some look ≡ Some other → look ≡ other
  same-look look other is = cc

  -- a slot is free now that had a job
  swapped : (job : J) (looks : List (Look J)) → free_count (Free ∷ looks) ≡ free_count (In job ∷ looks) + 1
  swapped job looks =
      let free : free_count (Free ∷ looks) ≡ 1 + free_count looks = free-cons Free looks in
      let used : free_count (In job ∷ looks) ≡ 0 + free_count looks = free-cons (In job) looks in
      omega (arith, free, used)

  behind : (look : Look J) (some many : List (Look J)) → free_count many ≡ free_count some + 1 → free_count (look ∷ many) ≡ free_count (look ∷ some) + 1
  behind look some many more = omega (arith, more, free-cons look some, free-cons look many)

  -- a job came home
  pub free-home : (looks : List (Look J)) (slot : ℕ) (job : J) → slice_get looks slot ≡ Some (In job)
      → free_count (slice_set looks slot Free) ≡ free_count looks + 1
  free-home [] slot job is = absurd (cc)
  free-home (look ∷ looks) zero job is =
      subst (λ (l : Look J). free_count (Free ∷ looks) ≡ free_count (l ∷ looks) + 1) (sym (same-look look (In job) is)) (swapped job looks)
  free-home (look ∷ looks) (suc slot) job is = behind look looks (slice_set looks slot Free) (free-home looks slot job is)

  some-free : (looks : List (Look J)) (slot : ℕ) → position is_free looks ≡ Some slot → 0 < free_count looks
  some-free looks slot is =
      let at = position-Some is_free looks slot Free is in
      let one : ◌≡◌ {A = ℕ} (cond (is_free (get_or looks slot Free)) 1 0) 1 = ap (λ b. cond b 1 0) at.1 in
      omega (arith, one, get_or-le-sum_by (λ (l : Look J). cond (is_free l) 1 0) looks slot Free at.0)

  none-at : (looks : List (Look J)) (found : Option ℕ) → position is_free looks ≡ found → free_count looks ≡ 0 → found ≡ None
  none-at looks None is none = refl
  none-at looks (Some slot) is none = absurd (omega (arith, none, some-free looks slot is))

  pub none-free : (looks : List (Look J)) → free_count looks ≡ 0 → position is_free looks ≡ None
  none-free looks none = none-at looks (position is_free looks) refl none

  -- a job went out
  pub free-out : (looks : List (Look J)) (slot : ℕ) (job : J) → position is_free looks ≡ Some slot
      → free_count looks ≡ free_count (slice_set looks slot (In job)) + 1
  free-out looks slot job is =
      let at = position-Some is_free looks slot Free is in
      let one : ◌≡◌ {A = ℕ} (cond (is_free (get_or looks slot Free)) 1 0) 1 = ap (λ b. cond b 1 0) at.1 in
      let all : free_count (slice_set looks slot (In job)) + cond (is_free (get_or looks slot Free)) 1 0 ≡ free_count looks + 0 =
      sum_by-set (λ (l : Look J). cond (is_free l) 1 0) looks slot (In job) Free at.0 in
      omega (arith, one, all)

  -- as many handles as there are free slots, at least
  pub handle-back : {A E : Type 0} (before after : List (Look J)) (slot : ℕ) (r : Result A E) (had now room : ℕ) → BringsHome slot before true after
      → length after ≤ MOST_SLOTS → free_count before ≤ had → MOST_SLOTS ≤ room → now ≡ (if is_ok r then had + 1 else had) → OnErr r (room ≤ had)
      → free_count after ≤ now
  handle-back before after slot (Ok done) had now room comes fits enough wide pushed full =
      let more = free-home before slot comes.0.0 comes.0.1 in
      let same : free_count after ≡ free_count (slice_set before slot Free) = ap free_count comes.1 in
      omega (arith, more, same, enough, pushed)
  handle-back before after slot (Err back) had now room comes fits enough wide pushed full =
      omega (arith, count_by-le-length is_free after, fits, wide, pushed, full)

  -- One handle fewer, and one free slot: a job goes out where one is free.
  pub handle-gone : {E : Type 0} (before after : List (Look J)) (job : J) (r : Result ℕ E) (had now : ℕ) → true ≡ is_some (position is_free before)
      → IfOk r (λ slot. position is_free before ≡ Some slot) → IfOk r (λ slot. after ≡ slice_set before slot (In job)) → OnErr r (position is_free before ≡ None)
      → free_count before ≤ had → now + 1 ≡ had → free_count after ≤ now
  handle-gone before after job (Ok slot) had now room first placed full enough popped =
      let fewer = free-out before slot job first in
      let same : free_count after ≡ free_count (slice_set before slot (In job)) = ap free_count placed in
      omega (arith, fewer, same, enough, popped)
  handle-gone before after job (Err back) had now room first placed full enough popped =
      let none : true ≡ false = room ∙ ap is_some full in absurd (cc)

  no-room-at : (looks : List (Look J)) (found : Option ℕ) → position is_free looks ≡ found → true ≡ is_some found → free_count looks ≤ 0 → ⊥
  no-room-at looks None is room none = cc
  no-room-at looks (Some slot) is room none = omega (arith, none, some-free looks slot is)

  -- where a slot is free, a handle is there
  pub has-handle : (looks : List (Look J)) (had : ℕ) → true ≡ is_some (position is_free looks) → free_count looks ≤ had → 0 < had
  has-handle looks zero room enough = absurd (no-room-at looks (position is_free looks) refl room enough)
  has-handle looks (suc had) room enough = omega arith

  rises : (before looks after : List (Look J)) → free_count before ≤ free_count looks → (slot : ℕ) → BringsHome slot looks true after → free_count before < free_count after
  rises before looks after so_far slot comes =
      let more = free-home looks slot comes.0.0 comes.0.1 in
      subst (λ l. free_count before < free_count l) (sym comes.1) (omega (arith, more, so_far))

  pub then-home : (before looks after : List (Look J)) (had : Bool) (slot : ℕ) → BringsSomeHome before had looks → BringsHome slot looks true after
      → BringsSomeHome before true after
  then-home before looks after true slot so_far comes = rises before looks after (omega (arith, so_far)) slot comes
  then-home before looks after false slot so_far comes =
      rises before looks after (subst (λ l. free_count before ≤ free_count l) (sym so_far) (omega arith)) slot comes

  pub else-home : (before looks after : List (Look J)) (had : Bool) → BringsSomeHome before had looks → after ≡ looks → BringsSomeHome before had after
  else-home before looks after had so_far same = subst (λ l. BringsSomeHome before had l) (sym same) so_far

  -- ---- all that can go out

  pub out-more : (before looks after : List (Look J)) (slot gone : ℕ) (job : J) → free_count before ≡ free_count looks + gone → position is_free looks ≡ Some slot
      → after ≡ slice_set looks slot (In job) → free_count before ≡ free_count after + (gone + 1)
  out-more before looks after slot gone job told first placed =
      let fewer = free-out looks slot job first in
      let same : free_count after ≡ free_count (slice_set looks slot (In job)) = ap free_count placed in
      omega (arith, told, fewer, same)

  -- As many went out as there may be slots, so no slot is free.
  pub none-left : (before after : List (Look J)) (gone : ℕ) → length before ≤ MOST_SLOTS → free_count before ≡ free_count after + gone → MOST_SLOTS ≤ gone
      → position is_free after ≡ None
  none-left before after gone fits told many = none-free after (omega (arith, count_by-le-length is_free before, fits, told, many))
