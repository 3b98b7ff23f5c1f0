-- What a closed table has, from the last lawful state.
use Rattle.std.proofs.Common.{◌≡◌, ℕ, suc, ◌+◌, ◌-◌, ◌≤◌, inl, inr, true, List, [], ◌∷◌, ◌++◌, map, length, drop, set, append_assoc, sym, refl, ap, ◌∙◌, subst, arith}
use Rattle.std.specs.Prelude.{Option, Some, count_by, if◌then◌else◌}
use Rattle.std.specs.Option.{option_to_list}
use Rattle.std.specs.List.{list_all}
use mathlib.Core.Option.{some, some-injective}
use lib.ListN.{get_elem?, length-map}
use Rattle.atomic_table.specs.Table.{Seen, Final}
use Rattle.atomic_table.proofs.Lists.{set_else, drop_at}
use Rattle.job_slots.specs.declared.view.View.{View}
use Rattle.job_slots.specs.declared.view.View.TheVariants.{Busy, Spent}
use Rattle.job_slots.specs.Phases.{Phase, empty, filling, ready, running, done, homing, word_of, home_of, look_of, IsTurnedOnce}
use Rattle.job_slots.specs.Looks.{is_clerk, is_worker, is_settled, view_looks, view_live}
use Rattle.job_slots.specs.Lawful.{LawfulTable}
use Rattle.job_slots.specs.Closing.{ComesBack, EndsLawful, jobs_at_home}
use Rattle.job_slots.specs.Inner.Kept.{is_kept, kept}
use Rattle.job_slots.proofs.Lists.{count_set}
use Rattle.job_slots.proofs.Views.{clerk_is}
use Rattle.job_slots.proofs.Clerks.{knows}

module _ {J : Type 0} where
  -- how many slots a worker has
  abbrev running_count : List (Phase J) → ℕ
  running_count [] = 0
  running_count (empty ∷ ps) = running_count ps
  running_count (filling ∷ ps) = running_count ps
  running_count (ready j ∷ ps) = running_count ps
  running_count (running w j ∷ ps) = suc (running_count ps)
  running_count (done j j' ∷ ps) = running_count ps
  running_count (homing j j' ∷ ps) = running_count ps

  -- each running slot, from the number `first` on, is named by a worker's view
  abbrev AreNamed : List (Phase J) → ℕ → List (View J) → Type 0
  AreNamed ps first views = (k n w : ℕ) (job : J) → n ≡ k + first → get_elem? ps k ≡ some (running w job) → (shut : List ℕ) × (get_elem? views w ≡ some (Busy shut n job))

  later : (p : Phase J) (ps : List (Phase J)) (first : ℕ) (views : List (View J)) → AreNamed (p ∷ ps) first views → AreNamed ps (suc first) views
  later p ps first views named k n w job e at = named (suc k) n w job (omega arith) at

  -- no more slots run than there are workers
  runners : (ps : List (Phase J)) (first : ℕ) (views : List (View J)) → AreNamed ps first views → running_count ps ≤ count_by is_worker views
  runners [] first views named = omega arith
  runners (empty ∷ ps) first views named = runners ps (suc first) views (later empty ps first views named)
  runners (filling ∷ ps) first views named = runners ps (suc first) views (later filling ps first views named)
  runners (ready j ∷ ps) first views named = runners ps (suc first) views (later (ready j) ps first views named)
  runners (done j j' ∷ ps) first views named = runners ps (suc first) views (later (done j j') ps first views named)
  runners (homing j j' ∷ ps) first views named = runners ps (suc first) views (later (homing j j') ps first views named)
  runners (running w j ∷ ps) first views named =
      let here = named 0 first w j (omega arith) refl in
      let gone : count_by is_worker (set views w Spent) + 1 ≡ count_by is_worker views + 0 = count_set is_worker views w (Busy here.0 first j) Spent here.1 in
      let rest : running_count ps ≤ count_by is_worker (set views w Spent) = runners ps (suc first) (set views w Spent) (λ k n other job e at.
      let b = named (suc k) n other job (omega arith) at in
      (b.0, set_else views w other Spent (λ same. let p : Busy here.0 first j ≡ Busy b.0 n job = some-injective _ _ (sym here.1 ∙ subst (λ (y : ℕ). get_elem? views y ≡ some (Busy b.0 n job)) same b.1) in let m : first ≡ n = cc in omega arith) ∙ b.1)) in
      omega (arith, gone, rest)

  -- where each value at home is the slot's value, what is kept is what is at home
  kept_home : (ps : List (Phase J)) (xs : List (Option J)) → length ps ≡ length xs
      → ((k : ℕ) (y : Option J) → get_elem? (map home_of ps) k ≡ some (some y) → get_elem? xs k ≡ some y)
      → list_all is_settled (map look_of ps) ≡ true → kept (map word_of ps) xs ≡ jobs_at_home ps
  kept_home [] xs long home settled = refl
  kept_home (p ∷ ps) [] long home settled = absurd (omega arith)
  kept_home (empty ∷ ps) (x ∷ xs) long home settled = kept_home ps xs (omega arith) (λ k. home (suc k)) settled
  kept_home (filling ∷ ps) (x ∷ xs) long home settled = cc
  kept_home (ready j ∷ ps) (x ∷ xs) long home settled =
      ap (λ (y : Option J). option_to_list y ++ kept (map word_of ps) xs) (some-injective x (Some j) (home 0 (Some j) refl))
      ∙ ap (λ (ys : List J). j ∷ ys) (kept_home ps xs (omega arith) (λ k. home (suc k)) settled)
  kept_home (running w j ∷ ps) (x ∷ xs) long home settled = kept_home ps xs (omega arith) (λ k. home (suc k)) settled
  kept_home (done j j' ∷ ps) (x ∷ xs) long home settled =
      ap (λ (y : Option J). option_to_list y ++ kept (map word_of ps) xs) (some-injective x (Some j') (home 0 (Some j') refl))
      ∙ ap (λ (ys : List J). j' ∷ ys) (kept_home ps xs (omega arith) (λ k. home (suc k)) settled)
  kept_home (homing j j' ∷ ps) (x ∷ xs) long home settled = cc

  module _ (turned : J → J → Type 0) where
    -- what is at home in a lawful table comes back
    comes : (ps : List (Phase J)) (away : ℕ) → ((k : ℕ) (p : Phase J) → get_elem? ps k ≡ some p → IsTurnedOnce turned p)
        → list_all is_settled (map look_of ps) ≡ true → running_count ps ≤ away → ComesBack turned away (map look_of ps) (jobs_at_home ps)
    comes [] away once settled few = refl
    comes (empty ∷ ps) away once settled few = comes ps away (λ k. once (suc k)) settled few
    comes (filling ∷ ps) away once settled few = cc
    comes (ready j ∷ ps) away once settled few = inl (j, jobs_at_home ps, refl, inl refl, comes ps away (λ k. once (suc k)) settled few)
    comes (running w j ∷ ps) away once settled few = inr (away - 1, omega arith, comes ps (away - 1) (λ k. once (suc k)) settled (omega arith))
    comes (done j j' ∷ ps) away once settled few = inl (j', jobs_at_home ps, refl, inr (once 0 (done j j') refl), comes ps away (λ k. once (suc k)) settled few)
    comes (homing j j' ∷ ps) away once settled few = cc

    -- what a closed table holds is what was at home in its last lawful state
    pub ends : (id : ℕ) (v : View J) (words : List ℕ) (xs : List (Option J)) → is_clerk v ≡ true → list_all is_settled (view_looks v) ≡ true
        → Final (Seen (LawfulTable turned) id v) words xs → EndsLawful turned v (kept words xs)
    ends id v words xs clerk settled last = let r = last.1.0 in let mine = knows turned last.0 r id (view_looks v) (view_live v) (last.1.1 ∙ ap some (clerk_is v clerk)) in
        let long : length r.phases ≡ length xs = sym (length-map r.phases home_of) ∙ ap length (sym r.homes) ∙ last.3 in (
          last.0,
          r,
          subst (λ (k : ℕ). get_elem? last.0.views k ≡ some v) mine.0 last.1.1,
          ap (λ (ws : List ℕ). kept ws xs) (sym last.2 ∙ r.words) ∙ kept_home r.phases xs long (λ k y e. last.4 k y (subst (λ hs. get_elem? hs k ≡ some (some y)) (sym r.homes) e))
              (subst (λ ls. list_all is_settled ls ≡ true) mine.1 settled),
        )

    -- so each job comes back, but for those of workers that were not joined
    pub returns : (v : View J) (jobs : List J) → is_clerk v ≡ true → list_all is_settled (view_looks v) ≡ true → EndsLawful turned v jobs → ComesBack turned (view_live v) (view_looks v) jobs
    returns v jobs clerk settled last = let r = last.1 in let mine = knows turned last.0 r 0 (view_looks v) (view_live v) (last.2 ∙ ap some (clerk_is v clerk)) in
        let few : running_count r.phases ≤ count_by is_worker last.0.views = runners r.phases 0 last.0.views (λ k n w job e at.
        let b = r.claimed w k job at in (b.0, b.1 ∙ ap (λ (y : ℕ). some (Busy b.0 y job)) (let same : k ≡ n = omega arith in same))) in
        let back = comes r.phases (view_live v) r.turns (subst (λ ls. list_all is_settled ls ≡ true) mine.1 settled) (let le = mine.2 in omega (arith, few, le)) in
        subst (λ ls. ComesBack turned (view_live v) ls jobs) (sym mine.1) (subst (λ (js : List J). ComesBack turned (view_live v) (map look_of r.phases) js) (sym last.3) back)

  -- one slot more is in the room
  pub kept_more : (words : List ℕ) (xs : List (Option J)) (i word : ℕ) (x : Option J) (old new : List J) → get_elem? words i ≡ some word → get_elem? xs i ≡ some x
      → old ++ kept (drop i words) (drop i xs) ≡ kept words xs → new ≡ old ++ (if is_kept word then option_to_list x else [])
      → new ++ kept (drop (i + 1) words) (drop (i + 1) xs) ≡ kept words xs
  kept_more words xs i word x old new at_word at_x before more =
      let rest : List J = kept (drop (i + 1) words) (drop (i + 1) xs) in
      let here : kept (drop i words) (drop i xs) ≡ (if is_kept word then option_to_list x else []) ++ rest =
      ap (λ (ws : List ℕ). kept ws (drop i xs)) (drop_at words i word at_word) ∙ ap (λ (ys : List (Option J)). kept (word ∷ drop (suc i) words) ys) (drop_at xs i x at_x)
      ∙ ap (λ (n : ℕ). (if is_kept word then option_to_list x else []) ++ kept (drop n words) (drop n xs)) (let e : suc i ≡ i + 1 = omega arith in e) in
      ap (λ (ys : List J). ys ++ rest) more ∙ append_assoc old (if is_kept word then option_to_list x else []) rest ∙ ap (λ (ys : List J). old ++ ys) (sym here) ∙ before
