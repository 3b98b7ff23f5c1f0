-- Each kind of atomic step keeps the slot table lawful, and tells its seat what it is to tell.
use Rattle.std.proofs.Common.{◌≡◌, ◌≢◌, ℕ, zero, suc, ◌+◌, ◌-◌, ◌≤◌, inl, inr, ⊎_elim, true, cond, eqb, List, [], ◌∷◌, ◌++◌, get_or, set, sym, refl, ap, ◌∙◌, subst, arith}
use Rattle.std.specs.Prelude.{Option, Some, None, count_by, slice_get, replicate, unwrap_or}
use mathlib.Core.Option.{some, none, some-injective, some-ne-none}
use mathlib.Core.Logic.{dite}
use native.Mathlib.Decide.{ℕ_discrete}
use lib.ListN.{get_elem?}
use prog.Atomic.{either}
use Rattle.atomic_table.specs.Table.{State, Me, step, takes, gives, keeps, stepped, Valid, Allows, Splits, Joins, opening, carried_after}
use Rattle.atomic_table.proofs.Lists.{at_set, at_map, set_here, set_else, set_again, at_longer, at_snoc, exchanged}
use Rattle.job_slots.specs.declared.word.TheConstants.{EMPTY, FILLING, READY, RUNNING, DONE}
use Rattle.job_slots.specs.declared.view.Look.{Look}
use Rattle.job_slots.specs.declared.view.Look.TheVariants.{Free, Filling, In, Seen}
use Rattle.job_slots.specs.declared.view.View.{View}
use Rattle.job_slots.specs.declared.view.View.TheVariants.{Clerk, Idle, Busy, Spent}
use Rattle.job_slots.specs.Phases.{Phase, empty, filling, ready, running, done, homing, word_of, home_of, look_of, IsTurnedOnce}
use Rattle.job_slots.specs.Looks.{is_clerk, is_idle, is_worker, view_looks, view_live, view_shut, with_look, one_hired, one_joined}
use Rattle.job_slots.specs.Lawful.{LawfulTable}
use Rattle.job_slots.specs.Steps.{reserved, opened, claimed, shut, looked, cleared}
use Rattle.job_slots.proofs.Lists.{at_of_get, at_mapped, at_within, map-replicate, set_read, count_set, count_snoc}
use Rattle.job_slots.proofs.Views.{word_there, clerk_is, idle_is, clerk_no_worker, IsStill, free_phase, filling_phase, seen_phase, ready_phase, done_phase}
use Rattle.job_slots.proofs.Clerks.{KnowsAll, IsLed, knows, leads}
use Rattle.job_slots.proofs.Moves.{Moves, moved}

module _ {J : Type 0} (turned : J → J → Type 0) where
  -- the clerk changes a slot that no worker has
  clerk_moves : (id i : ℕ) (v : View J) (p q : Phase J) → is_clerk v ≡ true → IsTurnedOnce turned q → IsStill p → IsStill q → Moves turned id i v (with_look v i (look_of q)) p q
  clerk_moves id i v p q clerk once still stays = let is = clerk_is v clerk in record {
    once = once;
    kind = sym (clerk_no_worker v clerk);
    sees = λ looks live e. (view_looks v, (let n : view_live v ≡ live = cc in is ∙ ap (λ (k : ℕ). Clerk (view_looks v) k) n), (let l : set (view_looks v) i (look_of q) ≡ looks = cc in sym l));
    stays = λ looks live e. (set (view_looks v) i (look_of q), (let n : view_live v ≡ live = cc in ap (λ (k : ℕ). Clerk (set (view_looks v) i (look_of q)) k) n));
    hides = inr (view_looks v, view_live v, is);
    was = λ k job shuts e. cc;
    is = λ k job shuts e. cc;
    ran = λ seat job e. absurd (subst IsStill e still);
    runs = λ seat job e. absurd (subst IsStill e stays);
  }

  -- the phase of a slot, from the clerk's look at it
  looked_phase : (s : State (Option J) (View J)) (r : LawfulTable turned s) (id i : ℕ) (v : View J) (look : Look J) → is_clerk v ≡ true → get_elem? s.views id ≡ some v → slice_get (view_looks v) i ≡ Some look
      → (p : Phase J) × (get_elem? r.phases i ≡ some p) × (look_of p ≡ look)
  looked_phase s r id i v look clerk at there = let old = knows turned s r id (view_looks v) (view_live v) (at ∙ ap some (clerk_is v clerk)) in
      at_mapped look_of r.phases i look (subst (λ (l : List (Look J)). get_elem? l i ≡ some look) old.1 (at_of_get (view_looks v) i look there))

  -- what is at home in a slot, from its phase
  home_there : (s : State (Option J) (View J)) (r : LawfulTable turned s) (i : ℕ) (p : Phase J) → get_elem? r.phases i ≡ some p → get_elem? s.homes i ≡ some (home_of p)
  home_there s r i p phase = subst (λ hs. get_elem? hs i ≡ some (home_of p)) (sym r.homes) (at_map home_of r.phases i p phase)

  -- the phase of a slot, from its word
  word_phase : (s : State (Option J) (View J)) (r : LawfulTable turned s) (i n : ℕ) → get_or s.words i 0 ≡ suc n → (p : Phase J) × (get_elem? r.phases i ≡ some p) × (word_of p ≡ suc n)
  word_phase s r i n e = at_mapped word_of r.phases i (suc n) (subst (λ (ws : List ℕ). get_elem? ws i ≡ some (suc n)) r.words (word_there s.words i n e))

  -- a step that changes nothing
  kept : (s : State (Option J) (View J)) → LawfulTable turned s → (id i : ℕ) (v : View J) → get_elem? s.views id ≡ some v
      → LawfulTable turned record { words = set s.words i (get_or s.words i 0); homes = s.homes; views = set s.views id v }
  kept s r id i v at = subst (λ (ws : List ℕ). LawfulTable turned record { words = ws; homes = s.homes; views = set s.views id v }) (sym (set_read s.words i 0))
      (subst (λ (vs : List (View J)). LawfulTable turned record { words = s.words; homes = s.homes; views = vs }) (sym (set_again s.views id v at)) r)

  -- the job in the slot that a seat holds
  abbrev first_job : J → List (ℕ × Option J) → J
  first_job d [] = d
  first_job d (x ∷ xs) = unwrap_or x.1 d

  pub reserves : (n id i : ℕ) (v : View J) (me : Me (Option J) (View J)) → me ≡ (v, []) → is_clerk v ≡ true → slice_get (view_looks v) i ≡ Some Free
      → Allows (LawfulTable turned) n id me i (λ _. FILLING) (λ _. reserved (step n i FILLING 0 none) me FILLING)
  reserves n id i v me is clerk free = subst (λ m. Allows (LawfulTable turned) n id m i (λ _. FILLING) (λ _. reserved (step n i FILLING 0 none) m FILLING)) (sym is) (λ s r wide at small. let there = looked_phase s r id i v Free clerk at free in
      let phase = there.1 ∙ ap some (free_phase there.0 there.2) in
      (with_look v i Filling, takes i None, home_there s r i empty phase, moved turned s r id i v (with_look v i Filling) empty filling at phase (clerk_moves id i v empty filling clerk tt tt tt), refl))

  pub opens : (n id i : ℕ) (v : View J) (job : J) (me : Me (Option J) (View J)) → me ≡ (v, (i, Some job) ∷ []) → is_clerk v ≡ true → slice_get (view_looks v) i ≡ Some Filling
      → Allows (LawfulTable turned) n id me i (λ _. READY) (λ _. opened (step n i READY 0 none) me READY)
  opens n id i v job me is clerk fills = subst (λ m. Allows (LawfulTable turned) n id m i (λ _. READY) (λ _. opened (step n i READY 0 none) m READY)) (sym is) (λ s r wide at small. let there = looked_phase s r id i v Filling clerk at fills in
      let phase = there.1 ∙ ap some (filling_phase there.0 there.2) in (
        with_look v i (In job),
        gives,
        tt,
        moved turned s r id i v (with_look v i (In job)) filling (ready job) at phase (clerk_moves id i v filling (ready job) clerk tt tt tt),
        (λ other same. let e : job ≡ other = ap (first_job job) same in ap (λ (j : J). (with_look v i (In j), [])) e),
      ))

  pub claims : (n id i : ℕ) (v : View J) (me : Me (Option J) (View J)) → me ≡ (v, []) → is_idle v ≡ true
      → Allows (LawfulTable turned) n id me i (λ x. either (eqb x READY) RUNNING x) (claimed (step n i READY RUNNING none) me)
  claims n id i v me holds idle = subst (λ m. Allows (LawfulTable turned) n id m i (λ x. either (eqb x READY) RUNNING x) (claimed (step n i READY RUNNING none) m)) (sym holds) (λ s r wide at small. let is = idle_is v idle in let x : ℕ = get_or s.words i 0 in
      exchanged x READY RUNNING (λ y. (w : View J) × (a : _) × Valid s.homes [] a × LawfulTable turned (stepped s i y id [] w a) × claimed (step n i READY RUNNING none) (v, []) x (w, carried_after [] a))
      (λ hit. let there = word_phase s r i 1 hit in let here = ready_phase there.0 there.2 in let job = here.0 in let phase = there.1 ∙ ap some here.1 in
      let w : View J = Busy (view_shut v) i job in (
        w,
        takes i (Some job),
        home_there s r i (ready job) phase,
        moved turned s r id i v w (ready job) (running id job) at phase record {
          once = tt;
          kind = ap is_worker (sym is);
          sees = λ looks live e. cc;
          stays = λ looks live e. cc;
          hides = inl refl;
          was = λ k j shuts e. cc;
          is = λ k j shuts e. ((let same : i ≡ k = cc in sym same), (let same : job ≡ j = cc in ap (λ (a : J). running id a) same));
          ran = λ seat j e. cc;
          runs = λ seat j e. ((let same : id ≡ seat = cc in sym same), (view_shut v, (let same : job ≡ j = cc in ap (λ (a : J). Busy (view_shut v) i a) same)));
        },
        ((λ e. (job, refl)), (λ ne. absurd (ne hit))),
      ))
      (λ miss. (v, keeps, tt, kept s r id i v at, ((λ e. absurd (miss e)), (λ ne. refl)))))

  pub shuts : (n id i : ℕ) (past : List ℕ) (job after : J) (me : Me (Option J) (View J)) → me ≡ (Busy past i job, (i, Some after) ∷ []) → turned job after
      → Allows (LawfulTable turned) n id me i (λ _. DONE) (λ _. shut (step n i DONE 0 none) me DONE)
  shuts n id i past job after me is once = subst (λ m. Allows (LawfulTable turned) n id m i (λ _. DONE) (λ _. shut (step n i DONE 0 none) m DONE)) (sym is) (λ s r wide at small. let phase = r.claims id i job past at in let w : View J = Idle (past ++ i ∷ []) in (
    w,
    gives,
    tt,
    moved turned s r id i (Busy past i job) w (running id job) (done job after) at phase record {
      once = once;
      kind = refl;
      sees = λ looks live e. cc;
      stays = λ looks live e. cc;
      hides = inl refl;
      was = λ k j shuts e. let same : i ≡ k = cc in sym same;
      is = λ k j shuts e. cc;
      ran = λ seat j e. let same : id ≡ seat = cc in sym same;
      runs = λ seat j e. cc;
    },
    refl,
  ))

  pub looks : (n id i : ℕ) (v : View J) (job : J) (me : Me (Option J) (View J)) → me ≡ (v, []) → is_clerk v ≡ true → slice_get (view_looks v) i ≡ Some (In job)
      → Allows (LawfulTable turned) n id me i (λ x. x) (looked turned (step n i 0 0 none) me)
  looks n id i v job me is clerk has = subst (λ m. Allows (LawfulTable turned) n id m i (λ x. x) (looked turned (step n i 0 0 none) m)) (sym is) (λ s r wide at small. let x : ℕ = get_or s.words i 0 in
      dite (ℕ_discrete x DONE)
      (λ hit. let there = looked_phase s r id i v (In job) clerk at has in
      let word : word_of there.0 ≡ DONE = some-injective (word_of there.0) DONE (sym (subst (λ (ws : List ℕ). get_elem? ws i ≡ some (word_of there.0)) (sym r.words) (at_map word_of r.phases i there.0 there.1)) ∙ word_there s.words i 3 hit) in
      let here = done_phase there.0 job word there.2 in let after = here.0 in let phase = there.1 ∙ ap some here.1 in let once = r.turns i (done job after) phase in
      let w : View J = with_look v i (Seen job after) in (
        w,
        takes i (Some after),
        home_there s r i (done job after) phase,
        subst (λ (y : ℕ). LawfulTable turned record { words = set s.words i y; homes = set s.homes i none; views = set s.views id w }) (sym hit)
            (moved turned s r id i v w (done job after) (homing job after) at phase (clerk_moves id i v (done job after) (homing job after) clerk once tt tt)),
        ((λ e. (job, after, has, once, refl)), (λ ne. absurd (ne hit))),
      ))
      (λ miss. (v, keeps, tt, kept s r id i v at, ((λ e. absurd (miss e)), (λ ne. refl)))))

  pub clears : (n id i : ℕ) (v : View J) (job after : J) (me : Me (Option J) (View J)) → me ≡ (v, (i, None) ∷ []) → is_clerk v ≡ true → slice_get (view_looks v) i ≡ Some (Seen job after)
      → Allows (LawfulTable turned) n id me i (λ _. EMPTY) (λ _. cleared (step n i EMPTY 0 none) me EMPTY)
  clears n id i v job after me is clerk seen = subst (λ m. Allows (LawfulTable turned) n id m i (λ _. EMPTY) (λ _. cleared (step n i EMPTY 0 none) m EMPTY)) (sym is) (λ s r wide at small. let there = looked_phase s r id i v (Seen job after) clerk at seen in
      let phase = there.1 ∙ ap some (seen_phase there.0 job after there.2) in
      (with_look v i Free, gives, tt, moved turned s r id i v (with_look v i Free) (homing job after) empty at phase (clerk_moves id i v (homing job after) empty clerk tt tt tt), refl))

  -- a step that changes views alone: no claim comes or goes
  recast : (s : State (Option J) (View J)) (r : LawfulTable turned s) (views : List (View J))
      → KnowsAll r.phases views → IsLed views
      → ((id i : ℕ) (job : J) (shut : List ℕ) → get_elem? views id ≡ some (Busy shut i job) → get_elem? s.views id ≡ some (Busy shut i job))
      → ((id i : ℕ) (job : J) (shut : List ℕ) → get_elem? s.views id ≡ some (Busy shut i job) → get_elem? views id ≡ some (Busy shut i job))
      → LawfulTable turned record { words = s.words; homes = s.homes; views = views }
  recast s r views known led back forth = record {
    phases = r.phases;
    words = r.words;
    homes = r.homes;
    turns = r.turns;
    clerk = leads r.phases views known led;
    alone = λ id looks live e. (known id looks live e).0;
    claims = λ id i job shut e. r.claims id i job shut (back id i job shut e);
    claimed = λ id i job e. let old = r.claimed id i job e in (old.0, forth id i job old.0 old.1);
  }

  pub splits : (id : ℕ) (v : View J) → is_clerk v ≡ true → Splits (LawfulTable turned) id v (one_hired v) (Idle [])
  splits id v clerk s r at = let is = clerk_is v clerk in let vs : List (View J) = set s.views id (one_hired v) in let mine = knows turned s r id (view_looks v) (view_live v) (at ∙ ap some is) in
      let more : count_by is_worker (vs ++ Idle [] ∷ []) ≤ view_live v + 1 =
      (let a : count_by is_worker vs + cond {A = ℕ} (is_worker v) 1 0 ≡ count_by is_worker s.views + 0 = count_set is_worker s.views id v (one_hired v) at in
      let b : count_by is_worker (vs ++ Idle [] ∷ []) ≡ count_by is_worker vs + 1 = count_snoc is_worker vs (Idle []) in let le = mine.2 in omega (arith, a, b, le)) in
      recast s r (vs ++ Idle [] ∷ [])
      (λ k looks live e. ⊎_elim
      (λ old. ⊎_elim (λ (t : (k ≡ id) × (one_hired v ≡ Clerk looks live)). (t.0 ∙ mine.0, (let l : view_looks v ≡ looks = cc in sym l) ∙ mine.1, (let n : view_live v + 1 ≡ live = cc in subst (λ (y : ℕ). count_by is_worker (vs ++ Idle [] ∷ []) ≤ y) n more)))
      (λ (t : (k ≢ id) × (get_elem? s.views k ≡ some (Clerk looks live))). absurd (t.0 ((knows turned s r k looks live t.1).0 ∙ sym mine.0))) (at_set s.views id k (one_hired v) (Clerk looks live) old))
      (λ (t : Idle [] ≡ Clerk looks live). cc)
      (at_snoc vs (Idle []) (Clerk looks live) k e))
      (view_looks v, view_live v + 1, at_longer vs (Idle [] ∷ []) 0 (one_hired v) (subst (λ (y : ℕ). get_elem? vs y ≡ some (one_hired v)) mine.0 (set_here s.views id (one_hired v) (at_within s.views id v at))))
      (λ k i job shuts e. ⊎_elim
      (λ old. ⊎_elim (λ (t : (k ≡ id) × (one_hired v ≡ Busy shuts i job)). let p = t.1 in cc) (λ (t : (k ≢ id) × (get_elem? s.views k ≡ some (Busy shuts i job))). t.1) (at_set s.views id k (one_hired v) (Busy shuts i job) old))
      (λ (t : Idle [] ≡ Busy shuts i job). cc)
      (at_snoc vs (Idle []) (Busy shuts i job) k e))
      (λ k i job shuts e. at_longer vs (Idle [] ∷ []) k (Busy shuts i job)
      (set_else s.views id k (one_hired v) (λ same. let p : v ≡ Busy shuts i job = some-injective v (Busy shuts i job) (sym at ∙ subst (λ (y : ℕ). get_elem? s.views y ≡ some (Busy shuts i job)) same e) in cc) ∙ e))

  pub joins : (id other : ℕ) (v w : View J) → is_clerk v ≡ true → is_idle w ≡ true → Joins (LawfulTable turned) id v other w (one_joined v) Spent
  joins id other v w clerk idle s r at apart at_other = let is = clerk_is v clerk in let idles = idle_is w idle in let vs : List (View J) = set s.views id (one_joined v) in let mine = knows turned s r id (view_looks v) (view_live v) (at ∙ ap some is) in
      let there : get_elem? s.views other ≡ some w = sym (set_else s.views id other (one_joined v) apart) ∙ at_other in
      let fewer : count_by is_worker (set vs other Spent) ≤ view_live v - 1 =
      (let a : count_by is_worker vs + cond {A = ℕ} (is_worker v) 1 0 ≡ count_by is_worker s.views + 0 = count_set is_worker s.views id v (one_joined v) at in
      let b : count_by is_worker (set vs other Spent) + cond {A = ℕ} (is_worker w) 1 0 ≡ count_by is_worker vs + 0 = count_set is_worker vs other w Spent at_other in
      let c : cond {A = ℕ} (is_worker w) 1 0 ≡ 1 = ap (λ (x : View J). cond {A = ℕ} (is_worker x) 1 0) idles in let le = mine.2 in omega (arith, a, b, c, le)) in
      recast s r (set vs other Spent)
      (λ k looks live e. ⊎_elim (λ (t : (k ≡ other) × (Spent ≡ Clerk looks live)). let p = t.1 in cc)
      (λ (o : (k ≢ other) × (get_elem? vs k ≡ some (Clerk looks live))). ⊎_elim
      (λ (t : (k ≡ id) × (one_joined v ≡ Clerk looks live)). let p = t.1 in (t.0 ∙ mine.0, (let l : view_looks v ≡ looks = cc in sym l) ∙ mine.1, (let n : view_live v - 1 ≡ live = cc in subst (λ (y : ℕ). count_by is_worker (set vs other Spent) ≤ y) n fewer)))
      (λ (t : (k ≢ id) × (get_elem? s.views k ≡ some (Clerk looks live))). absurd (t.0 ((knows turned s r k looks live t.1).0 ∙ sym mine.0))) (at_set s.views id k (one_joined v) (Clerk looks live) o.1))
      (at_set vs other k Spent (Clerk looks live) e))
      (view_looks v, view_live v - 1, set_else vs other 0 Spent (λ same. apart (sym same ∙ sym mine.0)) ∙ subst (λ (y : ℕ). get_elem? vs y ≡ some (one_joined v)) mine.0 (set_here s.views id (one_joined v) (at_within s.views id v at)))
      (λ k i job shuts e. ⊎_elim (λ (t : (k ≡ other) × (Spent ≡ Busy shuts i job)). let p = t.1 in cc)
      (λ (o : (k ≢ other) × (get_elem? vs k ≡ some (Busy shuts i job))). ⊎_elim
      (λ (t : (k ≡ id) × (one_joined v ≡ Busy shuts i job)). let p = t.1 in cc) (λ (t : (k ≢ id) × (get_elem? s.views k ≡ some (Busy shuts i job))). t.1) (at_set s.views id k (one_joined v) (Busy shuts i job) o.1))
      (at_set vs other k Spent (Busy shuts i job) e))
      (λ k i job shuts e.
      set_else vs other k Spent (λ same. let p : w ≡ Busy shuts i job = some-injective w (Busy shuts i job) (sym there ∙ subst (λ (y : ℕ). get_elem? s.views y ≡ some (Busy shuts i job)) same e) in cc)
      ∙ set_else s.views id k (one_joined v) (λ same. let p : v ≡ Busy shuts i job = some-injective v (Busy shuts i job) (sym at ∙ subst (λ (y : ℕ). get_elem? s.views y ≡ some (Busy shuts i job)) same e) in cc) ∙ e)

  -- the views as the table is made
  abbrev alone : ℕ → List (View J)
  alone n = Clerk (replicate n Free) 0 ∷ []

  all_empty : (n i : ℕ) (p : Phase J) → get_elem? (replicate n empty) i ≡ some p → empty ≡ p
  all_empty zero i p e = absurd (some-ne-none p (sym e))
  all_empty (suc n) zero p e = some-injective empty p e
  all_empty (suc n) (suc i) p e = all_empty n i p e

  pub starts : (n : ℕ) → LawfulTable turned (opening (replicate n EMPTY) (replicate n None) (Clerk (replicate n Free) 0))
  starts n = record {
    phases = replicate n empty;
    words = sym (map-replicate word_of n empty);
    homes = map-replicate some n None ∙ sym (map-replicate home_of n empty);
    turns = λ i p e. subst (IsTurnedOnce turned) (all_empty n i p e) tt;
    clerk = leads (replicate n empty) (alone n) first (replicate n Free, 0, refl);
    alone = λ id looks live e. (first id looks live e).0;
    claims = λ id i job shuts e. absurd (no_busy id i job shuts e);
    claimed = λ id i job e. let no = all_empty n i (running id job) e in cc;
  } where
    first : KnowsAll (replicate n empty) (alone n)
    first zero looks live e = let p = some-injective _ _ e in (refl, (let l : replicate n Free ≡ looks = cc in sym l) ∙ sym (map-replicate look_of n empty), omega arith)
    first (suc id) looks live e = absurd (some-ne-none (Clerk looks live) (sym e))

    no_busy : (id i : ℕ) (job : J) (shut : List ℕ) → get_elem? (alone n) id ≡ some (Busy shut i job) → ⊥
    no_busy zero i job shut e = let p = some-injective _ _ e in cc
    no_busy (suc id) i job shut e = some-ne-none (Busy shut i job) (sym e)
