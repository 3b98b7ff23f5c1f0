-- A step that changes one slot and one seat's view keeps the slot table lawful.
use Rattle.std.proofs.Common.{◌≡◌, ◌≢◌, ℕ, ◌+◌, ◌≤◌, ◌⊎◌, ⊎_elim, Bool, cond, List, map, set, sym, ap, ◌∙◌, subst, arith}
use Rattle.std.specs.Prelude.{Option, count_by}
use Rattle.std.proofs.lemmas.List.{map-set}
use mathlib.Core.Option.{some, some-injective}
use mathlib.Core.Logic.{dite}
use native.Mathlib.Decide.{ℕ_discrete}
use lib.ListN.{get_elem?}
use Rattle.atomic_table.specs.Table.{State}
use Rattle.atomic_table.proofs.Lists.{at_set, set_here, set_else, set_again, at_map}
use Rattle.job_slots.specs.declared.view.Look.{Look}
use Rattle.job_slots.specs.declared.view.View.{View}
use Rattle.job_slots.specs.declared.view.View.TheVariants.{Clerk, Busy}
use Rattle.job_slots.specs.Phases.{Phase, running, word_of, home_of, look_of, IsTurnedOnce}
use Rattle.job_slots.specs.Looks.{is_worker}
use Rattle.job_slots.specs.Lawful.{LawfulTable}
use Rattle.job_slots.proofs.Lists.{count_set, at_within}
use Rattle.job_slots.proofs.Clerks.{KnowsAll, IsLed, knows, leads}

-- The seat `id` may go from the view v to w while the slot i goes from the phase p to q
pub record Moves {J : Type 0} (turned : J → J → Type 0) (id i : ℕ) (v w : View J) (p q : Phase J) : Type 0 where
  pub once : IsTurnedOnce turned q
  pub kind : is_worker w ≡ is_worker v
  -- the clerk's look follows the phase, and a worker's step changes no look
  pub sees : (looks : List (Look J)) (live : ℕ) → w ≡ Clerk looks live → (before : List (Look J)) × (v ≡ Clerk before live) × (looks ≡ set before i (look_of q))
  -- a clerk's view stays one
  pub stays : (looks : List (Look J)) (live : ℕ) → v ≡ Clerk looks live → (after : List (Look J)) × (w ≡ Clerk after live)
  pub hides : (look_of q ≡ look_of p) ⊎ ((looks : List (Look J)) × (live : ℕ) × (v ≡ Clerk looks live))
  -- the seat claims no other slot, before or after, and no other seat claims this one
  pub was : (k : ℕ) (job : J) (shut : List ℕ) → v ≡ Busy shut k job → k ≡ i
  pub is : (k : ℕ) (job : J) (shut : List ℕ) → w ≡ Busy shut k job → (k ≡ i) × (q ≡ running id job)
  pub ran : (seat : ℕ) (job : J) → p ≡ running seat job → seat ≡ id
  pub runs : (seat : ℕ) (job : J) → q ≡ running seat job → (seat ≡ id) × ((shut : List ℕ) × (w ≡ Busy shut i job))

module _ {J : Type 0} (turned : J → J → Type 0) where
  pub moved : (s : State (Option J) (View J)) (r : LawfulTable turned s) (id i : ℕ) (v w : View J) (p q : Phase J)
      → get_elem? s.views id ≡ some v → get_elem? r.phases i ≡ some p → Moves turned id i v w p q
      → LawfulTable turned record { words = set s.words i (word_of q); homes = set s.homes i (home_of q); views = set s.views id w }
  moved s r id i v w p q at phase m =
      let phases : List (Phase J) = set r.phases i q in
      let same : (n : ℕ) → count_by is_worker s.views ≤ n → count_by is_worker (set s.views id w) ≤ n = λ n le.
      let c : count_by is_worker (set s.views id w) + cond {A = ℕ} (is_worker v) 1 0 ≡ count_by is_worker s.views + cond {A = ℕ} (is_worker w) 1 0 = count_set is_worker s.views id v w at in let k : cond {A = ℕ} (is_worker w) 1 0 ≡ cond (is_worker v) 1 0 = ap (λ (b : Bool). cond {A = ℕ} b 1 0) m.kind in omega (arith, c, k, le) in
      let old_knows : KnowsAll r.phases s.views = knows turned s r in
      let new_knows : KnowsAll phases (set s.views id w) = λ k looks live e. ⊎_elim
      (λ (t : (k ≡ id) × (w ≡ Clerk looks live)). let b = m.sees looks live t.1 in let old = old_knows id b.0 live (at ∙ ap some b.1) in
      (t.0 ∙ old.0, b.2 ∙ ap (λ (l : List (Look J)). set l i (look_of q)) old.1 ∙ sym (map-set look_of r.phases i q), same live old.2))
      (λ (t : (k ≢ id) × (get_elem? s.views k ≡ some (Clerk looks live))). let old = old_knows k looks live t.1 in (
        old.0,
        ⊎_elim (λ (l : look_of q ≡ look_of p). old.1 ∙ sym (map-set look_of r.phases i q ∙ ap (λ x. set (map look_of r.phases) i x) l ∙ set_again (map look_of r.phases) i (look_of p) (at_map look_of r.phases i p phase)))
            (λ (c : (ls : List (Look J)) × (n : ℕ) × (v ≡ Clerk ls n)). absurd (t.0 (old.0 ∙ sym (old_knows id c.0 c.1 (at ∙ ap some c.2)).0))) m.hides,
        same live old.2,
      ))
      (at_set s.views id k w (Clerk looks live) e) in
      let led : IsLed (set s.views id w) = let first = r.clerk in let seen : List (Look J) = map look_of r.phases in dite (ℕ_discrete 0 id)
      (λ here. let is : v ≡ Clerk seen first.0 = some-injective v (Clerk seen first.0) (sym at ∙ subst (λ (y : ℕ). get_elem? s.views y ≡ some (Clerk seen first.0)) here first.1) in
      let stays = m.stays seen first.0 is in
      (stays.0, first.0, subst (λ (y : ℕ). get_elem? (set s.views id w) y ≡ some (Clerk stays.0 first.0)) (sym here) (set_here s.views id w (at_within s.views id v at) ∙ ap some stays.1)))
      (λ elsewhere. (seen, first.0, set_else s.views id 0 w elsewhere ∙ first.1)) in record {
        phases = phases;
        words = ap (λ (ws : List ℕ). set ws i (word_of q)) r.words ∙ sym (map-set word_of r.phases i q);
        homes = ap (λ hs. set hs i (home_of q)) r.homes ∙ sym (map-set home_of r.phases i q);
        turns = λ k x e. ⊎_elim (λ (t : (k ≡ i) × (q ≡ x)). subst (IsTurnedOnce turned) t.1 m.once) (λ (t : (k ≢ i) × (get_elem? r.phases k ≡ some x)). r.turns k x t.1) (at_set r.phases i k q x e);
        clerk = leads phases (set s.views id w) new_knows led;
        alone = λ k looks live e. (new_knows k looks live e).0;
        claims = λ k j job shut e. ⊎_elim
            (λ (t : (k ≡ id) × (w ≡ Busy shut j job)). let x = m.is j job shut t.1 in
            subst (λ (y : ℕ × ℕ). get_elem? phases y.0 ≡ some (running y.1 job)) (λ z. (sym x.0 z, sym t.0 z)) (set_here r.phases i q (at_within r.phases i p phase) ∙ ap some x.1))
            (λ (t : (k ≢ id) × (get_elem? s.views k ≡ some (Busy shut j job))). let old = r.claims k j job shut t.1 in
            set_else r.phases i j q (λ same_slot. t.0 (m.ran k job (some-injective p (running k job) (sym phase ∙ subst (λ (y : ℕ). get_elem? r.phases y ≡ some (running k job)) same_slot old)))) ∙ old)
            (at_set s.views id k w (Busy shut j job) e);
        claimed = λ k j job e. ⊎_elim
            (λ (t : (j ≡ i) × (q ≡ running k job)). let x = m.runs k job t.1 in (x.1.0, subst (λ (y : ℕ × ℕ). get_elem? (set s.views id w) y.0 ≡ some (Busy x.1.0 y.1 job)) (λ z. (sym x.0 z, sym t.0 z)) (set_here s.views id w (at_within s.views id v at) ∙ ap some x.1.1)))
            (λ (t : (j ≢ i) × (get_elem? r.phases j ≡ some (running k job))). let old = r.claimed k j job t.1 in
            (old.0, set_else s.views id k w (λ same_seat. t.0 (m.was j job old.0 (some-injective v (Busy old.0 j job) (sym at ∙ subst (λ (y : ℕ). get_elem? s.views y ≡ some (Busy old.0 j job)) same_seat old.1)))) ∙ old.1))
            (at_set r.phases i j q (running k job) e);
      }
