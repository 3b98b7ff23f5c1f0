-- Jobs go out to slots and come back from them.
use Rattle.std.proofs.Common.{◌≡◌, ◌≢◌, ◌⊎◌, inl, inr, ℕ, zero, suc, ◌==◌, List, [], ◌∷◌, true, false, cond, Option, Some, None, refl, sym, ap, subst, ◌∙◌, arith}
use Rattle.std.specs.Prelude.{slice_get, slice_set}
use Rattle.handler_future.specs.State.{HandlerState}
use Rattle.job_slots.specs.declared.view.Look.{Look}
use Rattle.job_slots.specs.declared.view.Look.TheVariants.{Free, In}
use Rattle.peer_output.specs.Events.{with_at}
use Rattle.rpc_peer.specs.Jobs.{IsOut, AreOut}
use Rattle.rpc_peer.specs.declared.gated.Gated.{Gated}

-- ---- one number among others

eq-same : (n : ℕ) → (n == n) ≡ true
eq-same n = grind arith

eq-other : (n m : ℕ) → n ≢ m → (n == m) ≡ false
eq-other n m other = grind arith

at-same : {A : Type 0} (n : ℕ) (a : A) (f : ℕ → A) → with_at n a f n ≡ a
at-same n a f = ap (λ b. cond b a (f n)) (eq-same n)

at-other : {A : Type 0} (n m : ℕ) (a : A) (f : ℕ → A) → n ≢ m → with_at n a f m ≡ f m
at-other n m a f other = ap (λ b. cond b a (f m)) (eq-other n m other)

-- ---- one look among others

get-set : {A : Type 0} (looks : List A) (slot k : ℕ) (x y : A) → slice_get (slice_set looks slot x) k ≡ Some y
    → ((k ≡ slot) × (y ≡ x)) ⊎ ((k ≢ slot) × (slice_get looks k ≡ Some y))
get-set [] slot k x y is = absurd (cc)
get-set (l ∷ looks) zero zero x y is = inl (refl, let same : y ≡ x = cc in same)
get-set (l ∷ looks) zero (suc k) x y is = inr ((λ same. omega arith), is)
get-set (l ∷ looks) (suc slot) zero x y is = inr ((λ same. omega arith), is)
get-set (l ∷ looks) (suc slot) (suc k) x y is = elim (get-set looks slot k x y is) [
  | inl same ↦ inl (ap suc same.0, same.1)
  | inr other ↦ inr ((λ same. other.0 (omega arith)), other.1)
]

module _ {G : Type 0} where
  in-free : (gated : Gated G) → Some (In gated) ≡ Some Free → ⊥
  in-free gated is = cc

  look-free : (gated : Gated G) → In gated ≡ Free → ⊥
  look-free gated is = cc

  in-same : (gated another : Gated G) → In gated ≡ In another → gated ≡ another
  in-same gated another is = cc

  -- ---- a job comes back

  module _ (looks : List (Look (Gated G))) (jobs : ℕ → Option HandlerState) (outs : AreOut looks jobs) (slot : ℕ) (gated : Gated G) (at : slice_get looks slot ≡ Some (In gated)) where
    abbrev n : ℕ
    n = gated.job.handler.number

    freed-at : (k : ℕ) (another : Gated G) → slice_get (slice_set looks slot Free) k ≡ Some (In another) → (k ≢ slot) × (slice_get looks k ≡ Some (In another))
    freed-at k another is = elim (get-set looks slot k Free (In another) is) [
      | inl same ↦ absurd (look-free another same.1)
      | inr other ↦ other
    ]

    other-number : (k : ℕ) (another : Gated G) → k ≢ slot → slice_get looks k ≡ Some (In another) → n ≢ another.job.handler.number
    other-number k another other is same = other (sym (outs.apart slot k gated another at is same))

    pub out-back : AreOut (slice_set looks slot Free) (with_at n None jobs)
    out-back = record {
      each = λ k another is.
          let still = freed-at k another is in
          let had = outs.each k another still.1 in
          record {
            out = at-other n another.job.handler.number None jobs (other-number k another still.0 still.1) ∙ had.out;
            unturned = had.unturned;
            unpolled = had.unpolled;
          };
      apart = λ k other one another is that same. outs.apart k other one another (freed-at k one is).1 (freed-at other another that).1 same;
    }

  -- ---- a job goes out

  module _ (looks : List (Look (Gated G))) (jobs : ℕ → Option HandlerState) (outs : AreOut looks jobs) (slot n : ℕ) (gated : Gated G) (number : gated.job.handler.number ≡ n)
      (none : jobs n ≡ None) (unturned : gated.job.outcome ≡ None) (unpolled : gated.job.polls ≡ 0) where
    not-yet : (k : ℕ) (another : Gated G) → slice_get looks k ≡ Some (In another) → n ≢ another.job.handler.number
    not-yet k another is same =
        let out : jobs another.job.handler.number ≡ Some another.job.handler = (outs.each k another is).out in
        let clash : None ≡ Some another.job.handler = sym none ∙ ap jobs same ∙ out in cc

    now-out : (h : HandlerState) → gated.job.handler ≡ h → with_at n (Some h) jobs gated.job.handler.number ≡ Some gated.job.handler
    now-out h is = ap (with_at n (Some h) jobs) number ∙ at-same n (Some h) jobs ∙ ap Some (sym is)

    each-out : (h : HandlerState) → gated.job.handler ≡ h → (k : ℕ) (another : Gated G) → slice_get (slice_set looks slot (In gated)) k ≡ Some (In another)
        → IsOut (with_at n (Some h) jobs) another.job
    each-out h is k another there = elim (get-set looks slot k (In gated) (In another) there) [
      | inl same ↦ subst (λ (g : Gated G). IsOut (with_at n (Some h) jobs) g.job) (sym (in-same another gated same.1))
          (record { out = now-out h is; unturned = unturned; unpolled = unpolled })
      | inr other ↦
          let had = outs.each k another other.1 in
          record {
            out = at-other n another.job.handler.number (Some h) jobs (not-yet k another other.1) ∙ had.out;
            unturned = had.unturned;
            unpolled = had.unpolled;
          }
    ]

    new-number : (another : Gated G) → In another ≡ In gated → another.job.handler.number ≡ n
    new-number another is = ap (λ (g : Gated G). g.job.handler.number) (in-same another gated is) ∙ number

    all-apart : (k other : ℕ) (one another : Gated G) → slice_get (slice_set looks slot (In gated)) k ≡ Some (In one)
        → slice_get (slice_set looks slot (In gated)) other ≡ Some (In another)
        → one.job.handler.number ≡ another.job.handler.number → k ≡ other
    all-apart k other one another is that same = elim (get-set looks slot k (In gated) (In one) is) [
      | inl here ↦ elim (get-set looks slot other (In gated) (In another) that) [
        | inl there ↦ here.0 ∙ sym there.0
        | inr there ↦ absurd (not-yet other another there.1 (sym (new-number one here.1) ∙ same))
      ]
      | inr here ↦ elim (get-set looks slot other (In gated) (In another) that) [
        | inl there ↦ absurd (not-yet k one here.1 (sym (same ∙ new-number another there.1)))
        | inr there ↦ outs.apart k other one another here.1 there.1 same
      ]
    ]

    pub out-more : (h : HandlerState) → gated.job.handler ≡ h → AreOut (slice_set looks slot (In gated)) (with_at n (Some h) jobs)
    out-more h is = record { each = each-out h is; apart = all-apart }
