-- What a cancel reaches, request after request.
use Rattle.std.proofs.Common.{◌≡◌, ℕ, ◌<◌, ◌&&◌, Bool, true, false, cond, nat_le, List, [], ◌∷◌, ◌++◌, map, Option, Some, None, refl, sym, ap, subst, ◌∙◌, arith, eq-eqb}
use Rattle.std.proofs.lemmas.Bool.{ne_eqb}
use Rattle.std.specs.List.{find, filter}
use Rattle.std.specs.Option.{option_map, option_to_list, unwrap_or, is_some}
use Rattle.message_ids.specs.declared.id.Id.{Id}
use Rattle.message_ids.specs.Ids.{has_id}
use Rattle.open_calls.specs.declared.their_call.TheirCall.{TheirCall}
use Rattle.open_calls.specs.Numbered.{up_to, changed_at, Above, Ascending}
use Rattle.open_calls.specs.Theirs.{is_reached, cancelled, cancelled_at, reached}
use Rattle.connection_desk.specs.Inner.{reached_to, cancelled_to}

-- whether a cancel of this id, up to this number, reaches a call
abbrev is_hit : ℕ → Id → ℕ × TheirCall → Bool
is_hit n id e = nat_le e.0 n && is_reached id e.1

changed_above : {X : Type 0} (n : ℕ) (f : X → X) (es : List (ℕ × X)) → Above n es → changed_at n f es ≡ es
changed_above n f [] above = refl
changed_above n f (e ∷ es) above =
    ap (λ b. (e.0, cond b (f e.1) e.1) ∷ changed_at n f es) (ne_eqb n e.0 (λ same. let lt : n < e.0 = above.0 in omega arith)) ∙ ap (λ t. e ∷ t) (changed_above n f es above.1)

and_false : (b : Bool) → (b && false) ≡ false
and_false true = refl
and_false false = refl

numbers_step : (a b : Bool) (e : ℕ × TheirCall) (id : Id) (fs : List (ℕ × TheirCall)) → is_reached id e.1 ≡ b
    → map (λ x. x.0) (filter (λ x. is_reached id x.1) (cond a (e ∷ fs) fs)) ≡ cond (a && b) (e.0 ∷ map (λ x. x.0) (filter (λ x. is_reached id x.1) fs)) (map (λ x. x.0) (filter (λ x. is_reached id x.1) fs))
numbers_step true true e id fs is = ap (λ b. map (λ x. x.0) (cond b (e ∷ filter (λ x. is_reached id x.1) fs) (filter (λ x. is_reached id x.1) fs))) is
numbers_step true false e id fs is = ap (λ b. map (λ x. x.0) (cond b (e ∷ filter (λ x. is_reached id x.1) fs) (filter (λ x. is_reached id x.1) fs))) is
numbers_step false b e id fs is = refl

pub numbers_cons : (n : ℕ) (id : Id) (e : ℕ × TheirCall) (es : List (ℕ × TheirCall)) → reached_to n id (e ∷ es) ≡ cond (is_hit n id e) (e.0 ∷ reached_to n id es) (reached_to n id es)
numbers_cons n id e es = numbers_step (nat_le e.0 n) (is_reached id e.1) e id (up_to n es) refl

first_step : (a b : Bool) (e : ℕ × TheirCall) (id : Id) (fs : List (ℕ × TheirCall)) → is_reached id e.1 ≡ b
    → reached id (cond a (e ∷ fs) fs) ≡ cond (a && b) (Some e.0) (reached id fs)
first_step true true e id fs is = ap (λ b. option_map (λ x. x.0) (cond b (Some e) (find (λ x. is_reached id x.1) fs))) is
first_step true false e id fs is = ap (λ b. option_map (λ x. x.0) (cond b (Some e) (find (λ x. is_reached id x.1) fs))) is
first_step false b e id fs is = refl

first_cons : (n : ℕ) (id : Id) (e : ℕ × TheirCall) (es : List (ℕ × TheirCall)) → reached id (up_to n (e ∷ es)) ≡ cond (is_hit n id e) (Some e.0) (reached id (up_to n es))
first_cons n id e es = first_step (nat_le e.0 n) (is_reached id e.1) e id (up_to n es) refl

-- what a cancel has still to reach, once it reached the first
pub record Reaches (n : ℕ) (id : Id) (es : List (ℕ × TheirCall)) (r : Option ℕ) : Type 0 where
  pub number : reached_to n id es ≡ option_to_list r ++ reached_to n id (cancelled_at r es)
  pub calls : cancelled_to n id (cancelled_at r es) ≡ cancelled_to n id es
  pub none : r ≡ None → cancelled_to n id (cancelled_at r es) ≡ cancelled_at r es
  pub rest : r ≡ None → reached_to n id es ≡ []
  pub above : (m k : ℕ) → Above m es → r ≡ Some k → m < k

kept_at : (r : Option ℕ) (e : ℕ × TheirCall) (es : List (ℕ × TheirCall)) → ((k : ℕ) → r ≡ Some k → e.0 < k) → cancelled_at r (e ∷ es) ≡ e ∷ cancelled_at r es
kept_at None e es over = refl
kept_at (Some k) e es over =
    ap (λ b. (e.0, cond b (cancelled e.1) e.1) ∷ cancelled_at (Some k) es) (ne_eqb k e.0 (λ same. let lt : e.0 < k = over k refl in omega arith))

skipped : (n : ℕ) (id : Id) (e : ℕ × TheirCall) (es : List (ℕ × TheirCall)) (r : Option ℕ) → is_hit n id e ≡ false → Above e.0 es → Reaches n id es r → Reaches n id (e ∷ es) r
skipped n id e es r miss order rest =
    let kept = kept_at r e es (λ k is. rest.above e.0 k order is) in
    let pass = λ (xs : List (ℕ × TheirCall)). numbers_cons n id e xs ∙ ap (λ b. cond b (e.0 ∷ reached_to n id xs) (reached_to n id xs)) miss in
    let same = λ (xs : List (ℕ × TheirCall)). ap (λ b. (e.0, cond b (cancelled e.1) e.1) ∷ cancelled_to n id xs) miss in
    record {
      number = pass es ∙ rest.number ∙ ap (λ ks. option_to_list r ++ ks) (sym (ap (λ xs. reached_to n id xs) kept ∙ pass (cancelled_at r es)));
      calls = ap (λ xs. cancelled_to n id xs) kept ∙ ap (λ xs. (e.0, cond (is_hit n id e) (cancelled e.1) e.1) ∷ xs) rest.calls;
      none = λ is. ap (λ xs. cancelled_to n id xs) kept ∙ same (cancelled_at r es) ∙ ap (λ xs. e ∷ xs) (rest.none is) ∙ sym kept;
      rest = λ is. pass es ∙ rest.rest is;
      above = λ m k over is. rest.above m k over.1 is;
    }

some_none : {P : Type 0} (k : ℕ) → Some k ≡ None → P
some_none k is = absurd (cc)

found : (n : ℕ) (id : Id) (e : ℕ × TheirCall) (es : List (ℕ × TheirCall)) → is_hit n id e ≡ true → Above e.0 es → Reaches n id (e ∷ es) (Some e.0)
found n id e es hit order =
    let gone : cancelled_at (Some e.0) (e ∷ es) ≡ (e.0, cancelled e.1) ∷ es =
    ap (λ b. (e.0, cond b (cancelled e.1) e.1) ∷ cancelled_at (Some e.0) es) (eq-eqb e.0 e.0 refl) ∙ ap (λ xs. (e.0, cancelled e.1) ∷ xs) (changed_above e.0 cancelled es order) in
    let missed : is_hit n id (e.0, cancelled e.1) ≡ false = ap (λ b. nat_le e.0 n && b) (and_false (has_id id e.1.id)) ∙ and_false (nat_le e.0 n) in
    let passed = numbers_cons n id (e.0, cancelled e.1) es ∙ ap (λ b. cond b (e.0 ∷ reached_to n id es) (reached_to n id es)) missed in
    record {
      number = numbers_cons n id e es ∙ ap (λ b. cond b (e.0 ∷ reached_to n id es) (reached_to n id es)) hit ∙ ap (λ ks. e.0 ∷ ks) (sym (ap (λ xs. reached_to n id xs) gone ∙ passed));
      calls = ap (λ xs. cancelled_to n id xs) gone ∙ ap (λ b. (e.0, cond b (cancelled e.1) (cancelled e.1)) ∷ cancelled_to n id es) missed
          ∙ sym (ap (λ b. (e.0, cond b (cancelled e.1) e.1) ∷ cancelled_to n id es) hit);
      none = λ is. some_none e.0 is;
      rest = λ is. some_none e.0 is;
      above = λ m k over is. subst (λ x. m < x) (ap (λ o. unwrap_or o e.0) is) over.0;
    }

reaches_step : (b : Bool) (n : ℕ) (id : Id) (e : ℕ × TheirCall) (es : List (ℕ × TheirCall)) (r : Option ℕ) → is_hit n id e ≡ b → Above e.0 es → Reaches n id es r
    → Reaches n id (e ∷ es) (cond b (Some e.0) r)
reaches_step true n id e es r hit order rest = found n id e es hit order
reaches_step false n id e es r hit order rest = skipped n id e es r hit order rest

pub reaches : (n : ℕ) (id : Id) (es : List (ℕ × TheirCall)) → Ascending es → Reaches n id es (reached id (up_to n es))
reaches n id [] order = record { number = refl; calls = refl; none = λ is. refl; rest = λ is. refl; above = λ m k over is. some_none k (sym is) }
reaches n id (e ∷ es) order =
    subst (λ r. Reaches n id (e ∷ es) r) (sym (first_cons n id e es))
    (reaches_step (is_hit n id e) n id e es (reached id (up_to n es)) refl order.0 (reaches n id es order.1))

pub none_of : {X : Type 0} (o : Option X) → is_some o ≡ false → o ≡ None
none_of None is = refl
none_of (Some x) is = absurd (cc)
