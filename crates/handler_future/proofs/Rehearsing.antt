-- A rehearsal: each reply that is heard leaves fewer turns unheard, and keeps to the replies that are known.
use Rattle.std.proofs.Common.{◌≡◌, ◌≢◌, ℕ, zero, suc, ◌+◌, ◌<◌, ◌≤◌, ◌==◌, Bool, true, false, not, List, [], ◌∷◌, ◌++◌, Option, Some, None, unwrap_or, Contains, refl, sym, ◌∙◌, ap, subst, arith, if◌then◌else◌, ⊎_elim}
use Rattle.std.specs.Prelude.{All, slice_get, is_some}
use Rattle.std.specs.List.{list_any}
use Rattle.std.specs.BTreeMap.{BTreeMap, get}
use Rattle.std.specs.Ordering.{nat_cmp}
use Rattle.std.proofs.lemmas.Bool.{cases_eq}
use Rattle.std.proofs.lemmas.Grind.{common_steps}
use Rattle.std.proofs.lemmas.List.Elements.{All-contains, All-same, filter_passes}
use Rattle.rpc_messages.specs.declared.reply.Reply.{Reply}
use Rattle.rpc_messages.specs.declared.reply.Reply.TheVariants.{Standard}
use Rattle.message_ids.specs.declared.standard.Standard.TheVariants.{NoReply}
use Rattle.method_templates.specs.Steps.{calls_of}
use Rattle.handler_future.specs.declared.outcome.Outcome.{Outcome}
use Rattle.handler_future.specs.Evaluation.{Replies}
use Rattle.handler_future.specs.Front.{Heard, AgreesWith, find_heard, is_heard, heard_replies, unheard, last_turns}
use Rattle.handler_future.specs.State.{HandlerState, IsPoll, IsWaiting}
use Rattle.handler_future.specs.Inner.Rehearsing.{Follows, HearsOne, listed_reply}
use Rattle.handler_future.proofs.Heard.{push_same, push_other, find_heard-append_some, find_heard-append_none}

never : (b : Bool) → b ≡ true → b ≡ false → ⊥
never true h g = grind (arith, g)
never false h g = grind (arith, h)

-- ---- how many turns are unheard

none_of : {A : Type 0} (o : Option A) → is_some o ≡ false → o ≡ None
none_of None h = refl
none_of (Some a) h = grind (arith, h)

abbrev pub unheard_upto : Heard → ℕ → ℕ
unheard_upto heard zero = 0
unheard_upto heard (suc n) = (if is_heard heard (suc n) then 0 else 1) + unheard_upto heard n

kept_heard : (heard : Heard) (e : ℕ × Reply) (t : ℕ) → is_heard heard t ≡ true → is_heard (heard ++ e ∷ []) t ≡ true
kept_heard heard e t h = ap (λ o. is_some o) (find_heard-append_some heard (e ∷ []) t h) ∙ h

fewer_or_same : (heard : Heard) (e : ℕ × Reply) (n : ℕ) → unheard_upto (heard ++ e ∷ []) n ≤ unheard_upto heard n
fewer_or_same heard e zero = omega arith
fewer_or_same heard e (suc n) = one (is_heard heard (suc n)) (is_heard (heard ++ e ∷ []) (suc n)) (kept_heard heard e (suc n)) (fewer_or_same heard e n)
  where
    one : (b c : Bool) → (b ≡ true → c ≡ true) → unheard_upto (heard ++ e ∷ []) n ≤ unheard_upto heard n
        → (if c then 0 else 1) + unheard_upto (heard ++ e ∷ []) n ≤ (if b then 0 else 1) + unheard_upto heard n
    one true true kept le = omega (arith, le)
    one true false kept le = grind (arith, kept refl)
    one false true kept le = omega (arith, le)
    one false false kept le = omega (arith, le)

pub fewer : (heard : Heard) (t : ℕ) (r : Reply) (n : ℕ) → is_heard heard t ≡ false → 1 ≤ t → t ≤ n → unheard_upto (heard ++ (t, r) ∷ []) n < unheard_upto heard n
fewer heard t r zero un low high = omega (arith, low, high)
fewer heard t r (suc n) un low high =
    ⊎_elim
    (λ e. here e (fewer_or_same heard (t, r) n))
    (λ ne. there (is_heard heard (suc n)) (is_heard (heard ++ (t, r) ∷ []) (suc n)) (kept_heard heard (t, r) (suc n)) (fewer heard t r n un low (omega (arith, high, ne))))
    (cases_eq t (suc n))
  where
    here : t ≡ suc n → unheard_upto (heard ++ (t, r) ∷ []) n ≤ unheard_upto heard n → unheard_upto (heard ++ (t, r) ∷ []) (suc n) < unheard_upto heard (suc n)
    here e le =
        let before : is_heard heard (suc n) ≡ false = rw (sym e) un in
        let none : find_heard heard (suc n) ≡ None = none_of (find_heard heard (suc n)) before in
        let after : is_heard (heard ++ (t, r) ∷ []) (suc n) ≡ true = ap (λ o. is_some o) (push_same heard (t, r) (suc n) e none) in
        rw (before, after) (omega (arith, le))

    there : (b c : Bool) → (b ≡ true → c ≡ true) → unheard_upto (heard ++ (t, r) ∷ []) n < unheard_upto heard n
        → (if c then 0 else 1) + unheard_upto (heard ++ (t, r) ∷ []) n < (if b then 0 else 1) + unheard_upto heard n
    there true true kept lt = omega (arith, lt)
    there true false kept lt = grind (arith, kept refl)
    there false true kept lt = omega (arith, lt)
    there false false kept lt = omega (arith, lt)

-- ---- one reply is heard

not_true : (b : Bool) → not b ≡ true → b ≡ false
not_true true h = grind (arith, h)
not_true false h = refl

-- an awaited turn isn't heard
awaited_unheard : (s : HandlerState) → IsWaiting s → (t : ℕ) → Contains s.waits t → is_heard s.heard t ≡ false
awaited_unheard s w t awaited =
    let passes : All (λ u. not (is_heard s.heard u) ≡ true) (unheard s.heard (last_turns s.messages)) =
    filter_passes (λ u. not (is_heard s.heard u)) (last_turns s.messages) in
    not_true (is_heard s.heard t)
    (All-contains (λ u. not (is_heard s.heard u) ≡ true) s.waits t (All-same (λ u. not (is_heard s.heard u) ≡ true) s.waits _ w.waits passes) awaited)

pub hears_fewer : (before after : HandlerState) (listed left : BTreeMap ℕ Reply) → IsWaiting before → HearsOne before after listed left
    → unheard_upto after.heard (calls_of after.program.steps) < unheard_upto before.heard (calls_of before.program.steps)
hears_fewer before after listed left w one =
    let within = All-contains (λ t. (1 ≤ t) × (t ≤ calls_of before.program.steps)) before.waits one.turn w.within one.awaited in
    let P : HandlerState → Type 0 = λ s. unheard_upto s.heard (calls_of s.program.steps) < unheard_upto before.heard (calls_of before.program.steps) in
    subst P (sym one.state)
    (fewer before.heard one.turn (listed_reply listed one.turn) (calls_of before.program.steps) (awaited_unheard before w one.turn one.awaited) within.0 within.1)

module _ (R : Replies) (heard : Heard) (turn : ℕ) (r : Reply) where
  agrees_more : AgreesWith heard R → is_heard heard turn ≡ false → R turn ≡ r → AgreesWith (heard ++ (turn, r) ∷ []) R
  agrees_more a un right = record { same = λ t h. by_case t (is_heard heard t) refl h }
    where
      by_case : (t : ℕ) (b : Bool) → is_heard heard t ≡ b → is_heard (heard ++ (turn, r) ∷ []) t ≡ true → R t ≡ heard_replies (heard ++ (turn, r) ∷ []) t
      by_case t true was h = a.same t was ∙ sym (ap (λ o. unwrap_or o (Standard NoReply)) (find_heard-append_some heard ((turn, r) ∷ []) t was))
      by_case t false was h =
          ⊎_elim
          (λ e. ap R (sym e) ∙ right ∙ sym (ap (λ o. unwrap_or o (Standard NoReply)) (push_same heard (turn, r) t e (none_of (find_heard heard t) was))))
          (λ ne. absurd (never (is_heard (heard ++ (turn, r) ∷ []) t) h (ap (λ o. is_some o) (push_other heard (turn, r) t ne) ∙ was)))
          (cases_eq turn t)

  unheard_before : (t : ℕ) (b : Bool) → is_heard heard t ≡ b → is_heard (heard ++ (turn, r) ∷ []) t ≡ false → is_heard heard t ≡ false
  unheard_before t true was h = absurd (never (is_heard (heard ++ (turn, r) ∷ []) t) (kept_heard heard (turn, r) t was) h)
  unheard_before t false was h = was

  unheard_still : (t : ℕ) → is_heard (heard ++ (turn, r) ∷ []) t ≡ false → (turn ≢ t) × (is_heard heard t ≡ false)
  unheard_still t h =
      let before = unheard_before t (is_heard heard t) refl h in
      (λ e. never (is_heard (heard ++ (turn, r) ∷ []) t) (ap (λ o. is_some o) (push_same heard (turn, r) t e (none_of (find_heard heard t) before))) h, before)

pub hears_following : (R : Replies) (before after : HandlerState) (listed left : BTreeMap ℕ Reply) → IsWaiting before → HearsOne before after listed left
    → Follows R before listed → Follows R after left
hears_following R before after listed left w one f =
    let un = awaited_unheard before w one.turn one.awaited in
    let P : HandlerState → Type 0 = λ s. Follows R s left in
    subst P (sym one.state)
    (record {
      agrees = agrees_more R before.heard one.turn (listed_reply listed one.turn) f.agrees un (sym (f.rest one.turn un));
      rest = λ t h.
          let still = unheard_still R before.heard one.turn (listed_reply listed one.turn) t h in
          ap (λ o. unwrap_or o (Standard NoReply)) (one.others t still.0) ∙ f.rest t still.1;
    })

-- ---- polls

pub polls_following : (R : Replies) (before after : HandlerState) (answer : Option Outcome) (listed : BTreeMap ℕ Reply) → IsPoll before after answer
    → Follows R before listed → Follows R after listed
polls_following R before after answer listed poll f =
    record { agrees = rw poll.same_heard f.agrees; rest = λ t h. f.rest t (rw poll.same_heard at h) }

-- ---- at first

pub follows_first : (s : HandlerState) (replies : Heard) (listed : BTreeMap ℕ Reply) → ((t : ℕ) → get nat_cmp listed t ≡ find_heard replies t)
    → Follows (heard_replies (s.heard ++ replies)) s listed
follows_first s replies listed first =
    record {
      agrees = record { same = λ t h. ap (λ o. unwrap_or o (Standard NoReply)) (find_heard-append_some s.heard replies t h) };
      rest = λ t un. ap (λ o. unwrap_or o (Standard NoReply)) (first t ∙ sym (find_heard-append_none s.heard replies t un));
    }

-- the first awaited turn
pub first_awaited : (waits : List ℕ) (turn : ℕ) → Some turn ≡ slice_get waits 0 → Contains waits turn
first_awaited [] turn first = grind (arith, first)
first_awaited (w ∷ ws) turn first = (0, omega arith, grind (arith, first))

-- a poll that waits, and one reply
pub turn_fewer : (before now after : HandlerState) (listed left : BTreeMap ℕ Reply) → IsPoll before now None → HearsOne now after listed left
    → unheard_upto after.heard (calls_of after.program.steps) < unheard_upto before.heard (calls_of before.program.steps)
turn_fewer before now after listed left poll one =
    let e : unheard_upto now.heard (calls_of now.program.steps) ≡ unheard_upto before.heard (calls_of before.program.steps) =
    λ i. unheard_upto (poll.same_heard i) (calls_of (poll.same_program i).steps) in
    subst (λ n. unheard_upto after.heard (calls_of after.program.steps) < n) e (hears_fewer now after listed left poll.leaves one)

pub first_is_among : (waits : List ℕ) (turn : ℕ) → Some turn ≡ slice_get waits 0 → list_any (λ wait. wait == turn) waits ≡ true
first_is_among [] turn first = grind (arith, first)
first_is_among (w ∷ ws) turn first = grind (arith, common_steps, first)
