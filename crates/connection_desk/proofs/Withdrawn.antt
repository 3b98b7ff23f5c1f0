-- The withdrawals of a call's own calls, one by one.
use Rattle.std.proofs.Common.{◌≡◌, ℕ, ◌<◌, ◌&&◌, Bool, true, false, cond, List, [], ◌∷◌, Option, Some, refl, sym, ap, subst, ◌∙◌, arith, nat_lt, length, map, filter}
use Rattle.std.specs.Option.{option_map, IfSome}
use Rattle.std.specs.List.{find}
use Rattle.connection_messages.specs.Texts.{withdrawal_text}
use Rattle.connection_messages.specs.declared.cancels.Cancels.{Cancels}
use Rattle.open_calls.specs.declared.own_call.OwnCall.{OwnCall}
use Rattle.open_calls.specs.Numbered.{next_number, Above, Ascending}
use Rattle.open_calls.specs.Own.{is_wanted_by, next_wanted}
use Rattle.connection_desk.proofs.Entries.{PassAbove, FoundAmong, WithdrawalLaws}
use Rattle.outbox.specs.Output.{Output}
use Rattle.connection_desk.specs.Desks.{with_texts}
use Rattle.connection_desk.specs.Inner.{rest_of}
use Rattle.connection_desk.proofs.OwedLists.{more_texts}
use Rattle.connection_desk.proofs.Rests.{IsThere, rest_next, rest_step_from, next_there}

abbrev pub Calls : Type 0
Calls = List (ℕ × OwnCall)

-- the calls of this one that aren't withdrawn
abbrev pub wanted : ℕ → Calls → Calls
wanted n waiting = filter (λ e. is_wanted_by n e.1) waiting

abbrev pub withdrawals : Cancels → Calls → List (List ℕ)
withdrawals by calls = map (withdrawal_text by) (map (λ e. e.0) calls)

keeps_order : {X : Type 0} (b : Bool) (e : ℕ × X) (es : List (ℕ × X)) → Above e.0 es → Ascending es → Ascending (cond b (e ∷ es) es)
keeps_order true e es above order = (above, order)
keeps_order false e es above order = order

ascending_filter : {X : Type 0} (pass : PassAbove X) (p : ℕ × X → Bool) (es : List (ℕ × X)) → Ascending es → Ascending (filter p es)
ascending_filter pass p [] order = tt
ascending_filter pass p (e ∷ es) order = keeps_order (p e) e (filter p es) (pass e.0 p es order.0) (ascending_filter pass p es order.1)

pub wanted_ascend : (pass : PassAbove OwnCall) (n : ℕ) (waiting : Calls) → Ascending waiting → Ascending (wanted n waiting)
wanted_ascend pass n waiting order = ascending_filter pass (λ e. is_wanted_by n e.1) waiting order

and_swap : (a b : Bool) → (a && b) ≡ (b && a)
and_swap true true = refl
and_swap true false = refl
and_swap false true = refl
and_swap false false = refl

find_swap : {X : Type 0} (p q : X → Bool) (es : List X) → find (λ e. p e && q e) es ≡ find (λ e. q e && p e) es
find_swap p q [] = refl
find_swap p q (e ∷ es) =
    ap (λ b. cond b (Some e) (find (λ x. p x && q x) es)) (and_swap (p e) (q e)) ∙ ap (λ o. cond (q e && p e) (Some e) o) (find_swap p q es)

next_among : (found : FoundAmong OwnCall) (n after : ℕ) (waiting : Calls) → next_wanted n after waiting ≡ next_number after (wanted n waiting)
next_among found n after waiting =
    ap (λ o. option_map (λ e. e.0) o)
    (find_swap (λ (e : ℕ × OwnCall). nat_lt after e.0) (λ e. is_wanted_by n e.1) waiting
    ∙ sym (found (λ (e : ℕ × OwnCall). nat_lt after e.0) (λ e. is_wanted_by n e.1) waiting))

-- ---- the next one

pub first_rest : (laws : WithdrawalLaws OwnCall) (n : ℕ) (waiting : Calls) (next : Option ℕ) → Above 0 waiting → next ≡ next_wanted n 0 waiting → rest_of next (wanted n waiting) ≡ wanted n waiting
first_rest laws n waiting next positive is =
    ap (λ o. rest_of o (wanted n waiting)) (is ∙ next_among laws.found n 0 waiting)
    ∙ rest_next 0 (wanted n waiting) (laws.pass 0 (λ e. is_wanted_by n e.1) waiting positive)

pub next_is_there : (laws : WithdrawalLaws OwnCall) (n after : ℕ) (waiting : Calls) (next : Option ℕ) → Ascending waiting → next ≡ next_wanted n after waiting → IfSome next (IsThere (wanted n waiting))
next_is_there laws n after waiting next order is =
    subst (λ o. IfSome o (IsThere (wanted n waiting))) (sym (is ∙ next_among laws.found n after waiting)) (next_there laws.at after (wanted n waiting) (wanted_ascend laws.pass n waiting order))

pub rest_more : (laws : WithdrawalLaws OwnCall) (n key : ℕ) (waiting : Calls) (next : Option ℕ) → Ascending waiting → IsThere (wanted n waiting) key → next ≡ next_wanted n key waiting
    → (x : OwnCall) × (rest_of (Some key) (wanted n waiting) ≡ (key, x) ∷ rest_of next (wanted n waiting))
rest_more laws n key waiting next order there is = (
  there.0,
  rest_step_from laws.at key there.0 (wanted n waiting) (wanted_ascend laws.pass n waiting order) there.1
      ∙ ap (λ o. (key, there.0) ∷ rest_of o (wanted n waiting)) (sym (is ∙ next_among laws.found n key waiting)),
)

-- ---- the withdrawals that are left

pub said_one : (laws : WithdrawalLaws OwnCall) (by : Cancels) (n key : ℕ) (waiting : Calls) (next : Option ℕ) (middle now : Output) → Ascending waiting → IsThere (wanted n waiting) key → next ≡ next_wanted n key waiting
    → now ≡ with_texts (withdrawal_text by key ∷ []) middle
    → with_texts (withdrawals by (rest_of next (wanted n waiting))) now ≡ with_texts (withdrawals by (rest_of (Some key) (wanted n waiting))) middle
said_one laws by n key waiting next middle now order there is said =
    let more = rest_more laws n key waiting next order there is in
    let rest = withdrawals by (rest_of next (wanted n waiting)) in
    ap (with_texts rest) said ∙ more_texts (withdrawal_text by key ∷ []) rest middle
    ∙ ap (λ es. with_texts (withdrawals by es) middle) (sym more.1)

pub fewer_left : (laws : WithdrawalLaws OwnCall) (n key : ℕ) (waiting : Calls) (next : Option ℕ) → Ascending waiting → IsThere (wanted n waiting) key → next ≡ next_wanted n key waiting
    → length (rest_of next (wanted n waiting)) < length (rest_of (Some key) (wanted n waiting))
fewer_left laws n key waiting next order there is =
    let more = rest_more laws n key waiting next order there is in
    omega (arith, ap length more.1)
