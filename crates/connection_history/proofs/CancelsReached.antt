-- Which cancel reaches a request.
use Rattle.std.proofs.Common.{◌≡◌, ◌↔◌, ℕ, ◌+◌, ◌<◌, ◌≤◌, List, [], ◌∷◌, ◌++◌, map, Bool, true, false, refl, sym, ap, ◌∙◌, append_assoc, append-nil, arith, Option}
use Rattle.message_ids.specs.declared.id.Id.{Id}
use Rattle.connection_messages.specs.declared.entry.Entry.{Entry}
use Rattle.connection_messages.specs.declared.entry.Entry.TheVariants.{Call, Cancel, Reply, Stray, Invalid}
use Rattle.connection_messages.specs.declared.unit.Unit.{Unit}
use Rattle.connection_history.specs.declared.event.Event.TheVariants as event
use Rattle.connection_history.specs.Stream.{entries_in}
use Rattle.connection_history.specs.Events.{is_reached, reached, events_of_entry, events_along, events_at}
use Rattle.connection_history.specs.History.{came, History, is_waiting, Origin}
use Rattle.connection_history.specs.Told.{cancels_told, ReachedBy}
use Rattle.connection_history.proofs.Numbers.{one_if}
use Rattle.connection_history.proofs.Along.{so_far, events_along-append}
use Rattle.connection_history.proofs.CancelsTold.{is_hit, cancels_told-append, cancels_told-broken, cancels_told-reply, told_of_cancel, entries_once, at_most_one}

-- ---- which cancel it is

-- a cancel among the entries after a front reaches the request
pub record ReachedAmong (past : History) (front es : List Entry) (n : ℕ) : Type 0 where
  pub earlier : List Entry
  pub id : Id
  pub rest : List Entry
  pub place : es ≡ earlier ++ Cancel id ∷ rest
  pub reached : is_reached id (so_far past (front ++ earlier)) n ≡ true

further : (past : History) (front : List Entry) (e : Entry) (es : List Entry) (n : ℕ) → ReachedAmong past (front ++ e ∷ []) es n → ReachedAmong past front (e ∷ es) n
further past front e es n r = record {
  earlier = e ∷ r.earlier;
  id = r.id;
  rest = r.rest;
  place = ap (λ l. e ∷ l) r.place;
  reached = ap (λ l. is_reached r.id (so_far past l) n) (sym (append_assoc front (e ∷ []) r.earlier)) ∙ r.reached;
}

one_there : (b : Bool) → 0 < one_if b → b ≡ true
one_there true h = refl
one_there false h = absurd (omega arith)

in_either : (n : ℕ) (past : History) (front : List Entry) (id : Id) (es : List Entry) (b : Bool) → is_reached id (so_far past front) n ≡ b
    → (0 < cancels_told n (events_along past (front ++ Cancel id ∷ []) es) → ReachedAmong past (front ++ Cancel id ∷ []) es n)
    → 0 < cancels_told n (events_along past front (Cancel id ∷ es)) → ReachedAmong past front (Cancel id ∷ es) n
in_either n past front id es true here later some = record {
  earlier = [];
  id = id;
  rest = es;
  place = refl;
  reached = ap (λ l. is_reached id (so_far past l) n) (append-nil front) ∙ here;
}
in_either n past front id es false here later some =
    let none : cancels_told n (map event.Cancelled (reached id (so_far past front))) ≡ 0 = told_of_cancel n id (so_far past front) ∙ ap one_if here in
    further past front (Cancel id) es n (later (omega (arith, cancels_told-append n (map event.Cancelled (reached id (so_far past front))) (events_along past (front ++ Cancel id ∷ []) es))))

found : (n : ℕ) (past : History) (front es : List Entry) → 0 < cancels_told n (events_along past front es) → ReachedAmong past front es n
found n past front [] some = absurd (omega arith)
found n past front (Call c ∷ es) some = further past front (Call c) es n (found n past (front ++ Call c ∷ []) es some)
found n past front (Cancel id ∷ es) some = in_either n past front id es (is_reached id (so_far past front) n) refl (found n past (front ++ Cancel id ∷ []) es) some
found n past front (Reply j r ∷ es) some =
    further past front (Reply j r) es n
    (found n past (front ++ Reply j r ∷ []) es
    (omega (arith, cancels_told-append n (events_of_entry (so_far past front) (Reply j r)) (events_along past (front ++ Reply j r ∷ []) es), cancels_told-reply n (is_waiting j (so_far past front)) j r)))
found n past front (Stray ∷ es) some = further past front Stray es n (found n past (front ++ Stray ∷ []) es some)
found n past front (Invalid ∷ es) some = further past front Invalid es n (found n past (front ++ Invalid ∷ []) es some)

unit_at_most : (past : History) (from : Option Origin) (u : Unit) (n : ℕ) → cancels_told n (events_at past (came from u)) ≤ 1
unit_at_most past from u n =
    let told = cancels_told-broken n from u (events_along past [] (entries_in u)) in
    let all : 0 + cancels_told n (events_along past [] (entries_in u)) ≤ 1 = at_most_one _ (is_hit n (so_far past (entries_in u))) (entries_once n 0 past [] (entries_in u) (omega arith)) in
    omega (arith, told)

told_there : (past : History) (from : Option Origin) (u : Unit) (n : ℕ) → ReachedBy past u n → 0 < cancels_told n (events_at past (came from u))
told_there past from u n r =
    let front = r.front in
    let told = cancels_told-broken n from u (events_along past [] (entries_in u)) in
    let all = ap (λ es. cancels_told n (events_along past [] es)) r.place ∙ ap (cancels_told n) (events_along-append past [] front (Cancel r.id ∷ r.rest)) in
    let here : cancels_told n (map event.Cancelled (reached r.id (so_far past front))) ≡ 1 = told_of_cancel n r.id (so_far past front) ∙ ap one_if r.reached in
    omega (arith, told, all, cancels_told-append n (events_along past [] front) (events_along past front (Cancel r.id ∷ r.rest)), cancels_told-append n (map event.Cancelled (reached r.id (so_far past front))) (events_along past (front ++ Cancel r.id ∷ []) r.rest))

by_among : (past : History) (u : Unit) (n : ℕ) → ReachedAmong past [] (entries_in u) n → ReachedBy past u n
by_among past u n r = record { front = r.earlier; id = r.id; rest = r.rest; place = r.place; reached = r.reached }

-- a unit tells that a request is cancelled exactly where one of its cancels reaches it
pub reached_told : (past : History) (from : Option Origin) (u : Unit) (n : ℕ) → (cancels_told n (events_at past (came from u)) ≡ 1) ↔ ReachedBy past u n
reached_told past from u n = (
  (λ one. by_among past u n (found n past [] (entries_in u) (omega (arith, cancels_told-broken n from u (events_along past [] (entries_in u)))))),
  (λ r. let some = told_there past from u n r in omega (arith, unit_at_most past from u n)),
)
