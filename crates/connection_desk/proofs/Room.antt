-- How many events the entries of a unit tell at most.
use Rattle.std.proofs.Common.{◌≡◌, ℕ, suc, ◌+◌, ◌<◌, ◌≤◌, ◌&&◌, not, nat_le, Bool, true, false, cond, if◌then◌else◌, List, [], ◌∷◌, ◌++◌, filter, length, map, Option, Some, None, drop, get_or, refl, sym, ap, ◌∙◌, arith, add-one, drop-cons, length-append}
use Rattle.std.proofs.lemmas.List.{length-map}
use Rattle.std.specs.Option.{is_some, option_to_list}
use mir.Val.{bool_byte}
use Rattle.message_ids.specs.declared.id.Id.{Id}
use Rattle.message_ids.specs.Ids.{has_id}
use Rattle.connection_messages.specs.declared.entry.Entry.{Entry}
use Rattle.connection_messages.specs.declared.entry.Entry.TheVariants.{Call, Cancel, Reply, Stray, Invalid}
use Rattle.connection_history.specs.declared.broken.Broken.{Broken}
use Rattle.connection_history.specs.declared.event.Event.{Event}
use Rattle.connection_history.specs.declared.event.Event.TheVariants as event
use Rattle.connection_history.specs.Stream.{call_in}
use Rattle.open_calls.specs.declared.their_call.TheirCall.{TheirCall}
use Rattle.open_calls.specs.Own.{OwnState}
use Rattle.open_calls.specs.Theirs.{is_reached, cancelled}
use Rattle.connection_steps.specs.Steps.{own_after}
use Rattle.connection_desk.specs.Inner.{reached_to, cancelled_to, told_along, has_cancel, is_telling, most_events}
use Rattle.connection_desk.proofs.Reached.{numbers_cons}

-- how many entries are calls or replies
abbrev telling : List Entry → ℕ
telling es = length (filter is_telling es)

-- how many calls no cancel has reached
abbrev reachable : List (ℕ × TheirCall) → ℕ
reachable [] = 0
reachable (e ∷ es) = cond e.1.is_cancelled 0 1 + reachable es

one_most : (b : Bool) (n m : ℕ) → n ≤ m → cond b 0 1 + n ≤ suc m
one_most true n m le = omega arith
one_most false n m le = omega arith

reachable_most : (es : List (ℕ × TheirCall)) → reachable es ≤ length es
reachable_most [] = omega arith
reachable_most (e ∷ es) = one_most e.1.is_cancelled (reachable es) (length es) (reachable_most es)

hit_cancelled : (hit : Bool) (call : TheirCall) → (cond hit (cancelled call) call).is_cancelled ≡ cond hit true call.is_cancelled
hit_cancelled true call = refl
hit_cancelled false call = refl

spent_step : (le has canc : Bool) (k : ℕ) (ks : List ℕ) (now was : ℕ) → length ks + now ≡ was
    → length (cond (le && (has && not canc)) (k ∷ ks) ks) + (cond (cond (le && (has && not canc)) true canc) 0 1 + now) ≡ cond canc 0 1 + was
spent_step true true true k ks now was is = omega arith
spent_step true true false k ks now was is = omega arith
spent_step true false true k ks now was is = omega arith
spent_step true false false k ks now was is = omega arith
spent_step false has true k ks now was is = omega arith
spent_step false has false k ks now was is = omega arith

-- each request that a cancel reaches is one that no other will
spent : (n : ℕ) (id : Id) (es : List (ℕ × TheirCall)) → length (reached_to n id es) + reachable (cancelled_to n id es) ≡ reachable es
spent n id [] = refl
spent n id (e ∷ es) =
    ap (λ ks. length ks + (cond (cond (nat_le e.0 n && is_reached id e.1) (cancelled e.1) e.1).is_cancelled 0 1 + reachable (cancelled_to n id es))) (numbers_cons n id e es)
    ∙ ap (λ b. length (cond (nat_le e.0 n && is_reached id e.1) (e.0 ∷ reached_to n id es) (reached_to n id es)) + (cond b 0 1 + reachable (cancelled_to n id es)))
    (hit_cancelled (nat_le e.0 n && is_reached id e.1) e.1)
    ∙ spent_step (nat_le e.0 n) (has_id id e.1.id) e.1.is_cancelled e.0 (reached_to n id es) (reachable (cancelled_to n id es)) (reachable es) (spent n id es)

reply_step : {X : Type 0} (b : Bool) (x : X) (xs : List X) (m : ℕ) → length xs < m → length ((if b then x ∷ [] else []) ++ xs) ≤ m
reply_step true x xs m lt = omega arith
reply_step false x xs m lt = omega arith

cancel_step : (ks : List ℕ) (told : List Event) (m now was : ℕ) → length told ≤ m + now → length ks + now ≡ was → length (map event.Cancelled ks ++ told) ≤ m + was
cancel_step ks told m now was le is = omega (arith, length-append (map event.Cancelled ks) told, length-map ks event.Cancelled)

told_reachable : (n : ℕ) (own : OwnState) (calls : List (ℕ × TheirCall)) (es : List Entry) → length (told_along n own calls es) ≤ telling es + reachable calls
told_reachable n own calls [] = omega arith
told_reachable n own calls (Call c ∷ es) = let le = told_reachable (n + length (call_in (Call c))) own calls es in omega (arith, le)
told_reachable n own calls (Cancel id ∷ es) =
    cancel_step (reached_to n id calls) (told_along (n + length (call_in (Cancel id))) own (cancelled_to n id calls) es) (telling es) (reachable (cancelled_to n id calls)) (reachable calls)
    (told_reachable (n + length (call_in (Cancel id))) own (cancelled_to n id calls) es) (spent n id calls)
told_reachable n own calls (Reply k r ∷ es) =
    reply_step _ (event.Replied k r) (told_along (n + length (call_in (Reply k r))) (own_after (Reply k r) own) calls es) (suc (telling es) + reachable calls)
    (let le = told_reachable (n + length (call_in (Reply k r))) (own_after (Reply k r) own) calls es in omega (arith, le))
told_reachable n own calls (Stray ∷ es) = let le = told_reachable (n + length (call_in Stray)) own calls es in omega (arith, le)
told_reachable n own calls (Invalid ∷ es) = let le = told_reachable (n + length (call_in Invalid)) own calls es in omega (arith, le)

told_each : (n : ℕ) (own : OwnState) (calls : List (ℕ × TheirCall)) (es : List Entry) → has_cancel es ≡ false → length (told_along n own calls es) ≤ telling es
told_each n own calls [] none = omega arith
told_each n own calls (Call c ∷ es) none = let le = told_each (n + length (call_in (Call c))) own calls es none in omega (arith, le)
told_each n own calls (Cancel id ∷ es) none = absurd (cc)
told_each n own calls (Reply k r ∷ es) none =
    reply_step _ (event.Replied k r) (told_along (n + length (call_in (Reply k r))) (own_after (Reply k r) own) calls es) (suc (telling es))
    (let le = told_each (n + length (call_in (Reply k r))) (own_after (Reply k r) own) calls es none in omega (arith, le))
told_each n own calls (Stray ∷ es) none = let le = told_each (n + length (call_in Stray)) own calls es none in omega (arith, le)
told_each n own calls (Invalid ∷ es) none = let le = told_each (n + length (call_in Invalid)) own calls es none in omega (arith, le)

most_step : (b : Bool) (told m count : ℕ) → told ≤ m + count → (b ≡ false → told ≤ m) → told ≤ m + (if b then count else 0)
most_step true told m count le each = le
most_step false told m count le each = let less : told ≤ m = each refl in omega arith

pub told_most : (n : ℕ) (own : OwnState) (calls : List (ℕ × TheirCall)) (es : List Entry) → length (told_along n own calls es) ≤ most_events (length calls) es
told_most n own calls es =
    most_step (has_cancel es) (length (told_along n own calls es)) (telling es) (length calls)
    (let le = told_reachable n own calls es in let few = reachable_most calls in omega (arith, le, few))
    (told_each n own calls es)

-- what is broken is one event more
pub broken_count : (broken : Option Broken) (some : Bool) → some ≡ is_some broken → bool_byte some ≡ length (option_to_list broken)
broken_count None some is = ap bool_byte is
broken_count (Some b) some is = ap bool_byte is

-- ---- how many entries tell

telling_step : (b : Bool) (e : Entry) (es : List Entry) → bool_byte b + length es ≡ length (cond b (e ∷ es) es)
telling_step true e es = omega arith
telling_step false e es = omega arith

pub byte_few : (b : Bool) → bool_byte b ≤ 1
byte_few true = omega arith
byte_few false = omega arith

-- one entry, and those behind it
pub telling_more : (es : List Entry) (i : ℕ) (e : Entry) (b : Bool) → i < length es → e ≡ get_or es i e → b ≡ is_telling e
    → bool_byte b + telling (drop (i + 1) es) ≡ telling (drop i es)
telling_more es i e b lt here is =
    let rest : drop i es ≡ e ∷ drop (i + 1) es = rw (drop-cons es i e lt, add-one, ← here) in
    telling_step b e (filter is_telling (drop (i + 1) es))
    ∙ ap (λ c. length (cond c (e ∷ filter is_telling (drop (i + 1) es)) (filter is_telling (drop (i + 1) es)))) is
    ∙ sym (ap telling rest)
