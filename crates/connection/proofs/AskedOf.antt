-- Whether an open call is a request, by the history.
use Rattle.std.proofs.Common.{◌≡◌, ℕ, zero, suc, ◌+◌, ◌==◌, ◌&&◌, Bool, true, false, cond, List, [], ◌∷◌, ◌++◌, map, length, Option, Some, None, option_map, refl, sym, ap, ◌∙◌, arith, append_assoc}
use Rattle.std.proofs.lemmas.List.{map-append}
use Rattle.std.specs.Prelude.{is_some, slice_get, option_and_then}
use Rattle.std.specs.Option.{is_none}
use Rattle.message_ids.specs.declared.id.Id.{Id}
use Rattle.connection_messages.specs.declared.call.Call.{Call as Came}
use Rattle.connection_messages.specs.declared.entry.Entry.{Entry}
use Rattle.connection_messages.specs.declared.entry.Entry.TheVariants.{Call, Cancel, Reply, Stray, Invalid}
use Rattle.connection_messages.specs.declared.unit.Unit.{Unit}
use Rattle.connection_history.specs.declared.event.Event.{Event}
use Rattle.connection_history.specs.Stream.{entries_in, entries_along, call_in, calls_in, is_cancelled}
use Rattle.connection_history.specs.History.{History, stream, units_of, is_open, answer_to}
use Rattle.connection_history.proofs.Tests.{same, same_test, different}
use Rattle.connection_steps.specs.States.{State, slot_count, theirs_of}
use Rattle.connection_steps.proofs.TheirSites.{site, sites_along, sites_in, sites_of, seen_as, all_seen, theirs-seen}
use Rattle.open_calls.specs.declared.their_call.TheirCall.{TheirCall}
use Rattle.open_calls.specs.Numbered.{at}
use Rattle.connection.specs.Connections.{Connection, StandsAfter, asked, asked_in}
use Rattle.connection.proofs.Stands.{none_at_zero}

abbrev id_in : ℕ → List (ℕ × TheirCall) → Option (Option Id)
id_in k ss = option_map (λ call. call.id) (at k ss)

-- ---- the calls that came, by their numbers

abbrev pairs : List (ℕ × TheirCall) → List (ℕ × Option Id)
pairs ss = map (λ s. (s.0, s.1.id)) ss

abbrev numbered_ids : ℕ → List Came → List (ℕ × Option Id)
numbered_ids n [] = []
numbered_ids n (c ∷ cs) = (n, c.id) ∷ numbered_ids (n + 1) cs

numbered-append : (n : ℕ) (cs ds : List Came) → numbered_ids n (cs ++ ds) ≡ numbered_ids n cs ++ numbered_ids (n + length cs) ds
numbered-append n [] ds = ap (λ m. numbered_ids m ds) (let is : n ≡ n + 0 = omega arith in is)
numbered-append n (c ∷ cs) ds =
    ap (λ l. (n, c.id) ∷ l)
    (numbered-append (n + 1) cs ds ∙ ap (λ m. numbered_ids (n + 1) cs ++ numbered_ids m ds) (let is : n + 1 + length cs ≡ n + suc (length cs) = omega arith in is))

site-ids : (place n slot : ℕ) (e : Entry) → pairs (site place n slot e) ≡ numbered_ids n (call_in e)
site-ids place n slot (Call c) = refl
site-ids place n slot (Cancel id) = refl
site-ids place n slot (Reply k r) = refl
site-ids place n slot Stray = refl
site-ids place n slot Invalid = refl

along-ids : (place n slot : ℕ) (es : List Entry) → pairs (sites_along place n slot es) ≡ numbered_ids n (calls_in es)
along-ids place n slot [] = refl
along-ids place n slot (e ∷ es) =
    map-append (λ s. (s.0, s.1.id)) (site place n slot e) (sites_along place (n + length (call_in e)) (slot + slot_count e) es)
    ∙ (λ i. site-ids place n slot e i ++ along-ids place (n + length (call_in e)) (slot + slot_count e) es i)
    ∙ sym (numbered-append n (call_in e) (calls_in es))

calls-append : (es more : List Entry) → calls_in (es ++ more) ≡ calls_in es ++ calls_in more
calls-append [] more = refl
calls-append (e ∷ es) more = ap (λ cs. call_in e ++ cs) (calls-append es more) ∙ sym (append_assoc (call_in e) (calls_in es) (calls_in more))

units-ids : (place n : ℕ) (us : List Unit) → pairs (sites_in place n us) ≡ numbered_ids n (calls_in (entries_along us))
units-ids place n [] = refl
units-ids place n (u ∷ us) =
    map-append (λ s. (s.0, s.1.id)) (sites_along place n 0 (entries_in u)) (sites_in (place + 1) (n + length (calls_in (entries_in u))) us)
    ∙ (λ i. along-ids place n 0 (entries_in u) i ++ units-ids (place + 1) (n + length (calls_in (entries_in u))) us i)
    ∙ sym (numbered-append n (calls_in (entries_in u)) (calls_in (entries_along us)))
    ∙ ap (numbered_ids n) (sym (calls-append (entries_in u) (entries_along us)))

at-pairs : (k : ℕ) (ss : List (ℕ × TheirCall)) → id_in k ss ≡ at k (pairs ss)
at-pairs k [] = refl
at-pairs k (s ∷ ss) = go (k == s.0) (at-pairs k ss)
  where
    go : (b : Bool) → id_in k ss ≡ at k (pairs ss) → option_map (λ call. call.id) (cond b (Some s.1) (at k ss)) ≡ cond b (Some s.1.id) (at k (pairs ss))
    go true rest = refl
    go false rest = rest

at-numbered : (n i : ℕ) (cs : List Came) → at (n + i) (numbered_ids n cs) ≡ option_map (λ c. c.id) (slice_get cs i)
at-numbered n i [] = refl
at-numbered n zero (c ∷ cs) = ap (λ b. cond b (Some c.id) (at (n + 0) (numbered_ids (n + 1) cs))) (same_test (n + 0) n (omega arith))
at-numbered n (suc i) (c ∷ cs) =
    ap (λ b. cond b (Some c.id) (at (n + suc i) (numbered_ids (n + 1) cs))) (different (n + suc i) n (λ is. omega (arith, is)))
    ∙ ap (λ k. at k (numbered_ids (n + 1) cs)) (let next : n + suc i ≡ n + 1 + i = omega arith in next) ∙ at-numbered (n + 1) i cs

-- ---- those that are open

seen_step : (k : ℕ) (s : ℕ × TheirCall) (rest ss : List (ℕ × TheirCall)) (opened hit test this : Bool) → (k == s.0) ≡ test → (test ≡ true → this ≡ opened)
    → id_in k rest ≡ cond this (id_in k ss) None → id_in k (seen_as opened hit s ++ rest) ≡ cond this (option_map (λ call. call.id) (cond test (Some s.1) (at k ss))) None
seen_step k s rest ss true hit true this is alike later =
    ap (λ b. option_map (λ call. call.id) (cond b (Some (record s.1 { is_cancelled = hit })) (at k rest))) is ∙ sym (ap (λ b. cond b (Some s.1.id) None) (alike refl))
seen_step k s rest ss true hit false this is alike later = ap (λ b. option_map (λ call. call.id) (cond b (Some (record s.1 { is_cancelled = hit })) (at k rest))) is ∙ later
seen_step k s rest ss false hit true this is alike later = later ∙ ap (λ b. cond b (id_in k ss) None) (alike refl) ∙ sym (ap (λ b. cond b (Some s.1.id) None) (alike refl))
seen_step k s rest ss false hit false this is alike later = later

none_of : (b : Bool) (o : Option (Option Id)) → o ≡ None → o ≡ cond b o None
none_of true o is = refl
none_of false o is = is

seen-ids : (k : ℕ) (history : History) (ss : List (ℕ × TheirCall)) → id_in k (all_seen history ss) ≡ cond (is_open k history) (id_in k ss) None
seen-ids k history [] = none_of (is_open k history) (id_in k []) refl
seen-ids k history (s ∷ ss) =
    seen_step k s (all_seen history ss) ss (is_open s.0 history) (is_cancelled s.0 (stream history)) (k == s.0) (is_open k history) refl
    (λ here. ap (λ n. is_open n history) (same k s.0 here)) (seen-ids k history ss)

-- ---- by the history

by_id : (o : Option TheirCall) → option_map (λ call. is_some call.id) o ≡ option_map is_some (option_map (λ call. call.id) o)
by_id None = refl
by_id (Some call) = refl

none_is : (o : Option TheirCall) → is_some o ≡ false → option_map (λ call. is_some call.id) o ≡ None
none_is None is = refl
none_is (Some call) is = absurd (cc)

by_call : (o : Option Came) (b : Bool) → option_map is_some (cond (is_some o && b) (option_map (λ c. c.id) o) None) ≡ cond (is_some o && b) (Some (is_some (option_and_then (λ c. c.id) o))) None
by_call None b = refl
by_call (Some c) true = refl
by_call (Some c) false = refl

asked_at : (history : History) (n : ℕ) → option_map (λ call. is_some call.id) (at n (theirs_of history).calls) ≡ asked_in history n
asked_at history zero = none_is (at zero (theirs_of history).calls) (none_at_zero history)
asked_at history (suc m) =
    by_id (at (suc m) (theirs_of history).calls)
    ∙ ap (λ calls. option_map is_some (id_in (suc m) calls)) (theirs-seen history 0 1 (units_of history))
    ∙ ap (option_map is_some)
    (seen-ids (suc m) history (sites_of history)
    ∙ ap (λ o. cond (is_open (suc m) history) o None)
    (at-pairs (suc m) (sites_of history) ∙ ap (at (suc m)) (units-ids 0 1 (units_of history)) ∙ ap (λ k. at k (numbered_ids 1 (calls_in (stream history)))) (let is : suc m ≡ 1 + m = omega arith in is)
    ∙ at-numbered 1 m (calls_in (stream history))))
    ∙ by_call (slice_get (calls_in (stream history)) m) (is_none (answer_to (suc m) history))

pub asked_is : (c : Connection) (history : History) (told : List Event) (n : ℕ) → StandsAfter c history told → asked c n ≡ asked_in history n
asked_is c history told n stands = ap (λ (s : State). option_map (λ call. is_some call.id) (at n s.theirs.calls)) stands.desk.state ∙ asked_at history n
