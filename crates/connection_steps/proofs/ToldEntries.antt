-- What a unit tells, entry by entry.
use Rattle.std.proofs.Common.{◌≡◌, ℕ, ◌+◌, List, [], ◌∷◌, ◌++◌, length, map, Bool, true, false, cond, ◌&&◌, not, refl, sym, ap, ◌∙◌, Option}
use Rattle.std.proofs.lemmas.List.{map-append}
use Rattle.std.specs.Prelude.{filter}
use Rattle.message_ids.specs.Ids.{has_id}
use Rattle.message_ids.specs.declared.id.Id.{Id}
use Rattle.connection_messages.specs.declared.entry.Entry.{Entry}
use Rattle.connection_messages.specs.declared.entry.Entry.TheVariants.{Call, Cancel, Reply, Stray, Invalid}
use Rattle.connection_messages.specs.declared.unit.Unit.{Unit}
use Rattle.connection_history.specs.declared.event.Event.TheVariants as event
use Rattle.connection_history.specs.Stream.{entries_in, request_id, is_cancelled}
use Rattle.connection_history.specs.Events.{is_reached, reached, events_of_entry, events_along, events_at, broken_at}
use Rattle.connection_history.specs.History.{came, History, units_of, stream, is_open, Origin}
use Rattle.connection_history.specs.Refusals.{IsLawful}
use Rattle.connection_history.proofs.Along.{so_far}
use Rattle.open_calls.specs.declared.their_call.TheirCall.{TheirCall}
use Rattle.open_calls.specs.Own.{OwnState}
use Rattle.open_calls.specs.Theirs.{TheirState, new_call, cancelled, is_reached as reaches}
use Rattle.connection_steps.specs.States.{own_of, theirs_of}
use Rattle.connection_steps.specs.Steps.{reached_numbers, cancelled_all, theirs_after, own_after, told_of, told_of_all, told_of_unit}
use Rattle.connection_steps.proofs.OwnEntries.{waits_at, own_nothing, own_entry}
use Rattle.connection_steps.proofs.TheirEntries.{theirs-none, theirs-entry}
use Rattle.connection_steps.proofs.TheirSites.{sites_of, slots_in, seen_as, all_seen, theirs-seen, AreSites, all-are, numbers_in, all-numbers}
use Rattle.connection_messages.specs.declared.cancels.Cancels.{Cancels}

-- ---- what a cancel reaches

-- the numbers of those that it reaches, with one more in front if that is reached
abbrev with_one : Id → Bool → ℕ × TheirCall → List (ℕ × TheirCall) → List ℕ
with_one id b s rest = map (λ e. e.0) (cond b (s ∷ filter (λ e. reaches id e.1) rest) (filter (λ e. reaches id e.1) rest))

reached_one : (id : Id) (s : ℕ × TheirCall) (ns : List ℕ) (rest : List (ℕ × TheirCall)) (has opened hit : Bool) → has_id id s.1.id ≡ has → ns ≡ reached_numbers id rest
    → cond (has && opened && not hit) (s.0 ∷ ns) ns ≡ reached_numbers id (seen_as opened hit s ++ rest)
reached_one id s ns rest true false hit is there = there
reached_one id s ns rest false false hit is there = there
reached_one id s ns rest true true true is there = there ∙ sym (ap (λ b. with_one id (b && false) (s.0, record s.1 { is_cancelled = true }) rest) is)
reached_one id s ns rest true true false is there = ap (λ l. s.0 ∷ l) there ∙ sym (ap (λ b. with_one id (b && true) (s.0, record s.1 { is_cancelled = false }) rest) is)
reached_one id s ns rest false true hit is there = there ∙ sym (ap (λ b. with_one id (b && not hit) (s.0, record s.1 { is_cancelled = hit }) rest) is)

reached-seen : (id : Id) (h : History) (ss : List (ℕ × TheirCall)) → AreSites (stream h) ss → filter (is_reached id h) (numbers_in ss) ≡ reached_numbers id (all_seen h ss)
reached-seen id h [] are = refl
reached-seen id h (s ∷ ss) are =
    reached_one id s (filter (is_reached id h) (numbers_in ss)) (all_seen h ss) (has_id id (request_id s.0 (stream h))) (is_open s.0 h) (is_cancelled s.0 (stream h))
    (ap (has_id id) (sym are.0.same_id)) (reached-seen id h ss are.1)

-- a cancel reaches the same requests in the history and among the calls that are open
pub reached-theirs : (id : Id) (h : History) → reached id h ≡ reached_numbers id (theirs_of h).calls
reached-theirs id h =
    ap (filter (is_reached id h)) (sym (all-numbers h)) ∙ reached-seen id h (sites_of h) (all-are h) ∙ ap (reached_numbers id) (sym (theirs-seen h 0 1 (units_of h)))

-- an entry tells the same
pub told-entry : (h : History) (e : Entry) → events_of_entry h e ≡ told_of (own_of h) (theirs_of h) e
told-entry h (Call c) = refl
told-entry h (Cancel id) = ap (map event.Cancelled) (reached-theirs id h)
told-entry h (Reply k r) = ap (λ b. cond b (event.Replied k r ∷ []) []) (waits_at h k)
told-entry h Stray = refl
told-entry h Invalid = refl

-- ---- where a call's answer stands plays no part

abbrev pub bare_call : TheirCall → TheirCall
bare_call call = record call { place = 0; slot = 0 }

abbrev pub bare_calls : List (ℕ × TheirCall) → List (ℕ × TheirCall)
bare_calls calls = map (λ e. (e.0, bare_call e.1)) calls

abbrev pub bare : TheirState → TheirState
bare s = record s { calls = bare_calls s.calls }

bare_cancelled : (b : Bool) (t : TheirCall) → cond b (cancelled (bare_call t)) (bare_call t) ≡ bare_call (cond b (cancelled t) t)
bare_cancelled true t = refl
bare_cancelled false t = refl

all_bare_cancelled : (id : Id) (calls : List (ℕ × TheirCall)) → cancelled_all id (bare_calls calls) ≡ bare_calls (cancelled_all id calls)
all_bare_cancelled id [] = refl
all_bare_cancelled id (e ∷ calls) = λ i. (e.0, bare_cancelled (reaches id e.1) e.1 i) ∷ all_bare_cancelled id calls i

pub bare_after : (place slot : ℕ) (e : Entry) (s : TheirState) → theirs_after 0 0 e (bare s) ≡ bare (theirs_after place slot e s)
bare_after place slot (Call c) s = λ i. record {
  came = s.came + 1;
  calls = sym (map-append (λ (e : ℕ × TheirCall). (e.0, bare_call e.1)) s.calls ((s.came + 1, new_call c.id place slot) ∷ [])) i;
}
bare_after place slot (Cancel id) s = λ i. record { came = s.came; calls = all_bare_cancelled id s.calls i }
bare_after place slot (Reply k r) s = refl
bare_after place slot Stray s = refl
bare_after place slot Invalid s = refl

bare_one : (b : Bool) (e : ℕ × TheirCall) (es fs : List (ℕ × TheirCall)) → map (λ (d : ℕ × TheirCall). d.0) es ≡ map (λ (d : ℕ × TheirCall). d.0) fs
    → map (λ (d : ℕ × TheirCall). d.0) (cond b (e ∷ es) es) ≡ map (λ (d : ℕ × TheirCall). d.0) (cond b ((e.0, bare_call e.1) ∷ fs) fs)
bare_one true e es fs more = ap (λ l. e.0 ∷ l) more
bare_one false e es fs more = more

bare_reached : (id : Id) (calls : List (ℕ × TheirCall)) → reached_numbers id calls ≡ reached_numbers id (bare_calls calls)
bare_reached id [] = refl
bare_reached id (e ∷ calls) =
    bare_one (reaches id e.1) e (filter (λ (d : ℕ × TheirCall). reaches id d.1) calls) (filter (λ (d : ℕ × TheirCall). reaches id d.1) (bare_calls calls)) (bare_reached id calls)

pub bare_told : (own : OwnState) (s : TheirState) (e : Entry) → told_of own s e ≡ told_of own (bare s) e
bare_told own s (Call c) = refl
bare_told own s (Cancel id) = ap (map event.Cancelled) (bare_reached id s.calls)
bare_told own s (Reply k r) = refl
bare_told own s Stray = refl
bare_told own s Invalid = refl

all_bare_told : (own : OwnState) (s : TheirState) (es : List Entry) → told_of_all own s es ≡ told_of_all own (bare s) es
all_bare_told own s [] = refl
all_bare_told own s (e ∷ es) =
    λ i. bare_told own s e i
    ++ (all_bare_told (own_after e own) (theirs_after 0 0 e s) es ∙ ap (λ t. told_of_all (own_after e own) t es) (sym (bare_after 0 0 e s))) i

same_told : (own : OwnState) (s : TheirState) (place slot : ℕ) (e : Entry) (es : List Entry) → told_of_all own (theirs_after place slot e s) es ≡ told_of_all own (theirs_after 0 0 e s) es
same_told own s place slot e es =
    all_bare_told own (theirs_after place slot e s) es
    ∙ ap (λ t. told_of_all own t es) (sym (bare_after place slot e s) ∙ bare_after 0 0 e s)
    ∙ sym (all_bare_told own (theirs_after 0 0 e s) es)

-- ---- entries

-- entries tell the same, one after another
pub told-along : (cancels : Option Cancels) (past : History) (front es : List Entry) → IsLawful cancels past
    → events_along past front es ≡ told_of_all (own_of (so_far past front)) (theirs_of (so_far past front)) es
told-along cancels past front [] lawful = refl
told-along cancels past front (e ∷ es) lawful =
    let own = own_of (so_far past front) in
    let theirs = theirs_of (so_far past front) in
    λ i. told-entry (so_far past front) e i
    ++ (told-along cancels past (front ++ e ∷ []) es lawful
    ∙ (λ j. told_of_all (own_entry cancels past front e lawful j) (theirs-entry cancels past front e lawful j) es)
    ∙ same_told (own_after e own) theirs (length (units_of past)) (slots_in front) e es) i

-- what a unit tells
pub told-came : (cancels : Option Cancels) (past : History) (from : Option Origin) (u : Unit) → IsLawful cancels past → events_at past (came from u) ≡ told_of_unit from (own_of past) (theirs_of past) u
told-came cancels past from u lawful =
    ap (λ l. broken_at from u ++ l)
    (told-along cancels past [] (entries_in u) lawful ∙ (λ i. told_of_all (own_nothing past i) (theirs-none past i) (entries_in u)))
