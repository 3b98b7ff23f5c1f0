-- What a desk shows after each change of its entries.
use Rattle.std.proofs.Common.{◌≡◌, ℕ, suc, zero, ◌-◌, List, [], ◌∷◌, ◌++◌, length, get_or, set, map, take, drop, refl, ap, sym, ◌∙◌, Bool, true, false, if◌then◌else◌, is_some, Option, Some, None, IfNone, IfSome, MatchOption}
use Rattle.std.proofs.lemmas.List.{set-get_or, length-set}
use Rattle.std.specs.Option.{option_map, option_and_then}
use Rattle.message_ids.specs.declared.id.Id.{Id}
use Rattle.rpc_messages.specs.declared.reply.Reply.{Reply}
use Rattle.open_numbers.specs.declared.kept.Kept.{Kept}
use Rattle.open_numbers.specs.declared.kept.Kept.TheVariants.{Open, Answered}
use Rattle.open_numbers.specs.declared.open_call.OpenCall.{OpenCall}
use Rattle.open_numbers.specs.declared.replies.Slot.{Slot}
use Rattle.open_numbers.specs.declared.replies.Slot.TheVariants.{Held, Given}
use Rattle.answer_desk.specs.declared.waiting_unit.WaitingUnit.{WaitingUnit}
use Rattle.answer_desk.specs.Places.{call_part}
use Rattle.answer_desk.specs.State.{State, numbers_with, slot_of, with_reply, without_reply, with_marks, IsLowestInReach, with_reached}
use Rattle.open_numbers.specs.OpenCalls.{marked, number_marked, is_in_reach}
use Rattle.answer_desk.specs.Waiting.{Waiting}
use Rattle.open_numbers.specs.Kept.{kept_at, open_number, slot_in, with_change, with_put, with_taken, with_reach, slots_with, slots_without}
use Rattle.answer_desk.specs.Seen.{request_part, waiting_of}
use Rattle.open_numbers.specs.Replies.{slot_at, put_into, is_kept, given_by}
use Rattle.open_numbers.specs.Numbers.{with_marks_below, IsLowestReached}
use Rattle.open_numbers.specs.Requests.{is_reached_by}
use Rattle.answer_desk.specs.Inner.Units.{ascends, requests_of, front_finished}
use Rattle.open_numbers.proofs.Shown.{number-open}
use Rattle.answer_desk.proofs.Ascending.{SameRequests, units-same}

abbrev pub seen : List (Option Kept) → Bool → List WaitingUnit → State
seen entries closed units = record { numbers = map open_number entries; is_closed = closed; units = map (waiting_of entries) units }

-- what is seen of one number

pub slot-seen : (entries : List (Option Kept)) (closed : Bool) (units : List WaitingUnit) (n turn : ℕ) → slot_in (kept_at entries n) turn ≡ slot_of (seen entries closed units) n turn
slot-seen entries closed units n turn =
    ap (option_and_then (λ (m : OpenCall). slot_at m.replies turn)) (sym (number-open entries n))

open-changed : (change : OpenCall → OpenCall) (entry : Option Kept) → open_number (with_change change entry) ≡ option_map change (open_number entry)
open-changed change (Some (Open n)) = refl
open-changed change (Some (Answered id reply)) = refl
open-changed change None = refl

pub numbers-changed : (change : OpenCall → OpenCall) (entries : List (Option Kept)) (n : ℕ)
    → map open_number (set entries n (with_change change (kept_at entries n))) ≡ numbers_with (map open_number entries) n change
numbers-changed change [] n = refl
numbers-changed change (e ∷ es) zero = ap (λ o. o ∷ map open_number es) (open-changed change e)
numbers-changed change (e ∷ es) (suc n) = ap (λ os. open_number e ∷ os) (numbers-changed change es n)

-- changes that no waiting unit shows

pub record IsQuiet (now was : List (Option Kept)) : Type 0 where
  pub long : length now ≡ length was
  pub same : (k j : ℕ) → request_part j (kept_at now k) ≡ request_part j (kept_at was k)

request-changed : (change : OpenCall → OpenCall) → ((n : OpenCall) → (change n).id ≡ n.id) → (entry : Option Kept) (j : ℕ)
    → request_part j (with_change change entry) ≡ request_part j entry
request-changed change keeps (Some (Open n)) j = ap (call_part j) (keeps n)
request-changed change keeps (Some (Answered id reply)) j = refl
request-changed change keeps None j = refl

requests-changed : (change : OpenCall → OpenCall) → ((n : OpenCall) → (change n).id ≡ n.id) → (entries : List (Option Kept)) (n k j : ℕ)
    → request_part j (kept_at (set entries n (with_change change (kept_at entries n))) k) ≡ request_part j (kept_at entries k)
requests-changed change keeps [] n k j = refl
requests-changed change keeps (e ∷ es) zero zero j = request-changed change keeps e j
requests-changed change keeps (e ∷ es) zero (suc k) j = refl
requests-changed change keeps (e ∷ es) (suc n) zero j = refl
requests-changed change keeps (e ∷ es) (suc n) (suc k) j = requests-changed change keeps es n k j

pub IsQuiet-changed : (change : OpenCall → OpenCall) → ((n : OpenCall) → (change n).id ≡ n.id) → (entries : List (Option Kept)) (n : ℕ)
    → IsQuiet (set entries n (with_change change (kept_at entries n))) entries
IsQuiet-changed change keeps entries n = record {
  long = length-set entries n (with_change change (kept_at entries n));
  same = λ k j. requests-changed change keeps entries n k j;
}

pub IsQuiet-refl : (now was : List (Option Kept)) → now ≡ was → IsQuiet now was
IsQuiet-refl now was is = record { long = ap length is; same = λ k j. ap (λ es. request_part j (kept_at es k)) is }

pub units-quiet : (now was : List (Option Kept)) (units : List WaitingUnit) → IsQuiet now was → ascends 0 (length was) (requests_of units) ≡ true
    → map (waiting_of now) units ≡ map (waiting_of was) units
units-quiet now was units quiet up =
    let alike : SameRequests 0 (length was) now was = record { same = λ k from below. quiet.same k k } in
    units-same 0 (length was) now was units alike up

pub ascending-quiet : (now was : List (Option Kept)) (units : List WaitingUnit) → IsQuiet now was → ascends 0 (length was) (requests_of units) ≡ true
    → ascends 0 (length now) (requests_of units) ≡ true
ascending-quiet now was units quiet up = rw (quiet.long) up

pub finished-quiet : (now was : List (Option Kept)) (units : List WaitingUnit) (count : ℕ) → IsQuiet now was → ascends 0 (length was) (requests_of units) ≡ true
    → front_finished count (map (waiting_of was) units) ≡ true → front_finished count (map (waiting_of now) units) ≡ true
finished-quiet now was units count quiet up front = rw (units-quiet now was units quiet up) front

pub seen-changed : (change : OpenCall → OpenCall) → ((n : OpenCall) → (change n).id ≡ n.id) → (entries : List (Option Kept)) (closed : Bool) (units : List WaitingUnit) (n : ℕ)
    → ascends 0 (length entries) (requests_of units) ≡ true
    → seen (set entries n (with_change change (kept_at entries n))) closed units
    ≡ record { numbers = numbers_with (map open_number entries) n change; is_closed = closed; units = map (waiting_of entries) units }
seen-changed change keeps entries closed units n up =
    rw (
      numbers-changed change entries n,
      units-quiet (set entries n (with_change change (kept_at entries n))) entries units (IsQuiet-changed change keeps entries n) up,
    ) refl

-- a slot that changes under a test

step-held : (hit : Bool) (numbers : List (Option OpenCall)) (n turn : ℕ) (m : OpenCall) (slot : Slot) → get_or numbers n None ≡ Some m
    → set numbers n (Some (record m { replies = if hit then set m.replies (turn - 1) slot else m.replies }))
    ≡ (if hit then set numbers n (Some (record m { replies = set m.replies (turn - 1) slot })) else numbers)
step-held true numbers n turn m slot is = refl
step-held false numbers n turn m slot is = rw (← is) (set-get_or numbers n None)

step-at : (test : Option Slot → Bool) → test None ≡ false → (here : Option OpenCall) (numbers : List (Option OpenCall)) (n turn : ℕ) (slot : Slot) → get_or numbers n None ≡ here
    → set numbers n (option_map (λ (m : OpenCall). record m { replies = if test (slot_at m.replies turn) then set m.replies (turn - 1) slot else m.replies }) here)
    ≡ (if test (option_and_then (λ (m : OpenCall). slot_at m.replies turn) here)
    then set numbers n (option_map (λ (m : OpenCall). record m { replies = set m.replies (turn - 1) slot }) here) else numbers)
step-at test none None numbers n turn slot is = rw none (rw (← is) (set-get_or numbers n None))
step-at test none (Some m) numbers n turn slot is = step-held (test (slot_at m.replies turn)) numbers n turn m slot is

state-if : (hit : Bool) (numbers changed : List (Option OpenCall)) (closed : Bool) (units : List Waiting)
    → record { numbers = if hit then changed else numbers; is_closed = closed; units = units }
    ≡ (if hit then record { numbers = changed; is_closed = closed; units = units } else (let s : State = record { numbers = numbers; is_closed = closed; units = units } in s))
state-if true numbers changed closed units = refl
state-if false numbers changed closed units = refl

pub seen-put : (entries : List (Option Kept)) (units : List WaitingUnit) (n turn : ℕ) (reply : Reply) → ascends 0 (length entries) (requests_of units) ≡ true
    → seen (set entries n (with_put turn reply (kept_at entries n))) false units ≡ with_reply (seen entries false units) n turn reply
seen-put entries units n turn reply up =
    let test : Option Slot → Bool = λ o. is_kept (put_into o) in
    let numbers : List (Option OpenCall) = map open_number entries in
    seen-changed (λ (m : OpenCall). record m { replies = slots_with m.replies turn reply }) (λ m. refl) entries false units n up
    ∙ rw (step-at test refl (get_or numbers n None) numbers n turn (Held reply) refl)
    (state-if (test (slot_of (seen entries false units) n turn)) numbers (numbers_with numbers n (λ (m : OpenCall). record m { replies = set m.replies (turn - 1) (Held reply) })) false (map (waiting_of entries) units))

pub seen-taken : (entries : List (Option Kept)) (closed : Bool) (units : List WaitingUnit) (n turn : ℕ) → ascends 0 (length entries) (requests_of units) ≡ true
    → seen (set entries n (with_taken turn closed (kept_at entries n))) closed units ≡ without_reply (seen entries closed units) n turn
seen-taken entries closed units n turn up =
    let test : Option Slot → Bool = λ o. is_some (given_by closed o) in
    let numbers : List (Option OpenCall) = map open_number entries in
    seen-changed (λ (m : OpenCall). record m { replies = slots_without closed m.replies turn }) (λ m. refl) entries closed units n up
    ∙ rw (step-at test refl (get_or numbers n None) numbers n turn Given refl)
    (state-if (test (slot_of (seen entries closed units) n turn)) numbers (numbers_with numbers n (λ (m : OpenCall). record m { replies = set m.replies (turn - 1) Given })) closed (map (waiting_of entries) units))

-- marks

numbers-marked : (id : Id) (before : ℕ) (entries : List (Option Kept))
    → map open_number (with_marks_below id before entries) ≡ map (option_map (number_marked id)) (take before (map open_number entries)) ++ drop before (map open_number entries)
numbers-marked id zero entries = refl
numbers-marked id (suc before) [] = refl
numbers-marked id (suc before) (e ∷ es) = rw (open-changed (number_marked id) e, numbers-marked id before es) refl

long-marked : (id : Id) (before : ℕ) (entries : List (Option Kept)) → length (with_marks_below id before entries) ≡ length entries
long-marked id zero entries = refl
long-marked id (suc before) [] = refl
long-marked id (suc before) (e ∷ es) = ap suc (long-marked id before es)

requests-marked : (id : Id) (before : ℕ) (entries : List (Option Kept)) (k j : ℕ)
    → request_part j (kept_at (with_marks_below id before entries) k) ≡ request_part j (kept_at entries k)
requests-marked id zero entries k j = refl
requests-marked id (suc before) [] k j = refl
requests-marked id (suc before) (e ∷ es) zero j = request-changed (number_marked id) (λ n. refl) e j
requests-marked id (suc before) (e ∷ es) (suc k) j = requests-marked id before es k j

pub IsQuiet-marked : (id : Id) (before : ℕ) (entries : List (Option Kept)) → IsQuiet (with_marks_below id before entries) entries
IsQuiet-marked id before entries = record { long = long-marked id before entries; same = λ k j. requests-marked id before entries k j }

pub seen-marked : (id : Id) (before : ℕ) (entries : List (Option Kept)) (closed : Bool) (units : List WaitingUnit) → ascends 0 (length entries) (requests_of units) ≡ true
    → seen (with_marks_below id before entries) closed units ≡ with_marks (seen entries closed units) id before
seen-marked id before entries closed units up =
    rw (numbers-marked id before entries, units-quiet (with_marks_below id before entries) entries units (IsQuiet-marked id before entries) up) refl

-- one step of a cancel

reach-seen : (entries : List (Option Kept)) (id : Id) (k : ℕ) → is_in_reach id (get_or (map open_number entries) k None) ≡ is_reached_by id (kept_at entries k)
reach-seen entries id k = ap (is_in_reach id) (number-open entries k)

pub lowest-seen : (entries : List (Option Kept)) (closed : Bool) (units : List WaitingUnit) (id : Id) (before : ℕ) (result : Option ℕ) → IsLowestReached id before entries result
    → IsLowestInReach (seen entries closed units) id before result
lowest-seen entries closed units id before None none = λ k below. reach-seen entries id k ∙ none k below
lowest-seen entries closed units id before (Some n) lowest =
    (lowest.0, reach-seen entries id n ∙ lowest.1, λ k below. reach-seen entries id k ∙ lowest.2 k below)

IsQuiet-marked_one : (entries : List (Option Kept)) (n : ℕ) → IsQuiet (set entries n (with_reach (kept_at entries n))) entries
IsQuiet-marked_one entries n = IsQuiet-changed marked (λ m. refl) entries n

pub IsQuiet-reached : (was now : List (Option Kept)) (result : Option ℕ) → IfNone result (now ≡ was) → IfSome result (λ n. now ≡ set was n (with_reach (kept_at was n))) → IsQuiet now was
IsQuiet-reached was now None none some = IsQuiet-refl now was none
IsQuiet-reached was now (Some n) none some = rw some (IsQuiet-marked_one was n)

pub seen-reached : (was now : List (Option Kept)) (closed : Bool) (units : List WaitingUnit) (result : Option ℕ)
    → IfNone result (now ≡ was) → IfSome result (λ n. now ≡ set was n (with_reach (kept_at was n))) → ascends 0 (length was) (requests_of units) ≡ true
    → seen now closed units ≡ with_reached (seen was closed units) result
seen-reached was now closed units None none some up = ap (λ es. seen es closed units) none
seen-reached was now closed units (Some n) none some up =
    ap (λ es. seen es closed units) some ∙ seen-changed marked (λ m. refl) was closed units n up
