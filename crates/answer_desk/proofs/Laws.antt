-- What each call leaves of the numbers and of their slots.
use Rattle.std.proofs.Common.{◌≡◌, ◌≢◌, ◌==◌, ℕ, suc, zero, ◌-◌, ◌<◌, ◌≤◌, ◌&&◌, ◌||◌, not, List, [], ◌∷◌, ◌++◌, get_or, set, map, take, drop, refl, ap, sym, ◌∙◌, arith, Bool, true, false, true≢false, if◌then◌else◌, is_some, Option, Some, None, slice_get}
use Rattle.std.specs.Option.{option_map, option_and_then}
use Rattle.std.proofs.lemmas.List.{get_or-set_other, length-set}
use Rattle.message_ids.specs.declared.id.Id.{Id}
use Rattle.rpc_messages.specs.declared.reply.Reply.{Reply}
use Rattle.message_ids.specs.Ids.{has_id}
use Rattle.open_numbers.specs.declared.open_call.OpenCall.{OpenCall}
use Rattle.open_numbers.specs.declared.replies.Put.{Put}
use Rattle.open_numbers.specs.declared.replies.Put.TheVariants.{Unknown, Second, Kept}
use Rattle.open_numbers.specs.declared.replies.Slot.{Slot}
use Rattle.open_numbers.specs.declared.replies.Slot.TheVariants.{Held, Given}
use Rattle.answer_desk.specs.State.{State, number_at, numbers_with, slot_of, with_slot, put_of, with_reply, reply_of, without_reply, IsLowestInReach, with_reached, with_marks, with_end, next_number}
use Rattle.open_numbers.specs.OpenCalls.{marked, is_in_reach, number_marked}
use Rattle.open_numbers.specs.Replies.{slot_at, put_into, is_kept, given_by}

-- a change of one number is seen there, and nowhere else

number-changed : (numbers : List (Option OpenCall)) (n : ℕ) (change : OpenCall → OpenCall) → get_or (numbers_with numbers n change) n None ≡ option_map change (get_or numbers n None)
number-changed [] n change = refl
number-changed (o ∷ os) zero change = refl
number-changed (o ∷ os) (suc n) change = number-changed os n change

-- a reply that is kept

kept_if : (hit : Bool) (s t : State) → hit ≡ true → (if hit then t else s) ≡ t
kept_if true s t is = refl
kept_if false s t is = absurd (true≢false (sym is))

with_reply-kept : (s : State) (n turn : ℕ) (reply : Reply) → put_of s n turn ≡ Kept → with_reply s n turn reply ≡ with_slot s n turn (Held reply)
with_reply-kept s n turn reply kept = kept_if (is_kept (put_of s n turn)) s (with_slot s n turn (Held reply)) (ap is_kept kept)

pub number-kept : (s : State) (n turn : ℕ) (reply : Reply) → put_of s n turn ≡ Kept
    → number_at (with_reply s n turn reply) n ≡ option_map (λ (m : OpenCall). record m { replies = set m.replies (turn - 1) (Held reply) }) (number_at s n)
number-kept s n turn reply kept =
    ap (λ t. number_at t n) (with_reply-kept s n turn reply kept) ∙ number-changed s.numbers n (λ (m : OpenCall). record m { replies = set m.replies (turn - 1) (Held reply) })

number-apart_if : (hit : Bool) (s : State) (n turn k : ℕ) (slot : Slot) → k ≢ n → number_at (if hit then with_slot s n turn slot else s) k ≡ number_at s k
number-apart_if true s n turn k slot apart = get_or-set_other s.numbers n k (option_map (λ (m : OpenCall). record m { replies = set m.replies (turn - 1) slot }) (get_or s.numbers n None)) None apart
number-apart_if false s n turn k slot apart = refl

pub number-apart : (s : State) (n turn k : ℕ) (reply : Reply) → k ≢ n → number_at (with_reply s n turn reply) k ≡ number_at s k
number-apart s n turn k reply apart = number-apart_if (is_kept (put_of s n turn)) s n turn k (Held reply) apart

unkept_if : (hit : Bool) (s t : State) → hit ≡ false → (if hit then t else s) ≡ s
unkept_if true s t is = absurd (true≢false is)
unkept_if false s t is = refl

pub reply-not_kept : (s : State) (n turn : ℕ) (reply : Reply) → is_kept (put_of s n turn) ≡ false → with_reply s n turn reply ≡ s
reply-not_kept s n turn reply is = unkept_if (is_kept (put_of s n turn)) s (with_slot s n turn (Held reply)) is

-- its slot

get-set_same : (slots : List Slot) (i : ℕ) (slot was : Slot) → slice_get slots i ≡ Some was → slice_get (set slots i slot) i ≡ Some slot
get-set_same [] i slot was is = cc
get-set_same (x ∷ xs) zero slot was is = refl
get-set_same (x ∷ xs) (suc i) slot was is = get-set_same xs i slot was is

get-set_other : (slots : List Slot) (i j : ℕ) (slot : Slot) → j ≢ i → slice_get (set slots i slot) j ≡ slice_get slots j
get-set_other [] i j slot apart = refl
get-set_other (x ∷ xs) zero zero slot apart = absurd (apart refl)
get-set_other (x ∷ xs) zero (suc j) slot apart = refl
get-set_other (x ∷ xs) (suc i) zero slot apart = refl
get-set_other (x ∷ xs) (suc i) (suc j) slot apart = get-set_other xs i j slot (λ same. apart (ap suc same))

-- a turn that has a slot isn't 0

slot_at-if : (is_zero : Bool) (slots : List Slot) (i : ℕ) (was slot : Slot) → (if is_zero then None else slice_get slots i) ≡ Some was
    → (if is_zero then None else slice_get (set slots i slot) i) ≡ Some slot
slot_at-if true slots i was slot is = cc
slot_at-if false slots i was slot is = get-set_same slots i slot was is

slot_at-set : (slots : List Slot) (turn : ℕ) (was slot : Slot) → slot_at slots turn ≡ Some was → slot_at (set slots (turn - 1) slot) turn ≡ Some slot
slot_at-set slots turn was slot is = slot_at-if (turn == 0) slots (turn - 1) was slot is

slot-kept_at : (here : Option Slot) (slots : List Slot) (turn : ℕ) (slot : Slot) → slot_at slots turn ≡ here → put_into here ≡ Kept
    → slot_at (set slots (turn - 1) slot) turn ≡ Some slot
slot-kept_at None slots turn slot is kept = cc
slot-kept_at (Some was) slots turn slot is kept = slot_at-set slots turn was slot is

slot-kept_in : (here : Option OpenCall) (closed : Bool) (turn : ℕ) (slot : Slot)
    → (if closed then Unknown else put_into (option_and_then (λ (n : OpenCall). slot_at n.replies turn) here)) ≡ Kept
    → option_and_then (λ (n : OpenCall). slot_at n.replies turn) (option_map (λ (m : OpenCall). record m { replies = set m.replies (turn - 1) slot }) here) ≡ Some slot
slot-kept_in None true turn slot kept = cc
slot-kept_in None false turn slot kept = cc
slot-kept_in (Some m) true turn slot kept = cc
slot-kept_in (Some m) false turn slot kept = slot-kept_at (slot_at m.replies turn) m.replies turn slot refl kept

pub slot-kept : (s : State) (n turn : ℕ) (reply : Reply) → put_of s n turn ≡ Kept → slot_of (with_reply s n turn reply) n turn ≡ Some (Held reply)
slot-kept s n turn reply kept =
    ap (option_and_then (λ (m : OpenCall). slot_at m.replies turn)) (number-kept s n turn reply kept)
    ∙ slot-kept_in (number_at s n) s.is_closed turn (Held reply) kept

-- and every other slot

other_turn : (is_zero : Bool) (slots : List Slot) (i j : ℕ) (slot : Slot) → j ≢ i → (if is_zero then None else slice_get (set slots i slot) j) ≡ (if is_zero then None else slice_get slots j)
other_turn true slots i j slot apart = refl
other_turn false slots i j slot apart = get-set_other slots i j slot apart

-- turn 0 has no slot, so that two turns with a slot are as far apart as their places
slot_at-other : (slots : List Slot) (turn t : ℕ) (slot : Slot) → 0 < turn → t ≢ turn → slot_at (set slots (turn - 1) slot) t ≡ slot_at slots t
slot_at-other slots turn zero slot some apart = refl
slot_at-other slots turn (suc t) slot some apart =
    other_turn (suc t == 0) slots (turn - 1) (suc t - 1) slot (λ same. apart (omega (arith, same, some)))

turn_above : (slots : List Slot) (turn : ℕ) → put_into (slot_at slots turn) ≡ Kept → 0 < turn
turn_above slots zero kept = cc
turn_above slots (suc turn) kept = omega arith

slot-other_in : (here : Option OpenCall) (closed : Bool) (turn t : ℕ) (slot : Slot) → t ≢ turn
    → (if closed then Unknown else put_into (option_and_then (λ (n : OpenCall). slot_at n.replies turn) here)) ≡ Kept
    → option_and_then (λ (n : OpenCall). slot_at n.replies t) (option_map (λ (m : OpenCall). record m { replies = set m.replies (turn - 1) slot }) here)
    ≡ option_and_then (λ (n : OpenCall). slot_at n.replies t) here
slot-other_in None closed turn t slot apart kept = refl
slot-other_in (Some m) true turn t slot apart kept = cc
slot-other_in (Some m) false turn t slot apart kept = slot_at-other m.replies turn t slot (turn_above m.replies turn kept) apart

slot-other_by : (put : Put) (s : State) (n turn t : ℕ) (reply : Reply) → put_of s n turn ≡ put → t ≢ turn → slot_of (with_reply s n turn reply) n t ≡ slot_of s n t
slot-other_by Kept s n turn t reply is apart =
    ap (option_and_then (λ (m : OpenCall). slot_at m.replies t)) (number-kept s n turn reply is) ∙ slot-other_in (number_at s n) s.is_closed turn t (Held reply) apart is
slot-other_by Unknown s n turn t reply is apart = ap (λ r. slot_of r n t) (reply-not_kept s n turn reply (ap is_kept is))
slot-other_by Second s n turn t reply is apart = ap (λ r. slot_of r n t) (reply-not_kept s n turn reply (ap is_kept is))

pub slot-other : (s : State) (n turn t : ℕ) (reply : Reply) → t ≢ turn → slot_of (with_reply s n turn reply) n t ≡ slot_of s n t
slot-other s n turn t reply apart = slot-other_by (put_of s n turn) s n turn t reply refl apart

-- a reply that is taken

taken_if : (hit : Bool) (s t : State) (here : Option Reply) → is_some here ≡ hit → here ≡ None → (if hit then t else s) ≡ s
taken_if hit s t here is none = unkept_if hit s t (sym is ∙ ap is_some none)

pub reply-not_given : (s : State) (n turn : ℕ) → reply_of s n turn ≡ None → without_reply s n turn ≡ s
reply-not_given s n turn none = taken_if (is_some (reply_of s n turn)) s (with_slot s n turn Given) (reply_of s n turn) refl none

without_reply-given : (s : State) (n turn : ℕ) (reply : Reply) → reply_of s n turn ≡ Some reply → without_reply s n turn ≡ with_slot s n turn Given
without_reply-given s n turn reply given = kept_if (is_some (reply_of s n turn)) s (with_slot s n turn Given) (ap is_some given)

number-given : (s : State) (n turn : ℕ) (reply : Reply) → reply_of s n turn ≡ Some reply
    → number_at (without_reply s n turn) n ≡ option_map (λ (m : OpenCall). record m { replies = set m.replies (turn - 1) Given }) (number_at s n)
number-given s n turn reply given =
    ap (λ t. number_at t n) (without_reply-given s n turn reply given) ∙ number-changed s.numbers n (λ (m : OpenCall). record m { replies = set m.replies (turn - 1) Given })

pub number-not_taken : (s : State) (n turn k : ℕ) → k ≢ n → number_at (without_reply s n turn) k ≡ number_at s k
number-not_taken s n turn k apart = number-apart_if (is_some (reply_of s n turn)) s n turn k Given apart

slot-given_at : (here : Option Slot) (closed : Bool) (slots : List Slot) (turn : ℕ) (slot : Slot) (reply : Reply) → slot_at slots turn ≡ here → given_by closed here ≡ Some reply
    → slot_at (set slots (turn - 1) slot) turn ≡ Some slot
slot-given_at None closed slots turn slot reply is given = cc
slot-given_at (Some was) closed slots turn slot reply is given = slot_at-set slots turn was slot is

slot-given_in : (here : Option OpenCall) (closed : Bool) (turn : ℕ) (slot : Slot) (reply : Reply)
    → given_by closed (option_and_then (λ (n : OpenCall). slot_at n.replies turn) here) ≡ Some reply
    → option_and_then (λ (n : OpenCall). slot_at n.replies turn) (option_map (λ (m : OpenCall). record m { replies = set m.replies (turn - 1) slot }) here) ≡ Some slot
slot-given_in None closed turn slot reply given = cc
slot-given_in (Some m) closed turn slot reply given = slot-given_at (slot_at m.replies turn) closed m.replies turn slot reply refl given

pub slot-given : (s : State) (n turn : ℕ) (reply : Reply) → reply_of s n turn ≡ Some reply → slot_of (without_reply s n turn) n turn ≡ Some Given
slot-given s n turn reply given =
    ap (option_and_then (λ (m : OpenCall). slot_at m.replies turn)) (number-given s n turn reply given)
    ∙ slot-given_in (number_at s n) s.is_closed turn Given reply given

given_above : (closed : Bool) (slots : List Slot) (turn : ℕ) (reply : Reply) → given_by closed (slot_at slots turn) ≡ Some reply → 0 < turn
given_above closed slots zero reply given = cc
given_above closed slots (suc turn) reply given = omega arith

slot-not_taken_in : (here : Option OpenCall) (closed : Bool) (turn t : ℕ) (slot : Slot) (reply : Reply) → t ≢ turn
    → given_by closed (option_and_then (λ (n : OpenCall). slot_at n.replies turn) here) ≡ Some reply
    → option_and_then (λ (n : OpenCall). slot_at n.replies t) (option_map (λ (m : OpenCall). record m { replies = set m.replies (turn - 1) slot }) here)
    ≡ option_and_then (λ (n : OpenCall). slot_at n.replies t) here
slot-not_taken_in None closed turn t slot reply apart given = refl
slot-not_taken_in (Some m) closed turn t slot reply apart given = slot_at-other m.replies turn t slot (given_above closed m.replies turn reply given) apart

slot-not_taken_by : (given : Option Reply) (s : State) (n turn t : ℕ) → reply_of s n turn ≡ given → t ≢ turn → slot_of (without_reply s n turn) n t ≡ slot_of s n t
slot-not_taken_by None s n turn t is apart = ap (λ r. slot_of r n t) (reply-not_given s n turn is)
slot-not_taken_by (Some reply) s n turn t is apart =
    ap (option_and_then (λ (m : OpenCall). slot_at m.replies t)) (number-given s n turn reply is) ∙ slot-not_taken_in (number_at s n) s.is_closed turn t Given reply apart is

pub slot-not_taken : (s : State) (n turn t : ℕ) → t ≢ turn → slot_of (without_reply s n turn) n t ≡ slot_of s n t
slot-not_taken s n turn t apart = slot-not_taken_by (reply_of s n turn) s n turn t refl apart

-- one step of a cancel

pub number-reached : (s : State) (n : ℕ) → number_at (with_reached s (Some n)) n ≡ option_map marked (number_at s n)
number-reached s n = number-changed s.numbers n marked

pub number-not_reached : (s : State) (n k : ℕ) → k ≢ n → number_at (with_reached s (Some n)) k ≡ number_at s k
number-not_reached s n k apart = get_or-set_other s.numbers n k (option_map marked (get_or s.numbers n None)) None apart

left_if : (has was : Bool) → (has && not was) ≡ false → (was || has) ≡ was
left_if has true is = refl
left_if true false is = absurd (true≢false is)
left_if false false is = refl

mark_if : (has was : Bool) → (has && not was) ≡ true → true ≡ (was || has)
mark_if has true is = refl
mark_if true false is = refl
mark_if false false is = sym is

marked-left : (o : Option OpenCall) (id : Id) → is_in_reach id o ≡ false → option_map (number_marked id) o ≡ o
marked-left None id is = refl
marked-left (Some n) id is = ap (λ b. Some (record n { is_marked = b })) (left_if (has_id id n.id) n.is_marked is)

marked-again : (o : Option OpenCall) (id : Id) → is_in_reach id o ≡ true → option_map (number_marked id) (option_map marked o) ≡ option_map (number_marked id) o
marked-again None id is = refl
marked-again (Some n) id is = ap (λ b. Some (record n { is_marked = b })) (mark_if (has_id id n.id) n.is_marked is)

abbrev marks_below : Id → ℕ → List (Option OpenCall) → List (Option OpenCall)
marks_below id before numbers = map (option_map (number_marked id)) (take before numbers) ++ drop before numbers

marks-none : (id : Id) (before : ℕ) (numbers : List (Option OpenCall)) → ((k : ℕ) → k < before → is_in_reach id (get_or numbers k None) ≡ false)
    → marks_below id before numbers ≡ numbers
marks-none id zero numbers none = refl
marks-none id (suc before) [] none = refl
marks-none id (suc before) (o ∷ os) none =
    rw (marked-left o id (none zero (omega arith)), marks-none id before os (λ k below. none (suc k) (omega arith))) refl

marks-one : (id : Id) (before n : ℕ) (numbers : List (Option OpenCall)) → n < before → is_in_reach id (get_or numbers n None) ≡ true
    → marks_below id before (numbers_with numbers n marked) ≡ marks_below id before numbers
marks-one id zero n numbers below hit = absurd (omega arith)
marks-one id (suc before) n [] below hit = refl
marks-one id (suc before) zero (o ∷ os) below hit = ap (λ o'. o' ∷ marks_below id before os) (marked-again o id hit)
marks-one id (suc before) (suc n) (o ∷ os) below hit = ap (λ os'. option_map (number_marked id) o ∷ os') (marks-one id before n os (omega arith) hit)

pub marks-step : (s : State) (id : Id) (before n : ℕ) → IsLowestInReach s id before (Some n) → with_marks (with_reached s (Some n)) id before ≡ with_marks s id before
marks-step s id before n lowest = ap (λ numbers. let t : State = record s { numbers = numbers } in t) (marks-one id before n s.numbers lowest.0 lowest.1)

pub marks-last : (s : State) (id : Id) (before : ℕ) → IsLowestInReach s id before None → with_marks s id before ≡ s
marks-last s id before none = ap (λ numbers. let t : State = record s { numbers = numbers } in t) (marks-none id before s.numbers none)

-- an end

closed_at : (numbers : List (Option OpenCall)) (n : ℕ) → get_or (set numbers n None) n None ≡ None
closed_at [] n = refl
closed_at (o ∷ os) zero = refl
closed_at (o ∷ os) (suc n) = closed_at os n

pub number-ended : (s : State) (n : ℕ) (reply : Reply) → number_at (with_end s n reply) n ≡ None
number-ended s n reply = closed_at s.numbers n

pub number-not_ended : (s : State) (n k : ℕ) (reply : Reply) → k ≢ n → number_at (with_end s n reply) k ≡ number_at s k
number-not_ended s n k reply apart = get_or-set_other s.numbers n k None None apart

pub next-ended : (s : State) (n : ℕ) (reply : Reply) → next_number (with_end s n reply) ≡ next_number s
next-ended s n reply = length-set s.numbers n None

-- the numbers below a cancel and from it on

marked_below : (id : Id) (before : ℕ) (numbers : List (Option OpenCall)) (k : ℕ) → k < before
    → get_or (map (option_map (number_marked id)) (take before numbers) ++ drop before numbers) k None ≡ option_map (number_marked id) (get_or numbers k None)
marked_below id zero numbers k below = absurd (omega arith)
marked_below id (suc before) [] k below = refl
marked_below id (suc before) (o ∷ os) zero below = refl
marked_below id (suc before) (o ∷ os) (suc k) below = marked_below id before os k (omega arith)

marked_from : (id : Id) (before : ℕ) (numbers : List (Option OpenCall)) (k : ℕ) → before ≤ k
    → get_or (map (option_map (number_marked id)) (take before numbers) ++ drop before numbers) k None ≡ get_or numbers k None
marked_from id zero numbers k from = refl
marked_from id (suc before) [] k from = refl
marked_from id (suc before) (o ∷ os) zero from = absurd (omega arith)
marked_from id (suc before) (o ∷ os) (suc k) from = marked_from id before os k (omega arith)

pub number-marked_below : (s : State) (id : Id) (before k : ℕ) → k < before → number_at (with_marks s id before) k ≡ option_map (number_marked id) (number_at s k)
number-marked_below s id before k below = marked_below id before s.numbers k below

pub number-marked_from : (s : State) (id : Id) (before k : ℕ) → before ≤ k → number_at (with_marks s id before) k ≡ number_at s k
number-marked_from s id before k from = marked_from id before s.numbers k from
