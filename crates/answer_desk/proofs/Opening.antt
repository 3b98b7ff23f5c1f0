-- What a desk shows once a unit was opened.
use Rattle.std.proofs.Common.{◌≡◌, ◌==◌, ℕ, suc, ◌+◌, List, [], ◌∷◌, ◌++◌, length, map, refl, ap, sym, ◌∙◌, arith, add-zero, Bool, true, Option, Some, None, rules}
use Rattle.std.proofs.lemmas.List.{append_assoc, append-nil, map-append, length-append, length-map, get_or_append_left, get_or_at}
use Rattle.std.specs.Cmp.Derive.{both_true}
use Rattle.message_ids.specs.declared.id.Id.{Id}
use Rattle.open_numbers.specs.declared.kept.Kept.{Kept}
use Rattle.open_numbers.specs.declared.kept.Kept.TheVariants.{Open}
use Rattle.answer_desk.specs.declared.shape.Place.{Place}
use Rattle.answer_desk.specs.declared.shape.Place.TheVariants.{Unreadable, Invalid, Silent, Numbered}
use Rattle.answer_desk.specs.declared.waiting_unit.Due.{Due}
use Rattle.answer_desk.specs.declared.waiting_unit.Due.TheVariants.{ParseError, InvalidRequest, Nothing}
use Rattle.answer_desk.specs.declared.shape.Shape.{Shape}
use Rattle.answer_desk.specs.declared.waiting_unit.WaitingUnit.{WaitingUnit}
use Rattle.answer_desk.specs.Places.{call_part, new_numbers, new_parts}
use Rattle.open_numbers.specs.OpenCalls.{new_number}
use Rattle.answer_desk.specs.State.{with_unit}
use Rattle.answer_desk.specs.Waiting.{Waiting, Part, unreadable, invalid, silent}
use Rattle.open_numbers.specs.Kept.{open_number}
use Rattle.answer_desk.specs.Seen.{request_part, part_of, waiting_of}
use Rattle.answer_desk.specs.Inner.Arrivals.{calls_of, due_of_call, dues_of}
use Rattle.answer_desk.specs.Inner.Units.{requests_in, requests_of, ascends, front_finished}
use Rattle.answer_desk.proofs.Ascending.{SameRequests, units-same, ascends-append, ascends-from}
use Rattle.open_numbers.proofs.Tests.{le_to}
use Rattle.answer_desk.proofs.Views.{seen}

pub open-new : (places : List Place) → map open_number (calls_of places) ≡ new_numbers places
open-new [] = refl
open-new (Unreadable ∷ places) = open-new places
open-new (Invalid ∷ places) = open-new places
open-new (Silent ∷ places) = open-new places
open-new (Numbered id most ∷ places) = ap (λ ns. Some (new_number id most) ∷ ns) (open-new places)

pub length-new : (places : List Place) → length (calls_of places) ≡ length (new_numbers places)
length-new places = sym (length-map (calls_of places) open_number) ∙ ap length (open-new places)

-- the new parts

quiet_part : (entries : List (Option Kept)) (places : List Place) (due : Due) (part : Part) → part_of (entries ++ calls_of places) due ≡ part
    → map (part_of (entries ++ calls_of places)) (dues_of (length entries) places) ≡ new_parts (length entries) places
    → map (part_of (entries ++ calls_of places)) (due ∷ dues_of (length entries + 0) places) ≡ part ∷ new_parts (length entries) places
quiet_part entries places due part here more = rw (here, add-zero, more) refl

call-here : (entries more : List (Option Kept)) (id : Option Id) (most : ℕ)
    → part_of (entries ++ Some (Open (new_number id most)) ∷ more) (due_of_call (length entries) id) ≡ call_part (length entries) id
call-here entries more None most = refl
call-here entries more (Some id) most =
    ap (request_part (length entries)) (get_or_at entries (Some (Open (new_number (Some id) most))) more None (length entries) refl)

pub parts-new : (entries : List (Option Kept)) (places : List Place)
    → map (part_of (entries ++ calls_of places)) (dues_of (length entries) places) ≡ new_parts (length entries) places
parts-new entries [] = refl
parts-new entries (Unreadable ∷ places) = quiet_part entries places ParseError unreadable refl (parts-new entries places)
parts-new entries (Invalid ∷ places) = quiet_part entries places InvalidRequest invalid refl (parts-new entries places)
parts-new entries (Silent ∷ places) = quiet_part entries places Nothing silent refl (parts-new entries places)
parts-new entries (Numbered id most ∷ places) =
    let first : List (Option Kept) = entries ++ Some (Open (new_number id most)) ∷ [] in
    let joined : first ++ calls_of places ≡ entries ++ Some (Open (new_number id most)) ∷ calls_of places =
    append_assoc entries (Some (Open (new_number id most)) ∷ []) (calls_of places) in
    let long : length first ≡ length entries + 1 = length-append entries (Some (Open (new_number id most)) ∷ []) in
    let more : map (part_of (entries ++ Some (Open (new_number id most)) ∷ calls_of places)) (dues_of (length entries + 1) places) ≡ new_parts (length entries + 1) places =
    rw (joined, long) at (parts-new first places) in
    rw (call-here entries (calls_of places) id most, more) refl

-- the new requests ascend

pub ascends-new : (n : ℕ) (places : List Place) → ascends n (n + length (calls_of places)) (requests_in (dues_of n places)) ≡ true
ascends-new n [] = le_to n (n + 0) (omega arith)
ascends-new n (Unreadable ∷ places) = rw add-zero (ascends-new n places)
ascends-new n (Invalid ∷ places) = rw add-zero (ascends-new n places)
ascends-new n (Silent ∷ places) = rw add-zero (ascends-new n places)
ascends-new n (Numbered None most ∷ places) =
    let high : (n + 1) + length (calls_of places) ≡ n + suc (length (calls_of places)) = omega arith in
    ascends-from (n + 1) n (n + suc (length (calls_of places))) (requests_in (dues_of (n + 1) places)) (omega arith) (rw high at (ascends-new (n + 1) places))
ascends-new n (Numbered (Some id) most ∷ places) =
    let high : (n + 1) + length (calls_of places) ≡ n + suc (length (calls_of places)) = omega arith in
    both_true (le_to n n (omega arith)) (rw high at (ascends-new (n + 1) places))

requests_of-append : (units : List WaitingUnit) (unit : WaitingUnit) → requests_of (units ++ unit ∷ []) ≡ requests_of units ++ requests_in unit.dues
requests_of-append [] unit = append-nil (requests_in unit.dues)
requests_of-append (u ∷ us) unit = rw (requests_of-append us unit) (sym (append_assoc (requests_in u.dues) (requests_of us) (requests_in unit.dues)))

pub ascends-opened : (entries : List (Option Kept)) (units : List WaitingUnit) (unit : WaitingUnit) (places : List Place) → unit.dues ≡ dues_of (length entries) places
    → ascends 0 (length entries) (requests_of units) ≡ true → ascends 0 (length (entries ++ calls_of places)) (requests_of (units ++ unit ∷ [])) ≡ true
ascends-opened entries units unit places is up =
    let more : ascends (length entries) (length entries + length (calls_of places)) (requests_in unit.dues) ≡ true = rw is (ascends-new (length entries) places) in
    rw (requests_of-append units unit, length-append entries (calls_of places))
    (ascends-append 0 (length entries) (length entries + length (calls_of places)) (requests_of units) (requests_in unit.dues) up more)

alike-opened : (entries new : List (Option Kept)) → SameRequests 0 (length entries) (entries ++ new) entries
alike-opened entries new = record { same = λ k from below. ap (request_part k) (get_or_append_left entries new None k below) }

pub units-opened : (entries : List (Option Kept)) (units : List WaitingUnit) (unit : WaitingUnit) (places : List Place) → unit.dues ≡ dues_of (length entries) places
    → ascends 0 (length entries) (requests_of units) ≡ true
    → map (waiting_of (entries ++ calls_of places)) (units ++ unit ∷ [])
    ≡ map (waiting_of entries) units ++ record { kind = unit.kind; parts = new_parts (length entries) places } ∷ []
units-opened entries units unit places is up =
    let old : map (waiting_of (entries ++ calls_of places)) units ≡ map (waiting_of entries) units =
    units-same 0 (length entries) (entries ++ calls_of places) entries units (alike-opened entries (calls_of places)) up in
    let parts : map (part_of (entries ++ calls_of places)) unit.dues ≡ new_parts (length entries) places = rw is (parts-new entries places) in
    rw (map-append (waiting_of (entries ++ calls_of places)) units (unit ∷ []), old, parts) refl

pub seen-opened : (entries : List (Option Kept)) (closed : Bool) (units : List WaitingUnit) (unit : WaitingUnit) (shape : Shape)
    → unit.dues ≡ dues_of (length entries) shape.places → unit.kind ≡ shape.kind → ascends 0 (length entries) (requests_of units) ≡ true
    → seen (entries ++ calls_of shape.places) closed (units ++ unit ∷ []) ≡ with_unit (seen entries closed units) shape
seen-opened entries closed units unit shape is kind up =
    rw (map-append open_number entries (calls_of shape.places), open-new shape.places, units-opened entries units unit shape.places is up, kind, length-map entries open_number) refl

zero_from : (count : ℕ) → (count == 0) ≡ true → count ≡ 0
zero_from count is = search (rules, is)

front-pushed : (count : ℕ) (units : List Waiting) (unit : Waiting) → front_finished count units ≡ true → front_finished count (units ++ unit ∷ []) ≡ true
front-pushed count [] unit done = rw (zero_from count done) refl
front-pushed count (u ∷ us) unit done = done

pub front-opened : (entries : List (Option Kept)) (units : List WaitingUnit) (unit : WaitingUnit) (places : List Place) (count : ℕ) → unit.dues ≡ dues_of (length entries) places
    → ascends 0 (length entries) (requests_of units) ≡ true → front_finished count (map (waiting_of entries) units) ≡ true
    → front_finished count (map (waiting_of (entries ++ calls_of places)) (units ++ unit ∷ [])) ≡ true
front-opened entries units unit places count is up done =
    rw (units-opened entries units unit places is up)
    (front-pushed count (map (waiting_of entries) units) (record { kind = unit.kind; parts = new_parts (length entries) places }) done)
