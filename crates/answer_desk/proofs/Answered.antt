-- What a desk shows once an open number is finished.
use Rattle.std.proofs.Common.{◌≡◌, ◌==◌, ℕ, suc, zero, ◌<◌, ◌≢◌, List, [], ◌∷◌, length, get_or, set, map, take, refl, ap, sym, ◌∙◌, arith, Bool, true, false, if◌then◌else◌, is_some, Option, Some, None, rules, ⊎_elim}
use Rattle.std.proofs.lemmas.List.{get_or-set_same, get_or-set_other}
use Rattle.std.proofs.lemmas.Bool.{cases_eq}
use Rattle.std.specs.List.{list_all}
use Rattle.std.specs.Cmp.Derive.{both_true}
use Rattle.message_ids.specs.declared.id.Id.{Id}
use Rattle.rpc_messages.specs.declared.reply.Reply.{Reply}
use Rattle.open_numbers.specs.declared.kept.Kept.{Kept}
use Rattle.open_numbers.specs.declared.kept.Kept.TheVariants.{Open, Answered}
use Rattle.answer_desk.specs.declared.waiting_unit.Due.{Due}
use Rattle.answer_desk.specs.declared.waiting_unit.Due.TheVariants.{ParseError, InvalidRequest, Nothing, Answer}
use Rattle.answer_desk.specs.declared.waiting_unit.WaitingUnit.{WaitingUnit}
use Rattle.answer_desk.specs.Places.{call_part}
use Rattle.answer_desk.specs.State.{with_end}
use Rattle.answer_desk.specs.Waiting.{Waiting, Part, unreadable, invalid, silent, request, is_finished, part_answered, unit_answered}
use Rattle.open_numbers.specs.Kept.{kept_at, open_number, with_answer, kept_answer}
use Rattle.answer_desk.specs.Seen.{request_part, part_of, waiting_of}
use Rattle.answer_desk.specs.Inner.Units.{front_finished}
use Rattle.answer_desk.proofs.Finished.{and_parts}
use Rattle.answer_desk.proofs.Views.{seen}
use Rattle.open_numbers.proofs.Shown.{number-open}

open_kept : (reply : Reply) (id : Option Id) → open_number (kept_answer reply id) ≡ None
open_kept reply None = refl
open_kept reply (Some id) = refl

open_answered : (reply : Reply) (entry : Option Kept) → open_number (with_answer reply entry) ≡ None
open_answered reply (Some (Open n)) = open_kept reply n.id
open_answered reply (Some (Answered id old)) = refl
open_answered reply None = refl

numbers-answered : (reply : Reply) (entries : List (Option Kept)) (n : ℕ)
    → map open_number (set entries n (with_answer reply (kept_at entries n))) ≡ set (map open_number entries) n None
numbers-answered reply [] n = refl
numbers-answered reply (e ∷ es) zero = ap (λ o. o ∷ map open_number es) (open_answered reply e)
numbers-answered reply (e ∷ es) (suc n) = ap (λ os. open_number e ∷ os) (numbers-answered reply es n)

open_inside : (entries : List (Option Kept)) (n : ℕ) → is_some (get_or (map open_number entries) n None) ≡ true → n < length entries
open_inside [] n still = cc
open_inside (e ∷ es) zero still = omega arith
open_inside (e ∷ es) (suc n) still =
    let below : n < length es = open_inside es n still in
    omega arith

same_number : (n : ℕ) → (n == n) ≡ true
same_number n = search rules

other_number : (k n : ℕ) → k ≢ n → (k == n) ≡ false
other_number k n differs = search (rules, differs)

answer_of_call : (n : ℕ) (reply : Reply) (id : Option Id) → request_part n (kept_answer reply id) ≡ part_answered n reply (call_part n id)
answer_of_call n reply None = refl
answer_of_call n reply (Some id) = rw (same_number n) refl

part_here : (n : ℕ) (reply : Reply) (entry : Option Kept) → is_some (open_number entry) ≡ true → request_part n (with_answer reply entry) ≡ part_answered n reply (request_part n entry)
part_here n reply (Some (Open m)) still = answer_of_call n reply m.id
part_here n reply (Some (Answered id old)) still = cc
part_here n reply None still = cc

call_apart : (k n : ℕ) (reply : Reply) (id : Option Id) → (k == n) ≡ false → call_part k id ≡ part_answered n reply (call_part k id)
call_apart k n reply None apart = refl
call_apart k n reply (Some id) apart = rw apart refl

part_apart : (k n : ℕ) (reply : Reply) (entry : Option Kept) → (k == n) ≡ false → request_part k entry ≡ part_answered n reply (request_part k entry)
part_apart k n reply (Some (Open m)) apart = call_apart k n reply m.id apart
part_apart k n reply (Some (Answered id old)) apart = rw apart refl
part_apart k n reply None apart = refl

request-answered : (entries : List (Option Kept)) (n k : ℕ) (reply : Reply) → is_some (get_or (map open_number entries) n None) ≡ true
    → request_part k (kept_at (set entries n (with_answer reply (kept_at entries n))) k) ≡ part_answered n reply (request_part k (kept_at entries k))
request-answered entries n k reply still =
    ⊎_elim {A = k ≡ n} {B = k ≢ n}
    (λ same.
    let inside : n < length entries = open_inside entries n still in
    let here : kept_at (set entries n (with_answer reply (kept_at entries n))) n ≡ with_answer reply (kept_at entries n) =
    get_or-set_same entries n (with_answer reply (kept_at entries n)) None inside in
    let open_here : is_some (open_number (kept_at entries n)) ≡ true = ap is_some (sym (number-open entries n)) ∙ still in
    rw (same, here) (part_here n reply (kept_at entries n) open_here))
    (λ differs.
    let there : kept_at (set entries n (with_answer reply (kept_at entries n))) k ≡ kept_at entries k =
    get_or-set_other entries n k (with_answer reply (kept_at entries n)) None differs in
    rw there (part_apart k n reply (kept_at entries k) (other_number k n differs)))
    (cases_eq k n)

parts-answered : (entries : List (Option Kept)) (n : ℕ) (reply : Reply) (dues : List Due) → is_some (get_or (map open_number entries) n None) ≡ true
    → map (part_of (set entries n (with_answer reply (kept_at entries n)))) dues ≡ map (part_answered n reply) (map (part_of entries) dues)
parts-answered entries n reply [] still = refl
parts-answered entries n reply (ParseError ∷ dues) still = ap (λ ps. unreadable ∷ ps) (parts-answered entries n reply dues still)
parts-answered entries n reply (InvalidRequest ∷ dues) still = ap (λ ps. invalid ∷ ps) (parts-answered entries n reply dues still)
parts-answered entries n reply (Nothing ∷ dues) still = ap (λ ps. silent ∷ ps) (parts-answered entries n reply dues still)
parts-answered entries n reply (Answer k ∷ dues) still = rw (request-answered entries n k reply still, parts-answered entries n reply dues still) refl

pub units-answered : (entries : List (Option Kept)) (n : ℕ) (reply : Reply) (units : List WaitingUnit) → is_some (get_or (map open_number entries) n None) ≡ true
    → map (waiting_of (set entries n (with_answer reply (kept_at entries n)))) units ≡ map (unit_answered n reply) (map (waiting_of entries) units)
units-answered entries n reply [] still = refl
units-answered entries n reply (unit ∷ units) still = rw (parts-answered entries n reply unit.dues still, units-answered entries n reply units still) refl

pub seen-answered : (entries : List (Option Kept)) (closed : Bool) (units : List WaitingUnit) (n : ℕ) (reply : Reply) → is_some (get_or (map open_number entries) n None) ≡ true
    → seen (set entries n (with_answer reply (kept_at entries n))) closed units ≡ with_end (seen entries closed units) n reply
seen-answered entries closed units n reply still = rw (numbers-answered reply entries n, units-answered entries n reply units still) refl

-- what was finished stays so

answered_either : (hit : Bool) (n : ℕ) (id : Id) (reply old : Reply) → is_finished (request n id (if hit then Some reply else Some old)) ≡ true
answered_either true n id reply old = refl
answered_either false n id reply old = refl

still_finished : (n : ℕ) (reply : Reply) (part : Part) → is_finished part ≡ true → is_finished (part_answered n reply part) ≡ true
still_finished n reply unreadable done = refl
still_finished n reply invalid done = refl
still_finished n reply silent done = refl
still_finished n reply (request k id None) done = cc
still_finished n reply (request k id (Some old)) done = answered_either (k == n) k id reply old

all_still_finished : (n : ℕ) (reply : Reply) (count : ℕ) (parts : List Part) → list_all is_finished (take count parts) ≡ true
    → list_all is_finished (take count (map (part_answered n reply) parts)) ≡ true
all_still_finished n reply zero parts done = refl
all_still_finished n reply (suc count) [] done = refl
all_still_finished n reply (suc count) (part ∷ parts) done =
    let both = and_parts (is_finished part) (list_all is_finished (take count parts)) done in
    both_true (still_finished n reply part both.0) (all_still_finished n reply count parts both.1)

pub front_still_finished : (n : ℕ) (reply : Reply) (count : ℕ) (units : List Waiting) → front_finished count units ≡ true
    → front_finished count (map (unit_answered n reply) units) ≡ true
front_still_finished n reply count [] done = done
front_still_finished n reply count (unit ∷ units) done = all_still_finished n reply count unit.parts done
