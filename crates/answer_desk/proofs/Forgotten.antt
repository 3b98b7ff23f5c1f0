-- Released answers that are kept no longer.
use Rattle.std.proofs.Common.{◌≡◌, ℕ, suc, zero, ◌+◌, ◌≤◌, ◌≢◌, List, [], ◌∷◌, ◌++◌, length, set, map, drop, refl, ap, sym, ◌∙◌, arith, true, nat_le, Option, Some, None, is_some, false}
use Rattle.std.proofs.lemmas.List.{get_or-set_other, length-set, drop-drop}
use Rattle.open_numbers.specs.declared.kept.Kept.{Kept}
use Rattle.open_numbers.specs.declared.kept.Kept.TheVariants.{Open, Answered}
use Rattle.answer_desk.specs.declared.waiting_unit.WaitingUnit.{WaitingUnit}
use Rattle.open_numbers.specs.Kept.{kept_at, open_number, without_answer}
use Rattle.answer_desk.specs.Seen.{request_part, waiting_of}
use Rattle.open_numbers.specs.Requests.{IsOutOfReach}
use Rattle.answer_desk.specs.Inner.Units.{ascends, requests_in, requests_of, without_answers}
use Rattle.answer_desk.proofs.Finished.{and_parts}
use Rattle.open_numbers.proofs.OutOfReach.{opening-set, IsOutOfReach-forgotten}
use Rattle.answer_desk.proofs.Ascending.{SameRequests, ascends-le, ascends-from, ascends-split, units-same}
use Rattle.open_numbers.proofs.Tests.{le_to}

open_forgotten : (entry : Option Kept) → open_number (without_answer entry) ≡ open_number entry
open_forgotten (Some (Open n)) = refl
open_forgotten (Some (Answered id reply)) = refl
open_forgotten None = refl

-- no open number changes
open-forgotten_at : (entries : List (Option Kept)) (n : ℕ) → map open_number (set entries n (without_answer (kept_at entries n))) ≡ map open_number entries
open-forgotten_at [] n = refl
open-forgotten_at (e ∷ es) zero = ap (λ o. o ∷ map open_number es) (open_forgotten e)
open-forgotten_at (e ∷ es) (suc n) = ap (λ os. open_number e ∷ os) (open-forgotten_at es n)

pub open-forgotten : (numbers : List ℕ) (entries : List (Option Kept)) → map open_number (without_answers numbers entries) ≡ map open_number entries
open-forgotten [] entries = refl
open-forgotten (n ∷ ns) entries = open-forgotten ns (set entries n (without_answer (kept_at entries n))) ∙ open-forgotten_at entries n

pub length-forgotten : (numbers : List ℕ) (entries : List (Option Kept)) → length (without_answers numbers entries) ≡ length entries
length-forgotten [] entries = refl
length-forgotten (n ∷ ns) entries = length-forgotten ns (set entries n (without_answer (kept_at entries n))) ∙ length-set entries n (without_answer (kept_at entries n))

-- nor does what stands behind those that are forgotten
pub kept_at-forgotten : (low mid k : ℕ) (numbers : List ℕ) (entries : List (Option Kept)) → ascends low mid numbers ≡ true → mid ≤ k
    → kept_at (without_answers numbers entries) k ≡ kept_at entries k
kept_at-forgotten low mid k [] entries up behind = refl
kept_at-forgotten low mid k (n ∷ ns) entries up behind =
    let parts = and_parts (nat_le low n) (ascends (n + 1) mid ns) up in
    let last : n + 1 ≤ mid = ascends-le (n + 1) mid ns parts.1 in
    let other : k ≢ n = omega arith in
    kept_at-forgotten (n + 1) mid k ns (set entries n (without_answer (kept_at entries n))) parts.1 behind
    ∙ get_or-set_other entries n k (without_answer (kept_at entries n)) None other

-- nor does what no cancel reaches
pub opening-forgotten : (numbers : List ℕ) (entries : List (Option Kept)) → IsOutOfReach (kept_at entries 0) → IsOutOfReach (kept_at (without_answers numbers entries) 0)
opening-forgotten [] entries out = out
opening-forgotten (n ∷ ns) entries out =
    opening-forgotten ns (set entries n (without_answer (kept_at entries n)))
    (opening-set entries n (without_answer (kept_at entries n)) (IsOutOfReach-forgotten (kept_at entries n)) out)

-- the first `count` units are gone: the entries and units then, and those at the start
pub record IsDropped (count : ℕ) (now start : List (Option Kept)) (units all : List WaitingUnit) : Type 0 where
  pub behind : units ≡ drop count all
  pub numbers : map open_number now ≡ map open_number start
  pub left : map (waiting_of now) units ≡ drop count (map (waiting_of start) all)
  pub ascends : ascends 0 (length now) (requests_of units) ≡ true
  pub opening : IsOutOfReach (kept_at start 0) → IsOutOfReach (kept_at now 0)

pub IsDropped-some : (count : ℕ) (now start : List (Option Kept)) (units all rest : List WaitingUnit) (unit : WaitingUnit)
    → units ≡ unit ∷ rest → IsDropped count now start units all → IsDropped (count + 1) (without_answers (requests_in unit.dues) now) start rest all
IsDropped-some count now start units all rest unit is so_far =
    let up : ascends 0 (length now) (requests_in unit.dues ++ requests_of rest) ≡ true = rw is at so_far.ascends in
    let split = ascends-split 0 (length now) (requests_in unit.dues) (requests_of rest) up in
    let later : List (Option Kept) = without_answers (requests_in unit.dues) now in
    let alike : SameRequests split.mid (length now) later now = record {
      same = λ k from below. ap (request_part k) (kept_at-forgotten 0 split.mid k (requests_in unit.dues) now split.before from);
    } in
    let next : drop 1 (drop count all) ≡ drop (count + 1) all = drop-drop 1 count all in
    let next_left : drop 1 (drop count (map (waiting_of start) all)) ≡ drop (count + 1) (map (waiting_of start) all) = drop-drop 1 count (map (waiting_of start) all) in
    let tail : drop 1 units ≡ rest = ap (drop 1) is in
    let tail_left : drop 1 (map (waiting_of now) units) ≡ map (waiting_of now) rest = ap (λ us. drop 1 (map (waiting_of now) us)) is in
    record {
      behind = sym tail ∙ ap (drop 1) so_far.behind ∙ next;
      numbers = open-forgotten (requests_in unit.dues) now ∙ so_far.numbers;
      left = units-same split.mid (length now) later now rest alike split.behind ∙ sym tail_left ∙ ap (drop 1) so_far.left ∙ next_left;
      ascends = rw (length-forgotten (requests_in unit.dues) now) (ascends-from split.mid 0 (length now) (requests_of rest) (omega arith) split.behind);
      opening = λ out. opening-forgotten (requests_in unit.dues) now (so_far.opening out);
    }

pub IsDropped-none : (count : ℕ) (now start : List (Option Kept)) (units all rest : List WaitingUnit)
    → units ≡ [] → rest ≡ [] → IsDropped count now start units all → IsDropped (count + 1) now start rest all
IsDropped-none count now start units all rest none gone so_far =
    let next : drop 1 (drop count all) ≡ drop (count + 1) all = drop-drop 1 count all in
    let next_left : drop 1 (drop count (map (waiting_of start) all)) ≡ drop (count + 1) (map (waiting_of start) all) = drop-drop 1 count (map (waiting_of start) all) in
    record {
      behind = gone ∙ sym (ap (drop 1) none) ∙ ap (drop 1) so_far.behind ∙ next;
      numbers = so_far.numbers;
      left = ap (map (waiting_of now)) gone ∙ sym (ap (λ us. drop 1 (map (waiting_of now) us)) none) ∙ ap (drop 1) so_far.left ∙ next_left;
      ascends = rw gone (le_to 0 (length now) (omega arith));
      opening = so_far.opening;
    }
