-- Numbers that ascend, and the units that have them.
use Rattle.std.proofs.Common.{◌≡◌, ℕ, ◌+◌, ◌<◌, ◌≤◌, List, [], ◌∷◌, ◌++◌, map, refl, ap, arith, true, rules, nat_le, Option}
use Rattle.std.specs.Cmp.Derive.{both_true}
use Rattle.open_numbers.specs.declared.kept.Kept.{Kept}
use Rattle.answer_desk.specs.declared.waiting_unit.Due.{Due}
use Rattle.answer_desk.specs.declared.waiting_unit.Due.TheVariants.{ParseError, InvalidRequest, Nothing, Answer}
use Rattle.answer_desk.specs.declared.waiting_unit.WaitingUnit.{WaitingUnit}
use Rattle.open_numbers.specs.Kept.{kept_at}
use Rattle.answer_desk.specs.Seen.{part_of, request_part, waiting_of}
use Rattle.answer_desk.specs.Inner.Units.{ascends, requests_in, requests_of}
use Rattle.open_numbers.proofs.Tests.{le_from, le_to}
use Rattle.answer_desk.proofs.Finished.{and_parts}

pub ascends-le : (low high : ℕ) (xs : List ℕ) → ascends low high xs ≡ true → low ≤ high
ascends-le low high [] up = le_from low high up
ascends-le low high (x ∷ xs) up =
    let parts = and_parts (nat_le low x) (ascends (x + 1) high xs) up in
    let first : low ≤ x = le_from low x parts.0 in
    let rest : x + 1 ≤ high = ascends-le (x + 1) high xs parts.1 in
    omega arith

pub ascends-from : (low low' high : ℕ) (xs : List ℕ) → low' ≤ low → ascends low high xs ≡ true → ascends low' high xs ≡ true
ascends-from low low' high [] below up =
    let last : low ≤ high = le_from low high up in
    le_to low' high (omega arith)
ascends-from low low' high (x ∷ xs) below up =
    let parts = and_parts (nat_le low x) (ascends (x + 1) high xs) up in
    let first : low ≤ x = le_from low x parts.0 in
    both_true (le_to low' x (omega arith)) parts.1

pub ascends-append : (low mid high : ℕ) (xs ys : List ℕ) → ascends low mid xs ≡ true → ascends mid high ys ≡ true → ascends low high (xs ++ ys) ≡ true
ascends-append low mid high [] ys up more = ascends-from mid low high ys (le_from low mid up) more
ascends-append low mid high (x ∷ xs) ys up more =
    let parts = and_parts (nat_le low x) (ascends (x + 1) mid xs) up in
    both_true parts.0 (ascends-append (x + 1) mid high xs ys parts.1 more)

pub record Split (low high : ℕ) (xs ys : List ℕ) : Type 0 where
  pub mid : ℕ
  pub before : ascends low mid xs ≡ true
  pub behind : ascends mid high ys ≡ true

pub ascends-split : (low high : ℕ) (xs ys : List ℕ) → ascends low high (xs ++ ys) ≡ true → Split low high xs ys
ascends-split low high [] ys up = record { mid = low; before = le_to low low (omega arith); behind = up }
ascends-split low high (x ∷ xs) ys up =
    let parts = and_parts (nat_le low x) (ascends (x + 1) high (xs ++ ys)) up in
    let rest = ascends-split (x + 1) high xs ys parts.1 in
    record { mid = rest.mid; before = both_true parts.0 rest.before; behind = rest.behind }

-- two lists of entries show the requests from `low` to `high` alike
pub record SameRequests (low high : ℕ) (now was : List (Option Kept)) : Type 0 where
  pub same : (k : ℕ) → low ≤ k → k < high → request_part k (kept_at now k) ≡ request_part k (kept_at was k)

pub parts-same : (low high : ℕ) (now was : List (Option Kept)) (dues : List Due) → SameRequests low high now was → ascends low high (requests_in dues) ≡ true
    → map (part_of now) dues ≡ map (part_of was) dues
parts-same low high now was [] alike up = refl
parts-same low high now was (ParseError ∷ dues) alike up = ap (λ ps. part_of was ParseError ∷ ps) (parts-same low high now was dues alike up)
parts-same low high now was (InvalidRequest ∷ dues) alike up = ap (λ ps. part_of was InvalidRequest ∷ ps) (parts-same low high now was dues alike up)
parts-same low high now was (Nothing ∷ dues) alike up = ap (λ ps. part_of was Nothing ∷ ps) (parts-same low high now was dues alike up)
parts-same low high now was (Answer n ∷ dues) alike up =
    let parts = and_parts (nat_le low n) (ascends (n + 1) high (requests_in dues)) up in
    let first : low ≤ n = le_from low n parts.0 in
    let last : n + 1 ≤ high = ascends-le (n + 1) high (requests_in dues) parts.1 in
    let here : request_part n (kept_at now n) ≡ request_part n (kept_at was n) = alike.same n first (omega arith) in
    let more : SameRequests (n + 1) high now was = record { same = λ k from below. alike.same k (omega arith) below } in
    rw (here, parts-same (n + 1) high now was dues more parts.1) refl

pub units-same : (low high : ℕ) (now was : List (Option Kept)) (units : List WaitingUnit) → SameRequests low high now was → ascends low high (requests_of units) ≡ true
    → map (waiting_of now) units ≡ map (waiting_of was) units
units-same low high now was [] alike up = refl
units-same low high now was (unit ∷ units) alike up =
    let split = ascends-split low high (requests_in unit.dues) (requests_of units) up in
    let from_low : low ≤ split.mid = ascends-le low split.mid (requests_in unit.dues) split.before in
    let to_high : split.mid ≤ high = ascends-le split.mid high (requests_of units) split.behind in
    let front : SameRequests low split.mid now was = record { same = λ k from below. alike.same k from (omega arith) } in
    let back : SameRequests split.mid high now was = record { same = λ k from below. alike.same k (omega arith) below } in
    let here : map (part_of now) unit.dues ≡ map (part_of was) unit.dues = parts-same low split.mid now was unit.dues front split.before in
    rw (here, units-same split.mid high now was units back split.behind) refl
