-- The findings that were moved so far.
use Rattle.std.proofs.Common.{◌≡◌, ℕ, zero, suc, ◌+◌, ◌<◌, ◌≤◌, List, [], ◌∷◌, ◌++◌, length, take, drop, refl, sym, ap, ◌∙◌, append_assoc, arith}
use Rattle.std.specs.Prelude.{map}
use Rattle.std.specs.Prelude.{slice_set}
use Rattle.content_streams.specs.declared.framing.Framing.{Framing}
use Rattle.conversation_judge.specs.Judged.{Judged, Stands}
use Rattle.conversation_rules.specs.Judging.{Seen}
use Rattle.conversation_rules.specs.declared.finding.Finding.{Finding}
use Rattle.conversation_rules.specs.declared.finding.Limits.{Limits}
use Rattle.conversation_rules.specs.declared.protocol.Protocol.{Protocol}
use Rattle.judge_calls.specs.declared.finding.HostFinding.{HostFinding}
use Rattle.judge_calls.specs.Findings.{as_c}

-- the room once so many were moved
abbrev pub moved : List Finding → List HostFinding → ℕ → List HostFinding
moved found room n = map as_c (take n found) ++ drop n room

one_more : (found : List Finding) (room : List HostFinding) (n : ℕ) (it : Finding) (others : List Finding) → n < length room → drop n found ≡ it ∷ others → slice_set (moved found room n) n (as_c it) ≡ moved found room (suc n)
one_more [] room zero it others some is = absurd (let e : [] ≡ it ∷ others = is in cc)
one_more [] room (suc n) it others some is = absurd (let e : [] ≡ it ∷ others = is in cc)
one_more (first ∷ found) [] n it others some is = absurd (let e : n < 0 = some in omega (arith, e))
one_more (first ∷ found) (place ∷ room) zero it others some is = let e : first ≡ it = cc in ap (λ f. as_c f ∷ room) (sym e)
one_more (first ∷ found) (place ∷ room) (suc n) it others some is =
    let less : n < length room = let e : suc n < suc (length room) = some in omega (arith, e) in
    ap (λ rest. as_c first ∷ rest) (one_more found room n it others less is)

next_one : (n : ℕ) → suc n ≡ n + 1
next_one n = omega arith

pub moved_more : (found : List Finding) (room before after : List HostFinding) (n : ℕ) (it : Finding) (others : List Finding) → n < length room → drop n found ≡ it ∷ others
    → before ≡ moved found room n → after ≡ slice_set before n (as_c it) → after ≡ moved found room (n + 1)
moved_more found room before after n it others some is was now =
    now ∙ ap (λ r. slice_set r n (as_c it)) was ∙ one_more found room n it others some is ∙ ap (moved found room) (next_one n)

-- where nothing is dropped from a list by dropping one, there is none
pub none_left : (xs : List Finding) → xs ≡ drop 1 xs → xs ≡ []
none_left [] is = refl
none_left (x ∷ xs) is = absurd (let e : suc (length xs) ≡ length xs = ap (λ (l : List Finding). length l) is in omega (arith, e))

pub dropped_all : (xs : List Finding) (n : ℕ) → drop n xs ≡ [] → length xs ≤ n
dropped_all [] n is = omega arith
dropped_all (x ∷ xs) zero is = absurd (let e : x ∷ xs ≡ [] = is in cc)
dropped_all (x ∷ xs) (suc n) is = let less = dropped_all xs n is in let goal : suc (length xs) ≤ suc n = omega (arith, less) in goal

pub more_left : (xs : List Finding) (n : ℕ) (x : Finding) (others : List Finding) → drop n xs ≡ x ∷ others → n < length xs
more_left [] zero x others is = absurd (let e : [] ≡ x ∷ others = is in cc)
more_left [] (suc n) x others is = absurd (let e : [] ≡ x ∷ others = is in cc)
more_left (y ∷ ys) zero x others is = let goal : 0 < suc (length ys) = omega arith in goal
more_left (y ∷ ys) (suc n) x others is = let less = more_left ys n x others is in let goal : suc n < suc (length ys) = omega (arith, less) in goal

apart : (xs : List Finding) (n : ℕ) → xs ≡ take n xs ++ drop n xs
apart [] zero = refl
apart [] (suc n) = refl
apart (x ∷ xs) zero = refl
apart (x ∷ xs) (suc n) = ap (λ l. x ∷ l) (apart xs n)

-- what was told and isn't told yet are still the findings of what was seen
pub stands_told : (judged : Judged) (n : ℕ) (protocol : Protocol) (framing : Framing) (limits : Limits) (seen : List Seen) (told : List Finding)
    → Stands protocol framing limits judged seen told → Stands protocol framing limits (record judged { untold = drop n judged.untold }) seen (told ++ take n judged.untold)
stands_told judged n protocol framing limits seen told s = record {
  rules = s.rules;
  state = s.state;
  findings = s.findings ∙ ap (λ found. told ++ found) (apart judged.untold n) ∙ sym (append_assoc told (take n judged.untold) (drop n judged.untold));
}
