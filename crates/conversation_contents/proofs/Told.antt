-- What is told of requests that must be answered, one behind another.
use Rattle.std.proofs.Common.{◌≡◌, ℕ, ◌≤◌, List, [], ◌∷◌, ◌++◌, Bool, true, false, Option, Some, None, if◌then◌else◌, length, drop, refl, ap, sym, ◌∙◌, append_assoc}
use Rattle.std.specs.List.{cons_option, filter_map}
use Rattle.std.specs.Option.{option_to_list}
use Rattle.conversation_contents.proofs.OwedSteps.{drop_past}
use Rattle.conversation_rules.specs.Dues.{unanswered_of, unanswered_entry}
use Rattle.conversation_rules.specs.Owed.{Owed, Due}
use Rattle.conversation_rules.specs.declared.found.Unanswered.{Unanswered}

front : (due : Due) (owed : Owed) (rest : List Owed) (b : Bool) → (if b then unanswered_entry due owed ∷ unanswered_of due rest else unanswered_of due rest) ≡ (if b then unanswered_entry due owed ∷ [] else []) ++ unanswered_of due rest
front due owed rest true = refl
front due owed rest false = refl

pub told_one : (due : Due) (was now : List Unanswered) (entries rest : List Owed) (owed : Owed) → now ≡ was ++ unanswered_of due (owed ∷ []) → entries ≡ owed ∷ rest → now ++ unanswered_of due rest ≡ was ++ unanswered_of due entries
told_one due was now entries rest owed one is =
    ap (λ told. told ++ unanswered_of due rest) one
    ∙ append_assoc was (unanswered_of due (owed ∷ [])) (unanswered_of due rest)
    ∙ ap (λ told. was ++ told) (sym (front due owed rest owed.must))
    ∙ ap (λ es. was ++ unanswered_of due es) (sym is)

pub none_more : (told : List Unanswered) → told ≡ told ++ []
none_more [] = refl
none_more (x ∷ told) = ap (λ xs. x ∷ xs) (none_more told)

pub told_all : (due : Due) (told : List Unanswered) (entries : List Owed) (i : ℕ) → length entries ≤ i → told ≡ told ++ unanswered_of due (drop i entries)
told_all due told entries i le = none_more told ∙ ap (λ es. told ++ unanswered_of due es) (sym (drop_past entries i le))

told_by : (due : Due) (was now : List Unanswered) (read : ℕ → Option Owed) (rest : List ℕ) (o : Option Owed) → now ≡ was ++ unanswered_of due (option_to_list o) → now ++ unanswered_of due (filter_map read rest) ≡ was ++ unanswered_of due (cons_option o (filter_map read rest))
told_by due was now read rest None one = ap (λ told. told ++ unanswered_of due (filter_map read rest)) (one ∙ sym (none_more was))
told_by due was now read rest (Some owed) one = told_one due was now (owed ∷ filter_map read rest) (filter_map read rest) owed one refl

pub told_at : (due : Due) (was now : List Unanswered) (read : ℕ → Option Owed) (all rest : List ℕ) (place : ℕ) → now ≡ was ++ unanswered_of due (option_to_list (read place)) → all ≡ place ∷ rest →
    now ++ unanswered_of due (filter_map read rest) ≡ was ++ unanswered_of due (filter_map read all)
told_at due was now read all rest place one is = told_by due was now read rest (read place) one ∙ ap (λ ps. was ++ unanswered_of due (filter_map read ps)) (sym is)

pub told_placed : (due : Due) (told : List Unanswered) (read : ℕ → Option Owed) (places : List ℕ) (i : ℕ) → length places ≤ i → told ≡ told ++ unanswered_of due (filter_map read (drop i places))
told_placed due told read places i le = none_more told ∙ ap (λ ps. told ++ unanswered_of due (filter_map read ps)) (sym (drop_past places i le))
