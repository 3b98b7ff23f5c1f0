-- What is kept of numbers, as it is shown.
use Rattle.std.proofs.Common.{◌≡◌, ℕ, suc, zero, List, [], ◌∷◌, get_or, map, refl, ap, sym, is_some, true, false, Option, Some, None, MatchOption}
use Rattle.open_numbers.specs.declared.kept.Kept.{Kept}
use Rattle.open_numbers.specs.declared.kept.Kept.TheVariants.{Open, Answered}
use Rattle.open_numbers.specs.declared.open_call.OpenCall.{OpenCall}
use Rattle.open_numbers.specs.Kept.{kept_at, open_number, without_answer}

pub number-open : (entries : List (Option Kept)) (n : ℕ) → get_or (map open_number entries) n None ≡ open_number (kept_at entries n)
number-open [] n = refl
number-open (e ∷ es) zero = refl
number-open (e ∷ es) (suc n) = number-open es n

pub found-some : {X : Type 0} (seen_of : X → OpenCall) (result : Option X) (here : Option OpenCall) → MatchOption result (here ≡ None) (λ x. here ≡ Some (seen_of x))
    → is_some result ≡ is_some here
found-some seen_of None here is = ap is_some (sym is)
found-some seen_of (Some x) here is = ap is_some (sym is)

-- what is open stays, and else nothing does
pub open-left : (entry : Option Kept) → is_some (open_number entry) ≡ true → without_answer entry ≡ entry
open-left (Some (Open n)) is = refl
open-left (Some (Answered id reply)) is = cc
open-left None is = cc

pub answer-gone : (entry : Option Kept) → is_some (open_number entry) ≡ false → without_answer entry ≡ None
answer-gone (Some (Open n)) is = cc
answer-gone (Some (Answered id reply)) is = refl
answer-gone None is = refl
