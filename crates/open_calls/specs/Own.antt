-- Our calls that wait for a reply.
use Rattle.std.specs.Prelude.{ℕ, zero, suc, Bool, false, true, ◌+◌, ◌==◌, ◌&&◌, not, nat_lt, List, [], ◌∷◌, ◌++◌, Option, filter}
use Rattle.open_calls.specs.declared.own_call.OwnCall.{OwnCall}
use Rattle.number_windows.specs.Numbered.{number_of_first}

-- how many were made, and those that wait, by their keys
pub record OwnState : Type 0 where
  pub made : ℕ
  pub waiting : List (ℕ × OwnCall)

-- a call that was just made on behalf of this caller
abbrev pub new_call : ℕ → OwnCall
new_call caller = record { caller = caller; is_withdrawn = false }

-- so many new calls of a caller, with the keys that follow those that were made
abbrev pub new_calls : ℕ → ℕ → ℕ → List (ℕ × OwnCall)
new_calls made caller zero = []
new_calls made caller (suc n) = new_calls made caller n ++ (made + suc n, new_call caller) ∷ []

abbrev pub withdrawn : OwnCall → OwnCall
withdrawn call = record call { is_withdrawn = true }

-- a call of this caller that isn't withdrawn
abbrev pub is_wanted_by : ℕ → OwnCall → Bool
is_wanted_by caller call = (call.caller == caller) && not call.is_withdrawn

-- the calls of all others
abbrev pub without_caller : ℕ → List (ℕ × OwnCall) → List (ℕ × OwnCall)
without_caller caller waiting = filter (λ e. not (e.1.caller == caller)) waiting

-- the least key above this one, of a call that isn't withdrawn
abbrev pub next_wanted : ℕ → ℕ → List (ℕ × OwnCall) → Option ℕ
next_wanted caller after waiting = number_of_first (λ e. nat_lt after e.0 && is_wanted_by caller e.1) waiting
