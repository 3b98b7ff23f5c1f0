-- What tests of numbers tell.
use Rattle.std.proofs.Common.{◌≡◌, ℕ, ◌≤◌, true, rules, nat_le, Result, Ok, Err, OnErr}

pub le_from : (a b : ℕ) → nat_le a b ≡ true → a ≤ b
le_from a b is = search (rules, is)

pub le_to : (a b : ℕ) → a ≤ b → nat_le a b ≡ true
le_to a b is = search (rules, is)

-- what holds is said of an error too
pub on_err_of : {T E : Type 0} (result : Result T E) (P : Type 0) → P → OnErr result P
on_err_of (Ok value) P proof = tt
on_err_of (Err error) P proof = proof
