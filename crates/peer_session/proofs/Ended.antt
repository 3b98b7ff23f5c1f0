-- Whether an input is over, and whether a unit is taken.
use Rattle.std.proofs.Common.{◌≡◌, ◌≤◌, ◌<◌, ℕ, nat_le, rules, refl, sym, true, false, true≢false, Option, Some, None, is_none}
use Rattle.peer_session.specs.declared.report.Close.{Close}
use Rattle.peer_session.specs.Events.{ended_at}
use Rattle.peer_session.specs.SessionState.{SessionState}

pub none-from : {A : Type 0} (o : Option A) → is_none o ≡ true → o ≡ None
none-from None is = refl
none-from (Some x) is = absurd (true≢false (sym is))

pub ended-again : (s : SessionState) (close : Close) (o : Option Close) → is_none o ≡ false → ended_at s close o ≡ s
ended-again s close None is = absurd (true≢false is)
ended-again s close (Some before) is = refl

pub nat_le-yes : (m n : ℕ) → m ≤ n → nat_le m n ≡ true
nat_le-yes m n le = search (rules, le)

pub nat_le-no : (m n : ℕ) → n < m → nat_le m n ≡ false
nat_le-no m n lt = search (rules, lt)
