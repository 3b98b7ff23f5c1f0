-- What a thread learns of its waits.
use Rattle.std.specs.Prelude.{ℕ, ◌+◌, ◌-◌, ◌^◌, min, nat_lt, Bool, true, false, if◌then◌else◌}
use Rattle.rpc_peer.specs.declared.patience.Patience.{Patience}
use Rattle.rpc_peer.specs.declared.patience.TheConstants.{FEW_LOOKS, SLEEPS_BEFORE_A_TRIAL}

-- a count that stays at the greatest value of its type
abbrev pub one_more : ℕ → ℕ
one_more n = min (n + 1) (2 ^ 32 - 1)

-- A look found something: all looks are made before the next sleep.
abbrev pub after_a_look : Patience → Patience
after_a_look p = record p { looks = p.most; sleeps = 0 }

-- A sleep ended by something: few looks are made before the next one, but after so many such sleeps all of them, once.
abbrev pub after_a_sleep : Patience → Patience
after_a_sleep p =
    if nat_lt (one_more p.sleeps) SLEEPS_BEFORE_A_TRIAL
    then record p { looks = min p.most FEW_LOOKS; sleeps = one_more p.sleeps }
    else after_a_look p

-- The round has found something, at once, by a look, or after a sleep.
abbrev pub after_waiting : Patience → Patience
after_waiting p = if p.has_slept then after_a_sleep p else (if nat_lt 0 p.idle then after_a_look p else p)

abbrev pub after_finding : Patience → Patience
after_finding p = record (after_waiting p) { idle = 0; has_slept = false }

-- The round has found nothing: the thread has slept, or it looks again.
abbrev pub after_nothing : Patience → Bool → Patience
after_nothing p true = record p { has_slept = true }
after_nothing p false = record p { idle = one_more p.idle }
