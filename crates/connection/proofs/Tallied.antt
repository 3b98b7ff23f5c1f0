-- Counts of 64 bits, and exact ones.
use Rattle.std.proofs.Common.{◌≡◌, ℕ, ◌+◌, ap, arith}
use Rattle.connection_history.specs.Counts.{capped}
use Rattle.connection_steps.specs.Tallies as exact
use Rattle.connection_steps.specs.Tallies.{plus, plus_answers}
use Rattle.connection_desk.specs.declared.tally.Tally.{Tally}
use Rattle.connection_desk.specs.Desks.{capped_tally, with_counts, with_answers}

abbrev tally : ℕ → ℕ → ℕ → ℕ → ℕ → Tally
tally requests answers unreadable invalid ignored =
    record { requests = requests; answers = answers; unreadable = unreadable; invalid = invalid; ignored = ignored }

-- some, and then more
more : (n k : ℕ) → capped (capped n + k) ≡ capped (n + k)
more n k = omega arith

pub answers_capped : (count : ℕ) (t : exact.Tally) → with_answers count (capped_tally t) ≡ capped_tally (plus_answers count t)
answers_capped count t = ap (λ n. tally (capped t.requests) n (capped t.unreadable) (capped t.invalid) (capped t.ignored)) (more t.answers count)

pub counts_capped : (adds t : exact.Tally) → with_counts adds (capped_tally t) ≡ capped_tally (plus t adds)
counts_capped adds t = λ i.
    tally (more t.requests adds.requests i) (more t.answers adds.answers i) (more t.unreadable adds.unreadable i) (more t.invalid adds.invalid i) (more t.ignored adds.ignored i)
