-- How many calls the host has closed: it answered them, or closed them without an answer.
use Rattle.std.specs.Prelude.{ℕ, ◌+◌, [], ◌∷◌}
use Rattle.connection_history.specs.History.{Happening, came, called, called_all, noticed, withdrew, answered, ended, History}

abbrev pub closed_at : Happening → ℕ
closed_at (came o u) = 0
closed_at (called n o) = 0
closed_at (called_all n os) = 0
closed_at (noticed o) = 0
closed_at (withdrew by k) = 0
closed_at (answered n a) = 1
closed_at (ended close) = 0

abbrev pub closed_count : History → ℕ
closed_count [] = 0
closed_count (h ∷ past) = closed_count past + closed_at h
