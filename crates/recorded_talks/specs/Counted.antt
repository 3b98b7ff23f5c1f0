-- How many findings there are of each level. Counting stops at the greatest number of 64 bits.
use Rattle.std.specs.Prelude.{ℕ, ◌+◌, ◌-◌, ◌^◌, min}
use Rattle.conversation_rules.specs.declared.level.Level.{Level}
use Rattle.conversation_rules.specs.declared.level.Level.TheVariants.{Must, Should, Note}
use Rattle.recorded_talks.specs.declared.counts.Counts.{Counts}

abbrev pub none : Counts
none = record { must = 0; should = 0; note = 0 }

abbrev pub one_more : ℕ → ℕ
one_more count = min (count + 1) (2 ^ 64 - 1)

abbrev pub with_one : Level → Counts → Counts
with_one Must counts = record counts { must = one_more counts.must }
with_one Should counts = record counts { should = one_more counts.should }
with_one Note counts = record counts { note = one_more counts.note }
