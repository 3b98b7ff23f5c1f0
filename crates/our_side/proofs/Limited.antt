-- What holds of a reading holds of what the judge takes of it, where it holds of what is over its limits.
use Rattle.std.proofs.Common.{nat_lt, Bool, true, false, if◌then◌else◌, length}
use Rattle.conversation_reading.specs.Strictly.{limited}
use Rattle.conversation_reading.specs.declared.reading.Reading.{Reading}
use Rattle.conversation_reading.specs.declared.reading.Reading.TheVariants.{Foreign, NotText, NotJson, OverLimits, HalfPair, Single, Array}
use Rattle.conversation_reading.specs.declared.reading.TheConstants.{MOST_ENTRIES_IN}

either : (P : Reading → Type 0) (b : Bool) (reading : Reading) → P OverLimits → P reading → P (if b then OverLimits else reading)
either P true reading over is = over
either P false reading over is = is

pub limited_keeps : (P : Reading → Type 0) → P OverLimits → (reading : Reading) → P reading → P (limited reading)
limited_keeps P over Foreign is = is
limited_keeps P over NotText is = is
limited_keeps P over NotJson is = is
limited_keeps P over OverLimits is = is
limited_keeps P over HalfPair is = is
limited_keeps P over (Single entry) is = is
limited_keeps P over (Array entries) is = either P (nat_lt MOST_ENTRIES_IN (length entries)) (Array entries) over is
