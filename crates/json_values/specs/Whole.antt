-- Values in which every number is whole, which is a number with neither a fraction nor more than 64 bits.
use Rattle.std.specs.Prelude.{Option, Some, None, if◌then◌else◌}
use Rattle.serde_json.specs.Data.{Data}
use Rattle.serde_json.specs.Written.{has_float}

-- the value, where every number in it is whole
abbrev pub whole : Data → Option Data
whole d = if has_float d then None else Some d
