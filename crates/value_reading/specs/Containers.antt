-- Data that hold other data: arrays and objects (RFC 8259, sections 4 and 5).
use Rattle.std.specs.Prelude.{Bool, true, false}
use Rattle.serde_json.specs.Data.{Data, null, boolean, number, string, array, object}

abbrev pub is_container : Data → Bool
is_container null = false
is_container (boolean b) = false
is_container (number n) = false
is_container (string s) = false
is_container (array ds) = true
is_container (object ms) = true
