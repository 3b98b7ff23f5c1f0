-- Numbers that a reader may refuse, since no float of 64 bits is near them (RFC 8259, section 6).
use Rattle.std.specs.Prelude.{ℕ, List, Bool, false, ◌||◌}
use Rattle.std.specs.Option.{option_map_or}
use Rattle.std.specs.Float.{binary64, float_is_infinite}
use Rattle.fast_float.specs.Parse.{parse_float}
use Rattle.json.specs.Json.{Json, null, boolean, number, string, array, object, Items, no_items, item, Members, no_members, member}

-- the nearest float is infinite
abbrev pub is_huge : List ℕ → Bool
is_huge digits = option_map_or float_is_infinite (parse_float binary64 digits) false

-- whether a number anywhere in a value is
abbrev mutual
  pub has_huge : Json → Bool
  has_huge null = false
  has_huge (boolean b) = false
  has_huge (number s) = is_huge s
  has_huge (string s) = false
  has_huge (array js) = items_have_huge js
  has_huge (object ms) = members_have_huge ms

  pub items_have_huge : Items → Bool
  items_have_huge no_items = false
  items_have_huge (item j js) = has_huge j || items_have_huge js

  pub members_have_huge : Members → Bool
  members_have_huge no_members = false
  members_have_huge (member k j ms) = has_huge j || members_have_huge ms
