-- Requests that nest deep, which a reader may refuse (RFC 8259, section 9).
use Rattle.std.specs.Prelude.{ℕ, ◌-◌, ◌==◌, Bool, false, ◌||◌}
use Rattle.conversation_reading.specs.declared.entry.Kind.{Kind}
use Rattle.conversation_reading.specs.declared.entry.Kind.TheVariants.{Request, Notification, Answer, BrokenAnswer, Invalid}
use Rattle.conversation_reading.specs.declared.nesting.TheConstants.{SAFE_DEPTH}
use Rattle.json.specs.Json.{Json, null, boolean, number, string, array, object, Items, no_items, item, Members, no_members, member}

-- whether more than so many arrays and objects stand in one another, a value itself counting as one
abbrev mutual
  pub nests_deeper : ℕ → Json → Bool
  nests_deeper depth null = false
  nests_deeper depth (boolean b) = false
  nests_deeper depth (number s) = false
  nests_deeper depth (string s) = false
  nests_deeper depth (array js) = depth == 0 || items_nest_deeper (depth - 1) js
  nests_deeper depth (object ms) = depth == 0 || members_nest_deeper (depth - 1) ms

  pub items_nest_deeper : ℕ → Items → Bool
  items_nest_deeper depth no_items = false
  items_nest_deeper depth (item j js) = nests_deeper depth j || items_nest_deeper depth js

  pub members_nest_deeper : ℕ → Members → Bool
  members_nest_deeper depth no_members = false
  members_nest_deeper depth (member k j ms) = nests_deeper depth j || members_nest_deeper depth ms

abbrev pub is_deep_request : Kind → Json → Bool
is_deep_request Request j = nests_deeper SAFE_DEPTH j
is_deep_request Notification j = false
is_deep_request Answer j = false
is_deep_request BrokenAnswer j = false
is_deep_request Invalid j = false
