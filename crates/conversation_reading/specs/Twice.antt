-- Members of a message that stand twice. What a reader makes of them is unpredictable (RFC 8259, section 4): most take the last
-- one, others the first, and some refuse the whole text.
use Rattle.std.specs.Prelude.{ℕ, ◌||◌, List, Bool, false, Option, Some, None, codes, if◌then◌else◌}
use Rattle.std.specs.Str.{bytes_eq}
use Rattle.json.specs.Json.{Json, null, boolean, number, string, array, object, Members, no_members, member}

-- ---- of one name

abbrev pub has_member : List ℕ → Members → Bool
has_member name no_members = false
has_member name (member k j ms) = bytes_eq k name || has_member name ms

abbrev pub is_member_twice : List ℕ → Members → Bool
is_member_twice name no_members = false
is_member_twice name (member k j ms) = if bytes_eq k name then has_member name ms else is_member_twice name ms

abbrev pub is_twice : List ℕ → Json → Bool
is_twice name null = false
is_twice name (boolean b) = false
is_twice name (number s) = false
is_twice name (string s) = false
is_twice name (array js) = false
is_twice name (object ms) = is_member_twice name ms

-- the first member of that name
abbrev pub first_member : List ℕ → Members → Option Json
first_member name no_members = None
first_member name (member k j ms) = if bytes_eq k name then Some j else first_member name ms

abbrev pub first_of : List ℕ → Json → Option Json
first_of name null = None
first_of name (boolean b) = None
first_of name (number s) = None
first_of name (string s) = None
first_of name (array js) = None
first_of name (object ms) = first_member name ms

-- ---- of the members of a message (JSON-RPC 2.0, sections 4 and 5), not of what is inside them

abbrev pub has_twice : Json → Bool
has_twice j =
    is_twice (codes "jsonrpc") j || is_twice (codes "id") j || is_twice (codes "method") j || is_twice (codes "params") j || is_twice (codes "result") j
    || is_twice (codes "error") j
