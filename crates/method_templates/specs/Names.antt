-- The rules for names and pointers.
use Rattle.std.specs.Prelude.{ℕ, List, [], ◌∷◌, length, codes, Bool, true, false, not, ◌&&◌, ◌||◌, ◌==◌, ◌-◌, nat_le, nat_eq, slice_index, if◌then◌else◌}
use Rattle.std.specs.List.{list_all, starts_with}
use Rattle.std.specs.Str.{bytes_eq}
use Rattle.method_templates.specs.declared.limits.TheConstants.{LONGEST_NAME, LONGEST_REGISTER}

-- 1 to 128 bytes
abbrev pub is_name_length : ℕ → Bool
is_name_length n = nat_le 1 n && nat_le n LONGEST_NAME

-- a method's name: 1 to 128 bytes, not begun by `rpc.` (JSON-RPC 2.0, section 4.3) or by `$/` (LSP 3.17, "$ Notifications and Requests")
abbrev pub is_method_name : List ℕ → Bool
is_method_name s = is_name_length (length s) && not (starts_with nat_eq s (codes "rpc.")) && not (starts_with nat_eq s (codes "$/"))

-- a lower-case letter
abbrev pub is_lower : ℕ → Bool
is_lower b = nat_le 97 b && nat_le b 122

-- or a digit or `_`
abbrev pub is_register_byte : ℕ → Bool
is_register_byte b = is_lower b || nat_le 48 b && nat_le b 57 || b == 95

-- of these, one byte less than a register may have
abbrev pub is_register_rest : List ℕ → Bool
is_register_rest s = nat_le (length s) (LONGEST_REGISTER - 1) && list_all is_register_byte s

-- `params` and `null` mean something else in a template
abbrev pub is_taken : List ℕ → Bool
is_taken s = bytes_eq s (codes "params") || bytes_eq s (codes "null")

-- a register that a step may set: a lower-case letter and up to 31 bytes more, not taken
abbrev pub is_register_name : List ℕ → Bool
is_register_name [] = false
is_register_name (b ∷ s) = is_lower b && is_register_rest s && not (is_taken (b ∷ s))

-- each `~` of a JSON Pointer is followed by `0` or `1` (RFC 6901, section 3)
abbrev pub is_escaped : List ℕ → Bool
is_escaped [] = true
is_escaped (b ∷ s) = (if b == 126 then slice_index s 0 == 48 || slice_index s 0 == 49 else true) && is_escaped s
