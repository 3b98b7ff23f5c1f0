-- A field `name:value` of a head, and what its value says (LSP 3.17, "Base Protocol", "Header Part").
use Rattle.std.specs.Prelude.{ℕ, ◌+◌, ◌-◌, Bool, false, not, ◌&&◌, ◌||◌, List, [], ◌∷◌, length, take, drop, reverse, Option, Some, None, nat_lt, nat_le, ◌==◌, if◌then◌else◌, option_map, position, codes, bytes_eq, slice_index, slice_range}
use Rattle.std.specs.List.{list_all, list_any, before_first}
use Rattle.std.specs.Char.{is_ascii_alphanumeric, is_ascii_digit}
use Rattle.std.specs.Str.{str_to_ascii_lowercase}
use Rattle.std.specs.Str.Parse.{digits_value}
use Rattle.lsp_frames.specs.declared.limits.TheConstants.{LONGEST_NUMBER}

-- A name is of letters, digits and these signs.
abbrev pub is_name_byte : ℕ → Bool
is_name_byte b = is_ascii_alphanumeric b || list_any (λ sign. b == sign) (codes "!#$%&'*+-.^_|~`")

-- A value is of the bytes from the space to the tilde, and tabs.
abbrev pub is_value_byte : ℕ → Bool
is_value_byte b = (nat_le 32 b && nat_le b 126) || b == 9

abbrev pub is_colon : ℕ → Bool
is_colon b = b == 58

abbrev pub is_semicolon : ℕ → Bool
is_semicolon b = b == 59

-- a space or a tab
abbrev pub is_blank : ℕ → Bool
is_blank b = b == 32 || b == 9

abbrev pub without_leading_blanks : List ℕ → List ℕ
without_leading_blanks [] = []
without_leading_blanks (b ∷ bytes) = if is_blank b then without_leading_blanks bytes else b ∷ bytes

-- the same from the other end
abbrev pub without_trailing_blanks : List ℕ → List ℕ
without_trailing_blanks bytes = reverse (without_leading_blanks (reverse bytes))

-- the bytes without the blanks at both ends
unfoldable pub without_outer_blanks : List ℕ → List ℕ
without_outer_blanks bytes = without_trailing_blanks (without_leading_blanks bytes)

abbrev pub is_name : List ℕ → Bool
is_name bytes = nat_lt 0 (length bytes) && list_all is_name_byte bytes

-- the line's name and value, where its first colon is at `colon`
abbrev pub field_at : List ℕ → Option ℕ → Option (List ℕ × List ℕ)
field_at line None = None
field_at line (Some colon) = if is_name (take colon line) && list_all is_value_byte (drop (colon + 1) line)
    then Some (take colon line, without_outer_blanks (drop (colon + 1) line)) else None

-- the name and the trimmed value of a line `name:value`, if it is one
unfoldable pub field_of : List ℕ → Option (List ℕ × List ℕ)
field_of line = field_at line (position is_colon line)

-- The name is this one, in any case.
unfoldable pub is_named : List ℕ → List ℕ → Bool
is_named name wanted = bytes_eq (str_to_ascii_lowercase name) (str_to_ascii_lowercase wanted)

-- the number that 1 to 10 decimal digits write, leading zeros allowed
unfoldable pub length_of : List ℕ → Option ℕ
length_of value = if nat_lt 0 (length value) && nat_le (length value) LONGEST_NUMBER && list_all is_ascii_digit value
    then Some (digits_value 10 value) else None

-- more than 10 decimal digits, and nothing else
abbrev pub is_long_number : List ℕ → Bool
is_long_number value = nat_lt LONGEST_NUMBER (length value) && list_all is_ascii_digit value

-- what follows the first place where a word stands, in any case
unfoldable pub after_word : List ℕ → List ℕ → Option (List ℕ)
after_word word [] = None
after_word word (b ∷ bytes) = if is_named (take (length word) (b ∷ bytes)) word
    then Some (drop (length word) (b ∷ bytes)) else after_word word bytes

-- the bytes without a double quote at each end, where there are both
unfoldable pub without_quotes : List ℕ → List ℕ
without_quotes bytes = if nat_le 2 (length bytes) && slice_index bytes 0 == 34 && slice_index bytes (length bytes - 1) == 34
    then slice_range bytes 1 (length bytes - 1) else bytes

-- what `charset=` says in the value of a `Content-Type`, up to a semicolon
unfoldable pub charset_of : List ℕ → Option (List ℕ)
charset_of value = option_map (λ text. without_quotes (without_outer_blanks (before_first is_semicolon text))) (after_word (codes "charset=") value)

abbrev pub is_other_charset : Option (List ℕ) → Bool
is_other_charset None = false
is_other_charset (Some charset) = not (is_named charset (codes "utf-8") || is_named charset (codes "utf8"))

-- The value of a `Content-Type` names a charset, and another than UTF-8.
unfoldable pub is_foreign : List ℕ → Bool
is_foreign value = is_other_charset (charset_of value)
