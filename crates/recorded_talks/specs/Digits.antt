-- Bytes by their hexadecimal digits, as a recording has them.
use Rattle.std.specs.Prelude.{ℕ, ◌+◌, ◌-◌, ◌*◌, ◌&&◌, nat_le, List, [], ◌∷◌, Option, Some, None, option_map, option_and_then, if◌then◌else◌}

-- 0 to 9, a to f and A to F
abbrev pub digit_of : ℕ → Option ℕ
digit_of c =
    if nat_le 48 c && nat_le c 57 then Some (c - 48) else (
    if nat_le 97 c && nat_le c 102 then Some (c - 97 + 10) else (
    if nat_le 65 c && nat_le c 70 then Some (c - 65 + 10) else None))

-- two digits, the greater one first
abbrev pub byte_of : ℕ → ℕ → Option ℕ
byte_of high low = option_and_then (λ h. option_map (λ l. h * 16 + l) (digit_of low)) (digit_of high)

abbrev pub bytes_of : List ℕ → Option (List ℕ)
bytes_of [] = Some []
bytes_of (high ∷ []) = None
bytes_of (high ∷ low ∷ digits) = option_and_then (λ byte. option_map (λ bytes. byte ∷ bytes) (bytes_of digits)) (byte_of high low)
