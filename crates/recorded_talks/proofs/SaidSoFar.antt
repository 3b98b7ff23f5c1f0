-- The bytes that were read so far, and those that the digits behind them say.
use Rattle.std.proofs.Common.{◌≡◌, ℕ, suc, ◌-◌, ◌≤◌, List, [], ◌∷◌, ◌++◌, Option, Some, None, option_map, length, take, drop, get_or, refl, sym, ap, ◌∙◌, append_assoc, arith}
use Rattle.std.specs.Prelude.{option_and_then}
use Rattle.std.proofs.lemmas.Grind.{common_steps}
use Rattle.recorded_talks.specs.Digits.{byte_of, bytes_of}

abbrev pub behind : List ℕ → Option (List ℕ) → Option (List ℕ)
behind read said = option_map (λ bytes. read ++ bytes) said

one_more : (read : List ℕ) (byte : ℕ) (said : Option (List ℕ)) → behind (read ++ byte ∷ []) said ≡ behind read (option_map (λ bytes. byte ∷ bytes) said)
one_more read byte None = refl
one_more read byte (Some bytes) = ap (λ all. Some all) (append_assoc read (byte ∷ []) bytes)

all_of : (xs : List ℕ) → take (length xs) xs ≡ xs
all_of xs = grind (arith, common_steps)

pub two_more : (xs read read' : List ℕ) (byte : ℕ) (said : Option ℕ) (whole : Option (List ℕ)) → 2 ≤ length xs → said ≡ byte_of (get_or xs 0 0) (get_or xs 1 0) → said ≡ Some byte
    → read' ≡ read ++ byte ∷ [] → behind read (bytes_of xs) ≡ whole → behind read' (bytes_of (take (length xs - 2) (drop 2 xs))) ≡ whole
two_more [] read read' byte said whole some is there more before = absurd (let e : 2 ≤ 0 = some in omega (arith, e))
two_more (high ∷ []) read read' byte said whole some is there more before = absurd (let e : 2 ≤ 1 = some in omega (arith, e))
two_more (high ∷ low ∷ digits) read read' byte said whole some is there more before =
    let count : suc (suc (length digits)) - 2 ≡ length digits = omega arith in
    let same : take (suc (suc (length digits)) - 2) digits ≡ digits = ap (λ n. take n digits) count ∙ all_of digits in
    ap (λ r. behind r (bytes_of (take (suc (suc (length digits)) - 2) digits))) more ∙ ap (λ ds. behind (read ++ byte ∷ []) (bytes_of ds)) same ∙ one_more read byte (bytes_of digits)
    ∙ ap (λ (o : Option ℕ). behind read (option_and_then (λ byte. option_map (λ bytes. byte ∷ bytes) (bytes_of digits)) o)) (sym there ∙ is) ∙ before
