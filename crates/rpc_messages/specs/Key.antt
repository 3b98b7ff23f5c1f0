-- Keys: the id of the t-th call that the handler of call entry n makes is the string `n.t`.
use Rattle.std.specs.Prelude.{◌≡◌, ◌≤◌, ℕ, List, ◌&&◌, ◌==◌, nat_le, if◌then◌else◌, Option, Some, None, option_and_then, decimal}
use Rattle.std.specs.List.{before_first, after_first}
use Rattle.std.specs.Str.{bytes_eq}
use Rattle.std.specs.Str.Parse.{digits_value}
use Rattle.message_texts.specs.Texts.{pair_text}
use Rattle.rpc_messages.specs.declared.key.TheConstants.{MOST_NUMBERS, MOST_TURNS}

-- the byte between the two numbers, `.`
abbrev pub dot : ℕ
dot = 46

-- the key of call t of handler n, both in decimal
abbrev pub key_text : ℕ → ℕ → List ℕ
key_text n t = pair_text n t

-- the number, `most` at most, that the text writes in decimal: with digits alone, and without leading zeros, since it has
-- to be what `decimal` writes
abbrev pub decimal_number : ℕ → List ℕ → Option ℕ
decimal_number most s = if nat_le (digits_value 10 s) most && bytes_eq (decimal (digits_value 10 s)) s then Some (digits_value 10 s) else None

-- the handler's number and the turn that a text is the key of
abbrev pub key_of : List ℕ → Option (ℕ × ℕ)
key_of text =
    option_and_then (λ n. option_and_then (λ t. if t == 0 then None else Some (n, t)) (decimal_number MOST_TURNS (after_first (λ b. b == dot) text)))
    (decimal_number MOST_NUMBERS (before_first (λ b. b == dot) text))

-- the text is the key of call t of handler n
pub record IsKeyOf (text : List ℕ) (n t : ℕ) : Type 0 where
  pub written : text ≡ key_text n t
  pub number_in_range : n ≤ MOST_NUMBERS
  pub turn_from_one : 1 ≤ t
  pub turn_in_range : t ≤ MOST_TURNS
