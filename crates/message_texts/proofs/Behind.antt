-- Parts of a text, written one behind another.
use Rattle.std.proofs.Common.{◌≡◌, ℕ, List, ◌++◌, ap, sym, ◌∙◌, append_assoc}

-- two parts
pub two_parts : (old a b one new : List ℕ) → one ≡ old ++ a → new ≡ one ++ b → new ≡ old ++ (a ++ b)
two_parts old a b one new first second = second ∙ ap (λ s. s ++ b) first ∙ append_assoc old a b

-- three, four and five
pub three_parts : (old a b c one two new : List ℕ) → one ≡ old ++ a → two ≡ one ++ b → new ≡ two ++ c → new ≡ old ++ (a ++ b ++ c)
three_parts old a b c one two new first second third = two_parts old (a ++ b) c two new (two_parts old a b one two first second) third

pub four_parts : (old a b c d one two three new : List ℕ) → one ≡ old ++ a → two ≡ one ++ b → three ≡ two ++ c → new ≡ three ++ d → new ≡ old ++ (a ++ b ++ c ++ d)
four_parts old a b c d one two three new first second third fourth = two_parts old (a ++ b ++ c) d three new (three_parts old a b c one two three first second third) fourth

pub five_parts : (old a b c d e one two three four new : List ℕ) → one ≡ old ++ a → two ≡ one ++ b → three ≡ two ++ c → four ≡ three ++ d → new ≡ four ++ e →
    new ≡ old ++ (a ++ b ++ c ++ d ++ e)
five_parts old a b c d e one two three four new first second third fourth fifth =
    two_parts old (a ++ b ++ c ++ d) e four new (four_parts old a b c d one two three four first second third fourth) fifth

-- a head, the parts of a middle, and an end that is in parts itself
pub end_in_parts : (old a b c d e one two new : List ℕ) → one ≡ old ++ a → two ≡ one ++ b → new ≡ two ++ (c ++ d ++ e) → new ≡ old ++ (a ++ b ++ c ++ d ++ e)
end_in_parts old a b c d e one two new first second third =
    three_parts old a b (c ++ d ++ e) one two new first second third
    ∙ ap (λ s. old ++ s) (sym (append_assoc (a ++ b) (c ++ d) e) ∙ ap (λ s. s ++ e) (sym (append_assoc (a ++ b) c d)))
