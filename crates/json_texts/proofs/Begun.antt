-- A text that begins with a word, part by part.
use Rattle.std.proofs.Common.{◌≡◌, ℕ, ◌+◌, ◌-◌, List, ◌++◌, length, take, drop, Bool, true, false, refl, sym, ap, ◌∙◌, arith, append_assoc, length-drop, drop-drop, take-append-drop}
use Rattle.std.specs.Prelude.{◌==◌}
use Rattle.std.specs.List.{starts_with}
use Rattle.std.proofs.lemmas.Bool.Decides.{Decides-eqb}
use Rattle.std.proofs.lemmas.List.{take_all}
use Rattle.std.proofs.lemmas.Slice.Eq.{starts_is}
use Rattle.std.proofs.Math.Seq.{drop-append_seam}

same_truths : (a b : Bool) → (a ≡ true → b ≡ true) → (b ≡ true → a ≡ true) → a ≡ b
same_truths true b f g = sym (f refl)
same_truths false true f g = g refl
same_truths false false f g = refl

pub whole_rest : (text : List ℕ) (at : ℕ) → take (length text - at) (drop at text) ≡ drop at text
whole_rest text at = take_all (length text - at) (drop at text) (omega (arith, length-drop at text))

-- what begins with one word and goes on with another, begins with both
pub begins_both : (text first others : List ℕ) (n : ℕ) → length first ≡ n → take n text ≡ first → starts_with ◌==◌ (drop n text) others ≡ starts_with ◌==◌ text (first ++ others)
begins_both text first others n size is =
    let rest = drop n text in
    let one = starts_is Decides-eqb rest others (starts_with ◌==◌ rest others) refl in
    let both = starts_is Decides-eqb text (first ++ others) (starts_with ◌==◌ text (first ++ others)) refl in
    let whole : text ≡ first ++ rest = sym (take-append-drop n text) ∙ ap (λ xs. xs ++ rest) is in
    same_truths _ _
    (λ t. both.1 (drop (length others) rest) (whole ∙ ap (λ xs. first ++ xs) (one.0 t) ∙ sym (append_assoc first others (drop (length others) rest))))
    (λ t.
    let more = drop (length (first ++ others)) text in
    let stands : text ≡ first ++ (others ++ more) = both.0 t ∙ append_assoc first others more in
    one.1 more (ap (λ xs. drop n xs) stands ∙ ap (λ k. drop k (first ++ (others ++ more))) (sym size) ∙ drop-append_seam first (others ++ more)))

-- and stands there
pub stands_both : (text first others : List ℕ) (n : ℕ) → take n text ≡ first → take (length text - n) (drop n text) ≡ others ++ drop (length others) (take (length text - n) (drop n text))
    → text ≡ first ++ (others ++ drop (n + length others) text)
stands_both text first others n is there =
    let behind : drop n text ≡ others ++ drop (length others) (drop n text) = sym (whole_rest text n) ∙ there ∙ ap (λ rest. others ++ drop (length others) rest) (whole_rest text n) in
    sym (take-append-drop n text) ∙ ap (λ xs. xs ++ drop n text) is ∙ ap (λ ys. first ++ ys) (behind ∙ ap (λ r. others ++ r) (drop-drop (length others) n text))
