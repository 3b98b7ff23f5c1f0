-- Texts of strings without escapes.
use Rattle.std.proofs.Common.{◌≡◌, ℕ, ◌+◌, ◌-◌, List, [], ◌∷◌, ◌++◌, length, take, drop, get_or, refl, ap, ◌∙◌, arith}
use Rattle.std.specs.List.{prefix_len}
use Rattle.std.proofs.lemmas.List.{drop_all}
use Rattle.json.specs.Print.{quoted, escape}
use Rattle.json.specs.Run.{is_plain}
use Rattle.json_texts.proofs.Placed.{byte_stands, plain_stands}

-- the text of a string that has no escape, of which the first quote and the last are seen
pub plain_within : (text : List ℕ) (last : ℕ) → get_or text 0 0 ≡ 34 → get_or text last 0 ≡ 34 → last + 1 ≡ length text → last ≡ 1 + prefix_len is_plain (drop 1 text)
    → text ≡ quoted (take (last - 1) (drop 1 text))
plain_within text last first quote whole is =
    let size : prefix_len is_plain (drop 1 text) ≡ last - 1 = omega (arith, is) in
    let inside : drop 1 text ≡ escape (take (prefix_len is_plain (drop 1 text)) (drop 1 text)) ++ drop last text = plain_stands text [] 1 1 last refl is in
    let ended : drop last text ≡ 34 ∷ [] = byte_stands text last 33 quote ∙ ap (λ l. 34 ∷ l) (drop_all (last + 1) text (omega (arith, whole))) in
    byte_stands text 0 33 first
    ∙ ap (λ l. 34 ∷ l) (inside ∙ ap (λ n. escape (take n (drop 1 text)) ++ drop last text) size ∙ ap (λ l. escape (take (last - 1) (drop 1 text)) ++ l) ended)
