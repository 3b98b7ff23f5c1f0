-- Names that are told by their bytes.
use Rattle.std.proofs.Common.{◌≡◌, ℕ, ◌+◌, ◌-◌, List, [], ◌∷◌, ◌++◌, length, take, drop, codes, refl, subst, ap, ◌∙◌, drop-drop}
use Rattle.std.proofs.lemmas.List.{take_rest}
use Rattle.json.specs.Lex.{token, colon, lex, between}
use Rattle.json.specs.Text.{content}
use Rattle.json.specs.Token.{string}
use Rattle.value_reading.specs.Lexed.{Lexed}

pub lex-version : (xs : List ℕ) → lex between (codes "\"jsonrpc\":" ++ xs) ≡ token (string (codes "jsonrpc")) ∷ colon ∷ lex between xs
unfolding lex content
lex-version xs = refl

pub lex-method : (xs : List ℕ) → lex between (codes "\"method\":" ++ xs) ≡ token (string (codes "method")) ∷ colon ∷ lex between xs
unfolding lex content
lex-method xs = refl

pub lex-params : (xs : List ℕ) → lex between (codes "\"params\":" ++ xs) ≡ token (string (codes "params")) ∷ colon ∷ lex between xs
unfolding lex content
lex-params xs = refl

pub lex-result : (xs : List ℕ) → lex between (codes "\"result\":" ++ xs) ≡ token (string (codes "result")) ∷ colon ∷ lex between xs
unfolding lex content
lex-result xs = refl

pub lex-id : (xs : List ℕ) → lex between (codes "\"id\":" ++ xs) ≡ token (string (codes "id")) ∷ colon ∷ lex between xs
unfolding lex content
lex-id xs = refl

-- a name that stands there with its quotes and its colon
pub named : (text word name : List ℕ) (at : ℕ) → ((xs : List ℕ) → lex between (word ++ xs) ≡ token (string name) ∷ colon ∷ lex between xs) → drop at text ≡ word ++ drop (length word) (drop at text)
    → length word ≡ length name + 3 → Lexed text at (token (string name) ∷ colon ∷ []) (at + (length name + 3))
named text word name at lexes begins size =
    ap (lex between) begins ∙ lexes (drop (length word) (drop at text))
    ∙ ap (λ l. token (string name) ∷ colon ∷ lex between l) (drop-drop (length word) at text ∙ ap (λ n. drop (at + n) text) size)

-- the rest of the text from there on
pub from_rest : (text word : List ℕ) (at : ℕ) → take (length text - at) (drop at text) ≡ word ++ drop (length word) (take (length text - at) (drop at text)) → drop at text ≡ word ++ drop (length word) (drop at text)
from_rest text word at is = subst (λ r. r ≡ word ++ drop (length word) r) (take_rest text at) is
