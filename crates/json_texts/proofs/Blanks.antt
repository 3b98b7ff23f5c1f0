-- Blanks are passed over, and integers with their commas.
use Rattle.std.proofs.Common.{◌≡◌, ℕ, suc, ◌+◌, ◌-◌, ◌<◌, ◌≤◌, Bool, true, false, not, ◌==◌, cond, List, [], ◌∷◌, ◌++◌, length, take, drop, get_or, refl, sym, ap, ◌∙◌, subst, arith, append_assoc, append-nil, drop-drop, eqb-true}
use Rattle.std.proofs.lemmas.Bool.{false≢true}
use Rattle.std.specs.List.{prefix_len, AllByRecursion}
use Rattle.json.specs.Word.{is_space, is_operator}
use Rattle.json.proofs.Printed.Numbers.{lex-number}
use Rattle.json.specs.Token.{number}
use Rattle.json.specs.Lex.{Lexeme, token, comma, lex, between}
use Rattle.json.specs.Print.{IsNumber}
use Rattle.json_texts.specs.Compacting.{ReadsSame, With}
use Rattle.json_texts.specs.Naturals.{with_commas}
use Rattle.json_texts.proofs.Lexed.{past_blank, past_operator}
use Rattle.json_texts.proofs.Placed.{byte_stands, byte_within, part_is, part_stands}

one_space : (x : ℕ) (xs : List ℕ) → is_space x ≡ true → lex between (x ∷ xs) ≡ lex between xs
unfolding lex
one_space x xs is =
    let past = past_blank (x ∷ xs) [] [] 0 0 false (omega arith) is (record { lexemes = []; behind = refl; reads = λ rest ended. refl }) refl in
    let none : past.lexemes ≡ [] = sym (append-nil past.lexemes) ∙ sym (past.reads [] (λ e. absurd (false≢true e))) in
    past.behind ∙ ap (λ l. l ++ lex between xs) none

space_run : (p : Bool) (x n : ℕ) (xs : List ℕ) → p ≡ is_space x → lex between xs ≡ lex between (drop n xs) → lex between (x ∷ xs) ≡ lex between (drop (cond p (1 + n) 0) (x ∷ xs))
space_run false x n xs e ih = refl
space_run true x n xs e ih = let next : suc n ≡ 1 + n = omega arith in one_space x xs (sym e) ∙ ih ∙ ap (λ k. lex between (drop k (x ∷ xs))) next

lex-spaces : (xs : List ℕ) → lex between xs ≡ lex between (drop (prefix_len is_space xs) xs)
lex-spaces [] = refl
lex-spaces (x ∷ xs) = space_run (is_space x) x (prefix_len is_space xs) xs refl (lex-spaces xs)

blanks_read : (text : List ℕ) (from end : ℕ) → end ≡ from + prefix_len is_space (drop from text) → lex between (drop from text) ≡ lex between (drop end text)
blanks_read text from end is = lex-spaces (drop from text) ∙ ap (lex between) (drop-drop (prefix_len is_space (drop from text)) from text ∙ ap (λ n. drop n text) (sym is))

past_blanks : (text out : List ℕ) (from end : ℕ) (f : Bool) → end ≡ from + prefix_len is_space (drop from text) → ReadsSame text out from f → ReadsSame text out end f
past_blanks text out from end f is r = record {
  lexemes = r.lexemes;
  behind = r.behind ∙ ap (λ l. r.lexemes ++ l) (blanks_read text from end is);
  reads = r.reads;
}

-- ---- spaces, which are some of the blanks

abbrev pub is_32 : ℕ → Bool
is_32 x = not (not (x == 32))

space_first : (b : Bool) (x n : ℕ) (xs : List ℕ) → (x == 32) ≡ b → prefix_len is_space xs ≡ n + prefix_len is_space (drop n xs)
    → prefix_len is_space (x ∷ xs) ≡ cond (not (not b)) (1 + n) 0 + prefix_len is_space (drop (cond (not (not b)) (1 + n) 0) (x ∷ xs))
space_first false x n xs e ih = let none : prefix_len is_space (x ∷ xs) ≡ 0 + prefix_len is_space (x ∷ xs) = omega arith in none
space_first true x n xs e ih =
    let next : suc n ≡ 1 + n = omega arith in
    subst (λ k. prefix_len is_space (x ∷ xs) ≡ k + prefix_len is_space (drop k (x ∷ xs))) next
    (ap (λ b. cond b (1 + prefix_len is_space xs) 0) (ap is_space (eqb-true x 32 e)) ∙ omega (arith, ih))

spaces_first : (xs : List ℕ) → prefix_len is_space xs ≡ prefix_len is_32 xs + prefix_len is_space (drop (prefix_len is_32 xs) xs)
spaces_first [] = refl
spaces_first (x ∷ xs) = space_first (x == 32) x (prefix_len is_32 xs) xs refl (spaces_first xs)

pub spaces_passed : (text : List ℕ) (from end : ℕ) → from + prefix_len is_32 (drop from text) ≡ end
    → from + prefix_len is_space (drop from text) ≡ end + prefix_len is_space (drop end text)
spaces_passed text from end is =
    let n = prefix_len is_32 (drop from text) in
    let all : prefix_len is_space (drop from text) ≡ n + prefix_len is_space (drop end text) =
    spaces_first (drop from text) ∙ ap (λ l. n + prefix_len is_space l) (drop-drop n from text ∙ ap (λ k. drop k text) is) in
    omega (arith, all, is)

pub spaces_so_far : (text : List ℕ) (from at : ℕ) → from + prefix_len is_32 (drop from text) ≡ at + prefix_len is_32 (drop at text)
    → from + prefix_len is_space (drop from text) ≡ at + prefix_len is_space (drop at text)
spaces_so_far text from at is = spaces_passed text from (at + prefix_len is_32 (drop at text)) is ∙ sym (spaces_passed text at (at + prefix_len is_32 (drop at text)) refl)

-- integers without a sign that were appended, with a comma behind each, and are read as the text from one place to another
abbrev pub Reads : List ℕ → ℕ → ℕ → List ℕ → List ℕ → Type 0
Reads text from end before after = (lexemes : List Lexeme) × (numbers : List (List ℕ)) × AllByRecursion IsNumber numbers × (after ≡ before ++ with_commas numbers) ×
    (lex between (drop from text) ≡ lexemes ++ lex between (drop end text)) × ((rest : List ℕ) → lex between (with_commas numbers ++ rest) ≡ lexemes ++ lex between rest)

pub nothing_read : (text before : List ℕ) (from : ℕ) → Reads text from from before before
nothing_read text before from = ([], [], tt, sym (append-nil before), refl, λ rest. refl)

pub reads_on : (text w new : List ℕ) (from end : ℕ) → ReadsSame text w from false → Reads text from end w new → ReadsSame text new end false
reads_on text w new from end r (lexemes, numbers, are, is, behind, reads) =
    let added = with_commas numbers in
    record {
      lexemes = r.lexemes ++ lexemes;
      behind = r.behind ∙ ap (λ l. r.lexemes ++ l) behind ∙ sym (append_assoc r.lexemes lexemes (lex between (drop end text)));
      reads = λ rest ended. ap (λ l. lex between (l ++ rest)) is ∙ ap (lex between) (append_assoc w added rest) ∙ r.reads (added ++ rest) (λ e. absurd (false≢true e))
          ∙ ap (λ l. r.lexemes ++ l) (reads rest) ∙ sym (append_assoc r.lexemes lexemes (lex between rest));
    }

comma_read : (xs : List ℕ) → lex between (44 ∷ xs) ≡ comma ∷ lex between xs
unfolding lex
comma_read xs = refl

all_and_one : (ns : List (List ℕ)) (n : List ℕ) → AllByRecursion IsNumber ns → IsNumber n → AllByRecursion IsNumber (ns ++ n ∷ [])
all_and_one [] n are is = (is, tt)
all_and_one (m ∷ ns) n are is = (are.0, all_and_one ns n are.1 is)

with_one_more : (ns : List (List ℕ)) (n : List ℕ) → with_commas (ns ++ n ∷ []) ≡ with_commas ns ++ (n ++ 44 ∷ [])
with_one_more [] n = refl
with_one_more (m ∷ ns) n = ap (λ l. m ++ 44 ∷ l) (with_one_more ns n) ∙ sym (append_assoc m (44 ∷ with_commas ns) (n ++ 44 ∷ []))

-- an integer without a sign, a comma, and the blanks behind it
pub one_more_natural : (text before was now : List ℕ) (from at end next : ℕ) → at < end → end < length text → IsNumber (take (end - at) (drop at text)) → get_or text end 0 ≡ 44
    → Reads text from at before was → now ≡ was ++ take (end + 1 - at) (drop at text) → next ≡ end + 1 + prefix_len is_space (drop (end + 1) text) → Reads text from next before now
one_more_natural text before was now from at end next below within is comma_there (lexemes, numbers, all, are, behind, reads) same blanks =
    let n = take (end - at) (drop at text) in
    let its = token (number n) ∷ comma ∷ [] in
    let part = n ++ 44 ∷ [] in
    let added = with_commas numbers in
    let there : drop end text ≡ 44 ∷ drop (end + 1) text = byte_stands text end 43 comma_there in
    let stands : drop at text ≡ part ++ drop (end + 1) text = part_stands text at end (omega (arith, below)) ∙ ap (λ l. n ++ l) there ∙ sym (append_assoc n (44 ∷ []) (drop (end + 1) text)) in
    let read : (rest : List ℕ) → lex between (part ++ rest) ≡ its ++ lex between rest =
    λ rest. ap (lex between) (append_assoc n (44 ∷ []) rest) ∙ lex-number n (44 ∷ rest) is refl ∙ ap (λ l. token (number n) ∷ l) (comma_read rest) in (
      lexemes ++ its,
      numbers ++ n ∷ [],
      all_and_one numbers n all is,
      same ∙ ap (λ l. was ++ l) (part_is text part at (end + 1) stands (omega (arith, below)) (omega (arith, within))) ∙ ap (λ l. l ++ part) are ∙ append_assoc before added part
          ∙ ap (λ l. before ++ l) (sym (with_one_more numbers n)),
      behind ∙ ap (λ l. lexemes ++ l) (ap (lex between) stands ∙ read (drop (end + 1) text) ∙ ap (λ l. its ++ l) (blanks_read text (end + 1) next blanks)) ∙ sym (append_assoc lexemes its (lex between (drop next text))),
      λ rest. ap (λ l. lex between (l ++ rest)) (with_one_more numbers n) ∙ ap (lex between) (append_assoc added part rest) ∙ reads (part ++ rest) ∙ ap (λ l. lexemes ++ l) (read rest)
          ∙ sym (append_assoc lexemes its (lex between rest)),
    )

-- the blanks that begin there, where what was kept before them is the same
pub past_gap : (text w v : List ℕ) (from end : ℕ) (f : Bool) → end ≡ from + prefix_len is_space (drop from text) → v ≡ w → ReadsSame text w from f → ReadsSame text v end f
past_gap text w v from end f is same r = subst (λ u. ReadsSame text u end f) (sym same) (past_blanks text w from end f is r)

-- behind what ends a value anything may be written
pub weaker : (text w : List ℕ) (at : ℕ) → ReadsSame text w at false → ReadsSame text w at true
weaker text w at r = record { lexemes = r.lexemes; behind = r.behind; reads = λ rest ended. r.reads rest (λ e. absurd (false≢true e)) }

pub byte_read : (text out : List ℕ) (kept at c : ℕ) (f : Bool) → kept ≤ at → get_or text at 0 ≡ suc c → is_operator (suc c) ≡ true → ReadsSame text (With out text kept at) at f
    → ReadsSame text (With out text kept (at + 1)) (at + 1) false
byte_read text out kept at c f below is operator r = past_operator text out kept at f below (byte_within text at c is) (ap is_operator is ∙ operator) r
