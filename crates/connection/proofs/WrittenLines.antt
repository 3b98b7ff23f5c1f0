-- The lines of what is written are its texts, and so are the contents that come by themselves.
use Rattle.std.proofs.Common.{◌≡◌, ◌≢◌, ℕ, zero, suc, ◌-◌, ◌≤◌, ◌⊎◌, inl, inr, not, Bool, true, false, cond, List, [], ◌∷◌, ◌++◌, map, length, take, Option, Some, None, refl, sym, ap, ◌∙◌, subst, arith, append_assoc, append-nil}
use Rattle.std.proofs.lemmas.Bool.Decides.{nat_tests}
use Rattle.std.proofs.lemmas.List.{length-append, take-append-le}
use Rattle.std.proofs.lemmas.List.Elements.{All-nil, All-cons}
use Rattle.std.proofs.lemmas.List.Sums.{take_while-cons}
use Rattle.std.proofs.lemmas.List.Splits.{slice_split_none, slice_split_at}
use Rattle.std.specs.Prelude.{filter, take_while}
use Rattle.std.specs.List.{All}
use Rattle.connection_messages.specs.ReadBack.{IsLine}
use Rattle.content_streams.specs.Lines.{is_lf, parts, without_last, ended_lines, without_cr, is_blank, fits, line_contents}
use Rattle.content_streams.specs.Streams.{joined, plain, lines_read, contents_of}
use Rattle.content_streams.specs.declared.ending.HowEnded.{HowEnded}
use Rattle.content_streams.specs.declared.ending.HowEnded.TheVariants.{Closed, ReadFailed}
use Rattle.content_streams.specs.declared.framing.Framing.TheVariants.{Lines, Contents}
use Rattle.outbox.specs.Output.{bytes_of_texts, full_count}
use Rattle.connection.specs.BackToBack.{whole_in}
use Rattle.connection.proofs.SoundTexts.{IsWhole}
use Rattle.connection.proofs.WrittenBytes.{AreWhole, first_whole, IsPart, nothing, part, IsCut, cut, all_taken}

-- ---- cut at the LFs

abbrev IsNoLf : ℕ → Type 0
IsNoLf b = is_lf b ≡ false

no_lf : (x : ℕ) → (x ≢ 10) → is_lf x ≡ false
no_lf x not_lf = grind (arith, nat_tests)

all_no_lf : (t : List ℕ) → IsLine t → All IsNoLf t
all_no_lf [] line = All-nil IsNoLf
all_no_lf (x ∷ t) line = All-cons IsNoLf x t (no_lf x line.0) (all_no_lf t line.1)

line_front : (m : ℕ) (t : List ℕ) → IsLine t → IsLine (take m t)
line_front zero t line = tt
line_front (suc m) [] line = tt
line_front (suc m) (x ∷ t) line = (line.0, line_front m t line.1)

part_is_line : (limit : ℕ) (tail : List ℕ) → IsPart Lines limit tail → IsLine tail
part_is_line limit _ nothing = tt
part_is_line limit _ (part t m whole short) =
    let within : m ≤ length t = omega (arith, length-append t (10 ∷ []), short) in
    subst IsLine (sym (take-append-le m t (10 ∷ []) within)) (line_front m t whole.line)

parts_are : (limit : ℕ) (ts : List (List ℕ)) (tail : List ℕ) → AreWhole limit ts → IsLine tail → parts (bytes_of_texts Lines ts ++ tail) ≡ ts ++ tail ∷ []
parts_are limit [] tail whole line = slice_split_none is_lf tail (all_no_lf tail line)
parts_are limit (t ∷ ts) tail whole line =
    ap parts (append_assoc (t ++ 10 ∷ []) (bytes_of_texts Lines ts) tail ∙ append_assoc t (10 ∷ []) (bytes_of_texts Lines ts ++ tail))
    ∙ slice_split_at is_lf t 10 (bytes_of_texts Lines ts ++ tail) (all_no_lf t whole.0.line) refl
    ∙ ap (λ ls. t ∷ ls) (parts_are limit ts tail whole.1 line)

last_left : (ts : List (List ℕ)) (tail : List ℕ) → without_last (ts ++ tail ∷ []) ≡ ts
last_left [] tail = refl
last_left (t ∷ []) tail = refl
last_left (t ∷ u ∷ ts) tail = ap (λ ls. t ∷ ls) (last_left (u ∷ ts) tail)

-- ---- each line is a content

same_line : (limit : ℕ) (t : List ℕ) → IsWhole limit t → without_cr t ≡ t
same_line limit t whole = ap (λ b. cond b (take (length t - 1) t) t) whole.last

same_lines : (limit : ℕ) (ts : List (List ℕ)) → AreWhole limit ts → map without_cr ts ≡ ts
same_lines limit [] whole = refl
same_lines limit (t ∷ ts) whole = λ i. same_line limit t whole.0 i ∷ same_lines limit ts whole.1 i

fitting : (limit : ℕ) (t : List ℕ) → length t ≤ limit → fits limit t ≡ true
fitting limit t h = grind (arith, nat_tests)

abbrev is_content : List ℕ → Bool
is_content content = not (is_blank content)

module _ (limit : ℕ) (blank : List (List ℕ)) where
  -- behind the lines stands nothing that is a content
  fit_lines : (ts : List (List ℕ)) → AreWhole limit ts → take_while (fits limit) (ts ++ blank) ≡ ts ++ take_while (fits limit) blank
  fit_lines [] whole = refl
  fit_lines (t ∷ ts) whole =
      take_while-cons (fits limit) t (ts ++ blank) ∙ ap (λ b. cond b (t ∷ take_while (fits limit) (ts ++ blank)) []) (fitting limit t whole.0.fits) ∙ ap (λ ls. t ∷ ls) (fit_lines ts whole.1)

  some_lines : (ts : List (List ℕ)) → AreWhole limit ts → filter is_content (ts ++ blank) ≡ ts ++ filter is_content blank
  some_lines [] whole = refl
  some_lines (t ∷ ts) whole =
      ap (λ b. cond (not b) (t ∷ filter is_content (ts ++ blank)) (filter is_content (ts ++ blank))) whole.0.first ∙ ap (λ ls. t ∷ ls) (some_lines ts whole.1)

ended_contents : (limit : ℕ) (ts : List (List ℕ)) → AreWhole limit ts → line_contents limit ts ≡ ts
unfolding line_contents
ended_contents limit ts whole =
    ap (λ ls. filter is_content (take_while (fits limit) ls)) (same_lines limit ts whole ∙ sym (append-nil ts))
    ∙ ap (filter is_content) (fit_lines limit [] ts whole) ∙ some_lines limit [] ts whole ∙ append-nil ts

mapped : (limit : ℕ) (ts : List (List ℕ)) → AreWhole limit ts → map without_cr (ts ++ [] ∷ []) ≡ ts ++ [] ∷ []
mapped limit [] whole = refl
mapped limit (t ∷ ts) whole = λ i. same_line limit t whole.0 i ∷ mapped limit ts whole.1 i

none_fits : (limit : ℕ) → take_while (fits limit) ([] ∷ []) ≡ [] ∷ []
none_fits limit = take_while-cons (fits limit) [] [] ∙ ap (λ b. cond b ([] ∷ take_while (fits limit) []) []) (fitting limit [] (omega arith))

closed_contents : (limit : ℕ) (ts : List (List ℕ)) → AreWhole limit ts → line_contents limit (ts ++ [] ∷ []) ≡ ts
unfolding line_contents
closed_contents limit ts whole =
    ap (λ ls. filter is_content (take_while (fits limit) ls)) (mapped limit ts whole)
    ∙ ap (filter is_content) (fit_lines limit ([] ∷ []) ts whole ∙ ap (λ ls. ts ++ ls) (none_fits limit)) ∙ some_lines limit ([] ∷ []) ts whole ∙ append-nil ts

-- ---- lines

open_lines : (limit n : ℕ) (ts : List (List ℕ)) (bytes : List ℕ) → AreWhole limit ts → bytes ≡ take n (bytes_of_texts Lines ts) → line_contents limit (ended_lines bytes) ≡ take (whole_in Lines n ts) ts
open_lines limit n ts bytes whole fed =
    let it : IsCut Lines limit n ts = cut Lines limit n ts whole in
    let first : List (List ℕ) = take (whole_in Lines n ts) ts in
    let are : AreWhole limit (take (whole_in Lines n ts) ts) = first_whole limit (whole_in Lines n ts) ts whole in
    ap (λ bs. line_contents limit (ended_lines bs)) (fed ∙ it.bytes)
    ∙ ap (λ ls. line_contents limit (without_last ls)) (parts_are limit (take (whole_in Lines n ts) ts) it.tail are (part_is_line limit it.tail it.part))
    ∙ ap (line_contents limit) (last_left (take (whole_in Lines n ts) ts) it.tail)
    ∙ ended_contents limit (take (whole_in Lines n ts) ts) are

take-full : (n : ℕ) (xs : List ℕ) → length xs ≤ n → take n xs ≡ xs
take-full zero [] h = refl
take-full zero (x ∷ xs) h = absurd (omega arith)
take-full (suc n) [] h = refl
take-full (suc n) (x ∷ xs) h = ap (λ l. x ∷ l) (take-full n xs (omega arith))

closed_lines : (limit n : ℕ) (ts : List (List ℕ)) (bytes : List ℕ) → AreWhole limit ts → bytes ≡ take n (bytes_of_texts Lines ts) → full_count Lines ts ≤ n → line_contents limit (parts bytes) ≡ take (whole_in Lines n ts) ts
closed_lines limit n ts bytes whole fed all =
    ap (λ bs. line_contents limit (parts bs)) (fed ∙ take-full n (bytes_of_texts Lines ts) all ∙ sym (append-nil (bytes_of_texts Lines ts)))
    ∙ ap (line_contents limit) (parts_are limit ts [] whole tt) ∙ closed_contents limit ts whole ∙ sym (all_taken Lines n ts all)

lines_are : (limit n : ℕ) (ts : List (List ℕ)) (bytes : List ℕ) (ended : Option HowEnded) → AreWhole limit ts → bytes ≡ take n (bytes_of_texts Lines ts) → (ended ≢ Some Closed) ⊎ (full_count Lines ts ≤ n)
    → line_contents limit (lines_read ended bytes) ≡ take (whole_in Lines n ts) ts
lines_are limit n ts bytes None whole fed h = open_lines limit n ts bytes whole fed
lines_are limit n ts bytes (Some ReadFailed) whole fed h = open_lines limit n ts bytes whole fed
lines_are limit n ts bytes (Some Closed) whole fed (inl unclosed) = absurd (unclosed refl)
lines_are limit n ts bytes (Some Closed) whole fed (inr all) = closed_lines limit n ts bytes whole fed all

pub lines_are_texts : (limit n : ℕ) (ts pieces : List (List ℕ)) (ended : Option HowEnded) → AreWhole limit ts → joined pieces ≡ take n (bytes_of_texts Lines ts) → (ended ≢ Some Closed) ⊎ (full_count Lines ts ≤ n)
    → contents_of Lines limit pieces ended ≡ map plain (take (whole_in Lines n ts) ts)
lines_are_texts limit n ts pieces ended whole fed h = ap (map plain) (lines_are limit n ts (joined pieces) ended whole fed h)

-- ---- contents by themselves

all_fitting : (limit : ℕ) (ts : List (List ℕ)) → AreWhole limit ts → take_while (fits limit) ts ≡ ts
all_fitting limit [] whole = refl
all_fitting limit (t ∷ ts) whole = take_while-cons (fits limit) t ts ∙ ap (λ b. cond b (t ∷ take_while (fits limit) ts) []) (fitting limit t whole.0.fits) ∙ ap (λ ls. t ∷ ls) (all_fitting limit ts whole.1)

pub contents_are_texts : (limit n : ℕ) (ts pieces : List (List ℕ)) (ended : Option HowEnded) → AreWhole limit ts → pieces ≡ take n ts → contents_of Contents limit pieces ended ≡ map plain (take n ts)
contents_are_texts limit n ts pieces ended whole fed = ap (λ ps. map plain (take_while (fits limit) ps)) fed ∙ ap (map plain) (all_fitting limit (take n ts) (first_whole limit n ts whole))
