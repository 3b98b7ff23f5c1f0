-- The lines of a text that comes in parts.
use Rattle.std.proofs.Common.{◌≡◌, ◌≢◌, ℕ, ◌+◌, ◌-◌, ◌<◌, ◌≤◌, Some, None, Bool, true, false, cond, ltb, eqb, List, [], ◌∷◌, ◌++◌, length, get_or, take, drop, refl, ap, sym, ◌∙◌, subst, append-nil, length-append, length-take, lit≤, arith}
use Rattle.std.specs.List.{onto_first, position, position_or_len}
use Rattle.std.proofs.lemmas.List.{get_or-append-add}
use Rattle.std.proofs.lemmas.List.Sums.{fails_before_first}
use Rattle.std.proofs.lemmas.List.Splits.{slice_split_first, slice_split_none}
use Rattle.std.proofs.lemmas.Bool.Decides.{nat_tests}
use Rattle.content_streams.specs.Lines.{is_lf, parts, without_last, ended_lines, ends_in_cr, without_cr, fits, all_fit, line_contents}
use Rattle.content_streams.specs.Inner.Cutting.{Within, Over, last_line, line_standing, text_standing}
use Rattle.content_streams.proofs.Fitting.{lines_all_first, lines_not_all_first, all_fit_behind, not_all_fit, first_is_too_long, all_fit-yes, all_fit-no, none_fit}

-- ---- parts

-- a text behind the last of these parts
abbrev pub lead : List ℕ → List (List ℕ) → List (List ℕ)
lead line [] = line ∷ []
lead line (next ∷ lines) = (line ++ next) ∷ lines

abbrev pub meet : List (List ℕ) → List (List ℕ) → List (List ℕ)
meet [] others = others
meet (line ∷ []) others = lead line others
meet (line ∷ next ∷ lines) others = line ∷ meet (next ∷ lines) others

pub onto-some : (b : ℕ) (lines : List (List ℕ)) → onto_first b lines ≢ []
onto-some b [] e = cc
onto-some b (line ∷ lines) e = cc

pub parts-some : (bytes : List ℕ) → parts bytes ≢ []
parts-some [] e = cc
parts-some (b ∷ bytes) e = go (is_lf b) e
  where
    go : (t : Bool) → cond t ([] ∷ parts bytes) (onto_first b (parts bytes)) ≢ []
    go true e = cc
    go false e = onto-some b (parts bytes) e

meet-cons : (line : List ℕ) (lines others : List (List ℕ)) → lines ≢ [] → meet (line ∷ lines) others ≡ line ∷ meet lines others
meet-cons line [] others some = absurd (some refl)
meet-cons line (next ∷ lines) others some = refl

onto-meet : (b : ℕ) (lines others : List (List ℕ)) → lines ≢ [] → onto_first b (meet lines others) ≡ meet (onto_first b lines) others
onto-meet b [] others some = absurd (some refl)
onto-meet b (line ∷ []) [] some = refl
onto-meet b (line ∷ []) (other ∷ others) some = refl
onto-meet b (line ∷ next ∷ lines) others some = refl

lead-nil : (bytes : List ℕ) (lines : List (List ℕ)) → lines ≢ [] → lines ≡ lead [] lines
lead-nil bytes [] some = absurd (some refl)
lead-nil bytes (line ∷ lines) some = refl

-- The parts of a text behind another: the last part goes on.
pub parts-append : (bytes more : List ℕ) → parts (bytes ++ more) ≡ meet (parts bytes) (parts more)
parts-append [] more = lead-nil more (parts more) (parts-some more)
parts-append (b ∷ bytes) more = go (is_lf b) (parts-append bytes more)
  where
    go : (t : Bool) → parts (bytes ++ more) ≡ meet (parts bytes) (parts more)
        → cond t ([] ∷ parts (bytes ++ more)) (onto_first b (parts (bytes ++ more))) ≡ meet (cond t ([] ∷ parts bytes) (onto_first b (parts bytes))) (parts more)
    go true again = ap (λ lines. [] ∷ lines) again ∙ sym (meet-cons [] (parts bytes) (parts more) (parts-some bytes))
    go false again = ap (onto_first b) again ∙ onto-meet b (parts bytes) (parts more) (parts-some bytes)

-- The last part of a text has no LF.
one_onto : (b : ℕ) (lines : List (List ℕ)) → lines ≢ [] → is_lf b ≡ false → parts (last_line lines) ≡ last_line lines ∷ [] → parts (last_line (onto_first b lines)) ≡ last_line (onto_first b lines) ∷ []
one_onto b [] some isnt one = absurd (some refl)
one_onto b (line ∷ []) some isnt one = ap (λ t. cond t ([] ∷ parts line) (onto_first b (parts line))) isnt ∙ ap (onto_first b) one
one_onto b (line ∷ next ∷ lines) some isnt one = one

one_cons : (lines : List (List ℕ)) → lines ≢ [] → parts (last_line lines) ≡ last_line lines ∷ [] → parts (last_line ([] ∷ lines)) ≡ last_line ([] ∷ lines) ∷ []
one_cons [] some one = absurd (some refl)
one_cons (line ∷ lines) some one = one

pub last_is_one : (bytes : List ℕ) → parts (last_line (parts bytes)) ≡ last_line (parts bytes) ∷ []
last_is_one [] = refl
last_is_one (b ∷ bytes) = go (is_lf b) refl (last_is_one bytes)
  where
    go : (t : Bool) → is_lf b ≡ t → parts (last_line (parts bytes)) ≡ last_line (parts bytes) ∷ []
        → parts (last_line (cond t ([] ∷ parts bytes) (onto_first b (parts bytes)))) ≡ last_line (cond t ([] ∷ parts bytes) (onto_first b (parts bytes))) ∷ []
    go true e again = one_cons (parts bytes) (parts-some bytes) again
    go false e again = one_onto b (parts bytes) (parts-some bytes) e again

-- Parts are those before the last, and the last.
meet-is : (lines others : List (List ℕ)) → lines ≢ [] → meet lines others ≡ without_last lines ++ lead (last_line lines) others
meet-is [] others some = absurd (some refl)
meet-is (line ∷ []) others some = refl
meet-is (line ∷ next ∷ lines) others some = ap (λ xs. line ∷ xs) (meet-is (next ∷ lines) others (λ e. cc))

pub parts-are : (bytes : List ℕ) → parts bytes ≡ ended_lines bytes ++ last_line (parts bytes) ∷ []
parts-are bytes = go (parts bytes) (parts-some bytes)
  where
    go : (lines : List (List ℕ)) → lines ≢ [] → lines ≡ without_last lines ++ last_line lines ∷ []
    go [] some = absurd (some refl)
    go (line ∷ lines) some = meet-nil line lines ∙ meet-is (line ∷ lines) [] some
      where
        meet-nil : (line : List ℕ) (lines : List (List ℕ)) → line ∷ lines ≡ meet (line ∷ lines) []
        meet-nil line [] = refl
        meet-nil line (next ∷ lines) = ap (λ xs. line ∷ xs) (meet-nil next lines)

-- The parts behind a text are those of its last part and what follows.
pub parts_behind : (bytes more : List ℕ) → parts (bytes ++ more) ≡ ended_lines bytes ++ parts (last_line (parts bytes) ++ more)
parts_behind bytes more =
    let last = last_line (parts bytes) in
    parts-append bytes more ∙ meet-is (parts bytes) (parts more) (parts-some bytes)
    ∙ ap (λ lines. ended_lines bytes ++ lines) (sym (parts-append last more ∙ ap (λ lines. meet lines (parts more)) (last_is_one bytes)))

pub without_last-append : (lines others : List (List ℕ)) → others ≢ [] → without_last (lines ++ others) ≡ lines ++ without_last others
without_last-append [] others some = refl
without_last-append (line ∷ []) [] some = absurd (some refl)
without_last-append (line ∷ []) (other ∷ others) some = refl
without_last-append (line ∷ next ∷ lines) others some = ap (λ xs. line ∷ xs) (without_last-append (next ∷ lines) others some)

pub last_line-append : (lines others : List (List ℕ)) → others ≢ [] → last_line (lines ++ others) ≡ last_line others
last_line-append [] others some = refl
last_line-append (line ∷ []) [] some = absurd (some refl)
last_line-append (line ∷ []) (other ∷ others) some = refl
last_line-append (line ∷ next ∷ lines) others some = last_line-append (next ∷ lines) others some

pub ended_behind : (bytes more : List ℕ) → ended_lines (bytes ++ more) ≡ ended_lines bytes ++ ended_lines (last_line (parts bytes) ++ more)
ended_behind bytes more = ap without_last (parts_behind bytes more) ∙ without_last-append (ended_lines bytes) (parts (last_line (parts bytes) ++ more)) (parts-some (last_line (parts bytes) ++ more))

pub last_behind : (bytes more : List ℕ) → last_line (parts (bytes ++ more)) ≡ last_line (parts (last_line (parts bytes) ++ more))
last_behind bytes more = ap last_line (parts_behind bytes more) ∙ last_line-append (ended_lines bytes) (parts (last_line (parts bytes) ++ more)) (parts-some (last_line (parts bytes) ++ more))

-- ---- what is read of a text that comes in parts

pub standing_is : (limit : ℕ) (lines : List (List ℕ)) (line : List ℕ) → Within line ≡ line_standing limit lines → (all_fit limit lines ≡ true) × (line ≡ last_line lines)
standing_is limit lines line is = go (all_fit limit lines) refl is
  where
    go : (t : Bool) → all_fit limit lines ≡ t → Within line ≡ cond t (Within (last_line lines)) Over → (all_fit limit lines ≡ true) × (line ≡ last_line lines)
    go true e h = (e, cc)
    go false e h = (cc)

-- All fit, so those whose LF has come do.
pub ended_fit : (limit : ℕ) (bytes : List ℕ) → all_fit limit (parts bytes) ≡ true → all_fit limit (ended_lines bytes) ≡ true
ended_fit limit bytes all = go (all_fit limit (ended_lines bytes)) refl
  where
    go : (t : Bool) → all_fit limit (ended_lines bytes) ≡ t → all_fit limit (ended_lines bytes) ≡ true
    go true e = e
    go false e = (let not_all : all_fit limit (parts bytes) ≡ false = ap (all_fit limit) (parts-are bytes) ∙ not_all_fit limit (ended_lines bytes) (last_line (parts bytes) ∷ []) e in cc)

-- What is read of a text behind one in which no line is too long.
pub contents_behind : (limit : ℕ) (bytes more : List ℕ) → all_fit limit (parts bytes) ≡ true
    → line_contents limit (ended_lines (bytes ++ more)) ≡ line_contents limit (ended_lines bytes) ++ line_contents limit (ended_lines (last_line (parts bytes) ++ more))
contents_behind limit bytes more all =
    ap (line_contents limit) (ended_behind bytes more)
    ∙ lines_all_first limit (ended_lines bytes) (ended_lines (last_line (parts bytes) ++ more)) (ended_fit limit bytes all)

pub fits_behind : (limit : ℕ) (bytes more : List ℕ) → all_fit limit (parts bytes) ≡ true → all_fit limit (parts (bytes ++ more)) ≡ all_fit limit (parts (last_line (parts bytes) ++ more))
fits_behind limit bytes more all =
    ap (all_fit limit) (parts_behind bytes more)
    ∙ all_fit_behind limit (ended_lines bytes) (parts (last_line (parts bytes) ++ more)) (ended_fit limit bytes all)

pub standing_behind : (limit : ℕ) (bytes more : List ℕ) → all_fit limit (parts bytes) ≡ true → text_standing limit (bytes ++ more) ≡ text_standing limit (last_line (parts bytes) ++ more)
standing_behind limit bytes more all =
    ap (λ t. cond t (Within (last_line (parts (bytes ++ more)))) Over) (fits_behind limit bytes more all)
    ∙ ap (λ line. cond (all_fit limit (parts (last_line (parts bytes) ++ more))) (Within line) Over) (last_behind bytes more)

-- The last line, once the input is closed.
pub contents_to_end : (limit : ℕ) (bytes : List ℕ) → all_fit limit (parts bytes) ≡ true → line_contents limit (parts bytes) ≡ line_contents limit (ended_lines bytes) ++ line_contents limit (last_line (parts bytes) ∷ [])
contents_to_end limit bytes all =
    ap (line_contents limit) (parts-are bytes)
    ∙ lines_all_first limit (ended_lines bytes) (last_line (parts bytes) ∷ []) (ended_fit limit bytes all)

-- ---- a line that is too long

cr_size : (line : List ℕ) (t : Bool) → length (cond t (take (length line - 1) line) line) ≡ length line - cond t 1 0
cr_size line true = length-take (length line - 1) line ∙ (omega arith)
cr_size line false = omega arith

-- how many bytes a line has without its CR
pub length-without_cr : (line : List ℕ) → length (without_cr line) ≡ length line - cond (ends_in_cr line) 1 0
length-without_cr line = cr_size line (ends_in_cr line)

pub at_most_one : (t : Bool) → cond t 1 0 ≤ 1
at_most_one true = lit≤ tt
at_most_one false = lit≤ tt

-- More bytes don't make it shorter.
pub grows : (line more : List ℕ) → length (without_cr line) ≤ length (without_cr (line ++ more))
grows line [] = let same : line ++ [] ≡ line = append-nil line in let P : List ℕ → Type 0 = λ xs. length (without_cr line) ≤ length (without_cr xs) in subst P (sym same) (omega arith)
grows line (b ∷ more) =
    let one = at_most_one (ends_in_cr (line ++ b ∷ more)) in
    let all : length (line ++ b ∷ more) ≡ length line + length (b ∷ more) = length-append line (b ∷ more) in
    let left = length-without_cr line in
    let right = length-without_cr (line ++ b ∷ more) in
    omega arith

pub stays_long : (limit : ℕ) (line more : List ℕ) → fits limit (without_cr line) ≡ false → fits limit (without_cr (line ++ more)) ≡ false
stays_long limit line more long = let grown = grows line more in grind (arith, nat_tests)

-- Behind a line that is too long nothing is read, and the fault stays.
lead_is_long : (limit : ℕ) (line : List ℕ) (lines : List (List ℕ)) → fits limit (without_cr line) ≡ false → all_fit limit (lead line lines) ≡ false
lead_is_long limit line [] long = all_fit-no limit line [] long
lead_is_long limit line (next ∷ lines) long = all_fit-no limit (line ++ next) lines (stays_long limit line next long)

lead_is_empty : (limit : ℕ) (line : List ℕ) (lines : List (List ℕ)) → fits limit (without_cr line) ≡ false → line_contents limit (lead line lines) ≡ []
lead_is_empty limit line [] long = first_is_too_long limit line [] long
lead_is_empty limit line (next ∷ lines) long = first_is_too_long limit (line ++ next) lines (stays_long limit line next long)

lead-some : (line : List ℕ) (lines : List (List ℕ)) → lead line lines ≢ []
lead-some line [] e = cc
lead-some line (next ∷ lines) e = cc

without_last_is_empty : (limit : ℕ) (line : List ℕ) (lines : List (List ℕ)) → fits limit (without_cr line) ≡ false → line_contents limit (without_last (lead line lines)) ≡ []
unfolding line_contents
without_last_is_empty limit line [] long = refl
without_last_is_empty limit line (next ∷ []) long = refl
without_last_is_empty limit line (next ∷ other ∷ lines) long = first_is_too_long limit (line ++ next) (without_last (other ∷ lines)) (stays_long limit line next long)

pub parts_lead : (bytes more : List ℕ) → parts (bytes ++ more) ≡ ended_lines bytes ++ lead (last_line (parts bytes)) (parts more)
parts_lead bytes more = parts-append bytes more ∙ meet-is (parts bytes) (parts more) (parts-some bytes)

pub ended_lead : (bytes more : List ℕ) → ended_lines (bytes ++ more) ≡ ended_lines bytes ++ without_last (lead (last_line (parts bytes)) (parts more))
ended_lead bytes more = ap without_last (parts_lead bytes more) ∙ without_last-append (ended_lines bytes) (lead (last_line (parts bytes)) (parts more)) (lead-some (last_line (parts bytes)) (parts more))

-- where some line is too long, it is one whose LF has come, or the last
pub data IsLong (limit : ℕ) (bytes : List ℕ) : Type 0 where
  AnEnded : all_fit limit (ended_lines bytes) ≡ false → IsLong limit bytes
  TheLast : all_fit limit (ended_lines bytes) ≡ true → fits limit (without_cr (last_line (parts bytes))) ≡ false → IsLong limit bytes

pub is_long : (limit : ℕ) (bytes : List ℕ) → all_fit limit (parts bytes) ≡ false → IsLong limit bytes
is_long limit bytes long = go (all_fit limit (ended_lines bytes)) refl (fits limit (without_cr (last_line (parts bytes)))) refl
  where
    go : (t : Bool) → all_fit limit (ended_lines bytes) ≡ t → (s : Bool) → fits limit (without_cr (last_line (parts bytes))) ≡ s → IsLong limit bytes
    go false e s h = AnEnded e
    go true e false h = TheLast e h
    go true e true h =
        let all : all_fit limit (parts bytes) ≡ all_fit limit (last_line (parts bytes) ∷ []) = ap (all_fit limit) (parts-are bytes) ∙ all_fit_behind limit (ended_lines bytes) (last_line (parts bytes) ∷ []) e in
        let one : all_fit limit (last_line (parts bytes) ∷ []) ≡ true = all_fit-yes limit (last_line (parts bytes)) [] h ∙ none_fit limit in
        (let both : false ≡ true = sym long ∙ all ∙ one in cc)

-- Once a line is too long, more bytes are ignored.
pub long_stays : (limit : ℕ) (bytes more : List ℕ) → all_fit limit (parts bytes) ≡ false → all_fit limit (parts (bytes ++ more)) ≡ false
long_stays limit bytes more long = elim (is_long limit bytes long) [
  | AnEnded e ↦ ap (all_fit limit) (parts_lead bytes more) ∙ not_all_fit limit (ended_lines bytes) (lead (last_line (parts bytes)) (parts more)) e
  | TheLast e h ↦ ap (all_fit limit) (parts_lead bytes more) ∙ all_fit_behind limit (ended_lines bytes) (lead (last_line (parts bytes)) (parts more)) e
      ∙ lead_is_long limit (last_line (parts bytes)) (parts more) h
]

behind_ended : (limit : ℕ) (bytes : List ℕ) (lines : List (List ℕ)) → all_fit limit (ended_lines bytes) ≡ true → line_contents limit lines ≡ [] → line_contents limit (ended_lines bytes ++ lines) ≡ line_contents limit (ended_lines bytes)
behind_ended limit bytes lines e none = lines_all_first limit (ended_lines bytes) lines e ∙ ap (λ xs. line_contents limit (ended_lines bytes) ++ xs) none ∙ append-nil (line_contents limit (ended_lines bytes))

pub long_ended : (limit : ℕ) (bytes more : List ℕ) → all_fit limit (parts bytes) ≡ false → line_contents limit (ended_lines (bytes ++ more)) ≡ line_contents limit (ended_lines bytes)
long_ended limit bytes more long = elim (is_long limit bytes long) [
  | AnEnded e ↦ ap (line_contents limit) (ended_lead bytes more) ∙ lines_not_all_first limit (ended_lines bytes) (without_last (lead (last_line (parts bytes)) (parts more))) e
  | TheLast e h ↦ ap (line_contents limit) (ended_lead bytes more) ∙ behind_ended limit bytes (without_last (lead (last_line (parts bytes)) (parts more))) e (without_last_is_empty limit (last_line (parts bytes)) (parts more) h)
]

pub long_parts : (limit : ℕ) (bytes more : List ℕ) → all_fit limit (parts bytes) ≡ false → line_contents limit (parts (bytes ++ more)) ≡ line_contents limit (ended_lines bytes)
long_parts limit bytes more long = elim (is_long limit bytes long) [
  | AnEnded e ↦ ap (line_contents limit) (parts_lead bytes more) ∙ lines_not_all_first limit (ended_lines bytes) (lead (last_line (parts bytes)) (parts more)) e
  | TheLast e h ↦ ap (line_contents limit) (parts_lead bytes more) ∙ behind_ended limit bytes (lead (last_line (parts bytes)) (parts more)) e (lead_is_empty limit (last_line (parts bytes)) (parts more) h)
]

-- ---- the first line of a text

-- no LF
pub no_lf : (bytes : List ℕ) → position is_lf bytes ≡ None → parts bytes ≡ bytes ∷ []
no_lf bytes none = go (ltb (position_or_len is_lf bytes) (length bytes)) refl none
  where
    go : (t : Bool) → ltb (position_or_len is_lf bytes) (length bytes) ≡ t → cond t (Some (position_or_len is_lf bytes)) None ≡ None → parts bytes ≡ bytes ∷ []
    go true e h = (cc)
    go false e h =
        let past : length bytes ≤ position_or_len is_lf bytes = grind (arith, nat_tests) in
        slice_split_none is_lf bytes (λ k d lt. fails_before_first is_lf bytes k d (omega arith))

-- a line, its LF and what is behind
pub first_line : (bytes : List ℕ) (end : ℕ) → position is_lf bytes ≡ Some end → (end < length bytes) × (parts bytes ≡ take end bytes ∷ parts (drop (end + 1) bytes))
first_line bytes end found = go (ltb (position_or_len is_lf bytes) (length bytes)) refl found
  where
    go : (t : Bool) → ltb (position_or_len is_lf bytes) (length bytes) ≡ t → cond t (Some (position_or_len is_lf bytes)) None ≡ Some end
        → (end < length bytes) × (parts bytes ≡ take end bytes ∷ parts (drop (end + 1) bytes))
    go false e h = (cc)
    go true e h =
        let within : position_or_len is_lf bytes < length bytes = grind (arith, nat_tests) in
        let is : position_or_len is_lf bytes ≡ end = cc in
        (omega arith, slice_split_first is_lf bytes 0 within ∙ ap (λ n. take n bytes ∷ parts (drop (n + 1) bytes)) is)

pub ended_cons : (line : List ℕ) (lines : List (List ℕ)) → lines ≢ [] → without_last (line ∷ lines) ≡ line ∷ without_last lines
ended_cons line [] some = absurd (some refl)
ended_cons line (next ∷ lines) some = refl

pub last_cons : (line : List ℕ) (lines : List (List ℕ)) → lines ≢ [] → last_line (line ∷ lines) ≡ last_line lines
last_cons line [] some = absurd (some refl)
last_cons line (next ∷ lines) some = refl

-- ---- bytes behind a line

ends_behind : (line more : List ℕ) → 0 < length more → ends_in_cr (line ++ more) ≡ ends_in_cr more
ends_behind line more some =
    let all : length (line ++ more) ≡ length line + length more = length-append line more in
    let at : length (line ++ more) - 1 ≡ length line + (length more - 1) = omega arith in
    ap (λ b. eqb b 13) (ap (λ n. get_or (line ++ more) n 0) at ∙ get_or-append-add line more (length more - 1) 0)

pub length_behind : (line more : List ℕ) → 0 < length more → length (without_cr (line ++ more)) ≡ (length line + length more) - cond (ends_in_cr more) 1 0
length_behind line more some =
    length-without_cr (line ++ more) ∙ ap (λ t. length (line ++ more) - cond t 1 0) (ends_behind line more some)
    ∙ ap (λ n. n - cond (ends_in_cr more) 1 0) (length-append line more)
