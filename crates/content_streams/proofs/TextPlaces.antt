-- The places of texts that follow one another, and of the contents of lines.
use Rattle.std.proofs.Common.{◌≡◌, ℕ, ◌+◌, Bool, true, false, cond, not, ◌&&◌, List, [], ◌∷◌, ◌++◌, length, map, refl, ap, sym, ◌∙◌, subst}
use Rattle.std.specs.List.{list_all, take_while, filter}
use Rattle.std.proofs.lemmas.List.{map-append}
use Rattle.std.proofs.lemmas.List.Elements.{filter-append}
use Rattle.content_streams.specs.Lines.{is_blank, fits, without_cr, all_fit, line_contents, placed_texts, place_behind, placed_line_contents, line_place}
use Rattle.content_streams.specs.Streams.{capped}
use Rattle.content_streams.specs.Inner.Cutting.{places_from}
use Rattle.content_streams.proofs.Fitting.{take_while-cons, first_fits, first_is_too_long, kept}

-- ---- texts

-- the texts before the first that doesn't pass
abbrev pub taken : (List ℕ → Bool) → ℕ → ℕ → List (List ℕ) → List (ℕ × List ℕ)
taken passes gap start texts = take_while (λ placed. passes placed.1) (placed_texts gap start texts)

pub taken-cons : (passes : List ℕ → Bool) (gap start : ℕ) (text : List ℕ) (texts : List (List ℕ))
    → taken passes gap start (text ∷ texts) ≡ cond (passes text) ((start, text) ∷ taken passes gap (start + length text + gap) texts) []
taken-cons passes gap start text texts = take_while-cons (λ placed. passes placed.1) (start, text) (placed_texts gap (start + length text + gap) texts)

rest_passes : (t all : Bool) → (t && all) ≡ true → t ≡ true → all ≡ true
rest_passes true all is e = is
rest_passes false all is e = cc

pub taken_behind : (passes : List ℕ → Bool) (gap start : ℕ) (texts more : List (List ℕ)) → list_all passes texts ≡ true
    → taken passes gap start (texts ++ more) ≡ taken passes gap start texts ++ taken passes gap (place_behind passes gap start texts) more
taken_behind passes gap start [] more all = refl
taken_behind passes gap start (text ∷ texts) more all = go (passes text) refl (λ h. taken_behind passes gap (start + length text + gap) texts more h)
  where
    next : ℕ
    next = start + length text + gap

    go : (t : Bool) → passes text ≡ t
        → (list_all passes texts ≡ true → taken passes gap next (texts ++ more) ≡ taken passes gap next texts ++ taken passes gap (place_behind passes gap next texts) more)
        → taken passes gap start (text ∷ (texts ++ more)) ≡ taken passes gap start (text ∷ texts) ++ taken passes gap (cond (passes text) (place_behind passes gap next texts) start) more
    go true e again =
        let rest : list_all passes texts ≡ true = rest_passes (passes text) (list_all passes texts) all e in
        taken-cons passes gap start text (texts ++ more)
        ∙ ap (λ t. cond t ((start, text) ∷ taken passes gap next (texts ++ more)) []) e
        ∙ ap (λ (xs : List (ℕ × List ℕ)). (start, text) ∷ xs) (again rest)
        ∙ sym (ap (λ (xs : List (ℕ × List ℕ)). xs ++ taken passes gap (cond (passes text) (place_behind passes gap next texts) start) more)
        (taken-cons passes gap start text texts ∙ ap (λ t. cond t ((start, text) ∷ taken passes gap next texts) []) e)
        ∙ ap (λ t. ((start, text) ∷ taken passes gap next texts) ++ taken passes gap (cond t (place_behind passes gap next texts) start) more) e)
    go false e again = (let clash : (false && list_all passes texts) ≡ true = subst (λ t. (t && list_all passes texts) ≡ true) e all in cc)

pub place_on : (passes : List ℕ → Bool) (gap start : ℕ) (texts more : List (List ℕ)) → list_all passes texts ≡ true
    → place_behind passes gap start (texts ++ more) ≡ place_behind passes gap (place_behind passes gap start texts) more
place_on passes gap start [] more all = refl
place_on passes gap start (text ∷ texts) more all = go (passes text) refl (λ h. place_on passes gap (start + length text + gap) texts more h)
  where
    next : ℕ
    next = start + length text + gap

    go : (t : Bool) → passes text ≡ t → (list_all passes texts ≡ true → place_behind passes gap next (texts ++ more) ≡ place_behind passes gap (place_behind passes gap next texts) more)
        → cond (passes text) (place_behind passes gap next (texts ++ more)) start ≡ place_behind passes gap (cond (passes text) (place_behind passes gap next texts) start) more
    go true e again =
        let rest : list_all passes texts ≡ true = rest_passes (passes text) (list_all passes texts) all e in
        ap (λ t. cond t (place_behind passes gap next (texts ++ more)) start) e ∙ again rest
        ∙ sym (ap (λ t. place_behind passes gap (cond t (place_behind passes gap next texts) start) more) e)
    go false e again = (let clash : (false && list_all passes texts) ≡ true = subst (λ t. (t && list_all passes texts) ≡ true) e all in cc)

rest_fails : (t all : Bool) → (t && all) ≡ false → t ≡ true → all ≡ false
rest_fails true all is e = is
rest_fails false all is e = cc

-- Behind one that doesn't pass nothing is taken.
pub taken_long : (passes : List ℕ → Bool) (gap start : ℕ) (texts more : List (List ℕ)) → list_all passes texts ≡ false → taken passes gap start (texts ++ more) ≡ taken passes gap start texts
taken_long passes gap start [] more long = cc
taken_long passes gap start (text ∷ texts) more long = go (passes text) refl (λ h. taken_long passes gap (start + length text + gap) texts more h)
  where
    next : ℕ
    next = start + length text + gap

    go : (t : Bool) → passes text ≡ t → (list_all passes texts ≡ false → taken passes gap next (texts ++ more) ≡ taken passes gap next texts) → taken passes gap start (text ∷ (texts ++ more)) ≡ taken passes gap start (text ∷ texts)
    go true e again =
        let rest : list_all passes texts ≡ false = rest_fails (passes text) (list_all passes texts) long e in
        taken-cons passes gap start text (texts ++ more) ∙ ap (λ xs. cond (passes text) ((start, text) ∷ xs) []) (again rest) ∙ sym (taken-cons passes gap start text texts)
    go false e again =
        taken-cons passes gap start text (texts ++ more) ∙ ap (λ t. cond t ((start, text) ∷ taken passes gap next (texts ++ more)) []) e
        ∙ sym (taken-cons passes gap start text texts ∙ ap (λ t. cond t ((start, text) ∷ taken passes gap next texts) []) e)

pub place_long : (passes : List ℕ → Bool) (gap start : ℕ) (texts more : List (List ℕ)) → list_all passes texts ≡ false → place_behind passes gap start (texts ++ more) ≡ place_behind passes gap start texts
place_long passes gap start [] more long = cc
place_long passes gap start (text ∷ texts) more long = go (passes text) refl (λ h. place_long passes gap (start + length text + gap) texts more h)
  where
    next : ℕ
    next = start + length text + gap

    go : (t : Bool) → passes text ≡ t → (list_all passes texts ≡ false → place_behind passes gap next (texts ++ more) ≡ place_behind passes gap next texts)
        → cond (passes text) (place_behind passes gap next (texts ++ more)) start ≡ cond (passes text) (place_behind passes gap next texts) start
    go true e again = ap (λ n. cond (passes text) n start) (again (rest_fails (passes text) (list_all passes texts) long e))
    go false e again = ap (λ t. cond t (place_behind passes gap next (texts ++ more)) start) e ∙ sym (ap (λ t. cond t (place_behind passes gap next texts) start) e)

-- the texts alone
pub taken_texts : (passes : List ℕ → Bool) (gap start : ℕ) (texts : List (List ℕ)) → map (λ placed. placed.1) (taken passes gap start texts) ≡ take_while passes texts
taken_texts passes gap start [] = refl
taken_texts passes gap start (text ∷ texts) = go (passes text) refl (taken_texts passes gap (start + length text + gap) texts)
  where
    next : ℕ
    next = start + length text + gap

    go : (t : Bool) → passes text ≡ t → map (λ placed. placed.1) (taken passes gap next texts) ≡ take_while passes texts → map (λ placed. placed.1) (taken passes gap start (text ∷ texts)) ≡ take_while passes (text ∷ texts)
    go true e again =
        ap (map (λ placed. placed.1)) (taken-cons passes gap start text texts ∙ ap (λ t. cond t ((start, text) ∷ taken passes gap next texts) []) e)
        ∙ ap (λ xs. text ∷ xs) again ∙ sym (take_while-cons passes text texts ∙ ap (λ t. cond t (text ∷ take_while passes texts) []) e)
    go false e again =
        ap (map (λ placed. placed.1)) (taken-cons passes gap start text texts ∙ ap (λ t. cond t ((start, text) ∷ taken passes gap next texts) []) e)
        ∙ sym (take_while-cons passes text texts ∙ ap (λ t. cond t (text ∷ take_while passes texts) []) e)

-- ---- lines

abbrev pub passes_at : ℕ → List ℕ → Bool
passes_at limit line = fits limit (without_cr line)

abbrev pub content_at : ℕ × List ℕ → ℕ × List ℕ
content_at placed = (placed.0, without_cr placed.1)

abbrev pub is_kept : ℕ × List ℕ → Bool
is_kept placed = not (is_blank placed.1)

pub fit_is : (limit : ℕ) (lines : List (List ℕ)) → all_fit limit lines ≡ list_all (passes_at limit) lines
unfolding all_fit
fit_is limit [] = refl
fit_is limit (line ∷ lines) = ap (λ t. fits limit (without_cr line) && t) (fit_is limit lines)

pub lines_behind : (limit start : ℕ) (lines more : List (List ℕ)) → all_fit limit lines ≡ true
    → placed_line_contents limit start (lines ++ more) ≡ placed_line_contents limit start lines ++ placed_line_contents limit (line_place limit start lines) more
unfolding placed_line_contents line_place
lines_behind limit start lines more all =
    let first = taken (passes_at limit) 1 start lines in
    let later = taken (passes_at limit) 1 (place_behind (passes_at limit) 1 start lines) more in
    ap (λ xs. filter is_kept (map content_at xs)) (taken_behind (passes_at limit) 1 start lines more (sym (fit_is limit lines) ∙ all))
    ∙ ap (filter is_kept) (map-append content_at first later) ∙ filter-append is_kept (map content_at first) (map content_at later)

pub lines_long : (limit start : ℕ) (lines more : List (List ℕ)) → all_fit limit lines ≡ false → placed_line_contents limit start (lines ++ more) ≡ placed_line_contents limit start lines
unfolding placed_line_contents
lines_long limit start lines more long = ap (λ xs. filter is_kept (map content_at xs)) (taken_long (passes_at limit) 1 start lines more (sym (fit_is limit lines) ∙ long))

pub line_place_on : (limit start : ℕ) (lines more : List (List ℕ)) → all_fit limit lines ≡ true → line_place limit start (lines ++ more) ≡ line_place limit (line_place limit start lines) more
unfolding line_place
line_place_on limit start lines more all = place_on (passes_at limit) 1 start lines more (sym (fit_is limit lines) ∙ all)

pub line_place_long : (limit start : ℕ) (lines more : List (List ℕ)) → all_fit limit lines ≡ false → line_place limit start (lines ++ more) ≡ line_place limit start lines
unfolding line_place
line_place_long limit start lines more long = place_long (passes_at limit) 1 start lines more (sym (fit_is limit lines) ∙ long)

-- one line
pub line_place_none : (limit start : ℕ) → line_place limit start [] ≡ start
unfolding line_place
line_place_none limit start = refl

pub line_place_fits : (limit start : ℕ) (line : List ℕ) (lines : List (List ℕ)) → fits limit (without_cr line) ≡ true → line_place limit start (line ∷ lines) ≡ line_place limit (start + length line + 1) lines
unfolding line_place
line_place_fits limit start line lines fit = ap (λ t. cond t (place_behind (passes_at limit) 1 (start + length line + 1) lines) start) fit

pub line_place_over : (limit start : ℕ) (line : List ℕ) (lines : List (List ℕ)) → fits limit (without_cr line) ≡ false → line_place limit start (line ∷ lines) ≡ start
unfolding line_place
line_place_over limit start line lines long = ap (λ t. cond t (place_behind (passes_at limit) 1 (start + length line + 1) lines) start) long

-- where the content of a line begins, unless it is blank
abbrev pub kept_place : ℕ → List ℕ → List ℕ
kept_place place content = cond (is_blank content) [] (place ∷ [])

pub no_places : (limit start : ℕ) → places_from limit start [] ≡ []
unfolding placed_line_contents
no_places limit start = refl

pub places_fit : (limit start : ℕ) (line : List ℕ) (lines : List (List ℕ)) → fits limit (without_cr line) ≡ true
    → places_from limit start (line ∷ lines) ≡ kept_place (capped start) (without_cr line) ++ places_from limit (start + length line + 1) lines
unfolding placed_line_contents
places_fit limit start line lines fit =
    ap (λ xs. map (λ placed. capped placed.0) (filter is_kept (map content_at xs)))
    (taken-cons (passes_at limit) 1 start line lines ∙ ap (λ t. cond t ((start, line) ∷ taken (passes_at limit) 1 (start + length line + 1) lines) []) fit)
    ∙ go (is_blank (without_cr line))
  where
    rest : List (ℕ × List ℕ)
    rest = filter is_kept (map content_at (taken (passes_at limit) 1 (start + length line + 1) lines))

    go : (t : Bool) → map (λ placed. capped placed.0) (cond (not t) ((start, without_cr line) ∷ rest) rest) ≡ cond t [] (capped start ∷ []) ++ map (λ placed. capped placed.0) rest
    go true = refl
    go false = refl

pub places_over : (limit start : ℕ) (line : List ℕ) (lines : List (List ℕ)) → fits limit (without_cr line) ≡ false → places_from limit start (line ∷ lines) ≡ []
unfolding placed_line_contents
places_over limit start line lines long =
    ap (λ xs. map (λ placed. capped placed.0) (filter is_kept (map content_at xs)))
    (taken-cons (passes_at limit) 1 start line lines ∙ ap (λ t. cond t ((start, line) ∷ taken (passes_at limit) 1 (start + length line + 1) lines) []) long)

pub places_behind : (limit start : ℕ) (lines more : List (List ℕ)) → all_fit limit lines ≡ true → places_from limit start (lines ++ more) ≡ places_from limit start lines ++ places_from limit (line_place limit start lines) more
places_behind limit start lines more all =
    ap (map (λ placed. capped placed.0)) (lines_behind limit start lines more all)
    ∙ map-append (λ placed. capped placed.0) (placed_line_contents limit start lines) (placed_line_contents limit (line_place limit start lines) more)

pub places_long : (limit start : ℕ) (lines more : List (List ℕ)) → all_fit limit lines ≡ false → places_from limit start (lines ++ more) ≡ places_from limit start lines
places_long limit start lines more long = ap (map (λ placed. capped placed.0)) (lines_long limit start lines more long)

-- the contents alone
pub placed_texts_are : (limit start : ℕ) (lines : List (List ℕ)) → map (λ placed. placed.1) (placed_line_contents limit start lines) ≡ line_contents limit lines
unfolding placed_line_contents line_contents
placed_texts_are limit start [] = refl
placed_texts_are limit start (line ∷ lines) = go (fits limit (without_cr line)) refl (placed_texts_are limit (start + length line + 1) lines)
  where
    next : ℕ
    next = start + length line + 1

    both : (s : Bool) → map (λ placed. placed.1) (cond (not s) ((start, without_cr line) ∷ placed_line_contents limit next lines) (placed_line_contents limit next lines))
        ≡ cond s [] (without_cr line ∷ []) ++ map (λ placed. placed.1) (placed_line_contents limit next lines)
    both true = refl
    both false = refl

    go : (t : Bool) → fits limit (without_cr line) ≡ t → map (λ placed. placed.1) (placed_line_contents limit next lines) ≡ line_contents limit lines
        → map (λ placed. placed.1) (placed_line_contents limit start (line ∷ lines)) ≡ line_contents limit (line ∷ lines)
    go true e again =
        ap (λ xs. map (λ placed. placed.1) (filter is_kept (map content_at xs))) (taken-cons (passes_at limit) 1 start line lines ∙ ap (λ t. cond t ((start, line) ∷ taken (passes_at limit) 1 next lines) []) e)
        ∙ both (is_blank (without_cr line)) ∙ ap (λ xs. kept (without_cr line) ++ xs) again ∙ sym (first_fits limit line lines e)
    go false e again =
        ap (λ xs. map (λ placed. placed.1) (filter is_kept (map content_at xs))) (taken-cons (passes_at limit) 1 start line lines ∙ ap (λ t. cond t ((start, line) ∷ taken (passes_at limit) 1 next lines) []) e)
        ∙ sym (first_is_too_long limit line lines e)
