-- Lines up to the first that is too long.
use Rattle.std.proofs.Common.{arith, ◌≡◌, ℕ, Bool, true, false, cond, not, ◌&&◌, List, [], ◌∷◌, ◌++◌, map, refl, ap, ◌∙◌}
use Rattle.std.specs.List.{list_all, take_while, filter}
use Rattle.std.proofs.lemmas.Bool.Decides.{nat_tests}
use Rattle.std.proofs.lemmas.List.{map-append}
use Rattle.std.proofs.lemmas.List.Elements.{filter-append}
use Rattle.lsp_frames.specs.declared.frame.Frame.{Frame}
use Rattle.content_streams.specs.Lines.{fits}
use Rattle.content_streams.specs.Streams.{plain}
use Rattle.content_streams.proofs.Fitting.{take_while-cons, all_first, not_all_first, not_all_append, all_append}
use Rattle.stream_framing.specs.Lines.{is_empty, all_fit, whole_contents}

abbrev some : List ℕ → Bool
some line = not (is_empty line)

pub whole_all_first : (limit : ℕ) (lines more : List (List ℕ)) → all_fit limit lines ≡ true → whole_contents limit (lines ++ more) ≡ whole_contents limit lines ++ whole_contents limit more
unfolding all_fit whole_contents
whole_all_first limit lines more all =
    ap (λ xs. map plain (filter some xs)) (all_first (fits limit) lines more all)
    ∙ ap (map plain) (filter-append some (take_while (fits limit) lines) (take_while (fits limit) more))
    ∙ map-append plain (filter some (take_while (fits limit) lines)) (filter some (take_while (fits limit) more))

pub whole_not_all_first : (limit : ℕ) (lines more : List (List ℕ)) → all_fit limit lines ≡ false → whole_contents limit (lines ++ more) ≡ whole_contents limit lines
unfolding all_fit whole_contents
whole_not_all_first limit lines more isnt = ap (λ xs. map plain (filter some xs)) (not_all_first (fits limit) lines more isnt)

pub all_fit_behind : (limit : ℕ) (lines more : List (List ℕ)) → all_fit limit lines ≡ true → all_fit limit (lines ++ more) ≡ all_fit limit more
unfolding all_fit
all_fit_behind limit lines more all = all_append (fits limit) lines more all

pub not_all_fit : (limit : ℕ) (lines more : List (List ℕ)) → all_fit limit lines ≡ false → all_fit limit (lines ++ more) ≡ false
unfolding all_fit
not_all_fit limit lines more isnt = not_all_append (fits limit) lines more isnt

-- the content of a line that isn't too long
abbrev pub kept : List ℕ → List Frame
kept line = cond (is_empty line) [] (plain line ∷ [])

pub first_fits : (limit : ℕ) (line : List ℕ) (lines : List (List ℕ)) → fits limit line ≡ true → whole_contents limit (line ∷ lines) ≡ kept line ++ whole_contents limit lines
unfolding whole_contents
first_fits limit line lines does =
    ap (λ xs. map plain (filter some xs)) (take_while-cons (fits limit) line lines ∙ ap (λ t. cond t (line ∷ take_while (fits limit) lines) []) does) ∙ go (is_empty line)
  where
    go : (t : Bool) → map plain (cond (not t) (line ∷ filter some (take_while (fits limit) lines)) (filter some (take_while (fits limit) lines))) ≡ cond t [] (plain line ∷ []) ++ whole_contents limit lines
    go true = refl
    go false = refl

pub first_is_too_long : (limit : ℕ) (line : List ℕ) (lines : List (List ℕ)) → fits limit line ≡ false → whole_contents limit (line ∷ lines) ≡ []
unfolding whole_contents
first_is_too_long limit line lines isnt = ap (λ xs. map plain (filter some xs)) (take_while-cons (fits limit) line lines ∙ ap (λ t. cond t (line ∷ take_while (fits limit) lines) []) isnt)

pub all_fit-yes : (limit : ℕ) (line : List ℕ) (lines : List (List ℕ)) → fits limit line ≡ true → all_fit limit (line ∷ lines) ≡ all_fit limit lines
unfolding all_fit
all_fit-yes limit line lines does = ap (λ t. t && list_all (fits limit) lines) does

pub all_fit-no : (limit : ℕ) (line : List ℕ) (lines : List (List ℕ)) → fits limit line ≡ false → all_fit limit (line ∷ lines) ≡ false
unfolding all_fit
all_fit-no limit line lines isnt = ap (λ t. t && list_all (fits limit) lines) isnt

pub none_fit : (limit : ℕ) → all_fit limit [] ≡ true
unfolding all_fit
none_fit limit = refl

pub no_lines : (limit : ℕ) → whole_contents limit [] ≡ []
unfolding whole_contents
no_lines limit = refl

pub nothing_fits : (limit : ℕ) → fits limit [] ≡ true
nothing_fits limit = grind (arith, nat_tests)
