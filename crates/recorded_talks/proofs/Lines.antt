-- The lines of a text that is taken piece by piece.
use Rattle.std.proofs.Common.{◌≡◌, ◌≢◌, ℕ, ◌+◌, List, [], ◌∷◌, ◌++◌, Some, None, take, drop, refl, sym, ap, ◌∙◌, append_assoc, append-nil}
use Rattle.std.specs.List.{position}
use Rattle.content_streams.specs.Lines.{parts, is_lf}
use Rattle.content_streams.proofs.LineTexts.{meet, parts-append, parts-some, no_lf, first_line}
use Rattle.recorded_talks.specs.Replays.{lead}

lead_none : (lines : List (List ℕ)) → lines ≢ [] → lines ≡ lead [] lines
lead_none [] some = absurd (some refl)
lead_none (line ∷ lines) some = refl

meet_last : (lines : List (List ℕ)) (line : List ℕ) (others : List (List ℕ)) → meet (lines ++ line ∷ []) others ≡ lines ++ lead line others
meet_last [] line [] = refl
meet_last [] line (next ∷ others) = refl
meet_last (first ∷ []) line others = ap (λ lines. first ∷ lines) (meet_last [] line others)
meet_last (first ∷ second ∷ lines) line others = ap (λ lines. first ∷ lines) (meet_last (second ∷ lines) line others)

pub last_is : (text : List ℕ) (lines : List (List ℕ)) (line : List ℕ) → parts text ≡ lines ++ lead line (parts []) → parts text ≡ lines ++ line ∷ []
last_is text lines line is = is ∙ ap (λ last. lines ++ last ∷ []) (append-nil line)

pub more_text : (text more : List ℕ) (lines : List (List ℕ)) (line : List ℕ) → parts text ≡ lines ++ lead line (parts []) → parts (text ++ more) ≡ lines ++ lead line (parts more)
more_text text more lines line is = parts-append text more ∙ ap (λ of_text. meet of_text (parts more)) (last_is text lines line is) ∙ meet_last lines line (parts more)

-- a line ends
pub line_taken : (text left left' : List ℕ) (lines : List (List ℕ)) (line line' : List ℕ) (end : ℕ) → position is_lf left ≡ Some end → left' ≡ drop (end + 1) left → line' ≡ []
    → parts text ≡ lines ++ lead line (parts left) → parts text ≡ (lines ++ (line ++ take end left) ∷ []) ++ lead line' (parts left')
line_taken text left left' lines line line' end found behind_is empty is =
    let behind = drop (end + 1) left in
    let whole = line ++ take end left in
    is ∙ ap (λ others. lines ++ lead line others) (first_line left end found).1
    ∙ sym (append_assoc lines (whole ∷ []) (parts behind))
    ∙ ap (λ others. (lines ++ whole ∷ []) ++ others) (lead_none (parts behind) (parts-some behind))
    ∙ ap (λ xs. (lines ++ whole ∷ []) ++ lead [] (parts xs)) (sym behind_is)
    ∙ ap (λ xs. (lines ++ whole ∷ []) ++ lead xs (parts left')) (sym empty)

-- none does
pub rest_taken : (text left : List ℕ) (lines : List (List ℕ)) (line : List ℕ) → position is_lf left ≡ None → parts text ≡ lines ++ lead line (parts left) → parts text ≡ lines ++ lead (line ++ left) (parts [])
rest_taken text left lines line none is =
    is ∙ ap (λ others. lines ++ lead line others) (no_lf left none) ∙ ap (λ last. lines ++ last ∷ []) (sym (append-nil (line ++ left)))
