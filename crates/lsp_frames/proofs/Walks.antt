-- Reading whole lines at once.
use Rattle.std.proofs.Common.{◌≡◌, ℕ, zero, suc, ◌+◌, ◌-◌, ◌<◌, ◌≤◌, ◌≢◌, Bool, true, List, [], ◌∷◌, ◌++◌, length, Some, Ok, refl, ap, sym, ◌∙◌, arith, append-nil, append_assoc, length-append, codes}
use Rattle.std.specs.List.{list_all}
use Rattle.std.proofs.lemmas.List.Folds.{list_all-append}
use Rattle.lsp_frames.specs.Lines.{fields_after}
use Rattle.lsp_frames.specs.Heads.{Ends, Breaks, Goes, step, head_from}
use Rattle.lsp_frames.specs.Frames.{lines_text, head_text, Say, HasNoLf}
use Rattle.lsp_frames.specs.declared.frame.FrameFault.TheVariants.{HeadTooLong}
use Rattle.lsp_frames.specs.declared.line.Fields.{Fields}
use Rattle.lsp_frames.proofs.Choices.{both}
use Rattle.lsp_frames.proofs.Reading.{after_step, head_from-cons, step_other, step_other_full, step_more, step_more_full, step_end}
use Rattle.lsp_frames.proofs.Saying.{is_no_lf, IsLine, fields_after_is_line, meaning_of_line, meaning_of_empty}

-- a byte that goes on
pub walk_byte : (limit : ℕ) (fields next : Fields) (line more : List ℕ) (room b : ℕ) (bytes : List ℕ) → step limit fields line room b ≡ Goes next more → head_from limit fields line room (b ∷ bytes) ≡ head_from limit next more (room - 1) bytes
walk_byte limit fields next line more room b bytes e = head_from-cons limit fields line room b bytes ∙ ap (after_step limit room bytes) e

pub no_lf_head : (b : ℕ) (bytes : List ℕ) → HasNoLf (b ∷ bytes) → (b ≢ 10) × HasNoLf bytes
no_lf_head b bytes h =
    let parts = both (is_no_lf b) (list_all is_no_lf bytes) h in
    ((λ e. let lf : is_no_lf 10 ≡ true = rw e at parts.0 in cc), parts.1)

-- bytes within a line
pub walk_part : (limit : ℕ) (fields : Fields) (line part : List ℕ) (room : ℕ) (more : List ℕ) → HasNoLf part → length part < room → head_from limit fields line room (part ++ more) ≡ head_from limit fields (line ++ part) (room - length part) more
walk_part limit fields line [] room more h k =
    let left : room ≡ room - 0 = omega arith in
    ap (λ (l : List ℕ). head_from limit fields l room more) (sym (append-nil line)) ∙ ap (λ (n : ℕ). head_from limit fields (line ++ []) n more) left
walk_part limit fields line (b ∷ part) room more h k =
    let parts = no_lf_head b part h in
    let left : room - 1 - length part ≡ room - length (b ∷ part) = omega arith in
    let joined : (line ++ b ∷ []) ++ part ≡ line ++ b ∷ part = append_assoc line (b ∷ []) part in
    walk_byte limit fields fields line (line ++ b ∷ []) room b (part ++ more) (step_other limit fields line room b parts.0 (omega arith))
    ∙ walk_part limit fields (line ++ b ∷ []) part (room - 1) more parts.1 (omega arith)
    ∙ ap (λ (l : List ℕ). head_from limit fields l (room - 1 - length part) more) joined
    ∙ ap (λ (n : ℕ). head_from limit fields (line ++ b ∷ part) n more) left

-- bytes of a line up to the head's last byte
pub walk_full : (limit : ℕ) (fields : Fields) (line part : List ℕ) (room : ℕ) (more : List ℕ) → HasNoLf part → length part ≡ room → 1 ≤ room → head_from limit fields line room (part ++ more) ≡ Breaks HeadTooLong
walk_full limit fields line [] room more h k l = absurd (omega arith)
walk_full limit fields line (b ∷ []) room more h k l =
    let parts = no_lf_head b [] h in
    head_from-cons limit fields line room b more ∙ ap (after_step limit room more) (step_other_full limit fields line room b parts.0 (omega arith))
walk_full limit fields line (b ∷ c ∷ part) room more h k l =
    let parts = no_lf_head b (c ∷ part) h in
    walk_byte limit fields fields line (line ++ b ∷ []) room b (c ∷ part ++ more) (step_other limit fields line room b parts.0 (omega arith))
    ∙ walk_full limit fields (line ++ b ∷ []) (c ∷ part) (room - 1) more parts.1 (omega arith) (omega arith)

pub no_lf_cr : (line : List ℕ) → HasNoLf line → HasNoLf (line ++ 13 ∷ [])
no_lf_cr line h = rw (list_all-append is_no_lf line (13 ∷ []), h)

-- a line's bytes with its CR, up to its LF
pub walk_to_lf : (limit : ℕ) (fields next : Fields) (line : List ℕ) (room : ℕ) (more : List ℕ) → fields_after limit fields line ≡ Ok next → length line + 1 < room → head_from limit fields [] room ((line ++ codes "\r\n") ++ more) ≡ head_from limit fields (line ++ 13 ∷ []) (room - (length line + 1)) (10 ∷ more)
walk_to_lf limit fields next line room more h k =
    let is : IsLine line = fields_after_is_line limit fields next line h in
    let cut : (line ++ codes "\r\n") ++ more ≡ (line ++ 13 ∷ []) ++ 10 ∷ more = append_assoc line (codes "\r\n") more ∙ sym (append_assoc line (13 ∷ []) (10 ∷ more)) in
    let size : length (line ++ 13 ∷ []) ≡ length line + 1 = length-append line (13 ∷ []) in
    ap (head_from limit fields [] room) cut
    ∙ walk_part limit fields [] (line ++ 13 ∷ []) room (10 ∷ more) (no_lf_cr line is.no_lf) (omega arith)
    ∙ ap (λ (n : ℕ). head_from limit fields (line ++ 13 ∷ []) (room - n) (10 ∷ more)) size

-- a line that adds to the fields
pub walk_line : (limit : ℕ) (fields next : Fields) (line : List ℕ) (room : ℕ) (more : List ℕ) → fields_after limit fields line ≡ Ok next → length line + 2 < room → head_from limit fields [] room ((line ++ codes "\r\n") ++ more) ≡ head_from limit next [] (room - (length line + 2)) more
walk_line limit fields next line room more h k =
    let left : room - (length line + 1) - 1 ≡ room - (length line + 2) = omega arith in
    walk_to_lf limit fields next line room more h (omega arith)
    ∙ walk_byte limit fields next (line ++ 13 ∷ []) [] (room - (length line + 1)) 10 more (step_more limit fields (line ++ 13 ∷ []) (room - (length line + 1)) next (meaning_of_line limit fields next line h) (omega arith))
    ∙ ap (λ (n : ℕ). head_from limit next [] n more) left

-- a line that fills the head
pub walk_last_line : (limit : ℕ) (fields next : Fields) (line : List ℕ) (room : ℕ) (more : List ℕ) → fields_after limit fields line ≡ Ok next → length line + 2 ≡ room → head_from limit fields [] room ((line ++ codes "\r\n") ++ more) ≡ Breaks HeadTooLong
walk_last_line limit fields next line room more h k =
    walk_to_lf limit fields next line room more h (omega arith)
    ∙ head_from-cons limit fields (line ++ 13 ∷ []) (room - (length line + 1)) 10 more
    ∙ ap (after_step limit (room - (length line + 1)) more) (step_more_full limit fields (line ++ 13 ∷ []) (room - (length line + 1)) next (meaning_of_line limit fields next line h) (omega arith))

pub lines_text-cons : (line : List ℕ) (lines : List (List ℕ)) (more : List ℕ) → lines_text (line ∷ lines) ++ more ≡ (line ++ codes "\r\n") ++ (lines_text lines ++ more)
lines_text-cons line lines more = append_assoc (line ++ codes "\r\n") (lines_text lines) more

pub length_lines_text-cons : (line : List ℕ) (lines : List (List ℕ)) → length (lines_text (line ∷ lines)) ≡ length line + 2 + length (lines_text lines)
length_lines_text-cons line lines = length-append (line ++ codes "\r\n") (lines_text lines) ∙ ap (λ (n : ℕ). n + length (lines_text lines)) (length-append line (codes "\r\n"))

-- lines that add to the fields
pub walk_lines : (limit : ℕ) (fields after : Fields) (lines : List (List ℕ)) (room : ℕ) (more : List ℕ) → Say limit fields lines after → length (lines_text lines) < room → head_from limit fields [] room (lines_text lines ++ more) ≡ head_from limit after [] (room - length (lines_text lines)) more
walk_lines limit fields after [] room more say k =
    let left : room ≡ room - 0 = omega arith in
    ap (λ (f : Fields). head_from limit f [] room more) say ∙ ap (λ (n : ℕ). head_from limit after [] n more) left
walk_lines limit fields after (line ∷ lines) room more say k =
    let size : length (lines_text (line ∷ lines)) ≡ length line + 2 + length (lines_text lines) = length_lines_text-cons line lines in
    let left : room - (length line + 2) - length (lines_text lines) ≡ room - length (lines_text (line ∷ lines)) = omega arith in
    ap (head_from limit fields [] room) (lines_text-cons line lines more)
    ∙ walk_line limit fields say.0 line room (lines_text lines ++ more) say.1 (omega arith)
    ∙ walk_lines limit say.0 after lines (room - (length line + 2)) more say.2 (omega arith)
    ∙ ap (λ (n : ℕ). head_from limit after [] n more) left

-- the empty line
pub walk_end : (limit n : ℕ) (foreign : Bool) (room : ℕ) (more : List ℕ) → 2 ≤ room → head_from limit (record { content_length = Some n; foreign = foreign }) [] room (codes "\r\n" ++ more) ≡ Ends n foreign more
walk_end limit n foreign room more k =
    let fields : Fields = record { content_length = Some n; foreign = foreign } in
    walk_byte limit fields fields [] (13 ∷ []) room 13 (10 ∷ more) (step_other limit fields [] room 13 (λ e. cc) k)
    ∙ head_from-cons limit fields (13 ∷ []) (room - 1) 10 more
    ∙ ap (after_step limit (room - 1) more) (step_end limit fields (13 ∷ []) (room - 1) n foreign (meaning_of_empty limit n foreign))

-- a whole head
pub walk_head : (limit n : ℕ) (foreign : Bool) (fields : Fields) (lines : List (List ℕ)) (room : ℕ) (more : List ℕ) → Say limit fields lines (record { content_length = Some n; foreign = foreign }) → length (head_text lines) ≤ room → head_from limit fields [] room (head_text lines ++ more) ≡ Ends n foreign more
walk_head limit n foreign fields lines room more say k =
    let size : length (head_text lines) ≡ length (lines_text lines) + 2 = length-append (lines_text lines) (codes "\r\n") in
    ap (head_from limit fields [] room) (append_assoc (lines_text lines) (codes "\r\n") more)
    ∙ walk_lines limit fields (record { content_length = Some n; foreign = foreign }) lines room (codes "\r\n" ++ more) say (omega arith)
    ∙ walk_end limit n foreign (room - length (lines_text lines)) more (omega arith)

-- lines that fill the head
pub walk_too_long : (limit : ℕ) (fields after : Fields) (lines : List (List ℕ)) (part : List ℕ) (room : ℕ) (more : List ℕ) → Say limit fields lines after → HasNoLf part → length (lines_text lines ++ part) ≡ room → 1 ≤ room → head_from limit fields [] room ((lines_text lines ++ part) ++ more) ≡ Breaks HeadTooLong
walk_too_long limit fields after [] part room more say h k l = walk_full limit fields [] part room more h k l
walk_too_long limit fields after (line ∷ lines) part room more say h k l =
    let size : length (lines_text (line ∷ lines)) ≡ length line + 2 + length (lines_text lines) = length_lines_text-cons line lines in
    let all : length (lines_text (line ∷ lines) ++ part) ≡ length (lines_text (line ∷ lines)) + length part = length-append (lines_text (line ∷ lines)) part in
    let rest : length (lines_text lines ++ part) ≡ length (lines_text lines) + length part = length-append (lines_text lines) part in
    let cut : (lines_text (line ∷ lines) ++ part) ++ more ≡ (line ++ codes "\r\n") ++ ((lines_text lines ++ part) ++ more) =
    append_assoc (lines_text (line ∷ lines)) part more ∙ lines_text-cons line lines (part ++ more) ∙ ap (λ (xs : List ℕ). (line ++ codes "\r\n") ++ xs) (sym (append_assoc (lines_text lines) part more)) in
    let again : (r : ℕ) → length (lines_text lines ++ part) ≡ r → 1 ≤ r → head_from limit say.0 [] r ((lines_text lines ++ part) ++ more) ≡ Breaks HeadTooLong =
    λ r e f. walk_too_long limit say.0 after lines part r more say.2 h e f in
    ap (head_from limit fields [] room) cut ∙ go (length (lines_text lines ++ part)) refl (omega arith) again
  where
    go : (n : ℕ) → length (lines_text lines ++ part) ≡ n → length line + 2 + n ≡ room → ((r : ℕ) → length (lines_text lines ++ part) ≡ r → 1 ≤ r → head_from limit say.0 [] r ((lines_text lines ++ part) ++ more) ≡ Breaks HeadTooLong) → head_from limit fields [] room ((line ++ codes "\r\n") ++ ((lines_text lines ++ part) ++ more)) ≡ Breaks HeadTooLong
    go zero e f again = walk_last_line limit fields say.0 line room ((lines_text lines ++ part) ++ more) say.1 (omega arith)
    go (suc n) e f again =
        walk_line limit fields say.0 line room ((lines_text lines ++ part) ++ more) say.1 (omega arith)
        ∙ again (room - (length line + 2)) (omega arith) (omega arith)
