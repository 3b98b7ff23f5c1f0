-- A greater limit changes nothing where no content is too large.
use Rattle.std.proofs.Common.{◌≡◌, ◌≢◌, ℕ, ◌-◌, ◌≤◌, ◌==◌, Bool, true, false, cond, ltb, List, length, take, [], ◌∷◌, Option, Some, None, Result, Ok, Err, refl, ap, sym, ◌∙◌, arith, codes}
use Rattle.std.proofs.lemmas.Grind.{common_steps}
use Rattle.std.specs.List.{slice_index}
use Rattle.lsp_frames.specs.Fields.{field_of, is_named, length_of, is_long_number, is_foreign}
use Rattle.lsp_frames.specs.Lines.{no_fields, with_length, fields_with_length, fields_with, fields_after, line_of, meaning_of, line_meaning}
use Rattle.lsp_frames.specs.Heads.{HeadRead, Ends, Breaks, Unended, Step, Goes, Completes, Shows, line_step, within, step, head_from, head_at}
use Rattle.lsp_frames.specs.Frames.{Front, Whole, Faulty, Less, front_of, front}
use Rattle.lsp_frames.specs.Contents.{Standing, Open, Broken, IsContents}
use Rattle.lsp_frames.specs.declared.frame.Frame.{Frame}
use Rattle.lsp_frames.specs.declared.frame.FrameFault.{FrameFault}
use Rattle.lsp_frames.specs.declared.frame.FrameFault.TheVariants.{BadHead, TooLarge}
use Rattle.lsp_frames.specs.declared.line.Fields.{Fields}
use Rattle.lsp_frames.specs.declared.line.Line.{Line}
use Rattle.lsp_frames.specs.declared.line.Line.TheVariants.{Fault}
use Rattle.lsp_frames.proofs.Reading.{after_step, head_from-cons, head_from-nil}

-- a choice whose first way stays the same, unless it is the one that isn't taken
choice_stays : {X : Type 0} (t : Bool) (x y z bad : X) → (y ≢ bad → x ≡ y) → cond t y z ≢ bad → cond t x z ≡ cond t y z
choice_stays true x y z bad same other = same other
choice_stays false x y z bad same other = refl

length_stays : (limit greater : ℕ) (fields : Fields) (is_long : Bool) (n : Option ℕ) → limit ≤ greater → with_length limit fields is_long n ≢ Err TooLarge → with_length greater fields is_long n ≡ with_length limit fields is_long n
length_stays limit greater fields is_long None more fits = refl
length_stays limit greater fields is_long (Some n) more fits = go (ltb limit n) refl
  where
    go : (t : Bool) → ltb limit n ≡ t → with_length greater fields is_long (Some n) ≡ with_length limit fields is_long (Some n)
    go true large =
        let is : with_length limit fields is_long (Some n) ≡ Err TooLarge = rw large in
        absurd (fits is)
    go false small =
        let low : ltb greater n ≡ false = grind (arith, common_steps) in
        rw (low, small)

first_length_stays : (limit greater : ℕ) (fields : Fields) (before : Option ℕ) (value : List ℕ) → limit ≤ greater → fields_with_length limit fields before value ≢ Err TooLarge → fields_with_length greater fields before value ≡ fields_with_length limit fields before value
first_length_stays limit greater fields None value more fits = length_stays limit greater fields (is_long_number value) (length_of value) more fits
first_length_stays limit greater fields (Some n) value more fits = refl

field_stays : (limit greater : ℕ) (fields : Fields) (field : Option (List ℕ × List ℕ)) → limit ≤ greater → fields_with limit fields field ≢ Err TooLarge → fields_with greater fields field ≡ fields_with limit fields field
field_stays limit greater fields None more fits = refl
field_stays limit greater fields (Some (name, value)) more fits =
    choice_stays (is_named name (codes "Content-Length")) _ _ _ (Err TooLarge) (first_length_stays limit greater fields fields.content_length value more) fits

fields_stay : (limit greater : ℕ) (fields : Fields) (line : List ℕ) → limit ≤ greater → fields_after limit fields line ≢ Err TooLarge → fields_after greater fields line ≡ fields_after limit fields line
unfolding fields_after
fields_stay limit greater fields line more fits = field_stays limit greater fields (field_of line) more fits

text_stays : (limit greater : ℕ) (fields : Fields) (text : List ℕ) → limit ≤ greater → meaning_of limit fields text ≢ Fault TooLarge → meaning_of greater fields text ≡ meaning_of limit fields text
text_stays limit greater fields [] more fits = refl
text_stays limit greater fields (b ∷ bytes) more fits = ap line_of (fields_stay limit greater fields (b ∷ bytes) more (λ e. fits (ap line_of e)))

line_stays : (limit greater : ℕ) (fields : Fields) (text : List ℕ) → limit ≤ greater → line_meaning limit fields text ≢ Fault TooLarge → line_meaning greater fields text ≡ line_meaning limit fields text
unfolding line_meaning
line_stays limit greater fields text more fits = choice_stays (slice_index text (length text - 1) == 13) _ _ (Fault BadHead) (Fault TooLarge)
    (text_stays limit greater fields (take (length text - 1) text) more) fits

step_stays : (limit greater : ℕ) (fields : Fields) (line : List ℕ) (room b : ℕ) → limit ≤ greater → step limit fields line room b ≢ Shows TooLarge → step greater fields line room b ≡ step limit fields line room b
unfolding step
step_stays limit greater fields line room b more fits =
    choice_stays (b == 10) _ _ _ (Shows TooLarge) (λ others. ap (line_step room) (line_stays limit greater fields line more (λ e. others (ap (line_step room) e)))) fits

head_stays : (limit greater : ℕ) (fields : Fields) (line : List ℕ) (room : ℕ) (bytes : List ℕ) → limit ≤ greater → head_from limit fields line room bytes ≢ Breaks TooLarge → head_from greater fields line room bytes ≡ head_from limit fields line room bytes
head_stays limit greater fields line room [] more fits = head_from-nil greater fields line room ∙ sym (head_from-nil limit fields line room)
head_stays limit greater fields line room (b ∷ bytes) more fits =
    let is = head_from-cons limit fields line room b bytes in
    let one = step_stays limit greater fields line room b more (λ e. fits (is ∙ ap (after_step limit room bytes) e)) in
    head_from-cons greater fields line room b bytes ∙ ap (after_step greater room bytes) one
    ∙ go (step limit fields line room b) (λ e. fits (is ∙ e)) (λ next after. head_stays limit greater next after (room - 1) bytes more) ∙ sym is
  where
    go : (s : Step) → after_step limit room bytes s ≢ Breaks TooLarge → ((next : Fields) (after : List ℕ) → head_from limit next after (room - 1) bytes ≢ Breaks TooLarge → head_from greater next after (room - 1) bytes ≡ head_from limit next after (room - 1) bytes) → after_step greater room bytes s ≡ after_step limit room bytes s
    go (Goes next after) others again = again next after others
    go (Completes n foreign) others again = refl
    go (Shows fault) others again = refl

front_stays : (limit greater : ℕ) (bytes : List ℕ) → limit ≤ greater → front limit bytes ≢ Faulty TooLarge → front greater bytes ≡ front limit bytes
unfolding front head_at
front_stays limit greater bytes more fits = ap front_of (head_stays limit greater no_fields [] 4096 bytes more (λ e. fits (ap front_of e)))

pub contents_stay : (limit greater : ℕ) (bytes : List ℕ) (frames : List Frame) (standing : Standing) → limit ≤ greater → standing ≢ Broken TooLarge → IsContents limit bytes frames standing → IsContents greater bytes frames standing
contents_stay limit greater bytes [] (Open rest) more fits are = (front_stays limit greater bytes more (λ e. no_fault (sym are.0 ∙ e)) ∙ are.0, are.1)
  where
    no_fault : Less ≡ Faulty TooLarge → ⊥
    no_fault e = cc
contents_stay limit greater bytes [] (Broken fault) more fits are = front_stays limit greater bytes more (λ e. fits (ap Broken (same (sym are ∙ e)))) ∙ are
  where
    same : Faulty fault ≡ Faulty TooLarge → fault ≡ TooLarge
    same e = cc
contents_stay limit greater bytes (frame ∷ frames) standing more fits are =
    (are.0, front_stays limit greater bytes more (λ e. no_fault (sym are.1 ∙ e)) ∙ are.1, contents_stay limit greater are.0 frames standing more fits are.2)
  where
    no_fault : Whole frame are.0 ≡ Faulty TooLarge → ⊥
    no_fault e = cc
