-- A line or a content that a piece ends, or goes on.
use Rattle.std.proofs.Common.{◌≡◌, ℕ, zero, suc, ◌+◌, ◌-◌, ◌*◌, ◌<◌, ◌≤◌, Bool, true, false, not, eqb, List, [], ◌∷◌, ◌++◌, length, take, drop, get_or, Some, None, refl, ap, sym, ◌∙◌, subst, arith, add-one, append-nil, length-append, length-take, length-drop}
use Rattle.std.proofs.lemmas.Grind.{common_steps}
use Rattle.std.proofs.lemmas.List.{take_all, take-append-drop, take_rest, take-take, get_or-take}
use Rattle.std.proofs.lemmas.List.Folds.{list_all_more}
use Rattle.std.proofs.lemmas.List.Quantifiers.{position-Some}
use Rattle.std.proofs.lemmas.List.Sums.{fails_before_first}
use Rattle.std.proofs.Math.Seq.{drop-append-add, take-append-add, drop-cons}
use Rattle.std.specs.List.{position, position_or_len, list_all}
use Rattle.lsp_frames.specs.Lines.{no_fields, line_meaning}
use Rattle.lsp_frames.specs.Heads.{Ends, Breaks, Unended, head_from, head_at}
use Rattle.lsp_frames.specs.Frames.{Whole, content_front, HasNoLf}
use Rattle.lsp_frames.specs.Inner.Partials as inner
use Rattle.lsp_frames.specs.Inner.Partials.{read_at, read_on, HasNoFrame, IsShort, IsUnderWay, measure}
use Rattle.lsp_frames.specs.declared.frame.FrameFault.{FrameFault}
use Rattle.lsp_frames.specs.declared.frame.FrameFault.TheVariants.{HeadTooLong}
use Rattle.lsp_frames.specs.declared.line.Fields.{Fields}
use Rattle.lsp_frames.specs.declared.line.Line.TheVariants as lines
use Rattle.lsp_frames.specs.declared.partial.Place.{Place}
use Rattle.lsp_frames.specs.declared.partial.Stage.{Stage}
use Rattle.lsp_frames.specs.declared.partial.Stage.TheVariants as stages
use Rattle.lsp_frames.proofs.Reading.{after_step, head_from-cons, head_from-nil, step_more, step_more_full, step_end, step_fault}
use Rattle.lsp_frames.proofs.Saying.{is_no_lf}
use Rattle.lsp_frames.proofs.Walks.{walk_byte, walk_part, walk_full}
use Rattle.lsp_frames.proofs.Fronts.{frame_of, content_whole}

-- behind an LF

pub goes_at_lf : (limit : ℕ) (fields next : Fields) (text : List ℕ) (room : ℕ) (more : List ℕ) → line_meaning limit fields text ≡ lines.More next → 1 < room →
    head_from limit next [] (room - 1) more ≡ head_from limit fields text room (10 ∷ more)
goes_at_lf limit fields next text room more h k = sym (walk_byte limit fields next text [] room 10 more (step_more limit fields text room next h (omega arith)))

pub full_at_lf : (limit : ℕ) (fields next : Fields) (text : List ℕ) (room : ℕ) (more : List ℕ) → line_meaning limit fields text ≡ lines.More next → room ≤ 1 →
    Breaks HeadTooLong ≡ head_from limit fields text room (10 ∷ more)
full_at_lf limit fields next text room more h k = sym (head_from-cons limit fields text room 10 more ∙ ap (after_step limit room more) (step_more_full limit fields text room next h k))

pub ends_at_lf : (limit : ℕ) (fields : Fields) (text : List ℕ) (room n : ℕ) (foreign : Bool) (more : List ℕ) → line_meaning limit fields text ≡ lines.End n foreign →
    Ends n foreign more ≡ head_from limit fields text room (10 ∷ more)
ends_at_lf limit fields text room n foreign more h = sym (head_from-cons limit fields text room 10 more ∙ ap (after_step limit room more) (step_end limit fields text room n foreign h))

pub breaks_at_lf : (limit : ℕ) (fields : Fields) (text : List ℕ) (room : ℕ) (fault : FrameFault) (more : List ℕ) → line_meaning limit fields text ≡ lines.Fault fault →
    Breaks fault ≡ head_from limit fields text room (10 ∷ more)
breaks_at_lf limit fields text room fault more h = sym (head_from-cons limit fields text room 10 more ∙ ap (after_step limit room more) (step_fault limit fields text room fault h))

-- where the first LF is

no_lf_to : (bytes : List ℕ) (i : ℕ) → i ≤ length bytes → ((k : ℕ) → k < i → eqb (get_or bytes k 0) 10 ≡ false) → HasNoLf (take i bytes)
no_lf_to bytes zero h none = refl
no_lf_to bytes (suc i) h none =
    let before : list_all is_no_lf (take i bytes) ≡ true = no_lf_to bytes i (omega arith) (λ k l. none k (omega arith)) in
    let here : is_no_lf (get_or bytes i 0) ≡ true = ap not (none i (omega arith)) in
    let P : ℕ → Type 0 = λ n. list_all is_no_lf (take n bytes) ≡ true in
    subst P (add-one i) (list_all_more is_no_lf bytes i 0 (omega arith) ∙ rw (before, here))

pub record IsLineEnd (bytes : List ℕ) (room end : ℕ) : Type 0 where
  pub has_room : end < room
  pub within : end < length bytes
  pub one_line : HasNoLf (take end bytes)
  pub whole : bytes ≡ take end bytes ++ 10 ∷ drop (end + 1) bytes

pub line_end_at : (bytes : List ℕ) (room end : ℕ) → position (λ b. eqb b 10) (take room bytes) ≡ Some end → IsLineEnd bytes room end
line_end_at bytes room end h =
    let size = length-take room bytes in
    let found = position-Some (λ b. eqb b 10) (take room bytes) end 0 h in
    let inside : end < length (take room bytes) = found.0 in
    let here : end < length bytes = omega (arith, size) in
    let roomy : end < room = omega (arith, size) in
    let lf : get_or (take room bytes) end 0 ≡ 10 = grind (arith, common_steps, found.1) in
    let P : List ℕ → Type 0 = λ xs. list_all is_no_lf xs ≡ true in
    let front : take end (take room bytes) ≡ take end bytes = take-take end room bytes (omega arith) in
    record {
      has_room = roomy;
      within = here;
      one_line = subst P front (no_lf_to (take room bytes) end (omega arith) found.2);
      whole =
          sym (take-append-drop end bytes)
          ∙ ap (λ (xs : List ℕ). take end bytes ++ xs)
          (drop-cons bytes end 0 here ∙ ap (λ (b : ℕ). b ∷ drop (suc end) bytes) (sym (get_or-take room bytes end 0 roomy) ∙ lf) ∙ ap (λ (n : ℕ). 10 ∷ drop n bytes) (sym (add-one end)));
    }

pub no_line_end : (bytes : List ℕ) (room : ℕ) → position (λ b. eqb b 10) (take room bytes) ≡ None → HasNoLf (take room bytes)
no_line_end bytes room h =
    let all : length (take room bytes) ≤ position_or_len (λ b. eqb b 10) (take room bytes) = grind (arith, common_steps) in
    let none : HasNoLf (take (length (take room bytes)) (take room bytes)) = no_lf_to (take room bytes) (length (take room bytes)) (omega arith) (λ k l. fails_before_first (λ b. eqb b 10) (take room bytes) k 0 (omega arith)) in
    let P : List ℕ → Type 0 = λ xs. list_all is_no_lf xs ≡ true in
    subst P (take_all (length (take room bytes)) (take room bytes) (omega arith)) none

-- a line

pub line_ends : (limit : ℕ) (fields : Fields) (held piece : List ℕ) (room end : ℕ) → IsLineEnd piece room end →
    head_from limit fields held room piece ≡ head_from limit fields (held ++ take end piece) (room - end) (10 ∷ drop (end + 1) piece)
line_ends limit fields held piece room end e =
    let size : length (take end piece) ≡ end = omega (arith, length-take end piece, e.within) in
    ap (head_from limit fields held room) e.whole
    ∙ walk_part limit fields held (take end piece) room (10 ∷ drop (end + 1) piece) e.one_line (omega (arith, size, e.has_room))
    ∙ ap (λ (n : ℕ). head_from limit fields (held ++ take end piece) (room - n) (10 ∷ drop (end + 1) piece)) size

measure_most : (stage : Stage) (bytes : List ℕ) → measure stage bytes ≤ 2 * length bytes + 1
measure_most (stages.Head place) bytes = omega arith
measure_most (stages.Content n foreign) bytes = omega arith
measure_most (stages.Ended fault) bytes = omega arith

abbrev pub IsNext : ℕ → Stage → List ℕ → List ℕ → List ℕ → Stage → List ℕ → Type 0
IsNext limit stage held piece whole next rest =
    (measure next rest < measure stage piece) × inner.Completes limit stage whole next rest (read_on limit (read_at stage held) piece)

pub line_completes : (limit : ℕ) (stage : Stage) (place : Place) (held piece whole : List ℕ) (next : Stage) (end : ℕ) → stage ≡ stages.Head place → position (λ b. eqb b 10) (take place.room piece) ≡ Some end →
    ((more : List ℕ) → read_on limit (read_at next []) more ≡ head_from limit place.fields (held ++ take end piece) (place.room - end) (10 ∷ more)) →
    IsNext limit stage held piece whole next (take (length piece - (end + 1)) (drop (end + 1) piece))
line_completes limit stage place held piece whole next end e p read =
    let line : IsLineEnd piece place.room end = line_end_at piece place.room end p in
    let P : Stage → Type 0 = λ s. IsNext limit s held piece whole next (take (length piece - (end + 1)) (drop (end + 1) piece)) in
    let Q : List ℕ → Type 0 = λ rest. IsNext limit (stages.Head place) held piece whole next rest in
    let smaller : measure next (drop (end + 1) piece) < 2 * length piece = omega (arith, measure_most next (drop (end + 1) piece), length-drop (end + 1) piece, line.within) in
    let reads : head_from limit place.fields held place.room piece ≡ read_on limit (read_at next []) (drop (end + 1) piece) =
    line_ends limit place.fields held piece place.room end line ∙ sym (read (drop (end + 1) piece)) in
    subst P (sym e) (subst Q (sym (take_rest piece (end + 1))) (smaller, reads))

pub line_goes_on : (limit : ℕ) (stage : Stage) (place : Place) (held piece : List ℕ) → stage ≡ stages.Head place → position (λ b. eqb b 10) (take place.room piece) ≡ None → length piece < place.room →
    Unended (record { fields = place.fields; line = held ++ piece; room = place.room - length piece }) ≡ read_on limit (read_at stage held) piece
line_goes_on limit stage place held piece e p k =
    let P : List ℕ → Type 0 = λ xs. list_all is_no_lf xs ≡ true in
    let one_line : HasNoLf piece = subst P (take_all place.room piece (omega arith)) (no_line_end piece place.room p) in
    sym (ap (λ (s : Stage). read_on limit (read_at s held) piece) e
    ∙ ap (head_from limit place.fields held place.room) (sym (append-nil piece))
    ∙ walk_part limit place.fields held piece place.room [] one_line k
    ∙ head_from-nil limit place.fields (held ++ piece) (place.room - length piece))

pub line_too_long : (limit : ℕ) (stage : Stage) (place : Place) (held piece : List ℕ) → stage ≡ stages.Head place → position (λ b. eqb b 10) (take place.room piece) ≡ None → place.room ≤ length piece → 0 < place.room →
    Breaks HeadTooLong ≡ read_on limit (read_at stage held) piece
line_too_long limit stage place held piece e p k l =
    let size : length (take place.room piece) ≡ place.room = omega (arith, length-take place.room piece) in
    sym (ap (λ (s : Stage). read_on limit (read_at s held) piece) e
    ∙ ap (head_from limit place.fields held place.room) (sym (take-append-drop place.room piece))
    ∙ walk_full limit place.fields held (take place.room piece) place.room (drop place.room piece) (no_line_end piece place.room p) size (omega arith))

-- a content

abbrev pub first : Place
first = record { fields = no_fields; room = 4096 }

pub nothing_read : (limit : ℕ) (bytes : List ℕ) → read_on limit (read_at (stages.Head first) []) bytes ≡ head_at limit bytes
unfolding head_at
nothing_read limit bytes = refl

content_ends : (n : ℕ) (foreign : Bool) (held piece : List ℕ) → length held ≤ n → n - length held ≤ length piece →
    content_front n foreign (held ++ piece) ≡ Whole (frame_of (held ++ take (n - length held) piece) foreign) (drop (n - length held) piece)
content_ends n foreign held piece k l =
    let sum : n ≡ length held + (n - length held) = omega arith in
    content_whole n foreign (held ++ piece) (omega (arith, length-append held piece))
    ∙ ap (λ (xs : List ℕ). Whole (frame_of xs foreign) (drop n (held ++ piece))) (ap (λ (m : ℕ). take m (held ++ piece)) sum ∙ take-append-add held piece (n - length held))
    ∙ ap (Whole (frame_of (held ++ take (n - length held) piece) foreign)) (ap (λ (m : ℕ). drop m (held ++ piece)) sum ∙ drop-append-add held piece (n - length held))

pub content_completes : (limit : ℕ) (stage : Stage) (n : ℕ) (foreign : Bool) (held piece whole last rest : List ℕ) (had : ℕ) → stage ≡ stages.Content n foreign → IsUnderWay stage held → had ≡ length held → n - had ≤ length piece →
    last ≡ take (n - had) piece → rest ≡ drop (n - had) piece → whole ≡ held ++ last → IsNext limit stage held piece whole (stages.Head first) rest
content_completes limit stage n foreign held piece whole last rest had e u h k l r w =
    let P : Stage → Type 0 = λ s. IsNext limit s held piece whole (stages.Head first) rest in
    let Q : Stage → Type 0 = λ s. IsUnderWay s held in
    let within : length held ≤ n = subst Q e u in
    let text : held ++ take (n - length held) piece ≡ whole = ap (λ (m : ℕ). held ++ take (n - m) piece) (sym h) ∙ ap (λ (xs : List ℕ). held ++ xs) (sym l) ∙ sym w in
    let left : drop (n - length held) piece ≡ rest = ap (λ (m : ℕ). drop (n - m) piece) (sym h) ∙ sym r in
    let smaller : 2 * length rest < 2 * length piece + 1 = omega (arith, ap length r, length-drop (n - had) piece) in
    let front : content_front n foreign (held ++ piece) ≡ Whole (frame_of whole foreign) rest =
    content_ends n foreign held piece within (omega arith) ∙ ap (λ (xs : List ℕ). Whole (frame_of xs foreign) (drop (n - length held) piece)) text ∙ ap (Whole (frame_of whole foreign)) left in
    subst P (sym e) (smaller, (front, nothing_read limit rest))

-- no bytes

pub none_taken : (limit : ℕ) (stage : Stage) (held : List ℕ) → IsUnderWay stage held → IsShort stage held [] → IsUnderWay stage held × HasNoFrame (read_at stage held) × (read_at stage held ≡ read_on limit (read_at stage held) [])
none_taken limit (stages.Head place) held way short = (way, tt, sym (head_from-nil limit place.fields held place.room))
none_taken limit (stages.Content n foreign) held way short = (way, omega (arith, short), ap (Ends n foreign) (sym (append-nil held)))
none_taken limit (stages.Ended fault) held way short = (tt, tt, refl)
