-- How many bytes a frame has at least, and so how many frames a piece completes at most.
use Rattle.std.proofs.Common.{◌≡◌, ℕ, ◌+◌, ◌*◌, ◌/◌, ◌≤◌, min, Option, Some, None, Ok, true, inl, inr, ◌&&◌, List, [], ◌∷◌, ◌++◌, length, take, drop, codes, refl, ap, sym, ◌∙◌, length-append, length-take, arith}
use Rattle.std.specs.List.{list_all, position}
use Rattle.std.specs.Char.{to_ascii_lowercase}
use Rattle.std.specs.Str.{str_to_ascii_lowercase}
use Rattle.std.proofs.lemmas.List.{length-map}
use Rattle.std.proofs.lemmas.Slice.Eq.{bytes_eq-Decides}
use Rattle.lsp_frames.specs.Fields.{is_name, is_value_byte, is_colon, is_named, field_at, field_of}
use Rattle.lsp_frames.specs.Lines.{no_fields, fields_with, fields_after}
use Rattle.lsp_frames.specs.Heads.{Reading}
use Rattle.lsp_frames.specs.Frames.{Whole, Less, front, Say, lines_text, head_text, HasForm}
use Rattle.lsp_frames.specs.Contents.{Standing, IsContents}
use Rattle.lsp_frames.specs.declared.frame.Frame.{Frame}
use Rattle.lsp_frames.proofs.Choices.{choice}
use Rattle.lsp_frames.proofs.Walks.{length_lines_text-cons}
use Rattle.lsp_frames.proofs.Laws.{front_is_a_frame}
use Rattle.content_streams.proofs.FrameFollowing.{is_completed, behind_is_less}

-- ---- the line with the length

named_size : (name : List ℕ) → is_named name (codes "Content-Length") ≡ true → length name ≡ 14
unfolding is_named
named_size name is =
    let wanted = codes "Content-Length" in
    let same : str_to_ascii_lowercase name ≡ str_to_ascii_lowercase wanted = (bytes_eq-Decides (str_to_ascii_lowercase name) (str_to_ascii_lowercase wanted)).0 is in
    sym (length-map name to_ascii_lowercase) ∙ ap length same

name_of : Option (List ℕ × List ℕ) → List ℕ
name_of None = []
name_of (Some (name, value)) = name

name_is_in_line : (line name value : List ℕ) (place : Option ℕ) → field_at line place ≡ Some (name, value) → length name ≤ length line
unfolding name_of
name_is_in_line line name value None is = cc
name_is_in_line line name value (Some colon) is = elim (choice (is_name (take colon line) && list_all is_value_byte (drop (colon + 1) line)) _ _ _ is) [
  | inl hit ↦
      (let same : take colon line ≡ name = ap name_of hit.1 in
      let size : length name ≡ min colon (length line) = ap length (sym same) ∙ length-take colon line in
      omega (arith, size))
  | inr miss ↦ cc
]

-- A line that says a length where none was said has a name of 14 bytes.
says_length : (limit : ℕ) (before after : Reading) (line : List ℕ) (n : ℕ) → before.fields.content_length ≡ None → after.fields.content_length ≡ Some n → fields_after limit before.fields line ≡ Ok after.fields → 14 ≤ length line
unfolding fields_after field_of
says_length limit before after line n none some says = go (field_of line) refl says
  where
    changes : before.fields.content_length ≡ after.fields.content_length → ⊥
    changes same = (let clash : None ≡ Some n = sym none ∙ same ∙ some in cc)

    named : (name value : List ℕ) → field_of line ≡ Some (name, value) → is_named name (codes "Content-Length") ≡ true → 14 ≤ length line
    named name value is hit =
        let few = name_is_in_line line name value (position is_colon line) is in
        let size = named_size name hit in
        omega (arith, few, size)

    go : (field : Option (List ℕ × List ℕ)) → field_of line ≡ field → fields_with limit before.fields field ≡ Ok after.fields → 14 ≤ length line
    go None is h = cc
    go (Some (name, value)) is h = elim (choice (is_named name (codes "Content-Length")) _ _ _ h) [
      | inl hit ↦ named name value is hit.0
      | inr miss ↦ elim (choice (is_named name (codes "Content-Type")) _ _ _ miss.1) [
        | inl typed ↦ absurd (changes (let e = typed.1 in cc))
        | inr other ↦ absurd (changes (let e = other.1 in cc))
      ]
    ]

lines_are_long : (limit : ℕ) (before after : Reading) (lines : List (List ℕ)) (n : ℕ) → before.fields.content_length ≡ None → after.fields.content_length ≡ Some n → Say limit before.fields lines after.fields → 16 ≤ length (lines_text lines)
lines_are_long limit before after [] n none some say = (let clash : None ≡ Some n = sym none ∙ ap (λ f. f.content_length) say ∙ some in cc)
lines_are_long limit before after (line ∷ lines) n none some say =
    let next : Reading = record { fields = say.0; line = []; room = 0 } in
    go next.fields.content_length refl (λ e. lines_are_long limit next after lines n e some say.2)
  where
    go : (said : Option ℕ) → say.0.content_length ≡ said → (say.0.content_length ≡ None → 16 ≤ length (lines_text lines)) → 16 ≤ length (lines_text (line ∷ lines))
    go None e again =
        let rest = again e in
        let long = length_lines_text-cons line lines in
        omega (arith, rest, long)
    go (Some m) e again =
        let first = says_length limit before (record { fields = say.0; line = []; room = 0 }) line m none e say.1 in
        let long = length_lines_text-cons line lines in
        omega (arith, first, long)

-- ---- a frame

pub frame_is_long : (limit : ℕ) (bytes : List ℕ) (frame : Frame) (rest : List ℕ) → front limit bytes ≡ Whole frame rest → 16 + length rest ≤ length bytes
frame_is_long limit bytes frame rest is =
    let found = (front_is_a_frame limit bytes frame rest).0 is in
    let form : HasForm limit found.0 frame = found.2 in
    let all : length bytes ≡ length found.0 + length rest = ap length found.1 ∙ length-append found.0 rest in
    let first : length found.0 ≡ length (head_text form.lines) + length frame.content = ap length form.whole ∙ length-append (head_text form.lines) frame.content in
    let head : length (head_text form.lines) ≡ length (lines_text form.lines) + 2 = length-append (lines_text form.lines) (codes "\r\n") in
    let lines = lines_are_long limit (record { fields = no_fields; line = []; room = 0 }) (record { fields = record { content_length = Some (length frame.content); foreign = frame.foreign }; line = []; room = 0 })
    form.lines (length frame.content) refl refl form.say in
    omega (arith, all, first, head, lines)

frames_are_long : (limit : ℕ) (bytes : List ℕ) (frames : List Frame) (standing : Standing) → IsContents limit bytes frames standing → 16 * length frames ≤ length bytes
frames_are_long limit bytes [] standing are = omega arith
frames_are_long limit bytes (frame ∷ frames) standing are =
    let first = frame_is_long limit bytes frame are.0 are.1 in
    let others = frames_are_long limit are.0 frames standing are.2 in
    omega (arith, first, others)

-- ---- the frames that a piece completes

pub frames_fit : (limit : ℕ) (rest piece : List ℕ) (frames : List Frame) (standing : Standing) → front limit rest ≡ Less → IsContents limit (rest ++ piece) frames standing → length frames ≤ length piece / 16 + 1
frames_fit limit rest piece [] standing less are = omega arith
frames_fit limit rest piece (frame ∷ frames) standing less are =
    let behind = behind_is_less limit rest piece frame are.0 (is_completed limit rest piece frame are.0 less are.1) in
    let others = frames_are_long limit are.0 frames standing are.2 in
    omega (arith, behind, others)
