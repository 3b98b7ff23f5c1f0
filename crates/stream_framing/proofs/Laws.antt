-- What is held of more bytes: of lines, and of both framings.
use Rattle.std.proofs.Common.{subst, ◌≡◌, ℕ, Bool, true, false, cond, List, [], ◌∷◌, ◌++◌, refl, ap, sym, ◌∙◌, append-nil, arith}
use Rattle.std.proofs.lemmas.Bool.Decides.{nat_tests}
use Rattle.std.proofs.Common.{◌+◌, length, length-append}
use Rattle.lsp_frames.specs.Contents.{Standing, Open, Broken}
use Rattle.lsp_frames.specs.Decoding as decoding
use Rattle.lsp_frames.specs.Decoding.{known, IsOpen}
use Rattle.lsp_frames.specs.Frames.{front}
use Rattle.lsp_frames.specs.Heads.{head_at, head_from}
use Rattle.lsp_frames.specs.declared.frame.Frame.{Frame}
use Rattle.lsp_frames.specs.declared.frame.FrameFault.{FrameFault}
use Rattle.lsp_frames.specs.declared.frame.FrameFault.TheVariants.{TooLarge}
use Rattle.lsp_frames.proofs.Laws.{contents_exist, contents_keep_a_fault, contents_go_on, contents_are_unique}
use Rattle.content_streams.specs.Lines.{parts, without_last, ended_lines, fits}
use Rattle.content_streams.specs.Inner.Cutting.{last_line}
use Rattle.content_streams.proofs.LineTexts.{parts-are, parts_lead, ended_lead, lead}
use Rattle.stream_framing.specs.Lines.{HoldsLines, all_fit, whole_contents, line_standing}
use Rattle.lsp_frames.specs.Devices.{Ending, Unfinished, Finished, Failed}
use Rattle.stream_framing.specs.Framed.{Holds, IsOpenLeft, read_text}
use Rattle.stream_framing.specs.Inner.Cutting.{ended_contents, text_standing}
use Rattle.stream_framing.specs.declared.framing.Framing.{Framing}
use Rattle.stream_framing.specs.declared.framing.Framing.TheVariants.{Frames, Lines}
use Rattle.stream_framing.proofs.Fitting.{whole_all_first, whole_not_all_first, all_fit_behind, not_all_fit, first_is_too_long, all_fit-yes, all_fit-no, none_fit, nothing_fits}
use Rattle.stream_framing.proofs.Steps.{standing_is, standing_long, contents_behind, standing_behind}

-- ---- lines that go on

broken-long : (limit : ℕ) (lines : List (List ℕ)) (fault : FrameFault) → Broken fault ≡ line_standing limit lines → (all_fit limit lines ≡ false) × (fault ≡ TooLarge)
broken-long limit lines fault is = go (all_fit limit lines) refl is
  where
    go : (t : Bool) → all_fit limit lines ≡ t → Broken fault ≡ cond t (Open (last_line lines)) (Broken TooLarge) → (all_fit limit lines ≡ false) × (fault ≡ TooLarge)
    go true e h = (cc)
    go false e h = (e, cc)

pub lines_go_on : (limit : ℕ) (bytes more : List ℕ) (frames : List Frame) (rest : List ℕ) (later : List Frame) (standing : Standing)
    → HoldsLines limit bytes frames (Open rest) → HoldsLines limit (rest ++ more) later standing → HoldsLines limit (bytes ++ more) (frames ++ later) standing
lines_go_on limit bytes more frames rest later standing h k =
    let known = standing_is limit (parts bytes) rest h.1 in
    let last : rest ++ more ≡ last_line (parts bytes) ++ more = ap (λ line. line ++ more) known.1 in (
      ap (λ fs. fs ++ later) h.0 ∙ ap (λ fs. ended_contents limit bytes ++ fs) (k.0 ∙ ap (ended_contents limit) last) ∙ sym (contents_behind limit bytes more known.0),
      k.1 ∙ ap (text_standing limit) last ∙ sym (standing_behind limit bytes more known.0),
    )

-- ---- lines of which one is too long

-- More bytes don't make it shorter.
stays_long : (limit : ℕ) (line more : List ℕ) → fits limit line ≡ false → fits limit (line ++ more) ≡ false
stays_long limit line more long = let all : length (line ++ more) ≡ length line + length more = length-append line more in grind (arith, nat_tests)

lead_is_long : (limit : ℕ) (line : List ℕ) (lines : List (List ℕ)) → fits limit line ≡ false → all_fit limit (lead line lines) ≡ false
lead_is_long limit line [] long = all_fit-no limit line [] long
lead_is_long limit line (next ∷ lines) long = all_fit-no limit (line ++ next) lines (stays_long limit line next long)

lead_is_empty : (limit : ℕ) (line : List ℕ) (lines : List (List ℕ)) → fits limit line ≡ false → whole_contents limit (without_last (lead line lines)) ≡ []
unfolding whole_contents
lead_is_empty limit line [] long = refl
lead_is_empty limit line (next ∷ []) long = refl
lead_is_empty limit line (next ∷ other ∷ lines) long = first_is_too_long limit (line ++ next) (without_last (other ∷ lines)) (stays_long limit line next long)

-- where some line is too long, it is one whose LF has come, or the last
data IsLong (limit : ℕ) (bytes : List ℕ) : Type 0 where
  AnEnded : all_fit limit (ended_lines bytes) ≡ false → IsLong limit bytes
  TheLast : all_fit limit (ended_lines bytes) ≡ true → fits limit (last_line (parts bytes)) ≡ false → IsLong limit bytes

is_long : (limit : ℕ) (bytes : List ℕ) → all_fit limit (parts bytes) ≡ false → IsLong limit bytes
is_long limit bytes long = go (all_fit limit (ended_lines bytes)) refl (fits limit (last_line (parts bytes))) refl
  where
    go : (t : Bool) → all_fit limit (ended_lines bytes) ≡ t → (s : Bool) → fits limit (last_line (parts bytes)) ≡ s → IsLong limit bytes
    go false e s h = AnEnded e
    go true e false h = TheLast e h
    go true e true h =
        let all : all_fit limit (parts bytes) ≡ all_fit limit (last_line (parts bytes) ∷ []) = ap (all_fit limit) (parts-are bytes) ∙ all_fit_behind limit (ended_lines bytes) (last_line (parts bytes) ∷ []) e in
        let one : all_fit limit (last_line (parts bytes) ∷ []) ≡ true = all_fit-yes limit (last_line (parts bytes)) [] h ∙ none_fit limit in
        (let both : false ≡ true = sym long ∙ all ∙ one in cc)

long_stays : (limit : ℕ) (bytes more : List ℕ) → all_fit limit (parts bytes) ≡ false → all_fit limit (parts (bytes ++ more)) ≡ false
long_stays limit bytes more long = elim (is_long limit bytes long) [
  | AnEnded e ↦ ap (all_fit limit) (parts_lead bytes more) ∙ not_all_fit limit (ended_lines bytes) (lead (last_line (parts bytes)) (parts more)) e
  | TheLast e h ↦ ap (all_fit limit) (parts_lead bytes more) ∙ all_fit_behind limit (ended_lines bytes) (lead (last_line (parts bytes)) (parts more)) e
      ∙ lead_is_long limit (last_line (parts bytes)) (parts more) h
]

long_ended : (limit : ℕ) (bytes more : List ℕ) → all_fit limit (parts bytes) ≡ false → ended_contents limit (bytes ++ more) ≡ ended_contents limit bytes
long_ended limit bytes more long = elim (is_long limit bytes long) [
  | AnEnded e ↦ ap (whole_contents limit) (ended_lead bytes more) ∙ whole_not_all_first limit (ended_lines bytes) (without_last (lead (last_line (parts bytes)) (parts more))) e
  | TheLast e h ↦ ap (whole_contents limit) (ended_lead bytes more) ∙ whole_all_first limit (ended_lines bytes) (without_last (lead (last_line (parts bytes)) (parts more))) e
      ∙ ap (λ fs. ended_contents limit bytes ++ fs) (lead_is_empty limit (last_line (parts bytes)) (parts more) h) ∙ append-nil (ended_contents limit bytes)
]

pub lines_keep_a_fault : (limit : ℕ) (bytes more : List ℕ) (frames : List Frame) (fault : FrameFault) → HoldsLines limit bytes frames (Broken fault) → HoldsLines limit (bytes ++ more) frames (Broken fault)
lines_keep_a_fault limit bytes more frames fault h =
    let long = broken-long limit (parts bytes) fault h.1 in (
      h.0 ∙ sym (long_ended limit bytes more long.0),
      ap Broken long.1 ∙ sym (standing_long limit (parts (bytes ++ more)) (long_stays limit bytes more long.0)),
    )

-- ---- both framings

-- All bytes hold some contents.
pub held_exist : (framing : Framing) (limit : ℕ) (bytes : List ℕ) → (frames : List Frame) × (standing : Standing) × Holds framing limit bytes frames standing
held_exist Frames limit bytes = contents_exist limit bytes
held_exist Lines limit bytes = (ended_contents limit bytes, text_standing limit bytes, (refl, refl))

-- They hold no others.
pub held_are_unique : (framing : Framing) (limit : ℕ) (bytes : List ℕ) (frames others : List Frame) (standing other : Standing)
    → Holds framing limit bytes frames standing → Holds framing limit bytes others other → (frames ≡ others) × (standing ≡ other)
held_are_unique Frames limit bytes frames others standing other h k = contents_are_unique limit bytes frames others standing other h k
held_are_unique Lines limit bytes frames others standing other h k = (h.0 ∙ sym k.0, h.1 ∙ sym k.1)

-- More bytes keep the contents and the fault.
pub held_keep_a_fault : (framing : Framing) (limit : ℕ) (bytes more : List ℕ) (frames : List Frame) (fault : FrameFault) → Holds framing limit bytes frames (Broken fault) → Holds framing limit (bytes ++ more) frames (Broken fault)
held_keep_a_fault Frames limit bytes more frames fault h = contents_keep_a_fault limit bytes more frames fault h
held_keep_a_fault Lines limit bytes more frames fault h = lines_keep_a_fault limit bytes more frames fault h

-- Where there is no fault, the contents go on with those of the rest and the bytes.
pub held_go_on : (framing : Framing) (limit : ℕ) (bytes more : List ℕ) (frames : List Frame) (rest : List ℕ) (later : List Frame) (standing : Standing)
    → Holds framing limit bytes frames (Open rest) → Holds framing limit (rest ++ more) later standing → Holds framing limit (bytes ++ more) (frames ++ later) standing
held_go_on Frames limit bytes more frames rest later standing h k = contents_go_on limit bytes more frames rest later standing h k
held_go_on Lines limit bytes more frames rest later standing h k = lines_go_on limit bytes more frames rest later standing h k

-- Before the first byte nothing is broken.
pub nothing-broken : (framing : Framing) (limit : ℕ) (fault : FrameFault) → Holds framing limit [] [] (Broken fault) → ⊥
unfolding front head_at head_from
nothing-broken Frames limit fault is = cc
nothing-broken Lines limit fault is =
    let long = broken-long limit (parts []) fault is.1 in
    let fit : all_fit limit ([] ∷ []) ≡ true = all_fit-yes limit [] [] (nothing_fits limit) ∙ none_fit limit in
    let both : false ≡ true = sym long.0 ∙ fit in cc

-- ---- what a decoder knows of what is left

pub open-left : (limit : ℕ) (left : Standing) → IsOpen (known limit left) → (rest : List ℕ) × (left ≡ Open rest)
open-left limit (Open rest) is_open = (rest, refl)
open-left limit (Broken fault) is_open = absurd is_open

pub broken-left : (limit : ℕ) (left : Standing) (fault : FrameFault) → known limit left ≡ decoding.Broken fault → left ≡ Broken fault
broken-left limit (Open rest) fault is = absurd (cc)
broken-left limit (Broken other) fault is = let same : other ≡ fault = cc in ap Broken same

-- ---- more bytes, and how an input is closed

pub rest_open : (left : Standing) → IsOpenLeft left → (rest : List ℕ) × (left ≡ Open rest)
rest_open (Open rest) is_open = (rest, refl)
rest_open (Broken fault) is_open = absurd is_open

-- More bytes hold the same contents, and perhaps more of them.
pub held_of_more : (framing : Framing) (limit : ℕ) (bytes more : List ℕ) (frames : List Frame) (standing : Standing) → Holds framing limit bytes frames standing →
    (later : List Frame) × (after : Standing) × Holds framing limit (bytes ++ more) (frames ++ later) after
held_of_more framing limit bytes more frames (Broken fault) had =
    ([], Broken fault, subst (λ all. Holds framing limit (bytes ++ more) all (Broken fault)) (sym (append-nil frames)) (held_keep_a_fault framing limit bytes more frames fault had))
held_of_more framing limit bytes more frames (Open rest) had =
    let next = held_exist framing limit (rest ++ more) in
    (next.0, next.1, held_go_on framing limit bytes more frames rest next.0 next.1 had next.2)

-- What is read of an input is the input and perhaps the LF that ends its last line.
pub text_of : (framing : Framing) (ending : Ending) (bytes : List ℕ) → (more : List ℕ) × (read_text framing ending bytes ≡ bytes ++ more)
text_of Frames ending bytes = ([], sym (append-nil bytes))
text_of Lines Unfinished bytes = ([], sym (append-nil bytes))
text_of Lines Failed bytes = ([], sym (append-nil bytes))
text_of Lines Finished bytes = (10 ∷ [], refl)

pub text_unfinished : (framing : Framing) (bytes : List ℕ) → read_text framing Unfinished bytes ≡ bytes
text_unfinished Frames bytes = refl
text_unfinished Lines bytes = refl

pub text_failed : (framing : Framing) (bytes : List ℕ) → read_text framing Failed bytes ≡ bytes
text_failed Frames bytes = refl
text_failed Lines bytes = refl
