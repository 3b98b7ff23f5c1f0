-- The frames of a byte string, as a function and as a relation.
use Rattle.std.proofs.Common.{◌≡◌, ℕ, zero, suc, ◌+◌, ◌<◌, ◌≤◌, List, [], ◌∷◌, ◌++◌, length, refl, ap, sym, ◌∙◌, subst, arith, length-append, append-nil, codes}
use Rattle.lsp_frames.specs.Contents.{Standing, Open, Broken, IsContents}
use Rattle.lsp_frames.specs.Frames.{Front, Whole, Faulty, Less, front, lines_text, head_text, HasForm}
use Rattle.lsp_frames.specs.Heads.{head_at, head_from}
use Rattle.lsp_frames.specs.declared.frame.Frame.{Frame}
use Rattle.lsp_frames.specs.declared.frame.FrameFault.{FrameFault}
use Rattle.lsp_frames.proofs.Laws.{front_is_a_frame, contents_are_unique, contents_keep_a_fault, contents_go_on}
use Rattle.content_streams.specs.Framed.{with_front, peeled, frames_of, standing_of}

pub front-nil : (limit : ℕ) → front limit [] ≡ Less
unfolding front head_at head_from
front-nil limit = refl

-- a frame has bytes
pub rest_is_shorter : (limit : ℕ) (bytes : List ℕ) (frame : Frame) (rest : List ℕ) → front limit bytes ≡ Whole frame rest → length rest < length bytes
rest_is_shorter limit bytes frame rest is =
    let found = (front_is_a_frame limit bytes frame rest).0 is in
    let form : HasForm limit found.0 frame = found.2 in
    let all : length bytes ≡ length found.0 + length rest = ap length found.1 ∙ length-append found.0 rest in
    let first : length found.0 ≡ length (head_text form.lines) + length frame.content = ap length form.whole ∙ length-append (head_text form.lines) frame.content in
    let head : length (head_text form.lines) ≡ length (lines_text form.lines) + 2 = length-append (lines_text form.lines) (codes "\r\n") in
    omega arith

-- The frames that are peeled are the contents.
peeled_are : (most limit : ℕ) (bytes : List ℕ) → length bytes ≤ most → IsContents limit bytes (peeled most limit bytes).0 (peeled most limit bytes).1
unfolding peeled
peeled_are zero limit [] few = (front-nil limit, refl)
peeled_are zero limit (b ∷ bytes) few = absurd (omega arith)
peeled_are (suc most) limit bytes few = go (front limit bytes) refl (λ rest k. peeled_are most limit rest k)
  where
    Are : Front → Type 0
    Are f = IsContents limit bytes (with_front (peeled most limit) bytes f).0 (with_front (peeled most limit) bytes f).1

    go : (f : Front) → front limit bytes ≡ f → ((rest : List ℕ) → length rest ≤ most → IsContents limit rest (peeled most limit rest).0 (peeled most limit rest).1) → Are f
    go (Whole frame rest) e again =
        let shorter : length rest < length bytes = rest_is_shorter limit bytes frame rest e in
        (rest, e, again rest (omega arith))
    go (Faulty fault) e again = e
    go Less e again = (e, refl)

pub are_contents : (limit : ℕ) (bytes : List ℕ) → IsContents limit bytes (frames_of limit bytes) (standing_of limit bytes)
unfolding frames_of standing_of
are_contents limit bytes = peeled_are (length bytes) limit bytes (omega arith)

-- They are all contents.
pub are_frames : (limit : ℕ) (bytes : List ℕ) (frames : List Frame) (standing : Standing) → IsContents limit bytes frames standing → frames ≡ frames_of limit bytes
are_frames limit bytes frames standing are = (contents_are_unique limit bytes frames (frames_of limit bytes) standing (standing_of limit bytes) are (are_contents limit bytes)).0

pub is_standing : (limit : ℕ) (bytes : List ℕ) (frames : List Frame) (standing : Standing) → IsContents limit bytes frames standing → standing ≡ standing_of limit bytes
is_standing limit bytes frames standing are = (contents_are_unique limit bytes frames (frames_of limit bytes) standing (standing_of limit bytes) are (are_contents limit bytes)).1

-- More bytes add frames.
pub record Goes (limit : ℕ) (bytes more : List ℕ) : Type 0 where
  pub later : List Frame
  pub frames : frames_of limit (bytes ++ more) ≡ frames_of limit bytes ++ later

more_behind : (limit : ℕ) (bytes more : List ℕ) (standing : Standing) → standing_of limit bytes ≡ standing → Goes limit bytes more
more_behind limit bytes more (Open rest) is =
    let are : IsContents limit bytes (frames_of limit bytes) (Open rest) = subst (λ s. IsContents limit bytes (frames_of limit bytes) s) is (are_contents limit bytes) in
    let next = frames_of limit (rest ++ more) in
    let all = contents_go_on limit bytes more (frames_of limit bytes) rest next (standing_of limit (rest ++ more)) are (are_contents limit (rest ++ more)) in
    record { later = next; frames = sym (are_frames limit (bytes ++ more) (frames_of limit bytes ++ next) (standing_of limit (rest ++ more)) all) }
more_behind limit bytes more (Broken fault) is =
    let are : IsContents limit bytes (frames_of limit bytes) (Broken fault) = subst (λ s. IsContents limit bytes (frames_of limit bytes) s) is (are_contents limit bytes) in
    record { later = []; frames = sym (are_frames limit (bytes ++ more) (frames_of limit bytes) (Broken fault) (contents_keep_a_fault limit bytes more (frames_of limit bytes) fault are)) ∙ sym (append-nil (frames_of limit bytes)) }

pub goes : (limit : ℕ) (bytes more : List ℕ) → Goes limit bytes more
goes limit bytes more = more_behind limit bytes more (standing_of limit bytes) refl

-- A fault stays, and no frames are added.
pub keeps_frames : (limit : ℕ) (bytes more : List ℕ) (fault : FrameFault) → standing_of limit bytes ≡ Broken fault → frames_of limit (bytes ++ more) ≡ frames_of limit bytes
keeps_frames limit bytes more fault is =
    let are : IsContents limit bytes (frames_of limit bytes) (Broken fault) = subst (λ s. IsContents limit bytes (frames_of limit bytes) s) is (are_contents limit bytes) in
    sym (are_frames limit (bytes ++ more) (frames_of limit bytes) (Broken fault) (contents_keep_a_fault limit bytes more (frames_of limit bytes) fault are))

pub keeps_fault : (limit : ℕ) (bytes more : List ℕ) (fault : FrameFault) → standing_of limit bytes ≡ Broken fault → standing_of limit (bytes ++ more) ≡ Broken fault
keeps_fault limit bytes more fault is =
    let are : IsContents limit bytes (frames_of limit bytes) (Broken fault) = subst (λ s. IsContents limit bytes (frames_of limit bytes) s) is (are_contents limit bytes) in
    sym (is_standing limit (bytes ++ more) (frames_of limit bytes) (Broken fault) (contents_keep_a_fault limit bytes more (frames_of limit bytes) fault are))
