-- The laws of frames and contents.
use Rattle.std.proofs.Common.{◌≡◌, ◌≢◌, ℕ, ◌≤◌, ◌↔◌, List, [], ◌++◌, length, false, ap, sym, ◌∙◌, append-nil}
use Rattle.lsp_frames.specs.Frames.{Whole, Faulty, front, HasForm, ShowsFault, written}
use Rattle.lsp_frames.specs.Contents.{Standing, Open, Broken, IsContents}
use Rattle.lsp_frames.specs.declared.frame.Frame.{Frame}
use Rattle.lsp_frames.specs.declared.frame.FrameFault.{FrameFault}
use Rattle.lsp_frames.specs.declared.frame.FrameFault.TheVariants.{Truncated}
use Rattle.lsp_frames.proofs.Fronts.{form_is_whole, IsFormed, whole_is_formed, shown_is_faulty, IsShowing, faulty_is_shown}
use Rattle.lsp_frames.proofs.Writings.{written_form}
use Rattle.lsp_frames.proofs.Streams.{fault_stays, goes_on, only_contents, HasContents, contents_of, no_end}

-- A frame is peeled off the front exactly where some front of the bytes has a frame's form.
pub front_is_a_frame : (limit : ℕ) (bytes : List ℕ) (frame : Frame) (rest : List ℕ) → (front limit bytes ≡ Whole frame rest) ↔ ((first : List ℕ) × (bytes ≡ first ++ rest) × HasForm limit first frame)
front_is_a_frame limit bytes frame rest = (
  (λ h. let f : IsFormed limit bytes frame rest = whole_is_formed limit bytes frame rest h in (f.first, f.whole, f.form)),
  (λ f. ap (front limit) f.1 ∙ form_is_whole limit f.0 frame rest f.2),
)

-- A fault is found exactly where some front of the bytes shows it.
pub front_shows_a_fault : (limit : ℕ) (bytes : List ℕ) (fault : FrameFault) → (front limit bytes ≡ Faulty fault) ↔ ((text : List ℕ) × (more : List ℕ) × (bytes ≡ text ++ more) × ShowsFault limit text fault)
front_shows_a_fault limit bytes fault = (
  (λ h. let s : IsShowing limit bytes fault = faulty_is_shown limit bytes fault h in (s.text, s.more, s.whole, s.shows)),
  (λ s. ap (front limit) s.2 ∙ shown_is_faulty limit s.0 s.1 fault s.3),
)

-- No frame is a proper prefix of another.
pub no_frame_extends_another : (limit : ℕ) (bytes more : List ℕ) (frame other : Frame) → HasForm limit bytes frame → HasForm limit (bytes ++ more) other → (more ≡ []) × (frame ≡ other)
no_frame_extends_another limit bytes more frame other h k =
    let long : front limit (bytes ++ more) ≡ Whole other [] = ap (front limit) (sym (append-nil (bytes ++ more))) ∙ form_is_whole limit (bytes ++ more) other [] k in
    let e : Whole frame more ≡ Whole other [] = sym (form_is_whole limit bytes frame more h) ∙ long in
    (cc, cc)

-- A written content is a frame with that content.
pub written_frame_has_form : (limit : ℕ) (content : List ℕ) → length content ≤ limit → limit ≤ 2147483647 → HasForm limit (written content) (record { content = content; foreign = false })
written_frame_has_form limit content h k = written_form limit content h k

-- It is read back, whatever follows it.
pub written_frame_is_read_back : (limit : ℕ) (content more : List ℕ) → length content ≤ limit → limit ≤ 2147483647 → front limit (written content ++ more) ≡ Whole (record { content = content; foreign = false }) more
written_frame_is_read_back limit content more h k = form_is_whole limit (written content) (record { content = content; foreign = false }) more (written_form limit content h k)

-- All bytes have contents.
pub contents_exist : (limit : ℕ) (bytes : List ℕ) → (frames : List Frame) × (standing : Standing) × IsContents limit bytes frames standing
contents_exist limit bytes = let c : HasContents limit bytes = contents_of limit bytes in (c.frames, c.standing, c.are)

-- They have no others.
pub contents_are_unique : (limit : ℕ) (bytes : List ℕ) (frames others : List Frame) (standing other : Standing) → IsContents limit bytes frames standing → IsContents limit bytes others other → (frames ≡ others) × (standing ≡ other)
contents_are_unique limit bytes frames others standing other h k = only_contents limit bytes frames others standing other h k

-- More bytes keep the frames and the fault.
pub contents_keep_a_fault : (limit : ℕ) (bytes more : List ℕ) (frames : List Frame) (fault : FrameFault) → IsContents limit bytes frames (Broken fault) → IsContents limit (bytes ++ more) frames (Broken fault)
contents_keep_a_fault limit bytes more frames fault h = fault_stays limit bytes more frames fault h

-- Where there is no fault, the frames go on with those of the rest and the bytes.
pub contents_go_on : (limit : ℕ) (bytes more : List ℕ) (frames : List Frame) (rest : List ℕ) (later : List Frame) (standing : Standing) → IsContents limit bytes frames (Open rest) → IsContents limit (rest ++ more) later standing → IsContents limit (bytes ++ more) (frames ++ later) standing
contents_go_on limit bytes more frames rest later standing h k = goes_on limit bytes more frames rest later standing h k

-- The end inside a frame is no fault of the bytes that came.
pub no_bytes_show_an_end : (limit : ℕ) (bytes : List ℕ) (frames : List Frame) (fault : FrameFault) → IsContents limit bytes frames (Broken fault) → fault ≢ Truncated
no_bytes_show_an_end limit bytes frames fault h = no_end limit bytes frames fault h
