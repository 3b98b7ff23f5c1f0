-- The contents of a byte string.
use Rattle.std.proofs.Common.{◌≡◌, ℕ, zero, suc, ◌+◌, ◌<◌, ◌≢◌, inl, inr, List, [], ◌∷◌, ◌++◌, length, refl, ap, sym, ◌∙◌, subst, arith, length-append, codes}
use Rattle.lsp_frames.specs.Frames.{Front, Whole, Faulty, Less, front, lines_text, head_text}
use Rattle.lsp_frames.specs.Contents.{Standing, Open, Broken, IsContents}
use Rattle.lsp_frames.specs.declared.frame.Frame.{Frame}
use Rattle.lsp_frames.specs.declared.frame.FrameFault.{FrameFault}
use Rattle.lsp_frames.specs.declared.frame.FrameFault.TheVariants.{Truncated}
use Rattle.lsp_frames.proofs.Saying.{meaning_is_not_truncated}
use Rattle.lsp_frames.proofs.Fronts.{whole_stays, faulty_stays, IsFormed, whole_is_formed, IsShowing, faulty_is_shown}

-- more bytes keep a fault, and go on behind the rest

pub fault_stays : (limit : ℕ) (bytes more : List ℕ) (frames : List Frame) (fault : FrameFault) → IsContents limit bytes frames (Broken fault) → IsContents limit (bytes ++ more) frames (Broken fault)
fault_stays limit bytes more [] fault h = faulty_stays limit bytes more fault h
fault_stays limit bytes more (frame ∷ frames) fault h = (h.0 ++ more, whole_stays limit bytes more frame h.0 h.1, fault_stays limit h.0 more frames fault h.2)

pub goes_on : (limit : ℕ) (bytes more : List ℕ) (frames : List Frame) (rest : List ℕ) (later : List Frame) (standing : Standing) → IsContents limit bytes frames (Open rest) → IsContents limit (rest ++ more) later standing → IsContents limit (bytes ++ more) (frames ++ later) standing
goes_on limit bytes more [] rest later standing h k = let P : List ℕ → Type 0 = λ xs. IsContents limit (xs ++ more) later standing in subst P h.1 k
goes_on limit bytes more (frame ∷ frames) rest later standing h k = (h.0 ++ more, whole_stays limit bytes more frame h.0 h.1, goes_on limit h.0 more frames rest later standing h.2 k)

-- contents are unique

same_left : (limit : ℕ) (bytes : List ℕ) (standing other : Standing) → IsContents limit bytes [] standing → IsContents limit bytes [] other → standing ≡ other
same_left limit bytes (Open rest) (Open left) h k = ap Open (h.1 ∙ sym k.1)
same_left limit bytes (Open rest) (Broken fault) h k = (let e = sym h.0 ∙ k in cc)
same_left limit bytes (Broken fault) (Open left) h k = (let e = sym h ∙ k.0 in cc)
same_left limit bytes (Broken fault) (Broken other) h k = (let e = sym h ∙ k in let same : fault ≡ other = cc in ap Broken same)

none_and_some : (limit : ℕ) (bytes : List ℕ) (frame : Frame) (rest : List ℕ) (standing : Standing) → IsContents limit bytes [] standing → front limit bytes ≡ Whole frame rest → ⊥
none_and_some limit bytes frame rest (Open left) h k = (let e = sym h.0 ∙ k in cc)
none_and_some limit bytes frame rest (Broken fault) h k = (let e = sym h ∙ k in cc)

pub only_contents : (limit : ℕ) (bytes : List ℕ) (frames others : List Frame) (standing other : Standing) → IsContents limit bytes frames standing → IsContents limit bytes others other → (frames ≡ others) × (standing ≡ other)
only_contents limit bytes [] [] standing other h k = (refl, same_left limit bytes standing other h k)
only_contents limit bytes [] (g ∷ gs) standing other h k = absurd (none_and_some limit bytes g k.0 standing h k.1)
only_contents limit bytes (f ∷ fs) [] standing other h k = absurd (none_and_some limit bytes f h.0 other k h.1)
only_contents limit bytes (f ∷ fs) (g ∷ gs) standing other h k =
    let e : Whole f h.0 ≡ Whole g k.0 = sym h.1 ∙ k.1 in
    let first : f ≡ g = cc in
    let left : h.0 ≡ k.0 = cc in
    let P : List ℕ → Type 0 = λ xs. IsContents limit xs fs standing in
    let rest = only_contents limit k.0 fs gs standing other (subst P left h.2) k.2 in
    (ap (λ (x : Frame). x ∷ fs) first ∙ ap (λ (xs : List Frame). g ∷ xs) rest.0, rest.1)

-- contents exist: a frame has bytes, so the rest is shorter

rest_is_shorter : (limit : ℕ) (bytes : List ℕ) (frame : Frame) (rest : List ℕ) → front limit bytes ≡ Whole frame rest → length rest < length bytes
rest_is_shorter limit bytes frame rest h =
    let f : IsFormed limit bytes frame rest = whole_is_formed limit bytes frame rest h in
    let all : length bytes ≡ length f.first + length rest = ap length f.whole ∙ length-append f.first rest in
    let first : length f.first ≡ length (head_text f.form.lines) + length frame.content = ap length f.form.whole ∙ length-append (head_text f.form.lines) frame.content in
    let head : length (head_text f.form.lines) ≡ length (lines_text f.form.lines) + 2 = length-append (lines_text f.form.lines) (codes "\r\n") in
    omega arith

pub record HasContents (limit : ℕ) (bytes : List ℕ) : Type 0 where
  pub frames : List Frame
  pub standing : Standing
  pub are : IsContents limit bytes frames standing

some_contents : (fuel limit : ℕ) (bytes : List ℕ) → length bytes < fuel → HasContents limit bytes
some_contents zero limit bytes h = absurd (omega arith)
some_contents (suc fuel) limit bytes h = go (front limit bytes) refl (λ rest k. some_contents fuel limit rest k)
  where
    go : (f : Front) → front limit bytes ≡ f → ((rest : List ℕ) → length rest < fuel → HasContents limit rest) → HasContents limit bytes
    go (Whole frame rest) e again =
        let shorter : length rest < length bytes = rest_is_shorter limit bytes frame rest e in
        let others : HasContents limit rest = again rest (omega arith) in
        record { frames = frame ∷ others.frames; standing = others.standing; are = (rest, e, others.are) }
    go (Faulty fault) e again = record { frames = []; standing = Broken fault; are = e }
    go Less e again = record { frames = []; standing = Open bytes; are = (e, refl) }

pub contents_of : (limit : ℕ) (bytes : List ℕ) → HasContents limit bytes
contents_of limit bytes = some_contents (suc (length bytes)) limit bytes (omega arith)

-- no fault of the bytes is Truncated

shows_no_end : (limit : ℕ) (bytes : List ℕ) → IsShowing limit bytes Truncated → ⊥
shows_no_end limit bytes s = elim s.shows [
  | inl l ↦ meaning_is_not_truncated limit l.fields l.line l.shows
  | inr l ↦ (let e = l.0 in cc)
]

pub no_end : (limit : ℕ) (bytes : List ℕ) (frames : List Frame) (fault : FrameFault) → IsContents limit bytes frames (Broken fault) → fault ≢ Truncated
no_end limit bytes [] fault h e = shows_no_end limit bytes (faulty_is_shown limit bytes Truncated (h ∙ ap Faulty e))
no_end limit bytes (frame ∷ frames) fault h e = no_end limit h.0 frames fault h.2 e
