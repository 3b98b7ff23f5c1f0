-- Contents that stand behind one another in one block of memory.
use Rattle.std.proofs.Common.{◌≡◌, ℕ, zero, suc, ◌+◌, ◌<◌, ◌≤◌, Bool, eqb, List, [], ◌∷◌, ◌++◌, length, take, drop, refl, ap, ◌∙◌, arith, None, get_or, length-drop, length-take}
use Rattle.std.proofs.lemmas.List.{take_all, take-append-le, drop-append-le}
use Rattle.std.proofs.lemmas.Grind.{common_steps}
use Rattle.std.specs.List.{slice_get}
use Rattle.std.specs.Option.{is_none}
use Rattle.lsp_frames.specs.Gathered.{frames_by, total}
use Rattle.lsp_frames.specs.declared.frame.Frame.{Frame}
use Rattle.lsp_frames.specs.declared.frames.Size.{Size}
use Rattle.lsp_frames.proofs.Fronts.{frame_of}

pub first_missing : (bytes : List ℕ) (sizes : List Size) → eqb (length sizes) 0 ≡ is_none (slice_get (frames_by bytes sizes) 0)
first_missing bytes [] = refl
first_missing bytes (size ∷ sizes) = grind (arith, common_steps)

abbrev pub size_of : List ℕ → Bool → Size
size_of content foreign = record { bytes = length content; foreign = foreign }

pub total_more : (sizes : List Size) (size : Size) → total (sizes ++ size ∷ []) ≡ total sizes + size.bytes
total_more [] size = omega arith
total_more (first ∷ sizes) size = let e : total (sizes ++ size ∷ []) ≡ total sizes + size.bytes = total_more sizes size in omega arith

pub frames_more : (bytes content : List ℕ) (sizes : List Size) (foreign : Bool) → total sizes ≡ length bytes →
    frames_by (bytes ++ content) (sizes ++ size_of content foreign ∷ []) ≡ frames_by bytes sizes ++ frame_of content foreign ∷ []
frames_more [] content [] foreign h = ap (λ (xs : List ℕ). frame_of xs foreign ∷ []) (take_all (length content) content (omega arith))
frames_more (b ∷ bytes) content [] foreign h = absurd (omega arith)
frames_more bytes content (size ∷ sizes) foreign h =
    let within : size.bytes ≤ length bytes = omega arith in
    let left : total sizes ≡ length (drop size.bytes bytes) = omega (arith, length-drop size.bytes bytes) in
    let later = sizes ++ size_of content foreign ∷ [] in
    ap (λ (xs : List ℕ). frame_of xs size.foreign ∷ frames_by (drop size.bytes (bytes ++ content)) later) (take-append-le size.bytes bytes content within)
    ∙ ap (λ (xs : List ℕ). frame_of (take size.bytes bytes) size.foreign ∷ frames_by xs later) (drop-append-le size.bytes bytes content within)
    ∙ ap (λ (fs : List Frame). frame_of (take size.bytes bytes) size.foreign ∷ fs) (frames_more (drop size.bytes bytes) content sizes foreign left)

pub as_many : (bytes : List ℕ) (sizes : List Size) → length sizes ≡ length (frames_by bytes sizes)
as_many bytes [] = refl
as_many bytes (size ∷ sizes) = ap suc (as_many (drop size.bytes bytes) sizes)

pub size_at : (bytes : List ℕ) (sizes : List Size) (i : ℕ) (frame : Frame) (size : Size) → total sizes ≡ length bytes → i < length sizes →
    (get_or sizes i size).bytes ≡ length (get_or (frames_by bytes sizes) i frame).content
size_at bytes [] i frame size h k = absurd (omega arith)
size_at bytes (first ∷ sizes) zero frame size h k = omega (arith, length-take first.bytes bytes)
size_at bytes (first ∷ sizes) (suc i) frame size h k =
    size_at (drop first.bytes bytes) sizes i frame size (omega (arith, length-drop first.bytes bytes)) (omega arith)

pub none_left : (frames : List Frame) → None ≡ slice_get frames 0 → frames ≡ []
none_left [] is = refl
none_left (frame ∷ frames) is = cc
