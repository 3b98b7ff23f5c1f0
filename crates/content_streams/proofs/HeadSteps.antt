-- The bytes of a head, one after another.
use Rattle.std.proofs.Common.{◌≡◌, ◌≢◌, ℕ, zero, suc, ◌+◌, ◌<◌, ◌≤◌, List, [], ◌∷◌, ◌++◌, length, take, drop, get_or, ◌^◌, subst, refl, ap, sym, ◌∙◌, add-zero, zero-add, add-one, drop-cons, arith}
use Rattle.std.proofs.lemmas.List.{drop_all, take_all, take_more}
use Rattle.content_streams.specs.Inner.Heads.{in_front, head_bytes, stage_after, at_start, content_place, behind_content, followed, SmallFrames}
use Rattle.content_streams.specs.Streams.{capped}
use Rattle.lsp_frames.specs.declared.frame.Frame.{Frame}
use Rattle.content_streams.specs.declared.under_way.UnderWay.{UnderWay}
use Rattle.content_streams.specs.declared.under_way.HeadStage.{HeadStage}
use Rattle.content_streams.specs.declared.under_way.HeadStage.TheVariants.{LineStart, Cr, Line, Whole}

-- so many bytes in front of those of a head
abbrev pub behind : ℕ → ℕ × HeadStage → ℕ × HeadStage
behind n head = (n + head.0, head.1)

one_more : (stage : HeadStage) (n : ℕ) (head : ℕ × HeadStage) → stage ≢ Whole → behind n (in_front stage head) ≡ behind (n + 1) head
one_more LineStart n head goes = let e : n + (head.0 + 1) ≡ n + 1 + head.0 = omega arith in ap (λ m. (m, head.1)) e
one_more Cr n head goes = let e : n + (head.0 + 1) ≡ n + 1 + head.0 = omega arith in ap (λ m. (m, head.1)) e
one_more Line n head goes = let e : n + (head.0 + 1) ≡ n + 1 + head.0 = omega arith in ap (λ m. (m, head.1)) e
one_more Whole n head goes = absurd (goes refl)

pub next_byte : (stage : HeadStage) (bytes : List ℕ) (i : ℕ) → i < length bytes → stage ≢ Whole
    → behind i (head_bytes stage (drop i bytes)) ≡ behind (i + 1) (head_bytes (stage_after stage (get_or bytes i 0)) (drop (i + 1) bytes))
next_byte stage bytes i within goes =
    let first : drop i bytes ≡ get_or bytes i 0 ∷ drop (i + 1) bytes = drop-cons bytes i 0 within ∙ ap (λ n. get_or bytes i 0 ∷ drop n bytes) (sym (add-one i)) in
    ap (λ xs. behind i (head_bytes stage xs)) first ∙ one_more stage i (head_bytes (stage_after stage (get_or bytes i 0)) (drop (i + 1) bytes)) goes

pub from_none : (head : ℕ × HeadStage) → head ≡ behind 0 head
from_none head = ap (λ n. (n, head.1)) (sym (zero-add head.0))

pub at_whole : (bytes : List ℕ) → head_bytes Whole bytes ≡ (0, Whole)
at_whole [] = refl
at_whole (b ∷ bytes) = refl

pub to_here : (n : ℕ) (stage : HeadStage) → behind n (0, stage) ≡ (n, stage)
to_here n stage = ap (λ m. (m, stage)) (add-zero n)

pub no_more : (bytes : List ℕ) (stage : HeadStage) (i : ℕ) → length bytes ≤ i → head_bytes stage (drop i bytes) ≡ (0, stage)
no_more bytes stage i over = ap (head_bytes stage) (drop_all i bytes over)

-- ---- the first of the frames that are left

pub followed_first : (under : UnderWay) (rest : List ℕ) (frames : List Frame) (i : ℕ) (frame : Frame) → i < length frames → frame ≡ get_or frames i frame
    → followed under rest (drop i frames) ≡ followed under rest (frame ∷ drop (i + 1) frames)
followed_first under rest frames i frame within is =
    ap (followed under rest) (drop-cons frames i frame within ∙ ap (λ f. f ∷ drop (suc i) frames) (sym is) ∙ ap (λ n. frame ∷ drop n frames) (sym (add-one i)))

abbrev pub noted : ℕ → List ℕ → UnderWay → List Frame → List ℕ × UnderWay
noted place behind next frames = (place ∷ (followed next behind frames).0, (followed next behind frames).1)

pub one_followed : (under next : UnderWay) (rest behind : List ℕ) (frame : Frame) (frames : List Frame) (place size : ℕ) → place ≡ content_place under rest → size ≡ length frame.content
    → behind ≡ behind_content under size rest → next ≡ at_start (capped (place + size)) → followed under rest (frame ∷ frames) ≡ noted place behind next frames
one_followed under next rest behind frame frames place size p s b n =
    let long = length frame.content in
    ap (λ (q : ℕ). noted q (behind_content under long rest) (at_start (capped (q + long))) frames) (sym p)
    ∙ ap (λ (m : ℕ). noted place (behind_content under m rest) (at_start (capped (place + m))) frames) (sym s)
    ∙ ap (λ (xs : List ℕ). noted place xs (at_start (capped (place + size))) frames) (sym b)
    ∙ ap (λ (u : UnderWay). noted place behind u frames) (sym n)

small_append : (frames : List Frame) (frame : Frame) → SmallFrames frames → length frame.content < 2 ^ 64 → SmallFrames (frames ++ frame ∷ [])
small_append [] frame small is = (is, tt)
small_append (first ∷ frames) frame small is = (small.0, small_append frames frame small.1 is)

pub small_more : (frames : List Frame) (i : ℕ) (frame : Frame) (size : ℕ) → i < length frames → frame ≡ get_or frames i frame → size ≡ length frame.content → size < 2 ^ 64 → SmallFrames (take i frames) → SmallFrames (take (i + 1) frames)
small_more frames i frame size within is long few small =
    let P : List Frame → Type 0 = λ fs. SmallFrames fs in
    let next : take (i + 1) frames ≡ take i frames ++ frame ∷ [] = take_more frames i frame within ∙ ap (λ f. take i frames ++ f ∷ []) (sym is) in
    subst P (sym next) (small_append (take i frames) frame small (omega (arith, long, few)))

pub small_all : (frames : List Frame) (i : ℕ) → length frames ≤ i → SmallFrames (take i frames) → SmallFrames frames
small_all frames i over small = let P : List Frame → Type 0 = λ fs. SmallFrames fs in subst P (take_all i frames over) small

-- an item, whatever stands where there is none
pub same_item : (frames : List Frame) (i : ℕ) (one other : Frame) → i < length frames → get_or frames i one ≡ get_or frames i other
same_item [] i one other within = absurd (omega arith)
same_item (frame ∷ frames) zero one other within = refl
same_item (frame ∷ frames) (suc i) one other within = same_item frames i one other (omega arith)
