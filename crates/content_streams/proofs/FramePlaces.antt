-- The places of frames, as a function and as a relation.
use Rattle.std.proofs.Common.{◌≡◌, ℕ, zero, suc, ◌+◌, ◌-◌, ◌<◌, ◌≤◌, List, [], ◌∷◌, ◌++◌, length, map, refl, ap, sym, ◌∙◌, subst, append-nil, length-append, arith}
use Rattle.lsp_frames.specs.Contents.{Standing, Open, Broken, IsContents}
use Rattle.lsp_frames.specs.Frames.{Front, Whole, Faulty, Less, front}
use Rattle.lsp_frames.specs.declared.frame.Frame.{Frame}
use Rattle.lsp_frames.specs.declared.frame.FrameFault.{FrameFault}
use Rattle.lsp_frames.proofs.Fronts.{whole_stays, faulty_stays}
use Rattle.content_streams.specs.Framed.{place_front, placed, placed_frames, place_of_rest, frames_of, standing_of}
use Rattle.content_streams.proofs.Peeling.{rest_is_shorter, are_contents}

abbrev pub IsNoFrame : Front → Type 0
IsNoFrame (Whole frame rest) = ⊥
IsNoFrame (Faulty fault) = Unit {0}
IsNoFrame Less = Unit {0}

-- the offset behind a frame that is peeled off these bytes
abbrev pub next_start : ℕ → List ℕ → List ℕ → ℕ
next_start start bytes rest = start + (length bytes - length rest)

-- These are the frames of the bytes with their places, and that is the place of what is left.
abbrev pub Placed : ℕ → ℕ → List ℕ → List (ℕ × Frame) → ℕ → Type 0
Placed limit start bytes [] place = IsNoFrame (front limit bytes) × (place ≡ start)
Placed limit start bytes (found ∷ others) place =
    (rest : List ℕ) × (front limit bytes ≡ Whole found.1 rest) × (found.0 ≡ next_start start bytes rest - length found.1.content) × Placed limit (next_start start bytes rest) rest others place

abbrev pub frames_in : List (ℕ × Frame) → List Frame
frames_in found = map (λ placed. placed.1) found

-- ---- the function

abbrev pub pair : List (ℕ × Frame) → ℕ → List (ℕ × Frame) × ℕ
pair found place = (found, place)

pub placed_is : (most limit start : ℕ) (bytes : List ℕ) (found : List (ℕ × Frame)) (place : ℕ) → length bytes ≤ most → Placed limit start bytes found place → placed most limit start bytes ≡ pair found place
unfolding placed
placed_is zero limit start bytes [] place few is = ap (pair []) (sym is.1)
placed_is zero limit start bytes (one ∷ others) place few is =
    let shorter : length is.0 < length bytes = rest_is_shorter limit bytes one.1 is.0 is.1 in absurd (omega (arith, few, shorter))
placed_is (suc most) limit start bytes [] place few is = go (front limit bytes) is.0
  where
    go : (f : Front) → IsNoFrame f → place_front (placed most limit) start bytes f ≡ pair [] place
    go (Whole frame rest) none = absurd none
    go (Faulty fault) none = ap (pair []) (sym is.1)
    go Less none = ap (pair []) (sym is.1)
placed_is (suc most) limit start bytes (one ∷ others) place few is =
    let rest = is.0 in
    let next = next_start start bytes rest in
    let shorter : length rest < length bytes = rest_is_shorter limit bytes one.1 rest is.1 in
    let again = placed_is most limit next rest others place (omega (arith, few, shorter)) is.3 in
    ap (place_front (placed most limit) start bytes) is.1
    ∙ ap (λ (o : List (ℕ × Frame) × ℕ). pair ((next - length one.1.content, one.1) ∷ o.0) o.1) again
    ∙ ap (λ (n : ℕ). pair ((n, one.1) ∷ others) place) (sym is.2)

-- ---- they are those of the contents

pub record HasPlaces (limit start : ℕ) (bytes : List ℕ) (frames : List Frame) : Type 0 where
  pub found : List (ℕ × Frame)
  pub place : ℕ
  pub placed : Placed limit start bytes found place
  pub frames_are : frames_in found ≡ frames

no_frame : (limit : ℕ) (bytes : List ℕ) (standing : Standing) → IsContents limit bytes [] standing → IsNoFrame (front limit bytes)
no_frame limit bytes (Open rest) are = let P : Front → Type 0 = λ f. IsNoFrame f in subst P (sym are.0) tt
no_frame limit bytes (Broken fault) are = let P : Front → Type 0 = λ f. IsNoFrame f in subst P (sym are) tt

pub places_of : (limit start : ℕ) (bytes : List ℕ) (frames : List Frame) (standing : Standing) → IsContents limit bytes frames standing → HasPlaces limit start bytes frames
places_of limit start bytes [] standing are = record { found = []; place = start; placed = (no_frame limit bytes standing are, refl); frames_are = refl }
places_of limit start bytes (frame ∷ frames) standing are =
    let next = next_start start bytes are.0 in
    let others : HasPlaces limit next are.0 frames = places_of limit next are.0 frames standing are.2 in
    record {
      found = (next - length frame.content, frame) ∷ others.found;
      place = others.place;
      placed = (are.0, are.1, refl, others.placed);
      frames_are = ap (λ fs. frame ∷ fs) others.frames_are;
    }

pub all_placed : (limit : ℕ) (bytes : List ℕ) (found : List (ℕ × Frame)) (place : ℕ) → Placed limit 0 bytes found place → (placed_frames limit bytes ≡ found) × (place_of_rest limit bytes ≡ place)
unfolding placed_frames place_of_rest
all_placed limit bytes found place is =
    let all = placed_is (length bytes) limit 0 bytes found place (omega arith) is in
    (ap (λ (o : List (ℕ × Frame) × ℕ). o.0) all, ap (λ (o : List (ℕ × Frame) × ℕ). o.1) all)

-- the places of the frames of some bytes
pub record Places (limit : ℕ) (bytes : List ℕ) : Type 0 where
  pub placed : Placed limit 0 bytes (placed_frames limit bytes) (place_of_rest limit bytes)
  pub frames_are : frames_in (placed_frames limit bytes) ≡ frames_of limit bytes

pub places : (limit : ℕ) (bytes : List ℕ) → Places limit bytes
places limit bytes =
    let has : HasPlaces limit 0 bytes (frames_of limit bytes) = places_of limit 0 bytes (frames_of limit bytes) (standing_of limit bytes) (are_contents limit bytes) in
    let all = all_placed limit bytes has.found has.place has.placed in
    let F : List (ℕ × Frame) → Type 0 = λ found. Placed limit 0 bytes found (place_of_rest limit bytes) in
    let P : ℕ → Type 0 = λ place. Placed limit 0 bytes has.found place in
    record {
      placed = subst F (sym all.0) (subst P (sym all.1) has.placed);
      frames_are = ap frames_in all.0 ∙ has.frames_are;
    }

-- ---- more bytes

same_place : (start : ℕ) (bytes rest more : List ℕ) → next_start start (bytes ++ more) (rest ++ more) ≡ next_start start bytes rest
same_place start bytes rest more = omega (arith, length-append bytes more, length-append rest more)

pub goes_on : (limit start : ℕ) (bytes more : List ℕ) (found later : List (ℕ × Frame)) (place end : ℕ) (rest : List ℕ) → IsContents limit bytes (frames_in found) (Open rest) → Placed limit start bytes found place
    → Placed limit place (rest ++ more) later end → Placed limit start (bytes ++ more) (found ++ later) end
goes_on limit start bytes more [] later place end rest are is next =
    let P : ℕ → Type 0 = λ n. Placed limit n (bytes ++ more) later end in
    let Q : List ℕ → Type 0 = λ xs. Placed limit place (xs ++ more) later end in
    subst P is.1 (subst Q are.1 next)
goes_on limit start bytes more (one ∷ others) later place end rest are is next =
    let behind = is.0 in
    let same : Whole one.1 are.0 ≡ Whole one.1 behind = sym are.1 ∙ is.1 in
    let same_rest : are.0 ≡ behind = cc in
    let Are : List ℕ → Type 0 = λ xs. IsContents limit xs (frames_in others) (Open rest) in
    let after = next_start start bytes behind in
    let again : Placed limit after (behind ++ more) (others ++ later) end = goes_on limit after behind more others later place end rest (subst Are same_rest are.2) is.3 next in
    let P : ℕ → Type 0 = λ n. Placed limit n (behind ++ more) (others ++ later) end in
    let here = same_place start bytes behind more in
    (behind ++ more, whole_stays limit bytes more one.1 behind is.1, is.2 ∙ ap (λ n. n - length one.1.content) (sym here), subst P (sym here) again)

pub keeps : (limit start : ℕ) (bytes more : List ℕ) (found : List (ℕ × Frame)) (place : ℕ) (fault : FrameFault) → IsContents limit bytes (frames_in found) (Broken fault) → Placed limit start bytes found place
    → Placed limit start (bytes ++ more) found place
keeps limit start bytes more [] place fault are is =
    let P : Front → Type 0 = λ f. IsNoFrame f in
    (subst P (sym (faulty_stays limit bytes more fault are)) tt, is.1)
keeps limit start bytes more (one ∷ others) place fault are is =
    let behind = is.0 in
    let same : Whole one.1 are.0 ≡ Whole one.1 behind = sym are.1 ∙ is.1 in
    let same_rest : are.0 ≡ behind = cc in
    let Are : List ℕ → Type 0 = λ xs. IsContents limit xs (frames_in others) (Broken fault) in
    let after = next_start start bytes behind in
    let again : Placed limit after (behind ++ more) others place = keeps limit after behind more others place fault (subst Are same_rest are.2) is.3 in
    let P : ℕ → Type 0 = λ n. Placed limit n (behind ++ more) others place in
    let here = same_place start bytes behind more in
    (behind ++ more, whole_stays limit bytes more one.1 behind is.1, is.2 ∙ ap (λ n. n - length one.1.content) (sym here), subst P (sym here) again)

-- the bytes of a piece behind those that came
pub record MorePlaces (limit : ℕ) (bytes more : List ℕ) (later : List (ℕ × Frame)) (end : ℕ) : Type 0 where
  pub frames : placed_frames limit (bytes ++ more) ≡ placed_frames limit bytes ++ later
  pub rest : place_of_rest limit (bytes ++ more) ≡ end

pub places_go_on : (limit : ℕ) (bytes more : List ℕ) (later : List (ℕ × Frame)) (end : ℕ) (rest : List ℕ) → standing_of limit bytes ≡ Open rest
    → Placed limit (place_of_rest limit bytes) (rest ++ more) later end → MorePlaces limit bytes more later end
places_go_on limit bytes more later end rest left next =
    let old : Places limit bytes = places limit bytes in
    let P : Standing → Type 0 = λ s. IsContents limit bytes (frames_of limit bytes) s in
    let Q : List Frame → Type 0 = λ fs. IsContents limit bytes fs (Open rest) in
    let are = subst Q (sym old.frames_are) (subst P left (are_contents limit bytes)) in
    let all = all_placed limit (bytes ++ more) (placed_frames limit bytes ++ later) end (goes_on limit 0 bytes more (placed_frames limit bytes) later (place_of_rest limit bytes) end rest are old.placed next) in
    record { frames = all.0; rest = all.1 }

pub places_keep : (limit : ℕ) (bytes more : List ℕ) (fault : FrameFault) → standing_of limit bytes ≡ Broken fault → MorePlaces limit bytes more [] (place_of_rest limit bytes)
places_keep limit bytes more fault left =
    let old : Places limit bytes = places limit bytes in
    let P : Standing → Type 0 = λ s. IsContents limit bytes (frames_of limit bytes) s in
    let Q : List Frame → Type 0 = λ fs. IsContents limit bytes fs (Broken fault) in
    let are = subst Q (sym old.frames_are) (subst P left (are_contents limit bytes)) in
    let all = all_placed limit (bytes ++ more) (placed_frames limit bytes) (place_of_rest limit bytes) (keeps limit 0 bytes more (placed_frames limit bytes) (place_of_rest limit bytes) fault are old.placed) in
    record { frames = all.0 ∙ sym (append-nil (placed_frames limit bytes)); rest = all.1 }
