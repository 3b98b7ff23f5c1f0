-- What is followed of frames is where they stand.
use Rattle.std.proofs.Common.{◌≡◌, ℕ, ◌+◌, ◌-◌, ◌^◌, ◌<◌, ◌≤◌, Bool, true, false, leb, List, [], ◌∷◌, ◌++◌, length, drop, refl, ap, sym, ◌∙◌, subst, length-append, length-take, length-drop, arith}
use Rattle.std.proofs.lemmas.Bool.Decides.{nat_tests}
use Rattle.std.proofs.Math.Seq.{drop-append-add}
use Rattle.lsp_frames.specs.Contents.{Standing, Open, Broken, IsContents}
use Rattle.lsp_frames.specs.Frames.{Front, Whole, Faulty, Less, front, content_front}
use Rattle.lsp_frames.specs.Heads.{HeadRead, Ends, Breaks, Unended, head_at}
use Rattle.lsp_frames.specs.declared.frame.Frame.{Frame}
use Rattle.lsp_frames.proofs.Fronts.{IsWhole, whole_is, front_ends, content_whole, ends_stay, breaks_stay}
use Rattle.content_streams.specs.Streams.{capped, capped_places}
use Rattle.content_streams.specs.Inner.Heads.{head_bytes, at_start, with_bytes, content_place, behind_content, followed, seen, StandsAt, SmallFrames}
use Rattle.content_streams.specs.declared.under_way.UnderWay.{UnderWay}
use Rattle.content_streams.specs.declared.under_way.HeadStage.{HeadStage}
use Rattle.content_streams.specs.declared.under_way.HeadStage.TheVariants as stages
use Rattle.content_streams.proofs.HeadSteps.{at_whole, one_followed}
use Rattle.content_streams.proofs.FrameHeads.{Matches, head_matches, head_bytes-append, onward, seen_more, seen_none}
use Rattle.content_streams.proofs.FramePlaces.{Placed, next_start}
use Rattle.content_streams.proofs.Peeling.{front-nil}

-- ---- what is under way of a frame that is whole with more bytes

less_than : (n : ℕ) (foreign : Bool) (had : List ℕ) → content_front n foreign had ≡ Less → length had < n
less_than n foreign had less = go (leb n (length had)) refl
  where
    go : (t : Bool) → leb n (length had) ≡ t → length had < n
    go true e = let enough : n ≤ length had = grind (arith, nat_tests) in (let clash = sym less ∙ content_whole n foreign had enough in cc)
    go false e = grind (arith, nat_tests)

-- Its head isn't whole, or so much of its content had come.
pub data HowUnder (rest piece : List ℕ) (size : ℕ) (behind : List ℕ) : Type 0 where
  InHead : (head_bytes stages.LineStart rest).0 ≡ length rest → HowUnder rest piece size behind
  InContent : (had : List ℕ) → (head_bytes stages.LineStart rest).1 ≡ stages.Whole → (head_bytes stages.LineStart rest).0 + length had ≡ length rest → length had < size → behind ≡ had ++ piece → HowUnder rest piece size behind

how_under : (limit : ℕ) (rest piece : List ℕ) (size : ℕ) (foreign : Bool) (behind : List ℕ) → front limit rest ≡ Less → head_at limit (rest ++ piece) ≡ Ends size foreign behind → HowUnder rest piece size behind
how_under limit rest piece size foreign behind less ends = go (head_at limit rest) refl (head_matches limit rest)
  where
    go : (r : HeadRead) → head_at limit rest ≡ r → Matches (head_at limit rest) (head_bytes stages.LineStart rest) rest → HowUnder rest piece size behind
    go (Ends n kind had) e m =
        let P : HeadRead → Type 0 = λ r. Matches r (head_bytes stages.LineStart rest) rest in
        let is : Matches (Ends n kind had) (head_bytes stages.LineStart rest) rest = subst P e m in
        let same : Ends n kind (had ++ piece) ≡ Ends size foreign behind = sym (ends_stay limit rest piece n kind had e) ∙ ends in
        let same_size : n ≡ size = cc in
        let same_behind : had ++ piece ≡ behind = cc in
        let few : length had < n = less_than n kind had (sym (front_ends limit rest n kind had e) ∙ less) in
        InContent had is.0 is.2 (omega (arith, few, same_size)) (sym same_behind)
    go (Breaks fault) e m = (let clash : Breaks fault ≡ Ends size foreign behind = sym (breaks_stay limit rest piece fault e) ∙ ends in cc)
    go (Unended reading) e m =
        let P : HeadRead → Type 0 = λ r. Matches r (head_bytes stages.LineStart rest) rest in
        let is : Matches (Unended reading) (head_bytes stages.LineStart rest) rest = subst P e m in
        InHead is.0

-- a frame that is whole with a piece behind what had come of it
pub record IsCompleted (limit : ℕ) (rest piece : List ℕ) (frame : Frame) (behind : List ℕ) : Type 0 where
  pub head : ℕ
  pub came : ℕ
  pub all : List ℕ
  pub head_is : head ≡ (head_bytes stages.LineStart rest).0
  pub came_is : came ≡ (head_bytes (head_bytes stages.LineStart rest).1 piece).0
  pub all_is : drop (head + came) (rest ++ piece) ≡ all
  pub sizes : head + came + length all ≡ length rest + length piece
  pub enough : length frame.content ≤ length all
  pub left : drop (length frame.content) all ≡ behind
  pub how : HowUnder rest piece (length frame.content) all

pub is_completed : (limit : ℕ) (rest piece : List ℕ) (frame : Frame) (behind : List ℕ) → front limit rest ≡ Less → front limit (rest ++ piece) ≡ Whole frame behind → IsCompleted limit rest piece frame behind
is_completed limit rest piece frame behind less whole =
    let w : IsWhole limit (rest ++ piece) frame behind = whole_is limit (rest ++ piece) frame behind whole in
    let head = head_bytes stages.LineStart rest in
    let P : HeadRead → Type 0 = λ r. Matches r (head_bytes stages.LineStart (rest ++ piece)) (rest ++ piece) in
    let Q : ℕ × HeadStage → Type 0 = λ h. Matches (Ends w.size w.kind w.behind) h (rest ++ piece) in
    let m : Matches (Ends w.size w.kind w.behind) (onward head piece) (rest ++ piece) = subst Q (head_bytes-append stages.LineStart rest piece) (subst P w.head (head_matches limit (rest ++ piece))) in
    let size : length frame.content ≡ w.size = sym (ap (λ (f : Frame). length f.content) w.content) ∙ length-take w.size w.behind ∙ omega (arith, w.enough) in
    let H : ℕ → Type 0 = λ n. HowUnder rest piece n w.behind in
    record {
      head = head.0;
      came = (head_bytes head.1 piece).0;
      all = w.behind;
      head_is = refl;
      came_is = refl;
      all_is = m.1;
      sizes = m.2 ∙ length-append rest piece;
      enough = omega (arith, size, w.enough);
      left = ap (λ n. drop n w.behind) size ∙ w.left;
      how = subst H (sym size) (how_under limit rest piece w.size w.kind w.behind less w.head);
    }

-- what is behind it is of the piece
pub behind_is_less : (limit : ℕ) (rest piece : List ℕ) (frame : Frame) (behind : List ℕ) → IsCompleted limit rest piece frame behind → length behind ≤ length piece
behind_is_less limit rest piece frame behind is =
    let left : length behind ≡ length is.all - length frame.content = ap length (sym is.left) ∙ length-drop (length frame.content) is.all in
    go left is.how
  where
    go : length behind ≡ length is.all - length frame.content → HowUnder rest piece (length frame.content) is.all → length behind ≤ length piece
    go left (InHead all) = omega (arith, left, all, is.head_is, is.sizes)
    go left (InContent had whole some few same) =
        let long : length is.all ≡ length had + length piece = ap length same ∙ length-append had piece in
        omega (arith, left, long, few)

-- ---- its place

pub content_starts : (limit start : ℕ) (rest piece : List ℕ) (frame : Frame) (behind : List ℕ) → IsCompleted limit rest piece frame behind
    → content_place (seen start rest) piece ≡ capped (next_start start (rest ++ piece) behind - length frame.content)
content_starts limit start rest piece frame behind is =
    let left : length behind ≡ length is.all - length frame.content = ap length (sym is.left) ∙ length-drop (length frame.content) is.all in
    let long : length (rest ++ piece) ≡ length rest + length piece = length-append rest piece in
    let here : capped (capped (capped start + is.head) + is.came) ≡ capped (next_start start (rest ++ piece) behind - length frame.content) = omega (arith, left, long, is.sizes, is.enough) in
    ap (λ n. capped (capped (capped start + n) + (head_bytes (head_bytes stages.LineStart rest).1 piece).0)) (sym is.head_is)
    ∙ ap (λ n. capped (capped (capped start + is.head) + n)) (sym is.came_is) ∙ here

pub content_ends : (limit start : ℕ) (rest piece : List ℕ) (frame : Frame) (behind : List ℕ) → IsCompleted limit rest piece frame behind → length frame.content < 2 ^ 64
    → behind_content (seen start rest) (length frame.content) piece ≡ behind
content_ends limit start rest piece frame behind is small = go is.how
  where
    size : ℕ
    size = length frame.content

    go : HowUnder rest piece (length frame.content) is.all → drop (length frame.content - capped (0 + (length rest - (head_bytes stages.LineStart rest).0))) (drop (head_bytes (head_bytes stages.LineStart rest).1 piece).0 piece) ≡ behind
    go (InHead all) =
        let none : length frame.content - capped (0 + (length rest - (head_bytes stages.LineStart rest).0)) ≡ length frame.content = omega (arith, all) in
        let at : is.head ≡ length rest = is.head_is ∙ all in
        ap (λ n. drop n (drop (head_bytes (head_bytes stages.LineStart rest).1 piece).0 piece)) none
        ∙ ap (λ n. drop (length frame.content) (drop n piece)) (sym is.came_is)
        ∙ ap (drop (length frame.content)) (sym (drop-append-add rest piece is.came) ∙ ap (λ n. drop (n + is.came) (rest ++ piece)) (sym at) ∙ is.all_is)
        ∙ is.left
    go (InContent had whole some few same) =
        let came : length frame.content - capped (0 + (length rest - (head_bytes stages.LineStart rest).0)) ≡ length frame.content - length had = omega (arith, some, few, small) in
        let parts : length had + (length frame.content - length had) ≡ length frame.content = omega (arith, few) in
        ap (λ n. drop n (drop (head_bytes (head_bytes stages.LineStart rest).1 piece).0 piece)) came
        ∙ ap (λ (s : HeadStage). drop (length frame.content - length had) (drop (head_bytes s piece).0 piece)) whole
        ∙ ap (λ (h : ℕ × HeadStage). drop (length frame.content - length had) (drop h.0 piece)) (at_whole piece)
        ∙ sym (drop-append-add had piece (length frame.content - length had))
        ∙ ap (λ n. drop n (had ++ piece)) parts ∙ ap (drop (length frame.content)) (sym same) ∙ is.left

-- ---- all of them

pub record Follows (limit start : ℕ) (bytes : List ℕ) (standing : Standing) (result : List ℕ × UnderWay) : Type 0 where
  pub found : List (ℕ × Frame)
  pub place : ℕ
  pub placed : Placed limit start bytes found place
  pub places : result.0 ≡ capped_places found
  pub stands : StandsAt result.1 place standing

none_follows : (limit start : ℕ) (rest piece : List ℕ) (standing : Standing) → IsContents limit (rest ++ piece) [] standing → Follows limit start (rest ++ piece) standing ([], with_bytes (seen start rest) piece)
none_follows limit start rest piece (Open left) are =
    let P : Front → Type 0 = λ f. elim f [ Whole frame behind ↦ ⊥ | Faulty fault ↦ Unit {0} | Less ↦ Unit {0} ] in
    record {
      found = [];
      place = start;
      placed = (subst P (sym are.0) tt, refl);
      places = refl;
      stands = seen_more start rest piece ∙ ap (seen start) (sym are.1);
    }
none_follows limit start rest piece (Broken fault) are =
    let P : Front → Type 0 = λ f. elim f [ Whole frame behind ↦ ⊥ | Faulty fault ↦ Unit {0} | Less ↦ Unit {0} ] in
    record { found = []; place = start; placed = (subst P (sym are) tt, refl); places = refl; stands = refl }

one_follows : (limit start : ℕ) (rest piece behind : List ℕ) (frame : Frame) (frames : List Frame) (standing : Standing) → IsCompleted limit rest piece frame behind → front limit (rest ++ piece) ≡ Whole frame behind → length frame.content < 2 ^ 64
    → Follows limit (next_start start (rest ++ piece) behind) behind standing (followed (seen (next_start start (rest ++ piece) behind) []) behind frames)
    → Follows limit start (rest ++ piece) standing (followed (seen start rest) piece (frame ∷ frames))
one_follows limit start rest piece behind frame frames standing is whole small next =
    let after = next_start start (rest ++ piece) behind in
    let size = length frame.content in
    let place = after - size in
    let left : length behind ≡ length is.all - size = ap length (sym is.left) ∙ length-drop size is.all in
    let long : length (rest ++ piece) ≡ length rest + length piece = length-append rest piece in
    let ends : capped after ≡ capped (capped place + size) = omega (arith, left, long, is.sizes, is.enough) in
    let result = followed (seen after []) behind frames in
    let here : followed (seen start rest) piece (frame ∷ frames) ≡ (capped place ∷ result.0, result.1) =
    one_followed (seen start rest) (seen after []) piece behind frame frames (capped place) size (sym (content_starts limit start rest piece frame behind is)) refl
    (sym (content_ends limit start rest piece frame behind is small)) (seen_none after ∙ ap at_start ends) in
    let P : List ℕ × UnderWay → Type 0 = λ r. Follows limit start (rest ++ piece) standing r in
    subst P (sym here) (record {
      found = (place, frame) ∷ next.found;
      place = next.place;
      placed = (behind, whole, refl, next.placed);
      places = ap (λ xs. capped place ∷ xs) next.places;
      stands = next.stands;
    })

pub follows : (limit start : ℕ) (rest piece : List ℕ) (frames : List Frame) (standing : Standing) → front limit rest ≡ Less → IsContents limit (rest ++ piece) frames standing → SmallFrames frames
    → Follows limit start (rest ++ piece) standing (followed (seen start rest) piece frames)
follows limit start rest piece [] standing less are small = none_follows limit start rest piece standing are
follows limit start rest piece (frame ∷ frames) standing less are small =
    let is : IsCompleted limit rest piece frame are.0 = is_completed limit rest piece frame are.0 less are.1 in
    one_follows limit start rest piece are.0 frame frames standing is are.1 small.0
    (follows limit (next_start start (rest ++ piece) are.0) [] are.0 frames standing (front-nil limit) are.2 small.1)
