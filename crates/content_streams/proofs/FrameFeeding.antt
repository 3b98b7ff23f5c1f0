-- What a piece adds to frames that came, and to their places.
use Rattle.std.proofs.Common.{◌≡◌, ℕ, ◌+◌, ◌/◌, ◌≤◌, List, [], ◌∷◌, ◌++◌, length, refl, ap, sym, ◌∙◌, subst, append-nil, arith}
use Rattle.std.proofs.lemmas.List.{map-append, append_cancel_left}
use Rattle.lsp_frames.specs.Contents.{Standing, Open, Broken, IsContents}
use Rattle.lsp_frames.specs.Decoding.{Decoding, StandsAfter}
use Rattle.lsp_frames.specs.Frames.{Less, front}
use Rattle.lsp_frames.specs.declared.frame.Frame.{Frame}
use Rattle.lsp_frames.specs.declared.frame.FrameFault.{FrameFault}
use Rattle.lsp_frames.proofs.Laws.{contents_go_on}
use Rattle.content_streams.specs.Framed.{peeled, placed, frames_of, standing_of, placed_frames, place_of_rest}
use Rattle.content_streams.specs.Streams.{capped, capped_places}
use Rattle.content_streams.specs.Inner.Heads.{at_start, followed, with_bytes, seen, StandsAt, SmallFrames}
use Rattle.content_streams.specs.declared.under_way.UnderWay.{UnderWay}
use Rattle.content_streams.proofs.Peeling.{are_contents, are_frames, is_standing, keeps_frames, keeps_fault}
use Rattle.content_streams.proofs.FrameHeads.{seen_none}
use Rattle.content_streams.proofs.FramePlaces.{MorePlaces, places_go_on, places_keep}
use Rattle.content_streams.proofs.FrameFollowing.{Follows, follows}
use Rattle.content_streams.proofs.FrameSizes.{frames_fit}

-- These frames came with a piece: of what was left and the piece; or none, behind a fault.
pub data Given (limit : ℕ) (bytes piece : List ℕ) (given : List Frame) : Type 0 where
  OfRest : (rest : List ℕ) → standing_of limit bytes ≡ Open rest → front limit rest ≡ Less → IsContents limit (rest ++ piece) given (standing_of limit (bytes ++ piece)) → Given limit bytes piece given
  BehindFault : (fault : FrameFault) → standing_of limit bytes ≡ Broken fault → given ≡ [] → standing_of limit (bytes ++ piece) ≡ Broken fault → Given limit bytes piece given

rest_is_less : (limit : ℕ) (bytes : List ℕ) (frames : List Frame) (rest : List ℕ) → IsContents limit bytes frames (Open rest) → front limit rest ≡ Less
rest_is_less limit bytes [] rest are = ap (front limit) are.1 ∙ are.0
rest_is_less limit bytes (frame ∷ frames) rest are = rest_is_less limit are.0 frames rest are.2

pub given_are : (limit : ℕ) (bytes piece : List ℕ) (given : List Frame) → frames_of limit (bytes ++ piece) ≡ frames_of limit bytes ++ given → Given limit bytes piece given
given_are limit bytes piece given came = go (standing_of limit bytes) refl
  where
    go : (s : Standing) → standing_of limit bytes ≡ s → Given limit bytes piece given
    go (Open rest) is =
        let P : Standing → Type 0 = λ s. IsContents limit bytes (frames_of limit bytes) s in
        let are = subst P is (are_contents limit bytes) in
        let next = frames_of limit (rest ++ piece) in
        let after = standing_of limit (rest ++ piece) in
        let all = contents_go_on limit bytes piece (frames_of limit bytes) rest next after are (are_contents limit (rest ++ piece)) in
        let same : given ≡ next = append_cancel_left (frames_of limit bytes) given next (sym came ∙ sym (are_frames limit (bytes ++ piece) (frames_of limit bytes ++ next) after all)) in
        let stands : after ≡ standing_of limit (bytes ++ piece) = is_standing limit (bytes ++ piece) (frames_of limit bytes ++ next) after all in
        let F : List Frame → Type 0 = λ fs. IsContents limit (rest ++ piece) fs (standing_of limit (bytes ++ piece)) in
        let S : Standing → Type 0 = λ s. IsContents limit (rest ++ piece) next s in
        OfRest rest is (rest_is_less limit bytes (frames_of limit bytes) rest are) (subst F (sym same) (subst S stands (are_contents limit (rest ++ piece))))
    go (Broken fault) is =
        let none : given ≡ [] = append_cancel_left (frames_of limit bytes) given [] (sym came ∙ keeps_frames limit bytes piece fault is ∙ sym (append-nil (frames_of limit bytes))) in
        BehindFault fault is none (keeps_fault limit bytes piece fault is)

-- They are at most so many.
pub given_fit : (limit : ℕ) (bytes piece : List ℕ) (given : List Frame) → Given limit bytes piece given → length given ≤ length piece / 16 + 1
given_fit limit bytes piece given (OfRest rest is less are) = frames_fit limit rest piece given (standing_of limit (bytes ++ piece)) less are
given_fit limit bytes piece given (BehindFault fault is none stays) = let size : length given ≡ 0 = ap length none in omega (arith, size)

pub record FollowsOn (limit : ℕ) (bytes piece : List ℕ) (result : List ℕ × UnderWay) : Type 0 where
  pub places : capped_places (placed_frames limit (bytes ++ piece)) ≡ capped_places (placed_frames limit bytes) ++ result.0
  pub stands : StandsAt result.1 (place_of_rest limit (bytes ++ piece)) (standing_of limit (bytes ++ piece))

more_found : (limit : ℕ) (bytes piece : List ℕ) (later : List (ℕ × Frame)) (end : ℕ) → MorePlaces limit bytes piece later end → capped_places (placed_frames limit (bytes ++ piece)) ≡ capped_places (placed_frames limit bytes) ++ capped_places later
more_found limit bytes piece later end more = ap capped_places more.frames ∙ map-append (λ placed. capped placed.0) (placed_frames limit bytes) later

pub follows_on : (limit : ℕ) (bytes piece : List ℕ) (given : List Frame) (under : UnderWay) → Given limit bytes piece given → StandsAt under (place_of_rest limit bytes) (standing_of limit bytes) → SmallFrames given
    → FollowsOn limit bytes piece (followed under piece given)
follows_on limit bytes piece given under (OfRest rest is less are) stands small =
    let place = place_of_rest limit bytes in
    let P : Standing → Type 0 = λ s. StandsAt under place s in
    let at : under ≡ seen place rest = subst P is stands in
    let f : Follows limit place (rest ++ piece) (standing_of limit (bytes ++ piece)) (followed (seen place rest) piece given) = follows limit place rest piece given (standing_of limit (bytes ++ piece)) less are small in
    let more : MorePlaces limit bytes piece f.found f.place = places_go_on limit bytes piece f.found f.place rest is f.placed in
    let Q : ℕ → Type 0 = λ n. StandsAt (followed (seen place rest) piece given).1 n (standing_of limit (bytes ++ piece)) in
    let R : UnderWay → Type 0 = λ u. FollowsOn limit bytes piece (followed u piece given) in
    subst R (sym at) (record {
      places = more_found limit bytes piece f.found f.place more ∙ ap (λ xs. capped_places (placed_frames limit bytes) ++ xs) (sym f.places);
      stands = subst Q (sym more.rest) f.stands;
    })
follows_on limit bytes piece given under (BehindFault fault is none stays) stands small =
    let more : MorePlaces limit bytes piece [] (place_of_rest limit bytes) = places_keep limit bytes piece fault is in
    let P : Standing → Type 0 = λ s. StandsAt under (place_of_rest limit bytes) s in
    let Q : List Frame → Type 0 = λ fs. FollowsOn limit bytes piece (followed under piece fs) in
    let S : Standing → Type 0 = λ s. StandsAt (with_bytes under piece) (place_of_rest limit (bytes ++ piece)) s in
    let R : ℕ → Type 0 = λ n. under.start ≡ capped n in
    let at : under.start ≡ capped (place_of_rest limit bytes) = subst P is stands in
    subst Q (sym none) (record {
      places = more_found limit bytes piece [] (place_of_rest limit bytes) more;
      stands = subst S (sym stays) (subst R (sym more.rest) at);
    })

-- ---- a decoder's feed

pub came_with : (old new : Decoding) (bytes piece : List ℕ) (given : List Frame) → new.limit ≡ old.limit → StandsAfter new (bytes ++ piece) (frames_of old.limit bytes ++ given)
    → frames_of old.limit (bytes ++ piece) ≡ frames_of old.limit bytes ++ given
came_with old new bytes piece given same stands =
    ap (λ limit. frames_of limit (bytes ++ piece)) (sym same) ∙ sym (are_frames new.limit (bytes ++ piece) (frames_of old.limit bytes ++ given) stands.0 stands.1)

pub stands_all : (new : Decoding) (bytes : List ℕ) (frames : List Frame) → StandsAfter new bytes frames → StandsAfter new bytes (frames_of new.limit bytes)
stands_all new bytes frames stands = let P : List Frame → Type 0 = λ fs. StandsAfter new bytes fs in subst P (are_frames new.limit bytes frames stands.0 stands.1) stands

pub at_first : (limit : ℕ) (under : UnderWay) → under ≡ at_start 0 → StandsAt under (place_of_rest limit []) (standing_of limit [])
unfolding standing_of peeled placed place_of_rest
at_first limit under is = is ∙ sym (seen_none 0)
