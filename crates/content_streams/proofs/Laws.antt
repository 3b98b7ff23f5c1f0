-- The laws of contents and ends.
use Rattle.std.proofs.Common.{◌≡◌, ◌≢◌, ℕ, ◌+◌, ◌-◌, ◌<◌, ◌≤◌, ◌↔◌, ◌⊎◌, inl, inr, Option, Some, None, Bool, true, false, cond, eqb, ltb, List, [], ◌∷◌, ◌++◌, length, get_or, map, refl, ap, sym, ◌∙◌, arith}
use Rattle.std.specs.List.{slice_get, join_with_byte}
use Rattle.std.specs.Option.{option_map, unwrap_or}
use Rattle.std.proofs.lemmas.Bool.Decides.{nat_tests}
use Rattle.std.proofs.lemmas.List.Splits.{join_with_byte-slice_split}
use Rattle.std.proofs.lemmas.Option.{slice_get_within, slice_get-get_or, get_or_from_slice_get}
use Rattle.lsp_frames.specs.Contents as frames
use Rattle.lsp_frames.specs.Contents.{Standing, IsContents}
use Rattle.lsp_frames.specs.declared.frame.Frame.{Frame}
use Rattle.lsp_frames.specs.declared.frame.FrameFault.{FrameFault}
use Rattle.lsp_frames.specs.declared.frame.FrameFault.TheVariants.{TooLarge}
use Rattle.content_streams.specs.Framed.{frames_of, standing_of, placed_frames, place_of_rest}
use Rattle.content_streams.specs.Lines.{parts, ended_lines, ends_in_cr, without_cr, fits, all_fit, line_contents, placed_line_contents, line_place}
use Rattle.content_streams.specs.Streams.{joined, plain, lines_read, fault_left, fault_of, stream_end, closed_end, end_at, end_of, contents_of, placed_contents_of, plain_at, place_left, place_at_fault, fault_place_of}
use Rattle.content_streams.specs.declared.ending.HowEnded.{HowEnded}
use Rattle.content_streams.specs.declared.ending.HowEnded.TheVariants.{Closed, ReadFailed}
use Rattle.content_streams.specs.declared.ending.StreamEnd.{StreamEnd}
use Rattle.content_streams.specs.declared.ending.StreamEnd.TheVariants as ends
use Rattle.content_streams.specs.declared.framing.Framing.{Framing}
use Rattle.content_streams.specs.declared.framing.Framing.TheVariants.{Frames, Lines, Contents}
use Rattle.content_streams.proofs.Keeping.{Grows, grows, Ignores, ignores}
use Rattle.content_streams.proofs.KeepingPlaces.{PlacesGrow, places_grow}
use Rattle.content_streams.proofs.LineTexts.{length-without_cr, at_most_one}
use Rattle.content_streams.proofs.Peeling.{are_contents, is_standing}

-- In frames and lines it doesn't matter how the bytes are cut into pieces.
pub cuts_leave_contents : (framing : Framing) (limit : ℕ) (pieces others : List (List ℕ)) (ended : Option HowEnded) → framing ≢ Contents → joined pieces ≡ joined others → contents_of framing limit pieces ended ≡ contents_of framing limit others ended
cuts_leave_contents Frames limit pieces others ended cut same = ap (frames_of limit) same
cuts_leave_contents Lines limit pieces others ended cut same = ap (λ bytes. map plain (line_contents limit (lines_read ended bytes))) same
cuts_leave_contents Contents limit pieces others ended cut same = absurd (cut refl)

pub cuts_leave_end : (framing : Framing) (limit : ℕ) (pieces others : List (List ℕ)) (ended : Option HowEnded) → framing ≢ Contents → joined pieces ≡ joined others → end_of framing limit pieces ended ≡ end_of framing limit others ended
cuts_leave_end Frames limit pieces others ended cut same =
    ap (λ bytes. end_at (fault_left (standing_of limit bytes)) ended (stream_end (frames.end_of (standing_of limit bytes)))) same
cuts_leave_end Lines limit pieces others ended cut same = ap (λ bytes. end_at (cond (all_fit limit (parts bytes)) None (Some TooLarge)) ended ends.Clean) same
cuts_leave_end Contents limit pieces others ended cut same = absurd (cut refl)

pub cuts_leave_places : (framing : Framing) (limit : ℕ) (pieces others : List (List ℕ)) (ended : Option HowEnded) → framing ≢ Contents → joined pieces ≡ joined others → placed_contents_of framing limit pieces ended ≡ placed_contents_of framing limit others ended
cuts_leave_places Frames limit pieces others ended cut same = ap (placed_frames limit) same
cuts_leave_places Lines limit pieces others ended cut same = ap (λ bytes. map plain_at (placed_line_contents limit 0 (lines_read ended bytes))) same
cuts_leave_places Contents limit pieces others ended cut same = absurd (cut refl)

place_left_same : (framing : Framing) (limit : ℕ) (pieces others : List (List ℕ)) → framing ≢ Contents → joined pieces ≡ joined others → place_left framing limit pieces ≡ place_left framing limit others
place_left_same Frames limit pieces others cut same = ap (place_of_rest limit) same
place_left_same Lines limit pieces others cut same = ap (λ bytes. line_place limit 0 (ended_lines bytes)) same
place_left_same Contents limit pieces others cut same = absurd (cut refl)

pub cuts_leave_fault_place : (framing : Framing) (limit : ℕ) (pieces others : List (List ℕ)) (ended : Option HowEnded) → framing ≢ Contents → joined pieces ≡ joined others → fault_place_of framing limit pieces ended ≡ fault_place_of framing limit others ended
cuts_leave_fault_place framing limit pieces others ended cut same =
    ap (λ (close : Option StreamEnd). place_at_fault close (place_left framing limit pieces)) (cuts_leave_end framing limit pieces others ended cut same)
    ∙ ap (place_at_fault (end_of framing limit others ended)) (place_left_same framing limit pieces others cut same)

pub places_only_grow : (framing : Framing) (limit : ℕ) (pieces more : List (List ℕ)) (ended : Option HowEnded)
    → (later : List (ℕ × Frame)) × (placed_contents_of framing limit (pieces ++ more) ended ≡ placed_contents_of framing limit pieces None ++ later)
places_only_grow framing limit pieces more ended = let grown : PlacesGrow framing limit pieces more ended = places_grow framing limit pieces more ended in (grown.later, grown.contents)

-- More pieces, and the end, only add contents.
pub contents_grow : (framing : Framing) (limit : ℕ) (pieces more : List (List ℕ)) (ended : Option HowEnded)
    → (later : List Frame) × (contents_of framing limit (pieces ++ more) ended ≡ contents_of framing limit pieces None ++ later)
contents_grow framing limit pieces more ended = let grown : Grows framing limit pieces more ended = grows framing limit pieces more ended in (grown.later, grown.contents)

-- ---- a fault

pub record Shown (fault : Option FrameFault) (close : StreamEnd) : Type 0 where
  pub shows : FrameFault
  pub is : fault ≡ Some shows
  pub ends : ends.Fault shows ≡ close

shown : (fault : Option FrameFault) (closed close : StreamEnd) → end_at fault None closed ≡ Some close → Shown fault close
shown None closed close is = cc
shown (Some fault) closed close is = record { shows = fault; is = refl; ends = cc }

pub end_stays : (framing : Framing) (limit : ℕ) (pieces more : List (List ℕ)) (ended : Option HowEnded) (close : StreamEnd) → end_of framing limit pieces None ≡ Some close → end_of framing limit (pieces ++ more) ended ≡ Some close
end_stays framing limit pieces more ended close is =
    let fault : Shown (fault_of framing limit pieces) close = shown (fault_of framing limit pieces) (closed_end framing limit pieces) close is in
    let same : Ignores framing limit pieces more ended fault.shows = ignores framing limit pieces more ended fault.shows fault.is in
    ap (λ o. end_at o ended (closed_end framing limit (pieces ++ more))) same.0 ∙ ap Some fault.ends

pub contents_stay : (framing : Framing) (limit : ℕ) (pieces more : List (List ℕ)) (ended : Option HowEnded) (close : StreamEnd) → end_of framing limit pieces None ≡ Some close
    → contents_of framing limit (pieces ++ more) ended ≡ contents_of framing limit pieces None
contents_stay framing limit pieces more ended close is =
    let fault : Shown (fault_of framing limit pieces) close = shown (fault_of framing limit pieces) (closed_end framing limit pieces) close is in
    let same : Ignores framing limit pieces more ended fault.shows = ignores framing limit pieces more ended fault.shows fault.is in
    same.1

-- ---- frames

pub frames_are : (limit : ℕ) (pieces : List (List ℕ)) (ended : Option HowEnded) → (standing : Standing) × IsContents limit (joined pieces) (contents_of Frames limit pieces ended) standing
frames_are limit pieces ended = (standing_of limit (joined pieces), are_contents limit (joined pieces))

closed_at : (standing : Standing) → end_at (fault_left standing) (Some Closed) (stream_end (frames.end_of standing)) ≡ Some (stream_end (frames.end_of standing))
closed_at (frames.Open []) = refl
closed_at (frames.Open (b ∷ bytes)) = refl
closed_at (frames.Broken fault) = refl

failed_at : (standing : Standing) (closed : StreamEnd) → end_at (fault_left standing) (Some ReadFailed) closed ≡ Some (unwrap_or (option_map ends.Fault (fault_left standing)) ends.ReadFailed)
failed_at (frames.Open rest) closed = refl
failed_at (frames.Broken fault) closed = refl

pub frames_closed : (limit : ℕ) (pieces : List (List ℕ)) (contents : List Frame) (standing : Standing) → IsContents limit (joined pieces) contents standing → end_of Frames limit pieces (Some Closed) ≡ Some (stream_end (frames.end_of standing))
frames_closed limit pieces contents standing are =
    closed_at (standing_of limit (joined pieces)) ∙ ap (λ s. Some (stream_end (frames.end_of s))) (sym (is_standing limit (joined pieces) contents standing are))

pub frames_failed : (limit : ℕ) (pieces : List (List ℕ)) (contents : List Frame) (standing : Standing) → IsContents limit (joined pieces) contents standing
    → end_of Frames limit pieces (Some ReadFailed) ≡ Some (unwrap_or (option_map ends.Fault (fault_left standing)) ends.ReadFailed)
frames_failed limit pieces contents standing are =
    failed_at (standing_of limit (joined pieces)) (closed_end Frames limit pieces)
    ∙ ap (λ s. Some (unwrap_or (option_map ends.Fault (fault_left s)) ends.ReadFailed)) (sym (is_standing limit (joined pieces) contents standing are))

-- ---- lines

pub lines_join : (bytes : List ℕ) → join_with_byte 10 (parts bytes) ≡ bytes
lines_join bytes = join_with_byte-slice_split 10 bytes

abbrev pub ShowsLong : ℕ → List ℕ → Type 0
ShowsLong limit line = ((b : ℕ) × (slice_get line limit ≡ Some b) × (b ≢ 13)) ⊎ (limit + 1 < length line)

long_shows : (limit : ℕ) (line : List ℕ) (t s : Bool) → ends_in_cr line ≡ t → ltb (limit + 1) (length line) ≡ s → length (without_cr line) ≡ length line - cond t 1 0 → limit < length (without_cr line) → ShowsLong limit line
long_shows limit line t true e f size over = inr (grind (arith, nat_tests))
long_shows limit line true false e f size over = absurd (let few : length line ≤ limit + 1 = grind (arith, nat_tests) in omega arith)
long_shows limit line false false e f size over =
    let few : length line ≤ limit + 1 = grind (arith, nat_tests) in
    let at : length line - 1 ≡ limit = omega arith in
    let within : limit < length line = omega arith in
    let differs : eqb (get_or line limit 0) 13 ≡ false = ap (λ n. eqb (get_or line n 0) 13) (sym at) ∙ e in
    inl (get_or line limit 0, slice_get-get_or line limit 0 within, (λ is. (let same : eqb (get_or line limit 0) 13 ≡ true = ap (λ n. eqb n 13) is in cc)))

shows_long : (limit : ℕ) (line : List ℕ) (t : Bool) → ends_in_cr line ≡ t → length (without_cr line) ≡ length line - cond t 1 0 → ShowsLong limit line → limit < length (without_cr line)
shows_long limit line true e size (inl found) =
    let within : limit < length line = slice_get_within line limit found.0 found.1 in
    let more : length line - 1 ≢ limit = λ at.
    (let last : eqb (get_or line limit 0) 13 ≡ true = ap (λ n. eqb (get_or line n 0) 13) (sym at) ∙ e in
    let is : get_or line limit 0 ≡ found.0 = get_or_from_slice_get line limit found.0 0 found.1 in
    let cr : get_or line limit 0 ≡ 13 = grind (arith, nat_tests) in
    found.2 (sym is ∙ cr)) in
    omega arith
shows_long limit line false e size (inl found) =
    let within : limit < length line = slice_get_within line limit found.0 found.1 in
    omega arith
shows_long limit line t e size (inr more) = let one = at_most_one t in omega arith

pub line_is_long : (limit : ℕ) (line : List ℕ) → (fits limit (without_cr line) ≡ false) ↔ ShowsLong limit line
line_is_long limit line = (
  (λ long. long_shows limit line (ends_in_cr line) (ltb (limit + 1) (length line)) refl refl (length-without_cr line) (grind (arith, nat_tests))),
  (λ shows. let over : limit < length (without_cr line) = shows_long limit line (ends_in_cr line) refl (length-without_cr line) shows in grind (arith, nat_tests)),
)
