-- What a cutter knows of the pieces, and more pieces.
use Rattle.std.proofs.Common.{◌≡◌, ◌≢◌, ℕ, ◌+◌, Some, None, Result, Ok, Err, Bool, true, false, cond, not, ◌&&◌, List, [], ◌∷◌, ◌++◌, length, map, append_assoc, refl, ap, sym, ◌∙◌, subst, append-nil, arith}
use Rattle.std.specs.Result.{IfOk, OnOk}
use Rattle.std.specs.List.{list_all, take_while}
use Rattle.std.proofs.lemmas.List.{map-append}
use Rattle.std.proofs.lemmas.List.Folds.{concat-append}
use Rattle.lsp_frames.specs.Contents as frames
use Rattle.lsp_frames.specs.Contents.{Standing, IsContents}
use Rattle.lsp_frames.specs.Decoding.{Decoding, StandsAfter}
use Rattle.lsp_frames.specs.Feeds.{fed_frames}
use Rattle.lsp_frames.specs.declared.fed.Fed.{Fed}
use Rattle.lsp_frames.specs.declared.frame.Frame.{Frame}
use Rattle.lsp_frames.specs.declared.frame.FrameFault.{FrameFault}
use Rattle.lsp_frames.specs.declared.frame.FrameFault.TheVariants.{BadHead, BadLength, TwoLengths, TooLarge, NoLength, HeadTooLong, Truncated, LongLength}
use Rattle.lsp_frames.proofs.Laws.{no_bytes_show_an_end}
use Rattle.content_streams.specs.Framed.{frames_of, standing_of, placed_frames}
use Rattle.content_streams.specs.Lines.{parts, ended_lines, fits, all_fit, line_contents, place_behind, placed_line_contents, line_place}
use Rattle.content_streams.specs.Streams.{joined, plain, plain_at, capped, capped_places, fault_left}
use Rattle.content_streams.specs.Inner.Cutting.{LineCutting, Within, Over, line_fault, text_standing, last_line, ended_contents, ended_places, places_from, last_contents}
use Rattle.content_streams.specs.Inner.Cutters.{FramesStand, LinesStartAt, Stands, Tells, fault_at_end}
use Rattle.content_streams.specs.declared.content_cutter.ContentCutter.{ContentCutter}
use Rattle.content_streams.specs.declared.cutter.Cutter.TheVariants.{Lines, Contents}
use Rattle.content_streams.specs.declared.frames.FrameCutter.{FrameCutter}
use Rattle.content_streams.proofs.Fitting.{all_first, all_append}
use Rattle.content_streams.proofs.LineTexts.{contents_to_end, long_parts}
use Rattle.content_streams.proofs.LineSteps.{standing_one, fits_at}
use Rattle.content_streams.proofs.LinePlaces.{closed_places}
use Rattle.content_streams.proofs.TextPlaces.{taken, taken-cons, taken_behind, place_on, line_place_none}
use Rattle.content_streams.proofs.Peeling.{are_contents, are_frames}

pub joined_more : (pieces : List (List ℕ)) (piece : List ℕ) → joined (pieces ++ piece ∷ []) ≡ joined pieces ++ piece
joined_more pieces piece = concat-append pieces (piece ∷ []) ∙ ap (λ xs. joined pieces ++ xs) (append-nil piece)

-- ---- frames

pub fault_known : (standing : Standing) → ((fault : FrameFault) → standing ≡ frames.Broken fault → fault ≢ Truncated) → fault_at_end (frames.end_of standing) ≡ fault_left standing
fault_known (frames.Open []) real = refl
fault_known (frames.Open (b ∷ bytes)) real = refl
fault_known (frames.Broken BadHead) real = refl
fault_known (frames.Broken BadLength) real = refl
fault_known (frames.Broken TwoLengths) real = refl
fault_known (frames.Broken TooLarge) real = refl
fault_known (frames.Broken NoLength) real = refl
fault_known (frames.Broken HeadTooLong) real = refl
fault_known (frames.Broken LongLength) real = refl
fault_known (frames.Broken Truncated) real = absurd (real Truncated refl refl)

pub fault_at : (limit : ℕ) (bytes : List ℕ) → fault_at_end (frames.end_of (standing_of limit bytes)) ≡ fault_left (standing_of limit bytes)
fault_at limit bytes = fault_known (standing_of limit bytes) (λ fault is.
    no_bytes_show_an_end limit bytes (frames_of limit bytes) fault (subst (λ s. IsContents limit bytes (frames_of limit bytes) s) is (are_contents limit bytes)))

pub stands_frames : (decoder : Decoding) (bytes : List ℕ) (given : List Frame) → StandsAfter decoder bytes given → given ≡ frames_of decoder.limit bytes
stands_frames decoder bytes given stands = are_frames decoder.limit bytes given stands.0 stands.1

pub frames_given : {E : Type 0} (result : Result Fed E) (cutter : FrameCutter) (piece : List ℕ)
    → IfOk result (λ given. (bytes : List ℕ) → FramesStand cutter bytes → frames_of cutter.decoder.limit (bytes ++ piece) ≡ frames_of cutter.decoder.limit bytes ++ fed_frames given)
    → IfOk result (λ given. (pieces : List (List ℕ)) → FramesStand cutter (joined pieces)
    → frames_of cutter.decoder.limit (joined (pieces ++ piece ∷ [])) ≡ frames_of cutter.decoder.limit (joined pieces) ++ fed_frames given)
frames_given (Err e) cutter piece fed = tt
frames_given (Ok given) cutter piece fed = λ pieces stands. ap (frames_of cutter.decoder.limit) (joined_more pieces piece) ∙ fed (joined pieces) stands

pub frames_placed : {E : Type 0} (result : Result Fed E) (cutter : FrameCutter) (piece old new : List ℕ)
    → OnOk result ((bytes passed : List ℕ) → FramesStand cutter bytes → capped_places (placed_frames cutter.decoder.limit bytes) ≡ passed ++ old
    → capped_places (placed_frames cutter.decoder.limit (bytes ++ piece)) ≡ passed ++ new)
    → OnOk result ((pieces : List (List ℕ)) (passed : List ℕ) → FramesStand cutter (joined pieces) → capped_places (placed_frames cutter.decoder.limit (joined pieces)) ≡ passed ++ old
    → capped_places (placed_frames cutter.decoder.limit (joined (pieces ++ piece ∷ []))) ≡ passed ++ new)
frames_placed (Err e) cutter piece old new fed = tt
frames_placed (Ok given) cutter piece old new fed = λ pieces passed stands is.
    ap (λ bytes. capped_places (placed_frames cutter.decoder.limit bytes)) (joined_more pieces piece) ∙ fed (joined pieces) passed stands is

pub frames_stand : {E : Type 0} (result : Result Fed E) (cutter next : FrameCutter) (piece : List ℕ)
    → OnOk result ((bytes : List ℕ) → FramesStand cutter bytes → FramesStand next (bytes ++ piece))
    → OnOk result ((pieces : List (List ℕ)) → FramesStand cutter (joined pieces) → FramesStand next (joined (pieces ++ piece ∷ [])))
frames_stand (Err e) cutter next piece fed = tt
frames_stand (Ok given) cutter next piece fed = λ pieces stands.
    let P : List ℕ → Type 0 = λ bytes. FramesStand next bytes in
    subst P (sym (joined_more pieces piece)) (fed (joined pieces) stands)

-- ---- lines

-- where the contents of lines begin that are all of a text
abbrev pub line_places : ℕ → List (List ℕ) → List ℕ
line_places limit lines = capped_places (map plain_at (placed_line_contents limit 0 lines))

pub line_places_are : (limit : ℕ) (lines : List (List ℕ)) → line_places limit lines ≡ places_from limit 0 lines
line_places_are limit lines = go (placed_line_contents limit 0 lines)
  where
    go : (found : List (ℕ × List ℕ)) → capped_places (map plain_at found) ≡ map (λ placed. capped placed.0) found
    go [] = refl
    go (one ∷ others) = ap (λ xs. capped one.0 ∷ xs) (go others)

pub lines_fault : (limit : ℕ) (bytes : List ℕ) → line_fault (text_standing limit bytes) ≡ cond (all_fit limit (parts bytes)) None (Some TooLarge)
lines_fault limit bytes = go (all_fit limit (parts bytes))
  where
    go : (t : Bool) → line_fault (cond t (Within (last_line (parts bytes))) Over) ≡ cond t None (Some TooLarge)
    go true = refl
    go false = refl

pub lines_to_end : (limit : ℕ) (bytes : List ℕ) → map plain (line_contents limit (parts bytes)) ≡ ended_contents limit bytes ++ last_contents limit (text_standing limit bytes)
lines_to_end limit bytes = go (all_fit limit (parts bytes)) refl
  where
    go : (t : Bool) → all_fit limit (parts bytes) ≡ t → map plain (line_contents limit (parts bytes)) ≡ ended_contents limit bytes ++ last_contents limit (cond t (Within (last_line (parts bytes))) Over)
    go true e = ap (map plain) (contents_to_end limit bytes e) ∙ map-append plain (line_contents limit (ended_lines bytes)) (line_contents limit (last_line (parts bytes) ∷ []))
    go false e =
        ap (λ xs. map plain (line_contents limit (parts xs))) (sym (append-nil bytes)) ∙ ap (map plain) (long_parts limit bytes [] e) ∙ sym (append-nil (ended_contents limit bytes))

-- ---- contents that come by themselves

not_not : (t : Bool) → false ≡ not t → t ≡ true
not_not true e = refl
not_not false e = cc

pub contents_given : {E : Type 0} (result : Result Fed E) (cutter : ContentCutter) (piece : List ℕ) → cutter.is_over ≡ false
    → IfOk result (λ given. fed_frames given ≡ map plain (take_while (fits cutter.limit) (piece ∷ [])))
    → IfOk result (λ given. (pieces : List (List ℕ)) → Tells (Contents cutter) pieces
    → map plain (take_while (fits cutter.limit) (pieces ++ piece ∷ [])) ≡ map plain (take_while (fits cutter.limit) pieces) ++ fed_frames given)
contents_given (Err e) cutter piece inside fed = tt
contents_given (Ok given) cutter piece inside fed = λ pieces stands.
    let limit = cutter.limit in
    ap (map plain) (all_first (fits limit) pieces (piece ∷ []) (not_not (list_all (fits limit) pieces) (sym inside ∙ stands.0)))
    ∙ map-append plain (take_while (fits limit) pieces) (take_while (fits limit) (piece ∷ []))
    ∙ ap (λ xs. map plain (take_while (fits limit) pieces) ++ xs) (sym fed)

-- the places of contents
abbrev pub content_places : ℕ → ℕ → List (List ℕ) → List ℕ
content_places limit start pieces = capped_places (map plain_at (taken (fits limit) 0 start pieces))

one_place : (limit start : ℕ) (piece : List ℕ) → content_places limit start (piece ∷ []) ≡ cond (fits limit piece) (capped start ∷ []) []
one_place limit start piece = ap (λ xs. capped_places (map plain_at xs)) (taken-cons (fits limit) 0 start piece []) ∙ go (fits limit piece)
  where
    go : (t : Bool) → capped_places (map plain_at (cond t ((start, piece) ∷ []) [])) ≡ cond t (capped start ∷ []) []
    go true = refl
    go false = refl

pub contents_placed : {E : Type 0} (result : Result Fed E) (cutter : ContentCutter) (piece old new : List ℕ) → cutter.is_over ≡ false
    → OnOk result (new ≡ old ++ cond (fits cutter.limit piece) (cutter.start ∷ []) [])
    → OnOk result ((pieces : List (List ℕ)) (passed : List ℕ) → Tells (Contents cutter) pieces → content_places cutter.limit 0 pieces ≡ passed ++ old → content_places cutter.limit 0 (pieces ++ piece ∷ []) ≡ passed ++ new)
contents_placed (Err e) cutter piece old new inside fed = tt
contents_placed (Ok given) cutter piece old new inside fed = λ pieces passed stands is.
    let limit = cutter.limit in
    let place = place_behind (fits limit) 0 0 pieces in
    let all : list_all (fits limit) pieces ≡ true = not_not (list_all (fits limit) pieces) (sym inside ∙ stands.0) in
    let first = taken (fits limit) 0 0 pieces in
    let later = taken (fits limit) 0 place (piece ∷ []) in
    ap (λ xs. capped_places (map plain_at xs)) (taken_behind (fits limit) 0 0 pieces (piece ∷ []) all)
    ∙ ap capped_places (map-append plain_at first later) ∙ map-append (λ (p : ℕ × Frame). capped p.0) (map plain_at first) (map plain_at later)
    ∙ ap (λ xs. content_places limit 0 pieces ++ xs) (one_place limit place piece ∙ ap (λ n. cond (fits limit piece) (n ∷ []) []) (sym stands.1))
    ∙ ap (λ xs. xs ++ cond (fits limit piece) (cutter.start ∷ []) []) is ∙ append_assoc passed old (cond (fits limit piece) (cutter.start ∷ []) []) ∙ ap (λ xs. passed ++ xs) (sym fed)

next_is_over : (limit : ℕ) (pieces : List (List ℕ)) (piece : List ℕ) → list_all (fits limit) pieces ≡ true → not (fits limit piece) ≡ not (list_all (fits limit) (pieces ++ piece ∷ []))
next_is_over limit pieces piece all = ap not (sym (all_append (fits limit) pieces (piece ∷ []) all ∙ go (fits limit piece)))
  where
    go : (t : Bool) → (t && true) ≡ t
    go true = refl
    go false = refl

next_place : (limit start place : ℕ) (piece : List ℕ) → start ≡ capped place → cond (fits limit piece) (capped (start + length piece)) start ≡ capped (cond (fits limit piece) (place + length piece + 0) place)
next_place limit start place piece is = go (fits limit piece)
  where
    go : (t : Bool) → cond t (capped (start + length piece)) start ≡ capped (cond t (place + length piece + 0) place)
    go true = omega (arith, is)
    go false = is

pub contents_stand : {E : Type 0} (result : Result Fed E) (cutter next : ContentCutter) (piece : List ℕ) → cutter.is_over ≡ false
    → OnOk result (next ≡ record cutter { is_over = not (fits cutter.limit piece); start = cond (fits cutter.limit piece) (capped (cutter.start + length piece)) cutter.start })
    → OnOk result ((pieces : List (List ℕ)) → Tells (Contents cutter) pieces → Tells (Contents next) (pieces ++ piece ∷ []))
contents_stand (Err e) cutter next piece inside fed = tt
contents_stand (Ok given) cutter next piece inside fed = λ pieces stands.
    let limit = cutter.limit in
    let place = place_behind (fits limit) 0 0 pieces in
    let all : list_all (fits limit) pieces ≡ true = not_not (list_all (fits limit) pieces) (sym inside ∙ stands.0) in
    let P : ContentCutter → Type 0 = λ k. Tells (Contents k) (pieces ++ piece ∷ []) in
    subst P (sym fed) (
      next_is_over limit pieces piece all,
      next_place limit cutter.start place piece stands.1 ∙ ap capped (sym (place_on (fits limit) 0 0 pieces (piece ∷ []) all)),
    )

pub lines_given : {E : Type 0} (result : Result Fed E) (cutter : LineCutting) (piece : List ℕ)
    → IfOk result (λ given. (bytes : List ℕ) → cutter.standing ≡ text_standing cutter.limit bytes → ended_contents cutter.limit (bytes ++ piece) ≡ ended_contents cutter.limit bytes ++ fed_frames given)
    → IfOk result (λ given. (pieces : List (List ℕ)) → Stands (Lines cutter) pieces → ended_contents cutter.limit (joined (pieces ++ piece ∷ [])) ≡ ended_contents cutter.limit (joined pieces) ++ fed_frames given)
lines_given (Err e) cutter piece fed = tt
lines_given (Ok given) cutter piece fed = λ pieces stands. ap (ended_contents cutter.limit) (joined_more pieces piece) ∙ fed (joined pieces) stands.0

pub lines_placed : {E : Type 0} (result : Result Fed E) (cutter : LineCutting) (piece old new : List ℕ)
    → OnOk result ((bytes passed : List ℕ) → cutter.standing ≡ text_standing cutter.limit bytes → LinesStartAt cutter bytes → ended_places cutter.limit bytes ≡ passed ++ old → ended_places cutter.limit (bytes ++ piece) ≡ passed ++ new)
    → OnOk result ((pieces : List (List ℕ)) (passed : List ℕ) → Stands (Lines cutter) pieces → line_places cutter.limit (ended_lines (joined pieces)) ≡ passed ++ old
    → line_places cutter.limit (ended_lines (joined (pieces ++ piece ∷ []))) ≡ passed ++ new)
lines_placed (Err e) cutter piece old new fed = tt
lines_placed (Ok given) cutter piece old new fed = λ pieces passed stands is.
    line_places_are cutter.limit (ended_lines (joined (pieces ++ piece ∷ [])))
    ∙ ap (ended_places cutter.limit) (joined_more pieces piece)
    ∙ fed (joined pieces) passed stands.0 stands.1 (sym (line_places_are cutter.limit (ended_lines (joined pieces))) ∙ is)

pub lines_stand : {E : Type 0} (result : Result Fed E) (cutter next : LineCutting) (piece : List ℕ) → next.limit ≡ cutter.limit
    → OnOk result ((bytes : List ℕ) → cutter.standing ≡ text_standing cutter.limit bytes → next.standing ≡ text_standing cutter.limit (bytes ++ piece))
    → OnOk result ((bytes : List ℕ) → cutter.standing ≡ text_standing cutter.limit bytes → LinesStartAt cutter bytes → LinesStartAt next (bytes ++ piece))
    → OnOk result ((pieces : List (List ℕ)) → Stands (Lines cutter) pieces → Stands (Lines next) (pieces ++ piece ∷ []))
lines_stand (Err e) cutter next piece same fed starts = tt
lines_stand (Ok given) cutter next piece same fed starts = λ pieces stands.
    let P : List ℕ → Type 0 = λ bytes. LinesStartAt next bytes in (
      fed (joined pieces) stands.0 ∙ ap (text_standing cutter.limit) (sym (joined_more pieces piece)) ∙ ap (λ n. text_standing n (joined (pieces ++ piece ∷ []))) (sym same),
      subst P (sym (joined_more pieces piece)) (starts (joined pieces) stands.0 stands.1),
    )

pub lines_to_end_placed : (cutter : LineCutting) (pieces : List (List ℕ)) → Stands (Lines cutter) pieces → (last : List Frame) → last ≡ last_contents cutter.limit cutter.standing
    → line_places cutter.limit (parts (joined pieces)) ≡ line_places cutter.limit (ended_lines (joined pieces)) ++ map (λ frame. capped (line_place cutter.limit 0 (ended_lines (joined pieces)))) last
lines_to_end_placed cutter pieces stands last is =
    let limit = cutter.limit in
    let bytes = joined pieces in
    line_places_are limit (parts bytes) ∙ closed_places limit bytes
    ∙ ap (λ (fs : List Frame). ended_places limit bytes ++ map (λ frame. capped (line_place limit 0 (ended_lines bytes))) fs) (ap (last_contents limit) (sym stands.0) ∙ sym is)
    ∙ ap (λ xs. xs ++ map (λ frame. capped (line_place limit 0 (ended_lines bytes))) last) (sym (line_places_are limit (ended_lines bytes)))

-- ---- nothing came

pub nothing_stands : (limit : ℕ) → text_standing limit [] ≡ Within []
nothing_stands limit = standing_one limit [] ∙ ap (λ t. cond t (Within []) Over) (fits_at limit [] (omega arith))

pub nothing_starts : (limit : ℕ) → line_place limit 0 (ended_lines []) ≡ 0
nothing_starts limit = line_place_none limit 0
