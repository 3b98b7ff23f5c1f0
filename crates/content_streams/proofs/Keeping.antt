-- What a stream holds, and more pieces.
use Rattle.std.proofs.Common.{◌≡◌, ℕ, ◌+◌, Option, Some, None, Bool, true, false, cond, not, List, [], ◌∷◌, ◌++◌, length, drop, map, refl, ap, sym, ◌∙◌, subst, append-nil, append_assoc, length-append}
use Rattle.std.specs.List.{list_all, take_while, slice_get}
use Rattle.std.specs.Option.{IsSome}
use Rattle.std.proofs.lemmas.List.{map-append}
use Rattle.std.proofs.lemmas.List.Folds.{concat-append}
use Rattle.lsp_frames.specs.Contents as frames
use Rattle.lsp_frames.specs.Contents.{Standing, IsContents}
use Rattle.lsp_frames.specs.Decoding.{known}
use Rattle.lsp_frames.specs.declared.frame.Frame.{Frame}
use Rattle.lsp_frames.specs.declared.frame.FrameFault.{FrameFault}
use Rattle.lsp_frames.specs.declared.frame.FrameFault.TheVariants.{TooLarge}
use Rattle.content_streams.specs.Framed.{frames_of, standing_of, peeled, place_of_rest}
use Rattle.content_streams.specs.Lines.{parts, ended_lines, fits, all_fit, line_contents}
use Rattle.content_streams.specs.Streams.{joined, plain, capped, lines_read, fault_left, fault_of, contents_of}
use Rattle.content_streams.specs.Inner.Cutting.{line_fault, text_standing, last_line}
use Rattle.content_streams.specs.Inner.Rows.{row_items}
use Rattle.content_streams.specs.Inner.Cutters.{framing_of, limit_of, FramesStand, LinesStartAt, Tells, Stands, read_by, IsStream}
use Rattle.content_streams.specs.Inner.Heads.{StandsAt}
use Rattle.content_streams.specs.declared.cutter.Cutter.{Cutter}
use Rattle.content_streams.specs.declared.cutter.Cutter.TheVariants as cutters
use Rattle.content_streams.specs.declared.ending.HowEnded.{HowEnded}
use Rattle.content_streams.specs.declared.ending.HowEnded.TheVariants.{Closed, ReadFailed}
use Rattle.content_streams.specs.declared.framing.Framing.{Framing}
use Rattle.content_streams.specs.declared.framing.Framing.TheVariants.{Frames, Lines, Contents}
use Rattle.content_streams.specs.declared.row.Row.{Row}
use Rattle.content_streams.proofs.Fitting.{all_first, not_all_first, not_all_append, lines_all_first}
use Rattle.content_streams.proofs.LineTexts.{long_stays, long_ended, long_parts, contents_behind, parts_behind, ended_fit}
use Rattle.content_streams.proofs.LineSteps.{standing_long}
use Rattle.content_streams.proofs.FramePlaces.{places_keep}
use Rattle.content_streams.proofs.LinePlaces.{long_place}
use Rattle.content_streams.proofs.TextPlaces.{place_long}
use Rattle.content_streams.proofs.Peeling.{Goes, goes, keeps_frames, keeps_fault, are_contents, is_standing}
use Rattle.content_streams.proofs.Streaming.{joined_more, lines_fault}

-- ---- a fault stays, and no contents are added

abbrev pub Ignores : Framing → ℕ → List (List ℕ) → List (List ℕ) → Option HowEnded → FrameFault → Type 0
Ignores framing limit pieces more ended fault = (fault_of framing limit (pieces ++ more) ≡ Some fault) × (contents_of framing limit (pieces ++ more) ended ≡ contents_of framing limit pieces None)

pub broken_at : (standing : Standing) (fault : FrameFault) → fault_left standing ≡ Some fault → standing ≡ frames.Broken fault
broken_at (frames.Open rest) fault is = cc
broken_at (frames.Broken other) fault is = (let same : other ≡ fault = cc in ap frames.Broken same)

pub test_is : (t : Bool) (fault : FrameFault) → cond t None (Some TooLarge) ≡ Some fault → (t ≡ false) × (Some TooLarge ≡ Some fault)
test_is true fault is = cc
test_is false fault is = (refl, is)

long_read : (limit : ℕ) (ended : Option HowEnded) (bytes more : List ℕ) → all_fit limit (parts bytes) ≡ false → line_contents limit (lines_read ended (bytes ++ more)) ≡ line_contents limit (ended_lines bytes)
long_read limit None bytes more long = long_ended limit bytes more long
long_read limit (Some ReadFailed) bytes more long = long_ended limit bytes more long
long_read limit (Some Closed) bytes more long = long_parts limit bytes more long

pub ignores : (framing : Framing) (limit : ℕ) (pieces more : List (List ℕ)) (ended : Option HowEnded) (fault : FrameFault) → fault_of framing limit pieces ≡ Some fault → Ignores framing limit pieces more ended fault
ignores Frames limit pieces more ended fault is =
    let broken = broken_at (standing_of limit (joined pieces)) fault is in (
      ap (λ bytes. fault_left (standing_of limit bytes)) (concat-append pieces more) ∙ ap fault_left (keeps_fault limit (joined pieces) (joined more) fault broken),
      ap (frames_of limit) (concat-append pieces more) ∙ keeps_frames limit (joined pieces) (joined more) fault broken,
    )
ignores Lines limit pieces more ended fault is =
    let long = test_is (all_fit limit (parts (joined pieces))) fault is in (
      ap (λ bytes. cond (all_fit limit (parts bytes)) None (Some TooLarge)) (concat-append pieces more)
          ∙ ap (λ t. cond t None (Some TooLarge)) (long_stays limit (joined pieces) (joined more) long.0) ∙ long.1,
      ap (λ bytes. map plain (line_contents limit (lines_read ended bytes))) (concat-append pieces more)
          ∙ ap (map plain) (long_read limit ended (joined pieces) (joined more) long.0),
    )
ignores Contents limit pieces more ended fault is =
    let long = test_is (list_all (fits limit) pieces) fault is in (
      ap (λ t. cond t None (Some TooLarge)) (not_all_append (fits limit) pieces more long.0) ∙ long.1,
      ap (map plain) (not_all_first (fits limit) pieces more long.0),
    )

-- ---- more pieces add contents

pub record Grows (framing : Framing) (limit : ℕ) (pieces more : List (List ℕ)) (ended : Option HowEnded) : Type 0 where
  pub later : List Frame
  pub contents : contents_of framing limit (pieces ++ more) ended ≡ contents_of framing limit pieces None ++ later

same_contents : (framing : Framing) (limit : ℕ) (pieces more : List (List ℕ)) (ended : Option HowEnded) → contents_of framing limit (pieces ++ more) ended ≡ contents_of framing limit pieces None → Grows framing limit pieces more ended
same_contents framing limit pieces more ended same = record { later = []; contents = same ∙ sym (append-nil (contents_of framing limit pieces None)) }

read_behind : (limit : ℕ) (ended : Option HowEnded) (bytes more : List ℕ) → all_fit limit (parts bytes) ≡ true
    → line_contents limit (lines_read ended (bytes ++ more)) ≡ line_contents limit (ended_lines bytes) ++ line_contents limit (lines_read ended (last_line (parts bytes) ++ more))
read_behind limit None bytes more all = contents_behind limit bytes more all
read_behind limit (Some ReadFailed) bytes more all = contents_behind limit bytes more all
read_behind limit (Some Closed) bytes more all = ap (line_contents limit) (parts_behind bytes more) ∙ lines_all_first limit (ended_lines bytes) (parts (last_line (parts bytes) ++ more)) (ended_fit limit bytes all)

lines_grow : (limit : ℕ) (pieces more : List (List ℕ)) (ended : Option HowEnded) (t : Bool) → all_fit limit (parts (joined pieces)) ≡ t → Grows Lines limit pieces more ended
lines_grow limit pieces more ended true all =
    let bytes = joined pieces in
    let later = line_contents limit (lines_read ended (last_line (parts bytes) ++ joined more)) in
    record {
      later = map plain later;
      contents = ap (λ bytes. map plain (line_contents limit (lines_read ended bytes))) (concat-append pieces more)
          ∙ ap (map plain) (read_behind limit ended bytes (joined more) all) ∙ map-append plain (line_contents limit (ended_lines bytes)) later;
    }
lines_grow limit pieces more ended false long = same_contents Lines limit pieces more ended (ignores Lines limit pieces more ended TooLarge (ap (λ t. cond t None (Some TooLarge)) long)).1

contents_grow : (limit : ℕ) (pieces more : List (List ℕ)) (ended : Option HowEnded) (t : Bool) → list_all (fits limit) pieces ≡ t → Grows Contents limit pieces more ended
contents_grow limit pieces more ended true all = record {
  later = map plain (take_while (fits limit) more);
  contents = ap (map plain) (all_first (fits limit) pieces more all) ∙ map-append plain (take_while (fits limit) pieces) (take_while (fits limit) more);
}
contents_grow limit pieces more ended false long = same_contents Contents limit pieces more ended (ap (map plain) (not_all_first (fits limit) pieces more long))

pub grows : (framing : Framing) (limit : ℕ) (pieces more : List (List ℕ)) (ended : Option HowEnded) → Grows framing limit pieces more ended
grows Frames limit pieces more ended =
    let g : Goes limit (joined pieces) (joined more) = goes limit (joined pieces) (joined more) in
    record { later = g.later; contents = ap (frames_of limit) (concat-append pieces more) ∙ g.frames }
grows Lines limit pieces more ended = lines_grow limit pieces more ended (all_fit limit (parts (joined pieces))) refl
grows Contents limit pieces more ended = contents_grow limit pieces more ended (list_all (fits limit) pieces) refl

-- ---- what is held

pub nothing_read : (framing : Framing) (limit : ℕ) → contents_of framing limit [] None ≡ []
unfolding frames_of peeled line_contents
nothing_read Frames limit = refl
nothing_read Lines limit = refl
nothing_read Contents limit = refl

pub stands_tells : (cutter : Cutter) (pieces : List (List ℕ)) → Stands cutter pieces → Tells cutter pieces
stands_tells (cutters.Frames cutter) pieces stands = stands
stands_tells (cutters.Lines cutter) pieces stands = (ap line_fault stands.0 ∙ lines_fault cutter.limit (joined pieces), stands.1)
stands_tells (cutters.Contents cutter) pieces stands = stands

pub starts : (cutter : Cutter) (row : Row) (pieces : List (List ℕ)) (taken : ℕ) → Stands cutter [] → row_items row ≡ [] → row.last ≡ None → pieces ≡ [] → taken ≡ 0 → IsStream cutter row pieces None taken
starts cutter row pieces taken stands empty last none untaken =
    let here : Stands cutter pieces = subst (λ ps. Stands cutter ps) (sym none) stands in
    record {
      passed = [];
      counted = sym untaken;
      whole = ap (λ ps. read_by cutter ps None) none ∙ nothing_read (framing_of cutter) (limit_of cutter) ∙ sym empty;
      tells = stands_tells cutter pieces here;
      stands = λ e. here;
      last = λ e. last;
    }

-- one more piece
pub fed : (old new : Cutter) (row next : Row) (pieces : List (List ℕ)) (piece : List ℕ) (taken : ℕ) (given : List Frame) → IsStream old row pieces None taken
    → framing_of new ≡ framing_of old → limit_of new ≡ limit_of old → read_by old (pieces ++ piece ∷ []) None ≡ read_by old pieces None ++ given
    → Stands new (pieces ++ piece ∷ []) → row_items next ≡ row_items row ++ given → next.last ≡ None → IsStream new next (pieces ++ piece ∷ []) None taken
fed old new row next pieces piece taken given is framing limit more stands items last = record {
  passed = is.passed;
  counted = is.counted;
  whole = ap (λ f. contents_of f (limit_of new) (pieces ++ piece ∷ []) None) framing ∙ ap (λ n. contents_of (framing_of old) n (pieces ++ piece ∷ []) None) limit
      ∙ more ∙ ap (λ xs. xs ++ given) is.whole ∙ append_assoc is.passed (row_items row) given ∙ ap (λ xs. is.passed ++ xs) (sym items);
  tells = stands_tells new (pieces ++ piece ∷ []) stands;
  stands = λ e. stands;
  last = λ e. last;
}

-- one that is ignored
fault_tells : (cutter : Cutter) (pieces : List (List ℕ)) (piece : List ℕ) (fault : FrameFault) → Stands cutter pieces → fault_of (framing_of cutter) (limit_of cutter) pieces ≡ Some fault → Stands cutter (pieces ++ piece ∷ [])
fault_tells (cutters.Frames cutter) pieces piece fault stands is =
    let limit = cutter.decoder.limit in
    let bytes = joined pieces in
    let broken = broken_at (standing_of limit bytes) fault is in
    let left : stands.0.0 ≡ frames.Broken fault = is_standing limit bytes (frames_of limit bytes) stands.0.0 stands.0.1 ∙ broken in
    let known_fault : cutter.decoder.standing ≡ known limit (frames.Broken fault) = stands.0.2 ∙ ap (known limit) left in
    let later = keeps_fault limit bytes piece fault broken in
    let At : Standing → Type 0 = λ s. StandsAt cutter.under_way (place_of_rest limit bytes) s in
    let place : cutter.under_way.start ≡ capped (place_of_rest limit (bytes ++ piece)) = subst At broken stands.1 ∙ ap capped (sym (places_keep limit bytes piece fault broken).rest) in
    let After : Standing → Type 0 = λ s. StandsAt cutter.under_way (place_of_rest limit (bytes ++ piece)) s in
    let P : List ℕ → Type 0 = λ xs. FramesStand cutter xs in
    subst P (sym (joined_more pieces piece)) (
      (standing_of limit (bytes ++ piece), are_contents limit (bytes ++ piece), known_fault ∙ ap (known limit) (sym later)),
      subst After (sym later) place,
    )
fault_tells (cutters.Lines cutter) pieces piece fault stands is =
    let limit = cutter.limit in
    let long = test_is (all_fit limit (parts (joined pieces))) fault is in
    let P : List ℕ → Type 0 = λ bytes. LinesStartAt cutter bytes in (
      stands.0 ∙ standing_long limit (parts (joined pieces)) long.0
          ∙ sym (ap (text_standing limit) (joined_more pieces piece) ∙ standing_long limit (parts (joined pieces ++ piece)) (long_stays limit (joined pieces) piece long.0)),
      subst P (sym (joined_more pieces piece)) (stands.1 ∙ ap capped (sym (long_place limit (joined pieces) piece long.0))),
    )
fault_tells (cutters.Contents cutter) pieces piece fault stands is =
    let long = test_is (list_all (fits cutter.limit) pieces) fault is in (
      stands.0 ∙ ap not (long.0 ∙ sym (not_all_append (fits cutter.limit) pieces (piece ∷ []) long.0)),
      stands.1 ∙ ap capped (sym (place_long (fits cutter.limit) 0 0 pieces (piece ∷ []) long.0)),
    )

pub ignored : (cutter : Cutter) (row : Row) (pieces : List (List ℕ)) (piece : List ℕ) (taken : ℕ) (fault : FrameFault) → IsStream cutter row pieces None taken
    → fault_of (framing_of cutter) (limit_of cutter) pieces ≡ Some fault → IsStream cutter row (pieces ++ piece ∷ []) None taken
ignored cutter row pieces piece taken fault is shown =
    let stands = fault_tells cutter pieces piece fault (is.stands refl) shown in
    record {
      passed = is.passed;
      counted = is.counted;
      whole = (ignores (framing_of cutter) (limit_of cutter) pieces (piece ∷ []) None fault shown).1 ∙ is.whole;
      tells = stands_tells cutter (pieces ++ piece ∷ []) stands;
      stands = λ e. stands;
      last = is.last;
    }

-- one content is taken
pub at_length : {X : Type 0} (xs ys : List X) → slice_get (xs ++ ys) (length xs) ≡ slice_get ys 0
at_length [] ys = refl
at_length (x ∷ xs) ys = at_length xs ys

pub next_is : (cutter : Cutter) (row : Row) (pieces : List (List ℕ)) (ended : Option HowEnded) (taken : ℕ) → IsStream cutter row pieces ended taken → slice_get (read_by cutter pieces ended) taken ≡ slice_get (row_items row) 0
next_is cutter row pieces ended taken is =
    ap (λ n. slice_get (read_by cutter pieces ended) n) (sym is.counted) ∙ ap (λ xs. slice_get xs (length is.passed)) is.whole ∙ at_length is.passed (row_items row)

pub split_first : {X : Type 0} (xs : List X) → IsSome (slice_get xs 0) → (x : X) × (xs ≡ x ∷ drop 1 xs)
split_first [] some = cc
split_first (x ∷ xs) some = (x, refl)

pub popped : (cutter : Cutter) (row next : Row) (pieces : List (List ℕ)) (ended : Option HowEnded) (taken : ℕ) → IsStream cutter row pieces ended taken → IsSome (slice_get (read_by cutter pieces ended) taken)
    → row_items next ≡ drop 1 (row_items row) → (row.last ≡ None → next.last ≡ None) → IsStream cutter next pieces ended (taken + 1)
popped cutter row next pieces ended taken is some items last =
    let first = split_first (row_items row) (subst (λ o. IsSome o) (next_is cutter row pieces ended taken is) some) in
    record {
      passed = is.passed ++ first.0 ∷ [];
      counted = length-append is.passed (first.0 ∷ []) ∙ ap (λ n. n + 1) is.counted;
      whole = is.whole ∙ ap (λ xs. is.passed ++ xs) (first.1 ∙ ap (λ xs. first.0 ∷ xs) (sym items)) ∙ sym (append_assoc is.passed (first.0 ∷ []) (row_items next));
      tells = is.tells;
      stands = is.stands;
      last = λ e. last (is.last e);
    }

-- the end
pub closed : (old new : Cutter) (row next : Row) (pieces : List (List ℕ)) (taken : ℕ) (given : List Frame) → IsStream old row pieces None taken
    → framing_of new ≡ framing_of old → limit_of new ≡ limit_of old → read_by old pieces (Some Closed) ≡ read_by old pieces None ++ given
    → Tells new pieces → row_items next ≡ row_items row ++ given → IsStream new next pieces (Some Closed) taken
closed old new row next pieces taken given is framing limit more tells items = record {
  passed = is.passed;
  counted = is.counted;
  whole = ap (λ f. contents_of f (limit_of new) pieces (Some Closed)) framing ∙ ap (λ n. contents_of (framing_of old) n pieces (Some Closed)) limit
      ∙ more ∙ ap (λ xs. xs ++ given) is.whole ∙ append_assoc is.passed (row_items row) given ∙ ap (λ xs. is.passed ++ xs) (sym items);
  tells = tells;
  stands = λ e. cc;
  last = λ e. cc;
}

same_failed : (framing : Framing) (limit : ℕ) (pieces : List (List ℕ)) → contents_of framing limit pieces (Some ReadFailed) ≡ contents_of framing limit pieces None
same_failed Frames limit pieces = refl
same_failed Lines limit pieces = refl
same_failed Contents limit pieces = refl

pub failed : (cutter : Cutter) (row : Row) (pieces : List (List ℕ)) (taken : ℕ) → IsStream cutter row pieces None taken → IsStream cutter row pieces (Some ReadFailed) taken
failed cutter row pieces taken is = record {
  passed = is.passed;
  counted = is.counted;
  whole = same_failed (framing_of cutter) (limit_of cutter) pieces ∙ is.whole;
  tells = is.tells;
  stands = λ e. cc;
  last = λ e. cc;
}
