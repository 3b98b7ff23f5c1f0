-- The places of contents that are held, and more pieces.
use Rattle.std.proofs.Common.{◌≡◌, ℕ, ◌+◌, Option, Some, None, Bool, true, false, List, [], ◌∷◌, ◌++◌, length, drop, map, refl, ap, sym, ◌∙◌, subst, append-nil, append_assoc, length-append}
use Rattle.std.specs.List.{list_all, slice_get}
use Rattle.std.specs.Option.{IsSome, option_map, option_to_list}
use Rattle.std.proofs.lemmas.List.{map-append, append_cancel_left}
use Rattle.std.proofs.lemmas.List.Folds.{concat-append}
use Rattle.std.proofs.lemmas.Option.{slice_get-map}
use Rattle.lsp_frames.specs.Contents as frames
use Rattle.lsp_frames.specs.Contents.{Standing, IsContents}
use Rattle.lsp_frames.specs.declared.frame.Frame.{Frame}
use Rattle.lsp_frames.specs.declared.frame.FrameFault.{FrameFault}
use Rattle.content_streams.specs.Framed.{frames_of, standing_of, placed_frames, place_of_rest, placed}
use Rattle.content_streams.specs.Lines.{parts, ended_lines, fits, all_fit, placed_line_contents, line_place}
use Rattle.content_streams.specs.Streams.{joined, plain, plain_at, capped, capped_places, lines_read, fault_of, contents_of, placed_contents_of, place_left, place_at_fault, fault_place_of, closed_end, end_at}
use Rattle.content_streams.specs.Inner.Rows.{place_items}
use Rattle.content_streams.specs.Inner.Cutters.{framing_of, limit_of, places_by, IsPlaced}
use Rattle.content_streams.specs.declared.cutter.Cutter.{Cutter}
use Rattle.content_streams.specs.declared.ending.HowEnded.{HowEnded}
use Rattle.content_streams.specs.declared.ending.HowEnded.TheVariants.{Closed, ReadFailed}
use Rattle.content_streams.specs.declared.framing.Framing.{Framing}
use Rattle.content_streams.specs.declared.framing.Framing.TheVariants.{Frames, Lines, Contents}
use Rattle.content_streams.specs.declared.places.Places.{Places}
use Rattle.content_streams.proofs.FramePlaces as found
use Rattle.content_streams.proofs.FramePlaces.{HasPlaces, MorePlaces, places_of, places_go_on, places_keep}
use Rattle.content_streams.proofs.Keeping.{broken_at, test_is, ignores, at_length, split_first}
use Rattle.content_streams.proofs.LinePlaces.{LaterLines, later_lines, long_place}
use Rattle.content_streams.proofs.TextPlaces.{taken, taken_behind, taken_long, taken_texts, place_long, placed_texts_are}
use Rattle.content_streams.proofs.Peeling.{are_contents}

-- ---- the contents alone

abbrev pub alone : List (ℕ × Frame) → List Frame
alone contents = map (λ placed. placed.1) contents

plain_alone : (texts : List (ℕ × List ℕ)) → alone (map plain_at texts) ≡ map plain (map (λ placed. placed.1) texts)
plain_alone [] = refl
plain_alone (text ∷ texts) = ap (λ xs. plain text.1 ∷ xs) (plain_alone texts)

pub contents_alone : (framing : Framing) (limit : ℕ) (pieces : List (List ℕ)) (ended : Option HowEnded) → alone (placed_contents_of framing limit pieces ended) ≡ contents_of framing limit pieces ended
contents_alone Frames limit pieces ended = (found.places limit (joined pieces)).frames_are
contents_alone Lines limit pieces ended =
    plain_alone (placed_line_contents limit 0 (lines_read ended (joined pieces))) ∙ ap (map plain) (placed_texts_are limit 0 (lines_read ended (joined pieces)))
contents_alone Contents limit pieces ended = plain_alone (taken (fits limit) 0 0 pieces) ∙ ap (map plain) (taken_texts (fits limit) 0 0 pieces)

-- ---- more pieces add contents, and leave the others where they are

pub record PlacesGrow (framing : Framing) (limit : ℕ) (pieces more : List (List ℕ)) (ended : Option HowEnded) : Type 0 where
  pub later : List (ℕ × Frame)
  pub contents : placed_contents_of framing limit (pieces ++ more) ended ≡ placed_contents_of framing limit pieces None ++ later

frames_grow : (limit : ℕ) (pieces more : List (List ℕ)) (ended : Option HowEnded) (standing : Standing) → standing_of limit (joined pieces) ≡ standing → PlacesGrow Frames limit pieces more ended
frames_grow limit pieces more ended (frames.Open rest) is =
    let bytes = joined pieces in
    let next = rest ++ joined more in
    let has : HasPlaces limit (place_of_rest limit bytes) next (frames_of limit next) = places_of limit (place_of_rest limit bytes) next (frames_of limit next) (standing_of limit next) (are_contents limit next) in
    let grown : MorePlaces limit bytes (joined more) has.found has.place = places_go_on limit bytes (joined more) has.found has.place rest is has.placed in
    record { later = has.found; contents = ap (placed_frames limit) (concat-append pieces more) ∙ grown.frames }
frames_grow limit pieces more ended (frames.Broken fault) is =
    let bytes = joined pieces in
    let grown : MorePlaces limit bytes (joined more) [] (place_of_rest limit bytes) = places_keep limit bytes (joined more) fault is in
    record { later = []; contents = ap (placed_frames limit) (concat-append pieces more) ∙ grown.frames }

contents_grow : (limit : ℕ) (pieces more : List (List ℕ)) (ended : Option HowEnded) (t : Bool) → list_all (fits limit) pieces ≡ t → PlacesGrow Contents limit pieces more ended
contents_grow limit pieces more ended true all =
    let later = taken (fits limit) 0 (place_left Contents limit pieces) more in
    record { later = map plain_at later; contents = ap (map plain_at) (taken_behind (fits limit) 0 0 pieces more all) ∙ map-append plain_at (taken (fits limit) 0 0 pieces) later }
contents_grow limit pieces more ended false long =
    record { later = []; contents = ap (map plain_at) (taken_long (fits limit) 0 0 pieces more long) ∙ sym (append-nil (map plain_at (taken (fits limit) 0 0 pieces))) }

pub places_grow : (framing : Framing) (limit : ℕ) (pieces more : List (List ℕ)) (ended : Option HowEnded) → PlacesGrow framing limit pieces more ended
places_grow Frames limit pieces more ended = frames_grow limit pieces more ended (standing_of limit (joined pieces)) refl
places_grow Lines limit pieces more ended =
    let grown : LaterLines limit (joined pieces) (joined more) ended = later_lines limit (joined pieces) (joined more) ended in
    record {
      later = map plain_at grown.later;
      contents = ap (λ bytes. map plain_at (placed_line_contents limit 0 (lines_read ended bytes))) (concat-append pieces more)
          ∙ ap (map plain_at) grown.contents ∙ map-append plain_at (placed_line_contents limit 0 (ended_lines (joined pieces))) grown.later;
    }
places_grow Contents limit pieces more ended = contents_grow limit pieces more ended (list_all (fits limit) pieces) refl

-- Behind a fault none are added.
none_alone : (later : List (ℕ × Frame)) → alone later ≡ [] → later ≡ []
none_alone [] is = refl
none_alone (one ∷ others) is = cc

pub places_ignore : (framing : Framing) (limit : ℕ) (pieces more : List (List ℕ)) (ended : Option HowEnded) (fault : FrameFault) → fault_of framing limit pieces ≡ Some fault
    → placed_contents_of framing limit (pieces ++ more) ended ≡ placed_contents_of framing limit pieces None
places_ignore framing limit pieces more ended fault is =
    let grown : PlacesGrow framing limit pieces more ended = places_grow framing limit pieces more ended in
    let old = placed_contents_of framing limit pieces None in
    let same : contents_of framing limit (pieces ++ more) ended ≡ contents_of framing limit pieces None = (ignores framing limit pieces more ended fault is).1 in
    let all : alone old ++ alone grown.later ≡ alone old ++ [] =
    sym (map-append (λ (p : ℕ × Frame). p.1) old grown.later) ∙ ap alone (sym grown.contents) ∙ contents_alone framing limit (pieces ++ more) ended ∙ same
    ∙ sym (contents_alone framing limit pieces None) ∙ sym (append-nil (alone old)) in
    let none : grown.later ≡ [] = none_alone grown.later (append_cancel_left (alone old) (alone grown.later) [] all) in
    grown.contents ∙ ap (λ xs. old ++ xs) none ∙ append-nil old

-- ---- a fault stays where it is

pub place_stays : (framing : Framing) (limit : ℕ) (pieces more : List (List ℕ)) (fault : FrameFault) → fault_of framing limit pieces ≡ Some fault → place_left framing limit (pieces ++ more) ≡ place_left framing limit pieces
place_stays Frames limit pieces more fault is =
    ap (place_of_rest limit) (concat-append pieces more)
    ∙ (places_keep limit (joined pieces) (joined more) fault (broken_at (standing_of limit (joined pieces)) fault is)).rest
place_stays Lines limit pieces more fault is =
    ap (λ bytes. line_place limit 0 (ended_lines bytes)) (concat-append pieces more)
    ∙ long_place limit (joined pieces) (joined more) (test_is (all_fit limit (parts (joined pieces))) fault is).0
place_stays Contents limit pieces more fault is = place_long (fits limit) 0 0 pieces more (test_is (list_all (fits limit) pieces) fault is).0

pub fault_stays : (framing : Framing) (limit : ℕ) (pieces more : List (List ℕ)) (ended : Option HowEnded) (place : ℕ) → fault_place_of framing limit pieces None ≡ Some place → fault_place_of framing limit (pieces ++ more) ended ≡ Some place
fault_stays framing limit pieces more ended place is = go (fault_of framing limit pieces) refl is
  where
    go : (fault : Option FrameFault) → fault_of framing limit pieces ≡ fault → place_at_fault (end_at (fault_of framing limit pieces) None (closed_end framing limit pieces)) (place_left framing limit pieces) ≡ Some place
        → fault_place_of framing limit (pieces ++ more) ended ≡ Some place
    go None e h =
        let none : None ≡ Some place = sym (ap (λ (f : Option FrameFault). place_at_fault (end_at f None (closed_end framing limit pieces)) (place_left framing limit pieces)) e) ∙ h in cc
    go (Some fault) e h =
        let stays : fault_of framing limit (pieces ++ more) ≡ Some fault = (ignores framing limit pieces more ended fault e).0 in
        let here : Some (place_left framing limit pieces) ≡ Some place = sym (ap (λ (f : Option FrameFault). place_at_fault (end_at f None (closed_end framing limit pieces)) (place_left framing limit pieces)) e) ∙ h in
        ap (λ (f : Option FrameFault). place_at_fault (end_at f ended (closed_end framing limit (pieces ++ more))) (place_left framing limit (pieces ++ more))) stays
        ∙ ap Some (place_stays framing limit pieces more fault e) ∙ here

-- ---- what is held

pub nothing_placed : (framing : Framing) (limit : ℕ) → placed_contents_of framing limit [] None ≡ []
unfolding placed_frames placed placed_line_contents
nothing_placed Frames limit = refl
nothing_placed Lines limit = refl
nothing_placed Contents limit = refl

pub placed_starts : (cutter : Cutter) (places : Places) (pieces : List (List ℕ)) (taken : ℕ) → place_items places ≡ [] → places.last ≡ None → pieces ≡ [] → taken ≡ 0 → IsPlaced cutter places pieces None taken
placed_starts cutter places pieces taken empty last none untaken = record {
  passed = [];
  counted = sym untaken;
  whole = ap (λ ps. places_by cutter ps None) none ∙ ap capped_places (nothing_placed (framing_of cutter) (limit_of cutter)) ∙ sym empty;
  last = λ e. last;
}

same_by : (old new : Cutter) (pieces : List (List ℕ)) (ended : Option HowEnded) → framing_of new ≡ framing_of old → limit_of new ≡ limit_of old → places_by new pieces ended ≡ places_by old pieces ended
same_by old new pieces ended framing limit =
    ap (λ f. capped_places (placed_contents_of f (limit_of new) pieces ended)) framing ∙ ap (λ n. capped_places (placed_contents_of (framing_of old) n pieces ended)) limit

-- one more piece
pub placed_fed : (old new : Cutter) (places next : Places) (pieces : List (List ℕ)) (piece : List ℕ) (taken : ℕ) → IsPlaced old places pieces None taken → framing_of new ≡ framing_of old → limit_of new ≡ limit_of old
    → ((passed : List ℕ) → places_by old pieces None ≡ passed ++ places.waiting.items → places_by old (pieces ++ piece ∷ []) None ≡ passed ++ next.waiting.items) → next.last ≡ places.last
    → IsPlaced new next (pieces ++ piece ∷ []) None taken
placed_fed old new places next pieces piece taken is framing limit fed last =
    let none : places.last ≡ None = is.last refl in
    let items : (p : Places) → p.last ≡ None → place_items p ≡ p.waiting.items = λ p e. ap (λ (o : Option ℕ). p.waiting.items ++ option_to_list o) e ∙ append-nil p.waiting.items in
    record {
      passed = is.passed;
      counted = is.counted;
      whole = same_by old new (pieces ++ piece ∷ []) None framing limit
          ∙ fed is.passed (is.whole ∙ ap (λ xs. is.passed ++ xs) (items places none)) ∙ ap (λ xs. is.passed ++ xs) (sym (items next (last ∙ none)));
      last = λ e. last ∙ none;
    }

pub placed_ignored : (cutter : Cutter) (places : Places) (pieces : List (List ℕ)) (piece : List ℕ) (taken : ℕ) (fault : FrameFault) → IsPlaced cutter places pieces None taken
    → fault_of (framing_of cutter) (limit_of cutter) pieces ≡ Some fault → IsPlaced cutter places (pieces ++ piece ∷ []) None taken
placed_ignored cutter places pieces piece taken fault is shown = record {
  passed = is.passed;
  counted = is.counted;
  whole = ap capped_places (places_ignore (framing_of cutter) (limit_of cutter) pieces (piece ∷ []) None fault shown) ∙ is.whole;
  last = is.last;
}

-- the next of them
next_at : (contents : List (ℕ × Frame)) (n : ℕ) → slice_get (capped_places contents) n ≡ option_map (λ placed. capped placed.0) (slice_get contents n)
next_at contents n = slice_get-map (λ (placed : ℕ × Frame). capped placed.0) contents n

pub next_place_is : (cutter : Cutter) (places : Places) (pieces : List (List ℕ)) (ended : Option HowEnded) (taken : ℕ) → IsPlaced cutter places pieces ended taken
    → slice_get (place_items places) 0 ≡ option_map (λ placed. capped placed.0) (slice_get (placed_contents_of (framing_of cutter) (limit_of cutter) pieces ended) taken)
next_place_is cutter places pieces ended taken is =
    sym (at_length is.passed (place_items places)) ∙ ap (λ xs. slice_get xs (length is.passed)) (sym is.whole) ∙ ap (slice_get (places_by cutter pieces ended)) is.counted
    ∙ next_at (placed_contents_of (framing_of cutter) (limit_of cutter) pieces ended) taken

-- one content is taken
both_there : (next : Option (ℕ × Frame)) → IsSome (option_map (λ placed. placed.1) next) → IsSome (option_map (λ placed. capped placed.0) next)
both_there None some = cc
both_there (Some one) some = refl

pub placed_popped : (cutter : Cutter) (places next : Places) (pieces : List (List ℕ)) (ended : Option HowEnded) (taken : ℕ) → IsPlaced cutter places pieces ended taken
    → IsSome (slice_get (contents_of (framing_of cutter) (limit_of cutter) pieces ended) taken) → place_items next ≡ drop 1 (place_items places) → (places.last ≡ None → next.last ≡ None) → IsPlaced cutter next pieces ended (taken + 1)
placed_popped cutter places next pieces ended taken is some items last =
    let contents = placed_contents_of (framing_of cutter) (limit_of cutter) pieces ended in
    let Here : Option Frame → Type 0 = λ o. IsSome o in
    let there : IsSome (option_map (λ (placed : ℕ × Frame). placed.1) (slice_get contents taken)) =
    subst Here (ap (λ xs. slice_get xs taken) (sym (contents_alone (framing_of cutter) (limit_of cutter) pieces ended)) ∙ slice_get-map (λ (placed : ℕ × Frame). placed.1) contents taken) some in
    let At : Option ℕ → Type 0 = λ o. IsSome o in
    let first = split_first (place_items places) (subst At (sym (next_place_is cutter places pieces ended taken is)) (both_there (slice_get contents taken) there)) in
    record {
      passed = is.passed ++ first.0 ∷ [];
      counted = length-append is.passed (first.0 ∷ []) ∙ ap (λ n. n + 1) is.counted;
      whole = is.whole ∙ ap (λ xs. is.passed ++ xs) (first.1 ∙ ap (λ xs. first.0 ∷ xs) (sym items)) ∙ sym (append_assoc is.passed (first.0 ∷ []) (place_items next));
      last = λ e. last (is.last e);
    }

-- the end
pub placed_closed : (old new : Cutter) (places next : Places) (pieces : List (List ℕ)) (taken : ℕ) (given : List ℕ) → IsPlaced old places pieces None taken → framing_of new ≡ framing_of old → limit_of new ≡ limit_of old
    → places_by old pieces (Some Closed) ≡ places_by old pieces None ++ given → place_items next ≡ place_items places ++ given → IsPlaced new next pieces (Some Closed) taken
placed_closed old new places next pieces taken given is framing limit more items = record {
  passed = is.passed;
  counted = is.counted;
  whole = same_by old new pieces (Some Closed) framing limit ∙ more ∙ ap (λ xs. xs ++ given) is.whole ∙ append_assoc is.passed (place_items places) given ∙ ap (λ xs. is.passed ++ xs) (sym items);
  last = λ e. cc;
}

same_failed : (framing : Framing) (limit : ℕ) (pieces : List (List ℕ)) → placed_contents_of framing limit pieces (Some ReadFailed) ≡ placed_contents_of framing limit pieces None
same_failed Frames limit pieces = refl
same_failed Lines limit pieces = refl
same_failed Contents limit pieces = refl

pub placed_failed : (cutter : Cutter) (places : Places) (pieces : List (List ℕ)) (taken : ℕ) → IsPlaced cutter places pieces None taken → IsPlaced cutter places pieces (Some ReadFailed) taken
placed_failed cutter places pieces taken is = record {
  passed = is.passed;
  counted = is.counted;
  whole = ap capped_places (same_failed (framing_of cutter) (limit_of cutter) pieces) ∙ is.whole;
  last = λ e. cc;
}
