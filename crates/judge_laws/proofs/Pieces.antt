-- Two pieces, and both as one.
use Rattle.std.proofs.Common.{◌≡◌, ℕ, zero, suc, ◌≤◌, ◌||◌, Bool, true, false, if◌then◌else◌, List, [], ◌∷◌, ◌++◌, Option, Some, None, refl, ap, sym, subst, ◌∙◌, map, drop, length, arith, append_assoc, append-nil}
use Rattle.std.specs.Prelude.{◌≢◌, max, is_some}
use Rattle.std.specs.List.{concat}
use Rattle.lsp_frames.specs.declared.frame.Frame.{Frame}
use Rattle.lsp_frames.specs.declared.frame.FrameFault.{FrameFault}
use Rattle.content_streams.specs.Streams.{Stream, joined, contents_of, placed_contents_of, end_of, place_at_fault, place_left, fault_place_of}
use Rattle.content_streams.specs.declared.ending.HowEnded.{HowEnded}
use Rattle.content_streams.specs.declared.ending.HowEnded.TheVariants as how
use Rattle.content_streams.specs.declared.ending.StreamEnd.{StreamEnd}
use Rattle.content_streams.specs.declared.ending.StreamEnd.TheVariants.{Clean, Fault, ReadFailed}
use Rattle.content_streams.specs.declared.framing.Framing.{Framing}
use Rattle.content_streams.specs.declared.framing.Framing.TheVariants as framings
use Rattle.conversation_rules.specs.Contents.{content_outcome}
use Rattle.conversation_rules.specs.Judging.{Seen, Wrote, Closed, Failed, State, new_state, pair_of, contents_findings, behind_contents, all_taken, fault_findings_of, is_fault, fed, wrote_findings, behind_wrote, ended_stream, event_findings, event_pair, event_stream, step_findings, step, findings_from, state_from, findings_of}
use Rattle.conversation_rules.specs.Speakers.{Pair}
use Rattle.conversation_rules.specs.declared.finding.Finding.{Finding}
use Rattle.conversation_rules.specs.declared.finding.Limits.{Limits}
use Rattle.conversation_rules.specs.declared.protocol.Protocol.{Protocol}
use Rattle.conversation_rules.specs.declared.side.Side.{Side}
use Rattle.conversation_rules.specs.declared.side.Side.TheVariants.{Client, Server}

-- what holds of streams
pub record Laws : Type 0 where
  pub grow : (framing : Framing) (limit : ℕ) (pieces more : List (List ℕ)) (ended : Option HowEnded) → (later : List (ℕ × Frame)) × (placed_contents_of framing limit (pieces ++ more) ended ≡ placed_contents_of framing limit pieces None ++ later)
  pub end_stays : (framing : Framing) (limit : ℕ) (pieces more : List (List ℕ)) (ended : Option HowEnded) (close : StreamEnd) → end_of framing limit pieces None ≡ Some close → end_of framing limit (pieces ++ more) ended ≡ Some close
  pub contents_stay : (framing : Framing) (limit : ℕ) (pieces more : List (List ℕ)) (ended : Option HowEnded) (close : StreamEnd) → end_of framing limit pieces None ≡ Some close → contents_of framing limit (pieces ++ more) ended ≡ contents_of framing limit pieces None
  pub fault_stays : (framing : Framing) (limit : ℕ) (pieces more : List (List ℕ)) (ended : Option HowEnded) (place : ℕ) → fault_place_of framing limit pieces None ≡ Some place → fault_place_of framing limit (pieces ++ more) ended ≡ Some place
  pub placed : (framing : Framing) (limit : ℕ) (pieces : List (List ℕ)) (ended : Option HowEnded) → map (λ placed. placed.1) (placed_contents_of framing limit pieces ended) ≡ contents_of framing limit pieces ended
  pub cut : (framing : Framing) (limit : ℕ) (pieces others : List (List ℕ)) (ended : Option HowEnded) → framing ≢ framings.Contents → joined pieces ≡ joined others → placed_contents_of framing limit pieces ended ≡ placed_contents_of framing limit others ended
  pub cut_end : (framing : Framing) (limit : ℕ) (pieces others : List (List ℕ)) (ended : Option HowEnded) → framing ≢ framings.Contents → joined pieces ≡ joined others → end_of framing limit pieces ended ≡ end_of framing limit others ended
  pub cut_fault : (framing : Framing) (limit : ℕ) (pieces others : List (List ℕ)) (ended : Option HowEnded) → framing ≢ framings.Contents → joined pieces ≡ joined others → fault_place_of framing limit pieces ended ≡ fault_place_of framing limit others ended

-- ---- lists

concat-append : (xs ys : List (List ℕ)) → concat (xs ++ ys) ≡ concat xs ++ concat ys
concat-append [] ys = refl
concat-append (x ∷ xs) ys = ap (λ zs. x ++ zs) (concat-append xs ys) ∙ sym (append_assoc x (concat xs) (concat ys))

same_bytes : (pieces : List (List ℕ)) (a b : List ℕ) → joined ((pieces ++ a ∷ []) ++ b ∷ []) ≡ joined (pieces ++ (a ++ b) ∷ [])
same_bytes pieces a b =
    concat-append (pieces ++ a ∷ []) (b ∷ []) ∙ ap (λ s. s ++ (b ++ [])) (concat-append pieces (a ∷ []))
    ∙ append_assoc (concat pieces) (a ++ []) (b ++ [])
    ∙ ap (λ s. concat pieces ++ s) (ap (λ x. x ++ (b ++ [])) (append-nil a) ∙ ap (λ x. a ++ x) (append-nil b) ∙ sym (append-nil (a ++ b)))
    ∙ sym (concat-append pieces ((a ++ b) ∷ []))

longer_by : {X : Type 0} (xs ys : List X) → length xs ≤ length (xs ++ ys)
longer_by [] ys = omega arith
longer_by (x ∷ xs) ys = let le = longer_by xs ys in omega (arith, le)

length-map : {X Y : Type 0} (f : X → Y) (xs : List X) → length (map f xs) ≡ length xs
length-map f [] = refl
length-map f (x ∷ xs) = ap suc (length-map f xs)

dropped_front : {X : Type 0} (k : ℕ) (xs ys : List X) → k ≤ length xs → drop k (xs ++ ys) ≡ drop k xs ++ ys
dropped_front zero xs ys le = refl
dropped_front (suc k) [] ys le = absurd (let e : suc k ≤ 0 = le in omega (arith, e))
dropped_front (suc k) (x ∷ xs) ys le = dropped_front k xs ys (let e : suc k ≤ suc (length xs) = le in omega (arith, e))

dropped_all : {X : Type 0} (xs ys : List X) → drop (length xs) (xs ++ ys) ≡ ys
dropped_all [] ys = refl
dropped_all (x ∷ xs) ys = dropped_all xs ys

none_more : {X : Type 0} (xs ys : List X) → length (xs ++ ys) ≡ length xs → ys ≡ []
none_more [] [] is = refl
none_more [] (y ∷ ys) is = absurd (let e : suc (length ys) ≡ 0 = is in omega (arith, e))
none_more (x ∷ xs) ys is = none_more xs ys (let e : suc (length (xs ++ ys)) ≡ suc (length xs) = is in omega (arith, e))

-- ---- contents one behind another

module _ (protocol : Protocol) (side : Side) where
  findings_behind : (xs ys : List (ℕ × Frame)) (pair : Pair) → contents_findings protocol side false (xs ++ ys) pair ≡ contents_findings protocol side false xs pair ++ contents_findings protocol side false ys (behind_contents protocol side false xs pair)
  findings_behind [] ys pair = refl
  findings_behind (x ∷ xs) ys pair =
      let outcome = content_outcome protocol side false x pair in
      ap (λ fs. outcome.findings ++ fs) (findings_behind xs ys outcome.pair)
      ∙ sym (append_assoc outcome.findings (contents_findings protocol side false xs outcome.pair) (contents_findings protocol side false ys (behind_contents protocol side false xs outcome.pair)))

  pair_behind : (xs ys : List (ℕ × Frame)) (pair : Pair) → behind_contents protocol side false (xs ++ ys) pair ≡ behind_contents protocol side false ys (behind_contents protocol side false xs pair)
  pair_behind [] ys pair = refl
  pair_behind (x ∷ xs) ys pair = pair_behind xs ys (content_outcome protocol side false x pair).pair

  -- ---- faults

  no_fault : (place : Option ℕ) (pair : Pair) (close : Option StreamEnd) → is_fault close ≡ false → fault_findings_of side place pair close ≡ []
  no_fault place pair None is = refl
  no_fault place pair (Some Clean) is = refl
  no_fault place pair (Some ReadFailed) is = refl
  no_fault place pair (Some (Fault fault)) is = cc

  unless_over : (b : Bool) (found : List Finding) → found ≡ [] → (if b then [] else found) ≡ []
  unless_over true found is = refl
  unless_over false found is = is

  or_no : (b : Bool) → (b || false) ≡ b
  or_no true = refl
  or_no false = refl

  or_yes : (b : Bool) → (b || true) ≡ true
  or_yes true = refl
  or_yes false = refl

  fault_there : (place : Option ℕ) (pair : Pair) (a b : Option StreamEnd) → a ≡ b → fault_findings_of side place pair a ≡ fault_findings_of side place pair b
  fault_there place pair a b is = ap (fault_findings_of side place pair) is

-- a stream that hasn't ended
abbrev stream_at : Framing → ℕ → List (List ℕ) → ℕ → Stream
stream_at framing limit pieces taken = record { framing = framing; limit = limit; pieces = pieces; ended = None; taken = taken }

module _ (laws : Laws) (protocol : Protocol) (side : Side) (framing : Framing) (limit : ℕ) (pieces : List (List ℕ)) (a b : List ℕ) (other : framing ≢ framings.Contents) where
  abbrev first : List (List ℕ)
  first = pieces ++ a ∷ []

  abbrev both : List (List ℕ)
  both = first ++ b ∷ []

  abbrev one : List (List ℕ)
  one = pieces ++ (a ++ b) ∷ []

  abbrev placed_of : List (List ℕ) → List (ℕ × Frame)
  placed_of pieces = placed_contents_of framing limit pieces None

  abbrev close_at : List (List ℕ) → Option StreamEnd
  close_at pieces = end_of framing limit pieces None

  abbrev place_at : List (List ℕ) → Option ℕ
  place_at pieces = fault_place_of framing limit pieces None

  abbrev faults : List (List ℕ) → Pair → List Finding
  faults pieces pair = if pair.own.is_over then [] else fault_findings_of side (place_at pieces) pair (close_at pieces)

  same_faults : (pair : Pair) → faults both pair ≡ faults one pair
  same_faults pair =
      ap (λ place. if pair.own.is_over then [] else fault_findings_of side place pair (close_at both)) (laws.cut_fault framing limit both one None other (same_bytes pieces a b))
      ∙ ap (λ close. if pair.own.is_over then [] else fault_findings_of side (place_at one) pair close) (laws.cut_end framing limit both one None other (same_bytes pieces a b))

  later : List (ℕ × Frame)
  later = (laws.grow framing limit first (b ∷ []) None).0

  grown : placed_of both ≡ placed_of first ++ later
  unfolding later
  grown = (laws.grow framing limit first (b ∷ []) None).1

  all_new : (taken : ℕ) → taken ≤ length (placed_of first) → drop taken (placed_of one) ≡ drop taken (placed_of first) ++ later
  all_new taken few =
      ap (drop taken) (sym (laws.cut framing limit both one None other (same_bytes pieces a b)) ∙ grown) ∙ dropped_front taken (placed_of first) later few

  second_new : (taken : ℕ) → taken ≤ length (placed_of first) → drop (max taken (length (placed_of first))) (placed_of both) ≡ later
  second_new taken few =
      ap (λ k. drop k (placed_of both)) (let e : max taken (length (placed_of first)) ≡ length (placed_of first) = omega (arith, few) in e)
      ∙ ap (drop (length (placed_of first))) grown ∙ dropped_all (placed_of first) later

  none_later : (close : StreamEnd) → close_at first ≡ Some close → later ≡ []
  none_later close is =
      none_more (placed_of first) later
      (ap length (sym grown) ∙ sym (length-map (λ placed. placed.1) (placed_of both))
      ∙ ap length (laws.placed framing limit both None ∙ laws.contents_stay framing limit first (b ∷ []) None close is ∙ sym (laws.placed framing limit first None))
      ∙ length-map (λ placed. placed.1) (placed_of first))

  faults_stay : (fault : FrameFault) (pair : Pair) → close_at first ≡ Some (Fault fault) → faults one pair ≡ faults first pair
  faults_stay fault pair is =
      let place : place_at first ≡ Some (place_left framing limit first) = ap (λ close. place_at_fault close (place_left framing limit first)) is in
      sym (same_faults pair)
      ∙ ap (λ at. if pair.own.is_over then [] else fault_findings_of side at pair (close_at both)) (laws.fault_stays framing limit first (b ∷ []) None (place_left framing limit first) place ∙ sym place)
      ∙ ap (λ close. if pair.own.is_over then [] else fault_findings_of side (place_at first) pair close) (laws.end_stays framing limit first (b ∷ []) None (Fault fault) is ∙ sym is)

  abbrev over_by : Pair → Bool → Pair
  over_by pair over = record { own = record pair.own { is_over = over }; other = pair.other }

  -- what is found in the two pieces, and in both as one, by what is new of them
  abbrev in_two : List (ℕ × Frame) → List (ℕ × Frame) → Pair → Pair → List Finding
  in_two new behind pair over =
      (contents_findings protocol side false new pair ++ faults first (behind_contents protocol side false new pair))
      ++ (contents_findings protocol side false behind over ++ faults both (behind_contents protocol side false behind over))

  abbrev in_one : List (ℕ × Frame) → Pair → List Finding
  in_one new pair = contents_findings protocol side false new pair ++ faults one (behind_contents protocol side false new pair)

  without_fault : (new : List (ℕ × Frame)) (pair : Pair) → is_fault (close_at first) ≡ false →
      in_two new later pair (over_by (behind_contents protocol side false new pair) ((behind_contents protocol side false new pair).own.is_over || is_fault (close_at first))) ≡ in_one (new ++ later) pair
  without_fault new pair is =
      let q = behind_contents protocol side false new pair in
      let found = contents_findings protocol side false new pair in
      let next = contents_findings protocol side false later q in
      let end = behind_contents protocol side false later q in
      ap (λ over. in_two new later pair (over_by q over)) (ap (λ f. q.own.is_over || f) is ∙ or_no protocol side q.own.is_over)
      ∙ ap (λ f. (found ++ f) ++ (next ++ faults both end)) (unless_over protocol side q.own.is_over (fault_findings_of side (place_at first) q (close_at first)) (no_fault protocol side (place_at first) q (close_at first) is))
      ∙ ap (λ f. f ++ (next ++ faults both end)) (append-nil found)
      ∙ ap (λ f. found ++ (next ++ f)) (same_faults end)
      ∙ sym (append_assoc found next (faults one end))
      ∙ ap (λ f. f ++ faults one end) (sym (findings_behind protocol side new later pair))
      ∙ ap (λ p. contents_findings protocol side false (new ++ later) pair ++ faults one p) (sym (pair_behind protocol side new later pair))

  with_fault : (new : List (ℕ × Frame)) (pair : Pair) (fault : FrameFault) → close_at first ≡ Some (Fault fault) →
      in_two new later pair (over_by (behind_contents protocol side false new pair) ((behind_contents protocol side false new pair).own.is_over || is_fault (close_at first))) ≡ in_one (new ++ later) pair
  with_fault new pair fault is =
      let q = behind_contents protocol side false new pair in
      let found = contents_findings protocol side false new pair in
      ap (λ over. in_two new later pair (over_by q over)) (ap (λ f. q.own.is_over || is_fault f) is ∙ or_yes protocol side q.own.is_over)
      ∙ ap (λ behind. in_two new behind pair (over_by q true)) (none_later (Fault fault) is)
      ∙ append-nil (found ++ faults first q)
      ∙ ap (λ f. found ++ f) (sym (faults_stay fault q is))
      ∙ ap (λ xs. in_one xs pair) (sym (append-nil new))
      ∙ ap (λ behind. in_one (new ++ behind) pair) (sym (none_later (Fault fault) is))

  either : (new : List (ℕ × Frame)) (pair : Pair) →
      in_two new later pair (over_by (behind_contents protocol side false new pair) ((behind_contents protocol side false new pair).own.is_over || is_fault (close_at first))) ≡ in_one (new ++ later) pair
  either new pair = from (close_at first) refl
    where
      from : (close : Option StreamEnd) → close_at first ≡ close →
          in_two new later pair (over_by (behind_contents protocol side false new pair) ((behind_contents protocol side false new pair).own.is_over || is_fault (close_at first))) ≡ in_one (new ++ later) pair
      from None is = without_fault new pair (ap is_fault is)
      from (Some Clean) is = without_fault new pair (ap is_fault is)
      from (Some ReadFailed) is = without_fault new pair (ap is_fault is)
      from (Some (Fault fault)) is = with_fault new pair fault is

  pub two_pieces : (taken : ℕ) (pair : Pair) → taken ≤ length (placed_of first) →
      wrote_findings protocol side (fed a (stream_at framing limit pieces taken)) pair
      ++ wrote_findings protocol side (fed b (all_taken (fed a (stream_at framing limit pieces taken)))) (behind_wrote protocol side (fed a (stream_at framing limit pieces taken)) pair)
      ≡ wrote_findings protocol side (fed (a ++ b) (stream_at framing limit pieces taken)) pair
  two_pieces taken pair few =
      let new = drop taken (placed_of first) in
      let over = over_by (behind_contents protocol side false new pair) ((behind_contents protocol side false new pair).own.is_over || is_fault (close_at first)) in
      ap (λ behind. in_two new behind pair over) (second_new taken few)
      ∙ either new pair
      ∙ ap (λ xs. in_one xs pair) (sym (all_new taken few))

-- ---- what was seen before

longer : (laws : Laws) (framing : Framing) (limit : ℕ) (pieces more : List (List ℕ)) (ended : Option HowEnded) → length (placed_contents_of framing limit pieces None) ≤ length (placed_contents_of framing limit (pieces ++ more) ended)
longer laws framing limit pieces more ended =
    let g = laws.grow framing limit pieces more ended in
    subst (λ all. length (placed_contents_of framing limit pieces None) ≤ length all) (sym g.1) (longer_by (placed_contents_of framing limit pieces None) g.0)

-- no more contents were judged than there are
record IsSteady (framing : Framing) (stream : Stream) : Type 0 where
  framing_is : stream.framing ≡ framing
  few : stream.ended ≡ None → stream.taken ≤ length (placed_contents_of stream.framing stream.limit stream.pieces None)

fed_steady : (laws : Laws) (framing : Framing) (bytes : List ℕ) (s : Stream) → s.ended ≡ None → IsSteady framing s → IsSteady framing (all_taken (fed bytes s))
fed_steady laws framing bytes s none steady = record {
  framing_is = steady.framing_is;
  few = λ still.
      let le = steady.few none in
      let more = longer laws s.framing s.limit s.pieces (bytes ∷ []) s.ended in
      let same : length (placed_contents_of s.framing s.limit (s.pieces ++ bytes ∷ []) s.ended) ≡ length (placed_contents_of s.framing s.limit (s.pieces ++ bytes ∷ []) None) = ap (λ e. length (placed_contents_of s.framing s.limit (s.pieces ++ bytes ∷ []) e)) none in
      omega (arith, le, more, same);
}

ended_steady : (framing : Framing) (end : HowEnded) (s : Stream) → IsSteady framing s → IsSteady framing (all_taken (ended_stream end s))
ended_steady framing end s steady = record { framing_is = steady.framing_is; few = λ none. cc }

event_steady : (framing : Framing) (before after : Stream) → IsSteady framing before → (before.ended ≡ None → IsSteady framing (all_taken after)) → IsSteady framing (event_stream before after)
event_steady framing before after steady given = from before.ended refl
  where
    from : (o : Option HowEnded) → before.ended ≡ o → IsSteady framing (if is_some o then before else all_taken after)
    from None is = given is
    from (Some end) is = steady

record AreSteady (framing : Framing) (state : State) : Type 0 where
  client : IsSteady framing state.client_stream
  server : IsSteady framing state.server_stream

new_steady : (framing : Framing) (limits : Limits) → AreSteady framing (new_state framing limits)
new_steady framing limits = record {
  client = record { framing_is = refl; few = λ none. omega arith };
  server = record { framing_is = refl; few = λ none. omega arith };
}

step_steady : (laws : Laws) (protocol : Protocol) (framing : Framing) (seen : Seen) (state : State) → AreSteady framing state → AreSteady framing (step protocol seen state)
step_steady laws protocol framing (Wrote Client bytes) state steady = record {
  client = event_steady framing state.client_stream (fed bytes state.client_stream) steady.client (λ none. fed_steady laws framing bytes state.client_stream none steady.client);
  server = steady.server;
}
step_steady laws protocol framing (Wrote Server bytes) state steady = record {
  client = steady.client;
  server = event_steady framing state.server_stream (fed bytes state.server_stream) steady.server (λ none. fed_steady laws framing bytes state.server_stream none steady.server);
}
step_steady laws protocol framing (Closed Client) state steady = record {
  client = event_steady framing state.client_stream (ended_stream how.Closed state.client_stream) steady.client (λ none. ended_steady framing how.Closed state.client_stream steady.client);
  server = steady.server;
}
step_steady laws protocol framing (Closed Server) state steady = record {
  client = steady.client;
  server = event_steady framing state.server_stream (ended_stream how.Closed state.server_stream) steady.server (λ none. ended_steady framing how.Closed state.server_stream steady.server);
}
step_steady laws protocol framing (Failed Client) state steady = record {
  client = event_steady framing state.client_stream (ended_stream how.ReadFailed state.client_stream) steady.client (λ none. ended_steady framing how.ReadFailed state.client_stream steady.client);
  server = steady.server;
}
step_steady laws protocol framing (Failed Server) state steady = record {
  client = steady.client;
  server = event_steady framing state.server_stream (ended_stream how.ReadFailed state.server_stream) steady.server (λ none. ended_steady framing how.ReadFailed state.server_stream steady.server);
}

all_steady : (laws : Laws) (protocol : Protocol) (framing : Framing) (seen : List Seen) (state : State) → AreSteady framing state → AreSteady framing (state_from protocol state seen)
all_steady laws protocol framing [] state steady = steady
all_steady laws protocol framing (one ∷ seen) state steady = all_steady laws protocol framing seen (step protocol one state) (step_steady laws protocol framing one state steady)

-- ---- anything that is seen, and then the pieces

seen_behind : (protocol : Protocol) (state : State) (seen others : List Seen) → findings_from protocol state (seen ++ others) ≡ findings_from protocol state seen ++ findings_from protocol (state_from protocol state seen) others
seen_behind protocol state [] others = refl
seen_behind protocol state (one ∷ seen) others =
    let found = step_findings protocol one state in
    ap (λ fs. found ++ fs) (seen_behind protocol (step protocol one state) seen others)
    ∙ sym (append_assoc found (findings_from protocol (step protocol one state) seen) (findings_from protocol (state_from protocol (step protocol one state) seen) others))

-- on a stream
abbrev SameFound : Protocol → Side → List ℕ → List ℕ → Pair → Stream → Type 0
SameFound protocol side a b pair s =
    event_findings protocol side None s (fed a s) pair ++ event_findings protocol side None (event_stream s (fed a s)) (fed b (event_stream s (fed a s))) (event_pair protocol side None s (fed a s) pair)
    ≡ event_findings protocol side None s (fed (a ++ b) s) pair

still_open : (laws : Laws) (protocol : Protocol) (side : Side) (a b : List ℕ) (framing : Framing) (limit : ℕ) (pieces : List (List ℕ)) (taken : ℕ) (pair : Pair) → framing ≢ framings.Contents →
    taken ≤ length (placed_contents_of framing limit pieces None) → SameFound protocol side a b pair (stream_at framing limit pieces taken)
still_open laws protocol side a b framing limit pieces taken pair other few =
    let more = longer laws framing limit pieces (a ∷ []) None in
    two_pieces laws protocol side framing limit pieces a b other taken pair (omega (arith, few, more))

has_ended : (protocol : Protocol) (side : Side) (a b : List ℕ) (framing : Framing) (limit : ℕ) (pieces : List (List ℕ)) (end : HowEnded) (taken : ℕ) (pair : Pair) →
    SameFound protocol side a b pair (record { framing = framing; limit = limit; pieces = pieces; ended = Some end; taken = taken })
has_ended protocol side a b framing limit pieces end taken pair = refl

by_end : (laws : Laws) (protocol : Protocol) (side : Side) (a b : List ℕ) (framing : Framing) (limit : ℕ) (pieces : List (List ℕ)) (ended : Option HowEnded) (taken : ℕ) (pair : Pair) → framing ≢ framings.Contents →
    (ended ≡ None → taken ≤ length (placed_contents_of framing limit pieces None)) → SameFound protocol side a b pair (record { framing = framing; limit = limit; pieces = pieces; ended = ended; taken = taken })
by_end laws protocol side a b framing limit pieces None taken pair other few = still_open laws protocol side a b framing limit pieces taken pair other (few refl)
by_end laws protocol side a b framing limit pieces (Some end) taken pair other few = has_ended protocol side a b framing limit pieces end taken pair

on_stream : (laws : Laws) (protocol : Protocol) (side : Side) (framing : Framing) (a b : List ℕ) (s : Stream) (pair : Pair) → framing ≢ framings.Contents → IsSteady framing s → SameFound protocol side a b pair s
on_stream laws protocol side framing a b s pair other steady =
    by_end laws protocol side a b s.framing s.limit s.pieces s.ended s.taken pair (λ is. other (sym steady.framing_is ∙ is)) steady.few

on_state : (laws : Laws) (protocol : Protocol) (side : Side) (framing : Framing) (a b : List ℕ) (state : State) → framing ≢ framings.Contents → AreSteady framing state →
    step_findings protocol (Wrote side a) state ++ step_findings protocol (Wrote side b) (step protocol (Wrote side a) state) ≡ step_findings protocol (Wrote side (a ++ b)) state
on_state laws protocol Client framing a b state other steady = on_stream laws protocol Client framing a b state.client_stream (pair_of Client state) other steady.client
on_state laws protocol Server framing a b state other steady = on_stream laws protocol Server framing a b state.server_stream (pair_of Server state) other steady.server

pub joined_pieces : (laws : Laws) (protocol : Protocol) (framing : Framing) (limits : Limits) (seen : List Seen) (side : Side) (a b : List ℕ) → framing ≢ framings.Contents →
    findings_of protocol framing limits (seen ++ Wrote side a ∷ Wrote side b ∷ []) ≡ findings_of protocol framing limits (seen ++ Wrote side (a ++ b) ∷ [])
joined_pieces laws protocol framing limits seen side a b other =
    let start = new_state framing limits in
    let state = state_from protocol start seen in
    let before = findings_from protocol start seen in
    let first = step_findings protocol (Wrote side a) state in
    let second = step_findings protocol (Wrote side b) (step protocol (Wrote side a) state) in
    seen_behind protocol start seen (Wrote side a ∷ Wrote side b ∷ [])
    ∙ ap (λ fs. before ++ fs) (sym (append_assoc first second []) ∙ ap (λ fs. fs ++ []) (on_state laws protocol side framing a b state other (all_steady laws protocol framing seen start (new_steady framing limits))))
    ∙ sym (seen_behind protocol start seen (Wrote side (a ++ b) ∷ []))
