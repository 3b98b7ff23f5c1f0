-- What is found in all that was seen, by what holds of both sides and of the contents of both that are still to come.
use Rattle.std.proofs.Common.{◌≡◌, ℕ, ◌≤◌, Bool, true, false, if◌then◌else◌, List, [], ◌∷◌, ◌++◌, Option, Some, None, length, drop, refl, sym, ap, subst, ◌∙◌, arith, append-nil}
use Rattle.std.specs.Prelude.{is_some}
use Rattle.lsp_frames.specs.declared.frame.Frame.{Frame}
use Rattle.content_streams.specs.Streams.{Stream, placed_contents}
use Rattle.content_streams.specs.declared.ending.HowEnded.{HowEnded}
use Rattle.content_streams.specs.declared.ending.HowEnded.TheVariants as how
use Rattle.conversation_rules.specs.Contents.{content_outcome}
use Rattle.conversation_rules.specs.Judging.{Seen, Wrote, Closed, Failed, State, stream_of, pair_of, state_with, contents_findings, behind_contents, new_contents, all_taken, fault_findings, fed, over_pair, ended_stream, unanswered_findings, ended_pair, seen_findings, behind_seen, event_findings, event_pair, event_stream, step_findings, step, findings_from, state_from}
use Rattle.conversation_rules.specs.Speakers.{Pair}
use Rattle.conversation_rules.specs.declared.finding.Finding.{Finding}
use Rattle.conversation_rules.specs.declared.protocol.Protocol.{Protocol}
use Rattle.conversation_rules.specs.declared.side.Side.{Side}
use Rattle.conversation_rules.specs.declared.side.Side.TheVariants.{Client, Server}
use Rattle.our_side.proofs.Streaming.{ended_contents, other, IsSide, own, others, which, swap, own_stream, own_pair, other_stream, other_pair, pair_of_other, Later, retaken, fed_later, ended_later, same, all_later, Grow, grown, dropped_front, dropped_all, IsSteady, steady_later, all_taken_steady}
use Rattle.our_side.proofs.Walking.{Each, each-append}

abbrev pub Placed : Type 0
Placed = List (ℕ × Frame)

pub record KeepsBoth (protocol : Protocol) (side : Side) (P : Finding → Type 0) (Timely : Placed → Placed → Type 0) (Holds : Placed → Placed → Pair → Type 0) (mine yours : Stream) : Type 0 where
  pub more_timely : (new rest theirs : Placed) → Timely rest theirs → Timely (new ++ rest) theirs
  pub ours : (is_unfinished : Bool) (placed : ℕ × Frame) (rest theirs : Placed) (pair : Pair) → Timely rest theirs → Holds (placed ∷ rest) theirs pair
      → Each P (content_outcome protocol side is_unfinished placed pair).findings × Holds rest theirs (content_outcome protocol side is_unfinished placed pair).pair
  pub theirs : (is_unfinished : Bool) (placed : ℕ × Frame) (ours rest : Placed) (pair : Pair) → Holds ours (placed ∷ rest) pair
      → Each P (content_outcome protocol (other side) is_unfinished placed (swap pair)).findings × Holds ours rest (swap (content_outcome protocol (other side) is_unfinished placed (swap pair)).pair)
  pub our_end : (s : Stream) (ours theirs : Placed) (pair : Pair) → Holds ours theirs pair → Holds ours theirs (over_pair s pair)
  pub their_end : (s : Stream) (ours theirs : Placed) (pair : Pair) → Holds ours theirs pair → Holds ours theirs (swap (over_pair s (swap pair)))
  pub we_ended : (s : Stream) (ours theirs : Placed) (pair : Pair) → Later s mine → is_some s.ended ≡ true → ours ≡ [] → Holds ours theirs pair → Holds ours theirs (ended_pair pair)
  pub they_ended : (ours theirs : Placed) (pair : Pair) → Holds ours theirs pair → Holds ours theirs (swap (ended_pair (swap pair)))
  pub our_fault : (s : Stream) (pair : Pair) → Later s mine → Each P (fault_findings side s pair)
  pub their_fault : (s : Stream) (pair : Pair) → Each P (fault_findings (other side) s pair)
  pub we_left : (end : HowEnded) (pair : Pair) → Each P (unanswered_findings protocol side end pair)
  pub they_left : (end : HowEnded) (pair : Pair) → Each P (unanswered_findings protocol (other side) end pair)

kept_stream : (side : Side) (s : Stream) (p : Pair) (state : State) → stream_of (other side) (state_with side s p state) ≡ stream_of (other side) state
kept_stream Client s p state = refl
kept_stream Server s p state = refl

module _ (grow : Grow) (protocol : Protocol) (side : Side) (P : Finding → Type 0) (Timely : Placed → Placed → Type 0) (Holds : Placed → Placed → Pair → Type 0) (mine yours : Stream)
    (keeps : KeepsBoth protocol side P Timely Holds mine yours) where
  our_contents : (is_unfinished : Bool) (new rest theirs : Placed) (pair : Pair) → Timely rest theirs → Holds (new ++ rest) theirs pair
      → Each P (contents_findings protocol side is_unfinished new pair) × Holds rest theirs (behind_contents protocol side is_unfinished new pair)
  our_contents is_unfinished [] rest theirs pair timely holds = (tt, holds)
  our_contents is_unfinished (placed ∷ new) rest theirs pair timely holds =
      let now = keeps.ours is_unfinished placed (new ++ rest) theirs pair (keeps.more_timely new rest theirs timely) holds in
      let behind = our_contents is_unfinished new rest theirs (content_outcome protocol side is_unfinished placed pair).pair timely now.1 in
      (each-append P (content_outcome protocol side is_unfinished placed pair).findings _ now.0 behind.0, behind.1)

  their_contents : (is_unfinished : Bool) (new ours rest : Placed) (pair : Pair) → Holds ours (new ++ rest) (swap pair)
      → Each P (contents_findings protocol (other side) is_unfinished new pair) × Holds ours rest (swap (behind_contents protocol (other side) is_unfinished new pair))
  their_contents is_unfinished [] ours rest pair holds = (tt, holds)
  their_contents is_unfinished (placed ∷ new) ours rest pair holds =
      let now = keeps.theirs is_unfinished placed ours (new ++ rest) (swap pair) holds in
      let behind = their_contents is_unfinished new ours rest (content_outcome protocol (other side) is_unfinished placed pair).pair now.1 in
      (each-append P (content_outcome protocol (other side) is_unfinished placed pair).findings _ now.0 behind.0, behind.1)

  our_seen : (end : Option HowEnded) (after : Stream) (rest theirs : Placed) (pair : Pair) → Later after mine → (is_some end ≡ true → is_some after.ended ≡ true) → (is_some end ≡ true → rest ≡ []) → Timely rest theirs → Holds (new_contents after ++ rest) theirs pair
      → Each P (seen_findings protocol side end after pair) × Holds rest theirs (behind_seen protocol side end after pair)
  our_seen None after rest theirs pair later ends last_one timely holds =
      let got = our_contents false (new_contents after) rest theirs pair timely holds in (
        each-append P (contents_findings protocol side false (new_contents after) pair) _ got.0 (keeps.our_fault after (behind_contents protocol side false (new_contents after) pair) later),
        keeps.our_end after rest theirs (behind_contents protocol side false (new_contents after) pair) got.1,
      )
  our_seen (Some end) after rest theirs pair later ends last_one timely holds =
      let got = our_contents true (new_contents after) rest theirs pair timely holds in
      let last = behind_contents protocol side true (new_contents after) pair in (
        each-append P _ (unanswered_findings protocol side end last)
            (each-append P (contents_findings protocol side true (new_contents after) pair) _ got.0 (keeps.our_fault after last later)) (keeps.we_left end last),
        keeps.we_ended after rest theirs last later (ends refl) (last_one refl) got.1,
      )

  their_seen : (end : Option HowEnded) (after : Stream) (ours rest : Placed) (pair : Pair) → Holds ours (new_contents after ++ rest) (swap pair)
      → Each P (seen_findings protocol (other side) end after pair) × Holds ours rest (swap (behind_seen protocol (other side) end after pair))
  their_seen None after ours rest pair holds =
      let got = their_contents false (new_contents after) ours rest pair holds in (
        each-append P (contents_findings protocol (other side) false (new_contents after) pair) _ got.0 (keeps.their_fault after (behind_contents protocol (other side) false (new_contents after) pair)),
        keeps.their_end after ours rest (swap (behind_contents protocol (other side) false (new_contents after) pair)) got.1,
      )
  their_seen (Some end) after ours rest pair holds =
      let got = their_contents true (new_contents after) ours rest pair holds in
      let last = behind_contents protocol (other side) true (new_contents after) pair in (
        each-append P _ (unanswered_findings protocol (other side) end last)
            (each-append P (contents_findings protocol (other side) true (new_contents after) pair) _ got.0 (keeps.their_fault after last)) (keeps.they_left end last),
        keeps.they_ended ours rest (swap last) got.1,
      )

  -- ---- an event

  abbrev pub to_come : Stream → Stream → Placed
  to_come final s = drop s.taken (placed_contents final)

  -- the new contents of a stream, and those behind them
  split : (final before after : Stream) → after.taken ≡ before.taken → IsSteady after → Later (all_taken after) final → (later : Placed) × (to_come final before ≡ new_contents after ++ later) × (to_come final (all_taken after) ≡ later)
  split final before after taken few l =
      let more = retaken after final l in
      let g = grown grow after final more in (
        g.later,
        ap (λ k. drop k (placed_contents final)) (sym taken) ∙ ap (drop after.taken) g.is ∙ dropped_front after.taken (placed_contents after) g.later few,
        ap (λ k. drop k (placed_contents final)) (all_taken_steady after few) ∙ ap (drop (length (placed_contents after))) g.is ∙ dropped_all (placed_contents after) g.later,
      )

  -- behind its end a stream has no more
  nothing_left : (final after : Stream) → IsSteady after → Later (all_taken after) final → is_some after.ended ≡ true → to_come final (all_taken after) ≡ []
  nothing_left final after few l ended =
      ap (λ k. drop k (placed_contents final)) (all_taken_steady after few) ∙ ap (drop (length (placed_contents after))) (ended_contents (all_taken after) final l ended ∙ sym (append-nil (placed_contents after)))
      ∙ dropped_all (placed_contents after) []

  our_event : (end : Option HowEnded) (before after : Stream) (theirs : Placed) (pair : Pair) → after.taken ≡ before.taken → (is_some end ≡ true → is_some after.ended ≡ true) → (is_some before.ended ≡ false → IsSteady after)
      → Later (event_stream before after) mine → Timely (to_come mine (event_stream before after)) theirs → Holds (to_come mine before) theirs pair
      → Each P (event_findings protocol side end before after pair) × Holds (to_come mine (event_stream before after)) theirs (event_pair protocol side end before after pair)
  our_event end before after theirs pair taken ends steady later timely holds = from (is_some before.ended) refl later timely
    where
      from : (b : Bool) → is_some before.ended ≡ b → Later (if b then before else all_taken after) mine → Timely (to_come mine (if b then before else all_taken after)) theirs
          → Each P (if b then [] else seen_findings protocol side end after pair) × Holds (to_come mine (if b then before else all_taken after)) theirs (if b then pair else behind_seen protocol side end after pair)
      from true is l t = (tt, holds)
      from false is l t =
          let it = split mine before after taken (steady is) l in
          let got = our_seen end after it.0 theirs pair (retaken after mine l) ends (λ e. sym it.2 ∙ nothing_left mine after (steady is) l (ends e)) (subst (λ xs. Timely xs theirs) it.2 t) (subst (λ xs. Holds xs theirs pair) it.1 holds) in
          (got.0, subst (λ xs. Holds xs theirs (behind_seen protocol side end after pair)) (sym it.2) got.1)

  their_event : (end : Option HowEnded) (before after : Stream) (ours : Placed) (pair : Pair) → after.taken ≡ before.taken → (is_some before.ended ≡ false → IsSteady after)
      → Later (event_stream before after) yours → Holds ours (to_come yours before) (swap pair)
      → Each P (event_findings protocol (other side) end before after pair) × Holds ours (to_come yours (event_stream before after)) (swap (event_pair protocol (other side) end before after pair))
  their_event end before after ours pair taken steady later holds = from (is_some before.ended) refl later
    where
      from : (b : Bool) → is_some before.ended ≡ b → Later (if b then before else all_taken after) yours
          → Each P (if b then [] else seen_findings protocol (other side) end after pair) × Holds ours (to_come yours (if b then before else all_taken after)) (swap (if b then pair else behind_seen protocol (other side) end after pair))
      from true is l = (tt, holds)
      from false is l =
          let it = split yours before after taken (steady is) l in
          let got = their_seen end after ours it.0 pair (subst (λ xs. Holds ours xs (swap pair)) it.1 holds) in
          (got.0, subst (λ xs. Holds ours xs (swap (behind_seen protocol (other side) end after pair))) (sym it.2) got.1)

  -- ---- all of it

  abbrev pub Stands : State → Type 0
  Stands state = Holds (to_come mine (stream_of side state)) (to_come yours (stream_of (other side) state)) (pair_of side state)

  abbrev pub IsTimely : State → Type 0
  IsTimely state = Timely (to_come mine (stream_of side state)) (to_come yours (stream_of (other side) state))

  event : (end : Option HowEnded) (another : Side) → IsSide side another → (state : State) (after : Stream) → after.taken ≡ (stream_of another state).taken → (is_some end ≡ true → is_some after.ended ≡ true)
      → (is_some (stream_of another state).ended ≡ false → IsSteady after) → Stands state
      → Later (stream_of side (state_with another (event_stream (stream_of another state) after) (event_pair protocol another end (stream_of another state) after (pair_of another state)) state)) mine
      → Later (stream_of (other side) (state_with another (event_stream (stream_of another state) after) (event_pair protocol another end (stream_of another state) after (pair_of another state)) state)) yours
      → IsTimely (state_with another (event_stream (stream_of another state) after) (event_pair protocol another end (stream_of another state) after (pair_of another state)) state)
      → Each P (event_findings protocol another end (stream_of another state) after (pair_of another state))
      × Stands (state_with another (event_stream (stream_of another state) after) (event_pair protocol another end (stream_of another state) after (pair_of another state)) state)
  event end _ own state after taken ends steady stands later_mine later_yours timely =
      let before = stream_of side state in
      let pair = pair_of side state in
      let s = event_stream before after in
      let p = event_pair protocol side end before after pair in
      let now = state_with side s p state in
      let theirs = to_come yours (stream_of (other side) state) in
      let t : Timely (to_come mine s) theirs = subst (λ st. Timely (to_come mine st) theirs) (own_stream side s p state) (subst (λ st. Timely (to_come mine (stream_of side now)) (to_come yours st)) (kept_stream side s p state) timely) in
      let got = our_event end before after theirs pair taken ends steady (subst (λ st. Later st mine) (own_stream side s p state) later_mine) t stands in (
        got.0,
        subst (λ st. Holds (to_come mine (stream_of side now)) (to_come yours st) (pair_of side now)) (sym (kept_stream side s p state))
            (subst (λ q. Holds (to_come mine (stream_of side now)) theirs q) (sym (own_pair side s p state)) (subst (λ st. Holds (to_come mine st) theirs p) (sym (own_stream side s p state)) got.1)),
      )
  event end _ others state after taken ends steady stands later_mine later_yours timely =
      let before = stream_of (other side) state in
      let pair = pair_of (other side) state in
      let s = event_stream before after in
      let p = event_pair protocol (other side) end before after pair in
      let now = state_with (other side) s p state in
      let ours = to_come mine (stream_of side state) in
      let holds : Holds ours (to_come yours before) (swap pair) = subst (λ q. Holds ours (to_come yours before) (swap q)) (sym (pair_of_other side state)) stands in
      let got = their_event end before after ours pair taken steady (subst (λ st. Later st yours) (own_stream (other side) s p state) later_yours) holds in (
        got.0,
        subst (λ st. Holds (to_come mine (stream_of side now)) (to_come yours st) (pair_of side now)) (sym (own_stream (other side) s p state))
            (subst (λ q. Holds (to_come mine (stream_of side now)) (to_come yours s) q) (sym (other_pair side s p state)) (subst (λ st. Holds (to_come mine st) (to_come yours s) (swap p)) (sym (other_stream side s p state)) got.1)),
      )

-- ---- no more were judged than there are

fed_steady : Grow → (bytes : List ℕ) (s : Stream) → IsSteady s → is_some s.ended ≡ false → IsSteady (fed bytes s)
fed_steady grow bytes s steady unended = steady_later grow s (all_taken (fed bytes s)) (fed_later bytes s (all_taken (fed bytes s)) unended (same (all_taken (fed bytes s)))) steady

ended_steady : Grow → (end : HowEnded) (s : Stream) → IsSteady s → is_some s.ended ≡ false → IsSteady (ended_stream end s)
ended_steady grow end s steady unended = steady_later grow s (all_taken (ended_stream end s)) (ended_later end s (all_taken (ended_stream end s)) unended (same (all_taken (ended_stream end s)))) steady

taken_steady : (s : Stream) → IsSteady s → IsSteady (all_taken s)
taken_steady s steady = let le : s.taken ≤ length (placed_contents s) = steady in omega (arith, le)

event_steady : (before after : Stream) → IsSteady before → (is_some before.ended ≡ false → IsSteady after) → IsSteady (event_stream before after)
event_steady before after steady given = from (is_some before.ended) refl
  where
    from : (b : Bool) → is_some before.ended ≡ b → IsSteady (if b then before else all_taken after)
    from true is = steady
    from false is = taken_steady after (given is)

side_steady : (side another : Side) → IsSide side another → (state : State) (after : Stream) (p : Pair) → IsSteady (stream_of side state) → (IsSteady (stream_of another state) → is_some (stream_of another state).ended ≡ false → IsSteady after)
    → IsSteady (stream_of side (state_with another (event_stream (stream_of another state) after) p state))
side_steady side _ own state after p steady given =
    subst IsSteady (sym (own_stream side (event_stream (stream_of side state) after) p state)) (event_steady (stream_of side state) after steady (given steady))
side_steady side _ others state after p steady given = subst IsSteady (sym (other_stream side (event_stream (stream_of (other side) state) after) p state)) steady

pub step_steady : Grow → (protocol : Protocol) (side : Side) (one : Seen) (state : State) → IsSteady (stream_of side state) → IsSteady (stream_of side (step protocol one state))
step_steady grow protocol side (Wrote another bytes) state steady =
    side_steady side another (which side another) state (fed bytes (stream_of another state)) _ steady (fed_steady grow bytes (stream_of another state))
step_steady grow protocol side (Closed another) state steady =
    side_steady side another (which side another) state (ended_stream how.Closed (stream_of another state)) _ steady (ended_steady grow how.Closed (stream_of another state))
step_steady grow protocol side (Failed another) state steady =
    side_steady side another (which side another) state (ended_stream how.ReadFailed (stream_of another state)) _ steady (ended_steady grow how.ReadFailed (stream_of another state))

-- of either side
any_steady : (side another : Side) → IsSide side another → (state : State) → IsSteady (stream_of side state) → IsSteady (stream_of (other side) state) → IsSteady (stream_of another state)
any_steady side _ own state mine yours = mine
any_steady side _ others state mine yours = yours

module _ (grow : Grow) (protocol : Protocol) (side : Side) (P : Finding → Type 0) (Timely : Placed → Placed → Type 0) (Holds : Placed → Placed → Pair → Type 0) (mine yours : Stream)
    (keeps : KeepsBoth protocol side P Timely Holds mine yours) where
  abbrev Stood : State → Type 0
  Stood state = Stands grow protocol side P Timely Holds mine yours keeps state

  abbrev pub InTime : State → Type 0
  InTime state = IsTimely grow protocol side P Timely Holds mine yours keeps state

  step_both : (one : Seen) (state : State) → IsSteady (stream_of side state) → IsSteady (stream_of (other side) state) → Stood state → Later (stream_of side (step protocol one state)) mine → Later (stream_of (other side) (step protocol one state)) yours
      → InTime (step protocol one state) → Each P (step_findings protocol one state) × Stood (step protocol one state)
  step_both (Wrote another bytes) state steady other_steady stands later_mine later_yours timely =
      event grow protocol side P Timely Holds mine yours keeps None another (which side another) state (fed bytes (stream_of another state)) refl (λ ends. absurd (let no : false ≡ true = ends in cc))
      (fed_steady grow bytes (stream_of another state) (any_steady side another (which side another) state steady other_steady)) stands later_mine later_yours timely
  step_both (Closed another) state steady other_steady stands later_mine later_yours timely =
      event grow protocol side P Timely Holds mine yours keeps (Some how.Closed) another (which side another) state (ended_stream how.Closed (stream_of another state)) refl (λ ends. refl)
      (ended_steady grow how.Closed (stream_of another state) (any_steady side another (which side another) state steady other_steady)) stands later_mine later_yours timely
  step_both (Failed another) state steady other_steady stands later_mine later_yours timely =
      event grow protocol side P Timely Holds mine yours keeps (Some how.ReadFailed) another (which side another) state (ended_stream how.ReadFailed (stream_of another state)) refl (λ ends. refl)
      (ended_steady grow how.ReadFailed (stream_of another state) (any_steady side another (which side another) state steady other_steady)) stands later_mine later_yours timely

  pub both_each : (seen : List Seen) (state : State) → IsSteady (stream_of side state) → IsSteady (stream_of (other side) state) → Stood state → stream_of side (state_from protocol state seen) ≡ mine
      → stream_of (other side) (state_from protocol state seen) ≡ yours → ((front back : List Seen) → seen ≡ front ++ back → InTime (state_from protocol state front)) → Each P (findings_from protocol state seen)
  both_each [] state steady other_steady stands is that timely = tt
  both_each (one ∷ seen) state steady other_steady stands is that timely =
      let next = step protocol one state in
      let got = step_both one state steady other_steady stands (subst (Later (stream_of side next)) is (all_later protocol side seen next)) (subst (Later (stream_of (other side) next)) that (all_later protocol (other side) seen next))
      (timely (one ∷ []) seen refl) in
      each-append P (step_findings protocol one state) _ got.0
      (both_each seen next (step_steady grow protocol side one state steady) (step_steady grow protocol (other side) one state other_steady) got.1 is that (λ front back split. timely (one ∷ front) back (ap (λ xs. one ∷ xs) split)))
