-- What is found in all that was seen, by what holds of both sides before each content.
use Rattle.std.proofs.Common.{◌≡◌, ℕ, ◌≤◌, Bool, true, false, if◌then◌else◌, List, [], ◌∷◌, ◌++◌, Option, Some, None, length, drop, refl, sym, ap, subst, ◌∙◌, arith}
use Rattle.std.specs.Prelude.{is_some}
use Rattle.lsp_frames.specs.declared.frame.Frame.{Frame}
use Rattle.content_streams.specs.Streams.{Stream, placed_contents}
use Rattle.content_streams.specs.declared.ending.HowEnded.{HowEnded}
use Rattle.content_streams.specs.declared.framing.Framing.{Framing}
use Rattle.conversation_rules.specs.declared.finding.Limits.{Limits}
use Rattle.content_streams.specs.declared.ending.HowEnded.TheVariants as how
use Rattle.conversation_rules.specs.Contents.{content_outcome}
use Rattle.conversation_rules.specs.Judging.{Seen, Wrote, Closed, Failed, State, stream_of, pair_of, state_with, contents_findings, behind_contents, new_contents, all_taken, fault_findings, fed, over_pair, ended_stream, unanswered_findings, ended_pair, seen_findings, behind_seen, event_findings, event_pair, event_stream, step_findings, step, findings_from, state_from, findings_of, state_of, new_state}
use Rattle.conversation_rules.specs.Speakers.{Pair}
use Rattle.conversation_rules.specs.declared.finding.Finding.{Finding}
use Rattle.conversation_rules.specs.declared.protocol.Protocol.{Protocol}
use Rattle.conversation_rules.specs.declared.side.Side.{Side}
use Rattle.conversation_rules.specs.declared.side.Side.TheVariants.{Client, Server}
use Rattle.our_side.proofs.Streaming.{other, IsSide, own, others, which, swap, own_stream, own_pair, other_stream, other_pair, pair_of_other, Later, retaken, fed_later, ended_later, same, all_later, Grow, grown, dropped_front, dropped_all, IsSteady, steady_later, all_taken_steady}
use Rattle.our_side.proofs.Walking.{Each, each-append}

-- What is kept, as contents are judged: of the contents of the side that are still to come, and of both sides.
pub record Keeps (protocol : Protocol) (side : Side) (P : Finding → Type 0) (Holds : List (ℕ × Frame) → Pair → Type 0) (final : Stream) : Type 0 where
  pub ours : (is_unfinished : Bool) (placed : ℕ × Frame) (rest : List (ℕ × Frame)) (pair : Pair) → Holds (placed ∷ rest) pair
      → Each P (content_outcome protocol side is_unfinished placed pair).findings × Holds rest (content_outcome protocol side is_unfinished placed pair).pair
  pub theirs : (is_unfinished : Bool) (placed : ℕ × Frame) (rest : List (ℕ × Frame)) (pair : Pair) → Holds rest pair
      → Each P (content_outcome protocol (other side) is_unfinished placed (swap pair)).findings × Holds rest (swap (content_outcome protocol (other side) is_unfinished placed (swap pair)).pair)
  pub our_end : (s : Stream) (rest : List (ℕ × Frame)) (pair : Pair) → Holds rest pair → Holds rest (over_pair s pair)
  pub their_end : (s : Stream) (rest : List (ℕ × Frame)) (pair : Pair) → Holds rest pair → Holds rest (swap (over_pair s (swap pair)))
  pub we_ended : (rest : List (ℕ × Frame)) (pair : Pair) → Holds rest pair → Holds rest (ended_pair pair)
  pub they_ended : (rest : List (ℕ × Frame)) (pair : Pair) → Holds rest pair → Holds rest (swap (ended_pair (swap pair)))
  pub our_fault : (s : Stream) (pair : Pair) → Later s final → Each P (fault_findings side s pair)
  pub their_fault : (s : Stream) (pair : Pair) → Each P (fault_findings (other side) s pair)
  pub we_left : (end : HowEnded) (pair : Pair) → Each P (unanswered_findings protocol side end pair)
  pub they_left : (end : HowEnded) (pair : Pair) → Each P (unanswered_findings protocol (other side) end pair)

module _ (grow : Grow) (protocol : Protocol) (side : Side) (P : Finding → Type 0) (Holds : List (ℕ × Frame) → Pair → Type 0) (final : Stream) (keeps : Keeps protocol side P Holds final) where
  -- ---- contents, one behind another

  our_contents : (is_unfinished : Bool) (new rest : List (ℕ × Frame)) (pair : Pair) → Holds (new ++ rest) pair
      → Each P (contents_findings protocol side is_unfinished new pair) × Holds rest (behind_contents protocol side is_unfinished new pair)
  our_contents is_unfinished [] rest pair holds = (tt, holds)
  our_contents is_unfinished (placed ∷ new) rest pair holds =
      let now = keeps.ours is_unfinished placed (new ++ rest) pair holds in
      let behind = our_contents is_unfinished new rest (content_outcome protocol side is_unfinished placed pair).pair now.1 in
      (each-append P (content_outcome protocol side is_unfinished placed pair).findings _ now.0 behind.0, behind.1)

  their_contents : (is_unfinished : Bool) (new rest : List (ℕ × Frame)) (pair : Pair) → Holds rest (swap pair)
      → Each P (contents_findings protocol (other side) is_unfinished new pair) × Holds rest (swap (behind_contents protocol (other side) is_unfinished new pair))
  their_contents is_unfinished [] rest pair holds = (tt, holds)
  their_contents is_unfinished (placed ∷ new) rest pair holds =
      let now = keeps.theirs is_unfinished placed rest (swap pair) holds in
      let behind = their_contents is_unfinished new rest (content_outcome protocol (other side) is_unfinished placed pair).pair now.1 in
      (each-append P (content_outcome protocol (other side) is_unfinished placed pair).findings _ now.0 behind.0, behind.1)

  -- ---- what was seen

  our_seen : (end : Option HowEnded) (after : Stream) (rest : List (ℕ × Frame)) (pair : Pair) → Later after final → Holds (new_contents after ++ rest) pair
      → Each P (seen_findings protocol side end after pair) × Holds rest (behind_seen protocol side end after pair)
  our_seen None after rest pair later holds =
      let got = our_contents false (new_contents after) rest pair holds in (
        each-append P (contents_findings protocol side false (new_contents after) pair) _ got.0 (keeps.our_fault after (behind_contents protocol side false (new_contents after) pair) later),
        keeps.our_end after rest (behind_contents protocol side false (new_contents after) pair) got.1,
      )
  our_seen (Some end) after rest pair later holds =
      let got = our_contents true (new_contents after) rest pair holds in
      let last = behind_contents protocol side true (new_contents after) pair in (
        each-append P _ (unanswered_findings protocol side end last)
            (each-append P (contents_findings protocol side true (new_contents after) pair) _ got.0 (keeps.our_fault after last later)) (keeps.we_left end last),
        keeps.we_ended rest last got.1,
      )

  their_seen : (end : Option HowEnded) (after : Stream) (rest : List (ℕ × Frame)) (pair : Pair) → Holds rest (swap pair)
      → Each P (seen_findings protocol (other side) end after pair) × Holds rest (swap (behind_seen protocol (other side) end after pair))
  their_seen None after rest pair holds =
      let got = their_contents false (new_contents after) rest pair holds in (
        each-append P (contents_findings protocol (other side) false (new_contents after) pair) _ got.0 (keeps.their_fault after (behind_contents protocol (other side) false (new_contents after) pair)),
        keeps.their_end after rest (swap (behind_contents protocol (other side) false (new_contents after) pair)) got.1,
      )
  their_seen (Some end) after rest pair holds =
      let got = their_contents true (new_contents after) rest pair holds in
      let last = behind_contents protocol (other side) true (new_contents after) pair in (
        each-append P _ (unanswered_findings protocol (other side) end last)
            (each-append P (contents_findings protocol (other side) true (new_contents after) pair) _ got.0 (keeps.their_fault after last)) (keeps.they_left end last),
        keeps.they_ended rest (swap last) got.1,
      )

  -- the contents of ours that are still to come
  abbrev to_come : Stream → List (ℕ × Frame)
  to_come s = drop s.taken (placed_contents final)

  our_event : (end : Option HowEnded) (before after : Stream) (pair : Pair) → after.taken ≡ before.taken → (is_some before.ended ≡ false → IsSteady after) → Later (event_stream before after) final → Holds (to_come before) pair
      → Each P (event_findings protocol side end before after pair) × Holds (to_come (event_stream before after)) (event_pair protocol side end before after pair)
  our_event end before after pair taken steady later holds = from (is_some before.ended) refl later
    where
      from : (b : Bool) → is_some before.ended ≡ b → Later (if b then before else all_taken after) final
          → Each P (if b then [] else seen_findings protocol side end after pair) × Holds (to_come (if b then before else all_taken after)) (if b then pair else behind_seen protocol side end after pair)
      from true is l = (tt, holds)
      from false is l =
          let more = retaken after final l in
          let g = grown grow after final more in
          let few = steady is in
          let split : to_come before ≡ new_contents after ++ g.later = ap (λ k. drop k (placed_contents final)) (sym taken) ∙ ap (drop after.taken) g.is ∙ dropped_front after.taken (placed_contents after) g.later few in
          let rest : to_come (all_taken after) ≡ g.later =
          ap (λ k. drop k (placed_contents final)) (all_taken_steady after few) ∙ ap (drop (length (placed_contents after))) g.is ∙ dropped_all (placed_contents after) g.later in
          let got = our_seen end after g.later pair more (subst (λ xs. Holds xs pair) split holds) in
          (got.0, subst (λ xs. Holds xs (behind_seen protocol side end after pair)) (sym rest) got.1)

  their_event : (end : Option HowEnded) (before after : Stream) (rest : List (ℕ × Frame)) (pair : Pair) → Holds rest (swap pair)
      → Each P (event_findings protocol (other side) end before after pair) × Holds rest (swap (event_pair protocol (other side) end before after pair))
  their_event end before after rest pair holds = from (is_some before.ended)
    where
      from : (b : Bool) → Each P (if b then [] else seen_findings protocol (other side) end after pair) × Holds rest (swap (if b then pair else behind_seen protocol (other side) end after pair))
      from true = (tt, holds)
      from false = their_seen end after rest pair holds

  -- ---- all of it

  abbrev Stands : State → Type 0
  Stands state = Holds (to_come (stream_of side state)) (pair_of side state)

  -- anything of either side
  event : (end : Option HowEnded) (another : Side) → IsSide side another → (state : State) (after : Stream) → after.taken ≡ (stream_of another state).taken
      → (is_some (stream_of another state).ended ≡ false → another ≡ side → IsSteady after) → Stands state
      → Later (stream_of side (state_with another (event_stream (stream_of another state) after) (event_pair protocol another end (stream_of another state) after (pair_of another state)) state)) final
      → Each P (event_findings protocol another end (stream_of another state) after (pair_of another state))
      × Stands (state_with another (event_stream (stream_of another state) after) (event_pair protocol another end (stream_of another state) after (pair_of another state)) state)
  event end _ own state after taken steady stands later =
      let before = stream_of side state in
      let pair = pair_of side state in
      let s = event_stream before after in
      let p = event_pair protocol side end before after pair in
      let got = our_event end before after pair taken (λ is. steady is refl) (subst (λ t. Later t final) (own_stream side s p state) later) stands in
      (got.0, subst (λ q. Holds (to_come (stream_of side (state_with side s p state))) q) (sym (own_pair side s p state)) (subst (λ t. Holds (to_come t) p) (sym (own_stream side s p state)) got.1))
  event end _ others state after taken steady stands later =
      let before = stream_of (other side) state in
      let pair = pair_of (other side) state in
      let s = event_stream before after in
      let p = event_pair protocol (other side) end before after pair in
      let rest = to_come (stream_of side state) in
      let mine : Holds rest (swap pair) = subst (λ q. Holds rest (swap q)) (sym (pair_of_other side state)) stands in
      let got = their_event end before after rest pair mine in
      (got.0, subst (λ q. Holds (to_come (stream_of side (state_with (other side) s p state))) q) (sym (other_pair side s p state)) (subst (λ t. Holds (to_come t) (swap p)) (sym (other_stream side s p state)) got.1))

  -- ---- no more were judged than there are

  fed_steady : (another : Side) (bytes : List ℕ) (state : State) → IsSteady (stream_of side state) → is_some (stream_of another state).ended ≡ false → another ≡ side → IsSteady (fed bytes (stream_of another state))
  fed_steady another bytes state steady unended is =
      let s = stream_of another state in
      steady_later grow s (all_taken (fed bytes s)) (fed_later bytes s (all_taken (fed bytes s)) unended (same (all_taken (fed bytes s)))) (subst (λ a. IsSteady (stream_of a state)) (sym is) steady)

  ended_steady : (another : Side) (end : HowEnded) (state : State) → IsSteady (stream_of side state) → is_some (stream_of another state).ended ≡ false → another ≡ side → IsSteady (ended_stream end (stream_of another state))
  ended_steady another end state steady unended is =
      let s = stream_of another state in
      steady_later grow s (all_taken (ended_stream end s)) (ended_later end s (all_taken (ended_stream end s)) unended (same (all_taken (ended_stream end s)))) (subst (λ a. IsSteady (stream_of a state)) (sym is) steady)

  taken_steady : (s : Stream) → IsSteady s → IsSteady (all_taken s)
  taken_steady s steady = let le : s.taken ≤ length (placed_contents s) = steady in omega (arith, le)

  event_steady : (another : Side) → IsSide side another → (state : State) (after : Stream) (p : Pair) → IsSteady (stream_of side state) → (is_some (stream_of another state).ended ≡ false → another ≡ side → IsSteady after)
      → IsSteady (stream_of side (state_with another (event_stream (stream_of another state) after) p state))
  event_steady _ own state after p steady given = subst IsSteady (sym (own_stream side (event_stream (stream_of side state) after) p state)) (from (is_some (stream_of side state).ended) refl)
    where
      from : (b : Bool) → is_some (stream_of side state).ended ≡ b → IsSteady (if b then stream_of side state else all_taken after)
      from true is = steady
      from false is = taken_steady after (given is refl)
  event_steady _ others state after p steady given = subst IsSteady (sym (other_stream side (event_stream (stream_of (other side) state) after) p state)) steady

  -- ---- all that was seen

  step_each : (one : Seen) (state : State) → IsSteady (stream_of side state) → Stands state → Later (stream_of side (step protocol one state)) final
      → Each P (step_findings protocol one state) × Stands (step protocol one state) × IsSteady (stream_of side (step protocol one state))
  step_each (Wrote another bytes) state steady stands later =
      let after = fed bytes (stream_of another state) in
      let got = event None another (which side another) state after refl (fed_steady another bytes state steady) stands later in
      (got.0, got.1, event_steady another (which side another) state after (event_pair protocol another None (stream_of another state) after (pair_of another state)) steady (fed_steady another bytes state steady))
  step_each (Closed another) state steady stands later =
      let after = ended_stream how.Closed (stream_of another state) in
      let got = event (Some how.Closed) another (which side another) state after refl (ended_steady another how.Closed state steady) stands later in
      (got.0, got.1, event_steady another (which side another) state after (event_pair protocol another (Some how.Closed) (stream_of another state) after (pair_of another state)) steady (ended_steady another how.Closed state steady))
  step_each (Failed another) state steady stands later =
      let after = ended_stream how.ReadFailed (stream_of another state) in
      let got = event (Some how.ReadFailed) another (which side another) state after refl (ended_steady another how.ReadFailed state steady) stands later in
      (got.0, got.1, event_steady another (which side another) state after (event_pair protocol another (Some how.ReadFailed) (stream_of another state) after (pair_of another state)) steady (ended_steady another how.ReadFailed state steady))

  pub from_each : (seen : List Seen) (state : State) → IsSteady (stream_of side state) → Stands state → stream_of side (state_from protocol state seen) ≡ final → Each P (findings_from protocol state seen)
  from_each [] state steady stands is = tt
  from_each (one ∷ seen) state steady stands is =
      let next = step protocol one state in
      let got = step_each one state steady stands (subst (Later (stream_of side next)) is (all_later protocol side seen next)) in
      each-append P (step_findings protocol one state) _ got.0 (from_each seen next got.2 got.1 is)

start_steady : (side : Side) (framing : Framing) (limits : Limits) → IsSteady (stream_of side (new_state framing limits))
start_steady Client framing limits = omega arith
start_steady Server framing limits = omega arith

start_untaken : (side : Side) (framing : Framing) (limits : Limits) (contents : List (ℕ × Frame)) → drop (stream_of side (new_state framing limits)).taken contents ≡ contents
start_untaken Client framing limits contents = refl
start_untaken Server framing limits contents = refl

-- What holds of the contents that are to come when nothing was seen yet, and is kept, says what is found.
pub all_each : Grow → (protocol : Protocol) (side : Side) (P : Finding → Type 0) (Holds : List (ℕ × Frame) → Pair → Type 0) (framing : Framing) (limits : Limits) (seen : List Seen)
    → Keeps protocol side P Holds (stream_of side (state_of protocol framing limits seen)) → Holds (placed_contents (stream_of side (state_of protocol framing limits seen))) (pair_of side (new_state framing limits))
    → Each P (findings_of protocol framing limits seen)
all_each grow protocol side P Holds framing limits seen keeps holds =
    let final = stream_of side (state_of protocol framing limits seen) in
    let start = new_state framing limits in
    from_each grow protocol side P Holds final keeps seen start (start_steady side framing limits)
    (subst (λ xs. Holds xs (pair_of side start)) (sym (start_untaken side framing limits (placed_contents final))) holds) refl
