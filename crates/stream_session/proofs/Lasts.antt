-- What is taken of a stream: the content in front; and where none waits, what closes the input.
use Rattle.std.proofs.Common.{◌≡◌, ℕ, ◌≤◌, arith, List, [], ◌∷◌, ◌++◌, length, Option, Some, None, refl, sym, ap, subst, ◌∙◌}
use Rattle.std.specs.Prelude.{option_to_list, slice_index_or}
use Rattle.lsp_frames.specs.declared.frame.Frame.{Frame}
use Rattle.handler_future.specs.State.{HandlerState}
use Rattle.peer_session.specs.Events.{ended, ended_at}
use Rattle.peer_session.specs.SessionState.{SessionState}
use Rattle.peer_session.specs.declared.report.Close.{Close}
use Rattle.stream_session.specs.Inner.Known.{Known}
use Rattle.stream_session.specs.Stream.{Fed, StreamState, StreamStands, TakesNext}
use Rattle.stream_session.specs.declared.next.Next.TheVariants.{Nothing}
use Rattle.stream_session.proofs.Streams.{end-taken}
use Rattle.stream_session.proofs.Units.{ended-same}

-- ---- the content in front

pub first-waits : (items rest : List Frame) (frame : Frame) (popped : Option Frame) → items ≡ option_to_list popped ++ rest
    → popped ≡ Some (slice_index_or items 0 frame) → frame ≡ slice_index_or items 0 frame → items ≡ frame ∷ rest
first-waits items rest frame popped items_are popped_is is = items_are ∙ ap (λ o. option_to_list o ++ rest) (popped_is ∙ ap Some (sym is))

pub none-waits : (items : List Frame) → length items ≤ 0 → items ≡ []
none-waits [] few = refl
none-waits (frame ∷ items) few = absurd (omega (arith, few))

-- ---- the end behind them

-- what is taken where this closes the input
abbrev pub TakesLast : Option Close → SessionState → SessionState → Type 0
TakesLast last s after = (last ≡ None → after ≡ s) × ((c : Close) → last ≡ Some c → after ≡ ended s c)

pub broken-last : (last : Option Close) (s after : SessionState) → TakesLast last s after → after.is_broken ≡ s.is_broken
broken-last None s after takes = ap (λ (x : SessionState). x.is_broken) (takes.0 refl)
broken-last (Some c) s after takes = ended-same s after c (takes.1 c refl)

module _ (s : StreamState) (is_open : s.session.close ≡ None) (none : s.waiting ≡ []) (after : SessionState) (takes : TakesLast s.last s.session after) where
  abbrev now : StreamState
  now = record { cutter = s.cutter; waiting = s.waiting; last = s.last; session = after }

  taken-by : (last : Option Close) → s.last ≡ last → TakesNext s Nothing now
  taken-by None is = record { none_waits = none; is_closed = λ some. absurd (some is) }
  taken-by (Some c) is =
      let closed : after.close ≡ Some c = ap (λ (x : SessionState). x.close) (takes.1 c is ∙ ap (ended_at s.session c) is_open) in
      record { none_waits = none; is_closed = λ some open_still. absurd (let clash : Some c ≡ None = sym closed ∙ open_still in cc) }

  pub last-taken : TakesNext s Nothing now
  last-taken = taken-by s.last refl

  stands-by : (last : Option Close) → s.last ≡ last → (laws : Known) (fed : Fed) (jobs : ℕ → Option HandlerState) (sink : Option (List ℕ)) → StreamStands fed jobs s sink
      → StreamStands fed jobs now sink
  stands-by None is laws fed jobs sink had =
      subst (λ x. StreamStands fed jobs (record { cutter = s.cutter; waiting = s.waiting; last = s.last; session = x }) sink) (sym (takes.0 is)) had
  stands-by (Some c) is laws fed jobs sink had =
      subst (λ x. StreamStands fed jobs (record { cutter = s.cutter; waiting = s.waiting; last = s.last; session = x }) sink) (sym (takes.1 c is))
      (end-taken laws fed jobs s sink had is_open none c is)

  pub last-stands : (laws : Known) (fed : Fed) (jobs : ℕ → Option HandlerState) (sink : Option (List ℕ)) → StreamStands fed jobs s sink → StreamStands fed jobs now sink
  last-stands = stands-by s.last refl
