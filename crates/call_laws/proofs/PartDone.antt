-- A host that does its part is done.
use Rattle.std.proofs.Common.{◌≡◌, ◌≢◌, ℕ, zero, suc, ◌+◌, ◌<◌, ◌&&◌, List, [], ◌∷◌, ◌++◌, true, false, Option, Some, None, refl, sym, ap, ◌∙◌, append-nil, arith}
use Rattle.std.specs.Prelude.{slice_get, is_some}
use Rattle.std.specs.Option.{is_none}
use Rattle.connection.specs.Connections.{Connection, StandsAfter, IsStill, over, waits, IsDone}
use Rattle.connection_history.specs.Events.{events_of}
use Rattle.connection_history.specs.History.{History, stream, answer_to, is_open, is_over}
use Rattle.connection_history.specs.Stream.{calls_in, call_numbered}
use Rattle.connection_history.specs.Told.{IsTold, calls_told, numbered}
use Rattle.connection_history.specs.declared.event.Event.{Event}
use Rattle.connection_messages.specs.declared.answer.Answer.{Answer}
use Rattle.connection_messages.specs.declared.call.Call.{Call}
use Rattle.content_streams.specs.Streams.{end_at, fault_of, closed_end}
use Rattle.content_streams.specs.declared.ending.HowEnded.{HowEnded}
use Rattle.content_streams.specs.declared.ending.HowEnded.TheVariants.{Closed, ReadFailed}
use Rattle.content_streams.specs.declared.ending.StreamEnd.{StreamEnd}
use Rattle.lsp_frames.specs.declared.frame.FrameFault.{FrameFault}
use Rattle.call_laws.specs.Parts.{HasDoneItsPart}
use Rattle.call_laws.proofs.Histories.{answered_closed}

-- where the host has said how the input ended, the stream has ended
not_ended : (fault : Option FrameFault) (ended : Option HowEnded) (closed : StreamEnd) → end_at fault ended closed ≡ None → ended ≡ None
not_ended (Some fault) ended closed h = absurd (cc)
not_ended None None closed h = refl
not_ended None (Some ReadFailed) closed h = absurd (cc)
not_ended None (Some Closed) closed h = absurd (cc)

-- all is told, and the input is over
still_over : (c : Connection) (history : History) (told : List Event) → c.stream.ended ≢ None → IsStill c history told → (events_of history ≡ told) × (is_over history ≡ true)
still_over c history told closed (over all is_it) = (all, is_it)
still_over c history told closed (waits all next end) =
    absurd (closed (not_ended (fault_of c.stream.framing c.stream.limit c.stream.pieces) c.stream.ended (closed_end c.stream.framing c.stream.limit c.stream.pieces) end))

numbered_at : (n i number : ℕ) (cs : List Call) (call : Call) → slice_get cs i ≡ Some call → number ≡ n + i → (front : List (ℕ × Call)) × (rest : List (ℕ × Call)) × (numbered n cs ≡ front ++ (number, call) ∷ rest)
numbered_at n i number [] call at is = absurd (cc)
numbered_at n zero number (c ∷ cs) call at is =
    let same : c ≡ call = cc in
    let here : n ≡ number = omega (arith, is) in
    ([], numbered (n + 1) cs, (λ j. (here j, same j) ∷ numbered (n + 1) cs))
numbered_at n (suc i) number (c ∷ cs) call at is =
    let rest = numbered_at (n + 1) i number cs call at (omega (arith, is)) in
    ((n, c) ∷ rest.0, rest.1, ap (λ l. (n, c) ∷ l) rest.2)

abbrev Closes : History → List Event → Type 0
Closes history told = (number : ℕ) (call : Call) → IsTold history told number call → answer_to number history ≢ None

module _ (told_once : (history : History) → calls_told (events_of history) ≡ numbered 1 (calls_in (stream history))) where
  is_told : (history : History) (told : List Event) (n : ℕ) (call : Call) → events_of history ≡ told → call_numbered (suc n) (stream history) ≡ Some call → IsTold history told (suc n) call
  is_told history told n call all at =
      let split = numbered_at 1 n (suc n) (calls_in (stream history)) call at (omega arith) in
      record { untold = []; events = all ∙ sym (append-nil told); front = split.0; rest = split.1; calls = ap calls_told (sym all) ∙ told_once history ∙ split.2 }

  closed : (history : History) (told : List Event) (n : ℕ) → events_of history ≡ told → Closes history told → is_open (suc n) history ≡ false
  closed history told n all closes = from (call_numbered (suc n) (stream history)) refl
    where
      by : (o : Option (Option Answer)) → answer_to (suc n) history ≡ o → answer_to (suc n) history ≢ None → is_open (suc n) history ≡ false
      by None is some = absurd (some is)
      by (Some a) is some = answered_closed n history a is

      from : (o : Option Call) → call_numbered (suc n) (stream history) ≡ o → is_open (suc n) history ≡ false
      from None is = ap (λ o. is_some o && is_none (answer_to (suc n) history)) is
      from (Some call) is = by (answer_to (suc n) history) refl (closes (suc n) call (is_told history told n call all is))

  each_closed : (history : History) (told : List Event) (number : ℕ) → 0 < number → events_of history ≡ told → Closes history told → is_open number history ≡ false
  each_closed history told zero some all closes = absurd (omega arith)
  each_closed history told (suc n) some all closes = closed history told n all closes

  pub done : (c : Connection) (history : History) (told : List Event) → StandsAfter c history told → HasDoneItsPart c history told → IsDone c history told
  done c history told stands part =
      let it = still_over c history told part.ended part.asked in
      record { over = it.1; all_told = it.0; answered = λ number some. each_closed history told number some it.0 part.closed; taken = part.taken }
