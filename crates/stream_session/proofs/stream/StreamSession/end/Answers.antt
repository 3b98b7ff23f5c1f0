-- An end is known already; or the last line is ended, and then the input.
use Rattle.std.proofs.Common.{sym, subst}
use Rattle.stream_framing.proofs.Laws.{text_failed}
use Rattle.stream_session.specs.Stream.{StreamStands, stream_of, with_end, with_ending, with_line_ended}
use Rattle.stream_session.specs.declared.next.InputEnd.{InputEnd}
use Rattle.stream_session.specs.declared.next.InputEnd.TheVariants.{Failed}
use Rattle.stream_session.specs.declared.stream.StreamSession.{StreamSession}
use Rattle.stream_session.proofs.Streams.{end-again, was-some}
use Rattle.stream_session.proofs.stream.StreamSession.end.Goals.{in-Finished+in_ok-end_line-in-Finished, in-Failed}
use Rattle.stream_session.proofs.stream.StreamSession.end.Goals as goal

pub returns-then-is_some-clause-ended : goal.returns-then-is_some-clause-ended
returns-then-is_some-clause-ended c = λ fed jobs sink had goes_on.
    let s = stream_of c.args.self.now in
    end-again c.known.ensures fed jobs s sink had goes_on c.args.end (was-some s.last c.is_some.result c.is_some.ensures c.if-is_some.true)

pub returns-clause-ended : goal.returns-clause-ended
returns-clause-ended c = λ fed jobs sink had goes_on.
    let after = stream_of c.close.new.self in
    elim c.match-end.branch [
      | in-Finished+in_ok-end_line-in-Finished w ↦
          let ended = subst (λ (s : StreamSession). StreamStands (with_line_ended fed) jobs (stream_of s) sink) (sym w.self-is) (w.in_ok-end_line-in-Finished.ensures.ended fed jobs sink had goes_on) in
          subst (λ (e : InputEnd). StreamStands (with_end fed e) jobs after sink) (sym w.in-Finished.is)
          (subst (λ (e : InputEnd). StreamStands (with_ending (with_line_ended fed) e) jobs after sink) w.in-Finished.is (c.close.ensures.ended (with_line_ended fed) jobs sink ended goes_on))
      | in-Failed w ↦
          let same = subst (λ (s : StreamSession). StreamStands fed jobs (stream_of s) sink) (sym w.self-is) had in
          subst (λ (e : InputEnd). StreamStands (with_end fed e) jobs after sink) (sym w.in-Failed.is)
          (subst (λ bytes. StreamStands (with_ending (record fed { bytes = bytes }) Failed) jobs after sink) (sym (text_failed fed.framing fed.bytes))
          (subst (λ (e : InputEnd). StreamStands (with_ending fed e) jobs after sink) w.in-Failed.is (c.close.ensures.ended fed jobs sink same goes_on)))
    ]
