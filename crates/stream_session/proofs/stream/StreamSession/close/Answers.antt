-- The end is what its decoder tells, or a failed read; or one is known.
use Rattle.std.proofs.Common.{false, Some, sym, ap, ◌∙◌}
use Rattle.stream_session.specs.Promise.{close_of}
use Rattle.stream_session.specs.Stream.{ending_by, stream_of}
use Rattle.stream_session.specs.declared.next.InputEnd.{InputEnd}
use Rattle.stream_session.proofs.Streams.{cutter-contents, end-read, end-told, was-none}
use Rattle.stream_session.proofs.stream.StreamSession.close.Goals.{in-Finished, in-Failed}
use Rattle.stream_session.proofs.stream.StreamSession.close.Goals as goal

pub returns-clause-ended : goal.returns-clause-ended
returns-clause-ended c = λ fed jobs sink had goes_on.
    let s = stream_of c.args.self.now in
    let none = was-none s.last c.is_some.result c.is_some.ensures c.if-is_some.false in
    end-told c.known.ensures fed jobs s sink had goes_on c.args.end (Some c.match-end.self) (λ is_open. elim c.match-end.branch [
      | in-Finished w ↦
          ap Some w.self-is
          ∙ sym (ap (λ (e : InputEnd). close_of false had.standing (ending_by e)) w.in-Finished.is
          ∙ w.close_at.ensures fed.bytes had.frames had.standing
          (cutter-contents c.known.ensures fed jobs s sink had is_open) (had.while_open is_open).knows)
      | in-Failed w ↦
          ap Some w.self-is
          ∙ sym (ap (λ (e : InputEnd). close_of false had.standing (ending_by e)) w.in-Failed.is ∙ end-read c.known.ensures fed jobs s sink had none is_open)
    ])
