-- Where there is no memory for a player, nothing was written.
use Rattle.std.proofs.Common.{◌∙◌, ap, inl, sym, subst, IfErr}
use Rattle.std.proofs.lemmas.Result.{err_from_is_err_and}
use Rattle.peer_session.specs.declared.drain_fault.DrainFault.{DrainFault}
use Rattle.lsp_frames.specs.Devices.{Unfinished}
use Rattle.stream_framing.specs.declared.framing.Framing.TheVariants.{Frames}
use Rattle.stream_session.specs.Promise.{IsRunCutShort}
use Rattle.peer_session.specs.HandedOn.{HandsOnUntil}
use Rattle.peer_player.proofs.Pieces.{bytes_in}
use Rattle.peer_player.proofs.whole.play_to.Goals as goal

pub returns-in_err-player-clause-err : goal.returns-in_err-player-clause-err
returns-in_err-player-clause-err g c =
    let refused = err_from_is_err_and c.from_residual.result c.from_residual.ensures.1 in
    subst (λ r. IfErr r (λ stopped. IsRunCutShort c.args.table.now c.args.limits (bytes_in c.args.pieces.now) (g.S.Sink.bytes_taken c.args.sink) (g.S.Sink.bytes_taken stopped.1)))
    (sym refused.1)
    (subst (λ sink. IsRunCutShort c.args.table.now c.args.limits (bytes_in c.args.pieces.now) (g.S.Sink.bytes_taken c.args.sink) (g.S.Sink.bytes_taken sink))
    (sym (ap (λ (fault : DrainFault × g.row.S.Denot). fault.1) refused.2 ∙ c.in_err-player.ensures.err.1))
    (c.runs_in_frames_are_runs.ensures.cut_short c.args.table.now c.args.limits (bytes_in c.args.pieces.now) Unfinished (g.S.Sink.bytes_taken c.args.sink) (g.S.Sink.bytes_taken c.args.sink)
    (c.what_a_stream_wrote.ensures.nothing Frames c.args.table.now c.args.limits (bytes_in c.args.pieces.now) (g.S.Sink.bytes_taken c.args.sink))))

pub returns-in_err-player-clause-flushed_until : goal.returns-in_err-player-clause-flushed_until
returns-in_err-player-clause-flushed_until g c =
    let refused = err_from_is_err_and c.from_residual.result c.from_residual.ensures.1 in
    subst (λ r. IfErr r (λ stopped. HandsOnUntil g.S.Sink.handed_on g.S.Sink.bytes_taken c.args.sink stopped.0 stopped.1)) (sym refused.1)
    (subst (λ fault. HandsOnUntil g.S.Sink.handed_on g.S.Sink.bytes_taken c.args.sink fault refused.0.1)
    (sym (ap (λ (fault : DrainFault × g.row.S.Denot). fault.0) refused.2 ∙ c.in_err-player.ensures.err.0))
    (inl (ap (λ (fault : DrainFault × g.row.S.Denot). fault.1) refused.2 ∙ c.in_err-player.ensures.err.1)))
