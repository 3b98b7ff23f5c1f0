-- A turn is one more event of the session; nothing is written.
use Rattle.std.proofs.Common.{ℕ, ◌<◌, Some, None, sym, ap, ◌∙◌, subst}
use Rattle.peer_events.specs.Turns.{all_turns_left}
use Rattle.peer_session.specs.Events.{LeavesAt, with_job_back}
use Rattle.peer_session.specs.SessionState.{SessionState}
use Rattle.stream_session.specs.Stream.{StreamState, stream_of}
use Rattle.peer_player.specs.Schedule.{place_of}
use Rattle.peer_player.proofs.Steps.{home, leaves-close, leaves-same, one-turn, out-now, turn-fewer}
use Rattle.peer_player.proofs.playing.Playing.turn_next.Goals as goal

pub returns-clause-turned : goal.returns-clause-turned
returns-clause-turned g c = λ fed had.
    let job = c.in-Some.job in
    let sink = g.S.Sink.bytes_taken c.args.self.now.sink in
    let gone = c.in-Some.ensures.out fed (λ n. None) sink had in
    c.what_a_stream_wrote.ensures.jobs fed _ (λ n. None) (stream_of c.back.new.self) sink
    (c.back.ensures.back fed _ sink job.handler.number job gone.1 (out-now job.handler.number job.handler) c.in-Some.ensures.unturned.1 c.turn.ensures)
    (home job.handler.number job.handler)

pub returns-clause-input : goal.returns-clause-input
returns-clause-input g c = record {
  waiting = ap (λ (x : StreamState). x.waiting) c.back.ensures.stays ∙ ap (λ (x : StreamState). x.waiting) c.in-Some.ensures.stays;
  last = ap (λ (x : StreamState). x.last) c.back.ensures.stays ∙ ap (λ (x : StreamState). x.last) c.in-Some.ensures.stays;
  close = ap (λ (x : SessionState). x.close) c.back.ensures.session
      ∙ leaves-close (stream_of c.args.self.now.stream).session (stream_of c.next_job.new.self).session c.place-pick.result c.in-Some.job.handler c.in-Some.ensures.leaves;
}

pub returns-clause-fewer : goal.returns-clause-fewer
returns-clause-fewer g c = λ is.
    let s = (stream_of c.args.self.now.stream).session in
    subst (λ (x : SessionState). all_turns_left x.core.stages < all_turns_left s.core.stages) (sym c.back.ensures.session)
    (turn-fewer c.turned_handlers_have_fewer_turns_left.ensures.turned s (stream_of c.next_job.new.self).session c.place-pick.result
    c.in-Some.job.handler c.turn.new.self.handler c.turn.new.self.outcome c.turn.new.self.polls
    c.in-Some.ensures.leaves c.turn.ensures.poll c.in-Some.ensures.number)

pub returns-clause-same : goal.returns-clause-same
returns-clause-same g c =
    ap (λ (x : SessionState). x.is_broken) c.back.ensures.session
    ∙ leaves-same (stream_of c.args.self.now.stream).session (stream_of c.next_job.new.self).session c.place-pick.result c.in-Some.job.handler c.in-Some.ensures.leaves

pub returns-clause-picked : goal.returns-clause-picked
returns-clause-picked g c = λ is.
    let s = (stream_of c.args.self.now.stream).session in
    let between = (stream_of c.next_job.new.self).session in
    record {
      job = c.in-Some.job.handler;
      between = between;
      leaves = subst (λ (pick : ℕ). LeavesAt s pick (Some c.in-Some.job.handler) between)
          (c.place-pick.ensures ∙ ap (place_of c.args.self.now.schedule.now.picks c.args.self.now.turned) c.count_ready-ready.ensures)
          c.in-Some.ensures.leaves;
      polled = c.turn.new.self.handler;
      outcome = c.turn.new.self.outcome;
      poll = c.turn.ensures.poll;
      after_is = c.back.ensures.session ∙ ap (with_job_back between c.turn.new.self.handler c.turn.new.self.outcome)
          (one-turn c.in-Some.job.polls c.turn.new.self.polls c.in-Some.ensures.unturned.1 c.turn.ensures.polls);
    }
