-- What a session shows of itself.
use Rattle.peer_session.specs.declared.session.Session.{Session}
use Rattle.peer_session.specs.SessionState.{SessionState}

unfoldable pub view : Session → SessionState
view session = record {
  table = session.table.now;
  limits = session.limits;
  core = session.runs;
  close = session.close;
  messages = session.written.messages;
  call_frames = session.written.call_frames;
  answers = session.written.answers;
  polls = session.polls;
  is_broken = session.is_broken;
  has_failed = session.has_failed;
}
