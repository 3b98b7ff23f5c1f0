use Rattle.std.proofs.Common.{refl}
use Rattle.peer_session.specs.Session.{view}
use Rattle.peer_session.proofs.session.Session.forget_output.Goals as goal

pub returns-then-capacity-gt-KEPT_ROOM : goal.returns-then-capacity-gt-KEPT_ROOM
unfolding view
returns-then-capacity-gt-KEPT_ROOM c = refl

pub returns-else-capacity-gt-KEPT_ROOM : goal.returns-else-capacity-gt-KEPT_ROOM
unfolding view
returns-else-capacity-gt-KEPT_ROOM c = refl
