-- A session that was fed nothing has the framing, the table and the limits that it was given.
use Rattle.std.proofs.Common.{sym, subst, None}
use Rattle.method_steps.specs.Steps.{MethodTable}
use Rattle.peer_session.specs.declared.limits.Limits.{Limits}
use Rattle.stream_framing.specs.declared.framing.Framing.{Framing}
use Rattle.stream_session.specs.Stream.{StreamStands, fed_nothing, stream_of}
use Rattle.rpc_peer.proofs.clerk.Clerk.new.Goals as goal

pub returns-in-Ok-new-clause-new : goal.returns-in-Ok-new-clause-new
returns-in-Ok-new-clause-new g c =
    let stands = c.in-Ok-new.ensures.stands None in
    let s = stream_of c.in-Ok-new.stream in
    record {
      session = λ before.
          subst (λ (f : Framing). StreamStands (fed_nothing f s.session.table s.session.limits before) (λ n. None) s before) (sym stands.framing)
          (subst (λ (t : MethodTable). StreamStands (fed_nothing c.args.framing t s.session.limits before) (λ n. None) s before) (sym stands.session.table_is)
          (subst (λ (l : Limits). StreamStands (fed_nothing c.args.framing c.args.table.now l before) (λ n. None) s before) (sym stands.session.limits_are)
          (c.in-Ok-new.ensures.stands before)));
      empty = c.requires.empty;
      free = c.requires.free;
    }

pub returns-in-Ok-new-clause-framing : goal.returns-in-Ok-new-clause-framing
returns-in-Ok-new-clause-framing g c = (c.in-Ok-new.ensures.stands None).framing

pub returns-in-Ok-new-clause-table : goal.returns-in-Ok-new-clause-table
returns-in-Ok-new-clause-table g c = (c.in-Ok-new.ensures.stands None).session.table_is

pub returns-in-Ok-new-clause-limits : goal.returns-in-Ok-new-clause-limits
returns-in-Ok-new-clause-limits g c = (c.in-Ok-new.ensures.stands None).session.limits_are
