-- The clerk's run is the crew's.
use Rattle.std.proofs.Common.{◌≡◌, ◌∙◌}
use Rattle.std.proofs.lemmas.Result.{IfOk-weaker, IfErr-weaker}
use Rattle.rpc_peer.specs.Clerk.{clerk_framing, clerk_table, clerk_limits}
use Rattle.rpc_peer.specs.Inner.Threads.{HasServed}
use Rattle.rpc_peer.proofs.Served.{served-for, pair-kept}
use Rattle.rpc_peer.proofs.server.run_crew.Goals as goal

pub returns-clause-served : goal.returns-clause-served
returns-clause-served g c =
    let handed = g.K.Sink.handed_on in
    let taken = g.K.Sink.bytes_taken in
    let failures = g.K.Sink.failures in
    let clerk = c.in-Ok-new.clerk in
    IfOk-weaker c.run_threads.result (λ done. HasServed handed taken failures (clerk_framing clerk) (clerk_table clerk) (clerk_limits clerk) clerk.sink done.0)
    (λ done. HasServed handed taken failures c.args.framing c.args.table.now c.args.limits c.args.sink done.0)
    (λ done. served-for handed taken failures (clerk_framing clerk) c.args.framing (clerk_table clerk) c.args.table.now (clerk_limits clerk) c.args.limits clerk.sink c.args.sink done.0
    c.in-Ok-new.ensures.framing c.in-Ok-new.ensures.table c.in-Ok-new.ensures.limits c.in-Ok-new.ensures.sink)
    c.run_threads.ensures.served

pub returns-clause-pair : goal.returns-clause-pair
returns-clause-pair g c =
    pair-kept c.in-Ok.producer c.in-Ok.consumer c.in-Ok-new.clerk.ring c.run_threads.result c.in-Ok.ensures.pair c.in-Ok-new.ensures.ring
    c.run_threads.ensures.consumer c.run_threads.ensures.producer

pub returns-clause-refused : goal.returns-clause-refused
returns-clause-refused g c =
    IfErr-weaker c.run_threads.result (λ back. back ≡ c.in-Ok-new.clerk.sink) (λ back. back ≡ c.args.sink)
    (λ back same. same ∙ c.in-Ok-new.ensures.sink) c.run_threads.ensures.refused
