-- A job and its gate may go to another thread.
use denote.Param.Send.{IsSend, param_send}
use denote.Param.{param}
use Rattle.rpc_peer.proofs.Crossing.{gated_send}
use Rattle.rpc_peer.proofs.threads.fn.run_threads.scope.Lts as lts
use Rattle.rpc_peer.proofs.threads.fn.run_threads.scope.Goals as goal

pub hire-requires-send-J : goal.hire-requires-send-J
hire-requires-send-J g c κs bounds =
    let J =
    lts.arg-0-1 g.row.S g.row.G g.row.K g.row.H g.row.R g.S.laws g.G.laws g.K.laws g.H.laws g.R.laws g.S.Source g.S.Source-dict g.G.Gate g.G.Gate-dict g.K.Sink
    g.K.Sink-dict g.H.EndHook g.H.EndHook-dict g.R.Threads g.R.Threads-dict g.R.Wait g.R.Wait-dict g.S.Destruct-dict g.G.Destruct-dict g.K.Destruct-dict κs in
    let sends = c.requires-raw.1.1.1.1.1.1.0 in
    let syncs = c.requires-raw.1.1.1.1.1.1.1.0 in
    let plain = gated_send (param 1 g.row.G) sends syncs in
    let gated : IsSend J = search plain in
    param_send 1 J gated
