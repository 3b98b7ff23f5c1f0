use Rattle.stream_session.proofs.OfFrames.{served-in-frames, part-in-frames}
use Rattle.rpc_peer.proofs.law.served_in_frames_is_served.Goals as goal

pub returns : goal.returns
returns g c = record {
  whole = λ table limits source before after report served. served-in-frames table limits (g.S.Source.gave source) before after report served;
  part = λ table limits source before after served. part-in-frames table limits (g.S.Source.gave source) before after served;
}
