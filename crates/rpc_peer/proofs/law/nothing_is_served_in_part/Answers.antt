use Rattle.std.proofs.Common.{[]}
use Rattle.lsp_frames.specs.Devices.{Unfinished}
use Rattle.stream_framing.specs.Framed.{read_text}
use Rattle.rpc_peer.proofs.law.nothing_is_served_in_part.Goals as goal

pub returns : goal.returns
returns g c = λ framing table limits source before. record {
  input = [];
  ending = Unfinished;
  given = g.met.S.Source.nothing_at_first source;
  part = c.what_a_stream_wrote.ensures.nothing framing table limits (read_text framing Unfinished []) before;
}
