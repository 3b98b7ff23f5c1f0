use Rattle.std.proofs.Common.{◌≡◌, ap, sym, ◌∙◌, subst}
use Rattle.content_streams.specs.Framed.{frames_of, standing_of}
use Rattle.content_streams.specs.Streams.{joined, stream_end, closed_end}
use Rattle.content_streams.specs.Inner.Cutters.{framing_of, limit_of, Tells}
use Rattle.content_streams.specs.declared.cutter.Cutter.{Cutter}
use Rattle.content_streams.proofs.Peeling.{are_contents}
use Rattle.content_streams.proofs.cutter.Cutter.closed_end.Goals as goal

pub returns-in-Frames : goal.returns-in-Frames
returns-in-Frames c pieces =
    let P : Cutter → Type 0 = λ k. Tells k pieces → c.stream_end.result ≡ closed_end (framing_of k) (limit_of k) pieces in
    let limit = c.in-Frames.cutter.decoder.limit in
    subst P (sym c.in-Frames.is) (λ tells. c.stream_end.ensures
    ∙ ap stream_end (c.end.ensures.contents (joined pieces) (frames_of limit (joined pieces)) (standing_of limit (joined pieces)) tells.0 (are_contents limit (joined pieces))))
