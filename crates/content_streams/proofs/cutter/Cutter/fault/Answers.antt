use Rattle.std.proofs.Common.{◌≡◌, ap, sym, ◌∙◌, subst}
use Rattle.content_streams.specs.Framed.{frames_of, standing_of}
use Rattle.content_streams.specs.Streams.{joined, fault_of}
use Rattle.content_streams.specs.Inner.Cutters.{fault_at_end, framing_of, limit_of, Tells}
use Rattle.content_streams.specs.declared.cutter.Cutter.{Cutter}
use Rattle.content_streams.proofs.Peeling.{are_contents}
use Rattle.content_streams.proofs.Streaming.{fault_at}
use Rattle.content_streams.proofs.cutter.Cutter.fault.Goals as goal

pub returns-in-Frames-clause-told : goal.returns-in-Frames-clause-told
returns-in-Frames-clause-told c pieces =
    let P : Cutter → Type 0 = λ k. Tells k pieces → c.fault_at_end.result ≡ fault_of (framing_of k) (limit_of k) pieces in
    let limit = c.in-Frames.cutter.decoder.limit in
    subst P (sym c.in-Frames.is) (λ tells. c.fault_at_end.ensures
    ∙ ap fault_at_end (c.end.ensures.contents (joined pieces) (frames_of limit (joined pieces)) (standing_of limit (joined pieces)) tells.0 (are_contents limit (joined pieces)))
    ∙ fault_at limit (joined pieces))
