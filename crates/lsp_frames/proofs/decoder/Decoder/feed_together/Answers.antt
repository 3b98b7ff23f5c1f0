use Rattle.std.proofs.Common.{sym, subst}
use Rattle.lsp_frames.specs.Decoding.{Decoding, StandsAfter}
use Rattle.lsp_frames.specs.Inner.Partials.{read_of}
use Rattle.lsp_frames.proofs.Standings.{fed_stands}
use Rattle.lsp_frames.proofs.decoder.Decoder.feed_together.Goals as goal

pub returns-clause-stands : goal.returns-clause-stands
returns-clause-stands c bytes frames h =
    let P : Decoding → Type 0 = λ d. StandsAfter d bytes frames in
    let inside = c.self.inside in
    fed_stands c.feed_together.result inside.limit inside.partial.stage inside.partial.held.items bytes c.args.piece.now frames (read_of c.feed_together.new.self)
    c.feed_together.ensures.given (subst P (sym c.self.view_is) h)
