use Rattle.std.proofs.Common.{ℕ, ap, ◌∙◌}
use Rattle.std.specs.Option.{option_map}
use Rattle.lsp_frames.specs.declared.frame.Frame.{Frame}
use Rattle.content_streams.specs.Streams.{Stream, capped, next_placed}
use Rattle.content_streams.proofs.KeepingPlaces.{next_place_is}
use Rattle.content_streams.proofs.content_stream.ContentStream.front_place.Goals as goal

pub returns : goal.returns
returns c =
    let inside = c.self.inside in
    c.front.ensures ∙ next_place_is inside.cutter inside.places inside.log.texts inside.ended inside.log.taken c.self.invariant.placed
    ∙ ap (λ (s : Stream). option_map (λ (placed : ℕ × Frame). capped placed.0) (next_placed s)) c.self.view_is
