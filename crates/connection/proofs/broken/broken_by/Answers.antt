use Rattle.std.proofs.Common.{◌≡◌, ℕ, Some, None, ap, ◌∙◌}
use Rattle.std.specs.Prelude.{take, option_map, unwrap_or}
use Rattle.lsp_frames.specs.Gathered.{frame_of_content}
use Rattle.lsp_frames.specs.declared.frame.Frame.{Frame}
use Rattle.content_streams.specs.Streams.{capped}
use Rattle.connection.specs.Connections.{most_shown}
use Rattle.connection.proofs.Asked.{placed_frame}
use Rattle.connection.proofs.broken.broken_by.Goals as goal

pub returns-in_ok-first_bytes-in-Some : goal.returns-in_ok-first_bytes-in-Some
returns-in_ok-first_bytes-in-Some c = λ placed next.
    let s = c.args.stream.now in
    let place = c.unwrap_or.ensures ∙ ap (λ o. unwrap_or o 0) (c.front_place-place.ensures ∙ ap (option_map (λ (p : ℕ × Frame). capped p.0)) next) in
    let both : Some (frame_of_content c.in-Some.content) ≡ Some placed.1 = c.in-Some.ensures ∙ placed_frame c.placed_contents_are_the_contents.ensures s s.taken placed next in
    let its : frame_of_content c.in-Some.content ≡ placed.1 = cc in
    let start = c.in_ok-first_bytes-in-Some.ensures ∙ ap (λ (f : Frame). take most_shown f.content) its in
    λ i. Some (record { place = place i; start = start i; defect = c.args.defect })

pub returns-in-None : goal.returns-in-None
returns-in-None c = λ placed next.
    let s = c.args.stream.now in
    let both : None ≡ Some placed.1 = c.in-None.ensures ∙ placed_frame c.placed_contents_are_the_contents.ensures s s.taken placed next in
    absurd (cc)
