use Rattle.std.proofs.Common.{◌≡◌, ◌++◌, List, map, Some, None, ap, sym, ◌∙◌, subst}
use Rattle.std.specs.Option.{option_to_list}
use Rattle.lsp_frames.specs.declared.frame.Frame.{Frame}
use Rattle.content_streams.specs.Streams.{capped, joined, place_left}
use Rattle.content_streams.specs.Inner.Cutting.{LineStanding, ended_contents, last_contents}
use Rattle.content_streams.specs.Inner.Cutters.{framing_of, limit_of, Stands, places_by, read_by}
use Rattle.content_streams.specs.declared.cutter.Cutter.{Cutter}
use Rattle.content_streams.specs.declared.ending.HowEnded.TheVariants.{Closed}
use Rattle.content_streams.proofs.Streaming.{lines_to_end, lines_to_end_placed}
use Rattle.content_streams.proofs.cutter.Cutter.take_last.Goals as goal

pub returns-in-Lines-clause-content : goal.returns-in-Lines-clause-content
returns-in-Lines-clause-content c pieces =
    let P : Cutter → Type 0 = λ k. Stands k pieces → read_by k pieces (Some Closed) ≡ read_by k pieces None ++ option_to_list c.take_last.result in
    let limit = c.in-Lines.cutter.limit in
    subst P (sym c.in-Lines.is) (λ stands. lines_to_end limit (joined pieces)
    ∙ ap (λ (s : LineStanding). ended_contents limit (joined pieces) ++ last_contents limit s) (sym stands.0)
    ∙ ap (λ (xs : List Frame). ended_contents limit (joined pieces) ++ xs) (sym c.take_last.ensures.content))

pub returns-in-Lines-clause-place : goal.returns-in-Lines-clause-place
returns-in-Lines-clause-place c pieces =
    let last = option_to_list c.take_last.result in
    let P : Cutter → Type 0 = λ k. Stands k pieces → places_by k pieces (Some Closed) ≡ places_by k pieces None ++ map (λ (frame : Frame). capped (place_left (framing_of k) (limit_of k) pieces)) last in
    subst P (sym c.in-Lines.is) (λ stands. lines_to_end_placed c.in-Lines.cutter pieces stands last c.take_last.ensures.content)
