use Rattle.std.proofs.Common.{◌≡◌, ◌++◌, ◌∷◌, [], Option, Some, None, refl, ap, sym, ◌∙◌, subst, append-nil}
use Rattle.content_streams.specs.Streams.{Stream, capped, place_left}
use Rattle.content_streams.specs.Inner.Rows.{row_items, place_items}
use Rattle.content_streams.specs.Inner.Cutters.{framing_of, limit_of, IsHeld}
use Rattle.content_streams.specs.declared.content_stream.ContentStream.TheInside.{Inside}
use Rattle.content_streams.specs.declared.ending.HowEnded.{HowEnded}
use Rattle.content_streams.specs.declared.ending.HowEnded.TheVariants.{Closed, ReadFailed}
use Rattle.content_streams.proofs.Keeping.{closed, failed}
use Rattle.content_streams.proofs.KeepingPlaces.{placed_closed, placed_failed}
use Rattle.content_streams.proofs.content_stream.ContentStream.end.Goals as goal
use Rattle.content_streams.proofs.content_stream.ContentStream.end.Goals.{in-Closed+in-Some, in-Closed+in-None, in-ReadFailed}

pub invariant_of-self : goal.invariant_of-self
invariant_of-self c =
    let cutter = c.self.inside.cutter in
    let row = c.self.inside.row in
    let places = c.self.inside.places in
    let pieces = c.self.inside.log.texts in
    let taken = c.self.inside.log.taken in
    let is_open : c.self.inside.ended ≡ None = ap (λ (s : Stream). s.ended) c.self.view_is ∙ c.requires in
    let At : Option HowEnded → Type 0 = λ ended. IsHeld cutter row places pieces ended taken in
    let held : IsHeld cutter row places pieces None taken = subst At is_open c.self.invariant in
    let stands = held.stream.stands refl in
    let place : c.place_left-place.result ≡ capped (place_left (framing_of cutter) (limit_of cutter) pieces) = c.place_left-place.ensures pieces held.stream.tells in
    let How : HowEnded → Inside → Type 0 = λ how a. IsHeld a.cutter a.row a.places a.log.texts (Some how) a.log.taken in
    elim c.match-how.branch [
      | in-Closed+in-Some w ↦
          (let next = w.take_last.new.self in
          let given = w.in-Some.content in
          subst (λ how. How how c.match-how.self-inside) (sym w.in-Closed.is) (subst (How Closed) (sym w.self-inside-is) (record {
            stream = closed cutter next row w.add_last.new.self pieces taken (given ∷ []) held.stream w.in-Some.ensures.framing w.in-Some.ensures.limit (w.in-Some.ensures.content pieces stands)
                (w.in-Some.ensures.tells pieces stands) w.add_last.ensures;
            placed = placed_closed cutter next places w.add_last-in-Some.new.self pieces taken (capped (place_left (framing_of cutter) (limit_of cutter) pieces) ∷ []) held.placed
                w.in-Some.ensures.framing w.in-Some.ensures.limit (w.in-Some.ensures.place pieces stands) (w.add_last-in-Some.ensures ∙ ap (λ n. place_items places ++ n ∷ []) place);
          })))
      | in-Closed+in-None w ↦
          (let next = w.take_last.new.self in
          subst (λ how. How how c.match-how.self-inside) (sym w.in-Closed.is) (subst (How Closed) (sym w.self-inside-is) (record {
            stream = closed cutter next row row pieces taken [] held.stream w.in-None.ensures.framing w.in-None.ensures.limit (w.in-None.ensures.content pieces stands)
                (w.in-None.ensures.tells pieces stands) (sym (append-nil (row_items row)));
            placed = placed_closed cutter next places places pieces taken [] held.placed w.in-None.ensures.framing w.in-None.ensures.limit (w.in-None.ensures.place pieces stands) (sym (append-nil (place_items places)));
          })))
      | in-ReadFailed w ↦
          subst (λ how. How how c.match-how.self-inside) (sym w.in-ReadFailed.is) (subst (How ReadFailed) (sym w.self-inside-is) (record {
            stream = failed cutter row pieces taken held.stream;
            placed = placed_failed cutter places pieces taken held.placed;
          }))
    ]
