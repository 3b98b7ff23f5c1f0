use Rattle.std.proofs.Common.{◌≡◌, ◌++◌, ◌∷◌, [], Option, Some, None, true, List, refl, ap, sym, ◌∙◌, subst}
use Rattle.std.specs.Option.{is_some}
use Rattle.lsp_frames.specs.declared.frame.Frame.{Frame}
use Rattle.lsp_frames.specs.declared.frame.FrameFault.{FrameFault}
use Rattle.ghost_log.specs.declared.ghost_log.GhostLog.{GhostLog}
use Rattle.content_streams.specs.Streams.{Stream}
use Rattle.lsp_frames.specs.Feeds.{fed_frames}
use Rattle.content_streams.specs.Inner.Cutters.{IsHeld}
use Rattle.content_streams.specs.declared.content_stream.ContentStream.TheInside.{Inside}
use Rattle.content_streams.specs.declared.ending.HowEnded.{HowEnded}
use Rattle.content_streams.specs.declared.places.Places.{Places}
use Rattle.content_streams.proofs.Keeping.{fed, ignored}
use Rattle.content_streams.proofs.KeepingPlaces.{placed_fed, placed_ignored}
use Rattle.content_streams.proofs.content_stream.ContentStream.feed.Goals as goal
use Rattle.content_streams.proofs.content_stream.ContentStream.feed.Goals.{then-is_none+in_ok-room+in_ok-contents, else-is_none}

shown : (fault : Option FrameFault) → is_some fault ≡ true → (shows : FrameFault) × (fault ≡ Some shows)
shown None is = cc
shown (Some fault) is = (fault, refl)

pub invariant_of-self-2 : goal.invariant_of-self-2
invariant_of-self-2 c =
    let piece = c.args.piece.now in
    let cutter = c.self.inside.cutter in
    let row = c.self.inside.row in
    let places = c.self.inside.places in
    let pieces = c.self.inside.log.texts in
    let taken = c.self.inside.log.taken in
    let is_open : c.self.inside.ended ≡ None = ap (λ (s : Stream). s.ended) c.self.view_is ∙ c.requires in
    let At : Option HowEnded → Type 0 = λ ended. IsHeld cutter row places pieces ended taken in
    let held : IsHeld cutter row places pieces None taken = subst At is_open c.self.invariant in
    let is = held.stream in
    let stands = is.stands refl in
    let After : Inside → Type 0 = λ a. IsHeld a.cutter a.row a.places (a.log.texts ++ piece ∷ []) a.ended a.log.taken in
    let done : After c.if-is_none.self-inside = elim c.if-is_none.branch [
      | then-is_none+in_ok-room+in_ok-contents w ↦
          (let given = fed_frames w.in_ok-contents.contents in
          let next : Places = record places { waiting = w.feed.new.places } in
          let Ends : Option HowEnded → Type 0 = λ ended. IsHeld w.feed.new.self w.add.new.self next (pieces ++ piece ∷ []) ended taken in
          subst After (sym w.self-inside-is) (subst Ends (sym is_open) (record {
            stream = fed cutter w.feed.new.self row w.add.new.self pieces piece taken given is w.in_ok-contents.ensures.framing w.in_ok-contents.ensures.limit
                (w.in_ok-contents.ensures.given pieces stands) (w.in_ok-contents.ensures.stands pieces stands)
                (w.add.ensures.items ∙ ap (λ (xs : List Frame). xs ++ given) w.make_room.ensures.items) w.add.ensures.last;
            placed = placed_fed cutter w.feed.new.self places next pieces piece taken held.placed w.in_ok-contents.ensures.framing w.in_ok-contents.ensures.limit
                (λ passed. w.in_ok-contents.ensures.places pieces passed stands) refl;
          })))
      | else-is_none w ↦
          (let fault = shown c.fault.result w.if-is_none.ensures in
          let Ends : Option HowEnded → Type 0 = λ ended. IsHeld cutter row places (pieces ++ piece ∷ []) ended taken in
          let told = sym (c.fault.ensures.told pieces is.tells) ∙ fault.1 in
          subst After (sym w.self-inside-is) (subst Ends (sym is_open) (record {
            stream = ignored cutter row pieces piece taken fault.0 is told;
            placed = placed_ignored cutter places pieces piece taken fault.0 held.placed told;
          })))
    ] in
    let P : GhostLog → Type 0 = λ log. IsHeld c.if-is_none.self-inside.cutter c.if-is_none.self-inside.row c.if-is_none.self-inside.places log.texts c.if-is_none.self-inside.ended log.taken in
    subst P (sym c.with_text-self-inside.ensures) done

pub feed-requires-clause-known : goal.feed-requires-clause-known
feed-requires-clause-known c =
    let is_open : c.self.inside.ended ≡ None = ap (λ (s : Stream). s.ended) c.self.view_is ∙ c.requires in
    (c.self.inside.log.texts, c.self.invariant.stream.stands is_open)
