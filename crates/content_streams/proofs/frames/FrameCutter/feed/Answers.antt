use Rattle.std.proofs.Common.{ℕ, List, ◌++◌, ap, sym, ◌∙◌, subst, append_assoc, arith}
use Rattle.lsp_frames.specs.Feeds.{fed_frames}
use Rattle.content_streams.specs.Framed.{frames_of, standing_of, place_of_rest}
use Rattle.content_streams.specs.Inner.Heads.{followed, StandsAt}
use Rattle.content_streams.specs.declared.under_way.UnderWay.{UnderWay}
use Rattle.content_streams.proofs.FrameFeeding.{given_are, given_fit, follows_on, came_with, stands_all}
use Rattle.content_streams.proofs.frames.FrameCutter.feed.Goals as goal

pub follow-self-requires : goal.follow-self-requires
follow-self-requires c =
    let old = c.args.self.now.decoder in
    let bytes = c.requires.known.0 in
    let piece = c.args.piece.now in
    let given = fed_frames c.in_ok-frames.frames in
    let came = came_with old c.feed_together.new.self bytes piece given c.feed_together.ensures.limit (c.in_ok-frames.ensures.stands bytes (frames_of old.limit bytes) c.requires.known.1.0) in
    let few = given_fit old.limit bytes piece given (given_are old.limit bytes piece given came) in
    omega (arith, c.in_ok-reserve.ensures.ok, few)

pub returns-clause-given : goal.returns-clause-given
returns-clause-given c bytes stands =
    let old = c.args.self.now.decoder in
    came_with old c.feed_together.new.self bytes c.args.piece.now (fed_frames c.in_ok-frames.frames) c.feed_together.ensures.limit (c.in_ok-frames.ensures.stands bytes (frames_of old.limit bytes) stands.0)

pub returns-clause-places : goal.returns-clause-places
returns-clause-places c bytes passed stands is =
    let old = c.args.self.now.decoder in
    let piece = c.args.piece.now in
    let given = fed_frames c.in_ok-frames.frames in
    let came = came_with old c.feed_together.new.self bytes piece given c.feed_together.ensures.limit (c.in_ok-frames.ensures.stands bytes (frames_of old.limit bytes) stands.0) in
    let on = follows_on old.limit bytes piece given c.args.self.now.under_way (given_are old.limit bytes piece given came) stands.1 c.follow-self.ensures.small in
    let more = (followed c.args.self.now.under_way piece given).0 in
    on.places ∙ ap (λ (xs : List ℕ). xs ++ more) is ∙ append_assoc passed c.args.places.now.items more
    ∙ ap (λ (xs : List ℕ). passed ++ xs) (sym (c.give_room_back.ensures.items ∙ c.follow-self.ensures.places ∙ ap (λ (xs : List ℕ). xs ++ more) c.reserve.ensures.items))

pub returns-clause-stands : goal.returns-clause-stands
returns-clause-stands c bytes stands =
    let old = c.args.self.now.decoder in
    let new = c.feed_together.new.self in
    let piece = c.args.piece.now in
    let given = fed_frames c.in_ok-frames.frames in
    let fed = c.in_ok-frames.ensures.stands bytes (frames_of old.limit bytes) stands.0 in
    let came = came_with old new bytes piece given c.feed_together.ensures.limit fed in
    let on = follows_on old.limit bytes piece given c.args.self.now.under_way (given_are old.limit bytes piece given came) stands.1 c.follow-self.ensures.small in
    let Under : UnderWay → Type 0 = λ u. StandsAt u (place_of_rest old.limit (bytes ++ piece)) (standing_of old.limit (bytes ++ piece)) in
    let Of : ℕ → Type 0 = λ n. StandsAt c.follow-self.result (place_of_rest n (bytes ++ piece)) (standing_of n (bytes ++ piece)) in
    (stands_all new (bytes ++ piece) (frames_of old.limit bytes ++ given) fed, subst Of (sym c.feed_together.ensures.limit) (subst Under (sym c.follow-self.ensures.under_way) on.stands))
