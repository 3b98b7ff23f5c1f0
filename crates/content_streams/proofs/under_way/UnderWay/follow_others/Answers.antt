use Rattle.std.proofs.Common.{◌≡◌, ◌+◌, ◌<◌, get_or, length, ℕ, List, ◌∷◌, ◌++◌, [], drop, ap, sym, ◌∙◌, append_assoc, arith}
use Rattle.content_streams.specs.Inner.Heads.{followed, at_start}
use Rattle.content_streams.specs.Streams.{plain}
use Rattle.content_streams.specs.declared.under_way.UnderWay.{UnderWay}
use Rattle.content_streams.proofs.HeadSteps.{followed_first, one_followed, noted, same_item, small_more, small_all}
use Rattle.content_streams.proofs.under_way.UnderWay.follow_others.Goals as goal

pub loop-index-preserved : goal.loop-index-preserved
loop-index-preserved c =
    let frames = c.args.frames.now in
    let later = drop (c.loop-index.index + 1) frames in
    let none = plain [] in
    let frame = get_or frames c.loop-index.index none in
    let within : c.loop-index.index < length frames = omega (arith, c.loop-index-test.true, c.len.ensures) in
    let is : frame ≡ get_or frames c.loop-index.index frame = same_item frames c.loop-index.index none frame within in
    let place = c.completed-place.result.0 in
    let behind = c.completed-place.result.1.now in
    let next = c.at-under_way.result in
    let here : followed c.loop-index.under_way c.loop-index.rest.now (drop c.loop-index.index frames) ≡ noted place behind next later =
    followed_first c.loop-index.under_way c.loop-index.rest.now frames c.loop-index.index frame within is
    ∙ one_followed c.loop-index.under_way next c.loop-index.rest.now behind frame later place c.size-size.result
    c.completed-place.ensures.place (c.size-size.ensures none) c.completed-place.ensures.behind (c.at-under_way.ensures ∙ ap at_start c.saturating_add.ensures) in
    record {
      places = ap (λ (xs : List ℕ). xs ++ (followed next behind later).0) c.push_back_reserved.ensures.items
          ∙ append_assoc c.loop-index.places.items (place ∷ []) (followed next behind later).0
          ∙ ap (λ (o : List ℕ × UnderWay). c.loop-index.places.items ++ o.0) (sym here) ∙ c.loop-index.invariant.places;
      under_way = ap (λ (o : List ℕ × UnderWay). o.1) (sym here) ∙ c.loop-index.invariant.under_way;
      small = small_more frames c.loop-index.index frame c.size-size.result within is (c.size-size.ensures none) c.size-size.type_inv c.loop-index.invariant.small;
      room = omega (arith, c.push_back_reserved.ensures.len, c.push_back_reserved.ensures.capacity, c.loop-index.invariant.room, within);
      within = omega (arith, within);
    }

pub returns-clause-small : goal.returns-clause-small
returns-clause-small c = small_all c.args.frames.now c.loop-index.index (omega (arith, c.loop-index-test.false, c.len.ensures)) c.loop-index.invariant.small
