use Rattle.std.proofs.Common.{◌∙◌, ap, map, arith, Some}
use Rattle.std.specs.List.{slice_get}
use Rattle.conversation_contents.proofs.Lists.{place_more, taken_all}
use Rattle.conversation_contents.proofs.content_entries.all_places.Goals as goal

pub loop-place-init : goal.loop-place-init
loop-place-init c = ap (map (slice_get c.args.slots.now)) c.new-places.ensures.items

pub loop-place-preserved : goal.loop-place-preserved
loop-place-preserved c =
    ap (map (slice_get c.args.slots.now)) c.in_ok-push.ensures.items
    ∙ place_more c.args.slots.now c.loop-place.places.items c.loop-place.place c.loop-place-test.true c.loop-place.invariant

pub returns : goal.returns
returns c = c.loop-place.invariant ∙ ap (map Some) (taken_all c.args.slots.now c.loop-place.place (omega arith))
