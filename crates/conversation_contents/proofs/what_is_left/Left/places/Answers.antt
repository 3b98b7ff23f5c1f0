use Rattle.std.proofs.Common.{◌++◌, ◌<◌, ◌∙◌, ap, arith}
use Rattle.conversation_contents.proofs.Behind.{behind_none, next_above}
use Rattle.conversation_contents.proofs.Indexes.{all_put, next_put}
use Rattle.conversation_contents.specs.Left.{left_entries, values_of, behind}
use Rattle.conversation_contents.proofs.what_is_left.Left.places.Goals as goal

pub loop-number-init : goal.loop-number-init
loop-number-init c =
    let es = left_entries c.args.self.now in
    ap (λ ps. ps ++ values_of (behind 0 es)) c.new-places.ensures.items ∙ ap values_of (behind_none es c.requires.above)

pub loop-number-preserved : goal.loop-number-preserved
loop-number-preserved c =
    next_put c.loop-number.after c.in-Some.number (left_entries c.args.self.now) c.loop-number.places.items c.push_place.new.places.items c.requires.window.ordered c.in-Some.ensures c.in_ok-push_place.ensures
    ∙ c.loop-number.invariant

pub returns : goal.returns
returns c = all_put c.loop-number.after (left_entries c.args.self.now) c.loop-number.places.items c.in_default.ensures ∙ c.loop-number.invariant

pub loop-number-smaller : goal.loop-number-smaller
loop-number-smaller c = let more : c.loop-number.after < c.in-Some.number = next_above c.loop-number.after c.in-Some.number (left_entries c.args.self.now) c.in-Some.ensures in omega arith
