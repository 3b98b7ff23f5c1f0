use Rattle.std.proofs.Common.{◌+◌, ◌++◌, ◌∙◌, ap, drop, get_or, arith, map, Some}
use Rattle.std.specs.List.{slice_get}
use Rattle.conversation_contents.proofs.Lists.{among_is}
use Rattle.conversation_contents.proofs.OwedSteps.{drop_at}
use Rattle.conversation_contents.proofs.Told.{told_at, told_placed}
use Rattle.conversation_rules.specs.Dues.{unanswered_of}
use Rattle.conversation_contents.proofs.due.Due.put_placed.Goals as goal

pub loop-place-preserved : goal.loop-place-preserved
loop-place-preserved c =
    let all = c.as_slice-place-items.result.now in
    let i = c.loop-place.place-index in
    told_at c.args.self.now c.loop-place.told.items c.put_at.new.told.items (slice_get c.in_ok-entries.entries.now) (drop i all) (drop (i + 1) all) (get_or all i 0)
    c.in_ok-put_at.ensures (drop_at all i 0 c.loop-place-test.true)
    ∙ c.loop-place.invariant

pub returns : goal.returns
returns c =
    let due = c.args.self.now in
    let read = slice_get c.in_ok-entries.entries.now in
    let all = c.as_slice-place-items.result.now in
    told_placed due c.loop-place.told.items read all c.loop-place.place-index (omega arith)
    ∙ c.loop-place.invariant
    ∙ ap (λ es. c.args.told.now.items ++ unanswered_of due es) (among_is read all due.entries (ap (map read) c.as_slice-place-items.ensures.value ∙ c.in_ok-entries.ensures ∙ ap (λ d. map Some d.entries) c.self.view_is))
