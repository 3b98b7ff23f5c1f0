use Rattle.std.proofs.Common.{◌∙◌, sym}
use Rattle.std.specs.List.{slice_get}
use Rattle.conversation_contents.proofs.Lists.{position-left}
use Rattle.conversation_contents.proofs.Places.{first_passes, none_more, none_passes, none_yet, test_passes}
use Rattle.conversation_contents.specs.Left.{at_test, has_key, holds, left_entries, places_of}
use Rattle.conversation_contents.specs.Numbers.{has_number}
use Rattle.conversation_contents.proofs.what_is_left.Left.first.Goals as goal

pub loop-number-init : goal.loop-number-init
loop-number-init c = none_yet (at_test (holds c.args.look c.args.id.now) (slice_get c.args.entries.now)) (left_entries c.args.self.now) c.requires.above

pub returns-then-holds_at : goal.returns-then-holds_at
returns-then-holds_at c = λ left is.
    let test = holds c.args.look c.args.id.now in
    let at = slice_get c.args.entries.now in
    sym (first_passes (at_test test at) (has_number c.args.self.now.marks c.key-key.result) c.loop-number.after c.in-Some.number (left_entries c.args.self.now) c.requires.window.ordered c.loop-number.invariant
    (λ n x there passes. c.requires.noted n x there c.key-key.result (test_passes test (has_key c.key-key.result) (at x) c.key-key.ensures passes))
    c.in-Some.ensures.2 (sym c.holds_at.ensures ∙ c.if-holds_at.true))
    ∙ position-left test at (places_of c.args.self.now) left is

pub loop-number-preserved : goal.loop-number-preserved
loop-number-preserved c =
    let test = holds c.args.look c.args.id.now in
    let at = slice_get c.args.entries.now in
    none_more (at_test test at) (has_number c.args.self.now.marks c.key-key.result) c.loop-number.after c.in-Some.number (left_entries c.args.self.now) c.loop-number.invariant
    (λ n x there passes. c.requires.noted n x there c.key-key.result (test_passes test (has_key c.key-key.result) (at x) c.key-key.ensures passes))
    c.in-Some.ensures.2 (sym c.holds_at.ensures ∙ c.if-holds_at.false)

pub returns : goal.returns
returns c = λ left is.
    let test = holds c.args.look c.args.id.now in
    let at = slice_get c.args.entries.now in
    sym (none_passes (at_test test at) (has_number c.args.self.now.marks c.key-key.result) c.loop-number.after (left_entries c.args.self.now) c.requires.window.ordered c.loop-number.invariant
    (λ n x there passes. c.requires.noted n x there c.key-key.result (test_passes test (has_key c.key-key.result) (at x) c.key-key.ensures passes))
    c.in_default.ensures)
    ∙ position-left test at (places_of c.args.self.now) left is
