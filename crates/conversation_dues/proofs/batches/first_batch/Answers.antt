use Rattle.std.proofs.Common.{◌∙◌, sym}
use Rattle.conversation_dues.specs.Answered.{is_answered}
use Rattle.conversation_dues.specs.Found.{whole_if}
use Rattle.conversation_dues.proofs.Firsts.{scan_first, scan_next, scan_none, scan_found, whole_none, not_whole, is_whole}
use Rattle.conversation_dues.proofs.Targeted.{not_answered}
use Rattle.conversation_open.specs.Open.{among_has, open_entries}
use Rattle.conversation_open.specs.declared.among.Among.TheVariants.{Batches}
use Rattle.number_windows.specs.Numbered.{at}
use Rattle.conversation_dues.proofs.batches.first_batch.Goals as goal

pub loop-number-init : goal.loop-number-init
loop-number-init c = scan_first (whole_if (is_answered c.args.answer c.args.ids.now)) (open_entries c.args.contents.now) c.requires.stands.above

pub returns-then-branch : goal.returns-then-branch
returns-then-branch c =
    let es = open_entries c.args.contents.now in
    let passes = is_answered c.args.answer c.args.ids.now in
    scan_found (whole_if passes) (among_has Batches c.first_mark-mark.result) c.loop-number.after c.in-Some.number es c.requires.stands.window.ordered c.loop-number.invariant c.in-Some.ensures.1
    (λ due none. whole_none passes due (not_answered c.args.answer c.args.ids.now due c.first_mark-mark.result (c.first_mark-mark.ensures c.args.answer due) none))
    (is_whole passes (at c.in-Some.number es) (sym c.in_ok-is_answered_at.ensures ∙ c.if-branch.true))

pub loop-number-preserved : goal.loop-number-preserved
loop-number-preserved c =
    let es = open_entries c.args.contents.now in
    let passes = is_answered c.args.answer c.args.ids.now in
    scan_next (whole_if passes) (among_has Batches c.first_mark-mark.result) c.loop-number.after c.in-Some.number es c.loop-number.invariant c.in-Some.ensures.1
    (λ due none. whole_none passes due (not_answered c.args.answer c.args.ids.now due c.first_mark-mark.result (c.first_mark-mark.ensures c.args.answer due) none))
    (not_whole passes (at c.in-Some.number es) (sym c.in_ok-is_answered_at.ensures ∙ c.if-branch.false))

pub returns : goal.returns
returns c =
    let passes = is_answered c.args.answer c.args.ids.now in
    scan_none (whole_if passes) (among_has Batches c.first_mark-mark.result) c.loop-number.after (open_entries c.args.contents.now) c.requires.stands.window.ordered c.loop-number.invariant c.in_default.ensures
    (λ due none. whole_none passes due (not_answered c.args.answer c.args.ids.now due c.first_mark-mark.result (c.first_mark-mark.ensures c.args.answer due) none))
