use Rattle.std.proofs.Common.{◌<◌, ◌++◌, ◌∙◌, ap, sym, arith, append_assoc, append-nil}
use Rattle.conversation_rules.specs.Dues.{unanswered}
use Rattle.conversation_open.specs.Open.{open_entries, contents_of, unanswered_at}
use Rattle.conversation_contents.specs.Left.{behind}
use Rattle.conversation_contents.proofs.Behind.{behind_none, behind_last, next_above}
use Rattle.conversation_open.proofs.Changed.{told_next}
use Rattle.conversation_open.proofs.open_contents.OpenContents.put_unanswered.Goals as goal

pub loop-number-init : goal.loop-number-init
loop-number-init c = ap (λ es. c.args.told.now.items ++ unanswered (contents_of es)) (behind_none (open_entries c.args.self.now) c.requires.above)

pub loop-number-smaller : goal.loop-number-smaller
loop-number-smaller c = let more : c.loop-number.after < c.in-Some.number = next_above c.loop-number.after c.in-Some.number (open_entries c.args.self.now) c.in-Some.ensures in omega arith

pub loop-number-preserved : goal.loop-number-preserved
loop-number-preserved c =
    let es = open_entries c.args.self.now in
    let told = c.loop-number.told.items in
    let rest = unanswered (contents_of (behind c.in-Some.number es)) in
    ap (λ items. items ++ rest) c.in_ok-put_unanswered_at.ensures
    ∙ append_assoc told (unanswered_at c.in-Some.number es) rest
    ∙ ap (λ items. told ++ items) (sym (told_next c.loop-number.after c.in-Some.number es c.requires.window.ordered c.in-Some.ensures))
    ∙ c.loop-number.invariant

pub returns : goal.returns
returns c =
    sym (append-nil c.loop-number.told.items)
    ∙ ap (λ es. c.loop-number.told.items ++ unanswered (contents_of es)) (sym (behind_last c.loop-number.after (open_entries c.args.self.now) c.in_default.ensures))
    ∙ c.loop-number.invariant
