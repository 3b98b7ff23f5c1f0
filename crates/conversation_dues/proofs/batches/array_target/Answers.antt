use Rattle.std.proofs.Common.{◌∙◌, sym, None, Some}
use Rattle.conversation_dues.specs.Answered.{is_answered}
use Rattle.conversation_contents.specs.Left.{index_of}
use Rattle.conversation_dues.specs.declared.batches.Answer.TheVariants.{JustDue}
use Rattle.conversation_dues.proofs.Firsts.{number_is}
use Rattle.conversation_dues.proofs.Targeted.{none_named, due_target, left_target, if_ok_then}
use Rattle.conversation_open.specs.Open.{open_entries, contents_of}
use Rattle.conversation_dues.proofs.batches.array_target.Goals as goal

pub returns-then-not-has_named : goal.returns-then-not-has_named
returns-then-not-has_named c = sym (none_named c.args.ids.now (contents_of (open_entries c.args.contents.now)) (sym c.has_named.ensures ∙ c.if-not-has_named.true))

pub returns-in-Some : goal.returns-in-Some
returns-in-Some c =
    let es = open_entries c.args.contents.now in
    let ids = c.args.ids.now in
    due_target ids (contents_of es) (sym c.has_named.ensures ∙ c.if-not-has_named.false) (index_of c.in-Some.number es)
    (number_is (is_answered JustDue ids) es (Some c.in-Some.number) c.requires.window.ordered (sym c.in-Some.is ∙ c.in_ok-number.ensures))

pub returns-in-None : goal.returns-in-None
returns-in-None c =
    let es = open_entries c.args.contents.now in
    let ids = c.args.ids.now in
    if_ok_then c.left_array_target.result
    (λ number found. left_target ids (contents_of es) (sym c.has_named.ensures ∙ c.if-not-has_named.false)
    (number_is (is_answered JustDue ids) es None c.requires.window.ordered (sym c.in-None.is ∙ c.in_ok-number.ensures))
    ∙ found)
    c.left_array_target.ensures
