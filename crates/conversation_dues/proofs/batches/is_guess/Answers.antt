use Rattle.std.proofs.Common.{◌∙◌, ap, sym, is_some}
use Rattle.conversation_dues.proofs.Firsts.{any_is, found_some}
use Rattle.conversation_dues.proofs.Targeted.{none_guessed, no_batch, none_there, guessed}
use Rattle.conversation_dues.specs.Answered.{is_answered}
use Rattle.conversation_dues.specs.Found.{first_of, whole_if}
use Rattle.conversation_dues.specs.declared.batches.Answer.TheVariants.{Just}
use Rattle.conversation_open.specs.Open.{open_entries, contents_of}
use Rattle.conversation_rules.specs.Dues.{ids_read}
use Rattle.conversation_dues.proofs.batches.is_guess.Goals as goal

pub returns-then-not-has_named : goal.returns-then-not-has_named
returns-then-not-has_named c = none_guessed c.args.ids.now (contents_of (open_entries c.args.contents.now)) (sym c.has_named.ensures ∙ c.if-not-has_named.true)

pub returns-then-not-has_batch : goal.returns-then-not-has_batch
returns-then-not-has_batch c = no_batch (ids_read c.args.ids.now) (contents_of (open_entries c.args.contents.now)) (sym c.has_batch.ensures ∙ c.if-not-has_batch.true)

pub returns : goal.returns
returns c =
    let es = open_entries c.args.contents.now in
    let ids = c.args.ids.now in
    none_there c.is_none.result (is_some c.in_ok-expected.expected) (sym c.is_none.ensures)
    ∙ guessed ids (contents_of es) c.in_ok-expected.expected (sym c.has_named.ensures ∙ c.if-not-has_named.false) (sym c.has_batch.ensures ∙ c.if-not-has_batch.false)
    (ap is_some c.in_ok-expected.ensures ∙ found_some (first_of (whole_if (is_answered Just ids)) es) ∙ any_is (is_answered Just ids) es)
