use Rattle.std.proofs.Common.{◌∙◌, ap, sym, None, Some, position}
use Rattle.std.specs.Prelude.{count_by}
use Rattle.std.specs.Option.{option_map_or, is_none}
use Rattle.conversation_dues.specs.Answered.{is_answered}
use Rattle.conversation_dues.specs.declared.batches.Answer.TheVariants.{Just, Possible}
use Rattle.conversation_dues.proofs.Firsts.{number_is}
use Rattle.conversation_dues.proofs.Targeted.{if_ok_then}
use Rattle.conversation_open.specs.Open.{open_entries, contents_of}
use Rattle.conversation_rules.specs.Dues.{ids_read}
use Rattle.conversation_rules.specs.Matching.{can_be_answered}
use Rattle.conversation_dues.proofs.batches.left_array_target.Goals as goal

pub returns-in-Some : goal.returns-in-Some
returns-in-Some c =
    let es = open_entries c.args.contents.now in
    let ids = c.args.ids.now in
    ap (λ o. option_map_or Some o (position (can_be_answered (ids_read ids) (count_by is_none ids)) (contents_of es)))
    (number_is (is_answered Just ids) es (Some c.in-Some.number) c.requires.stands.window.ordered (sym c.in-Some.is ∙ c.in_ok-number.ensures))

pub returns-in-None : goal.returns-in-None
returns-in-None c =
    let es = open_entries c.args.contents.now in
    let ids = c.args.ids.now in
    if_ok_then c.first_batch-in-None.result
    (λ number found. ap (λ o. option_map_or Some o (position (can_be_answered (ids_read ids) (count_by is_none ids)) (contents_of es)))
    (number_is (is_answered Just ids) es None c.requires.stands.window.ordered (sym c.in-None.is ∙ c.in_ok-number.ensures))
    ∙ number_is (is_answered Possible ids) es number c.requires.stands.window.ordered found)
    c.first_batch-in-None.ensures
