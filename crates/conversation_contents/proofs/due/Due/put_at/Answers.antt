use Rattle.std.proofs.Common.{◌≡◌, ◌++◌, ◌∙◌, ap, sym, length, None}
use Rattle.std.specs.List.{slice_get}
use Rattle.std.specs.Option.{option_to_list}
use Rattle.std.proofs.lemmas.Bool.{ltb-false}
use Rattle.std.proofs.lemmas.Option.{slice_get_past}
use Rattle.conversation_contents.proofs.Told.{none_more}
use Rattle.conversation_rules.specs.Dues.{unanswered_of}
use Rattle.conversation_contents.proofs.due.Due.put_at.Goals as goal

pub returns-in_default : goal.returns-in_default
returns-in_default c =
    let none : None ≡ slice_get c.args.entries.now c.args.place = sym (slice_get_past c.args.entries.now c.args.place (ltb-false c.args.place (length c.args.entries.now) (sym c.in_default.ensures.lookup.0))) in
    none_more c.args.told.now.items ∙ ap (λ o. c.args.told.now.items ++ unanswered_of c.args.self.now (option_to_list o)) none
