use Rattle.std.proofs.Common.{◌≡◌, ◌∙◌, sym, subst, true}
use Rattle.conversation_dues.proofs.InLine.{in_line_is_just}
use Rattle.conversation_dues.specs.Left.{expected_of}
use Rattle.conversation_rules.specs.Dues.{ids_read}
use Rattle.conversation_rules.specs.Matching.{same_ids}
use Rattle.conversation_dues.proofs.arrays.is_in_line.Goals as goal

pub returns-in-Some : goal.returns-in-Some
returns-in-Some c = λ line.
    subst (λ es. same_ids (ids_read c.args.ids.now) (expected_of es) ≡ true) c.in-Some.ensures (in_line_is_just c.in-Some.entries.now c.args.ids.now (sym c.are_in_line.ensures ∙ line))
