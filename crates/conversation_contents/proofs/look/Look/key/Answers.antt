use Rattle.std.proofs.Common.{◌≡◌, ◌∙◌, ap, sym, subst, true}
use Rattle.conversation_contents.proofs.Places.{and_first, and_second, id_key}
use Rattle.conversation_contents.specs.Left.{has_key, holds, key_of}
use Rattle.conversation_contents.specs.declared.look.Taking.TheVariants.{Expected}
use Rattle.conversation_rules.specs.Matching.{is_request_for}
use Rattle.conversation_rules.specs.Owed.{is_expected}
use Rattle.conversation_contents.proofs.look.Look.key.Goals as goal

pub returns-in-Cancelled : goal.returns-in-Cancelled
returns-in-Cancelled c = λ owed held.
    let id = c.args.id.now in
    subst (λ key. has_key key owed ≡ true) (sym (c.key.ensures ∙ ap (key_of Expected) c.mark_of.ensures))
    (id_key id owed (and_second owed.is_request (is_expected id owed) (and_first (is_request_for id owed) owed.is_cancelled (sym (ap (λ look. holds look id owed) c.in-Cancelled.is) ∙ held))))
