use Rattle.std.proofs.Common.{◌≡◌, ◌∙◌, ap, sym, subst, true}
use Rattle.conversation_ids.specs.Ways.{fits}
use Rattle.conversation_contents.proofs.Places.{and_second, id_key, may_key, must_key}
use Rattle.conversation_contents.specs.Left.{has_key, key_of}
use Rattle.conversation_contents.specs.declared.look.Taking.TheVariants.{Must, Expected, Allowed}
use Rattle.conversation_rules.specs.Owed.{is_expected}
use Rattle.conversation_contents.proofs.look.key_of_way.Goals as goal

pub returns-in-Must : goal.returns-in-Must
returns-in-Must c = λ owed fit.
    let id = c.args.id.now in
    subst (λ key. has_key key owed ≡ true) (sym (c.key.ensures ∙ ap (key_of Must) c.mark_of.ensures)) (must_key id owed (sym (ap (λ way. fits way id owed) c.in-Must.is) ∙ fit))

pub returns-in-Asks : goal.returns-in-Asks
returns-in-Asks c = λ owed fit.
    let id = c.args.id.now in
    subst (λ key. has_key key owed ≡ true) (sym (c.key-in-Asks.ensures ∙ ap (key_of Expected) c.mark_of-in-Asks.ensures))
    (id_key id owed (and_second owed.is_request (is_expected id owed) (sym (ap (λ way. fits way id owed) c.in-Asks.is) ∙ fit)))

pub returns-in-Expects : goal.returns-in-Expects
returns-in-Expects c = λ owed fit.
    let id = c.args.id.now in
    subst (λ key. has_key key owed ≡ true) (sym (c.key-in-Expects.ensures ∙ ap (key_of Expected) c.mark_of-in-Expects.ensures)) (id_key id owed (sym (ap (λ way. fits way id owed) c.in-Expects.is) ∙ fit))

pub returns-in-MayHave : goal.returns-in-MayHave
returns-in-MayHave c = λ owed fit.
    let id = c.args.id.now in
    subst (λ key. has_key key owed ≡ true) (sym (c.key-in-MayHave.ensures ∙ ap (key_of Allowed) c.mark_of-in-MayHave.ensures)) (may_key id owed (sym (ap (λ way. fits way id owed) c.in-MayHave.is) ∙ fit))
