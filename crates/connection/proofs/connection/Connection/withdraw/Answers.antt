use Rattle.std.proofs.Common.{◌≡◌, ◌∷◌, List, subst}
use Rattle.std.specs.Prelude.{OnOk, IfErr, None}
use Rattle.connection_history.specs.declared.event.Event.{Event}
use Rattle.connection_history.specs.History.{History, withdrew}
use Rattle.connection_history.specs.Refusals.{by_of, refusal}
use Rattle.connection_desk.specs.Desks.{after_withdrawal}
use Rattle.connection.specs.Connections.{Connection, StandsAfter, IsRefusal}
use Rattle.connection.proofs.Stands.{with_desk, says_ok, says_err, withdraw_same, stands_withdrew}
use Rattle.connection.proofs.connection.Connection.withdraw.Goals as goal

pub returns-clause-ok : goal.returns-clause-ok
returns-clause-ok c =
    let inside : Connection = record { settings = c.self.inside.settings; stream = c.self.inside.stream; desk = c.self.inside.desk } in
    let h = withdrew (by_of inside.settings.cancels) c.args.key in
    subst (λ (old : Connection). (history : History) (told : List Event) → StandsAfter old history told → OnOk c.withdraw.result ((refusal old.settings.cancels history (withdrew (by_of old.settings.cancels) c.args.key) ≡ None) × StandsAfter (with_desk inside c.withdraw.new.self) (withdrew (by_of old.settings.cancels) c.args.key ∷ history) told))
    c.self.view_is
    (says_ok inside c.withdraw.new.self (after_withdrawal c.args.key inside.desk) h _ c.withdraw.result (withdraw_same inside c.args.key) (λ history told stands. stands_withdrew inside history told c.args.key stands) c.withdraw.ensures.ok)

pub returns-clause-err : goal.returns-clause-err
returns-clause-err c =
    let inside : Connection = record { settings = c.self.inside.settings; stream = c.self.inside.stream; desk = c.self.inside.desk } in
    let h = withdrew (by_of inside.settings.cancels) c.args.key in
    subst (λ (old : Connection). IfErr c.withdraw.result (λ why. (with_desk inside c.withdraw.new.self ≡ old) × ((history : History) (told : List Event) → StandsAfter old history told → IsRefusal why (refusal old.settings.cancels history (withdrew (by_of old.settings.cancels) c.args.key)))))
    c.self.view_is
    (says_err inside c.withdraw.new.self h _ c.withdraw.result (withdraw_same inside c.args.key) c.withdraw.ensures.err)
