use Rattle.std.proofs.Common.{◌≡◌, ◌∷◌, List, subst}
use Rattle.std.specs.Prelude.{OnOk, IfErr, None}
use Rattle.connection_history.specs.declared.event.Event.{Event}
use Rattle.connection_history.specs.History.{History, called}
use Rattle.connection_history.specs.Refusals.{refusal}
use Rattle.connection_desk.specs.Desks.{after_call}
use Rattle.connection.specs.Connections.{Connection, StandsAfter, IsRefusal}
use Rattle.connection.proofs.Stands.{with_desk, says_ok, says_err, call_same, stands_called}
use Rattle.connection.proofs.connection.Connection.call.Goals as goal

pub returns-clause-ok : goal.returns-clause-ok
returns-clause-ok c =
    let inside : Connection = record { settings = c.self.inside.settings; stream = c.self.inside.stream; desk = c.self.inside.desk } in
    let h = called c.args.number c.args.outgoing.now in
    subst (λ (old : Connection). (history : History) (told : List Event) → StandsAfter old history told → OnOk c.call.result ((refusal old.settings.cancels history h ≡ None) × StandsAfter (with_desk inside c.call.new.self) (h ∷ history) told))
    c.self.view_is
    (says_ok inside c.call.new.self (after_call c.args.number c.args.outgoing.now inside.desk) h _ c.call.result (call_same inside c.args.number 1) (λ history told stands. stands_called inside history told c.args.number c.args.outgoing.now c.is_sayable.ensures stands) c.call.ensures.ok)

pub returns-clause-err : goal.returns-clause-err
returns-clause-err c =
    let inside : Connection = record { settings = c.self.inside.settings; stream = c.self.inside.stream; desk = c.self.inside.desk } in
    let h = called c.args.number c.args.outgoing.now in
    subst (λ (old : Connection). IfErr c.call.result (λ why. (with_desk inside c.call.new.self ≡ old) × ((history : History) (told : List Event) → StandsAfter old history told → IsRefusal why (refusal old.settings.cancels history h))))
    c.self.view_is
    (says_err inside c.call.new.self h _ c.call.result (call_same inside c.args.number 1) c.call.ensures.err)
