use Rattle.std.proofs.Common.{◌≡◌, ◌∷◌, List, length, subst}
use Rattle.std.specs.Prelude.{OnOk, IfErr, None}
use Rattle.connection_history.specs.declared.event.Event.{Event}
use Rattle.connection_history.specs.History.{History, called_all}
use Rattle.connection_history.specs.Refusals.{refusal}
use Rattle.connection_desk.specs.Desks.{after_calls}
use Rattle.connection.specs.Connections.{Connection, StandsAfter, IsRefusal}
use Rattle.connection.proofs.Stands.{with_desk, says_ok, says_err, call_same, stands_called_all}
use Rattle.connection.proofs.connection.Connection.call_batch.Goals as goal

pub returns-clause-ok : goal.returns-clause-ok
returns-clause-ok c =
    let inside : Connection = record { settings = c.self.inside.settings; stream = c.self.inside.stream; desk = c.self.inside.desk } in
    let h = called_all c.args.number c.args.outgoings.now in
    subst (λ (old : Connection). (history : History) (told : List Event) → StandsAfter old history told → OnOk c.call_batch.result ((refusal old.settings.cancels history h ≡ None) × StandsAfter (with_desk inside c.call_batch.new.self) (h ∷ history) told))
    c.self.view_is
    (says_ok inside c.call_batch.new.self (after_calls c.args.number c.args.outgoings.now inside.desk) h _ c.call_batch.result (call_same inside c.args.number (length c.args.outgoings.now)) (λ history told stands. stands_called_all inside history told c.args.number c.args.outgoings.now c.are_sayable.ensures stands) c.call_batch.ensures.ok)

pub returns-clause-err : goal.returns-clause-err
returns-clause-err c =
    let inside : Connection = record { settings = c.self.inside.settings; stream = c.self.inside.stream; desk = c.self.inside.desk } in
    let h = called_all c.args.number c.args.outgoings.now in
    subst (λ (old : Connection). IfErr c.call_batch.result (λ why. (with_desk inside c.call_batch.new.self ≡ old) × ((history : History) (told : List Event) → StandsAfter old history told → IsRefusal why (refusal old.settings.cancels history h))))
    c.self.view_is
    (says_err inside c.call_batch.new.self h _ c.call_batch.result (call_same inside c.args.number (length c.args.outgoings.now)) c.call_batch.ensures.err)
