use Rattle.std.proofs.Common.{◌≡◌, ◌∷◌, List, Some, subst}
use Rattle.std.specs.Prelude.{OnOk, IfErr, None}
use Rattle.connection_messages.specs.declared.answer.Answer.TheVariants.{Result}
use Rattle.connection_history.specs.declared.event.Event.{Event}
use Rattle.connection_history.specs.History.{History, answered}
use Rattle.connection_history.specs.Refusals.{refusal}
use Rattle.connection_desk.specs.Desks.{after_answer}
use Rattle.connection.specs.Connections.{Connection, StandsAfter, IsRefusal}
use Rattle.connection.proofs.Stands.{with_desk, says_ok, says_err, answer_same, stands_answered}
use Rattle.connection.proofs.connection.Connection.answer_result.Goals as goal

pub returns-clause-ok : goal.returns-clause-ok
returns-clause-ok c =
    let inside : Connection = record { settings = c.self.inside.settings; stream = c.self.inside.stream; desk = c.self.inside.desk } in
    let h = answered c.args.number (Some (Result c.args.text.now)) in
    subst (λ (old : Connection). (history : History) (told : List Event) → StandsAfter old history told → OnOk c.answer_result.result ((refusal old.settings.cancels history h ≡ None) × StandsAfter (with_desk inside c.answer_result.new.self) (h ∷ history) told))
    c.self.view_is
    (says_ok inside c.answer_result.new.self (after_answer c.args.number (Some (Result c.args.text.now)) inside.desk) h _ c.answer_result.result (answer_same inside c.args.number (Result c.args.text.now)) (λ history told stands. stands_answered inside history told c.args.number (Some (Result c.args.text.now)) c.requires stands) c.answer_result.ensures.ok)

pub returns-clause-err : goal.returns-clause-err
returns-clause-err c =
    let inside : Connection = record { settings = c.self.inside.settings; stream = c.self.inside.stream; desk = c.self.inside.desk } in
    let h = answered c.args.number (Some (Result c.args.text.now)) in
    subst (λ (old : Connection). IfErr c.answer_result.result (λ why. (with_desk inside c.answer_result.new.self ≡ old) × ((history : History) (told : List Event) → StandsAfter old history told → IsRefusal why (refusal old.settings.cancels history h))))
    c.self.view_is
    (says_err inside c.answer_result.new.self h _ c.answer_result.result (answer_same inside c.args.number (Result c.args.text.now)) c.answer_result.ensures.err)
