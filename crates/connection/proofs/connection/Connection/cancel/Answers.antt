use Rattle.std.proofs.Common.{◌≡◌, None, OnOk, subst, ap, ◌∙◌}
use Rattle.std.proofs.lemmas.Result.{on_ok_weaker, IfErr-weaker}
use Rattle.connection_history.specs.History.{answered}
use Rattle.connection_history.specs.Refusals.{refusal, after, cancel_answer, cancel_of}
use Rattle.connection_desk.specs.Desks.{answer_refused}
use Rattle.connection.specs.Connections.{Connection, IsRefusal, StandsAfter}
use Rattle.connection.proofs.Cancelled.{cancel_refused, cancelled}
use Rattle.connection.proofs.connection.Connection.cancel.Goals as goal

pub returns-clause-ok : goal.returns-clause-ok
returns-clause-ok c =
    λ history told.
    let n = c.args.number in
    let seen : Connection = record { settings = c.self.inside.settings; stream = c.self.inside.stream; desk = c.self.inside.desk } in
    let after_it : Connection = record { settings = c.self.inside.settings; stream = c.self.inside.stream; desk = c.cancel.new.self } in
    subst (λ (s : Connection). StandsAfter s history told → OnOk c.cancel.result
    ((refusal s.settings.cancels history (answered n (cancel_answer s.settings.cancels n history)) ≡ None)
    × StandsAfter after_it (after history (cancel_of s.settings.cancels n history)) told))
    c.self.view_is
    (λ stands. on_ok_weaker c.cancel.result (λ done. cancelled seen history told n c.cancel.new.self stands done) c.cancel.ensures.ok)

pub returns-clause-err : goal.returns-clause-err
returns-clause-err c =
    let n = c.args.number in
    let seen : Connection = record { settings = c.self.inside.settings; stream = c.self.inside.stream; desk = c.self.inside.desk } in
    IfErr-weaker c.cancel.result
    (λ why. (c.cancel.new.self ≡ c.self.inside.desk) × IsRefusal why (answer_refused n c.self.inside.desk.state))
    _
    (λ why refused. (
      ap (λ d. let s : Connection = record { settings = c.self.inside.settings; stream = c.self.inside.stream; desk = d } in s) refused.0 ∙ c.self.view_is,
      λ history told.
          subst (λ (s : Connection). StandsAfter s history told → IsRefusal why (refusal s.settings.cancels history (answered n (cancel_answer s.settings.cancels n history))))
          c.self.view_is
          (λ stands. subst (IsRefusal why) (cancel_refused seen.settings history told n seen.desk stands.desk) refused.1),
    ))
    c.cancel.ensures.err
