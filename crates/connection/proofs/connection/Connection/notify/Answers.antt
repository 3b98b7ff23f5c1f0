use Rattle.std.proofs.Common.{◌∷◌, List, subst, sym}
use Rattle.std.specs.Prelude.{OnOk}
use Rattle.connection_history.specs.declared.event.Event.{Event}
use Rattle.connection_history.specs.History.{History, noticed}
use Rattle.connection.specs.Connections.{Connection, StandsAfter}
use Rattle.connection.proofs.Stands.{with_desk, on_ok, stands_noticed}
use Rattle.connection.proofs.connection.Connection.notify.Goals as goal

pub returns-clause-ok : goal.returns-clause-ok
returns-clause-ok c =
    let inside : Connection = record { settings = c.self.inside.settings; stream = c.self.inside.stream; desk = c.self.inside.desk } in
    let h = noticed c.args.outgoing.now in
    subst (λ (old : Connection). (history : History) (told : List Event) → StandsAfter old history told → OnOk c.notify.result (StandsAfter (with_desk inside c.notify.new.self) (h ∷ history) told))
    c.self.view_is
    (λ history told stands. on_ok c.notify.result _ _
    (λ is. subst (λ e. StandsAfter (with_desk inside e) (h ∷ history) told) (sym is) (stands_noticed inside history told c.args.outgoing.now c.is_sayable.ensures stands)) c.notify.ensures.ok)
