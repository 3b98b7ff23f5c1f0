use Rattle.std.proofs.Common.{◌≡◌, ◌++◌, [], length, map, refl, ap, sym, ◌∙◌, arith, append-nil}
use Rattle.connection_history.specs.declared.event.Event.TheVariants as event
use Rattle.connection_desk.specs.Inner.{untold_of, reached_to}
use Rattle.connection_desk.proofs.settling.tell_more_cancels.Goals as goal

pub returns-clause-untold : goal.returns-clause-untold
returns-clause-untold c =
    let none : reached_to c.args.most c.args.id.now c.loop-number.theirs.calls ≡ [] = c.in_default.ensures.rest refl in
    sym (append-nil (untold_of c.loop-number.events)) ∙ ap (λ ks. untold_of c.loop-number.events ++ map event.Cancelled ks) (sym none) ∙ c.loop-number.invariant.untold

pub returns-clause-room : goal.returns-clause-room
returns-clause-room c =
    let none : reached_to c.args.most c.args.id.now c.loop-number.theirs.calls ≡ [] = c.in_default.ensures.rest refl in
    omega (arith, ap length none, c.loop-number.invariant.room)
