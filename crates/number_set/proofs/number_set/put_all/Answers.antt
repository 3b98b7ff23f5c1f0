use Rattle.std.proofs.Common.{sym, ◌∙◌}
use Rattle.number_set.proofs.Gathered.{gathers-room, gathers-in, gathers-out, gathers-all}
use Rattle.number_set.proofs.number_set.put_all.Goals as goal
use Rattle.number_set.proofs.number_set.put_all.Goals.{then-contains, else-contains}

pub insert-requires : goal.insert-requires
insert-requires c =
    gathers-room c.args.old.now c.args.first c.args.end c.loop-number.number c.loop-number.set c.loop-number.invariant c.loop-number-test.true

pub loop-number-preserved : goal.loop-number-preserved
loop-number-preserved c =
    let before = c.loop-number in
    elim c.if-contains.branch [
      | then-contains w ↦ gathers-in c.args.old.now c.args.first c.args.end before.number before.set c.if-contains.set before.invariant c.loop-number-test.true (sym c.contains.ensures ∙ w.if-contains.true) (w.set-is ∙ w.insert.ensures)
      | else-contains w ↦ rw w.set-is (gathers-out c.args.old.now c.args.first c.args.end before.number before.set before.invariant c.loop-number-test.true (sym c.contains.ensures ∙ w.if-contains.false))
    ]

pub returns : goal.returns
returns c =
    gathers-all c.args.old.now c.args.first c.args.end c.loop-number.number c.loop-number.set c.loop-number.invariant c.loop-number-test.false
