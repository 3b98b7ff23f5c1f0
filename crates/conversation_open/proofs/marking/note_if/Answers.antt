use Rattle.conversation_open.proofs.Noting.{flag_noted, flag_kept, flag_others, no_flag}
use Rattle.conversation_open.proofs.marking.note_if.Goals as goal

pub returns-then-holds-clause-noted : goal.returns-then-holds-clause-noted
returns-then-holds-clause-noted c = flag_noted c.add.result c.add.new.self c.args.marks.now c.args.holds c.args.mark c.args.number c.if-holds.true c.add.ensures.ok c.add.ensures.err

pub returns-then-holds-clause-kept : goal.returns-then-holds-clause-kept
returns-then-holds-clause-kept c = flag_kept c.add.result c.add.new.self c.args.marks.now c.args.holds c.args.mark c.args.number c.if-holds.true c.add.ensures.ok c.add.ensures.err

pub returns-then-holds-clause-others : goal.returns-then-holds-clause-others
returns-then-holds-clause-others c = flag_others c.add.result c.add.new.self c.args.marks.now c.args.holds c.args.mark c.args.number c.if-holds.true c.add.ensures.ok c.add.ensures.err

pub returns-else-holds-clause-noted : goal.returns-else-holds-clause-noted
returns-else-holds-clause-noted c = no_flag c.args.marks.now c.args.holds c.args.mark c.args.number c.if-holds.false
