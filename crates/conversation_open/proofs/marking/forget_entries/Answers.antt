use Rattle.conversation_open.proofs.marking.forget_entries.Goals as goal

pub loop-entry-smaller : goal.loop-entry-smaller
loop-entry-smaller c = c.in-Some.ensures.lost.less
