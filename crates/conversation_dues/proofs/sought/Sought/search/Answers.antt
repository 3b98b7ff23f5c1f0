use Rattle.conversation_dues.proofs.Marked.{among_none, awaited_none}
use Rattle.conversation_dues.proofs.sought.Sought.search.Goals as goal

pub returns-in-Some : goal.returns-in-Some
returns-in-Some c = λ due none. awaited_none c.among.result c.in-Some.mark due (c.among.ensures c.args.id.now due) (c.in-Some.ensures due) none

pub returns-in-None : goal.returns-in-None
returns-in-None c = λ due none. among_none c.among-in-None.result c.mark.result due (c.among-in-None.ensures c.args.id.now due) (c.mark.ensures due) none
