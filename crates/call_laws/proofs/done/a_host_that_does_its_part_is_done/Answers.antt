use Rattle.call_laws.proofs.PartDone.{done}
use Rattle.call_laws.proofs.done.a_host_that_does_its_part_is_done.Goals as goal

pub returns : goal.returns
returns c = done c.each_call_is_told_once.ensures
