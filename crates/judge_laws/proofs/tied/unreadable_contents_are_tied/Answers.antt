use Rattle.judge_laws.proofs.Ties.{contents_are}
use Rattle.judge_laws.proofs.tied.unreadable_contents_are_tied.Goals as goal

pub returns : goal.returns
returns c = contents_are
