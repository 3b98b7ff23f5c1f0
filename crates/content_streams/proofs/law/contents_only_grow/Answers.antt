use Rattle.content_streams.proofs.Laws as laws
use Rattle.content_streams.proofs.law.contents_only_grow.Goals as goal

pub returns : goal.returns
returns c = laws.contents_grow
