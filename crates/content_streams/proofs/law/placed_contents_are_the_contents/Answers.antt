use Rattle.content_streams.proofs.KeepingPlaces.{contents_alone}
use Rattle.content_streams.proofs.law.placed_contents_are_the_contents.Goals as goal

pub returns : goal.returns
returns c = contents_alone
