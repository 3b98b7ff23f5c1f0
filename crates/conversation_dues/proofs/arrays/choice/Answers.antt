use Rattle.conversation_dues.proofs.Left.{expected_choice}
use Rattle.conversation_contents.specs.Left.{index_in}
use Rattle.conversation_dues.proofs.arrays.choice.Goals as goal

pub returns-in-Expected : goal.returns-in-Expected
returns-in-Expected c = λ left is. expected_choice c.args.which c.args.id.now left (index_in c.args.places.now c.first.result) c.in-Expected.is (c.first.ensures left is)
