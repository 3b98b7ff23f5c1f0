use Rattle.std.proofs.Common.{ap}
use Rattle.json_texts.proofs.ReadBack.{value_of_no_text}
use Rattle.connection_messages.specs.Reading.{unit_of_reading}
use Rattle.connection_messages.specs.declared.read.unit.TheConstants.{MOST_DEPTH_IN}
use Rattle.connection_messages.proofs.read.unit.UnitReader.read_content.Goals as goal

pub returns-in_default-clause-unit : goal.returns-in_default-clause-unit
returns-in_default-clause-unit c = ap (unit_of_reading c.args.self.now) (value_of_no_text MOST_DEPTH_IN c.args.content.now (λ utf8. absurd (c.in_default.ensures utf8)))
