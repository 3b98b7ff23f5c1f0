use Rattle.std.proofs.Common.{arith}
use Rattle.std.specs.Char.{digit_value}
use Rattle.json_texts.specs.declared.escapes.TheConstants.{DIGITS}
use Rattle.json_texts.proofs.Lanes.{tabled}
use Rattle.json_texts.proofs.escapes.digit.Goals as goal

pub returns : goal.returns
returns c = tabled DIGITS digit_value tt c.args.letter (omega arith)
