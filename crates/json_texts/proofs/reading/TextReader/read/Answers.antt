use Rattle.std.proofs.Common.{option_map, ap}
use Rattle.json_texts.specs.declared.json_text.TheConstants.{MOST_DEPTH_OUT}
use Rattle.json_texts.specs.Texts.{json_text}
use Rattle.json_texts.proofs.ReadBack.{value_of_no_text}
use Rattle.json_texts.proofs.reading.TextReader.read.Goals as goal

pub returns-in_default : goal.returns-in_default
returns-in_default c = ap (option_map json_text) (value_of_no_text MOST_DEPTH_OUT c.args.bytes.now (λ utf8. absurd (c.in_default.ensures utf8)))
