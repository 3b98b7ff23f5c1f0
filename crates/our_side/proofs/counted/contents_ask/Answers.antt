use Rattle.std.proofs.Common.{refl}
use Rattle.json.specs.Print.{print_from}
use Rattle.json_texts.specs.Texts.{json_text}
use Rattle.our_side.proofs.counted.contents_ask.Goals as goal

pub returns-clause-null_params : goal.returns-clause-null_params
unfolding json_text print_from
returns-clause-null_params c = refl
