use Rattle.std.proofs.Common.{◌∙◌}
use lib.Utf8.{encode}
use Rattle.connection_messages.proofs.Decimals.{negative_of-none}
use Rattle.connection_messages.proofs.read.number.negative.Goals as goal

pub returns-in_err-digits : goal.returns-in_err-digits
unfolding encode
returns-in_err-digits c = c.from_residual.ensures ∙ negative_of-none c.args.text.now c.in_err-digits.ensures.cases
