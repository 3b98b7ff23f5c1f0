-- The text, spelled out.
use Rattle.std.proofs.Common.{refl}
use Rattle.std.specs.Fmt.{digits}
use Rattle.json.specs.Print.{escape_byte}
use Rattle.connection_messages.specs.Texts.{code_text, error_rest, error_head, error_end}
use Rattle.owed_answers.proofs.slot.unreadable_text.Goals as goal

pub returns : goal.returns
unfolding code_text error_rest error_head error_end digits escape_byte
returns c = refl
