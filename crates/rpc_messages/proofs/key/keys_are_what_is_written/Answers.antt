use Rattle.rpc_messages.proofs.KeyLemmas.{IsKeyOf-from_key_of, key_of-IsKeyOf}
use Rattle.rpc_messages.proofs.key.keys_are_what_is_written.Goals as goal

pub returns : goal.returns
returns c text n t = (IsKeyOf-from_key_of text n t, key_of-IsKeyOf text n t)
