-- What the clauses of the calls say of a code.
use Rattle.std.specs.Prelude.{ℤ, pos, Result, Ok, Err}
use Rattle.connection_history.specs.declared.refused.Refused.TheVariants.{Memory, NotOpen, NotWaiting, Over, Empty, Full}
use Rattle.host_calls.specs.declared.code.Why.{Why}
use Rattle.host_calls.specs.declared.code.Why.TheVariants.{Refused, NotText, NotJson, Settings}

-- It was done, or why it wasn't.
abbrev pub Said : Type 0
Said = Result (Unit {0}) Why

abbrev pub code_of_said : Said → ℤ
code_of_said (Ok _) = pos 0
code_of_said (Err (Refused Memory)) = pos 1
code_of_said (Err (Refused NotOpen)) = pos 2
code_of_said (Err (Refused NotWaiting)) = pos 3
code_of_said (Err (Refused Over)) = pos 4
code_of_said (Err NotJson) = pos 5
code_of_said (Err NotText) = pos 6
code_of_said (Err Settings) = pos 7
code_of_said (Err (Refused Empty)) = pos 8
code_of_said (Err (Refused Full)) = pos 9
