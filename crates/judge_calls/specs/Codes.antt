-- What the clauses of the calls say of a code.
use Rattle.std.specs.Prelude.{ℤ, pos, Result, Ok, Err}
use Rattle.judge_calls.specs.declared.code.NotSeen.{NotSeen}
use Rattle.judge_calls.specs.declared.code.NotSeen.TheVariants.{Memory, Settings}

-- It was done, or why it wasn't.
abbrev pub Said : Type 0
Said = Result (Unit {0}) NotSeen

-- BM_OK, BM_NO_MEMORY and BM_SETTINGS
abbrev pub code_of_said : Said → ℤ
code_of_said (Ok _) = pos 0
code_of_said (Err Memory) = pos 1
code_of_said (Err Settings) = pos 7
