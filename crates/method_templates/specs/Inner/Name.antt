-- What a name holds.
use Rattle.std.specs.Prelude.{◌≤◌, ℕ, List, take}
use Rattle.method_templates.specs.declared.limits.TheConstants.{LONGEST_REGISTER}
use Rattle.method_templates.specs.declared.name.NameForm.{NameForm}
use Rattle.method_templates.specs.declared.name.NameForm.TheVariants.{Short, Long}

abbrev pub bytes_of : NameForm → List ℕ
bytes_of (Short bytes len) = take len bytes
bytes_of (Long text) = text

-- no more bytes count than there are
abbrev pub IsName : NameForm → Type 0
IsName (Short bytes len) = len ≤ LONGEST_REGISTER
IsName (Long text) = Unit {0}
