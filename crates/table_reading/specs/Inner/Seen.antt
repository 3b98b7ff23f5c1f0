-- What the parts of a step are seen as, and how what is made of them is told.
use Rattle.std.specs.Prelude.{◌≡◌, ◌≢◌, ℕ, Bool, true, false, nat_le, Option, Some, None}
use Rattle.table_reading.specs.declared.fault.FaultKind.{FaultKind}
use Rattle.table_reading.specs.declared.fault.FaultKind.TheVariants as fault
use Rattle.table_reading.specs.declared.call.Call.{Call}
use Rattle.table_reading.specs.declared.parts.Parts.{Parts}
use Rattle.table_reading.specs.declared.parts.Parts.TheVariants as parts
use Rattle.method_templates.specs.declared.step.ListedCall.{ListedCall}
use Rattle.method_templates.specs.declared.step.Step.TheVariants as step
use Rattle.toml.specs.Data.{Items}
use Rattle.table_reading.specs.Judged.{last_fault}
use Rattle.method_templates.specs.Steps.{Step}

abbrev pub seen_call : Call → ListedCall
seen_call c = record { method = c.method.now; params = c.params }

-- what the parts say
abbrev pub seen : Parts → Step
seen (parts.Set to value) = step.Set to.now value
seen (parts.Add to left right) = step.Add to.now left right
seen (parts.Skip left right count) = step.Skip left right count
seen (parts.Call to call on_error) = step.Call to.now call.method.now call.params on_error
seen (parts.Calls to list on_error) = step.Calls to.now list on_error
seen (parts.Each to over method on_error) = step.Each to.now over method.now on_error
seen (parts.Notify call) = step.Notify call.method.now call.params
seen (parts.Answer value) = step.Answer value
seen (parts.Fail code message) = step.Fail code message.now

-- the fault is that of a rule of registers that is broken, or tells of memory
abbrev pub Breaks : Bool → FaultKind → Type 0
Breaks kept f = f ≢ fault.Memory → (kept ≡ false) × (f ≡ fault.Register)

-- the step is the one that is said, which keeps the rules of registers and codes after the steps before it
abbrev pub IsMade : Items → Step → Step → Type 0
IsMade earlier said made = (made ≡ said) × (last_fault earlier said ≡ None)

-- the fault is that of such a rule that is broken, or tells of memory
abbrev pub IsRefused : Items → Step → FaultKind → Type 0
IsRefused earlier said f = f ≢ fault.Memory → last_fault earlier said ≡ Some f

-- of a template, whether it is at most so many levels deep; none where it is no template
abbrev pub within_if : Bool → ℕ → ℕ → Option Bool
within_if true levels depth = Some (nat_le depth levels)
within_if false levels depth = None
