-- What a step's value is in the code: the value, the error that ends the method, or want of memory.
use Rattle.std.specs.Prelude.{◌≡◌, Result, Ok, Err, Vec, List}
use Rattle.std.specs.declared.alloc.Global.{Global}
use Rattle.message_ids.specs.declared.standard.Standard.{Standard}
use Rattle.method_templates.specs.declared.filling.FillFault.{FillFault}
use Rattle.method_templates.specs.declared.filling.FillFault.TheVariants as fault
use Rattle.handler_future.specs.Act.{error_at}
use Rattle.handler_future.specs.declared.fault.StepFault.{StepFault}
use Rattle.handler_future.specs.declared.fault.StepFault.TheVariants.{Ended, Memory}

-- The result is the value or the error as wanted, unless memory was wanting.
abbrev pub Gives : {A : Type 0} → Result A Standard → Result A StepFault → Type 0
Gives wanted (Ok a) = wanted ≡ Ok a
Gives wanted (Err (Ended s)) = wanted ≡ Err s
Gives wanted (Err Memory) = Unit {0}

-- the same of a row of values
abbrev pub GivesItems : {A : Type 0} → Result (List A) Standard → Result (Vec A Global) StepFault → Type 0
GivesItems wanted (Ok v) = wanted ≡ Ok v.items
GivesItems wanted (Err (Ended s)) = wanted ≡ Err s
GivesItems wanted (Err Memory) = Unit {0}

-- what a template that has no value does to a method
abbrev pub IsStepFault : FillFault → StepFault → Type 0
IsStepFault fault.Params f = f ≡ Ended (error_at fault.Params)
IsStepFault fault.Missing f = f ≡ Ended (error_at fault.Missing)
IsStepFault fault.Memory f = f ≡ Memory
