-- The names of faults, and where one stands.
use Rattle.std.specs.Prelude.{ℕ, List, codes}
use Rattle.table_reading.specs.declared.fault.FaultKind.{FaultKind}
use Rattle.table_reading.specs.declared.fault.FaultKind.TheVariants as fault
use Rattle.table_reading.specs.declared.fault.TableFault.{TableFault}

abbrev pub fault_name : FaultKind → List ℕ
fault_name fault.NotToml = codes "NotToml"
fault_name fault.Version = codes "Version"
fault_name fault.Field = codes "Field"
fault_name fault.Name = codes "Name"
fault_name fault.Step = codes "Step"
fault_name fault.Register = codes "Register"
fault_name fault.Code = codes "Code"
fault_name fault.Limit = codes "Limit"
fault_name fault.Memory = codes "Memory"

-- a fault of the document, of a method, and of a step of a method; places count from 1
abbrev pub in_document : FaultKind → TableFault
in_document kind = record { kind = kind; method = 0; step = 0 }

abbrev pub in_method : ℕ → FaultKind → TableFault
in_method method kind = record { kind = kind; method = method; step = 0 }

abbrev pub in_step : ℕ → ℕ → FaultKind → TableFault
in_step method step kind = record { kind = kind; method = method; step = step }
