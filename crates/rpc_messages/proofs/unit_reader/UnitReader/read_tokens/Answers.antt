use Rattle.std.proofs.Common.{sym, ap, arith}
use Rattle.rpc_messages.specs.Unit.{unit_of_reading}
use Rattle.rpc_messages.proofs.unit_reader.UnitReader.read_tokens.Goals as goal

pub returns-in-Err-Refused : goal.returns-in-Err-Refused
returns-in-Err-Refused c = sym (ap unit_of_reading (c.read_text-unit.ensures.refused (grind arith)))
