use Rattle.std.proofs.Common.{arith}
use Rattle.connection.specs.Settings.{rules_of}
use Rattle.our_side.specs.Met.{chosen, question}
use Rattle.our_side.proofs.Worked.{IsRead, written_behind, in_time, is_sayable}
use Rattle.our_side.proofs.met.a_connection_that_answers_is_our_side.Goals as goal

pub returns : goal.returns
returns c =
    let is_read : IsRead = c.a_call_reads_back.ensures (rules_of chosen) 1 question (omega arith) is_sayable in
    record { written = written_behind is_read; in_time = in_time is_read }
