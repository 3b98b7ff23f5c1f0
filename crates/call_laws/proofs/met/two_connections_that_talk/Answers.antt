use Rattle.std.proofs.Common.{arith}
use Rattle.connection.specs.Settings.{rules_of}
use Rattle.message_ids.specs.declared.id.Id.TheVariants.{Unsigned}
use Rattle.call_laws.specs.Met.{chosen}
use Rattle.call_laws.specs.Rows.{question, reply}
use Rattle.call_laws.proofs.Worked.{is_sayable, is_text, they_talk}
use Rattle.call_laws.proofs.met.two_connections_that_talk.Goals as goal

pub returns : goal.returns
returns c = they_talk (c.a_call_reads_back.ensures (rules_of chosen) 1 question (omega arith) is_sayable, c.an_answer_reads_back.ensures (rules_of chosen) (Unsigned 1) reply (omega arith) is_text)
