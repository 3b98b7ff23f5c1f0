-- A finding, as C has it: each name has a number.
use Rattle.std.specs.Prelude.{ℕ}
use Rattle.conversation_rules.specs.declared.finding.Finding.{Finding}
use Rattle.conversation_rules.specs.declared.finding.Rule.{Rule}
use Rattle.conversation_rules.specs.declared.finding.Rule.TheVariants.{Head, NotJson, Charset, CutOff, LineEnd, Object, Version, Method, Params, Id, Outcome, Error, BothKinds, Twice, EmptyArray, Batch, NotOwed, NotAsArray, IdFraction, IdNull, IdForm, IdAgain, RpcName, Code, CancelledCode, CancelParams, CancelUnknown, CancelInitialize, AfterCancel, ParamsObject, ResultObject, Unanswered, NotJudged}
use Rattle.conversation_rules.specs.declared.level.Level.{Level}
use Rattle.conversation_rules.specs.declared.level.Level.TheVariants.{Must, Should, Note}
use Rattle.conversation_rules.specs.declared.side.Side.{Side}
use Rattle.conversation_rules.specs.declared.side.Side.TheVariants.{Client, Server}
use Rattle.judge_calls.specs.declared.finding.HostFinding.{HostFinding}

abbrev pub side_number : Side → ℕ
side_number Client = 0
side_number Server = 1

abbrev pub level_number : Level → ℕ
level_number Must = 0
level_number Should = 1
level_number Note = 2

-- as the table of docs/judge.md has them
abbrev pub rule_number : Rule → ℕ
rule_number Head = 0
rule_number NotJson = 1
rule_number Charset = 2
rule_number CutOff = 3
rule_number LineEnd = 4
rule_number Object = 5
rule_number Version = 6
rule_number Method = 7
rule_number Params = 8
rule_number Id = 9
rule_number Outcome = 10
rule_number Error = 11
rule_number EmptyArray = 12
rule_number Batch = 13
rule_number NotOwed = 14
rule_number NotAsArray = 15
rule_number IdFraction = 16
rule_number IdNull = 17
rule_number IdForm = 18
rule_number IdAgain = 19
rule_number RpcName = 20
rule_number Code = 21
rule_number CancelledCode = 22
rule_number CancelParams = 23
rule_number CancelUnknown = 24
rule_number CancelInitialize = 25
rule_number AfterCancel = 26
rule_number Unanswered = 27
rule_number NotJudged = 28
rule_number BothKinds = 29
rule_number Twice = 30
rule_number ParamsObject = 31
rule_number ResultObject = 32

-- 0: a connection of this library keeps it, whatever its host does; 1: its host keeps it; 2: it is no rule
abbrev pub whose_number : Rule → ℕ
whose_number Head = 0
whose_number NotJson = 0
whose_number Charset = 0
whose_number CutOff = 1
whose_number LineEnd = 1
whose_number Object = 0
whose_number Version = 0
whose_number Method = 0
whose_number Params = 0
whose_number Id = 0
whose_number Outcome = 0
whose_number Error = 0
whose_number BothKinds = 0
whose_number Twice = 0
whose_number EmptyArray = 0
whose_number Batch = 1
whose_number NotOwed = 0
whose_number NotAsArray = 0
whose_number IdFraction = 0
whose_number IdNull = 0
whose_number IdForm = 0
whose_number IdAgain = 0
whose_number RpcName = 1
whose_number Code = 1
whose_number CancelledCode = 1
whose_number CancelParams = 1
whose_number CancelUnknown = 1
whose_number CancelInitialize = 1
whose_number AfterCancel = 1
whose_number ParamsObject = 1
whose_number ResultObject = 1
whose_number Unanswered = 1
whose_number NotJudged = 2

abbrev pub as_c : Finding → HostFinding
as_c finding = record {
  side = side_number finding.side;
  rule = rule_number finding.rule;
  level = level_number finding.level;
  whose = whose_number finding.rule;
  number = finding.number;
  offset = finding.offset;
  entry = finding.entry;
}
