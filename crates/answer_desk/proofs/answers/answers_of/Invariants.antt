use Rattle.std.proofs.Common.{◌≡◌, ◌++◌, map, drop}
use Rattle.std.specs.List.{filter_map}
use Rattle.rpc_messages.specs.Dues.{answer_seen}
use Rattle.answer_desk.specs.Waiting.{part_answer}
use Rattle.answer_desk.specs.Seen.{part_of}
use Rattle.answer_desk.proofs.answers.answers_of.Given as goal

abbrev pub invariant-loop-due : goal.invariant-loop-due
invariant-loop-due l =
    map answer_seen l.answers.items ++ filter_map part_answer (map (part_of l.numbers) (drop l.due-index l.dues))
    ≡ filter_map part_answer (map (part_of l.numbers) l.dues)
