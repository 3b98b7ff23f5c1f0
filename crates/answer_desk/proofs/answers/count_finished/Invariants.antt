use Rattle.std.proofs.Common.{◌≡◌, map, take, true}
use Rattle.std.specs.List.{list_all}
use Rattle.answer_desk.specs.Waiting.{is_finished}
use Rattle.answer_desk.specs.Seen.{part_of}
use Rattle.answer_desk.proofs.answers.count_finished.Given as goal

abbrev pub invariant-loop-index : goal.invariant-loop-index
invariant-loop-index l = list_all is_finished (take l.index (map (part_of l.numbers) l.dues)) ≡ true
