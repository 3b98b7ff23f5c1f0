use Rattle.std.proofs.Common.{◌≡◌, map, take}
use Rattle.std.specs.List.{filter_map}
use Rattle.answer_desk.specs.Waiting.{unit_text}
use Rattle.answer_desk.specs.Seen.{waiting_of}
use Rattle.answer_desk.proofs.front.texts_of.Given as goal

abbrev pub invariant-loop-index : goal.invariant-loop-index
invariant-loop-index l = l.texts.items ≡ filter_map unit_text (map (waiting_of l.numbers) (take l.index l.units.items))
