use Rattle.std.proofs.Common.{◌≡◌, ◌≤◌, ◌++◌, map, take, length}
use Rattle.std.specs.List.{filter_map, flat_map}
use Rattle.lsp_frames.specs.Frames.{written}
use Rattle.answer_desk.specs.Waiting.{unit_text}
use Rattle.answer_desk.specs.Seen.{waiting_of}
use Rattle.answer_desk.proofs.front.put_frames.Given as goal

abbrev pub invariant-loop-index : goal.invariant-loop-index
invariant-loop-index l =
    let texts = filter_map unit_text (map (waiting_of l.numbers) (take l.index l.units.items)) in
    record {
      bytes : l.bytes.items ≡ l.initial.bytes.items ++ flat_map written texts;
      answers : l.answers ≡ length texts;
      few : l.answers ≤ l.index;
    }
