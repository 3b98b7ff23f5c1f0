use Rattle.std.proofs.Common.{◌≡◌, ◌++◌, flat_map, take}
use Rattle.stream_framing.specs.Framed.{framed}
use Rattle.peer_session.proofs.writing.put_texts.Given as goal

abbrev pub invariant-loop-text : goal.invariant-loop-text
invariant-loop-text l = l.bytes.items ≡ l.initial.bytes.items ++ flat_map (framed l.framing) (take l.text-index l.texts)
