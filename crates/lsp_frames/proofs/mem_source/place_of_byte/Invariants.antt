use Rattle.std.proofs.Common.{◌≡◌, ◌-◌, length}
use Rattle.lsp_frames.specs.MemDevices.{from_first_byte, pieces_from}
use Rattle.lsp_frames.proofs.mem_source.place_of_byte.Given as goal

-- from here on the next byte is the same
abbrev pub invariant-loop-piece : goal.invariant-loop-piece
invariant-loop-piece l =
    from_first_byte (pieces_from l.pieces l.place.0 l.place.1) ≡ from_first_byte (pieces_from l.fn.pieces l.fn.at l.fn.start)

abbrev pub decreases-loop-piece : goal.decreases-loop-piece
decreases-loop-piece l = length l.pieces - l.place.0
