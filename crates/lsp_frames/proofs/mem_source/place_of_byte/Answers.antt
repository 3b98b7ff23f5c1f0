use Rattle.std.proofs.Common.{◌<◌, length, sym, ◌∙◌, arith}
use Rattle.lsp_frames.proofs.DeviceSteps.{first_byte_here}
use Rattle.lsp_frames.proofs.mem_source.place_of_byte.Goals as goal

pub returns-then-place-len : goal.returns-then-place-len
returns-then-place-len c =
    let inside : c.loop-piece.place.0 < length c.args.pieces.now = grind (arith, c.in-Some.ensures.lookup) in
    let more : c.loop-piece.place.1 < length c.in-Some.piece.now.items = omega (arith, c.if-place-len.true, c.len.ensures, c.in-Some.piece.now.ok.0) in
    sym (first_byte_here c.args.pieces.now c.loop-piece.place.0 c.loop-piece.place.1 c.in-Some.piece.now inside c.in-Some.ensures.lookup.1 more)
    ∙ c.loop-piece.invariant
