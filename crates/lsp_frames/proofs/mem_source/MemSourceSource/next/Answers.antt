use Rattle.std.proofs.Common.{◌≡◌, ◌+◌, List, ℕ, Vec, length, take, ap, sym, ◌∙◌}
use Rattle.std.specs.declared.alloc.Global.{Global}
use Rattle.lsp_frames.specs.MemDevices.{Giving, behind_bytes, first_piece, from_first_byte, pieces_from}
use Rattle.lsp_frames.proofs.DeviceSteps.{behind_pieces, piece_given}
use Rattle.lsp_frames.proofs.mem_source.MemSourceSource.next.Goals as goal

pub returns-clause-gives : goal.returns-clause-gives
returns-clause-gives c =
    let held : pieces_from c.self.inside.pieces.items c.place_of_byte-at.result.0 c.place_of_byte-at.result.1 ≡ from_first_byte c.args.self.now.pieces =
    ap (λ (ps : List (Vec ℕ Global)). pieces_from ps c.place_of_byte-at.result.0 c.place_of_byte-at.result.1) (sym c.deref.ensures.value) ∙ c.place_of_byte-at.ensures
    ∙ ap (λ (ps : List (Vec ℕ Global)). from_first_byte (pieces_from ps c.self.inside.at c.self.inside.start)) c.deref.ensures.value ∙ ap (λ (g : Giving). from_first_byte g.pieces) c.self.view_is in
    let rest : c.rest_of_piece.result.now ≡ first_piece (from_first_byte c.args.self.now.pieces) =
    c.rest_of_piece.ensures.rest ∙ ap (λ (ps : List (Vec ℕ Global)). first_piece (pieces_from ps c.place_of_byte-at.result.0 c.place_of_byte-at.result.1)) c.deref-2.ensures.value ∙ ap first_piece held in
    piece_given c.args.self.now.pieces (pieces_from c.self.inside.pieces.items c.place_of_byte-at.result.0 (c.place_of_byte-at.result.1 + c.copy_front-count.result))
    (length c.args.room.now) c.copy_front-count.result c.copy_front-count.new.room c.requires
    (c.copy_front-count.ensures.count ∙ ap (λ (xs : List ℕ). length (take (length c.args.room.now) xs)) rest)
    (c.copy_front-count.ensures.bytes ∙ ap (take (length c.args.room.now)) rest)
    (behind_pieces c.self.inside.pieces.items c.place_of_byte-at.result.0 c.place_of_byte-at.result.1 c.copy_front-count.result ∙ ap (behind_bytes c.copy_front-count.result) held)
