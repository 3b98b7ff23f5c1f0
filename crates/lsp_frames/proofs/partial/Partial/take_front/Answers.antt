use Rattle.std.proofs.Common.{◌≡◌, length, take, ap, refl, ◌∙◌, arith}
use Rattle.std.proofs.Math.Seq.{take-append_seam}
use Rattle.lsp_frames.proofs.Units.{content_completes}
use Rattle.lsp_frames.proofs.partial.Partial.take_front.Goals as goal

pub returns-then-piece-missing-clause-ok : goal.returns-then-piece-missing-clause-ok
returns-then-piece-missing-clause-ok c = c.in_ok-hold-in-Content.ensures.ok c.args.limit

pub returns-in_ok-extend_from_slice-in-Content-clause-ok : goal.returns-in_ok-extend_from_slice-in-Content-clause-ok
returns-in_ok-extend_from_slice-in-Content-clause-ok c =
    let next = content_completes c.args.limit c.args.self.now.stage c.in-Content.size c.in-Content.field-1 c.args.self.now.held.items c.args.piece.now c.extend_from_slice.new.self.items c.split_at.result.0.now c.split_at.result.1.now c.len.result
    c.in-Content.is c.requires (c.len.ensures ∙ c.args.self.now.held.ok.0) c.if-piece-missing.false c.split_at.ensures.front c.split_at.ensures.back c.in_ok-extend_from_slice-in-Content.ensures.items in
    let kept : take (length c.args.self.now.held.items) c.extend_from_slice.new.self.items ≡ c.args.self.now.held.items =
    ap (take (length c.args.self.now.held.items)) c.in_ok-extend_from_slice-in-Content.ensures.items ∙ take-append_seam c.args.self.now.held.items c.split_at.result.0.now in
    (record { stage = refl; held = kept }, omega arith, next.0, next.1)
