use Rattle.std.proofs.Common.{◌≡◌, ◌+◌, ◌≤◌, ◌++◌, ◌∷◌, [], List, ℕ, length, drop, ap, ◌∙◌, arith, length-append, length-drop}
use Rattle.std.proofs.lemmas.List.{drop-append-le}
use Rattle.lsp_frames.specs.Gathered.{frames_by, total}
use Rattle.lsp_frames.specs.declared.frame.Frame.{Frame}
use Rattle.lsp_frames.specs.declared.frames.Size.{Size}
use Rattle.lsp_frames.proofs.Blocks.{frames_more, size_of, total_more}
use Rattle.lsp_frames.proofs.Fronts.{frame_of}
use Rattle.lsp_frames.proofs.frames.Frames.add.Goals as goal

pub invariant_of-self-2 : goal.invariant_of-self-2
invariant_of-self-2 c =
    let inside = c.self.inside in
    let content = c.args.content.now in
    let size = size_of content c.args.foreign in
    let sizes : total c.push_back_reserved.new.self.items ≡ total inside.sizes.items + length content =
    ap total (c.push_back_reserved.ensures.items ∙ ap (λ (xs : List Size). xs ++ size ∷ []) c.in_ok-reserve.ensures.items) ∙ total_more inside.sizes.items size in
    let bytes : length c.extend_from_slice.new.self.items ≡ length inside.bytes.items + length content =
    ap length c.in_ok-extend_from_slice.ensures.items ∙ length-append inside.bytes.items content in
    omega (arith, sizes, bytes, c.self.invariant)

pub returns-clause-ok : goal.returns-clause-ok
returns-clause-ok c =
    let inside = c.self.inside in
    let content = c.args.content.now in
    let size = size_of content c.args.foreign in
    let sizes : c.push_back_reserved.new.self.items ≡ inside.sizes.items ++ size ∷ [] =
    c.push_back_reserved.ensures.items ∙ ap (λ (xs : List Size). xs ++ size ∷ []) c.in_ok-reserve.ensures.items in
    let within : inside.passed ≤ length inside.bytes.items = omega (arith, c.self.invariant) in
    let rest : drop inside.passed c.extend_from_slice.new.self.items ≡ drop inside.passed inside.bytes.items ++ content =
    ap (drop inside.passed) c.in_ok-extend_from_slice.ensures.items ∙ drop-append-le inside.passed inside.bytes.items content within in
    let left : total inside.sizes.items ≡ length (drop inside.passed inside.bytes.items) = omega (arith, c.self.invariant, length-drop inside.passed inside.bytes.items) in
    ap (λ (xs : List ℕ). frames_by xs c.push_back_reserved.new.self.items) rest
    ∙ ap (λ (s : List Size). frames_by (drop inside.passed inside.bytes.items ++ content) s) sizes
    ∙ frames_more (drop inside.passed inside.bytes.items) content inside.sizes.items c.args.foreign left
    ∙ ap (λ (fs : List Frame). fs ++ frame_of content c.args.foreign ∷ []) c.self.view_is
