use Rattle.std.proofs.Common.{◌≡◌, ◌<◌, List, drop, length, get_or, ap, ◌∙◌, arith, length-drop}
use Rattle.lsp_frames.specs.declared.frame.Frame.{Frame}
use Rattle.lsp_frames.specs.Gathered.{total}
use Rattle.lsp_frames.proofs.Blocks.{as_many, size_at}
use Rattle.lsp_frames.proofs.frames.Frames.size.Goals as goal

pub index-requires : goal.index-requires
index-requires c =
    let inside = c.self.inside in
    let many = as_many (drop inside.passed inside.bytes.items) inside.sizes.items in
    let seen = ap (λ (fs : List Frame). length fs) c.self.view_is in
    omega (arith, inside.sizes.ok.0, many, seen, c.requires)

pub returns : goal.returns
returns c other =
    let inside = c.self.inside in
    let many = as_many (drop inside.passed inside.bytes.items) inside.sizes.items in
    let seen = ap (λ (fs : List Frame). length fs) c.self.view_is in
    let within : c.args.index < length inside.sizes.items = omega (arith, many, seen, c.requires) in
    let left : total inside.sizes.items ≡ length (drop inside.passed inside.bytes.items) = omega (arith, c.self.invariant, length-drop inside.passed inside.bytes.items) in
    ap (λ s. s.bytes) c.index.ensures
    ∙ size_at (drop inside.passed inside.bytes.items) inside.sizes.items c.args.index other c.index.result.now left within
    ∙ ap (λ (fs : List Frame). length (get_or fs c.args.index other).content) c.self.view_is
