use Rattle.std.proofs.Common.{[], take, refl, sym, ◌∙◌}
use Rattle.lsp_frames.specs.declared.partial.Stage.TheVariants as stages
use Rattle.lsp_frames.proofs.Units.{line_completes}
use Rattle.lsp_frames.proofs.partial.line_front.Goals as goal

pub returns-clause-some : goal.returns-clause-some
returns-clause-some c =
    let next = line_completes c.args.limit (stages.Head c.args.place) c.args.place [] c.args.bytes.now (take c.in_ok-end.end c.args.bytes.now) c.behind_line.result c.in_ok-end.end
    refl (sym c.line_end.ensures ∙ c.in_ok-end.was) c.behind_line.ensures.read in
    (c.behind_line.ensures.under_way, next.0, next.1)
