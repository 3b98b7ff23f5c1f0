use Rattle.std.proofs.Common.{cond, [], ap, sym, ◌∙◌}
use Rattle.lsp_frames.specs.Contents.{Open, Broken}
use Rattle.lsp_frames.specs.declared.frame.FrameFault.TheVariants.{TooLarge}
use Rattle.stream_framing.specs.Inner.Cutting.{LineCutting}
use Rattle.stream_framing.proofs.Fitting.{nothing_fits, no_lines}
use Rattle.stream_framing.proofs.Steps.{standing_one}
use Rattle.stream_framing.proofs.cutter.Cutter.new.Goals as goal

pub returns-in-Lines-clause-stands : goal.returns-in-Lines-clause-stands
returns-in-Lines-clause-stands c =
    let limit = c.new-in-Lines.result.limit in
    (Open [], (sym (no_lines limit), sym (standing_one limit [] ∙ ap (λ t. cond t (Open []) (Broken TooLarge)) (nothing_fits limit))), ap (λ (cutter : LineCutting). cutter.standing) c.new-in-Lines.ensures)
