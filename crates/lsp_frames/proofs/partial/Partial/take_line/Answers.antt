use Rattle.std.proofs.Common.{sym, ◌∙◌}
use Rattle.lsp_frames.proofs.Units.{line_completes}
use Rattle.lsp_frames.proofs.partial.Partial.take_line.Goals as goal

pub returns-in_ok-next-in-Some-clause-ok : goal.returns-in_ok-next-in-Some-clause-ok
returns-in_ok-next-in-Some-clause-ok c =
    let next = line_completes c.args.limit c.args.self.now.stage c.args.place c.args.self.now.held.items c.args.piece.now c.end_line.new.self.held.items c.in_ok-next-in-Some.next c.in-Some.end
    c.requires.stage (sym c.line_end.ensures ∙ c.in-Some.is) c.in_ok-next-in-Some.ensures.read in
    (c.in_ok-next-in-Some.ensures.kept, c.in_ok-next-in-Some.ensures.under_way, next.0, next.1)

pub returns-in_ok-hold-in-None-clause-ok : goal.returns-in_ok-hold-in-None-clause-ok
returns-in_ok-hold-in-None-clause-ok c = c.in_ok-hold-in-None.ensures.ok c.args.limit
