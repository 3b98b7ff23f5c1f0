use Rattle.std.proofs.Common.{sym, ◌∙◌}
use Rattle.lsp_frames.proofs.Units.{goes_at_lf, full_at_lf, ends_at_lf, breaks_at_lf}
use Rattle.lsp_frames.proofs.partial.Place.behind_line.Goals as goal

pub returns-then-self-gt1-clause-read : goal.returns-then-self-gt1-clause-read
returns-then-self-gt1-clause-read c = λ more. goes_at_lf c.args.limit c.args.self.fields c.in-More.fields c.args.text.now c.args.self.room more (sym c.line_meaning.ensures ∙ c.in-More.is) c.if-self-gt1.true

pub returns-else-self-gt1-clause-read : goal.returns-else-self-gt1-clause-read
returns-else-self-gt1-clause-read c = λ more. full_at_lf c.args.limit c.args.self.fields c.in-More.fields c.args.text.now c.args.self.room more (sym c.line_meaning.ensures ∙ c.in-More.is) c.if-self-gt1.false

pub returns-in-End-clause-read : goal.returns-in-End-clause-read
returns-in-End-clause-read c = λ more. ends_at_lf c.args.limit c.args.self.fields c.args.text.now c.args.self.room c.in-End.size c.in-End.foreign more (sym c.line_meaning.ensures ∙ c.in-End.is)

pub returns-in-Fault-clause-read : goal.returns-in-Fault-clause-read
returns-in-Fault-clause-read c = λ more. breaks_at_lf c.args.limit c.args.self.fields c.args.text.now c.args.self.room c.in-Fault.fault more (sym c.line_meaning.ensures ∙ c.in-Fault.is)
