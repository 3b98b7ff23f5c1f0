-- Each number is that of the connection's report.
use Rattle.std.proofs.Common.{ap}
use Rattle.bullmyrtle.specs.Counts.{as_c}
use Rattle.bullmyrtle.proofs.report.Report.of.Goals as goal

pub returns : goal.returns
returns c = λ history told stands. ap as_c (c.report-report.ensures history told stands)
