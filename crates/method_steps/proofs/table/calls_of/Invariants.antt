use Rattle.std.proofs.Common.{◌≡◌, ◌+◌, drop}
use Rattle.method_templates.specs.Steps.{calls_of}
use Rattle.method_steps.proofs.table.calls_of.Given as goal

abbrev pub invariant-loop-step : goal.invariant-loop-step
invariant-loop-step l = l.calls + calls_of (drop l.step-index l.steps) ≡ calls_of l.steps
