-- A step of a method, and what who runs a method may count on.
use Rattle.std.specs.Prelude.{ℕ, ◌≤◌, List, length, sum_by, All}
use Rattle.method_templates.specs.Shape.{Shape}
use Rattle.method_templates.specs.declared.limits.TheConstants.{LONGEST_SKIP, MOST_CALLS, MOST_LISTED, MOST_STEPS}
use Rattle.method_templates.specs.declared.step.ListedCall.{ListedCall}
use Rattle.method_templates.specs.declared.step.Step.{Step as StepOf}
use Rattle.method_templates.specs.declared.step.Step.TheVariants as step

-- a step of a method
abbrev pub Step : Type 0
Step = StepOf Shape (List ListedCall)

-- the calls that a step makes at most
abbrev pub calls_in : Step → ℕ
calls_in (step.Call to method params on_error) = 1
calls_in (step.Calls to list on_error) = length list
calls_in (step.Each to over method on_error) = MOST_LISTED
calls_in _ = 0

-- those of the steps of a method
abbrev pub calls_of : List Step → ℕ
calls_of steps = sum_by calls_in steps

-- the numbers of a step are in their range
abbrev pub KeepsLimits : Step → Type 0
KeepsLimits (step.Skip left right count) = (1 ≤ count) × (count ≤ LONGEST_SKIP)
KeepsLimits (step.Calls to list on_error) = (1 ≤ length list) × (length list ≤ MOST_LISTED)
KeepsLimits _ = Unit {0}

-- so are those of the steps of a method, which make few calls
pub record AreWithinLimits (steps : List Step) : Type 0 where
  pub few : length steps ≤ MOST_STEPS
  pub each : All KeepsLimits steps
  pub few_calls : calls_of steps ≤ MOST_CALLS
