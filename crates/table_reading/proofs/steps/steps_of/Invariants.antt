use Rattle.std.proofs.Common.{◌≡◌, take, drop, map}
use Rattle.toml.specs.Data.{no_items}
use Rattle.toml.specs.View.{view, items_view}
use Rattle.table_reading.specs.Judged.{steps_fault}
use Rattle.table_reading.specs.Made.{step_from}
use Rattle.table_reading.proofs.steps.steps_of.Given as goal

abbrev pub invariant-loop-place : goal.invariant-loop-place
invariant-loop-place l = record {
  made : l.steps.items ≡ map (λ v. step_from (view v)) (take l.place l.items);
  judged : steps_fault l.version l.method (items_view (take l.place l.items)) (items_view (drop l.place l.items)) ≡ steps_fault l.version l.method no_items (items_view l.items);
}
