use Rattle.std.proofs.Common.{◌≡◌, take, drop, map, All}
use Rattle.toml.specs.Data.{no_items}
use Rattle.toml.specs.View.{view, items_view}
use Rattle.method_steps.specs.Inner.Methods.{named_steps, IsCounted}
use Rattle.method_steps.specs.Judged.{methods_fault}
use Rattle.method_steps.specs.Made.{method_from}
use Rattle.method_steps.proofs.methods.methods_of.Given as goal

abbrev pub invariant-loop-place : goal.invariant-loop-place
invariant-loop-place l = record {
  made : map named_steps l.methods.items ≡ map (λ v. method_from (view v)) (take l.place l.items);
  counted : All IsCounted l.methods.items;
  judged : methods_fault l.version (items_view (take l.place l.items)) (items_view (drop l.place l.items)) ≡ methods_fault l.version no_items (items_view l.items);
}
