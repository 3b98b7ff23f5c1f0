use Rattle.std.proofs.Common.{rules, ◌≡◌, ◌≢◌, ◌+◌, [], Some, None, take, drop, map, ap, sym, ◌∙◌, arith}
use Rattle.std.proofs.lemmas.Grind.{common_steps}
use Rattle.toml.specs.Data.{no_items}
use Rattle.toml.specs.View.{view, items_view}
use Rattle.table_reading.specs.declared.fault.FaultKind.TheVariants as fault
use Rattle.table_reading.specs.Fault.{in_step}
use Rattle.table_reading.specs.Judged.{at_step, steps_fault}
use Rattle.table_reading.specs.Limits.{items_len}
use Rattle.table_reading.specs.Made.{step_from}
use Rattle.table_reading.proofs.ItemsLaws.{items_len-view, steps_fault-next, steps_fault-found}
use Rattle.table_reading.proofs.MadeSteps.{steps_from-view, made_last}
use Rattle.table_reading.proofs.steps.steps_of.Goals as goal

pub loop-place-preserved : goal.loop-place-preserved
loop-place-preserved c =
    let vs = c.args.items.now in
    let i = c.loop-place.place in
    let v = c.index-items-place.result in
    record {
      made = c.in_ok-push-in-Ok.ensures.items ∙ made_last (λ v. step_from (view v)) vs i v c.loop-place.steps.items c.in-Ok.step c.loop-place-test.true c.index-items-place.is c.loop-place.invariant.made c.in-Ok.ensures.ok.0;
      judged = sym (steps_fault-next c.args.version c.args.method vs i v c.loop-place-test.true c.index-items-place.is (ap (at_step c.args.method (items_len (items_view (take i vs)))) c.in-Ok.ensures.ok.1)) ∙ c.loop-place.invariant.judged;
    }

pub returns-clause-ok : goal.returns-clause-ok
returns-clause-ok c =
    let vs = c.args.items.now in
    let all : take c.loop-place.place vs ≡ vs = grind (arith, common_steps) in
    let none : drop c.loop-place.place vs ≡ [] = grind (arith, common_steps) in
    let judged : None ≡ steps_fault c.args.version c.args.method no_items (items_view vs) = rw none at c.loop-place.invariant.judged in
    (c.loop-place.invariant.made ∙ ap (map (λ v. step_from (view v))) all ∙ steps_from-view vs, sym judged)

pub returns-in-Err : goal.returns-in-Err
returns-in-Err c =
    let vs = c.args.items.now in
    let i = c.loop-place.place in
    let kind = c.in-Err.kind in
    let other : kind ≢ fault.Memory = search rules in
    let place : items_len (items_view (take i vs)) ≡ i = grind (arith, common_steps, items_len-view) in
    let here : at_step c.args.method (items_len (items_view (take i vs))) (Some kind) ≡ Some (in_step c.args.method (i + 1) kind) = ap (λ n. Some (in_step c.args.method (n + 1) kind)) place in
    record {
      ok = tt;
      refused = λ h. sym c.loop-place.invariant.judged ∙ steps_fault-found c.args.version c.args.method vs i c.index-items-place.result (in_step c.args.method (i + 1) kind) c.loop-place-test.true c.index-items-place.is
          (ap (at_step c.args.method (items_len (items_view (take i vs)))) (c.in-Err.ensures.refused other) ∙ here);
    }
