use Rattle.std.proofs.Common.{◌≡◌, [], ◌∷◌, None, take, drop, map, ap, sym, ◌∙◌, arith}
use Rattle.std.proofs.lemmas.Grind.{common_steps}
use Rattle.std.proofs.lemmas.List.{map-append}
use Rattle.std.proofs.lemmas.List.Elements.{All-push}
use Rattle.toml.specs.Data.{no_items}
use Rattle.toml.specs.View.{view, items_view}
use Rattle.method_steps.specs.Inner.Methods.{named_steps, IsCounted}
use Rattle.method_steps.specs.Judged.{methods_fault}
use Rattle.method_steps.specs.Made.{method_from}
use Rattle.method_steps.proofs.MethodsLaws.{methods_from-view, methods_fault-next, methods_fault-found}
use Rattle.table_reading.proofs.MadeSteps.{made_last}
use Rattle.method_steps.proofs.methods.methods_of.Goals as goal

pub loop-place-preserved : goal.loop-place-preserved
loop-place-preserved c =
    let vs = c.args.items.now in
    let i = c.loop-place.place in
    let v = c.index-items-place.result in
    let done = c.loop-place.methods.items in
    record {
      made = ap (map named_steps) c.in_ok-push-in-Ok.ensures.items ∙ map-append named_steps done (c.in-Ok.method ∷ [])
          ∙ made_last (λ v. method_from (view v)) vs i v (map named_steps done) (named_steps c.in-Ok.method) c.loop-place-test.true c.index-items-place.is c.loop-place.invariant.made c.in-Ok.ensures.ok.0;
      counted = rw c.in_ok-push-in-Ok.ensures.items (All-push IsCounted done c.in-Ok.method c.loop-place.invariant.counted c.in-Ok.ensures.counted);
      judged = sym (methods_fault-next c.args.version vs i v c.loop-place-test.true c.index-items-place.is c.in-Ok.ensures.ok.1) ∙ c.loop-place.invariant.judged;
    }

pub returns-in-Err-clause-refused : goal.returns-in-Err-clause-refused
returns-in-Err-clause-refused c = λ other.
    sym c.loop-place.invariant.judged ∙ methods_fault-found c.args.version c.args.items.now c.loop-place.place c.index-items-place.result c.in-Err.fault c.loop-place-test.true c.index-items-place.is (c.in-Err.ensures.refused other)

pub returns-clause-ok : goal.returns-clause-ok
returns-clause-ok c =
    let vs = c.args.items.now in
    let all : take c.loop-place.place vs ≡ vs = grind (arith, common_steps) in
    let none : drop c.loop-place.place vs ≡ [] = grind (arith, common_steps) in
    let judged : None ≡ methods_fault c.args.version no_items (items_view vs) = rw none at c.loop-place.invariant.judged in
    (c.loop-place.invariant.made ∙ ap (map (λ v. method_from (view v))) all ∙ methods_from-view vs, sym judged)
