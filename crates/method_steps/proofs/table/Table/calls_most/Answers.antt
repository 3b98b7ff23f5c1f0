use Rattle.std.proofs.Common.{◌≡◌, Some, None, option_map, ap, ◌∙◌, map}
use Rattle.std.specs.List.{slice_get}
use Rattle.std.proofs.lemmas.Option.{slice_get-map}
use Rattle.method_steps.specs.Inner.Methods.{named_steps, IsCounted}
use Rattle.method_templates.specs.Steps.{AreWithinLimits}
use Rattle.method_steps.proofs.MethodsOf.{All-slice_get, slice_get-within, slice_get-past}
use Rattle.method_steps.proofs.table.Table.calls_most.Goals as goal

pub returns-in-Some-clause-number : goal.returns-in-Some-clause-number
returns-in-Some-clause-number c =
    let ms = c.self.inside.methods.items in
    let m = c.in-Some.method.now in
    let found = rw c.deref.ensures.value at c.in-Some.ensures.lookup in
    let here : slice_get ms c.args.method ≡ Some m = slice_get-within ms c.args.method m found.3.0 found.1 in
    let seen : slice_get (map named_steps ms) c.args.method ≡ Some (named_steps m) = slice_get-map named_steps ms c.args.method ∙ ap (option_map named_steps) here in
    rw (← c.self.view_is, seen) (All-slice_get IsCounted ms c.args.method m c.self.invariant.0.counted here)

pub returns-in-Some-clause-few : goal.returns-in-Some-clause-few
returns-in-Some-clause-few c =
    let ms = c.self.inside.methods.items in
    let m = c.in-Some.method.now in
    let found = rw c.deref.ensures.value at c.in-Some.ensures.lookup in
    let here : slice_get ms c.args.method ≡ Some m = slice_get-within ms c.args.method m found.3.0 found.1 in
    let seen : slice_get (map named_steps ms) c.args.method ≡ Some (named_steps m) = slice_get-map named_steps ms c.args.method ∙ ap (option_map named_steps) here in
    let within = All-slice_get (λ m. AreWithinLimits m.steps) _ c.args.method (named_steps m) c.self.invariant.0.within seen in
    let few = within.few_calls in
    rw (All-slice_get IsCounted ms c.args.method m c.self.invariant.0.counted here) few

pub returns-in-None-clause-number : goal.returns-in-None-clause-number
returns-in-None-clause-number c =
    let ms = c.self.inside.methods.items in
    let found = rw c.deref.ensures.value at c.in-None.ensures.lookup in
    let here : slice_get ms c.args.method ≡ None = slice_get-past ms c.args.method found.3 in
    let seen : slice_get (map named_steps ms) c.args.method ≡ None = slice_get-map named_steps ms c.args.method ∙ ap (option_map named_steps) here in
    rw (← c.self.view_is, seen)
