use Rattle.std.proofs.Common.{◌≡◌, ◌+◌, ◌++◌, ◌∷◌, [], suc, ◌∙◌, ap, subst, arith}
use Rattle.number_windows.specs.Windows.{window_entries}
use Rattle.number_windows.specs.Numbered.{Below, up_to}
use Rattle.open_calls.specs.Own.{OwnState, new_call, new_calls}
use Rattle.open_calls.proofs.Own.{state_of, calls_more, calls_undone}
use Rattle.open_calls.proofs.own_calls.OwnCalls.make.Goals as goal

pub loop-index-preserved : goal.loop-index-preserved
loop-index-preserved c =
    c.in-Ok.ensures.ok
    ∙ ap (λ (s : OwnState). state_of (s.made + 1) (s.waiting ++ (s.made + 1, new_call c.args.caller) ∷ [])) c.loop-index.invariant
    ∙ calls_more c.args.self.now.made c.args.caller c.loop-index._index c.args.self.now.waiting

pub make_one-requires : goal.make_one-requires
make_one-requires c =
    let made : c.loop-index.self.made ≡ c.args.self.now.made + c.loop-index._index = ap (λ (s : OwnState). s.made) c.loop-index.invariant in
    omega (arith, c.requires, c.loop-index-test.true)

pub returns-in-Err-clause-err : goal.returns-in-Err-clause-err
returns-in-Err-clause-err c =
    let was = c.args.self.now in
    let inside = c.self.inside.made in
    let made : inside ≡ was.made = ap (λ (s : OwnState). s.made) c.self.view_is in
    let seen : (window_entries c.self.inside.waiting) ≡ was.waiting = ap (λ (s : OwnState). s.waiting) c.self.view_is in
    let under : Below (suc was.made) was.waiting =
    subst (λ n. Below (suc n) was.waiting) made (subst (λ fs. Below (suc inside) fs) seen c.self.invariant.numbered) in
    c.take_back.ensures
    ∙ ap (λ (s : OwnState). state_of inside (up_to inside s.waiting)) (c.in-Err.ensures.err ∙ c.loop-index.invariant)
    ∙ ap (λ n. state_of n (up_to n (was.waiting ++ new_calls was.made c.args.caller c.loop-index._index))) made
    ∙ ap (λ fs. state_of was.made fs) (calls_undone was.made c.args.caller c.loop-index._index was.waiting under)
