use Rattle.std.proofs.Common.{◌≡◌, ◌-◌, suc, ◌∙◌, ap, subst, sym, arith}
use Rattle.number_windows.specs.Windows.{window_entries}
use Rattle.number_windows.specs.Numbered.{up_to, Below}
use Rattle.open_calls.specs.Own.{OwnState}
use Rattle.number_windows.proofs.Numbered.{up_to_without, up_to_all}
use Rattle.open_calls.proofs.Own.{state_of, same_waiting}
use Rattle.open_calls.proofs.own_calls.OwnCalls.take_back.Goals as goal

pub loop-self-preserved : goal.loop-self-preserved
loop-self-preserved c =
    let now = c.loop-self.self in
    let made : c.self.inside.made ≡ now.made = ap (λ (s : OwnState). s.made) c.self.view_is in
    let next : c.remove_last.new.self.made ≡ now.made - 1 = ap (λ (s : OwnState). s.made) c.remove_last.ensures in
    record {
      least = omega (arith, c.loop-self-test.true);
      rest = ap (λ (s : OwnState). up_to c.args.made s.waiting) c.remove_last.ensures
          ∙ up_to_without c.args.made now.made now.waiting (omega (arith, c.loop-self-test.true)) ∙ c.loop-self.invariant.rest;
    }

pub returns : goal.returns
returns c =
    let now = c.loop-self.self in
    let made : c.self.inside.made ≡ now.made = ap (λ (s : OwnState). s.made) c.self.view_is in
    let seen : (window_entries c.self.inside.waiting) ≡ now.waiting = ap (λ (s : OwnState). s.waiting) c.self.view_is in
    let last : now.made ≡ c.args.made = omega (arith, c.loop-self-test.false, c.loop-self.invariant.least) in
    let under : Below (suc c.args.made) now.waiting =
    subst (λ n. Below (suc n) now.waiting) (made ∙ last) (subst (λ fs. Below (suc c.self.inside.made) fs) seen c.self.invariant.numbered) in
    ap (λ n. state_of n now.waiting) last
    ∙ same_waiting c.args.made now.waiting (up_to c.args.made c.args.self.now.waiting) (sym (up_to_all c.args.made now.waiting under) ∙ c.loop-self.invariant.rest)
