use Rattle.std.proofs.Common.{◌≡◌, ◌-◌, suc, ◌∙◌, ap, subst, sym, arith}
use Rattle.number_windows.specs.Windows.{window_entries}
use Rattle.number_windows.specs.Numbered.{up_to, Below}
use Rattle.open_calls.specs.Theirs.{TheirState}
use Rattle.number_windows.proofs.Numbered.{up_to_without, up_to_all}
use Rattle.open_calls.proofs.Theirs.{state_of, same_calls}
use Rattle.open_calls.proofs.their_calls.TheirCalls.take_back.Goals as goal

pub loop-self-preserved : goal.loop-self-preserved
loop-self-preserved c =
    let now = c.loop-self.self in
    let came : c.self.inside.came ≡ now.came = ap (λ (s : TheirState). s.came) c.self.view_is in
    let next : c.close_last.new.self.came ≡ now.came - 1 = ap (λ (s : TheirState). s.came) c.close_last.ensures in
    record {
      least = omega (arith, c.loop-self-test.true);
      rest = ap (λ (s : TheirState). up_to c.args.came s.calls) c.close_last.ensures
          ∙ up_to_without c.args.came now.came now.calls (omega (arith, c.loop-self-test.true)) ∙ c.loop-self.invariant.rest;
    }

pub returns : goal.returns
returns c =
    let now = c.loop-self.self in
    let came : c.self.inside.came ≡ now.came = ap (λ (s : TheirState). s.came) c.self.view_is in
    let seen : window_entries c.self.inside.calls ≡ now.calls = ap (λ (s : TheirState). s.calls) c.self.view_is in
    let last : now.came ≡ c.args.came = omega (arith, c.loop-self-test.false, c.loop-self.invariant.least) in
    let under : Below (suc c.args.came) now.calls =
    subst (λ n. Below (suc n) now.calls) (came ∙ last) (subst (λ fs. Below (suc c.self.inside.came) fs) seen c.self.invariant.numbered) in
    ap (λ n. state_of n now.calls) last
    ∙ same_calls c.args.came now.calls (up_to c.args.came c.args.self.now.calls) (sym (up_to_all c.args.came now.calls under) ∙ c.loop-self.invariant.rest)
