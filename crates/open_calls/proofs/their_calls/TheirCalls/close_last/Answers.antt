use Rattle.std.proofs.Common.{◌≡◌, ◌-◌, suc, ◌∙◌, ap, subst, sym, arith}
use Rattle.number_windows.specs.Windows.{window_entries}
use Rattle.number_windows.specs.Numbered.{without, up_to, Below}
use Rattle.open_calls.specs.Theirs.{TheirState}
use Rattle.open_calls.specs.Inner.{IsNumberIndex}
use Rattle.number_windows.proofs.Numbered.{below_without}
use Rattle.open_calls.proofs.States.{through}
use Rattle.open_calls.proofs.Theirs.{state_of, same_calls, index_least}
use Rattle.open_calls.proofs.their_calls.TheirCalls.close_last.Goals as goal

pub invariant_of-self : goal.invariant_of-self
invariant_of-self c =
    let key = c.self.inside.came in
    let now = c.args.self.now.calls in
    let came : key ≡ c.args.self.now.came = ap (λ (s : TheirState). s.came) c.self.view_is in
    let before : window_entries c.self.inside.calls ≡ now = ap (λ (s : TheirState). s.calls) c.self.view_is in
    let after : window_entries c.self-2.inside.calls ≡ without key now = ap (λ (s : TheirState). s.calls) (c.self-2.view_is ∙ c.close.ensures.state) in
    let last : key ≡ suc (key - 1) = omega (arith, c.requires) in
    let stays : c.self-2.inside.came ≡ key = ap (λ (s : TheirState). s.came) (c.self-2.view_is ∙ c.close.ensures.state) ∙ sym came in
    let under : Below (suc (key - 1)) (window_entries c.self-2.inside.calls) =
    subst (λ n. Below n (window_entries c.self-2.inside.calls)) last (subst (λ fs. Below key fs) (sym after)
    (below_without key now (subst (λ fs. Below (suc key) fs) before c.self.invariant.numbered))) in
    record {
      window = c.self-2.invariant.window;
      numbered = under;
      within = omega (arith, c.min-self-inside.ensures);
      few = omega (arith, c.min-self-inside.ensures, c.self-2.invariant.few);
      by_id = subst (λ m. IsNumberIndex c.self-2.inside.by_id (up_to m (window_entries c.self-2.inside.calls))) (sym c.min-self-inside.ensures)
          (index_least c.self-2.inside.by_id c.self-2.inside.indexed (key - 1) (window_entries c.self-2.inside.calls) under c.self-2.invariant.by_id);
    }

pub returns : goal.returns
returns c =
    let key = c.self.inside.came in
    let now = c.args.self.now.calls in
    let before : window_entries c.self.inside.calls ≡ now = ap (λ (s : TheirState). s.calls) c.self.view_is in
    let after : window_entries c.self-2.inside.calls ≡ without key now = ap (λ (s : TheirState). s.calls) (c.self-2.view_is ∙ c.close.ensures.state) in
    through (λ s. state_of (s.came - 1) (without s.came s.calls)) _ _ c.args.self.now c.self.view_is
    (same_calls (key - 1) (window_entries c.self-2.inside.calls) (without key (window_entries c.self.inside.calls)) (after ∙ ap (without key) (sym before)))
