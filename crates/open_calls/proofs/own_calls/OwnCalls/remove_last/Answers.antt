use Rattle.std.proofs.Common.{◌≡◌, ◌-◌, suc, ◌∙◌, ap, subst, sym, arith, min}
use Rattle.number_windows.specs.Windows.{window_entries}
use Rattle.number_windows.specs.Numbered.{without, up_to, Below}
use Rattle.open_calls.specs.Own.{OwnState}
use Rattle.open_calls.specs.Inner.{IsKeyIndex}
use Rattle.number_windows.proofs.Numbered.{below_without}
use Rattle.open_calls.proofs.States.{through}
use Rattle.open_calls.proofs.Own.{state_of, same_waiting, index_seen}
use Rattle.open_calls.proofs.Newest.{up_to_least}
use Rattle.open_calls.proofs.own_calls.OwnCalls.remove_last.Goals as goal

pub invariant_of-self : goal.invariant_of-self
invariant_of-self c =
    let key = c.self.inside.made in
    let now = c.args.self.now.waiting in
    let made : key ≡ c.args.self.now.made = ap (λ (s : OwnState). s.made) c.self.view_is in
    let before : (window_entries c.self.inside.waiting) ≡ now = ap (λ (s : OwnState). s.waiting) c.self.view_is in
    let after : (window_entries c.self-2.inside.waiting) ≡ without key now = ap (λ (s : OwnState). s.waiting) (c.self-2.view_is ∙ c.remove.ensures.state) in
    let last : key ≡ suc (key - 1) = omega (arith, c.requires) in
    let stays : c.self-2.inside.made ≡ key = ap (λ (s : OwnState). s.made) (c.self-2.view_is ∙ c.remove.ensures.state) ∙ sym made in
    let under : Below (suc (key - 1)) (window_entries c.self-2.inside.waiting) =
    subst (λ n. Below n (window_entries c.self-2.inside.waiting)) last (subst (λ fs. Below key fs) (sym after)
    (below_without key now (subst (λ fs. Below (suc key) fs) before c.self.invariant.numbered))) in
    let indexed = c.self-2.inside.indexed in
    record {
      window = c.self-2.invariant.window;
      positive = c.self-2.invariant.positive;
      numbered = under;
      within = omega (arith, c.min-self-inside.ensures);
      few = omega (arith, c.min-self-inside.ensures, c.self-2.invariant.few);
      by_caller = subst (λ m. IsKeyIndex c.self-2.inside.by_caller (up_to m (window_entries c.self-2.inside.waiting))) (sym c.min-self-inside.ensures)
          (index_seen c.self-2.inside.by_caller (up_to indexed (window_entries c.self-2.inside.waiting)) (up_to (min indexed (key - 1)) (window_entries c.self-2.inside.waiting)) c.self-2.invariant.by_caller
          (up_to_least indexed (key - 1) (window_entries c.self-2.inside.waiting) under));
    }

pub returns : goal.returns
returns c =
    let key = c.self.inside.made in
    let now = c.args.self.now.waiting in
    let before : (window_entries c.self.inside.waiting) ≡ now = ap (λ (s : OwnState). s.waiting) c.self.view_is in
    let after : (window_entries c.self-2.inside.waiting) ≡ without key now = ap (λ (s : OwnState). s.waiting) (c.self-2.view_is ∙ c.remove.ensures.state) in
    through (λ s. state_of (s.made - 1) (without s.made s.waiting)) _ _ c.args.self.now c.self.view_is
    (same_waiting (key - 1) (window_entries c.self-2.inside.waiting) (without key (window_entries c.self.inside.waiting)) (after ∙ ap (without key) (sym before)))
