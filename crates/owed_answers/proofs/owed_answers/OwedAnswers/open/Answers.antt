use Rattle.std.proofs.Common.{◌≡◌, ◌+◌, ◌++◌, ◌∷◌, [], subst, sym, ap, ◌∙◌, arith}
use Rattle.number_windows.specs.Windows.{window_entries}
use Rattle.number_windows.specs.Numbered.{Below}
use Rattle.number_windows.proofs.Numbered.{below_push}
use Rattle.owed_answers.proofs.OwedLemmas.{through, state_of, same_owed}
use Rattle.owed_answers.proofs.owed_answers.OwedAnswers.open.Goals as goal

pub invariant_of-self-2 : goal.invariant_of-self-2
invariant_of-self-2 c =
    let places = c.self.inside.places in
    let es = window_entries c.self.inside.owed in
    let is : window_entries c.push.new.self ≡ es ++ (places, c.args.unit) ∷ [] = c.push.ensures.entries ∙ ap (λ s. s ++ (places, c.args.unit) ∷ []) c.make_room.ensures.entries in
    record {
      window = c.push.ensures.window;
      numbered = subst (λ fs. Below (places + 1) fs) (sym is)
          (below_push places (places + 1) places c.args.unit es (omega arith) (omega arith) c.self.invariant.numbered);
    }

pub returns-clause-ok : goal.returns-clause-ok
returns-clause-ok c =
    let places = c.self.inside.places in
    let es = window_entries c.self.inside.owed in
    through (λ s. state_of (s.places + 1) (s.owed ++ (s.places, c.args.unit) ∷ [])) _ _ c.args.self.now c.self.view_is
    (same_owed (places + 1) (window_entries c.push.new.self) (es ++ (places, c.args.unit) ∷ [])
    (c.push.ensures.entries ∙ ap (λ s. s ++ (places, c.args.unit) ∷ []) c.make_room.ensures.entries))
