use Rattle.std.proofs.Common.{◌≡◌, ap, sym, ◌∙◌, refl, map, subst, true, Some}
use Rattle.open_numbers.specs.Kept.{kept_at, kept_in, with_reach}
use Rattle.open_numbers.specs.Numbers.{IsIndexed}
use Rattle.open_numbers.specs.Requests.{is_reached_by}
use Rattle.open_numbers.proofs.Indexed.{IsIndexed-marked}
use Rattle.open_numbers.proofs.Places.{place-changed, place-missing}
use Rattle.open_numbers.proofs.numbers.Numbers.reach.Goals as goal
use Rattle.open_numbers.proofs.numbers.Numbers.reach.Goals.{in-Some, in-None}

pub invariant_of-self : goal.invariant_of-self
invariant_of-self c =
    let inside = c.self.inside in
    let id = c.args.id.now in
    let n = c.in_ok-number.number in
    let entries = map kept_in inside.window in
    let hit : is_reached_by id (kept_at entries n) ≡ true = ap (λ ns. is_reached_by id (kept_at ns n)) c.self.view_is ∙ c.in_ok-number.ensures.0 in
    let marked = IsIndexed-marked entries n id inside.earlier c.remove.new.self inside.recent hit c.remove.ensures c.self.invariant in
    elim c.match-value_mut.branch [
      | in-Some w ↦
          rw w.self-inside-is
          (subst (λ es. IsIndexed es c.remove.new.self inside.recent)
          (sym (place-changed with_reach inside.window n w.in-Some.kept.now _ entries w.in-Some.ensures.value
          (w.mark.ensures ∙ ap (λ k. with_reach (Some k)) w.deref_mut.ensures.value) refl)) marked)
      | in-None w ↦
          rw w.self-inside-is
          (subst (λ es. IsIndexed es c.remove.new.self inside.recent) (sym (place-missing with_reach inside.window n entries w.in-None.ensures.value refl refl)) marked)
    ]

pub returns-clause-some : goal.returns-clause-some
returns-clause-some c =
    let inside = c.self.inside in
    let n = c.in_ok-number.number in
    elim c.match-value_mut.branch [
      | in-Some w ↦
          rw w.self-inside-is
          (place-changed with_reach inside.window n w.in-Some.kept.now _ c.args.self.now w.in-Some.ensures.value
          (w.mark.ensures ∙ ap (λ k. with_reach (Some k)) w.deref_mut.ensures.value) c.self.view_is)
      | in-None w ↦ rw w.self-inside-is (place-missing with_reach inside.window n c.args.self.now w.in-None.ensures.value refl c.self.view_is)
    ]
