use Rattle.std.proofs.Common.{◌≡◌, sym, ap, ◌∙◌}
use Rattle.conversation_rules.specs.Runs.{has_number}
use Rattle.conversation_ids.specs.Next.{runs_from}
use Rattle.conversation_ids.proofs.Running.{found, missed}
use Rattle.conversation_ids.proofs.runs.Runs.contains.Goals as goal

pub returns-in-Some : goal.returns-in-Some
returns-in-Some c =
    let range : c.range.result ≡ runs_from c.args.number c.self.inside.firsts.entries = c.range.ensures.between tt in
    let first = c.in-Some.ensures.steps in
    found 0 c.args.number c.self.inside.firsts.entries c.in-Some._last.now c.in-Some.first.now _ c.self.invariant (sym range ∙ first)
    ∙ ap (λ runs. has_number c.args.number runs) c.self.view_is

pub returns-in-None : goal.returns-in-None
returns-in-None c =
    let range : c.range.result ≡ runs_from c.args.number c.self.inside.firsts.entries = c.range.ensures.between tt in
    missed 0 c.args.number c.self.inside.firsts.entries c.self.invariant (sym range ∙ c.in-None.ensures.steps.0)
    ∙ ap (λ runs. has_number c.args.number runs) c.self.view_is
