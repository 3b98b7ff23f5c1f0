use Rattle.std.proofs.Common.{◌++◌, ap, sym, ◌∙◌}
use Rattle.std.specs.Option.{option_to_list}
use Rattle.open_calls.specs.Numbered.{up_to}
use Rattle.open_calls.specs.Theirs.{TheirState, reached, cancelled_at}
use Rattle.connection_desk.specs.Inner.{reached_to, cancelled_to}
use Rattle.connection_desk.proofs.Reached.{reaches}
use Rattle.connection_desk.proofs.settling.reach_next.Goals as goal

pub returns-clause-number : goal.returns-clause-number
returns-clause-number c =
    let n = c.args.most in
    let id = c.args.id.now in
    let es = c.args.theirs.now.calls in
    let steps = reaches n id es c.reach_up_to.ensures.ascending in
    steps.number
    ∙ ap (λ r. option_to_list r ++ reached_to n id (cancelled_at (reached id (up_to n es)) es)) (sym c.reach_up_to.ensures.number)
    ∙ ap (λ (s : TheirState). option_to_list c.reach_up_to.result ++ reached_to n id s.calls) (sym c.reach_up_to.ensures.state)

pub returns-clause-calls : goal.returns-clause-calls
returns-clause-calls c =
    let n = c.args.most in
    let id = c.args.id.now in
    ap (λ (s : TheirState). cancelled_to n id s.calls) c.reach_up_to.ensures.state
    ∙ (reaches n id c.args.theirs.now.calls c.reach_up_to.ensures.ascending).calls

pub returns-clause-none : goal.returns-clause-none
returns-clause-none c =
    let n = c.args.most in
    let id = c.args.id.now in
    λ is. ap (λ (s : TheirState). cancelled_to n id s.calls) c.reach_up_to.ensures.state
    ∙ (reaches n id c.args.theirs.now.calls c.reach_up_to.ensures.ascending).none (sym c.reach_up_to.ensures.number ∙ is)
    ∙ sym (ap (λ (s : TheirState). s.calls) c.reach_up_to.ensures.state)

pub returns-clause-rest : goal.returns-clause-rest
returns-clause-rest c =
    λ is. (reaches c.args.most c.args.id.now c.args.theirs.now.calls c.reach_up_to.ensures.ascending).rest (sym c.reach_up_to.ensures.number ∙ is)
