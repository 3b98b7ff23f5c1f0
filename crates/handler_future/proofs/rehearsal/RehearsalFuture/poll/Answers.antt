use Rattle.std.proofs.Common.{◌∙◌, ap}
use Rattle.handler_future.specs.Front.{find_heard}
use Rattle.handler_future.proofs.Rehearsing.{follows_first}
use Rattle.handler_future.proofs.rehearsal.RehearsalFuture.poll.Goals as goal

pub returns-in-Ok-clause-ready : goal.returns-in-Ok-clause-ready
returns-in-Ok-clause-ready c =
    c.rehearse.ensures _
    (follows_first c.args.self.now.handler c.args.self.now.replies.items c.in-Ok.listed
    (λ t. c.in-Ok.ensures t ∙ ap (λ v. find_heard v.items t) c.replace-replies.ensures.value))
