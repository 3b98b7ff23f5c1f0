use Rattle.std.proofs.Common.{◌≡◌, drop}
use Rattle.handler_future.specs.Front.{find_heard}
use Rattle.handler_future.proofs.reply_values.heard_reply.Given as goal

-- what is left to look at decides
abbrev pub invariant-loop-entry : goal.invariant-loop-entry
invariant-loop-entry l = find_heard (drop l.entry-index l.heard) l.turn ≡ find_heard l.heard l.turn
