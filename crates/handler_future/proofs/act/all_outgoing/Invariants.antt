use Rattle.std.proofs.Common.{◌≤◌, ◌+◌, drop, length, vec_len, vec_capacity}
use Rattle.handler_future.proofs.Outgoings.{MadeBefore}
use Rattle.method_templates.specs.Locals.{with_lent}
use Rattle.handler_future.proofs.act.all_outgoing.Given as goal

abbrev pub invariant-loop-listed : goal.invariant-loop-listed
invariant-loop-listed l = record {
  made : MadeBefore (with_lent l.lent l.locals) l.list l.calls.items (drop l.listed-index l.list);
  room : vec_len l.calls + length (drop l.listed-index l.list) ≤ vec_capacity l.calls;
}
