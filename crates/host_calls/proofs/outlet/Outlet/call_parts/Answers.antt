-- The calls that were read are those that are made.
use Rattle.std.proofs.Common.{List, refl, sym, subst}
use Rattle.connection_messages.specs.declared.outgoing.Outgoing.{Outgoing}
use Rattle.host_calls.specs.Batches.{parts, AreOutgoings}
use Rattle.host_calls.proofs.outlet.Outlet.call_parts.Goals as goal

pub returns : goal.returns
returns c =
    let Are_so : List Outgoing → Type 0 = λ os. AreOutgoings (parts c.args.bytes.now c.args.lengths.now) os in (
      refl,
      c.in_ok-first.ensures.key,
      (c.deref.result.now, subst Are_so (sym c.deref.ensures.value) c.in_ok-outgoings.ensures.ok, ((c.in_ok-first.ensures.settings, c.in_ok-first.ensures.stream, c.in_ok-first.ensures.taken), c.in_ok-first.ensures.ok)),
    )
