use Rattle.std.proofs.Common.{◌≡◌, false, not, ◌&&◌, sym, ap, ◌∙◌, subst}
use Rattle.rpc_messages.specs.Entry.{message_in}
use Rattle.rpc_messages.specs.Envelope.{envelope_of}
use Rattle.rpc_messages.specs.Shown.{shown_entry, is_cancel_method}
use Rattle.rpc_messages.proofs.Shown.{message_shown, no_cancel}
use Rattle.rpc_messages.proofs.read.direct.read_object.Goals as goal

pub returns-clause-entry : goal.returns-clause-entry
returns-clause-entry c =
    let w = c.args.with_params in
    let found = c.in_ok-read_members.ensures.members in
    let e = envelope_of found.0 in
    let lacks_none = subst (λ seen. (not w && is_cancel_method seen.method) ≡ false) found.2 (sym c.lacks_target.ensures ∙ c.if-lacks_target.false) in (
      found.0,
      found.1,
      ap (shown_entry w) (c.in_ok-take_message.ensures ∙ ap message_in found.2) ∙ message_shown w e (no_cancel w e lacks_none),
    )
