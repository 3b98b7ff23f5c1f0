use Rattle.std.proofs.Common.{◌∙◌, ap, sym, map, true≢false}
use Rattle.rpc_messages.specs.Entry.{entry_seen}
use Rattle.rpc_messages.specs.Unit.{batch_of}
use Rattle.rpc_messages.proofs.Contents.{batch_of_some}
use Rattle.rpc_messages.proofs.read.read_array.Goals as goal

pub returns-clause-ok : goal.returns-clause-ok
returns-clause-ok c =
    let found = c.in_ok-read_entries.ensures.ok in (
      found.0,
      found.1,
      batch_of_some c.from-entries.result (λ none. true≢false (sym (c.is_empty.ensures.1 none) ∙ c.if-is_empty.false))
          ∙ ap (λ es. batch_of (map entry_seen es)) c.from-entries.ensures ∙ ap batch_of found.2,
    )
