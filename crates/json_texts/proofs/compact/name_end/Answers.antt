use Rattle.std.proofs.Common.{None, ◌∙◌}
use Rattle.json_texts.proofs.FoundStrings.{name_found, unquoted_name_found, no_name_found, other_name_found}
use Rattle.json_texts.proofs.compact.name_end.Goals as goal

pub returns-then-byte_at-ne34-clause-found : goal.returns-then-byte_at-ne34-clause-found
returns-then-byte_at-ne34-clause-found c =
    let other = c.if-byte_at-ne34.true in
    unquoted_name_found c.args.text.now c.args.from None (λ e. other (c.byte_at.ensures ∙ e))

pub returns-in_err-end-clause-found : goal.returns-in_err-end-clause-found
returns-in_err-end-clause-found c = no_name_found c.args.text.now c.args.from c.from_residual.result c.in_err-end.ensures.found

pub returns-then-byte_at-ne58-clause-found : goal.returns-then-byte_at-ne58-clause-found
returns-then-byte_at-ne58-clause-found c =
    let other = c.if-byte_at-ne58.true in
    other_name_found c.args.text.now c.args.from c.in_ok-end.end None c.in_ok-end.ensures.found (λ e. other (c.byte_at-2.ensures ∙ e))

pub returns-clause-found : goal.returns-clause-found
returns-clause-found c = name_found c.args.text.now c.args.from c.in_ok-end.end c.in_ok-end.ensures.found
