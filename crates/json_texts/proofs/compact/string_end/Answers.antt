use Rattle.std.proofs.Common.{None, ◌∙◌}
use Rattle.json_texts.proofs.FoundStrings.{string_found, no_string_found, other_string_found}
use Rattle.json_texts.proofs.compact.string_end.Goals as goal

pub returns-in_err-end-clause-found : goal.returns-in_err-end-clause-found
returns-in_err-end-clause-found c = no_string_found c.args.text.now c.args.from c.from_residual.result c.in_err-end.ensures.found

pub returns-then-byte_at-eq34-clause-found : goal.returns-then-byte_at-eq34-clause-found
returns-then-byte_at-eq34-clause-found c = string_found c.args.text.now c.args.from c.in_ok-end.end c.in_ok-end.ensures.found

pub returns-else-byte_at-eq34-clause-found : goal.returns-else-byte_at-eq34-clause-found
returns-else-byte_at-eq34-clause-found c =
    let other = c.if-byte_at-eq34.false in
    other_string_found c.args.text.now c.args.from c.in_ok-end.end None c.in_ok-end.ensures.found (λ e. other (c.byte_at.ensures ∙ e))
