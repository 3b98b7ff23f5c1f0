use Rattle.std.proofs.Common.{sym, ap, ◌∙◌}
use Rattle.connection_messages.specs.Numbers.{has_lead}
use Rattle.connection_messages.proofs.Decimals.{unsigned_of-lead, unsigned_of-parse}
use Rattle.connection_messages.proofs.read.number.unsigned.Goals as goal

pub returns-then-has_lead : goal.returns-then-has_lead
returns-then-has_lead c = sym (unsigned_of-lead c.args.text.now (sym (c.has_lead.ensures ∙ ap has_lead c.as_bytes.ensures.value) ∙ c.if-has_lead.true))

pub returns : goal.returns
returns c =
    c.ok.ensures.value
    ∙ unsigned_of-parse c.args.text.now c.parse.result c.parse.ensures.value.0 (sym (c.has_lead.ensures ∙ ap has_lead c.as_bytes.ensures.value) ∙ c.if-has_lead.false)
