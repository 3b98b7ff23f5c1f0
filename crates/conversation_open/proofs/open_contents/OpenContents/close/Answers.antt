use Rattle.std.proofs.Common.{◌∙◌, ap, sym}
use Rattle.conversation_rules.specs.Dues.{closed}
use Rattle.conversation_open.specs.Open.{open_entries, contents_of}
use Rattle.conversation_open.proofs.Lasts.{none_last, close_open, close_done}
use Rattle.conversation_open.proofs.open_contents.OpenContents.close.Goals as goal

pub returns-then-not-is_open_at-clause-entries : goal.returns-then-not-is_open_at-clause-entries
returns-then-not-is_open_at-clause-entries c =
    ap contents_of c.remove.ensures.entries
    ∙ close_done c.in-Some.number (open_entries c.args.self.now) c.requires.window.ordered c.in-Some.ensures (sym c.is_open_at.ensures ∙ c.if-not-is_open_at.true)

pub returns-else-not-is_open_at-clause-entries : goal.returns-else-not-is_open_at-clause-entries
returns-else-not-is_open_at-clause-entries c = close_open c.in-Some.number (open_entries c.args.self.now) c.requires.window.ordered c.in-Some.ensures (sym c.is_open_at.ensures ∙ c.if-not-is_open_at.false)

pub returns-in_default-clause-entries : goal.returns-in_default-clause-entries
returns-in_default-clause-entries c =
    let none = none_last (open_entries c.args.self.now) c.in_default.ensures in
    ap contents_of none ∙ sym (ap (λ es. closed (contents_of es)) none)
