use Rattle.std.proofs.Common.{◌∙◌, ap, sym}
use Rattle.conversation_rules.specs.Dues.{owed_more}
use Rattle.conversation_open.specs.Open.{open_entries, contents_of}
use Rattle.conversation_open.proofs.Lasts.{none_last, owed_last, last_at}
use Rattle.conversation_open.proofs.open_contents.OpenContents.owe.Goals as goal

pub owe_under-requires-clause-there : goal.owe_under-requires-clause-there
owe_under-requires-clause-there c = last_at c.in-Some.number (open_entries c.args.self.now) c.in-Some.ensures

pub returns-in-None-clause-ok : goal.returns-in-None-clause-ok
returns-in-None-clause-ok c =
    let none = none_last (open_entries c.args.self.now) c.in-None.ensures in
    ap contents_of none ∙ sym (ap (λ es. owed_more c.args.owed (contents_of es)) none)

pub returns-clause-ok : goal.returns-clause-ok
returns-clause-ok c = ap contents_of c.in_default.ensures.ok ∙ owed_last c.args.owed c.in-Some.number (open_entries c.args.self.now) c.requires.window.ordered c.in-Some.ensures
