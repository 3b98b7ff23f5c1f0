use Rattle.std.proofs.Common.{◌∙◌, ap, option_map}
use Rattle.conversation_dues.proofs.Firsts.{entry_found, entry_settled}
use Rattle.conversation_open.specs.Open.{open_entries}
use Rattle.conversation_rules.specs.declared.found.Found.TheVariants.{Entry}
use Rattle.conversation_dues.proofs.settling.settle_entry.Goals as goal

pub returns-in-Some-clause-found : goal.returns-in-Some-clause-found
returns-in-Some-clause-found c = ap (option_map Entry) c.in-Some.ensures.fit ∙ entry_found c.args.id.now c.args.number c.args.way (open_entries c.args.contents.now)

pub returns-in-Some-clause-settled : goal.returns-in-Some-clause-settled
returns-in-Some-clause-settled c =
    entry_settled c.args.id.now c.args.number c.args.way (open_entries c.args.contents.now) (open_entries c.settle_first.new.self) c.requires.window.ordered c.settle_first.ensures.entries

pub returns-in-None-clause-found : goal.returns-in-None-clause-found
returns-in-None-clause-found c = ap (option_map Entry) c.in-None.ensures.fit ∙ entry_found c.args.id.now c.args.number c.args.way (open_entries c.args.contents.now)

pub returns-in-None-clause-settled : goal.returns-in-None-clause-settled
returns-in-None-clause-settled c =
    entry_settled c.args.id.now c.args.number c.args.way (open_entries c.args.contents.now) (open_entries c.settle_first.new.self) c.requires.window.ordered c.settle_first.ensures.entries
