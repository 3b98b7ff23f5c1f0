use Rattle.conversation_contents.proofs.Indexes.{among_cancelled, still_among_cancelled}
use Rattle.conversation_contents.specs.Entries.{index_of_entries}
use Rattle.conversation_rules.specs.Dues.{cancelled}
use Rattle.conversation_contents.proofs.content_entries.Entries.cancel.Goals as goal

pub returns-clause-entries : goal.returns-clause-entries
returns-clause-entries c =
    among_cancelled (cancelled c.args.settles c.args.id.now) c.args.self.now.slots.items c.cancel_all.new.slots.items (index_of_entries c.args.self.now) c.requires
    c.cancel_all.ensures

pub returns-clause-stands : goal.returns-clause-stands
returns-clause-stands c =
    still_among_cancelled c.args.settles c.args.id.now c.args.self.now.slots.items c.cancel_all.new.slots.items (index_of_entries c.args.self.now) c.requires
    c.cancel_all.ensures
