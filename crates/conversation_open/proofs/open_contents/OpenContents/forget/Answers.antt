use Rattle.std.proofs.Common.{sym}
use Rattle.conversation_open.specs.Open.{open_entries}
use Rattle.conversation_open.proofs.Indexed.{indexed_left, indexed_none}
use Rattle.conversation_open.proofs.open_contents.OpenContents.forget.Goals as goal

pub returns-in-Some-clause-stands : goal.returns-in-Some-clause-stands
returns-in-Some-clause-stands c = record {
  window = c.requires.window;
  above = c.requires.above;
  below = c.requires.below;
  indexed = indexed_left c.args.entry.now c.forget_entry.new.self c.args.self.now.index (open_entries c.args.self.now) c.args.number c.in-Some.due.now c.requires.indexed (sym c.in-Some.ensures) c.forget_entry.ensures.here c.forget_entry.ensures.other_kind;
  uncancelled = c.requires.uncancelled;
}

pub returns-in_default-clause-stands : goal.returns-in_default-clause-stands
returns-in_default-clause-stands c = record {
  window = c.requires.window;
  above = c.requires.above;
  below = c.requires.below;
  indexed = indexed_none c.args.entry.now c.args.self.now.index (open_entries c.args.self.now) c.args.number c.requires.indexed (sym c.in_default.ensures);
  uncancelled = c.requires.uncancelled;
}
