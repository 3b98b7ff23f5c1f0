use Rattle.std.proofs.Common.{◌<◌, ◌∙◌, sym, arith}
use Rattle.conversation_open.specs.Open.{open_entries}
use Rattle.conversation_contents.proofs.Behind.{next_above, next_there}
use Rattle.conversation_open.proofs.Lasts.{last_there, last_stands, first_there, first_none}
use Rattle.conversation_open.proofs.open_contents.OpenContents.last_number.Goals as goal

pub returns-then-has : goal.returns-then-has
returns-then-has c = last_there c.args.self.now.last (open_entries c.args.self.now) c.requires.window.ordered c.requires.below (sym c.has.ensures ∙ c.if-has.true)

pub returns-in-None : goal.returns-in-None
returns-in-None c = first_none (open_entries c.args.self.now) c.in-None.ensures

pub loop-next-init : goal.loop-next-init
loop-next-init c = first_there c.in-Some.first (open_entries c.args.self.now) c.in-Some.ensures

pub loop-next-smaller : goal.loop-next-smaller
loop-next-smaller c = let more : c.loop-next.number < c.in-Some-next.next = next_above c.loop-next.number c.in-Some-next.next (open_entries c.args.self.now) c.in-Some-next.ensures in omega arith

pub loop-next-preserved : goal.loop-next-preserved
loop-next-preserved c = next_there c.loop-next.number c.in-Some-next.next (open_entries c.args.self.now) c.in-Some-next.ensures

pub returns : goal.returns
returns c = last_stands c.loop-next.number (open_entries c.args.self.now) c.requires.window.ordered c.loop-next.invariant c.in_default.ensures
