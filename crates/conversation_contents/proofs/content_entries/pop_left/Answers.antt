use Rattle.std.proofs.Common.{Some}
use Rattle.conversation_contents.proofs.Indexes.{lowest_read, none_among, popped}
use Rattle.conversation_contents.specs.Entries.{entries_among}
use Rattle.conversation_contents.specs.Left.{index_of, left_entries}
use Rattle.conversation_contents.proofs.content_entries.pop_left.Goals as goal

pub returns-in-Some-clause-lost : goal.returns-in-Some-clause-lost
returns-in-Some-clause-lost c =
    let left = c.args.left.now in
    let all = entries_among c.args.slots.now (Some left) in
    let there = lowest_read c.args.slots.now left c.in-Some.number c.requires.places c.in-Some.ensures in
    popped all (index_of c.in-Some.number (left_entries left)) (entries_among c.args.slots.now (Some c.take_numbered.new.left)) there.0 c.take_numbered.result there.1 c.take_numbered.ensures.told c.take_numbered.ensures.entries

pub returns-in-None-clause-lost : goal.returns-in-None-clause-lost
returns-in-None-clause-lost c = none_among c.args.slots.now c.args.left.now c.in-None.ensures
