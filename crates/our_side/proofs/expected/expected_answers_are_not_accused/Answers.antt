use Rattle.our_side.proofs.Matched.{named_none, refused_none, unreadable_none, array_answers_none}
use Rattle.our_side.proofs.expected.expected_answers_are_not_accused.Goals as goal

pub returns-clause-named : goal.returns-clause-named
returns-clause-named c = named_none

pub returns-clause-null : goal.returns-clause-null
returns-clause-null c = refused_none

pub returns-clause-unreadable : goal.returns-clause-unreadable
returns-clause-unreadable c = unreadable_none

pub returns-clause-array : goal.returns-clause-array
returns-clause-array c = array_answers_none
