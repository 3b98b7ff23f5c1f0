-- The contents of one kind, which are lent by an index.
use Rattle.std.specs.Prelude.{Bool, true, false}
use Rattle.std.specs.Borrow.{Lends, MutBor, Fml}
use Rattle.conversation_open.specs.contracts.index.Index.{the_row}
use Rattle.conversation_open.specs.contracts.marked_contents.MarkedContents.{the_row as contents_row}
use Rattle.conversation_open.specs.declared.index.Index.{Index}
use Rattle.conversation_open.specs.declared.marked_contents.MarkedContents.{MarkedContents}

-- these stand in the place of those of a kind
abbrev pub with_kind : Bool → Index → MarkedContents → Index
with_kind true index contents = record index { batches = contents }
with_kind false index contents = record index { singles = contents }

-- the index has in the end what is left behind the reference
abbrev pub LendsKind : Bool → MutBor Index → MutBor MarkedContents → Fml
LendsKind is_batch index contents = Lends the_row contents_row index contents (with_kind is_batch index.now)
