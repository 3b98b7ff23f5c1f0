use Rattle.std.proofs.Common.{◌≡◌, ◌++◌, true, is_some, drop}
use Rattle.toml.specs.View.{items_view}
use Rattle.table_reading.specs.Fields.{listed_calls, the_calls}
use Rattle.table_reading.specs.References.{calls_refer_back}
use Rattle.table_reading.proofs.made.listed_calls.Given as goal

abbrev pub invariant-loop-call : goal.invariant-loop-call
invariant-loop-call l = record {
  typed : is_some (listed_calls (items_view (drop l.call-index l.calls))) ≡ true;
  made : l.list.items ++ the_calls (items_view (drop l.call-index l.calls)) ≡ the_calls (items_view l.calls);
  known : calls_refer_back (items_view l.earlier) (the_calls (items_view (drop l.call-index l.calls))) ≡ calls_refer_back (items_view l.earlier) (the_calls (items_view l.calls));
}
