use Rattle.std.proofs.Common.{◌≡◌, ◌&&◌, drop, option_map}
use Rattle.toml.specs.View.{items_view}
use Rattle.table_reading.specs.Fields.{listed_calls}
use Rattle.table_reading.specs.Limits.{are_calls_within}
use Rattle.table_reading.proofs.call.are_calls_within.Given as goal

-- what is left to look at decides, with what was found so far
abbrev pub invariant-loop-call : goal.invariant-loop-call
invariant-loop-call l =
    option_map (λ cs. l.within && are_calls_within cs) (listed_calls (items_view (drop l.call-index l.calls))) ≡ option_map are_calls_within (listed_calls (items_view l.calls))
