use Rattle.std.proofs.Common.{◌≡◌, ◌-◌, ◌<◌, ℕ, List, [], ◌∷◌, length, map}
use Rattle.json.specs.Lex.{token}
use Rattle.json.specs.Token.{begin_array}
use Rattle.serde_json.specs.Data.{Data}
use Rattle.rpc_messages.specs.Entry.{entry_seen, entry_of}
use Rattle.value_reading.specs.Lexed.{Lexed}
use Rattle.value_reading.proofs.Placed.{ItemsBehind}
use Rattle.rpc_messages.proofs.read.direct.read_entries.Given as goal

abbrev pub invariant-loop-at : goal.invariant-loop-at
invariant-loop-at l =
    (l.fn.at < l.at) × (from : ℕ) × (ds : List Data) × Lexed l.text l.fn.at (token begin_array ∷ []) from × ItemsBehind 126 l.text from l.at ds × (map entry_seen l.entries.items ≡ map entry_of ds)

abbrev pub decreases-loop-at : goal.decreases-loop-at
decreases-loop-at l = length l.text - l.at
