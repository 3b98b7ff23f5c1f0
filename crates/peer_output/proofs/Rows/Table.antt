-- The methods of the worked rows, as what the texts of their tables stand for, and items in few words.
use Rattle.std.specs.Prelude.{ℕ, List, [], ◌∷◌, codes, Some, None, pos, true}
use Rattle.serde_json.specs.Data.{Data, boolean, string, array, item, no_items}
use Rattle.rpc_messages.specs.declared.outgoing.Outgoing.{Outgoing}
use Rattle.method_templates.specs.Shape.{Shape, plain, place, list, no_shapes, shape}
use Rattle.method_templates.specs.declared.step.OnError.TheVariants.{Fail, Keep}
use Rattle.method_templates.specs.declared.step.Step.TheVariants as step
use Rattle.method_templates.specs.Steps.{Step}
use Rattle.method_steps.specs.Steps.{MethodTable}
use Rattle.handler_future.specs.declared.message.Message.TheVariants as messages
use Rattle.handler_future.specs.Evaluation.{Program}
use Rattle.peer_output.specs.Course.{message, withdrawal}
use Rattle.peer_output.specs.Items.{Item, sent, answered}

-- `["$params/0"]`, and the value of a register
abbrev pub first_param : Shape
first_param = list (shape (place (codes "params") (codes "/0")) no_shapes)

abbrev pub register : List ℕ → Shape
register name = place name []

abbrev pub ask_steps : List Step
ask_steps = step.Call (codes "r") (codes "confirm") (Some first_param) Fail ∷ step.Answer (register (codes "r")) ∷ []

abbrev pub two_steps : List Step
two_steps =
    step.Calls (codes "r") (record { method = codes "a"; params = None } ∷ record { method = codes "b"; params = None } ∷ []) Fail
    ∷ step.Answer (register (codes "r")) ∷ []

abbrev pub row_table : MethodTable
row_table = record {
  opening = [];
  methods =
      record {
        name = codes "add";
        steps = step.Add (codes "s") (place (codes "params") (codes "/0")) (place (codes "params") (codes "/1")) ∷ step.Answer (register (codes "s")) ∷ [];
      }
      ∷ record { name = codes "ask"; steps = ask_steps }
      ∷ record { name = codes "two"; steps = two_steps }
      ∷ record {
        name = codes "gate";
        steps =
            step.Call (codes "r") (codes "confirm") None Fail
            ∷ step.Skip (register (codes "r")) (plain (boolean true)) 1
            ∷ step.Fail (pos 7) (codes "no")
            ∷ step.Answer (plain (string (codes "yes"))) ∷ [];
      }
      ∷ record { name = codes "keep"; steps = step.Call (codes "r") (codes "confirm") None Keep ∷ step.Answer (register (codes "r")) ∷ [] }
      ∷ record { name = codes "note"; steps = step.Notify (codes "log") (Some first_param) ∷ [] }
      ∷ [];
}

-- an opening that calls `hello`, and then tells the reply
abbrev pub opening_table : MethodTable
opening_table = record {
  opening =
      step.Call (codes "r") (codes "hello") None Fail
      ∷ step.Notify (codes "ready") (Some (list (shape (register (codes "r")) no_shapes))) ∷ [];
  methods = [];
}

-- a call for each element of the params
abbrev pub each_table : MethodTable
each_table = record {
  opening = [];
  methods = record { name = codes "all"; steps = step.Each (codes "r") (register (codes "params")) (codes "f") Fail ∷ step.Answer (register (codes "r")) ∷ [] } ∷ [];
}

-- ---- programs and items

-- an array of one text
abbrev pub one : List ℕ → Data
one s = array (item (string s) no_items)

-- `ask` with the params `["x"]`, and `two` with none
abbrev pub ask_program : Program
ask_program = record { steps = ask_steps; params = one (codes "x") }

abbrev pub confirm : Outgoing
confirm = record { method = codes "confirm"; params = Some (one (codes "x")) }

abbrev pub plainly : List ℕ → Outgoing
plainly method = record { method = method; params = None }

abbrev pub called : ℕ → ℕ → Outgoing → Item
called n t outgoing = sent n (message (messages.Call t outgoing))

abbrev pub withdrawn : ℕ → ℕ → Item
withdrawn n t = sent n (withdrawal t)

abbrev pub answers : List ℕ → List ℕ → Item
answers requests text = answered (record { requests = requests; text = text })
