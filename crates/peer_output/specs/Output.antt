-- The outputs that a stream of units allows. No order of events stands in it, and no waiting: it sorts the items by who sent them.
use Rattle.std.specs.Prelude.{◌≡◌, ℕ, List, ◌∷◌, ◌++◌, All}
use Rattle.rpc_messages.specs.Dues.{Due, dues}
use Rattle.rpc_messages.specs.Replies.{entries_along}
use Rattle.rpc_messages.specs.Unit.{SeenUnit}
use Rattle.method_steps.specs.Steps.{MethodTable}
use Rattle.peer_output.specs.Course.{Course}
use Rattle.peer_output.specs.Cancelled.{Begins, MayTake}
use Rattle.peer_output.specs.Items.{Item, answered, sent_by, answers_in}

-- A choice gives each number a course that it may take.
abbrev pub Choice : Type 0
Choice = ℕ → Course

abbrev pub IsChoice : MethodTable → List SeenUnit → Choice → Type 0
IsChoice table units choice = (n : ℕ) → MayTake table (entries_along units) n (choice n)

-- The answers that are due to the units, in the order in which these came (JSON-RPC 2.0, sections 5 and 6).
abbrev pub due_answers : Choice → List SeenUnit → List Due
due_answers choice units = dues (λ n. (choice n).answer) 1 units

-- Wherever an answer stands, what stands before it has all that its requests' courses send.
abbrev pub AnswersFollow : Choice → List Item → Type 0
AnswersFollow choice items =
    (before after : List Item) (due : Due) → items ≡ before ++ answered due ∷ after → All (λ n. sent_by n before ≡ (choice n).sends) due.requests

-- The output of a choice: the answers are those that are due, each number sends all of its course, and the answers follow.
pub record IsOutputOf (choice : Choice) (units : List SeenUnit) (items : List Item) : Type 0 where
  pub answers : answers_in items ≡ due_answers choice units
  pub sendings : (n : ℕ) → sent_by n items ≡ (choice n).sends
  pub order : AnswersFollow choice items

-- The same cut short: fronts of the answers and of what each number sends.
pub record IsPartialOutputOf (choice : Choice) (units : List SeenUnit) (items : List Item) : Type 0 where
  pub answers : Begins (answers_in items) (due_answers choice units)
  pub sendings : (n : ℕ) → Begins (sent_by n items) (choice n).sends
  pub order : AnswersFollow choice items

-- An output of units is that of some choice.
pub record IsOutput (table : MethodTable) (units : List SeenUnit) (items : List Item) : Type 0 where
  pub choice : Choice
  pub lawful : IsChoice table units choice
  pub output : IsOutputOf choice units items

pub record IsPartialOutput (table : MethodTable) (units : List SeenUnit) (items : List Item) : Type 0 where
  pub choice : Choice
  pub lawful : IsChoice table units choice
  pub output : IsPartialOutputOf choice units items
