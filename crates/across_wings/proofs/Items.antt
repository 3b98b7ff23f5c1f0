-- No text of an output has an LF.
use Rattle.std.proofs.Common.{ℕ, ◌+◌, List, [], ◌∷◌, ◌++◌, map, codes, All, refl, sym, subst}
use Rattle.std.specs.List.{join_with_byte}
use Rattle.std.proofs.lemmas.List.Elements.{All-append, All-cons, All-head, All-nil, All-tail}
use Rattle.lsp_frames.specs.Frames.{HasNoLf}
use Rattle.rpc_messages.specs.Dues.{Due, SeenAnswer, text_of, unit_text, unit_answers, unit_kind, unit_requests, unit_dues, due_if, dues}
use Rattle.rpc_messages.specs.Numbering.{unit_numbers}
use Rattle.serde_json.specs.Data.{array}
use Rattle.serde_json.specs.View.{items_of}
use Rattle.rpc_messages.specs.Texts.{answer_of, batch_text_of, call_of, calls_of, notice_of, withdrawal_of}
use Rattle.rpc_messages.specs.Unit.{SeenUnit}
use Rattle.rpc_messages.specs.declared.kind.Kind.{Kind}
use Rattle.rpc_messages.specs.declared.kind.Kind.TheVariants.{Single, Batch}
use Rattle.rpc_messages.specs.declared.reply.Reply.{Reply}
use Rattle.handler_future.specs.declared.message.Message.{Message}
use Rattle.handler_future.specs.declared.message.Message.TheVariants as messages
use Rattle.method_steps.specs.Steps.{MethodTable}
use Rattle.peer_output.specs.Course.{Sending, message, withdrawal}
use Rattle.peer_output.specs.Items.{Item, sent, answered, answers_in, item_text, message_text, sending_text}
use Rattle.peer_output.specs.Output.{IsOutput, IsPartialOutput}
use Rattle.across_wings.proofs.Texts.{both, joined, text-is}

-- ---- answers

abbrev IsLine : Due → Type 0
IsLine due = HasNoLf due.text

texts-are : (answers : List SeenAnswer) → All HasNoLf (map text_of answers)
texts-are [] = All-nil HasNoLf
texts-are (a ∷ answers) = All-cons HasNoLf (text_of a) (map text_of answers) (text-is (answer_of a.id a.reply)) (texts-are answers)

batch-is : (texts : List (List ℕ)) → All HasNoLf texts → HasNoLf (batch_text_of texts)
batch-is texts all = both (codes "[" ++ join_with_byte 44 texts) (codes "]") (both (codes "[") (join_with_byte 44 texts) refl (joined 44 texts refl all)) refl

due-is : (requests : List ℕ) (kind : Kind) (answers : List SeenAnswer) → All IsLine (due_if requests (unit_text kind answers))
due-is requests kind [] = All-nil IsLine
due-is requests Single (a ∷ answers) = All-cons IsLine (record { requests = requests; text = text_of a }) [] (text-is (answer_of a.id a.reply)) (All-nil IsLine)
due-is requests Batch (a ∷ answers) =
    All-cons IsLine (record { requests = requests; text = batch_text_of (map text_of (a ∷ answers)) }) [] (batch-is (map text_of (a ∷ answers)) (texts-are (a ∷ answers))) (All-nil IsLine)

dues-are : (choice : ℕ → Reply) (n : ℕ) (us : List SeenUnit) → All IsLine (dues choice n us)
dues-are choice n [] = All-nil IsLine
dues-are choice n (u ∷ us) =
    All-append IsLine (unit_dues choice n u) (dues choice (n + unit_numbers u) us) (due-is (unit_requests n u) (unit_kind u) (unit_answers choice n u)) (dues-are choice (n + unit_numbers u) us)

front-are : (front rest : List Due) → All IsLine (front ++ rest) → All IsLine front
front-are [] rest all = All-nil IsLine
front-are (due ∷ front) rest all = All-cons IsLine due front (All-head IsLine due (front ++ rest) all) (front-are front rest (All-tail IsLine due (front ++ rest) all))

-- ---- items

message-is : (n : ℕ) (m : Message) → HasNoLf (message_text n m)
message-is n (messages.Call t outgoing) = text-is (call_of n t outgoing)
message-is n (messages.Calls t outgoings) = text-is (array (items_of (calls_of n t outgoings)))
message-is n (messages.Notice outgoing) = text-is (notice_of outgoing)

sending-is : (n : ℕ) (s : Sending) → HasNoLf (sending_text n s)
sending-is n (message m) = message-is n m
sending-is n (withdrawal t) = text-is (withdrawal_of n t)

abbrev pub ItemIsLine : Item → Type 0
ItemIsLine item = HasNoLf (item_text item)

items-are : (items : List Item) → All IsLine (answers_in items) → All ItemIsLine items
items-are [] all = All-nil ItemIsLine
items-are (sent n s ∷ items) all = All-cons ItemIsLine (sent n s) items (sending-is n s) (items-are items all)
items-are (answered due ∷ items) all =
    All-cons ItemIsLine (answered due) items (All-head IsLine due (answers_in items) all) (items-are items (All-tail IsLine due (answers_in items) all))

pub output-is : (table : MethodTable) (units : List SeenUnit) (items : List Item) → IsOutput table units items → All ItemIsLine items
output-is table units items out = items-are items (subst (All IsLine) (sym out.output.answers) (dues-are _ 1 units))

pub partial-is : (table : MethodTable) (units : List SeenUnit) (items : List Item) → IsPartialOutput table units items → All ItemIsLine items
partial-is table units items out =
    items-are items (front-are (answers_in items) out.output.answers.rest (subst (All IsLine) out.output.answers.joined (dues-are _ 1 units)))
