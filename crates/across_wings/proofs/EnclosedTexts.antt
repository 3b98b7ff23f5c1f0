-- The text of an object or an array, and so each text of an output, begins and ends with a brace or a bracket.
use Rattle.std.proofs.Common.{◌≡◌, ℕ, ◌+◌, ◌-◌, ◌==◌, Bool, true, false, List, [], ◌∷◌, ◌++◌, All, map, take, cond, get_or, length, inl, inr, refl, sym, ap, subst, ◌∙◌, append_assoc, arith}
use Rattle.std.specs.Prelude.{codes, Some}
use Rattle.std.proofs.lemmas.List.{length-append, get_or_at}
use Rattle.std.proofs.lemmas.List.Elements.{All-append, All-cons, All-head, All-nil, All-tail}
use Rattle.std.specs.List.{join_with_byte}
use Rattle.content_streams.specs.Lines.{ends_in_cr, is_blank, without_cr}
use Rattle.handler_future.specs.declared.message.Message.{Message}
use Rattle.handler_future.specs.declared.message.Message.TheVariants as messages
use Rattle.json.specs.Print.{quoted}
use Rattle.message_ids.specs.declared.id.Id.{Id}
use Rattle.method_steps.specs.Steps.{MethodTable}
use Rattle.peer_output.specs.Course.{Sending, message, withdrawal}
use Rattle.peer_output.specs.Items.{Item, sent, answered, answers_in, item_text, message_text, sending_text}
use Rattle.peer_output.specs.Output.{IsOutput, IsPartialOutput}
use Rattle.rpc_messages.specs.Dues.{Due, SeenAnswer, text_of, unit_text, unit_answers, unit_kind, unit_requests, unit_dues, due_if, dues}
use Rattle.rpc_messages.specs.Key.{key_text}
use Rattle.rpc_messages.specs.Numbering.{unit_numbers}
use Rattle.rpc_messages.specs.Texts.{answer_text_of, batch_text_of, calls_of, error_data, id_data, method_members, standard_error, versioned}
use Rattle.rpc_messages.specs.Unit.{SeenUnit}
use Rattle.rpc_messages.specs.declared.kind.Kind.{Kind}
use Rattle.rpc_messages.specs.declared.kind.Kind.TheVariants.{Single, Batch}
use Rattle.rpc_messages.specs.declared.reply.Reply.{Reply}
use Rattle.rpc_messages.specs.declared.reply.Reply.TheVariants.{Done, Error, Standard as Fixed}
use Rattle.serde_json.specs.Data.{array, object, string, Items, no_items, item, Members, no_members, member}
use Rattle.serde_json.specs.View.{items_of}
use Rattle.serde_json.specs.Written.{comma_if, compact_text, items_text, members_text}
use Rattle.across_wings.specs.Enclosed.{IsEnclosed}

-- ---- the last byte

abbrev EndsBy : ℕ → List ℕ → Type 0
EndsBy byte text = (front : List ℕ) × (text ≡ front ++ byte ∷ [])

behind : (byte : ℕ) (front text : List ℕ) → EndsBy byte text → EndsBy byte (front ++ text)
behind byte front text ends = (front ++ ends.0, ap (λ t. front ++ t) ends.1 ∙ sym (append_assoc front ends.0 (byte ∷ [])))

items-end : (later : Bool) (ds : Items) → EndsBy 93 (items_text later ds)
items-end later no_items = ([], refl)
items-end later (item d ds) =
    behind 93 (comma_if later) (compact_text d ++ items_text true ds) (behind 93 (compact_text d) (items_text true ds) (items-end true ds))

members-end : (later : Bool) (ms : Members) → EndsBy 125 (members_text later ms)
members-end later no_members = ([], refl)
members-end later (member k d ms) =
    behind 125 (comma_if later) (quoted k ++ 58 ∷ (compact_text d ++ members_text true ms))
    (behind 125 (quoted k) (58 ∷ (compact_text d ++ members_text true ms))
    (behind 125 (58 ∷ []) (compact_text d ++ members_text true ms) (behind 125 (compact_text d) (members_text true ms) (members-end true ms))))

object-is : (ms : Members) → IsEnclosed (compact_text (object ms))
object-is ms = let ends = members-end false ms in (ends.0, inl (ap (λ t. 123 ∷ t) ends.1))

array-is : (ds : Items) → IsEnclosed (compact_text (array ds))
array-is ds = let ends = items-end false ds in (ends.0, inr (ap (λ t. 91 ∷ t) ends.1))

-- ---- answers

answer-is : (id : Id) (reply : Reply) → IsEnclosed (answer_text_of id reply)
answer-is id (Done d) = object-is (member (codes "id") (id_data id) (versioned (member (codes "result") d no_members)))
answer-is id (Error e) = object-is (member (codes "error") (error_data e) (member (codes "id") (id_data id) (versioned no_members)))
answer-is id (Fixed s) = object-is (member (codes "error") (error_data (standard_error s)) (member (codes "id") (id_data id) (versioned no_members)))

batch-is : (texts : List (List ℕ)) → IsEnclosed (batch_text_of texts)
batch-is texts = (join_with_byte 44 texts, inr refl)

abbrev DueIs : Due → Type 0
DueIs due = IsEnclosed due.text

due-is : (requests : List ℕ) (kind : Kind) (answers : List SeenAnswer) → All DueIs (due_if requests (unit_text kind answers))
due-is requests kind [] = All-nil DueIs
due-is requests Single (a ∷ answers) = All-cons DueIs (record { requests = requests; text = text_of a }) [] (answer-is a.id a.reply) (All-nil DueIs)
due-is requests Batch (a ∷ answers) =
    All-cons DueIs (record { requests = requests; text = batch_text_of (map text_of (a ∷ answers)) }) [] (batch-is (map text_of (a ∷ answers))) (All-nil DueIs)

dues-are : (choice : ℕ → Reply) (n : ℕ) (us : List SeenUnit) → All DueIs (dues choice n us)
dues-are choice n [] = All-nil DueIs
dues-are choice n (u ∷ us) =
    All-append DueIs (unit_dues choice n u) (dues choice (n + unit_numbers u) us) (due-is (unit_requests n u) (unit_kind u) (unit_answers choice n u)) (dues-are choice (n + unit_numbers u) us)

front-are : (front rest : List Due) → All DueIs (front ++ rest) → All DueIs front
front-are [] rest all = All-nil DueIs
front-are (due ∷ front) rest all = All-cons DueIs due front (All-head DueIs due (front ++ rest) all) (front-are front rest (All-tail DueIs due (front ++ rest) all))

-- ---- items

message-is : (n : ℕ) (m : Message) → IsEnclosed (message_text n m)
message-is n (messages.Call t outgoing) = object-is (member (codes "id") (string (key_text n t)) (versioned (method_members outgoing)))
message-is n (messages.Calls t outgoings) = array-is (items_of (calls_of n t outgoings))
message-is n (messages.Notice outgoing) = object-is (versioned (method_members outgoing))

sending-is : (n : ℕ) (s : Sending) → IsEnclosed (sending_text n s)
sending-is n (message m) = message-is n m
sending-is n (withdrawal t) =
    object-is (versioned (method_members (record { method = codes "$/cancelRequest"; params = Some (object (member (codes "id") (string (key_text n t)) no_members)) })))

abbrev pub ItemIs : Item → Type 0
ItemIs it = IsEnclosed (item_text it)

items-are : (items : List Item) → All DueIs (answers_in items) → All ItemIs items
items-are [] all = All-nil ItemIs
items-are (sent n s ∷ items) all = All-cons ItemIs (sent n s) items (sending-is n s) (items-are items all)
items-are (answered due ∷ items) all =
    All-cons ItemIs (answered due) items (All-head DueIs due (answers_in items) all) (items-are items (All-tail DueIs due (answers_in items) all))

pub output-is : (table : MethodTable) (units : List SeenUnit) (items : List Item) → IsOutput table units items → All ItemIs items
output-is table units items out = items-are items (subst (All DueIs) (sym out.output.answers) (dues-are _ 1 units))

pub partial-is : (table : MethodTable) (units : List SeenUnit) (items : List Item) → IsPartialOutput table units items → All ItemIs items
partial-is table units items out =
    items-are items (front-are (answers_in items) out.output.answers.rest (subst (All DueIs) out.output.answers.joined (dues-are _ 1 units)))

-- ---- its line

last-is : (text front : List ℕ) (byte : ℕ) → text ≡ front ++ byte ∷ [] → (byte == 13) ≡ false → ends_in_cr text ≡ false
last-is text front byte is other =
    let size : length text ≡ length front + 1 = ap length is ∙ length-append front (byte ∷ []) in
    let place : length front ≡ length text - 1 = omega (arith, size) in
    ap (λ t. get_or t (length text - 1) 0 == 13) is ∙ ap (λ b. b == 13) (get_or_at front byte [] 0 (length text - 1) place) ∙ other

no-cr : (text : List ℕ) → IsEnclosed text → ends_in_cr text ≡ false
no-cr text (inner, inl is) = last-is text (123 ∷ inner) 125 is refl
no-cr text (inner, inr is) = last-is text (91 ∷ inner) 93 is refl

kept : (text : List ℕ) (t : Bool) → t ≡ false → cond t (take (length text - 1) text) text ≡ text
kept text true is = cc
kept text false is = refl

pub whole-line : (text : List ℕ) → IsEnclosed text → without_cr text ≡ text
whole-line text enclosed = kept text (ends_in_cr text) (no-cr text enclosed)

pub not-blank : (text : List ℕ) → IsEnclosed text → is_blank text ≡ false
not-blank text (inner, inl is) = ap is_blank is
not-blank text (inner, inr is) = ap is_blank is
