-- What is certain of a number.
use Rattle.std.proofs.Common.{◌≡◌, ℕ, ◌≤◌, List, [], ◌++◌, map, filter, Bool, true, false, inl, inr, refl, sym, ap, subst, ◌∙◌}
use Rattle.std.proofs.lemmas.List.{map-append}
use Rattle.rpc_messages.specs.Entry.{SeenEntry}
use Rattle.rpc_messages.specs.Numbering.{numbers_in}
use Rattle.rpc_messages.specs.Replies.{replies}
use Rattle.rpc_messages.specs.declared.reply.Reply.{Reply}
use Rattle.rpc_messages.specs.declared.reply.Reply.TheVariants.{Standard as Fixed}
use Rattle.message_ids.specs.declared.standard.Standard.{Standard}
use Rattle.message_ids.specs.declared.standard.Standard.TheVariants.{Cancelled}
use Rattle.method_steps.specs.Steps.{MethodTable}
use Rattle.handler_future.specs.declared.message.Message.{Message}
use Rattle.handler_future.specs.Evaluation.{Replies, Program, evaluation}
use Rattle.handler_future.specs.Front.{Heard, AgreesWith, is_heard, front, last_turns}
use Rattle.handler_future.specs.State.{HandlerState, IsWaiting, HasEnded, HasFailed}
use Rattle.handler_future.proofs.Fronts.{front-begins, front-same}
use Rattle.peer_output.specs.Work.{fault, run, work}
use Rattle.peer_output.specs.Course.{Sending, message, withdrawal, Course, silent, evaluated, course_of, course}
use Rattle.peer_output.specs.Cancelled.{Begins, is_cancelled}
use Rattle.peer_output.specs.Later.{MayBecome, IsUnderWay, IsFinished, IsHeardFrom}
use Rattle.peer_output.proofs.Fronts.{begins-nothing, unmapped}
use Rattle.peer_output.proofs.Streams.{becomes-longer, later-longer, work-stays, cancelled-stays, cancelled-known}

-- ---- more entries, and the end of the input

pub under_way-longer : (table : MethodTable) (is_over : Bool) (entries longer : List SeenEntry) (n : ℕ) (sends : List Sending) → Begins entries longer
    → IsUnderWay table false entries n sends → IsUnderWay table is_over longer n sends
under_way-longer table is_over entries longer n sends b h later becomes = h later (later-longer is_over entries longer later b becomes)

pub finished-longer : (table : MethodTable) (is_over : Bool) (entries longer : List SeenEntry) (n : ℕ) (c : Course) → Begins entries longer
    → IsFinished table false entries n c → IsFinished table is_over longer n c
finished-longer table is_over entries longer n c b h later becomes = h later (later-longer is_over entries longer later b becomes)

-- ---- nothing sent, and faults

pub nothing-under_way : (table : MethodTable) (is_over : Bool) (entries : List SeenEntry) (n : ℕ) → IsUnderWay table is_over entries n []
nothing-under_way table is_over entries n later becomes = begins-nothing _

pub fault-finished : (table : MethodTable) (is_over : Bool) (entries : List SeenEntry) (n : ℕ) (standard : Standard) → n ≤ numbers_in entries
    → work table entries n ≡ fault standard → IsFinished table is_over entries n (silent (Fixed standard))
fault-finished table is_over entries n standard known is later becomes =
    inl (sym (ap (course_of (replies later n)) (work-stays table entries later n known (becomes-longer is_over entries later becomes) ∙ is)))

-- ---- handlers

front-of : (p : Program) (heard : Heard) (R : Replies) → AgreesWith heard R → Begins (map message (front p heard)) (map message (evaluation R p).messages)
front-of p heard R agrees =
    let begins = front-begins (is_heard heard) (evaluation R p).messages in
    record {
      rest = map message begins.0;
      joined = ap (map message) (begins.1 ∙ ap (λ ms. ms ++ begins.0) (front-same p heard R agrees)) ∙ map-append message (front p heard) begins.0;
    }

run-course : (table : MethodTable) (is_over : Bool) (entries : List SeenEntry) (n : ℕ) (p : Program) → n ≤ numbers_in entries → work table entries n ≡ run p
    → (later : List SeenEntry) → MayBecome is_over entries later → evaluated (evaluation (replies later n) p) ≡ course table later n
run-course table is_over entries n p known is later becomes =
    sym (ap (course_of (replies later n)) (work-stays table entries later n known (becomes-longer is_over entries later becomes) ∙ is))

-- the messages that can be made with what was heard
pub front-under_way : (table : MethodTable) (is_over : Bool) (entries : List SeenEntry) (n : ℕ) (p : Program) (heard : Heard) → n ≤ numbers_in entries
    → work table entries n ≡ run p → IsHeardFrom is_over entries n heard → IsUnderWay table is_over entries n (map message (front p heard))
front-under_way table is_over entries n p heard known is from later becomes =
    subst (λ (c : Course). Begins (map message (front p heard)) c.sends) (run-course table is_over entries n p known is later becomes)
    (front-of p heard (replies later n) (from later becomes))

-- a handler that ended
pub ended-finished : (table : MethodTable) (is_over : Bool) (entries : List SeenEntry) (n : ℕ) (s : HandlerState) (answer : Reply) → n ≤ numbers_in entries
    → work table entries n ≡ run s.program → IsHeardFrom is_over entries n s.heard → HasEnded s answer
    → IsFinished table is_over entries n (record { sends = map message s.messages; answer = answer })
ended-finished table is_over entries n s answer known is from ended later becomes =
    inl (ap evaluated (sym (ended.evaluated (replies later n) (from later becomes))) ∙ run-course table is_over entries n s.program known is later becomes)

-- a handler that is cut short
message-inj : (a b : Message) → message a ≡ message b → a ≡ b
message-inj a b h = cc

pub cut-finished : (table : MethodTable) (is_over : Bool) (entries : List SeenEntry) (n : ℕ) (p : Program) (made : List Message) (is_withdrawn : ℕ → Bool)
    → work table entries n ≡ run p → is_cancelled entries n ≡ true → IsUnderWay table is_over entries n (map message made)
    → IsFinished table is_over entries n (record { sends = map message made ++ map withdrawal (filter is_withdrawn (last_turns made)); answer = Fixed Cancelled })
cut-finished table is_over entries n p made is_withdrawn is cancelled under_way later becomes =
    let known : n ≤ numbers_in entries = cancelled-known entries n cancelled in
    let longer : Begins entries later = becomes-longer is_over entries later becomes in
    inr (record {
      reached = cancelled-stays entries later n longer cancelled;
      program = p;
      runs = work-stays table entries later n known longer ∙ is;
      cut = record {
        made = made;
        is_withdrawn = is_withdrawn;
        begins = unmapped message message-inj made (evaluation (replies later n) p).messages
            (subst (λ (c : Course). Begins (map message made) c.sends) (sym (run-course table is_over entries n p known is later becomes)) (under_way later becomes));
        sends = refl;
        answer = refl;
      };
    })

-- a handler that waits, and one that failed
pub waiting-under_way : (table : MethodTable) (is_over : Bool) (entries : List SeenEntry) (n : ℕ) (s : HandlerState) → n ≤ numbers_in entries
    → work table entries n ≡ run s.program → IsHeardFrom is_over entries n s.heard → IsWaiting s → IsUnderWay table is_over entries n (map message s.messages)
waiting-under_way table is_over entries n s known is from waiting =
    subst (λ ms. IsUnderWay table is_over entries n (map message ms)) (sym waiting.messages) (front-under_way table is_over entries n s.program s.heard known is from)

pub failed-under_way : (table : MethodTable) (is_over : Bool) (entries : List SeenEntry) (n : ℕ) (s : HandlerState) → n ≤ numbers_in entries
    → work table entries n ≡ run s.program → IsHeardFrom is_over entries n s.heard → HasFailed s → IsUnderWay table is_over entries n (map message s.messages)
failed-under_way table is_over entries n s known is from failed later becomes =
    let begins = failed.begins (replies later n) (from later becomes) in
    subst (λ (c : Course). Begins (map message s.messages) c.sends) (run-course table is_over entries n s.program known is later becomes)
    (record { rest = map message begins.0; joined = ap (map message) begins.1 ∙ map-append message s.messages begins.0 })
