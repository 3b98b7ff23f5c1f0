-- A unit that is taken leaves no stage Failed.
use Rattle.std.proofs.Common.{◌≢◌, ℕ, zero, suc, ◌+◌, List, [], ◌∷◌, ◌++◌, length, Bool, true, false, cond, Option, Some, None, subst, sym}
use Rattle.std.specs.Prelude.{nat_lt}
use Rattle.rpc_messages.specs.Entry.{SeenEntry, call, reply, stray, invalid}
use Rattle.rpc_messages.specs.Numbering.{entries_in, numbers_of}
use Rattle.rpc_messages.specs.Unit.{SeenUnit}
use Rattle.message_ids.specs.declared.id.Id.{Id}
use Rattle.rpc_messages.specs.declared.reply.Reply.{Reply}
use Rattle.method_templates.specs.Steps.{Step}
use Rattle.method_steps.specs.Steps.{MethodTable}
use Rattle.answer_desk.specs.State.{with_reached, with_reply}
use Rattle.peer_events.specs.declared.stage.Stage.{Stage}
use Rattle.peer_events.specs.declared.stage.Stage.TheVariants.{Gone, Faulty, Idle, Out, Over, Failed}
use Rattle.peer_output.specs.Work.{Work, nothing, fault, run, call_work}
use Rattle.peer_events.specs.Core.{Core, stage_at, with_desk}
use Rattle.peer_events.specs.Finishing.{Reaches, none_left, lowest, Cancels, fault_at, fault_passed, told_at, told, over_or_gone}
use Rattle.peer_events.specs.Hearing.{hear_waits}
use Rattle.peer_events.specs.Taking as taking
use Rattle.peer_events.specs.Taking.{Takes, PassesEntry, PassesEntries, stage_for, entry_stages, stages_for, opened}
use Rattle.peer_events.specs.Turning.{start, opening_stage}
use Rattle.stream_session.proofs.Failing.{NoneFailed, none-set, over_not}

none-append : (front back : List Stage) → NoneFailed front → NoneFailed back → NoneFailed (front ++ back)
none-append [] back front_none back_none k = back_none k
none-append (stage ∷ front) back front_none back_none zero = front_none zero
none-append (stage ∷ front) back front_none back_none (suc k) = none-append front back (λ m. front_none (suc m)) back_none k

none-none : NoneFailed []
none-none k is = cc

none-one : (stage : Stage) → stage ≢ Failed → NoneFailed (stage ∷ [])
none-one stage not zero = not
none-one stage not (suc k) = none-none k

-- ---- the stages of new calls

stage_for-not : (n : ℕ) (work : Work) → stage_for n work ≢ Failed
stage_for-not n nothing is = cc
stage_for-not n (fault error) is = cc
stage_for-not n (run program) is = cc

entry_stages-not : (table : MethodTable) (n : ℕ) (e : SeenEntry) → NoneFailed (entry_stages table n e)
entry_stages-not table n (call c) = none-one (stage_for n (call_work table c)) (stage_for-not n (call_work table c))
entry_stages-not table n (reply m t r) = none-none
entry_stages-not table n stray = none-none
entry_stages-not table n invalid = none-none

stages_for-not : (table : MethodTable) (n : ℕ) (es : List SeenEntry) → NoneFailed (stages_for table n es)
stages_for-not table n [] = none-none
stages_for-not table n (e ∷ es) =
    none-append (entry_stages table n e) (stages_for table (n + numbers_of e) es) (entry_stages-not table n e) (stages_for-not table (n + numbers_of e) es)

-- ---- numbers that are told of their cancel

told_at-not : (s : Core) (stage : Stage) → NoneFailed s.stages → NoneFailed (told_at s stage).stages
told_at-not s (Idle h written) none =
    let heard = (hear_waits s.desk h).handler in
    none-set s.stages heard.number (over_or_gone heard written) (over_not heard written (nat_lt written (length heard.messages + length heard.waits))) none
told_at-not s Gone none = none
told_at-not s (Faulty error) none = none
told_at-not s (Out written) none = none
told_at-not s (Over h written) none = none
told_at-not s Failed none = none

reaches-not : (id : Id) (before : ℕ) (s after : Core) → Reaches id before s after → NoneFailed s.stages → NoneFailed after.stages
reaches-not id before s after (none_left unreached) none = none
reaches-not id before s after (lowest {k = n} least reaches) none =
    reaches-not id before (told s n) after reaches (told_at-not (with_desk s (with_reached s.desk (Some n))) (stage_at s n) none)

cancels-not : (s after : Core) (n : ℕ) (target : Option Id) → Cancels s n target after → NoneFailed s.stages → NoneFailed after.stages
cancels-not s after n None is none = subst (λ (c : Core). NoneFailed c.stages) (sym is) none
cancels-not s after n (Some id) reaches none = reaches-not id n s after reaches none

-- ---- entries that are passed

fault_at-not : (s : Core) (n : ℕ) (stage : Stage) → NoneFailed s.stages → NoneFailed (fault_at s n stage).stages
fault_at-not s n (Faulty error) none = none-set s.stages n Gone (λ is. cc) none
fault_at-not s n Gone none = none
fault_at-not s n (Idle h written) none = none
fault_at-not s n (Out written) none = none
fault_at-not s n (Over h written) none = none
fault_at-not s n Failed none = none

replied-not : (s : Core) (m t : ℕ) (r : Reply) (b : Bool) → NoneFailed s.stages
    → NoneFailed (cond b (with_desk s (with_reply s.desk m t r)) s).stages
replied-not s m t r true none = none
replied-not s m t r false none = none

entry-not : (s after : Core) (n : ℕ) (e : SeenEntry) → PassesEntry s n e after → NoneFailed s.stages → NoneFailed after.stages
entry-not s after n (call c) cancels none = cancels-not (fault_passed s n) after n c.target cancels (fault_at-not s n (stage_at s n) none)
entry-not s after n (reply m t r) is none = subst (λ (c : Core). NoneFailed c.stages) (sym is) (replied-not s m t r (nat_lt m n) none)
entry-not s after n stray is none = subst (λ (c : Core). NoneFailed c.stages) (sym is) none
entry-not s after n invalid is none = subst (λ (c : Core). NoneFailed c.stages) (sym is) none

entries-not : (s after : Core) (n : ℕ) (es : List SeenEntry) → PassesEntries s n es after → NoneFailed s.stages → NoneFailed after.stages
entries-not s after n [] taking.none_left none = none
entries-not s after n (e ∷ es) (taking.next {between = between} passes rest) none =
    entries-not between after (n + numbers_of e) es rest (entry-not s between n e passes none)

pub takes-not : (table : MethodTable) (s after : Core) (u : SeenUnit) → Takes table s u after → NoneFailed s.stages → NoneFailed after.stages
takes-not table s after u takes none =
    entries-not (opened table s u) after (length s.stages) (entries_in u) takes
    (none-append s.stages (stages_for table (length s.stages) (entries_in u)) none (stages_for-not table (length s.stages) (entries_in u)))

-- ---- the start

opening-not : (steps : List Step) → opening_stage steps ≢ Failed
opening-not [] is = cc
opening-not (s ∷ ss) is = cc

pub start-not : (table : MethodTable) → NoneFailed (start table).stages
start-not table = none-one (opening_stage table.opening) (opening-not table.opening)
