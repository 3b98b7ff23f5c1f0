-- What a unit that is taken makes of a session.
use Rattle.std.specs.Prelude.{◌≡◌, ℕ, ◌+◌, List, [], ◌∷◌, ◌++◌, length, nat_lt, if◌then◌else◌}
use Rattle.rpc_messages.specs.Dues.{unit_kind}
use Rattle.rpc_messages.specs.Entry.{SeenEntry, call, reply, stray, invalid}
use Rattle.rpc_messages.specs.Numbering.{numbers_of, entries_in}
use Rattle.rpc_messages.specs.Unit.{SeenUnit, unreadable, single, batch}
use Rattle.method_templates.specs.Steps.{calls_of}
use Rattle.method_steps.specs.Steps.{MethodTable}
use Rattle.answer_desk.specs.State.{with_unit, with_reply}
use Rattle.answer_desk.specs.declared.shape.Place.{Place}
use Rattle.answer_desk.specs.declared.shape.Place.TheVariants as places
use Rattle.answer_desk.specs.declared.shape.Shape.{Shape}
use Rattle.handler_future.specs.State.{new_state}
use Rattle.peer_events.specs.declared.stage.Stage.{Stage}
use Rattle.peer_events.specs.declared.stage.Stage.TheVariants.{Gone, Faulty, Idle}
use Rattle.peer_output.specs.Work.{Work, nothing, fault, run, call_work}
use Rattle.peer_events.specs.Core.{Core, with_desk}
use Rattle.peer_events.specs.Finishing.{fault_passed, Cancels}

-- ---- a unit comes to the desk

-- how many calls some work makes at most
abbrev pub most_of : Work → ℕ
most_of nothing = 0
most_of (fault error) = 0
most_of (run program) = calls_of program.steps

abbrev pub place_of_entry : MethodTable → SeenEntry → Place
place_of_entry table (call c) = places.Numbered c.id (most_of (call_work table c))
place_of_entry table (reply n t r) = places.Silent
place_of_entry table stray = places.Silent
place_of_entry table invalid = places.Invalid

abbrev pub places_of_entries : MethodTable → List SeenEntry → List Place
places_of_entries table [] = []
places_of_entries table (e ∷ es) = place_of_entry table e ∷ places_of_entries table es

abbrev pub places_of_unit : MethodTable → SeenUnit → List Place
places_of_unit table unreadable = places.Unreadable ∷ []
places_of_unit table (single e) = place_of_entry table e ∷ []
places_of_unit table (batch es) = places_of_entries table es

abbrev pub shape_of_unit : MethodTable → SeenUnit → Shape
shape_of_unit table u = record { kind = unit_kind u; places = places_of_unit table u }

-- ---- each of its calls has a stage, from number n on

abbrev pub stage_for : ℕ → Work → Stage
stage_for n nothing = Gone
stage_for n (fault error) = Faulty error
stage_for n (run program) = Idle (new_state n program) 0

abbrev pub entry_stages : MethodTable → ℕ → SeenEntry → List Stage
entry_stages table n (call c) = stage_for n (call_work table c) ∷ []
entry_stages table n (reply m t r) = []
entry_stages table n stray = []
entry_stages table n invalid = []

abbrev pub stages_for : MethodTable → ℕ → List SeenEntry → List Stage
stages_for table n [] = []
stages_for table n (e ∷ es) = entry_stages table n e ++ stages_for table (n + numbers_of e) es

abbrev pub opened : MethodTable → Core → SeenUnit → Core
opened table s u = record {
  desk = with_unit s.desk (shape_of_unit table u);
  stages = s.stages ++ stages_for table (length s.stages) (entries_in u);
}

-- ---- its entries are passed in their order

-- Where the next call is number n: a call is finished where it is at fault, and then, where it is a cancel, reaches the requests before
-- it; a reply is kept where its handler's call has been passed.
abbrev pub PassesEntry : Core → ℕ → SeenEntry → Core → Type 0
PassesEntry s n (call c) after = Cancels (fault_passed s n) n c.target after
PassesEntry s n (reply m t r) after = after ≡ (if nat_lt m n then with_desk s (with_reply s.desk m t r) else s)
PassesEntry s n stray after = after ≡ s
PassesEntry s n invalid after = after ≡ s

pub data PassesEntries : Core → ℕ → List SeenEntry → Core → Type 0 where
  none_left : {s : Core} {n : ℕ} → PassesEntries s n [] s
  next : {s between after : Core} {n : ℕ} {e : SeenEntry} {es : List SeenEntry} →
      PassesEntry s n e between → PassesEntries between (n + numbers_of e) es after → PassesEntries s n (e ∷ es) after

-- The whole of it.
abbrev pub Takes : MethodTable → Core → SeenUnit → Core → Type 0
Takes table s u after = PassesEntries (opened table s u) (length s.stages) (entries_in u) after
