-- Two calls of a method that isn't in the table, which differ in their params alone, are taken alike.
use Rattle.std.proofs.Common.{◌≡◌, ℕ, [], ◌∷◌, ◌++◌, length, Bool, true, false, cond, Option, Some, None, is_some, refl, sym, ap, subst, ◌∙◌, true≢false}
use Rattle.message_ids.specs.declared.id.Id.{Id}
use Rattle.message_ids.specs.declared.standard.Standard.TheVariants.{MethodNotFound}
use Rattle.answer_desk.specs.State.{with_unit}
use Rattle.answer_desk.specs.declared.shape.Place.TheVariants as places
use Rattle.rpc_messages.specs.declared.call.Call.{Call}
use Rattle.rpc_messages.specs.declared.kind.Kind.TheVariants.{Single}
use Rattle.rpc_messages.specs.Entry.{SeenEntry, call}
use Rattle.rpc_messages.specs.Outline.{without_params, outline_entry, outline}
use Rattle.rpc_messages.specs.Unit.{SeenUnit, single}
use Rattle.method_steps.specs.Steps.{MethodTable, place_of}
use Rattle.peer_output.specs.Work.{Work, fault, call_work, work_at, is_protocol_method}
use Rattle.peer_events.specs.Core.{Core}
use Rattle.peer_events.specs.Finishing.{fault_passed, Cancels}
use Rattle.peer_events.specs.Taking.{PassesEntries, opened, most_of, stage_for}
use Rattle.peer_events.specs.Taking.PassesEntries.{none_left, next}
use Rattle.peer_session.specs.Inner.Reading.{IsTakenAs, entry_has_method, has_method}

-- a unit is taken as itself
taken-itself : (table : MethodTable) (u v : SeenUnit) → u ≡ v → IsTakenAs table u v
taken-itself table u v same = subst (λ w. IsTakenAs table u w) same (record { numbers = refl; takes = λ s after p. p })

none-from-not_some : {A : Type 0} (o : Option A) → is_some o ≡ false → o ≡ None
none-from-not_some None is = refl
none-from-not_some (Some x) is = absurd (true≢false is)

cond-both_are : {A : Type 0} (b : Bool) (x y : A) → y ≡ x → cond b x y ≡ x
cond-both_are true x y same = refl
cond-both_are false x y same = same

work-not_found : (table : MethodTable) (c : Call) → is_some (place_of c.method table.methods) ≡ false → call_work table c ≡ fault MethodNotFound
work-not_found table c none =
    cond-both_are (is_protocol_method c.method) (fault MethodNotFound) (work_at table c (place_of c.method table.methods))
    (ap (work_at table c) (none-from-not_some (place_of c.method table.methods) none))

-- a session that is opened for one call, under this id and with this work
abbrev opened_for : Core → Option Id → Work → Core
opened_for s id work = record {
  desk = with_unit s.desk (record { kind = Single; places = places.Numbered id (most_of work) ∷ [] });
  stages = s.stages ++ stage_for (length s.stages) work ∷ [];
}

-- a call is passed by its target
passes-alike : {s after : Core} {n : ℕ} (c d : Call) → c.target ≡ d.target → PassesEntries s n (call c ∷ []) after → PassesEntries s n (call d ∷ []) after
passes-alike {s} {n = n} c d same (next {between = between} p none_left) = next (subst (λ target. Cancels (fault_passed s n) n target between) same p) none_left

calls-alike : (table : MethodTable) (c d : Call) → without_params c ≡ without_params d → is_some (place_of c.method table.methods) ≡ false →
    IsTakenAs table (single (call c)) (single (call d))
calls-alike table c d same none =
    let work : call_work table c ≡ call_work table d =
    work-not_found table c none ∙ sym (work-not_found table d (subst (λ method. is_some (place_of method table.methods) ≡ false) (ap (λ e. e.method) same) none)) in
    let opened-alike : (s : Core) → opened table s (single (call c)) ≡ opened table s (single (call d)) =
    λ s. ap (λ w. opened_for s c.id w) work ∙ ap (λ id. opened_for s id (call_work table d)) (ap (λ e. e.id) same) in
    record {
      numbers = refl;
      takes = λ s after p. passes-alike c d (ap (λ e. e.target) same) (subst (λ o. PassesEntries o (length s.stages) (call c ∷ []) after) (opened-alike s) p);
    }

-- any other entry has no params to differ in
entries-alike : (table : MethodTable) (e f : SeenEntry) → outline_entry e ≡ outline_entry f → entry_has_method table e ≡ false → IsTakenAs table (single e) (single f)
entries-alike table (call c) (call d) same none = calls-alike table c d (cc) none
entries-alike table (call c) f same none = absurd (cc)
entries-alike table e (call d) same none = absurd (cc)
entries-alike table e f same none = taken-itself table (single e) (single f) (ap single same)

-- so where a unit isn't a call of the table's, its outline says how it is taken
pub units-alike : (table : MethodTable) (u v : SeenUnit) → outline u ≡ outline v → has_method table u ≡ false → IsTakenAs table u v
units-alike table (single e) (single f) same none = entries-alike table e f (cc) none
units-alike table (single e) v same none = absurd (cc)
units-alike table u (single f) same none = absurd (cc)
units-alike table u v same none = taken-itself table u v same
