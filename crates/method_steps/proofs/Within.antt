-- Steps and methods without faults keep their limits.
use Rattle.std.proofs.Common.{◌≡◌, ℕ, zero, suc, ◌+◌, ◌*◌, ◌≤◌, List, [], ◌∷◌, length, codes, Bool, true, false, not, ◌&&◌, ◌||◌, nat_le, nat_lt, cond, Option, Some, None, is_some, unwrap_or, option_and_then, refl, ap, arith, true≢false}
use Rattle.std.proofs.lemmas.Bool.{and_parts, leb-true, ltb-false}
use Rattle.std.proofs.lemmas.List.Sums.{sum_by-cons}
use Rattle.std.specs.List.{All}
use Rattle.toml.specs.Data.{Data, string, integer, float, boolean, datetime, array, table, push_item, Items, no_items, item, Members}
use Rattle.table_reading.specs.declared.fault.FaultKind.{FaultKind}
use Rattle.table_reading.specs.declared.fault.TableFault.{TableFault}
use Rattle.table_reading.specs.declared.version.Version.{Version}
use Rattle.table_reading.specs.declared.kind.Kind.{Kind}
use Rattle.method_templates.specs.Steps.{Step}
use Rattle.method_templates.specs.declared.step.Step.TheVariants as step
use Rattle.table_reading.specs.Fields.{kind_of, is_kind_of, step_in}
use Rattle.table_reading.specs.Judged.{first_of, at_step, fault_of_said, fault_of_kind, step_fault, steps_fault}
use Rattle.method_steps.specs.Judged.{has_method_fields, is_used, fault_of_method, method_fault, methods_fault, list_at, word_at}
use Rattle.table_reading.specs.Fault.{in_method}
use Rattle.method_templates.specs.Names.{is_method_name}
use Rattle.table_reading.specs.declared.fault.FaultKind.TheVariants as fault
use Rattle.table_reading.specs.Limits.{items_len, is_shallow, is_count, is_list_length, are_calls_within, is_step_within}
use Rattle.table_reading.specs.Made.{step_from, steps_from}
use Rattle.method_steps.specs.Made.{method_from, methods_from}
use Rattle.method_templates.specs.Shape.{plain}
use Rattle.method_templates.specs.Steps.{calls_in, calls_of, KeepsLimits, AreWithinLimits}
use Rattle.method_steps.specs.Steps.{NamedSteps}
use Rattle.serde_json.specs.Data.{null}

-- ---- tests in order

some≢none : {A B : Type 0} (a : A) → Some a ≡ None → B
some≢none a h = absurd (true≢false (ap is_some h))

-- where nothing is found, the test did not find it
not_found : {A : Type 0} (c : Bool) (f : A) (rest : Option A) → cond c (Some f) rest ≡ None → (c ≡ false) × (rest ≡ None)
not_found true f rest h = some≢none f h
not_found false f rest h = (refl, h)

holds_so : (b : Bool) → not b ≡ false → b ≡ true
holds_so true h = refl
holds_so false h = absurd (true≢false h)

none_of : (o : Option TableFault) (later : Option TableFault) → first_of o later ≡ None → (o ≡ None) × (later ≡ None)
none_of None later h = (refl, h)
none_of (Some f) later h = some≢none f h

no_kind : (method place : ℕ) (o : Option FaultKind) → at_step method place o ≡ None → o ≡ None
no_kind method place None h = refl
no_kind method place (Some kind) h = some≢none _ h

-- ---- steps

bounds : (low high n : ℕ) → nat_le low n && nat_le n high ≡ true → (low ≤ n) × (n ≤ high)
bounds low high n h =
    let (least, most) = and_parts (nat_le low n) (nat_le n high) h in
    (leb-true low n least, leb-true n high most)

keeps : (s : Step) → is_step_within s ≡ true → KeepsLimits s
keeps (step.Set to v) h = tt
keeps (step.Add to l r) h = tt
keeps (step.Skip l r n) h = bounds 1 64 n (and_parts (is_shallow l && is_shallow r) (is_count n) h).1
keeps (step.Call to m p e) h = tt
keeps (step.Calls to list e) h = bounds 1 16 (length list) (and_parts (is_list_length (length list)) (are_calls_within list) h).0
keeps (step.Each to over m e) h = tt
keeps (step.Notify m p) h = tt
keeps (step.Answer v) h = tt
keeps (step.Fail c m) h = tt

said_within : (earlier : Items) (said : Option Step) → fault_of_said earlier said ≡ None → KeepsLimits (unwrap_or said (step.Answer (plain null)))
said_within earlier None h = some≢none _ h
said_within earlier (Some s) h = keeps s (holds_so _ (not_found (not (is_step_within s)) _ _ h).0)

known_within : (v : Version) (earlier : Items) (ms : Members) (o : Option Kind) → fault_of_kind v earlier ms o ≡ None → KeepsLimits (unwrap_or (option_and_then (λ k. step_in k ms) o) (step.Answer (plain null)))
known_within v earlier ms None h = some≢none _ h
known_within v earlier ms (Some k) h = said_within earlier (step_in k ms) (not_found (not (is_kind_of v k)) _ _ h).1

step_within : (v : Version) (earlier : Items) (d : Data) → step_fault v earlier d ≡ None → KeepsLimits (step_from d)
step_within v earlier (table ms) h = known_within v earlier ms (kind_of ms) h
step_within v earlier (string s) h = some≢none _ h
step_within v earlier (integer z) h = some≢none _ h
step_within v earlier (float x) h = some≢none _ h
step_within v earlier (boolean b) h = some≢none _ h
step_within v earlier (datetime dt) h = some≢none _ h
step_within v earlier (array ds) h = some≢none _ h

all_none : {X : Type 0} (P : X → Type 0) → All P []
all_none P k d h = absurd (omega arith)

all_more : {X : Type 0} (P : X → Type 0) (x : X) (xs : List X) → P x → All P xs → All P (x ∷ xs)
all_more P x xs here more zero d h = here
all_more P x xs here more (suc k) d h = more k d (omega arith)

all_first : {X : Type 0} (P : X → Type 0) (x : X) (xs : List X) → All P (x ∷ xs) → P x
all_first P x xs all = all 0 x (omega arith)

all_rest : {X : Type 0} (P : X → Type 0) (x : X) (xs : List X) → All P (x ∷ xs) → All P xs
all_rest P x xs all k d h = all (suc k) d (omega arith)

steps_within : (v : Version) (method : ℕ) (earlier ds : Items) → steps_fault v method earlier ds ≡ None → All KeepsLimits (steps_from ds)
steps_within v method earlier no_items h = all_none KeepsLimits
steps_within v method earlier (item d ds) h =
    let (here, more) = none_of _ _ h in
    all_more KeepsLimits (step_from d) (steps_from ds) (step_within v earlier d (no_kind method _ _ here)) (steps_within v method (push_item earlier d) ds more)

length-steps_from : (ds : Items) → length (steps_from ds) ≡ items_len ds
length-steps_from no_items = refl
length-steps_from (item d ds) = omega (arith, length-steps_from ds)

calls_in-few : (s : Step) → KeepsLimits s → calls_in s ≤ 16
calls_in-few (step.Set to v) h = omega arith
calls_in-few (step.Add to l r) h = omega arith
calls_in-few (step.Skip l r n) h = omega arith
calls_in-few (step.Call to m p e) h = omega arith
calls_in-few (step.Calls to list e) h = h.1
calls_in-few (step.Each to over m e) h = omega arith
calls_in-few (step.Notify m p) h = omega arith
calls_in-few (step.Answer v) h = omega arith
calls_in-few (step.Fail c m) h = omega arith

calls_of-few : (ss : List Step) → All KeepsLimits ss → calls_of ss ≤ 16 * length ss
calls_of-few [] all = omega arith
calls_of-few (s ∷ ss) all =
    let here : calls_in s ≤ 16 = calls_in-few s (all_first KeepsLimits s ss all) in
    let more : calls_of ss ≤ 16 * length ss = calls_of-few ss (all_rest KeepsLimits s ss all) in
    rw (sum_by-cons calls_in s ss) (omega arith)

-- ---- methods

-- steps without a fault, 64 at most
pub list_within : (v : Version) (method : ℕ) (ds : Items) → items_len ds ≤ 64 → steps_fault v method no_items ds ≡ None → AreWithinLimits (steps_from ds)
list_within v method ds few h =
    let each = steps_within v method no_items ds h in
    let same = length-steps_from ds in
    let calls = calls_of-few (steps_from ds) each in
    record { few = omega arith; each = each; few_calls = omega arith }

known_method : (v : Version) (number : ℕ) (earlier : Items) (ms : Members) → fault_of_method v number earlier ms ≡ None → AreWithinLimits (steps_from (list_at (codes "step") ms))
known_method v number earlier ms h =
    let h2 = (not_found (not (has_method_fields ms)) (in_method number fault.Field) _ h).1 in
    let h3 = (not_found (not (is_method_name (word_at (codes "name") ms)) || is_used (word_at (codes "name") ms) earlier) (in_method number fault.Name) _ h2).1 in
    let (short, h4) = not_found (nat_lt 64 (items_len (list_at (codes "step") ms))) (in_method number fault.Limit) (steps_fault v number no_items (list_at (codes "step") ms)) h3 in
    list_within v number (list_at (codes "step") ms) (ltb-false 64 _ short) h4

abbrev pub HasLimits : NamedSteps → Type 0
HasLimits m = AreWithinLimits m.steps

method_within : (v : Version) (earlier : Items) (d : Data) → method_fault v earlier d ≡ None → HasLimits (method_from d)
method_within v earlier (table ms) h = known_method v (items_len earlier + 1) earlier ms h
method_within v earlier (string s) h = some≢none _ h
method_within v earlier (integer z) h = some≢none _ h
method_within v earlier (float x) h = some≢none _ h
method_within v earlier (boolean b) h = some≢none _ h
method_within v earlier (datetime dt) h = some≢none _ h
method_within v earlier (array ds) h = some≢none _ h

pub methods_within : (v : Version) (earlier ds : Items) → methods_fault v earlier ds ≡ None → All HasLimits (methods_from ds)
methods_within v earlier no_items h = all_none HasLimits
methods_within v earlier (item d ds) h =
    let (here, more) = none_of _ _ h in
    all_more HasLimits (method_from d) (methods_from ds) (method_within v earlier d here) (methods_within v (push_item earlier d) ds more)

pub length-methods_from : (ds : Items) → length (methods_from ds) ≡ items_len ds
length-methods_from no_items = refl
length-methods_from (item d ds) = omega (arith, length-methods_from ds)
