-- The fault that is told is the first that is shown.
use Rattle.std.proofs.Common.{◌≡◌, ℕ, ◌+◌, ◌≤◌, List, codes, Bool, true, false, not, ◌||◌, ◌==◌, nat_lt, cond, Option, Some, None, Result, Ok, Err, ◌⊎◌, inl, inr, refl, sym, ap, ◌∙◌, subst, arith, true≢false}
use Rattle.std.specs.Option.{option_map_or}
use Rattle.toml.specs.Data.{Data, string, integer, float, boolean, datetime, array, table, push_item, Items, no_items, item, Members}
use Rattle.table_reading.specs.declared.fault.FaultKind.{FaultKind}
use Rattle.table_reading.specs.declared.fault.FaultKind.TheVariants as fault
use Rattle.table_reading.specs.declared.fault.TableFault.{TableFault}
use Rattle.table_reading.specs.declared.kind.Kind.{Kind}
use Rattle.table_reading.specs.declared.version.Version.{Version}
use Rattle.table_reading.specs.Fault.{in_document, in_method, in_step}
use Rattle.table_reading.specs.Fields.{kind_of, is_kind_of, step_in}
use Rattle.table_reading.specs.Judged.{first_of, has_free_code, fault_of_said, fault_of_kind, step_fault, at_step, steps_fault}
use Rattle.method_steps.specs.Judged.{has_method_fields, is_used, fault_of_method, method_fault, methods_fault, document_fields_hold, fault_of_document, document_fault, list_at, word_at}
use Rattle.table_reading.specs.Limits.{items_len, is_step_within}
use Rattle.method_steps.specs.Made.{made_of, ok_unless, table_of_document, document_of, table_of}
use Rattle.method_templates.specs.Names.{is_method_name}
use Rattle.table_reading.specs.References.{refers_back}
use Rattle.method_steps.specs.Shown.{rank, NoLater, SaidShows, KindShows, StepShows, StepsShow, TableShows, MethodShows, MethodsShow, VersionShows, DocumentShows, Shows, ShowsFirst}
use Rattle.method_templates.specs.Steps.{Step}
use Rattle.method_steps.specs.Steps.{MethodTable}
use Rattle.table_reading.specs.Version.{version_of}

-- ---- what comes first

-- nothing is shown, or this is, and nothing before it
abbrev IsFirst : {A : Type 0} → (A → A → Type 0) → (A → Type 0) → Option A → Type 0
IsFirst Before Shown None = (other : _) → Shown other → ⊥
IsFirst Before Shown (Some f) = Shown f × ((other : _) → Shown other → Before f other)

-- all that is shown comes no earlier
abbrev Later : {A : Type 0} → (A → A → Type 0) → A → (A → Type 0) → Type 0
Later Before f Shown = (other : _) → Shown other → Before f other

-- one fact alone
alone : {A : Type 0} (Before : A → A → Type 0) (f : A) → Before f f → IsFirst Before (λ g. g ≡ f) (Some f)
alone Before f same = (refl, λ other e. subst (Before f) (sym e) same)

none_shown : {A : Type 0} (Before : A → A → Type 0) → IsFirst Before (λ g. ⊥) None
none_shown Before = λ other h. h

-- a test before the rest, which shows f where it fails
unless : {A : Type 0} (Before : A → A → Type 0) (f : A) (holds : Bool) (Rest : A → Type 0) (rest : Option A) → Before f f → Later Before f Rest → IsFirst Before Rest rest
    → IsFirst Before (λ g. ((g ≡ f) × (holds ≡ false)) ⊎ Rest g) (cond (not holds) (Some f) rest)
unless Before f false Rest rest same later after = (
  inl (refl, refl),
  λ other h. elim h [
    | inl here ↦ subst (Before f) (sym here.0) same
    | inr there ↦ later other there
  ],
)
unless Before f true Rest None same later after =
    λ other h. elim h [
      | inl here ↦ absurd (true≢false here.1)
      | inr there ↦ after other there
    ]
unless Before f true Rest (Some g) same later after = (
  inr after.0,
  λ other h. elim h [
    | inl here ↦ absurd (true≢false here.1)
    | inr there ↦ after.1 other there
  ],
)

-- which shows f where it holds
where_so : {A : Type 0} (Before : A → A → Type 0) (f : A) (so : Bool) (Rest : A → Type 0) (rest : Option A) → Before f f → Later Before f Rest → IsFirst Before Rest rest
    → IsFirst Before (λ g. ((g ≡ f) × (so ≡ true)) ⊎ Rest g) (cond so (Some f) rest)
where_so Before f true Rest rest same later after = (
  inl (refl, refl),
  λ other h. elim h [
    | inl here ↦ subst (Before f) (sym here.0) same
    | inr there ↦ later other there
  ],
)
where_so Before f false Rest None same later after =
    λ other h. elim h [
      | inl here ↦ absurd (true≢false (sym here.1))
      | inr there ↦ after other there
    ]
where_so Before f false Rest (Some g) same later after = (
  inr after.0,
  λ other h. elim h [
    | inl here ↦ absurd (true≢false (sym here.1))
    | inr there ↦ after.1 other there
  ],
)

-- the last test
last_unless : {A : Type 0} (Before : A → A → Type 0) (f : A) (holds : Bool) → Before f f → IsFirst Before (λ g. (g ≡ f) × (holds ≡ false)) (cond (not holds) (Some f) None)
last_unless Before f false same = ((refl, refl), λ other h. subst (Before f) (sym h.0) same)
last_unless Before f true same = λ other h. absurd (true≢false h.1)

-- ---- kinds of one step

abbrev ByRank : FaultKind → FaultKind → Type 0
ByRank one other = rank one ≤ rank other

abbrev AtLeast : FaultKind → (FaultKind → Type 0) → Type 0
AtLeast f Shown = Later ByRank f Shown

only : (f g : FaultKind) (T : Type 0) → rank f ≤ rank g → AtLeast f (λ other. (other ≡ g) × T)
only f g T below = λ other h. subst (λ k. rank f ≤ rank k) (sym h.0) below

more : (f g : FaultKind) (T : Type 0) (Rest : FaultKind → Type 0) → rank f ≤ rank g → AtLeast f Rest → AtLeast f (λ other. ((other ≡ g) × T) ⊎ Rest other)
more f g T Rest below later = λ other h. elim h [
  | inl here ↦ subst (λ k. rank f ≤ rank k) (sym here.0) below
  | inr there ↦ later other there
]

-- the tests of what a step says, in order
tests_first : (f l r c : Bool)
    → IsFirst ByRank (λ g. ((g ≡ fault.Field) × (f ≡ false)) ⊎ (((g ≡ fault.Limit) × (l ≡ false)) ⊎ (((g ≡ fault.Register) × (r ≡ false)) ⊎ ((g ≡ fault.Code) × (c ≡ false)))))
    (cond (not f) (Some fault.Field) (cond (not l) (Some fault.Limit) (cond (not r) (Some fault.Register) (cond (not c) (Some fault.Code) None))))
tests_first f l r c =
    let code = last_unless ByRank fault.Code c (omega arith) in
    let register = unless ByRank fault.Register r _ _ (omega arith) (only fault.Register fault.Code (c ≡ false) (omega arith)) code in
    let limit = unless ByRank fault.Limit l _ _ (omega arith) (more fault.Limit fault.Register (r ≡ false) _ (omega arith) (only fault.Limit fault.Code (c ≡ false) (omega arith))) register in
    unless ByRank fault.Field f _ _ (omega arith) (more fault.Field fault.Limit (l ≡ false) _ (omega arith) (more fault.Field fault.Register (r ≡ false) _ (omega arith) (only fault.Field fault.Code (c ≡ false) (omega arith)))) limit

said_first : (earlier : Items) (said : Option Step) → IsFirst ByRank (SaidShows earlier said) (fault_of_said earlier said)
said_first earlier None = tests_first false true true true
said_first earlier (Some s) = tests_first true (is_step_within s) (refers_back earlier s) (has_free_code s)

said_later : (earlier : Items) (said : Option Step) → AtLeast fault.Step (SaidShows earlier said)
said_later earlier said = more fault.Step fault.Field _ _ (omega arith) (more fault.Step fault.Limit _ _ (omega arith) (more fault.Step fault.Register _ _ (omega arith) (only fault.Step fault.Code _ (omega arith))))

kind_first : (v : Version) (earlier : Items) (ms : Members) (kind : Option Kind) → IsFirst ByRank (KindShows v earlier ms kind) (fault_of_kind v earlier ms kind)
kind_first v earlier ms None = alone ByRank fault.Step (omega arith)
kind_first v earlier ms (Some k) =
    unless ByRank fault.Step (is_kind_of v k) (SaidShows earlier (step_in k ms)) (fault_of_said earlier (step_in k ms)) (omega arith) (said_later earlier (step_in k ms)) (said_first earlier (step_in k ms))

field_alone : IsFirst ByRank (λ g. g ≡ fault.Field) (Some fault.Field)
field_alone = alone ByRank fault.Field (omega arith)

step_first : (v : Version) (earlier : Items) (d : Data) → IsFirst ByRank (StepShows v earlier d) (step_fault v earlier d)
step_first v earlier (table ms) = kind_first v earlier ms (kind_of ms)
step_first v earlier (string s) = field_alone
step_first v earlier (integer z) = field_alone
step_first v earlier (float x) = field_alone
step_first v earlier (boolean b) = field_alone
step_first v earlier (datetime dt) = field_alone
step_first v earlier (array ds) = field_alone

-- ---- faults at their places

-- faults at one place come by their kinds
same_place : (method step : ℕ) (one other : FaultKind) → rank one ≤ rank other → NoLater (in_step method step one) (in_step method step other)
same_place method step one other below = record { method = omega arith; step = λ e. omega arith; kind = λ e h. below }

-- one thing before another
one_then : (A B : TableFault → Type 0) (a b : Option TableFault) → IsFirst NoLater A a → IsFirst NoLater B b → ((f g : TableFault) → A f → B g → NoLater f g)
    → IsFirst NoLater (λ f. A f ⊎ B f) (first_of a b)
one_then A B (Some f) b first second order = (
  inl first.0,
  λ other h. elim h [
    | inl here ↦ first.1 other here
    | inr there ↦ order f other first.0 there
  ],
)
one_then A B None (Some g) first second order = (
  inr second.0,
  λ other h. elim h [
    | inl here ↦ absurd (first other here)
    | inr there ↦ second.1 other there
  ],
)
one_then A B None None first second order =
    λ other h. elim h [
      | inl here ↦ first other here
      | inr there ↦ second other there
    ]

-- what a kind is at the place of a step
abbrev AtPlace : ℕ → ℕ → (FaultKind → Type 0) → TableFault → Type 0
AtPlace method place Shown f = (kind : FaultKind) × (f ≡ in_step method (place + 1) kind) × Shown kind

placed : (method place : ℕ) (Shown : FaultKind → Type 0) (o : Option FaultKind) → IsFirst ByRank Shown o → IsFirst NoLater (AtPlace method place Shown) (at_step method place o)
placed method place Shown None first = λ other h. first h.0 h.2
placed method place Shown (Some k) first =
    ((k, refl, first.0), λ other h. subst (NoLater (in_step method (place + 1) k)) (sym h.1) (same_place method (place + 1) k h.0 (first.1 h.0 h.2)))

push-len : (ds : Items) (d : Data) → items_len (push_item ds d) ≡ items_len ds + 1
push-len no_items d = refl
push-len (item e ds) d = omega (arith, push-len ds d)

-- where the faults of a list of steps stand
steps_place : (v : Version) (method : ℕ) (earlier ds : Items) (f : TableFault) → StepsShow v method earlier ds f → (f.method ≡ method) × (items_len earlier + 1 ≤ f.step)
steps_place v method earlier no_items f h = absurd h
steps_place v method earlier (item d ds) f h = elim h [
  | inl here ↦ rw here.1 (refl, omega arith)
  | inr there ↦ let (same, after) = steps_place v method (push_item earlier d) ds f there in
      let longer = push-len earlier d in
      (same, omega arith)
]

steps_first : (v : Version) (method : ℕ) (earlier ds : Items) → IsFirst NoLater (StepsShow v method earlier ds) (steps_fault v method earlier ds)
steps_first v method earlier no_items = none_shown NoLater
steps_first v method earlier (item d ds) =
    one_then (AtPlace method (items_len earlier) (StepShows v earlier d)) (StepsShow v method (push_item earlier d) ds) _ _
    (placed method (items_len earlier) (StepShows v earlier d) (step_fault v earlier d) (step_first v earlier d))
    (steps_first v method (push_item earlier d) ds)
    (λ f g here there.
    let (same, after) = steps_place v method (push_item earlier d) ds g there in
    let longer = push-len earlier d in
    let method_here : f.method ≡ method = ap (λ x. x.method) here.1 in
    let step_here : f.step ≡ items_len earlier + 1 = ap (λ x. x.step) here.1 in
    record { method = omega arith; step = λ e. omega arith; kind = λ e h. absurd (omega arith) })

-- ---- methods

-- a fault outside a step comes before those of the steps, and by its kind before others there
outside : (method : ℕ) (one other : FaultKind) → rank one ≤ rank other → NoLater (in_method method one) (in_method method other)
outside method one other below = record { method = omega arith; step = λ e. omega arith; kind = λ e h. below }

before_steps : (v : Version) (method : ℕ) (ds : Items) (one : FaultKind) → Later NoLater (in_method method one) (StepsShow v method no_items ds)
before_steps v method ds one = λ other h.
    let (same, after) = steps_place v method no_items ds other h in
    record { method = omega arith; step = λ e. omega arith; kind = λ e s. absurd (omega arith) }

more_outside : (method : ℕ) (f g : FaultKind) (T : Type 0) (Rest : TableFault → Type 0) → rank f ≤ rank g → Later NoLater (in_method method f) Rest
    → Later NoLater (in_method method f) (λ other. ((other ≡ in_method method g) × T) ⊎ Rest other)
more_outside method f g T Rest below later = λ other h. elim h [
  | inl here ↦ subst (NoLater (in_method method f)) (sym here.0) (outside method f g below)
  | inr there ↦ later other there
]

table_first : (v : Version) (number : ℕ) (earlier : Items) (ms : Members) → IsFirst NoLater (TableShows v number earlier ms) (fault_of_method v number earlier ms)
table_first v number earlier ms =
    let steps = list_at (codes "step") ms in
    let after = steps_first v number no_items steps in
    let limit = where_so NoLater (in_method number fault.Limit) (nat_lt 64 (items_len steps)) _ _ (outside number fault.Limit fault.Limit (omega arith)) (before_steps v number steps fault.Limit) after in
    let name = where_so NoLater (in_method number fault.Name) (not (is_method_name (word_at (codes "name") ms)) || is_used (word_at (codes "name") ms) earlier) _ _ (outside number fault.Name fault.Name (omega arith))
    (more_outside number fault.Name fault.Limit (nat_lt 64 (items_len steps) ≡ true) _ (omega arith) (before_steps v number steps fault.Name)) limit in
    unless NoLater (in_method number fault.Field) (has_method_fields ms) _ _ (outside number fault.Field fault.Field (omega arith))
    (more_outside number fault.Field fault.Name _ _ (omega arith) (more_outside number fault.Field fault.Limit _ _ (omega arith) (before_steps v number steps fault.Field))) name

field_of_method : (number : ℕ) → IsFirst NoLater (λ g. g ≡ in_method number fault.Field) (Some (in_method number fault.Field))
field_of_method number = alone NoLater (in_method number fault.Field) (outside number fault.Field fault.Field (omega arith))

method_first : (v : Version) (earlier : Items) (d : Data) → IsFirst NoLater (MethodShows v earlier d) (method_fault v earlier d)
method_first v earlier (table ms) = table_first v (items_len earlier + 1) earlier ms
method_first v earlier (string s) = field_of_method (items_len earlier + 1)
method_first v earlier (integer z) = field_of_method (items_len earlier + 1)
method_first v earlier (float x) = field_of_method (items_len earlier + 1)
method_first v earlier (boolean b) = field_of_method (items_len earlier + 1)
method_first v earlier (datetime dt) = field_of_method (items_len earlier + 1)
method_first v earlier (array ds) = field_of_method (items_len earlier + 1)

table_place : (v : Version) (number : ℕ) (earlier : Items) (ms : Members) (f : TableFault) → TableShows v number earlier ms f → f.method ≡ number
table_place v number earlier ms f h = elim h [
  | inl field ↦ ap (λ x. x.method) field.0
  | inr others ↦ elim others [
    | inl name ↦ ap (λ x. x.method) name.0
    | inr rest ↦ elim rest [
      | inl limit ↦ ap (λ x. x.method) limit.0
      | inr steps ↦ (steps_place v number no_items (list_at (codes "step") ms) f steps).0
    ]
  ]
]

method_place : (v : Version) (earlier : Items) (d : Data) (f : TableFault) → MethodShows v earlier d f → f.method ≡ items_len earlier + 1
method_place v earlier (table ms) f h = table_place v (items_len earlier + 1) earlier ms f h
method_place v earlier (string s) f h = ap (λ x. x.method) h
method_place v earlier (integer z) f h = ap (λ x. x.method) h
method_place v earlier (float x) f h = ap (λ x. x.method) h
method_place v earlier (boolean b) f h = ap (λ x. x.method) h
method_place v earlier (datetime dt) f h = ap (λ x. x.method) h
method_place v earlier (array ds) f h = ap (λ x. x.method) h

methods_place : (v : Version) (earlier ds : Items) (f : TableFault) → MethodsShow v earlier ds f → items_len earlier + 1 ≤ f.method
methods_place v earlier no_items f h = absurd h
methods_place v earlier (item d ds) f h = elim h [
  | inl here ↦ let same = method_place v earlier d f here in omega arith
  | inr there ↦ let after = methods_place v (push_item earlier d) ds f there in
      let longer = push-len earlier d in
      omega arith
]

-- a fault of an earlier method comes first
earlier_method : (f g : TableFault) → f.method + 1 ≤ g.method → NoLater f g
earlier_method f g below = record { method = omega arith; step = λ e. absurd (omega arith); kind = λ e h. absurd (omega arith) }

methods_first : (v : Version) (earlier ds : Items) → IsFirst NoLater (MethodsShow v earlier ds) (methods_fault v earlier ds)
methods_first v earlier no_items = none_shown NoLater
methods_first v earlier (item d ds) =
    one_then (MethodShows v earlier d) (MethodsShow v (push_item earlier d) ds) _ _ (method_first v earlier d) (methods_first v (push_item earlier d) ds)
    (λ f g here there.
    let same = method_place v earlier d f here in
    let after = methods_place v (push_item earlier d) ds g there in
    let longer = push-len earlier d in
    earlier_method f g (omega arith))

-- ---- documents

before_methods : (v : Version) (ds : Items) (one : FaultKind) → Later NoLater (in_document one) (MethodsShow v no_items ds)
before_methods v ds one = λ other h.
    let after = methods_place v no_items ds other h in
    earlier_method (in_document one) other (omega arith)

before_both : (v : Version) (opening methods : Items) (one : FaultKind) → Later NoLater (in_document one) (λ f. StepsShow v 0 no_items opening f ⊎ MethodsShow v no_items methods f)
before_both v opening methods one = λ other h. elim h [
  | inl here ↦ before_steps v 0 opening one other here
  | inr there ↦ before_methods v methods one other there
]

version_first : (v : Version) (top : Members) → IsFirst NoLater (VersionShows (Some v) top) (fault_of_document v top)
version_first v top =
    let opening = list_at (codes "opening") top in
    let methods = list_at (codes "method") top in
    let after = one_then (StepsShow v 0 no_items opening) (MethodsShow v no_items methods) _ _ (steps_first v 0 no_items opening) (methods_first v no_items methods)
    (λ f g here there.
    let (same, step) = steps_place v 0 no_items opening f here in
    let later = methods_place v no_items methods g there in
    earlier_method f g (omega arith)) in
    let limit = where_so NoLater (in_document fault.Limit) (nat_lt 256 (items_len methods) || nat_lt 64 (items_len opening)) _ _ (outside 0 fault.Limit fault.Limit (omega arith)) (before_both v opening methods fault.Limit) after in
    unless NoLater (in_document fault.Field) (document_fields_hold v top) _ _ (outside 0 fault.Field fault.Field (omega arith))
    (more_outside 0 fault.Field fault.Limit _ _ (omega arith) (before_both v opening methods fault.Field)) limit

top_first : (o : Option Version) (top : Members) → IsFirst NoLater (VersionShows o top) (option_map_or (λ v. fault_of_document v top) o (Some (in_document fault.Version)))
top_first None top = alone NoLater (in_document fault.Version) (outside 0 fault.Version fault.Version (omega arith))
top_first (Some v) top = version_first v top

-- why a document, or none, is no table
abbrev fault_in : Option Members → Option TableFault
fault_in None = Some (in_document fault.NotToml)
fault_in (Some top) = document_fault top

document_first : (o : Option Members) → IsFirst NoLater (DocumentShows o) (fault_in o)
document_first None = alone NoLater (in_document fault.NotToml) (outside 0 fault.NotToml fault.NotToml (omega arith))
document_first (Some top) = top_first (version_of top) top

-- ---- what is answered

abbrev answer_in : Option Members → Result MethodTable TableFault
answer_in o = option_map_or table_of_document o (Err (in_document fault.NotToml))

abbrev fault_or : Result MethodTable TableFault → TableFault → TableFault
fault_or (Ok made) other = other
fault_or (Err f) other = f

abbrev is_ok : Result MethodTable TableFault → Bool
is_ok (Ok made) = true
is_ok (Err f) = false

unless_told : (o : Option TableFault) (made : MethodTable) (f : TableFault) → ok_unless o made ≡ Err f → o ≡ Some f
unless_told None made f h = absurd (true≢false (ap is_ok h))
unless_told (Some g) made f h = ap (λ r. Some (fault_or r g)) h

told : (o : Option Members) (f : TableFault) → answer_in o ≡ Err f → fault_in o ≡ Some f
told None f h = ap (λ r. Some (fault_or r f)) h
told (Some top) f h = unless_told (document_fault top) (made_of top) f h

answered : (o : Option Members) (f : TableFault) → fault_in o ≡ Some f → answer_in o ≡ Err f
answered None f h = ap (λ x. Err (some_or x f)) h
  where
    some_or : Option TableFault → TableFault → TableFault
    some_or None g = g
    some_or (Some x) g = x
answered (Some top) f h = ap (λ x. ok_unless x (made_of top)) h

-- ---- the order has one first

abbrev kind_ranked : ℕ → FaultKind
kind_ranked n =
    cond (n == 0) fault.NotToml (cond (n == 1) fault.Version (cond (n == 2) fault.Step (cond (n == 3) fault.Field (cond (n == 4) fault.Name
    (cond (n == 5) fault.Limit (cond (n == 6) fault.Register (cond (n == 7) fault.Code fault.Memory)))))))

ranked : (kind : FaultKind) → kind_ranked (rank kind) ≡ kind
ranked fault.NotToml = refl
ranked fault.Version = refl
ranked fault.Step = refl
ranked fault.Field = refl
ranked fault.Name = refl
ranked fault.Limit = refl
ranked fault.Register = refl
ranked fault.Code = refl
ranked fault.Memory = refl

same_fault : (f g : TableFault) → NoLater f g → NoLater g f → f ≡ g
same_fault f g fg gf =
    let method : f.method ≡ g.method = omega (arith, fg.method, gf.method) in
    let step : f.step ≡ g.step = omega (arith, fg.step method, gf.step (sym method)) in
    let ranks : rank f.kind ≡ rank g.kind = omega (arith, fg.kind method step, gf.kind (sym method) (sym step)) in
    let kind : f.kind ≡ g.kind = sym (ranked f.kind) ∙ ap kind_ranked ranks ∙ ranked g.kind in
    λ i. record { kind = kind i; method = method i; step = step i }

first_told : (Shown : TableFault → Type 0) (o : Option TableFault) (f : TableFault) → IsFirst NoLater Shown o → o ≡ Some f → Shown f × ((other : TableFault) → Shown other → NoLater f other)
first_told Shown o f first same = subst (IsFirst NoLater Shown) same first

only_first : (Shown : TableFault → Type 0) (o : Option TableFault) (f : TableFault) → IsFirst NoLater Shown o → Shown f → ((other : TableFault) → Shown other → NoLater f other) → o ≡ Some f
only_first Shown None f first shown least = absurd (first f shown)
only_first Shown (Some g) f first shown least = ap Some (same_fault g f (first.1 f shown) (least g first.0))

pub told_is_first : (bytes : List ℕ) (f : TableFault) → ((table_of bytes ≡ Err f) → ShowsFirst bytes f) × (ShowsFirst bytes f → table_of bytes ≡ Err f)
told_is_first bytes f = (
  λ h. let (shown, first) = first_told (Shows bytes) (fault_in (document_of bytes)) f (document_first (document_of bytes)) (told (document_of bytes) f h) in
      record { shown = shown; first = first },
  λ h. answered (document_of bytes) f (only_first (Shows bytes) (fault_in (document_of bytes)) f (document_first (document_of bytes)) h.shown h.first),
)

no_fault : (Shown : TableFault → Type 0) (o : Option TableFault) (made : MethodTable) → IsFirst NoLater Shown o → ((f : TableFault) → Shown f → ⊥) → ok_unless o made ≡ Ok made
no_fault Shown None made first none = refl
no_fault Shown (Some f) made first none = absurd (none f first.0)

without : (o : Option Members) → ((f : TableFault) → DocumentShows o f → ⊥) → (made : MethodTable) × (answer_in o ≡ Ok made)
without None none = absurd (none (in_document fault.NotToml) refl)
without (Some top) none = (made_of top, no_fault (DocumentShows (Some top)) (document_fault top) (made_of top) (document_first (Some top)) none)

accepted : (o : Option TableFault) (made other : MethodTable) → ok_unless o made ≡ Ok other → o ≡ None
accepted None made other h = refl
accepted (Some f) made other h = absurd (true≢false (sym (ap is_ok h)))

with_table : (o : Option Members) (made : MethodTable) → answer_in o ≡ Ok made → (f : TableFault) → DocumentShows o f → ⊥
with_table None made h f shown = absurd (true≢false (sym (ap is_ok h)))
with_table (Some top) made h f shown =
    let none : document_fault top ≡ None = accepted (document_fault top) (made_of top) made h in
    (subst (IsFirst NoLater (DocumentShows (Some top))) none (document_first (Some top))) f shown

pub table_without_faults : (bytes : List ℕ) → ((made : MethodTable) × (table_of bytes ≡ Ok made) → (f : TableFault) → Shows bytes f → ⊥) × (((f : TableFault) → Shows bytes f → ⊥) → (made : MethodTable) × (table_of bytes ≡ Ok made))
table_without_faults bytes = (λ h. with_table (document_of bytes) h.0 h.1, λ none. without (document_of bytes) none)
