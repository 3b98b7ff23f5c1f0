-- The fields of each table of a document, and what a step says.
use Rattle.std.specs.Prelude.{ℕ, ℤ, pos, negsuc, List, [], ◌∷◌, codes, Bool, true, false, ◌&&◌, ◌||◌, nat_le, Option, Some, None, unwrap_or, option_map, option_and_then, if◌then◌else◌}
use Rattle.std.specs.Option.{option_map_or}
use Rattle.std.specs.Str.{bytes_eq}
use Rattle.toml.specs.Data.{Data, string, array, table, as_str, as_integer, as_array, get_member, Items, no_items, item, Members, no_members, member}
use Rattle.method_templates.specs.declared.limits.TheConstants.{LONGEST_SKIP}
use Rattle.table_reading.specs.declared.entry.Entry.{Entry}
use Rattle.table_reading.specs.declared.entry.Entry.TheVariants as entry
use Rattle.table_reading.specs.declared.kind.Kind.{Kind}
use Rattle.table_reading.specs.declared.kind.Kind.TheVariants as kind
use Rattle.table_reading.specs.declared.version.Version.{Version}
use Rattle.table_reading.specs.declared.version.Version.TheVariants as version
use Rattle.method_templates.specs.declared.step.ListedCall.{ListedCall}
use Rattle.method_templates.specs.declared.step.OnError.{OnError}
use Rattle.method_templates.specs.declared.step.OnError.TheVariants as on_error
use Rattle.method_templates.specs.declared.step.Step.TheVariants as step
use Rattle.method_templates.specs.Shape.{Shape}
use Rattle.method_templates.specs.Steps.{Step}
use Rattle.table_reading.specs.Templates.{template_in}

-- ---- kinds

-- the kind of that name
abbrev pub kind_named : List ℕ → Option Kind
kind_named name =
    if bytes_eq name (codes "set") then Some kind.Set else
    if bytes_eq name (codes "add") then Some kind.Add else
    if bytes_eq name (codes "skip") then Some kind.Skip else
    if bytes_eq name (codes "call") then Some kind.Call else
    if bytes_eq name (codes "calls") then Some kind.Calls else
    if bytes_eq name (codes "each") then Some kind.Each else
    if bytes_eq name (codes "notify") then Some kind.Notify else
    if bytes_eq name (codes "answer") then Some kind.Answer else
    if bytes_eq name (codes "fail") then Some kind.Fail else
    None

-- tables of the version have the kind: `each` came with the second
abbrev pub is_kind_of : Version → Kind → Bool
is_kind_of version.One kind.Each = false
is_kind_of v k = true

-- ---- fields

-- the name is one of these
abbrev pub is_one_of : List (List ℕ) → List ℕ → Bool
is_one_of [] name = false
is_one_of (n ∷ ns) name = bytes_eq name n || is_one_of ns name

-- the fields of a step of the kind, beside `kind`
abbrev pub fields_of : Kind → List (List ℕ)
fields_of kind.Set = codes "to" ∷ codes "value" ∷ []
fields_of kind.Add = codes "to" ∷ codes "left" ∷ codes "right" ∷ []
fields_of kind.Skip = codes "left" ∷ codes "right" ∷ codes "count" ∷ []
fields_of kind.Call = codes "to" ∷ codes "method" ∷ codes "params" ∷ codes "on_error" ∷ []
fields_of kind.Calls = codes "to" ∷ codes "list" ∷ codes "on_error" ∷ []
fields_of kind.Each = codes "to" ∷ codes "over" ∷ codes "method" ∷ codes "on_error" ∷ []
fields_of kind.Notify = codes "method" ∷ codes "params" ∷ []
fields_of kind.Answer = codes "value" ∷ []
fields_of kind.Fail = codes "code" ∷ codes "message" ∷ []

-- such a table may have the field; an opening came with the second version
abbrev pub allows : Entry → List ℕ → Bool
allows (entry.Document version.One) name = is_one_of (codes "version" ∷ codes "method" ∷ []) name
allows (entry.Document version.Two) name = is_one_of (codes "version" ∷ codes "opening" ∷ codes "method" ∷ []) name
allows entry.Method name = is_one_of (codes "name" ∷ codes "step" ∷ []) name
allows (entry.Step k) name = is_one_of (codes "kind" ∷ fields_of k) name
allows entry.Call name = is_one_of (codes "method" ∷ codes "params" ∷ []) name

-- it has no other
abbrev pub has_only : Entry → Members → Bool
has_only e no_members = true
has_only e (member name d ms) = allows e name && has_only e ms

-- ---- members by their types; none where one is missing or of a wrong type

abbrev pub text_at : List ℕ → Members → Option (List ℕ)
text_at name ms = option_and_then as_str (get_member name ms)

-- the kind that the step's `kind` names
abbrev pub kind_of : Members → Option Kind
kind_of ms = option_and_then kind_named (text_at (codes "kind") ms)

abbrev pub template_at : List ℕ → Members → Option Shape
template_at name ms = option_and_then template_in (get_member name ms)

abbrev pub integer_at : List ℕ → Members → Option ℤ
integer_at name ms = option_and_then as_integer (get_member name ms)

-- a number from 1 to 64, and 0 for any other, which is no count
abbrev pub count_in : ℤ → ℕ
count_in (pos n) = if nat_le 1 n && nat_le n LONGEST_SKIP then n else 0
count_in (negsuc n) = 0

abbrev pub count_at : Members → Option ℕ
count_at ms = option_map count_in (integer_at (codes "count") ms)

-- `fail` or `keep`
abbrev pub on_error_in : Data → Option OnError
on_error_in (string s) = if bytes_eq s (codes "fail") then Some on_error.Fail else (if bytes_eq s (codes "keep") then Some on_error.Keep else None)
on_error_in _ = None

-- `fail` where it is absent
abbrev pub on_error_at : Members → Option OnError
on_error_at ms = option_map_or on_error_in (get_member (codes "on_error") ms) (Some on_error.Fail)

-- an array of tables; without items where it is absent
abbrev pub are_tables : Items → Bool
are_tables no_items = true
are_tables (item (table ms) ds) = are_tables ds
are_tables (item _ ds) = false

abbrev pub tables_in : Data → Option Items
tables_in (array ds) = if are_tables ds then Some ds else None
tables_in _ = None

abbrev pub tables_at : List ℕ → Members → Option Items
tables_at name ms = option_map_or tables_in (get_member name ms) (Some no_items)

-- one of the tables has the text at that name
abbrev pub says : List ℕ → List ℕ → Data → Bool
says name text (table ms) = option_map_or (λ said. bytes_eq said text) (text_at name ms) false
says name text _ = false

abbrev pub one_says : List ℕ → List ℕ → Items → Bool
one_says name text no_items = false
one_says name text (item d ds) = says name text d || one_says name text ds

-- ---- what all of them make, where none is missing

abbrev pub with_2 : {A B C : Type 0} → (A → B → C) → Option A → Option B → Option C
with_2 f (Some a) b = option_map (f a) b
with_2 f None b = None

abbrev pub with_3 : {A B C D : Type 0} → (A → B → C → D) → Option A → Option B → Option C → Option D
with_3 f (Some a) b c = with_2 (f a) b c
with_3 f None b c = None

abbrev pub with_4 : {A B C D E : Type 0} → (A → B → C → D → E) → Option A → Option B → Option C → Option D → Option E
with_4 f (Some a) b c d = with_3 (f a) b c d
with_4 f None b c d = None

-- ---- calls

-- the `params`, where there are any
abbrev pub params_at : Members → Option (Option Shape)
params_at ms = option_map_or (λ d. option_map Some (template_in d)) (get_member (codes "params") ms) (Some None)

abbrev pub call_at : Members → Option ListedCall
call_at ms = with_2 (λ m p. record { method = m; params = p }) (text_at (codes "method") ms) (params_at ms)

-- a call of a list
abbrev pub call_in : Data → Option ListedCall
call_in (table ms) = if has_only entry.Call ms then call_at ms else None
call_in _ = None

abbrev pub listed_calls : Items → Option (List ListedCall)
listed_calls no_items = Some []
listed_calls (item d ds) = with_2 (λ c cs. c ∷ cs) (call_in d) (listed_calls ds)

abbrev pub the_calls : Items → List ListedCall
the_calls ds = unwrap_or (listed_calls ds) []

abbrev pub list_in : Data → Option (List ListedCall)
list_in d = option_and_then listed_calls (as_array d)

-- ---- steps

abbrev pub said_by : Kind → Members → Option Step
said_by kind.Set ms = with_2 step.Set (text_at (codes "to") ms) (template_at (codes "value") ms)
said_by kind.Add ms = with_3 step.Add (text_at (codes "to") ms) (template_at (codes "left") ms) (template_at (codes "right") ms)
said_by kind.Skip ms = with_3 step.Skip (template_at (codes "left") ms) (template_at (codes "right") ms) (count_at ms)
said_by kind.Call ms = with_3 (λ to c e. step.Call to c.method c.params e) (text_at (codes "to") ms) (call_at ms) (on_error_at ms)
said_by kind.Calls ms = with_3 step.Calls (text_at (codes "to") ms) (option_and_then list_in (get_member (codes "list") ms)) (on_error_at ms)
said_by kind.Each ms = with_4 step.Each (text_at (codes "to") ms) (template_at (codes "over") ms) (text_at (codes "method") ms) (on_error_at ms)
said_by kind.Notify ms = option_map (λ c. step.Notify c.method c.params) (call_at ms)
said_by kind.Answer ms = option_map step.Answer (template_at (codes "value") ms)
said_by kind.Fail ms = with_2 step.Fail (integer_at (codes "code") ms) (text_at (codes "message") ms)

-- the step of the kind that the table says; none where a field is missing, unknown or of a wrong type
abbrev pub step_in : Kind → Members → Option Step
step_in k ms = if has_only (entry.Step k) ms then said_by k ms else None
