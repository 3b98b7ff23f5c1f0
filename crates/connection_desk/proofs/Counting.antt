-- What the entries of a unit add to the counts, one after another and together.
use Rattle.std.proofs.Common.{◌≡◌, ℕ, ◌+◌, ◌<◌, ◌^◌, Bool, true, false, cond, if◌then◌else◌, List, [], ◌∷◌, length, Option, Some, None, sym, ap, ◌∙◌, arith}
use Rattle.std.specs.Prelude.{filter, is_some}
use Rattle.message_ids.specs.declared.id.Id.{Id}
use Rattle.connection_messages.specs.declared.call.Call.{Call as Came}
use Rattle.connection_messages.specs.declared.entry.Entry.{Entry}
use Rattle.connection_messages.specs.declared.entry.Entry.TheVariants.{Call, Cancel, Reply, Stray, Invalid}
use Rattle.connection_messages.specs.declared.unit.Unit.{Unit}
use Rattle.connection_messages.specs.declared.unit.Unit.TheVariants.{Unreadable, Single, Batch}
use Rattle.connection_history.specs.declared.event.Event.{Event}
use Rattle.connection_history.specs.Stream.{call_in, calls_in, entries_in, is_invalid}
use Rattle.connection_history.specs.Counts.{capped, is_unreadable, if_none}
use Rattle.open_calls.specs.declared.their_call.TheirCall.{TheirCall}
use Rattle.open_calls.specs.Own.{OwnState}
use Rattle.connection_steps.specs.Steps.{own_after}
use Rattle.connection_steps.specs.Tallies.{requests_in, invalid_in, ignored_if}
use Rattle.connection_desk.specs.declared.tally.Tally.{Tally}
use Rattle.connection_desk.specs.Desks.{with_answers}
use Rattle.connection_desk.specs.Inner.{told_at, calls_at, with_call, with_ignored_if, counted, counted_along, counted_in}

-- a tally by its parts
abbrev pub tally : ℕ → ℕ → ℕ → ℕ → ℕ → Tally
tally requests answers unreadable invalid ignored =
    record { requests = requests; answers = answers; unreadable = unreadable; invalid = invalid; ignored = ignored }

-- ---- one count

pub more_capped : (n k : ℕ) → capped (n + capped k) ≡ capped (n + k)
more_capped n k = omega arith

-- nothing more
pub none_more : (n : ℕ) → n < 2 ^ 64 → capped (n + 0) ≡ n
none_more n few = omega arith

-- some, and then more
pub twice_more : (n k m : ℕ) → capped (capped (n + k) + m) ≡ capped (n + (k + m))
twice_more n k m = omega arith

pub answers_capped : (n : ℕ) (t : Tally) → with_answers (capped n) t ≡ with_answers n t
answers_capped n t = ap (λ m. tally t.requests m t.unreadable t.invalid t.ignored) (more_capped t.answers n)

pub capped_few : (n : ℕ) → capped n < 2 ^ 64
capped_few n = omega arith

pub no_answers : (t : Tally) → t.answers < 2 ^ 64 → with_answers 0 t ≡ t
no_answers t few = ap (λ n. tally t.requests n t.unreadable t.invalid t.ignored) (none_more t.answers few)

-- ---- the counts that entries add to

pub record IsFew (t : Tally) : Type 0 where
  pub requests : t.requests < 2 ^ 64
  pub invalid : t.invalid < 2 ^ 64
  pub ignored : t.ignored < 2 ^ 64

-- so many more of them
abbrev pub with_entries : (requests invalid ignored : ℕ) → Tally → Tally
with_entries requests invalid ignored t =
    tally (capped (t.requests + requests)) t.answers t.unreadable (capped (t.invalid + invalid)) (capped (t.ignored + ignored))

no_entries : (t : Tally) → IsFew t → with_entries 0 0 0 t ≡ t
no_entries t few = λ i. tally (none_more t.requests few.requests i) t.answers t.unreadable (none_more t.invalid few.invalid i) (none_more t.ignored few.ignored i)

-- how many entries are ignored
abbrev pub ignored_along : ℕ → OwnState → List (ℕ × TheirCall) → List Entry → ℕ
ignored_along n own calls [] = 0
ignored_along n own calls (e ∷ es) =
    ignored_if e (told_at n own calls e) + ignored_along (n + length (call_in e)) (own_after e own) (calls_at n e calls) es

-- ---- one entry

-- what it adds
abbrev requests_of : Entry → ℕ
requests_of e = requests_in (e ∷ [])

abbrev invalid_of : Entry → ℕ
invalid_of e = invalid_in (e ∷ [])

one_call : (c : Came) (id : Option Id) (t : Tally) → IsFew t → with_call id t ≡ with_entries (length (cond (is_some id) (c ∷ []) [])) 0 0 t
one_call c None t few = sym (no_entries t few)
one_call c (Some id) t few = λ i. tally (capped (t.requests + 1)) t.answers t.unreadable (sym (none_more t.invalid few.invalid) i) (sym (none_more t.ignored few.ignored) i)

one_ignored : (told : List Event) (t : Tally) → IsFew t → with_ignored_if told t ≡ with_entries 0 0 (if_none told) t
one_ignored [] t few = λ i. tally (sym (none_more t.requests few.requests) i) t.answers t.unreadable (sym (none_more t.invalid few.invalid) i) (capped (t.ignored + 1))
one_ignored (e ∷ told) t few = sym (no_entries t few)

one_entry : (told : List Event) (e : Entry) (t : Tally) → IsFew t → counted told e t ≡ with_entries (requests_of e) (invalid_of e) (ignored_if e told) t
one_entry told (Call c) t few = one_call c c.id t few
one_entry told (Cancel id) t few = one_ignored told t few
one_entry told (Reply k r) t few = one_ignored told t few
one_entry told Stray t few = one_ignored [] t few
one_entry told Invalid t few = λ i. tally (sym (none_more t.requests few.requests) i) t.answers t.unreadable (capped (t.invalid + 1)) (sym (none_more t.ignored few.ignored) i)

few_with : (requests invalid ignored : ℕ) (t : Tally) → IsFew (with_entries requests invalid ignored t)
few_with requests invalid ignored t = record {
  requests = capped_few (t.requests + requests);
  invalid = capped_few (t.invalid + invalid);
  ignored = capped_few (t.ignored + ignored);
}

-- ---- entries

head_more : {X : Type 0} (b : Bool) (x : X) (xs : List X) → length (cond b (x ∷ []) []) + length xs ≡ length (cond b (x ∷ xs) xs)
head_more true x xs = omega arith
head_more false x xs = omega arith

requests_more : (e : Entry) (es : List Entry) → requests_of e + requests_in es ≡ requests_in (e ∷ es)
requests_more (Call c) es = head_more (is_some c.id) c (filter (λ d. is_some d.id) (calls_in es))
requests_more (Cancel id) es = omega arith
requests_more (Reply k r) es = omega arith
requests_more Stray es = omega arith
requests_more Invalid es = omega arith

invalid_more : (e : Entry) (es : List Entry) → invalid_of e + invalid_in es ≡ invalid_in (e ∷ es)
invalid_more e es = head_more (is_invalid e) e (filter is_invalid es)

entries_more : (r s i j k l : ℕ) (t : Tally) → with_entries s j l (with_entries r i k t) ≡ with_entries (r + s) (i + j) (k + l) t
entries_more r s i j k l t = λ x. tally (twice_more t.requests r s x) t.answers t.unreadable (twice_more t.invalid i j x) (twice_more t.ignored k l x)

-- entries add what they add one after another
pub all_entries : (n : ℕ) (own : OwnState) (calls : List (ℕ × TheirCall)) (es : List Entry) (t : Tally) → IsFew t
    → counted_along n own calls es t ≡ with_entries (requests_in es) (invalid_in es) (ignored_along n own calls es) t
all_entries n own calls [] t few = sym (no_entries t few)
all_entries n own calls (e ∷ es) t few =
    let told = told_at n own calls e in
    let m = n + length (call_in e) in
    let rest = ignored_along m (own_after e own) (calls_at n e calls) es in
    let one = with_entries (requests_of e) (invalid_of e) (ignored_if e told) t in
    ap (counted_along m (own_after e own) (calls_at n e calls) es) (one_entry told e t few)
    ∙ all_entries m (own_after e own) (calls_at n e calls) es one (few_with (requests_of e) (invalid_of e) (ignored_if e told) t)
    ∙ entries_more (requests_of e) (requests_in es) (invalid_of e) (invalid_in es) (ignored_if e told) rest t
    ∙ (λ i. with_entries (requests_more e es i) (invalid_more e es i) (ignored_if e told + rest) t)

-- ---- units

-- so much more of what a unit adds to
abbrev pub with_unit : (requests unreadable invalid ignored : ℕ) → Tally → Tally
with_unit requests unreadable invalid ignored t =
    tally (capped (t.requests + requests)) t.answers (capped (t.unreadable + unreadable)) (capped (t.invalid + invalid)) (capped (t.ignored + ignored))

readable : (requests invalid ignored : ℕ) (t : Tally) → t.unreadable < 2 ^ 64 → with_entries requests invalid ignored t ≡ with_unit requests 0 invalid ignored t
readable requests invalid ignored t few =
    λ i. tally (capped (t.requests + requests)) t.answers (sym (none_more t.unreadable few) i) (capped (t.invalid + invalid)) (capped (t.ignored + ignored))

pub all_counted : (u : Unit) (n : ℕ) (own : OwnState) (calls : List (ℕ × TheirCall)) (t : Tally) → IsFew t → t.unreadable < 2 ^ 64
    → counted_in u n own calls t
    ≡ with_unit (requests_in (entries_in u)) (if is_unreadable u then 1 else 0) (invalid_in (entries_in u)) (ignored_along n own calls (entries_in u)) t
all_counted Unreadable n own calls t few unread =
    λ i. tally (sym (none_more t.requests few.requests) i) t.answers (capped (t.unreadable + 1)) (sym (none_more t.invalid few.invalid) i) (sym (none_more t.ignored few.ignored) i)
all_counted (Single e) n own calls t few unread =
    all_entries n own calls (e ∷ []) t few ∙ readable (requests_in (e ∷ [])) (invalid_in (e ∷ [])) (ignored_along n own calls (e ∷ [])) t unread
all_counted (Batch es) n own calls t few unread =
    all_entries n own calls es t few ∙ readable (requests_in es) (invalid_in es) (ignored_along n own calls es) t unread
