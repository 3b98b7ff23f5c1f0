-- The calls of units, each with where its answer stands, whether it is open or not.
use Rattle.std.proofs.Common.{◌≡◌, ℕ, suc, ◌+◌, ◌<◌, ◌≤◌, List, [], ◌∷◌, ◌++◌, length, map, Some, Bool, cond, refl, sym, ap, subst, ◌∙◌, append_assoc, append-nil, arith}
use Rattle.std.proofs.lemmas.List.{map-append}
use Rattle.std.specs.Prelude.{⊤, option_and_then}
use Rattle.connection_messages.specs.declared.call.Call.{Call as Came}
use Rattle.connection_messages.specs.declared.entry.Entry.{Entry}
use Rattle.connection_messages.specs.declared.entry.Entry.TheVariants.{Call, Cancel, Reply, Stray, Invalid}
use Rattle.connection_messages.specs.declared.unit.Unit.{Unit}
use Rattle.connection_history.specs.Stream.{entries_in, entries_along, call_in, calls_in, call_numbered, request_id, is_cancelled}
use Rattle.connection_history.specs.Events.{call_count}
use Rattle.connection_history.specs.History.{History, stream, units_of, is_open, numbers_to}
use Rattle.connection_history.proofs.Streams.{length-calls_in-append, call_numbered-here, call_numbered-within}
use Rattle.open_calls.specs.declared.their_call.TheirCall.{TheirCall}
use Rattle.open_calls.specs.Theirs.{new_call}
use Rattle.connection_steps.specs.States.{slot_count, their_entry, theirs_along, theirs_in}

-- the call of an entry, as it is when it comes
abbrev pub site : ℕ → ℕ → ℕ → Entry → List (ℕ × TheirCall)
site place n slot (Call c) = (n, new_call c.id place slot) ∷ []
site place n slot (Cancel id) = []
site place n slot (Reply k r) = []
site place n slot Stray = []
site place n slot Invalid = []

abbrev pub sites_along : ℕ → ℕ → ℕ → List Entry → List (ℕ × TheirCall)
sites_along place n slot [] = []
sites_along place n slot (e ∷ es) = site place n slot e ++ sites_along place (n + length (call_in e)) (slot + slot_count e) es

abbrev pub sites_in : ℕ → ℕ → List Unit → List (ℕ × TheirCall)
sites_in place n [] = []
sites_in place n (u ∷ us) = sites_along place n 0 (entries_in u) ++ sites_in (place + 1) (n + length (calls_in (entries_in u))) us

-- all calls that came
abbrev pub sites_of : History → List (ℕ × TheirCall)
sites_of history = sites_in 0 1 (units_of history)

-- how many slots entries have
abbrev pub slots_in : List Entry → ℕ
slots_in [] = 0
slots_in (e ∷ es) = slot_count e + slots_in es

-- ---- the open ones

-- a call as it stands, where it is open
abbrev pub seen_as : Bool → Bool → ℕ × TheirCall → List (ℕ × TheirCall)
seen_as opened hit e = cond opened ((e.0, record e.1 { is_cancelled = hit }) ∷ []) []

abbrev pub seen : History → ℕ × TheirCall → List (ℕ × TheirCall)
seen history e = seen_as (is_open e.0 history) (is_cancelled e.0 (stream history)) e

abbrev pub all_seen : History → List (ℕ × TheirCall) → List (ℕ × TheirCall)
all_seen history [] = []
all_seen history (e ∷ es) = seen history e ++ all_seen history es

-- the open ones of two lists
pub all_seen-append : (history : History) (es fs : List (ℕ × TheirCall)) → all_seen history (es ++ fs) ≡ all_seen history es ++ all_seen history fs
all_seen-append history [] fs = refl
all_seen-append history (e ∷ es) fs = ap (λ l. seen history e ++ l) (all_seen-append history es fs) ∙ sym (append_assoc (seen history e) (all_seen history es) (all_seen history fs))

entry-seen : (history : History) (place n slot : ℕ) (e : Entry) → their_entry history place n slot e ≡ all_seen history (site place n slot e)
entry-seen history place n slot (Call c) = sym (append-nil (seen history (n, new_call c.id place slot)))
entry-seen history place n slot (Cancel id) = refl
entry-seen history place n slot (Reply k r) = refl
entry-seen history place n slot Stray = refl
entry-seen history place n slot Invalid = refl

along-seen : (history : History) (place n slot : ℕ) (es : List Entry) → theirs_along history place n slot es ≡ all_seen history (sites_along place n slot es)
along-seen history place n slot [] = refl
along-seen history place n slot (e ∷ es) =
    (λ i. entry-seen history place n slot e i ++ along-seen history place (n + length (call_in e)) (slot + slot_count e) es i)
    ∙ sym (all_seen-append history (site place n slot e) (sites_along place (n + length (call_in e)) (slot + slot_count e) es))

-- the calls that are open are those that are seen of all that came
pub theirs-seen : (history : History) (place n : ℕ) (us : List Unit) → theirs_in history place n us ≡ all_seen history (sites_in place n us)
theirs-seen history place n [] = refl
theirs-seen history place n (u ∷ us) =
    (λ i. along-seen history place n 0 (entries_in u) i ++ theirs-seen history (place + 1) (n + length (calls_in (entries_in u))) us i)
    ∙ sym (all_seen-append history (sites_along place n 0 (entries_in u)) (sites_in (place + 1) (n + length (calls_in (entries_in u))) us))

-- ---- one more

-- the sites of one more entry
pub sites-entry : (place n slot : ℕ) (es : List Entry) (e : Entry)
    → sites_along place n slot (es ++ e ∷ []) ≡ sites_along place n slot es ++ site place (n + length (calls_in es)) (slot + slots_in es) e
sites-entry place n slot [] e =
    let number : n ≡ n + 0 = omega arith in
    let at : slot ≡ slot + 0 = omega arith in
    append-nil (site place n slot e) ∙ (λ i. site place (number i) (at i) e)
sites-entry place n slot (d ∷ es) e =
    let number : n + length (call_in d) + length (calls_in es) ≡ n + length (calls_in (d ∷ es)) = omega (arith, length-calls_in-append (d ∷ []) es, ap length (append-nil (call_in d))) in
    let at : slot + slot_count d + slots_in es ≡ slot + slots_in (d ∷ es) = omega arith in
    ap (λ l. site place n slot d ++ l) (sites-entry place (n + length (call_in d)) (slot + slot_count d) es e ∙ (λ i. sites_along place (n + length (call_in d)) (slot + slot_count d) es ++ site place (number i) (at i) e))
    ∙ sym (append_assoc (site place n slot d) (sites_along place (n + length (call_in d)) (slot + slot_count d) es) (site place (n + length (calls_in (d ∷ es))) (slot + slots_in (d ∷ es)) e))

-- the sites of one more unit
pub sites-unit : (place n : ℕ) (us : List Unit) (u : Unit)
    → sites_in place n (us ++ u ∷ []) ≡ sites_in place n us ++ sites_along (place + length us) (n + length (calls_in (entries_along us))) 0 (entries_in u)
sites-unit place n [] u =
    let number : n ≡ n + 0 = omega arith in
    let at : place ≡ place + 0 = omega arith in
    append-nil (sites_along place n 0 (entries_in u)) ∙ (λ i. sites_along (at i) (number i) 0 (entries_in u))
sites-unit place n (v ∷ us) u =
    let here = sites_along place n 0 (entries_in v) in
    let next = n + length (calls_in (entries_in v)) in
    let number : next + length (calls_in (entries_along us)) ≡ n + length (calls_in (entries_along (v ∷ us))) = omega (arith, length-calls_in-append (entries_in v) (entries_along us)) in
    let at : place + 1 + length us ≡ place + length (v ∷ us) = omega arith in
    ap (λ l. here ++ l) (sites-unit (place + 1) next us u ∙ (λ i. sites_in (place + 1) next us ++ sites_along (at i) (number i) 0 (entries_in u)))
    ∙ sym (append_assoc here (sites_in (place + 1) next us) (sites_along (place + length (v ∷ us)) (n + length (calls_in (entries_along (v ∷ us)))) 0 (entries_in u)))

-- how many slots entries have, and then more
pub slots-entry : (es : List Entry) (e : Entry) → slots_in (es ++ e ∷ []) ≡ slots_in es + slot_count e
slots-entry [] e = omega arith
slots-entry (d ∷ es) e = omega (arith, slots-entry es e)

-- ---- each has its number in the stream

-- it has the number of a call that came, and that call's id
pub record IsSite (es : List Entry) (e : ℕ × TheirCall) : Type 0 where
  pub some : 0 < e.0
  pub within : e.0 ≤ length (calls_in es)
  pub same_id : request_id e.0 es ≡ e.1.id

abbrev pub AreSites : List Entry → List (ℕ × TheirCall) → Type 0
AreSites es [] = ⊤
AreSites es (s ∷ ss) = IsSite es s × AreSites es ss

pub sites-append : (es : List Entry) (ss ts : List (ℕ × TheirCall)) → AreSites es ss → AreSites es ts → AreSites es (ss ++ ts)
sites-append es [] ts these those = those
sites-append es (s ∷ ss) ts these those = (these.0, sites-append es ss ts these.1 those)

site-at : (es : List Entry) (n : ℕ) (c : Came) (place slot : ℕ) → call_numbered n es ≡ Some c → IsSite es (n, new_call c.id place slot)
site-at es n c place slot known = record {
  some = (call_numbered-within n es c known).0;
  within = (call_numbered-within n es c known).1;
  same_id = ap (option_and_then (λ (d : Came). d.id)) known;
}

entry-are : (before rest : List Entry) (e : Entry) (place n slot : ℕ) → n ≡ length (calls_in before) + 1 → AreSites (before ++ e ∷ rest) (site place n slot e)
entry-are before rest (Call c) place n slot next =
    (site-at (before ++ Call c ∷ rest) n c place slot (ap (λ k. call_numbered k (before ++ Call c ∷ rest)) next ∙ call_numbered-here before rest c), tt)
entry-are before rest (Cancel id) place n slot next = tt
entry-are before rest (Reply k r) place n slot next = tt
entry-are before rest Stray place n slot next = tt
entry-are before rest Invalid place n slot next = tt

along-are : (before es rest : List Entry) (place n slot : ℕ) → n ≡ length (calls_in before) + 1 → AreSites (before ++ (es ++ rest)) (sites_along place n slot es)
along-are before [] rest place n slot next = tt
along-are before (e ∷ es) rest place n slot next =
    sites-append (before ++ e ∷ (es ++ rest)) (site place n slot e) (sites_along place (n + length (call_in e)) (slot + slot_count e) es)
    (entry-are before (es ++ rest) e place n slot next)
    (subst (λ l. AreSites l (sites_along place (n + length (call_in e)) (slot + slot_count e) es)) (append_assoc before (e ∷ []) (es ++ rest))
    (along-are (before ++ e ∷ []) es rest place (n + length (call_in e)) (slot + slot_count e)
    (omega (arith, length-calls_in-append before (e ∷ []), ap length (append-nil (call_in e))))))

-- the sites of units after other entries
pub sites-are : (before : List Entry) (us : List Unit) (place n : ℕ) → n ≡ length (calls_in before) + 1 → AreSites (before ++ entries_along us) (sites_in place n us)
sites-are before [] place n next = tt
sites-are before (u ∷ us) place n next =
    let after = n + length (calls_in (entries_in u)) in
    sites-append (before ++ entries_along (u ∷ us)) (sites_along place n 0 (entries_in u)) (sites_in (place + 1) after us)
    (along-are before (entries_in u) (entries_along us) place n 0 next)
    (subst (λ l. AreSites l (sites_in (place + 1) after us)) (append_assoc before (entries_in u) (entries_along us))
    (sites-are (before ++ entries_in u) us (place + 1) after (omega (arith, length-calls_in-append before (entries_in u)))))

-- all sites are sites of the stream
pub all-are : (history : History) → AreSites (stream history) (sites_of history)
all-are history = sites-are [] (units_of history) 0 1 refl

-- ---- their numbers

-- the numbers of sites
abbrev pub numbers_in : List (ℕ × TheirCall) → List ℕ
numbers_in ss = map (λ s. s.0) ss

one_number : (m n : ℕ) (ns : List ℕ) → n ≡ m + 1 → numbers_to m ++ n ∷ ns ≡ numbers_to (suc m) ++ ns
one_number m n ns next =
    let it : n ≡ suc m = omega arith in
    ap (λ k. numbers_to m ++ k ∷ ns) it ∙ sym (append_assoc (numbers_to m) (suc m ∷ []) ns)

none_more : (m k : ℕ) (ns : List ℕ) → m + 0 ≡ k → ns ≡ [] → numbers_to m ++ ns ≡ numbers_to k
none_more m k ns same none = let it : m ≡ k = omega arith in ap (λ l. numbers_to m ++ l) none ∙ append-nil (numbers_to m) ∙ ap numbers_to it

along-numbers : (place n slot m : ℕ) (es : List Entry) → n ≡ m + 1 → numbers_to m ++ numbers_in (sites_along place n slot es) ≡ numbers_to (m + length (calls_in es))
along-numbers place n slot m [] next = none_more m (m + 0) [] refl refl
along-numbers place n slot m (Call c ∷ es) next =
    let more : suc m + length (calls_in es) ≡ m + length (calls_in (Call c ∷ es)) = omega arith in
    one_number m n (numbers_in (sites_along place (n + 1) (slot + slot_count (Call c)) es)) next
    ∙ along-numbers place (n + 1) (slot + slot_count (Call c)) (suc m) es (omega arith) ∙ ap numbers_to more
along-numbers place n slot m (Cancel id ∷ es) next = along-numbers place (n + 0) (slot + 0) m es (omega arith)
along-numbers place n slot m (Reply k r ∷ es) next = along-numbers place (n + 0) (slot + 0) m es (omega arith)
along-numbers place n slot m (Stray ∷ es) next = along-numbers place (n + 0) (slot + 0) m es (omega arith)
along-numbers place n slot m (Invalid ∷ es) next = along-numbers place (n + 0) (slot + 1) m es (omega arith)

sites-numbers : (place n m : ℕ) (us : List Unit) → n ≡ m + 1 → numbers_to m ++ numbers_in (sites_in place n us) ≡ numbers_to (m + length (calls_in (entries_along us)))
sites-numbers place n m [] next = none_more m (m + 0) [] refl refl
sites-numbers place n m (u ∷ us) next =
    let here = sites_along place n 0 (entries_in u) in
    let count = length (calls_in (entries_in u)) in
    let rest = sites_in (place + 1) (n + count) us in
    let more : m + count + length (calls_in (entries_along us)) ≡ m + length (calls_in (entries_along (u ∷ us))) = omega (arith, length-calls_in-append (entries_in u) (entries_along us)) in
    ap (λ l. numbers_to m ++ l) (map-append (λ (s : ℕ × TheirCall). s.0) here rest)
    ∙ sym (append_assoc (numbers_to m) (numbers_in here) (numbers_in rest))
    ∙ ap (λ l. l ++ numbers_in rest) (along-numbers place n 0 m (entries_in u) next)
    ∙ sites-numbers (place + 1) (n + count) (m + count) us (omega arith) ∙ ap numbers_to more

-- all calls that came have the numbers 1, 2, ..
pub all-numbers : (history : History) → numbers_in (sites_of history) ≡ numbers_to (call_count history)
all-numbers history =
    let count : 0 + call_count history ≡ call_count history = omega arith in
    sites-numbers 0 1 0 (units_of history) refl ∙ ap numbers_to count
