-- What numbers have sent is written, number by number.
use Rattle.std.proofs.Common.{◌≡◌, ◌≢◌, ℕ, zero, suc, ◌+◌, ◌==◌, ◌<◌, List, [], ◌∷◌, ◌++◌, map, get_or, Bool, true, false, cond, refl, sym, ap, subst, ◌∙◌, append_assoc, append-nil, arith}
use Rattle.std.specs.Cmp.{unsigned_Decides}
use Rattle.method_steps.specs.Steps.{MethodTable}
use Rattle.rpc_messages.specs.Dues.{Due}
use Rattle.peer_events.specs.declared.stage.Stage.{Stage}
use Rattle.peer_events.specs.declared.stage.Stage.TheVariants.{Gone}
use Rattle.peer_output.specs.Cancelled.{Begins}
use Rattle.peer_output.specs.Course.{Sending}
use Rattle.peer_output.specs.Items.{Item, sent, answered, sent_by}
use Rattle.peer_output.specs.Past.{Past, IsPast}
use Rattle.peer_events.specs.Core.{unwritten, unwritten_from}
use Rattle.peer_events.specs.Inner.Known.{Known}
use Rattle.peer_events.proofs.Streams.{begins-front}

-- ---- what of items is a number's

pushed_if : (b : Bool) (s : Sending) (xs ys : List Sending) → cond b (s ∷ (xs ++ ys)) (xs ++ ys) ≡ cond b (s ∷ xs) xs ++ ys
pushed_if true s xs ys = refl
pushed_if false s xs ys = refl

pub by-append : (n : ℕ) (xs ys : List Item) → sent_by n (xs ++ ys) ≡ sent_by n xs ++ sent_by n ys
by-append n [] ys = refl
by-append n (sent m s ∷ xs) ys = ap (λ l. cond (m == n) (s ∷ l) l) (by-append n xs ys) ∙ pushed_if (m == n) s (sent_by n xs) (sent_by n ys)
by-append n (answered due ∷ xs) ys = by-append n xs ys

own_if : (b : Bool) (s : Sending) (xs ys : List Sending) → b ≡ true → xs ≡ ys → cond b (s ∷ xs) xs ≡ s ∷ ys
own_if true s xs ys is same = ap (λ l. s ∷ l) same
own_if false s xs ys is same = cc

other_if : (b : Bool) (s : Sending) (xs : List Sending) → b ≡ false → xs ≡ [] → cond b (s ∷ xs) xs ≡ []
other_if true s xs is none = cc
other_if false s xs is none = none

pub by-own : (n : ℕ) (xs : List Sending) → sent_by n (map (sent n) xs) ≡ xs
by-own n [] = refl
by-own n (x ∷ xs) = own_if (n == n) x (sent_by n (map (sent n) xs)) xs ((unsigned_Decides n n).1 refl) (by-own n xs)

apart_if : (m n : ℕ) (b : Bool) → (m == n) ≡ b → m ≢ n → b ≡ false
apart_if m n true is apart = absurd (apart ((unsigned_Decides m n).0 is))
apart_if m n false is apart = refl

pub by-other : (n m : ℕ) (xs : List Sending) → m ≢ n → sent_by n (map (sent m) xs) ≡ []
by-other n m [] apart = refl
by-other n m (x ∷ xs) apart = other_if (m == n) x (sent_by n (map (sent m) xs)) (apart_if m n (m == n) refl apart) (by-other n m xs apart)

pub by-answers : (n : ℕ) (dues : List Due) → sent_by n (map answered dues) ≡ []
by-answers n [] = refl
by-answers n (due ∷ dues) = by-answers n dues

-- ---- of what is unwritten

by-later : (n m : ℕ) (stages : List Stage) → n < m → sent_by n (unwritten_from m stages) ≡ []
by-later n m [] less = refl
by-later n m (stage ∷ stages) less =
    by-append n (map (sent m) (unwritten stage)) (unwritten_from (m + 1) stages)
    ∙ ap (λ l. l ++ sent_by n (unwritten_from (m + 1) stages)) (by-other n m (unwritten stage) (λ same. absurd (omega arith)))
    ∙ by-later n (m + 1) stages (omega arith)

pub by-unwritten : (n k m : ℕ) (stages : List Stage) → m ≡ n + k → sent_by m (unwritten_from n stages) ≡ unwritten (get_or stages k Gone)
by-unwritten n k m [] is = refl
by-unwritten n zero m (stage ∷ stages) is =
    let same : n ≡ m = omega arith in
    by-append m (map (sent n) (unwritten stage)) (unwritten_from (n + 1) stages)
    ∙ ap (λ l. sent_by m (map (sent n) (unwritten stage)) ++ l) (by-later m (n + 1) stages (omega arith))
    ∙ append-nil (sent_by m (map (sent n) (unwritten stage)))
    ∙ subst (λ j. sent_by j (map (sent n) (unwritten stage)) ≡ unwritten stage) same (by-own n (unwritten stage))
by-unwritten n (suc k) m (stage ∷ stages) is =
    by-append m (map (sent n) (unwritten stage)) (unwritten_from (n + 1) stages)
    ∙ ap (λ l. l ++ sent_by m (unwritten_from (n + 1) stages)) (by-other m n (unwritten stage) (λ same. absurd (omega arith)))
    ∙ by-unwritten (n + 1) k m stages (omega arith)

-- ---- it is written

-- these items were written behind the others
abbrev pub with_items : Past → List Item → Past
with_items past items = record past { items = past.items ++ items }

module _ (known : Known) (table : MethodTable) (is_over : Bool) where
  sent-past : (n : ℕ) (xs : List Sending) (past : Past) → IsPast table is_over past → Begins (sent_by n past.items ++ xs) (past.sends n)
      → IsPast table is_over (with_items past (map (sent n) xs))
  sent-past n [] past is next = subst (λ l. IsPast table is_over (record past { items = l })) (sym (append-nil past.items)) is
  sent-past n (x ∷ xs) past is next =
      let assoc : (sent_by n past.items ++ x ∷ []) ++ xs ≡ sent_by n past.items ++ x ∷ xs = append_assoc (sent_by n past.items) (x ∷ []) xs in
      let joined = subst (λ l. Begins l (past.sends n)) (sym assoc) next in
      let one : IsPast table is_over (with_items past (sent n x ∷ [])) = known.is_sent table is_over past n x is (begins-front (sent_by n past.items ++ x ∷ []) xs (past.sends n) joined) in
      let now : sent_by n (past.items ++ sent n x ∷ []) ≡ sent_by n past.items ++ x ∷ [] = by-append n past.items (sent n x ∷ []) ∙ ap (λ l. sent_by n past.items ++ l) (by-own n (x ∷ [])) in
      subst (λ l. IsPast table is_over (record past { items = l })) (append_assoc past.items (sent n x ∷ []) (map (sent n) xs))
      (sent-past n xs (with_items past (sent n x ∷ [])) one (subst (λ l. Begins (l ++ xs) (past.sends n)) (sym now) joined))

  pub unwritten-past : (n : ℕ) (stages : List Stage) (past : Past) → IsPast table is_over past
      → ((m k : ℕ) → m ≡ n + k → Begins (sent_by m past.items ++ unwritten (get_or stages k Gone)) (past.sends m))
      → IsPast table is_over (with_items past (unwritten_from n stages))
  unwritten-past n [] past is each = subst (λ l. IsPast table is_over (record past { items = l })) (sym (append-nil past.items)) is
  unwritten-past n (stage ∷ stages) past is each =
      let first = map (sent n) (unwritten stage) in
      let now = with_items past first in
      subst (λ l. IsPast table is_over (record past { items = l })) (append_assoc past.items first (unwritten_from (n + 1) stages))
      (unwritten-past (n + 1) stages now (sent-past n (unwritten stage) past is (each n 0 (omega arith)))
      (λ m k is. subst (λ l. Begins (l ++ unwritten (get_or stages k Gone)) (past.sends m))
      (sym (by-append m past.items first ∙ ap (λ l. sent_by m past.items ++ l) (by-other m n (unwritten stage) (λ same. absurd (omega arith))) ∙ append-nil (sent_by m past.items)))
      (each m (suc k) (omega arith))))
