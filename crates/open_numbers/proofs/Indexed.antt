-- What is kept for cancels, after each change of the entries.
use Rattle.std.proofs.Common.{◌≡◌, ◌≢◌, ◌==◌, ℕ, suc, zero, ◌+◌, ◌<◌, ◌&&◌, List, [], ◌∷◌, ◌++◌, length, set, take, refl, ⊎_elim, rules, ap, sym, ◌∙◌, arith, Bool, true, false, true≢false, if◌then◌else◌, Option, Some, None, ◌≤◌, nat_lt}
use Rattle.std.proofs.lemmas.List.{get_or-take, length-take-le, get_or-set_same, get_or-set_other, get_or_append_left, length-set, length-append}
use Rattle.std.proofs.lemmas.Bool.{cases_eq}
use Rattle.std.specs.Cmp.{unsigned_Decides}
use Rattle.message_ids.specs.declared.id.Id.{Id}
use Rattle.rpc_messages.specs.declared.reply.Reply.{Reply}
use Rattle.open_numbers.specs.declared.kept.Kept.{Kept}
use Rattle.open_numbers.specs.declared.kept.Kept.TheVariants.{Open, Answered}
use Rattle.open_numbers.specs.declared.open_call.OpenCall.{OpenCall}
use Rattle.open_numbers.specs.declared.requests_by_id.RequestsById.{RequestsById}
use Rattle.message_ids.specs.Ids.{same_id, has_id}
use Rattle.open_numbers.specs.Kept.{kept_at, with_change, with_reach, with_answer, kept_answer, without_answer}
use Rattle.open_numbers.specs.Numbers.{IsIndexed}
use Rattle.open_numbers.specs.Requests.{is_reached_by, in_reach, count_in_reach, is_listed, IsWithMore, IsWithout}
use Rattle.open_numbers.proofs.Reached.{and_false, reached-some, reached-id, reached-one}

-- what is read of the entries, once one of them was changed and reads as before
pub read-set : {X : Type 0} (f : Option Kept → X) (entries : List (Option Kept)) (n k : ℕ) (entry : Option Kept) → f entry ≡ f (kept_at entries n)
    → f (kept_at (set entries n entry) k) ≡ f (kept_at entries k)
read-set f [] n k entry same = refl
read-set f (e ∷ es) zero zero entry same = same
read-set f (e ∷ es) zero (suc k) entry same = refl
read-set f (e ∷ es) (suc n) zero entry same = refl
read-set f (e ∷ es) (suc n) (suc k) entry same = read-set f es n k entry same

pub count-set : (entries : List (Option Kept)) (n : ℕ) (entry : Option Kept) → n < length entries
    → count_in_reach (set entries n entry) + in_reach (kept_at entries n) ≡ count_in_reach entries + in_reach entry
count-set [] n entry below = absurd (omega arith)
count-set (e ∷ es) zero entry below = omega arith
count-set (e ∷ es) (suc n) entry below = omega (arith, count-set es n entry (omega arith))

-- a change of an entry that no cancel can see
pub record IsUnseen (now was : Option Kept) : Type 0 where
  pub reached : (id : Id) → is_reached_by id now ≡ is_reached_by id was

pub IsIndexed-unseen : (entries : List (Option Kept)) (n : ℕ) (entry : Option Kept) (requests : RequestsById) (recent : ℕ) → IsUnseen entry (kept_at entries n)
    → IsIndexed entries requests recent → IsIndexed (set entries n entry) requests recent
IsIndexed-unseen entries n entry requests recent unseen inv = record {
  listed = λ id k. inv.listed id k ∙ ap (λ b. nat_lt k recent && b) (sym (read-set (is_reached_by id) entries n k entry (unseen.reached id)));
  given = rw (length-set entries n entry) inv.given;
}

pub IsUnseen-changed : (change : OpenCall → OpenCall) → ((n : OpenCall) → (change n).id ≡ n.id) → ((n : OpenCall) → (change n).is_marked ≡ n.is_marked) → (entry : Option Kept) → IsUnseen (with_change change entry) entry
IsUnseen-changed change ids marks (Some (Open n)) = record {
  reached = λ id. rw (ids n, marks n) refl;
}
IsUnseen-changed change ids marks (Some (Answered id reply)) = record { reached = λ id. refl }
IsUnseen-changed change ids marks None = record { reached = λ id. refl }

pub IsUnseen-forgotten : (entry : Option Kept) → IsUnseen (without_answer entry) entry
IsUnseen-forgotten (Some (Open n)) = record { reached = λ id. refl }
IsUnseen-forgotten (Some (Answered id reply)) = record { reached = λ id. refl }
IsUnseen-forgotten None = record { reached = λ id. refl }

-- a test of each entry, once one entry gave way to another
told-set : (test : ℕ → Option Kept → Bool) (entries : List (Option Kept)) (n : ℕ) (entry : Option Kept) (new old : ℕ → Bool) → n < length entries
    → ((k : ℕ) → old k ≡ test k (kept_at entries k)) → ((k : ℕ) → k ≢ n → new k ≡ old k) → new n ≡ test n entry
    → (k : ℕ) → new k ≡ test k (kept_at (set entries n entry) k)
told-set test entries n entry new old below was apart here k =
    ⊎_elim {A = k ≡ n} {B = k ≢ n}
    (λ same. ap new same ∙ here ∙ sym (ap (λ j. test j (kept_at (set entries n entry) j)) same ∙ ap (test n) (get_or-set_same entries n entry None below)))
    (λ differs. apart k differs ∙ was k ∙ sym (ap (test k) (get_or-set_other entries n k entry None differs)))
    (cases_eq k n)

pub not_true : (b : Bool) → (b ≡ true → ⊥) → b ≡ false
not_true true never = absurd (never refl)
not_true false never = refl

miss : (n k : ℕ) → k ≢ n → (n == k) ≡ false
miss n k apart = not_true (n == k) (λ hit. apart (sym ((unsigned_Decides n k).0 hit)))

if_and_false : (same was : Bool) → (if same && false then false else was) ≡ was
if_and_false true was = refl
if_and_false false was = refl

gone_here : (same below was : Bool) → was ≡ (below && same) → (if same && true then false else was) ≡ (below && false)
gone_here true below was is = sym (and_false below)
gone_here false below was is = is

-- a cancel has reached one number

marked-out : (entry : Option Kept) (q : Id) → is_reached_by q (with_reach entry) ≡ false
marked-out (Some (Open n)) q = and_false (has_id q n.id)
marked-out (Some (Answered other reply)) q = refl
marked-out None q = refl

marked-uncounted : (entry : Option Kept) → in_reach (with_reach entry) ≡ 0
marked-uncounted (Some (Open n)) = refl
marked-uncounted (Some (Answered other reply)) = refl
marked-uncounted None = refl

reached-inside : (entries : List (Option Kept)) (n : ℕ) (id : Id) → is_reached_by id (kept_at entries n) ≡ true → n < length entries
reached-inside [] n id hit = absurd (true≢false (sym hit))
reached-inside (e ∷ es) zero id hit = omega arith
reached-inside (e ∷ es) (suc n) id hit = omega (arith, reached-inside es n id hit)

pub fewer-marked : (entries : List (Option Kept)) (n : ℕ) (id : Id) → is_reached_by id (kept_at entries n) ≡ true
    → count_in_reach (set entries n (with_reach (kept_at entries n))) < count_in_reach entries
fewer-marked entries n id hit =
    let was : Option Kept = kept_at entries n in
    omega (arith, reached-one was id hit, marked-uncounted was, count-set entries n (with_reach was) (reached-inside entries n id hit))

pub IsIndexed-marked : (entries : List (Option Kept)) (n : ℕ) (id : Id) (requests requests' : RequestsById) (recent : ℕ) → is_reached_by id (kept_at entries n) ≡ true
    → ((q : Id) (k : ℕ) → is_listed requests' q k ≡ (if same_id id q && (n == k) then false else is_listed requests q k))
    → IsIndexed entries requests recent → IsIndexed (set entries n (with_reach (kept_at entries n))) requests' recent
IsIndexed-marked entries n id requests requests' recent hit listed inv =
    let was : Option Kept = kept_at entries n in
    let now : Option Kept = with_reach was in
    record {
      listed = λ q. told-set (λ k o. nat_lt k recent && is_reached_by q o) entries n now (is_listed requests' q) (is_listed requests q) (reached-inside entries n id hit) (inv.listed q)
          (λ k apart. listed q k ∙ ap (λ b. if same_id id q && b then false else is_listed requests q k) (miss n k apart) ∙ if_and_false (same_id id q) (is_listed requests q k))
          (listed q n ∙ ap (λ b. if same_id id q && b then false else is_listed requests q n) ((unsigned_Decides n n).1 refl)
          ∙ gone_here (same_id id q) (nat_lt n recent) (is_listed requests q n) (inv.listed q n ∙ ap (λ b. nat_lt n recent && b) (reached-some was id q (reached-id was id hit)))
          ∙ sym (ap (λ b. nat_lt n recent && b) (marked-out was q)));
      given = rw (length-set entries n now) inv.given;
    }

-- an open number was finished

answer-out : (reply : Reply) (own : Option Id) (q : Id) → is_reached_by q (kept_answer reply own) ≡ false
answer-out reply None q = refl
answer-out reply (Some id) q = refl

answered-out : (reply : Reply) (entry : Option Kept) (q : Id) → is_reached_by q (with_answer reply entry) ≡ false
answered-out reply (Some (Open n)) q = answer-out reply n.id q
answered-out reply (Some (Answered id old)) q = refl
answered-out reply None q = refl

pub IsIndexed-finished : (entries : List (Option Kept)) (n : ℕ) (reply : Reply) (requests requests' : RequestsById) (recent : ℕ) → n < length entries
    → IsWithout requests' requests n
    → IsIndexed entries requests recent → IsIndexed (set entries n (with_answer reply (kept_at entries n))) requests' recent
IsIndexed-finished entries n reply requests requests' recent below without inv =
    let was : Option Kept = kept_at entries n in
    let now : Option Kept = with_answer reply was in
    record {
      listed = λ q. told-set (λ k o. nat_lt k recent && is_reached_by q o) entries n now (is_listed requests' q) (is_listed requests q) below (inv.listed q)
          (λ k apart. without q k ∙ ap (λ b. if b then false else is_listed requests q k) (miss n k apart))
          (without q n ∙ ap (λ b. if b then false else is_listed requests q n) ((unsigned_Decides n n).1 refl)
          ∙ sym (ap (λ b. nat_lt n recent && b) (answered-out reply was q) ∙ and_false (nat_lt n recent)));
      given = rw (length-set entries n now) inv.given;
    }

-- a number went into the index

pub lt_from : (a b : ℕ) → nat_lt a b ≡ true → a < b
lt_from a b is = search (rules, is)

pub lt_to : (a b : ℕ) → a < b → nat_lt a b ≡ true
lt_to a b is = search (rules, is)

pub not_lt : (a b : ℕ) → b ≤ a → nat_lt a b ≡ false
not_lt a b is = search (rules, is)

pub lt_not : (a b : ℕ) → nat_lt a b ≡ false → b ≤ a
lt_not a b is = search (rules, is)

lt-more : (below : Bool) (r k : ℕ) → nat_lt k r ≡ below → k ≢ r → below ≡ nat_lt k (suc r)
lt-more true r k is apart = sym (lt_to k (suc r) (omega (arith, lt_from k r is)))
lt-more false r k is apart = sym (not_lt k (suc r) (omega (arith, lt_not k r is, apart)))

next_if : (hit : Bool) (test : ℕ → Bool) (r k : ℕ) → (r == k) ≡ hit → (if hit then test r else (nat_lt k r && test k)) ≡ (nat_lt k (suc r) && test k)
next_if true test r k is =
    let same : r ≡ k = (unsigned_Decides r k).0 is in
    ap test same ∙ sym (ap (λ b. b && test k) (lt_to k (suc r) (omega arith)))
next_if false test r k is =
    ap (λ b. b && test k) (lt-more (nat_lt k r) r k refl (λ same. true≢false (sym ((unsigned_Decides r k).1 (sym same)) ∙ is)))

pub IsIndexed-next : (entries : List (Option Kept)) (requests requests' : RequestsById) (recent : ℕ) → recent < length entries
    → IsWithMore requests' requests recent (kept_at entries recent) → IsIndexed entries requests recent → IsIndexed entries requests' (suc recent)
IsIndexed-next entries requests requests' recent below more inv = record {
  listed = λ q k. more q k ∙ ap (λ b. if recent == k then is_reached_by q (kept_at entries recent) else b) (inv.listed q k)
      ∙ next_if (recent == k) (λ j. is_reached_by q (kept_at entries j)) recent k refl;
  given = omega (arith, below);
}

-- none of the recent numbers stands there
pub recent-unlisted : (entries : List (Option Kept)) (requests : RequestsById) (recent : ℕ) (id : Id) (k : ℕ) → recent ≤ k → IsIndexed entries requests recent → is_listed requests id k ≡ false
recent-unlisted entries requests recent id k from inv = inv.listed id k ∙ ap (λ b. b && is_reached_by id (kept_at entries k)) (not_lt k recent from)

front_if : (below : Bool) (test : Option Kept → Bool) (entries new : List (Option Kept)) (recent k : ℕ) → nat_lt k recent ≡ below → recent ≤ length entries
    → (below && test (kept_at entries k)) ≡ (below && test (kept_at (entries ++ new) k))
front_if true test entries new recent k is given = ap test (sym (get_or_append_left entries new None k (omega (arith, lt_from k recent is))))
front_if false test entries new recent k is given = refl

-- they stand among the recent ones
pub IsIndexed-pushed : (entries new : List (Option Kept)) (requests : RequestsById) (recent : ℕ) → IsIndexed entries requests recent → IsIndexed (entries ++ new) requests recent
IsIndexed-pushed entries new requests recent inv = record {
  listed = λ q k. inv.listed q k ∙ front_if (nat_lt k recent) (is_reached_by q) entries new recent k refl inv.given;
  given = let given = inv.given in omega (arith, length-append entries new);
}

-- a number goes out of the index, the last of those that stand there
fewer_if : (hit : Bool) (test : ℕ → Bool) (r k : ℕ) → (r == k) ≡ hit → (if hit then false else (nat_lt k (suc r) && test k)) ≡ (nat_lt k r && test k)
fewer_if true test r k is =
    let same : r ≡ k = (unsigned_Decides r k).0 is in
    sym (ap (λ b. b && test k) (not_lt k r (omega arith)))
fewer_if false test r k is =
    ap (λ b. b && test k) (sym (lt-more (nat_lt k r) r k refl (λ same. true≢false (sym ((unsigned_Decides r k).1 (sym same)) ∙ is))))

pub IsIndexed-before : (entries : List (Option Kept)) (requests requests' : RequestsById) (recent last : ℕ) → recent ≡ suc last
    → IsWithout requests' requests last → IsIndexed entries requests recent → IsIndexed entries requests' last
IsIndexed-before entries requests requests' recent last next without inv =
    let given = inv.given in
    record {
      listed = λ q k. without q k
          ∙ ap (λ b. if last == k then false else b) (inv.listed q k ∙ ap (λ r. nat_lt k r && is_reached_by q (kept_at entries k)) next)
          ∙ fewer_if (last == k) (λ j. is_reached_by q (kept_at entries j)) last k refl;
      given = omega (arith, given);
    }

-- the last entries are taken back, of which none stands there
taken_if : (below : Bool) (test : Option Kept → Bool) (entries : List (Option Kept)) (recent before k : ℕ) → nat_lt k recent ≡ below → recent ≤ before
    → (below && test (kept_at entries k)) ≡ (below && test (kept_at (take before entries) k))
taken_if true test entries recent before k is within = ap test (sym (get_or-take before entries k None (omega (arith, lt_from k recent is))))
taken_if false test entries recent before k is within = refl

pub IsIndexed-taken : (entries : List (Option Kept)) (requests : RequestsById) (recent before : ℕ) → recent ≤ before → before ≤ length entries
    → IsIndexed entries requests recent → IsIndexed (take before entries) requests recent
IsIndexed-taken entries requests recent before within given inv = record {
  listed = λ q k. inv.listed q k ∙ taken_if (nat_lt k recent) (is_reached_by q) entries recent before k refl within;
  given = omega (arith, length-take-le before entries given);
}
