-- A reply that is heard.
use Rattle.std.proofs.Common.{◌≡◌, ℕ, zero, suc, ◌+◌, ◌≤◌, ◌<◌, ◌==◌, List, [], ◌∷◌, ◌++◌, length, Some, None, is_some, Bool, true, false, not, ◌||◌, if◌then◌else◌, refl, ap, sym, ◌∙◌, arith, length-append}
use Rattle.std.proofs.lemmas.Bool.Decides.{nat_tests}
use Rattle.std.proofs.lemmas.List.{take-append-le}
use Rattle.std.specs.List.{filter, list_all, list_any, range_with_len}
use Rattle.rpc_messages.specs.declared.reply.Reply.{Reply}
use Rattle.handler_future.specs.declared.message.Message.{Message}
use Rattle.handler_future.specs.declared.phase.Phase.{Phase}
use Rattle.handler_future.specs.declared.phase.Phase.TheVariants.{UnderWay, Answered, Failed}
use Rattle.handler_future.specs.Inner.Course.{Seen}
use Rattle.handler_future.specs.Evaluation.{Program}
use Rattle.handler_future.specs.Front.{Heard, is_heard, turns_of, unheard, are_heard}
use Rattle.handler_future.specs.Inner.Standing.{IsParked, Stands}
use Rattle.handler_future.proofs.Heards.{find-append, find-stays, agrees-before, and-true, and-left, and-right}

-- the course with that reply
abbrev pub hearing : ℕ → Reply → Seen → Seen
hearing t r c = record c { waits = filter (λ u. not (u == t)) c.waits; heard = c.heard ++ (t, r) ∷ [] }

-- ---- turns

-- one that waits is among the calls
pub waiting-in : (heard : Heard) (a k t : ℕ) → list_any (λ u. u == t) (unheard heard (range_with_len a k)) ≡ true → (a ≤ t) × (t < a + k)
waiting-in heard a zero t h = cc
waiting-in heard a (suc k) t h = step (is_heard heard a) h (waiting-in heard (a + 1) k t)
  where
    same : (a == t) ≡ true → (a ≤ t) × (t < a + suc k)
    same e = let f : a ≡ t = grind (arith, nat_tests) in (omega arith, omega arith)

    later : (a + 1 ≤ t) × (t < a + 1 + k) → (a ≤ t) × (t < a + suc k)
    later l = let l0 = l.0 in let l1 = l.1 in (omega arith, omega arith)

    first : (y : Bool) → (a == t) ≡ y → (y || list_any (λ u. u == t) (unheard heard (range_with_len (a + 1) k))) ≡ true
        → (list_any (λ u. u == t) (unheard heard (range_with_len (a + 1) k)) ≡ true → (a + 1 ≤ t) × (t < a + 1 + k)) → (a ≤ t) × (t < a + suc k)
    first true e g rest = same e
    first false e g rest = later (rest g)

    step : (x : Bool) → list_any (λ u. u == t) (if not x then a ∷ unheard heard (range_with_len (a + 1) k) else unheard heard (range_with_len (a + 1) k)) ≡ true
        → (list_any (λ u. u == t) (unheard heard (range_with_len (a + 1) k)) ≡ true → (a + 1 ≤ t) × (t < a + 1 + k)) → (a ≤ t) × (t < a + suc k)
    step true g rest = later (rest g)
    step false g rest = first (a == t) refl g rest

-- what is heard with the reply
heard-with : (heard : Heard) (t u : ℕ) (r : Reply) → is_heard (heard ++ (t, r) ∷ []) u ≡ (is_heard heard u || (t == u))
heard-with heard t u r = both (is_heard heard u) refl
  where
    last : (y : Bool) → is_some (if y then Some r else None) ≡ y
    last true = refl
    last false = refl

    both : (x : Bool) → is_heard heard u ≡ x → is_heard (heard ++ (t, r) ∷ []) u ≡ (x || (t == u))
    both true e = ap is_some (find-stays heard ((t, r) ∷ []) u e) ∙ e
    both false e = ap is_some (find-append heard ((t, r) ∷ []) u e) ∙ last (t == u)

turned : (m n : ℕ) → (m == n) ≡ (n == m)
turned m n = grind (arith, nat_tests)

unheard-with : (heard : Heard) (t : ℕ) (r : Reply) (ts : List ℕ) → filter (λ u. not (u == t)) (unheard heard ts) ≡ unheard (heard ++ (t, r) ∷ []) ts
unheard-with heard t r [] = refl
unheard-with heard t r (u ∷ us) = rw (heard-with heard t u r) (step (is_heard heard u) (t == u) (turned u t) (unheard-with heard t r us))
  where
    inner : (z : Bool) → (u == t) ≡ z → filter (λ u. not (u == t)) (unheard heard us) ≡ unheard (heard ++ (t, r) ∷ []) us
        → (if not (u == t) then u ∷ filter (λ u. not (u == t)) (unheard heard us) else filter (λ u. not (u == t)) (unheard heard us))
        ≡ (if not z then u ∷ unheard (heard ++ (t, r) ∷ []) us else unheard (heard ++ (t, r) ∷ []) us)
    inner true e rest = rw e rest
    inner false e rest = rw e (ap (λ xs. u ∷ xs) rest)

    step : (x z : Bool) → (u == t) ≡ z → filter (λ u. not (u == t)) (unheard heard us) ≡ unheard (heard ++ (t, r) ∷ []) us
        → filter (λ u. not (u == t)) (if not x then u ∷ unheard heard us else unheard heard us) ≡ (if not (x || z) then u ∷ unheard (heard ++ (t, r) ∷ []) us else unheard (heard ++ (t, r) ∷ []) us)
    step true z e rest = rest
    step false z e rest = inner z e rest

all-with : (heard b : Heard) (ts : List ℕ) → list_all (is_heard heard) ts ≡ true → list_all (is_heard (heard ++ b)) ts ≡ true
all-with heard b [] h = refl
all-with heard b (t ∷ ts) h =
    let here : is_heard heard t ≡ true = and-left (is_heard heard t) (list_all (is_heard heard) ts) h in
    and-true (is_heard (heard ++ b) t) (list_all (is_heard (heard ++ b)) ts) (ap is_some (find-stays heard b t here) ∙ here) (all-with heard b ts (and-right (is_heard heard t) (list_all (is_heard heard) ts) h))

are_heard-with : (heard b : Heard) (ms : List Message) → are_heard heard ms ≡ true → are_heard (heard ++ b) ms ≡ true
are_heard-with heard b [] h = refl
are_heard-with heard b (m ∷ ms) h =
    and-true (list_all (is_heard (heard ++ b)) (turns_of m)) (are_heard (heard ++ b) ms) (all-with heard b (turns_of m) (and-left (list_all (is_heard heard) (turns_of m)) (are_heard heard ms) h))
    (are_heard-with heard b ms (and-right (list_all (is_heard heard) (turns_of m)) (are_heard heard ms) h))

filter-few : (t : ℕ) (xs : List ℕ) → length (filter (λ u. not (u == t)) xs) ≤ length xs
filter-few t [] = omega arith
filter-few t (x ∷ xs) = step (x == t) (filter-few t xs)
  where
    step : (b : Bool) → length (filter (λ u. not (u == t)) xs) ≤ length xs
        → length (if not b then x ∷ filter (λ u. not (u == t)) xs else filter (λ u. not (u == t)) xs) ≤ length (x ∷ xs)
    step true l = omega arith
    step false l = omega arith

-- one that waits leaves fewer
pub fewer-wait : (ws : List ℕ) (t : ℕ) → list_any (λ u. u == t) ws ≡ true → length (filter (λ u. not (u == t)) ws) + 1 ≤ length ws
fewer-wait [] t h = cc
fewer-wait (w ∷ ws) t h = step (w == t) h (fewer-wait ws t) (filter-few t ws)
  where
    step : (x : Bool) → (x || list_any (λ u. u == t) ws) ≡ true → (list_any (λ u. u == t) ws ≡ true → length (filter (λ u. not (u == t)) ws) + 1 ≤ length ws) → length (filter (λ u. not (u == t)) ws) ≤ length ws
        → length (if not x then w ∷ filter (λ u. not (u == t)) ws else filter (λ u. not (u == t)) ws) + 1 ≤ length (w ∷ ws)
    step true g rest all = omega arith
    step false g rest all = let l = rest g in omega arith

pub none-wait : (ws : List ℕ) (t : ℕ) → list_any (λ u. u == t) ws ≡ true → ws ≡ [] → ⊥
none-wait [] t h e = cc
none-wait (w ∷ ws) t h e = cc

-- ---- courses

pub parked-hears : (p : Program) (c : Seen) (t : ℕ) (r : Reply) → IsParked p c → list_any (λ u. u == t) c.waits ≡ true → IsParked p (hearing t r c)
parked-hears p c t r h waits =
    let inside = waiting-in c.heard c.turn c.asked t (ap (list_any (λ u. u == t)) (sym h.waits) ∙ waits) in
    record {
      done = h.done;
      last = h.last;
      step = h.step;
      made = h.made;
      here = h.here;
      asks = h.asks;
      law = λ R agrees. h.law R (agrees-before c.heard ((t, r) ∷ []) R agrees);
      heard = are_heard-with c.heard ((t, r) ∷ []) h.done h.heard;
      none_ahead = λ u l. (let l0 = inside.0 in let l1 = inside.1 in let e : (t == u) ≡ false = grind (arith, nat_tests) in heard-with c.heard t u r ∙ rw (h.none_ahead u l, e) refl);
      none_before = λ u l. ap (λ x. is_heard x u) (take-append-le c.heard_before c.heard ((t, r) ∷ []) h.few) ∙ h.none_before u l;
      few = (let f = h.few in omega (arith, length-append c.heard ((t, r) ∷ [])));
      waits = ap (filter (λ u. not (u == t))) h.waits ∙ unheard-with c.heard t r (range_with_len c.turn c.asked);
      some = h.some;
      from_one = h.from_one;
      turns = h.turns;
    }

pub stands-hears : (p : Program) (phase : Phase) (c : Seen) (t : ℕ) (r : Reply) → Stands p phase c → list_any (λ u. u == t) c.waits ≡ true → Stands p phase (hearing t r c)
stands-hears p UnderWay c t r h waits = record {
  before = λ e. absurd (none-wait c.waits t waits ((h.before e).no_waits));
  parked = λ some. parked-hears p c t r (h.parked some) waits;
}
stands-hears p Answered c t r h waits = absurd (none-wait c.waits t waits h.no_waits)
stands-hears p Failed c t r h waits = absurd (none-wait c.waits t waits h.no_waits)
