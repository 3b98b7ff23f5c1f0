-- What was heard, and the turns of messages.
use Rattle.std.proofs.Common.{◌≡◌, ℕ, zero, suc, ◌+◌, ◌≤◌, ◌<◌, ◌==◌, List, [], ◌∷◌, ◌++◌, length, take, drop, Some, is_some, unwrap_or, Bool, true, false, not, ◌&&◌, if◌then◌else◌, refl, ap, sym, ◌∙◌, arith, ◌⊎◌, inl, inr}
use Rattle.std.proofs.lemmas.Bool.{cases_lt}
use Rattle.std.proofs.lemmas.List.{take-append-drop}
use Rattle.std.specs.List.{list_all, range_with_len}
use Rattle.rpc_messages.specs.declared.reply.Reply.TheVariants.{Standard as Fixed}
use Rattle.message_ids.specs.declared.standard.Standard.TheVariants.{NoReply}
use Rattle.handler_future.specs.declared.message.Message.{Message}
use Rattle.handler_future.specs.Evaluation.{Replies, replies_from}
use Rattle.handler_future.specs.Front.{Heard, find_heard, is_heard, heard_replies, AgreesWith, turns_of, until_waiting, unheard, are_heard, last_turns}

-- ---- tests

pub and-true : (a b : Bool) → a ≡ true → b ≡ true → (a && b) ≡ true
and-true a b h k = rw (h, k) refl

pub and-left : (a b : Bool) → (a && b) ≡ true → a ≡ true
and-left true b h = refl
and-left false b h = cc

pub and-right : (a b : Bool) → (a && b) ≡ true → b ≡ true
and-right true b h = h
and-right false b h = cc

-- ---- what was heard

pub find-append : (a b : Heard) (t : ℕ) → is_heard a t ≡ false → find_heard (a ++ b) t ≡ find_heard b t
find-append [] b t h = refl
find-append (e ∷ a) b t h = step (e.0 == t) (find-append a b t) h
  where
    step : (x : Bool) → (is_heard a t ≡ false → find_heard (a ++ b) t ≡ find_heard b t) → is_some (if x then Some e.1 else find_heard a t) ≡ false
        → (if x then Some e.1 else find_heard (a ++ b) t) ≡ find_heard b t
    step true rest h = cc
    step false rest h = rest h

-- a reply that was heard stays
pub find-stays : (a b : Heard) (t : ℕ) → is_heard a t ≡ true → find_heard (a ++ b) t ≡ find_heard a t
find-stays [] b t h = cc
find-stays (e ∷ a) b t h = step (e.0 == t) (find-stays a b t) h
  where
    step : (x : Bool) → (is_heard a t ≡ true → find_heard (a ++ b) t ≡ find_heard a t) → is_some (if x then Some e.1 else find_heard a t) ≡ true → (if x then Some e.1 else find_heard (a ++ b) t) ≡ (if x then Some e.1 else find_heard a t)
    step true rest h = refl
    step false rest h = rest h

pub agrees-before : (a b : Heard) (R : Replies) → AgreesWith (a ++ b) R → AgreesWith a R
agrees-before a b R agrees = record {
  same = λ t h. let e : find_heard (a ++ b) t ≡ find_heard a t = find-stays a b t h in
      agrees.same t (ap is_some e ∙ h) ∙ ap (λ o. unwrap_or o (Fixed NoReply)) e;
}

-- the replies since a place, where none of these turns was heard before it
pub late-replies : (heard : Heard) (n t : ℕ) → is_heard (take n heard) t ≡ false → heard_replies (drop n heard) t ≡ heard_replies heard t
late-replies heard n t h = ap (λ o. unwrap_or o (Fixed NoReply)) (sym (find-append (take n heard) (drop n heard) t h) ∙ ap (λ x. find_heard x t) (take-append-drop n heard))

-- ---- rows of turns

-- where none of them was heard, all of them are unheard
pub unheard-all : (heard : Heard) (t k : ℕ) → ((u : ℕ) → t ≤ u → is_heard heard u ≡ false) → unheard heard (range_with_len t k) ≡ range_with_len t k
unheard-all heard t zero h = refl
unheard-all heard t (suc k) h = rw (h t (omega arith)) (ap (λ xs. t ∷ xs) (unheard-all heard (t + 1) k (λ u l. h u (omega arith))))

-- where none of them is unheard, each was heard
pub all-heard : (heard : Heard) (ts : List ℕ) → unheard heard ts ≡ [] → list_all (is_heard heard) ts ≡ true
all-heard heard [] h = refl
all-heard heard (t ∷ ts) h = step (is_heard heard t) (all-heard heard ts) h
  where
    step : (x : Bool) → (unheard heard ts ≡ [] → list_all (is_heard heard) ts ≡ true) → (if not x then t ∷ unheard heard ts else unheard heard ts) ≡ []
        → (x && list_all (is_heard heard) ts) ≡ true
    step true rest h = rest h
    step false rest h = cc

-- where one is unheard, not each was heard
pub not-all-heard : (heard : Heard) (ts : List ℕ) → 0 < length (unheard heard ts) → list_all (is_heard heard) ts ≡ false
not-all-heard heard [] h = absurd (omega arith)
not-all-heard heard (t ∷ ts) h = step (is_heard heard t) (not-all-heard heard ts) h
  where
    step : (x : Bool) → (0 < length (unheard heard ts) → list_all (is_heard heard) ts ≡ false) → 0 < length (if not x then t ∷ unheard heard ts else unheard heard ts)
        → (x && list_all (is_heard heard) ts) ≡ false
    step true rest h = rest h
    step false rest h = refl

pub known-in-row : (known : ℕ → Bool) (t k u : ℕ) → list_all known (range_with_len t k) ≡ true → t ≤ u → u < t + k → known u ≡ true
known-in-row known t zero u h l m = absurd (omega arith)
known-in-row known t (suc k) u h l m = first_or (λ l' m'. known-in-row known (t + 1) k u (and-right (known t) (list_all known (range_with_len (t + 1) k)) h) l' m') (cases_lt t u)
  where
    first_or : (t + 1 ≤ u → u < t + 1 + k → known u ≡ true) → (t < u) ⊎ (u ≤ t) → known u ≡ true
    first_or rest (inl l') = rest (omega arith) (omega arith)
    first_or rest (inr g) = let e : u ≡ t = omega arith in rw e (and-left (known t) (list_all known (range_with_len (t + 1) k)) h)

-- maps that agree on a row of turns
pub replies-same : (R S : Replies) (t k : ℕ) → ((u : ℕ) → t ≤ u → u < t + k → R u ≡ S u) → replies_from R t k ≡ replies_from S t k
replies-same R S t zero h = refl
replies-same R S t (suc k) h = λ i. h t (omega arith) (omega arith) i ∷ replies-same R S (t + 1) k (λ u l m. h u (omega arith) (omega arith)) i

-- ---- messages

pub are_heard-append : (heard : Heard) (ms : List Message) (m : Message) → are_heard heard ms ≡ true → list_all (is_heard heard) (turns_of m) ≡ true → are_heard heard (ms ++ m ∷ []) ≡ true
are_heard-append heard [] m h k = rw k refl
are_heard-append heard (n ∷ ms) m h k =
    and-true (list_all (is_heard heard) (turns_of n)) (are_heard heard (ms ++ m ∷ [])) (and-left (list_all (is_heard heard) (turns_of n)) (are_heard heard ms) h)
    (are_heard-append heard ms m (and-right (list_all (is_heard heard) (turns_of n)) (are_heard heard ms) h) k)

-- the front ends with the first message that isn't heard
pub until_waiting-last : (known : ℕ → Bool) (done : List Message) (last : Message) (rest : List Message) → list_all (λ m. list_all known (turns_of m)) done ≡ true → list_all known (turns_of last) ≡ false
    → until_waiting known (done ++ last ∷ rest) ≡ done ++ last ∷ []
until_waiting-last known [] last rest h k = rw k refl
until_waiting-last known (m ∷ done) last rest h k =
    rw (and-left (list_all known (turns_of m)) (list_all (λ m. list_all known (turns_of m)) done) h)
    (ap (λ ms. m ∷ ms) (until_waiting-last known done last rest (and-right (list_all known (turns_of m)) (list_all (λ m. list_all known (turns_of m)) done) h) k))

pub last_turns-append : (done : List Message) (last : Message) → last_turns (done ++ last ∷ []) ≡ turns_of last
last_turns-append [] last = refl
last_turns-append (m ∷ []) last = refl
last_turns-append (m ∷ n ∷ done) last = last_turns-append (n ∷ done) last
