-- The texts of rows of calls and answers, at their places.
use Rattle.std.proofs.Common.{◌≡◌, ℕ, zero, suc, ◌+◌, ◌<◌, List, [], ◌∷◌, length, get_or, map, refl, sym, ap, ◌∙◌, arith, Vec, Global}
use Rattle.serde_json.specs.Written.{compact_text}
use Rattle.rpc_messages.specs.Dues.{answer_seen, text_of}
use Rattle.rpc_messages.specs.Parts.{AreReadBack, AllAreReadBack}
use Rattle.rpc_messages.specs.Texts.{call_text_of, calls_of}
use Rattle.rpc_messages.specs.declared.outgoing.Outgoing.{Outgoing}
use Rattle.rpc_messages.specs.declared.unit_answer.Answer.{Answer}

-- ---- any row

pub length_map : {X Y : Type 0} (f : X → Y) (xs : List X) → length (map f xs) ≡ length xs
length_map f [] = refl
length_map f (x ∷ xs) = ap suc (length_map f xs)

pub map_at : {X Y : Type 0} (f : X → Y) (i : ℕ) (xs : List X) (x : X) (other : Y) → i < length xs → x ≡ get_or xs i x → get_or (map f xs) i other ≡ f x
map_at f i [] x other h is = absurd (let low : i < 0 = h in omega (arith, low))
map_at f zero (y ∷ xs) x other h is = ap f (sym is)
map_at f (suc i) (y ∷ xs) x other h is = map_at f i xs x other (let low : suc i < suc (length xs) = h in omega (arith, low)) is

-- what stands at a place is one
pub one_at : {X : Type 0} (i : ℕ) (xs : List X) (x y : X) → i < length xs → x ≡ get_or xs i x → y ≡ get_or xs i y → x ≡ y
one_at i [] x y h is same = absurd (let low : i < 0 = h in omega (arith, low))
one_at zero (z ∷ xs) x y h is same = is ∙ sym same
one_at (suc i) (z ∷ xs) x y h is same = one_at i xs x y (let low : suc i < suc (length xs) = h in omega (arith, low)) is same

-- ---- calls

pub length_calls : (n t : ℕ) (os : List Outgoing) → length (map compact_text (calls_of n t os)) ≡ length os
length_calls n t [] = refl
length_calls n t (o ∷ os) = ap suc (length_calls n (t + 1) os)

pub call_at : (n t i : ℕ) (os : List Outgoing) (o : Outgoing) → i < length os → o ≡ get_or os i o → get_or (map compact_text (calls_of n t os)) i [] ≡ call_text_of n (t + i) o
call_at n t i [] o h is = absurd (let low : i < 0 = h in omega (arith, low))
call_at n t zero (p ∷ os) o h is = ap (λ k. call_text_of n k p) (let e : t ≡ t + 0 = omega arith in e) ∙ ap (call_text_of n (t + 0)) (sym is)
call_at n t (suc i) (p ∷ os) o h is =
    call_at n (t + 1) i os o (let low : suc i < suc (length os) = h in omega (arith, low)) is ∙ ap (λ k. call_text_of n k o) (let e : t + 1 + i ≡ t + suc i = omega arith in e)

pub all_read_back : (n t : ℕ) (os : List Outgoing) → ((i : ℕ) → i < length (map compact_text (calls_of n t os)) → (o : Outgoing) → o ≡ get_or os i o → AreReadBack o.params) → AllAreReadBack os
all_read_back n t [] known = tt
all_read_back n t (o ∷ os) known = (
  known 0 (let low : 0 < suc (length (map compact_text (calls_of n (t + 1) os))) = omega arith in low) o refl,
  all_read_back n (t + 1) os (λ i h p is. known (suc i) (let low : suc i < suc (length (map compact_text (calls_of n (t + 1) os))) = omega (arith, h) in low) p is),
)

-- ---- answers

pub length_answers : (answers : List Answer) → length (map text_of (map answer_seen answers)) ≡ length answers
length_answers answers = length_map text_of (map answer_seen answers) ∙ length_map answer_seen answers

pub answer_at : (i : ℕ) (answers : List Answer) (a : Answer) → i < length answers → a ≡ get_or answers i a → get_or (map text_of (map answer_seen answers)) i [] ≡ text_of (answer_seen a)
answer_at i [] a h is = absurd (let low : i < 0 = h in omega (arith, low))
answer_at zero (b ∷ answers) a h is = ap (λ c. text_of (answer_seen c)) (sym is)
answer_at (suc i) (b ∷ answers) a h is = answer_at i answers a (let low : suc i < suc (length answers) = h in omega (arith, low)) is

-- ---- texts

pub length_texts : (texts : List (Vec ℕ Global)) → length (map (λ t. t.items) texts) ≡ length texts
length_texts texts = length_map (λ t. t.items) texts
