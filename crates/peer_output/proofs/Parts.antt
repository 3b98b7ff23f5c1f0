-- The parts of items one after another.
use Rattle.std.proofs.Common.{◌≡◌, ℕ, ◌==◌, List, [], ◌∷◌, ◌++◌, Bool, true, false, cond, refl, ap, ◌∙◌, append-nil}
use Rattle.std.specs.Cmp.{unsigned_Decides}
use Rattle.rpc_messages.specs.Dues.{Due}
use Rattle.peer_output.specs.Course.{Sending}
use Rattle.peer_output.specs.Items.{Item, sent, answered, sent_by, answers_in}

pushed_if : (b : Bool) (s : Sending) (xs ys : List Sending) → cond b (s ∷ (xs ++ ys)) (xs ++ ys) ≡ cond b (s ∷ xs) xs ++ ys
pushed_if true s xs ys = refl
pushed_if false s xs ys = refl

pub sent_by-append : (n : ℕ) (xs ys : List Item) → sent_by n (xs ++ ys) ≡ sent_by n xs ++ sent_by n ys
sent_by-append n [] ys = refl
sent_by-append n (sent m s ∷ xs) ys = ap (λ l. cond (m == n) (s ∷ l) l) (sent_by-append n xs ys) ∙ pushed_if (m == n) s (sent_by n xs) (sent_by n ys)
sent_by-append n (answered due ∷ xs) ys = sent_by-append n xs ys

pub answers_in-append : (xs ys : List Item) → answers_in (xs ++ ys) ≡ answers_in xs ++ answers_in ys
answers_in-append [] ys = refl
answers_in-append (sent m s ∷ xs) ys = answers_in-append xs ys
answers_in-append (answered due ∷ xs) ys = ap (λ l. due ∷ l) (answers_in-append xs ys)

-- ---- one more item

here_if : (b : Bool) (s : Sending) → b ≡ true → cond b (s ∷ []) [] ≡ s ∷ []
here_if true s h = refl
here_if false s h = cc

pub sent_by-push : (n : ℕ) (xs : List Item) (s : Sending) → sent_by n (xs ++ sent n s ∷ []) ≡ sent_by n xs ++ s ∷ []
sent_by-push n xs s = sent_by-append n xs (sent n s ∷ []) ∙ ap (λ l. sent_by n xs ++ l) (here_if (n == n) s ((unsigned_Decides n n).1 refl))

other_if : (b : Bool) (s : Sending) → b ≡ false → cond b (s ∷ []) [] ≡ []
other_if true s h = cc
other_if false s h = refl

pub sent_by-push_other : (n m : ℕ) (xs : List Item) (s : Sending) → (m == n) ≡ false → sent_by n (xs ++ sent m s ∷ []) ≡ sent_by n xs
sent_by-push_other n m xs s other =
    sent_by-append n xs (sent m s ∷ []) ∙ ap (λ l. sent_by n xs ++ l) (other_if (m == n) s other) ∙ append-nil (sent_by n xs)

pub sent_by-push_answer : (n : ℕ) (xs : List Item) (due : Due) → sent_by n (xs ++ answered due ∷ []) ≡ sent_by n xs
sent_by-push_answer n xs due = sent_by-append n xs (answered due ∷ []) ∙ append-nil (sent_by n xs)

pub answers_in-push_sent : (n : ℕ) (xs : List Item) (s : Sending) → answers_in (xs ++ sent n s ∷ []) ≡ answers_in xs
answers_in-push_sent n xs s = answers_in-append xs (sent n s ∷ []) ∙ append-nil (answers_in xs)

pub answers_in-push : (xs : List Item) (due : Due) → answers_in (xs ++ answered due ∷ []) ≡ answers_in xs ++ due ∷ []
answers_in-push xs due = answers_in-append xs (answered due ∷ [])
