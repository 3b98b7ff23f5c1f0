-- When an answer goes out.
use Rattle.std.proofs.Common.{◌≡◌, ◌≢◌, ℕ, zero, suc, ◌<◌, ◌≤◌, List, [], ◌∷◌, map, Some, None, refl, ap, ◌∙◌, arith}
use Rattle.std.specs.Prelude.{slice_get}
use Rattle.std.specs.Option.{option_to_list}
use Rattle.connection_history.specs.declared.order.Order.TheVariants.{AsAnswered, AsCame}
use Rattle.connection_history.specs.Answers.{Due, open_yet, nothing, text, dues}
use Rattle.connection_history.specs.History.{History}
use Rattle.connection_history.specs.Items.{text_if_due, out, items_of}
use Rattle.connection_history.specs.Written.{answers_of}
use Rattle.connection_history.proofs.Outs.{out_at, out_at-none, each_answer}

answered_at : (ds : List Due) (place : ℕ) (t : List ℕ) → slice_get ds place ≡ Some (text t) → out_at (map text_if_due ds) place ≡ Some t
answered_at [] place t is = absurd (cc)
answered_at (d ∷ ds) zero t is = let due : d ≡ text t = cc in ap text_if_due due
answered_at (d ∷ ds) (suc place) t is = answered_at ds place t is

-- as answered, once the unit's requests are answered
pub prompt_answered : (history : History) (place : ℕ) (t : List ℕ) → slice_get (dues history) place ≡ Some (text t) → answers_of place (items_of AsAnswered history) ≡ t ∷ []
prompt_answered history place t is = each_answer AsAnswered history place ∙ ap option_to_list (answered_at (dues history) place t is)

came_at : (ds : List Due) (place : ℕ) (t : List ℕ) → ((k : ℕ) → k < place → slice_get ds k ≢ Some open_yet) → slice_get ds place ≡ Some (text t) → out_at (out AsCame ds) place ≡ Some t
came_at [] place t settled is = absurd (cc)
came_at (open_yet ∷ ds) zero t settled is = absurd (cc)
came_at (open_yet ∷ ds) (suc place) t settled is = absurd (settled 0 (omega arith) refl)
came_at (nothing ∷ ds) zero t settled is = absurd (cc)
came_at (nothing ∷ ds) (suc place) t settled is = came_at ds place t (λ k before. settled (suc k) (omega arith)) is
came_at (text s ∷ ds) zero t settled is = let due : text s ≡ text t = cc in ap text_if_due due
came_at (text s ∷ ds) (suc place) t settled is = came_at ds place t (λ k before. settled (suc k) (omega arith)) is

-- as they came, once no unit before it is open either
pub prompt_came : (history : History) (place : ℕ) (t : List ℕ) → slice_get (dues history) place ≡ Some (text t)
    → ((k : ℕ) → k < place → slice_get (dues history) k ≢ Some open_yet) → answers_of place (items_of AsCame history) ≡ t ∷ []
prompt_came history place t is settled = each_answer AsCame history place ∙ ap option_to_list (came_at (dues history) place t settled is)

held_at : (ds : List Due) (k place : ℕ) → k ≤ place → slice_get ds k ≡ Some open_yet → out_at (out AsCame ds) place ≡ None
held_at [] k place before is = absurd (cc)
held_at (open_yet ∷ ds) k zero before is = refl
held_at (open_yet ∷ ds) k (suc place) before is = out_at-none ds place
held_at (nothing ∷ ds) zero place before is = absurd (cc)
held_at (nothing ∷ ds) (suc k) zero before is = absurd (omega arith)
held_at (nothing ∷ ds) (suc k) (suc place) before is = held_at ds k place (omega arith) is
held_at (text s ∷ ds) zero place before is = absurd (cc)
held_at (text s ∷ ds) (suc k) zero before is = absurd (omega arith)
held_at (text s ∷ ds) (suc k) (suc place) before is = held_at ds k place (omega arith) is

-- and not before
pub held_back : (history : History) (place earlier : ℕ) → earlier ≤ place → slice_get (dues history) earlier ≡ Some open_yet → answers_of place (items_of AsCame history) ≡ []
held_back history place earlier before is = each_answer AsCame history place ∙ ap option_to_list (held_at (dues history) earlier place before is)
