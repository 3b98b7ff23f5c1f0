-- A number that no cancel reaches stays so.
use Rattle.std.proofs.Common.{◌≡◌, ℕ, suc, zero, ◌<◌, List, [], ◌∷◌, ◌++◌, length, set, refl, sym, ◌∙◌, arith, true≢false, Option, Some, None, IfSome, IfNone}
use Rattle.message_ids.specs.declared.id.Id.{Id}
use Rattle.rpc_messages.specs.declared.reply.Reply.{Reply}
use Rattle.open_numbers.specs.declared.kept.Kept.{Kept}
use Rattle.open_numbers.specs.declared.kept.Kept.TheVariants.{Open, Answered}
use Rattle.open_numbers.specs.declared.open_call.OpenCall.{OpenCall}
use Rattle.open_numbers.specs.Kept.{kept_at, with_change, with_reach, with_answer, kept_answer, without_answer}
use Rattle.open_numbers.specs.Numbers.{with_marks_below, IsLowestReached}
use Rattle.open_numbers.specs.Requests.{IsOutOfReach}
use Rattle.open_numbers.proofs.Marks.{unreached-left}

pub IsOutOfReach-over : IsOutOfReach None
IsOutOfReach-over = record { unmarked = refl; unreached = λ id. refl }

-- the first of all entries, once one entry gave way to another that is out of reach where the old one was
pub opening-set : (entries : List (Option Kept)) (n : ℕ) (entry : Option Kept) → (IsOutOfReach (kept_at entries n) → IsOutOfReach entry)
    → IsOutOfReach (kept_at entries 0) → IsOutOfReach (kept_at (set entries n entry) 0)
opening-set [] n entry keeps out = out
opening-set (e ∷ es) zero entry keeps out = keeps out
opening-set (e ∷ es) (suc n) entry keeps out = out

pub IsOutOfReach-changed : (change : OpenCall → OpenCall) → ((n : OpenCall) → (change n).id ≡ n.id) → ((n : OpenCall) → (change n).is_marked ≡ n.is_marked) → (entry : Option Kept)
    → IsOutOfReach entry → IsOutOfReach (with_change change entry)
IsOutOfReach-changed change ids marks (Some (Open n)) out = record {
  unmarked = rw (marks n) out.unmarked;
  unreached = λ id. rw (ids n, marks n) (out.unreached id);
}
IsOutOfReach-changed change ids marks (Some (Answered id reply)) out = out
IsOutOfReach-changed change ids marks None out = out

kept_out : (reply : Reply) (id : Option Id) → IsOutOfReach (kept_answer reply id)
kept_out reply None = IsOutOfReach-over
kept_out reply (Some id) = record { unmarked = refl; unreached = λ q. refl }

pub IsOutOfReach-answered : (reply : Reply) (entry : Option Kept) → IsOutOfReach entry → IsOutOfReach (with_answer reply entry)
IsOutOfReach-answered reply (Some (Open n)) out = kept_out reply n.id
IsOutOfReach-answered reply (Some (Answered id old)) out = out
IsOutOfReach-answered reply None out = out

pub IsOutOfReach-forgotten : (entry : Option Kept) → IsOutOfReach entry → IsOutOfReach (without_answer entry)
IsOutOfReach-forgotten (Some (Open n)) out = out
IsOutOfReach-forgotten (Some (Answered id reply)) out = IsOutOfReach-over
IsOutOfReach-forgotten None out = out

pub opening-append : (entries new : List (Option Kept)) → 0 < length entries → IsOutOfReach (kept_at entries 0) → IsOutOfReach (kept_at (entries ++ new) 0)
opening-append [] new some out = absurd (omega arith)
opening-append (e ∷ es) new some out = out

-- a cancel leaves it

pub opening-left : (id : Id) (before : ℕ) (entries : List (Option Kept)) → IsOutOfReach (kept_at entries 0) → kept_at (with_marks_below id before entries) 0 ≡ kept_at entries 0
opening-left id zero entries out = refl
opening-left id (suc before) [] out = refl
opening-left id (suc before) (e ∷ es) out = unreached-left e id (out.unreached id)

-- and no step of one reaches it

pub opening-above : (entries : List (Option Kept)) (id : Id) (before : ℕ) (result : Option ℕ) → IsLowestReached id before entries result → IsOutOfReach (kept_at entries 0)
    → IfSome result (λ n. 0 < n)
opening-above entries id before None lowest out = tt
opening-above entries id before (Some zero) lowest out = absurd (true≢false (sym lowest.1 ∙ out.unreached id))
opening-above entries id before (Some (suc n)) lowest out = omega arith

pub opening-reached : (was now : List (Option Kept)) (id : Id) (before : ℕ) (result : Option ℕ) → IsLowestReached id before was result
    → IfNone result (now ≡ was) → IfSome result (λ n. now ≡ set was n (with_reach (kept_at was n))) → IsOutOfReach (kept_at was 0) → IsOutOfReach (kept_at now 0)
opening-reached was now id before None lowest none some out = rw none out
opening-reached was now id before (Some n) lowest none some out =
    rw some (opening-set was n (with_reach (kept_at was n)) (λ here. absurd (true≢false (sym lowest.1 ∙ here.unreached id))) out)
