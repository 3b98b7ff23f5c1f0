-- How many calls are open, and how many of ours wait.
use Rattle.std.proofs.Common.{◌≡◌, ℕ, suc, List, [], ◌∷◌, ◌++◌, length, Bool, true, false, cond, refl, sym, ap, ◌∙◌}
use Rattle.std.proofs.lemmas.List.{length-map}
use Rattle.std.specs.Prelude.{filter}
use Rattle.connection_history.specs.Stream.{is_cancelled}
use Rattle.connection_history.specs.History.{History, units_of, stream, is_open, waiting}
use Rattle.connection_history.specs.Counts.{open_count}
use Rattle.open_calls.specs.declared.their_call.TheirCall.{TheirCall}
use Rattle.connection_steps.specs.States.{own_call, own_of, theirs_of}
use Rattle.connection_steps.proofs.TheirSites.{sites_of, seen_as, all_seen, theirs-seen, numbers_in, all-numbers}

one-seen : (opened hit : Bool) (s : ℕ × TheirCall) (rest : List (ℕ × TheirCall)) (ns : List ℕ) → length ns ≡ length rest
    → length (cond opened (s.0 ∷ ns) ns) ≡ length (seen_as opened hit s ++ rest)
one-seen true hit s rest ns there = ap suc there
one-seen false hit s rest ns there = there

open-seen : (h : History) (ss : List (ℕ × TheirCall)) → length (filter (λ n. is_open n h) (numbers_in ss)) ≡ length (all_seen h ss)
open-seen h [] = refl
open-seen h (s ∷ ss) =
    one-seen (is_open s.0 h) (is_cancelled s.0 (stream h)) s (all_seen h ss) (filter (λ n. is_open n h) (numbers_in ss)) (open-seen h ss)

-- the calls that are open are as many as stand in the list
pub open-counted : (h : History) → open_count h ≡ length (theirs_of h).calls
open-counted h =
    sym (ap (λ ns. length (filter (λ n. is_open n h) ns)) (all-numbers h)) ∙ open-seen h (sites_of h) ∙ ap length (sym (theirs-seen h 0 1 (units_of h)))

pub waiting-counted : (h : History) → length (waiting h) ≡ length (own_of h).waiting
waiting-counted h = sym (length-map (waiting h) (λ k. (k, own_call k h)))
