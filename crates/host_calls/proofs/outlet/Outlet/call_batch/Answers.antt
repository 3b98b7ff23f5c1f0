-- The lengths fit, and the calls are those that they cut.
use Rattle.std.proofs.Common.{◌≡◌, ℕ, List, true, Ok, Err, sym, ◌∙◌, inr}
use Rattle.host_calls.specs.declared.outlet.Outlet.{Outlet}
use Rattle.host_calls.specs.Batches.{fit, parts}
use Rattle.host_calls.specs.Codes.{Said}
use Rattle.host_calls.specs.Saying.{HasCalledAll, HasCalledParts}
use Rattle.host_calls.proofs.outlet.Outlet.call_batch.Goals as goal

cut : (a b : Outlet) (n : ℕ) (bytes lengths : List ℕ) (k key : ℕ) (said : Said) → fit bytes lengths ≡ true
    → HasCalledParts a b n (parts bytes lengths) k key said → HasCalledAll a b n bytes lengths k key said
cut a b n bytes lengths k key (Ok u) e h = (h.0, e, h.1, h.2)
cut a b n bytes lengths k key (Err why) e h = (h.0, h.1, inr (e, h.2))

pub returns : goal.returns
returns c = cut c.args.self.now c.call_parts.new.self c.args.number c.args.bytes.now c.args.lengths.now c.args.first.now c.call_parts.new.first c.call_parts.result
    (sym c.lengths_fit.ensures ∙ c.if-not-lengths_fit.false) c.call_parts.ensures
