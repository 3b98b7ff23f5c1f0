-- One more entry of a unit is passed.
use Rattle.std.proofs.Common.{◌≡◌, ◌≤◌, ℕ, ◌+◌, List, [], ◌∷◌, ◌++◌, map, sym, subst, arith}
use Rattle.std.proofs.lemmas.List.{map_push}
use Rattle.rpc_messages.specs.Entry.{SeenEntry}
use Rattle.rpc_messages.specs.Numbering.{numbers_in, numbers_of}
use Rattle.peer_events.specs.Core.{Core}
use Rattle.peer_events.specs.Taking.{PassesEntry, PassesEntries}
use Rattle.peer_events.specs.Taking.PassesEntries.{none_left, next}

-- a front and one more entry take no more numbers than all
pub numbers_in-among : {X : Type 0} (f : X → SeenEntry) (ys : List X) (x : X) (more : List X) →
    numbers_in (map f ys) + numbers_of (f x) ≤ numbers_in (map f (ys ++ x ∷ more))
numbers_in-among f [] x more = omega arith
numbers_in-among f (y ∷ ys) x more = omega (arith, numbers_in-among f ys x more)

passes-end : {s mid : Core} {n : ℕ} {es : List SeenEntry} → PassesEntries s n es mid → (e : SeenEntry) (after : Core) →
    PassesEntry mid (n + numbers_in es) e after → PassesEntries s n (es ++ e ∷ []) after
passes-end (none_left {s} {n}) e after p = next (subst (λ m. PassesEntry s m e after) (omega arith) p) none_left
passes-end (next {after = mid} {n = n} {e = x} {es = es} q qs) e after p =
    next q (passes-end qs e after (subst (λ m. PassesEntry mid m e after) (omega arith) p))

pub passes-push : {X : Type 0} (f : X → SeenEntry) (s mid after : Core) (n m : ℕ) (xs : List X) (x : X) → m ≡ n + numbers_in (map f xs) →
    PassesEntries s n (map f xs) mid → PassesEntry mid m (f x) after → PassesEntries s n (map f (xs ++ x ∷ [])) after
passes-push f s mid after n m xs x is before p =
    subst (λ es. PassesEntries s n es after) (sym (map_push f xs x))
    (passes-end before (f x) after (subst (λ k. PassesEntry mid k (f x) after) is p))
