-- The ids that ascend, after each change.
use Rattle.std.proofs.Common.{◌≡◌, ℕ, ◌==◌, ◌&&◌, Bool, true, false, cond, if◌then◌else◌, List, [], ◌∷◌, ◌++◌, Option, Some, None, refl, sym, ap, ◌∙◌}
use Rattle.std.proofs.lemmas.Bool.{eqb-true}
use Rattle.message_ids.specs.declared.id.Id.{Id}
use Rattle.message_ids.specs.declared.id.Id.TheVariants.{Null, Text, Signed, Unsigned}
use Rattle.message_ids.specs.Ids.{same_id}
use Rattle.number_windows.specs.Numbered.{at, without, Below}
use Rattle.number_windows.proofs.Numbered.{at_below}
use Rattle.number_windows.proofs.Rows.{at_come, at_gone}
use Rattle.open_calls.specs.Inner.{points, is_ascending}

come_there : (hit was : Bool) → was ≡ false → hit ≡ (if hit then true else was)
come_there true was none = refl
come_there false was none = sym none

come_step : (b : Bool) (number k : ℕ) (o : Option ℕ) → (b ≡ true → o ≡ None) → points (cond b (Some number) o) k ≡ (if b && (number == k) then true else points o k)
come_step true number k o none = come_there (number == k) (points o k) (ap (λ p. points p k) (none refl))
come_step false number k o none = refl

-- an id above all others comes
pub id_comes : (ids now : List (ℕ × ℕ)) (id number : ℕ) → now ≡ ids ++ (id, number) ∷ [] → Below id ids
    → (q : Id) (k : ℕ) → is_ascending now q k ≡ (if same_id (Unsigned id) q && (number == k) then true else is_ascending ids q k)
id_comes ids now id number is under Null k = refl
id_comes ids now id number is under (Text t) k = refl
id_comes ids now id number is under (Signed z) k = refl
id_comes ids now id number is under (Unsigned q) k =
    ap (λ o. points o k) (at_come id number ids now is (at_below id ids under) q)
    ∙ come_step (id == q) number k (at q ids) (λ here. ap (λ n. at n ids) (sym (eqb-true id q here)) ∙ at_below id ids under)

gone_there : (hit was : Bool) → was ≡ hit → false ≡ (if hit then false else was)
gone_there true was is = refl
gone_there false was is = sym is

gone_step : (b hit : Bool) (k : ℕ) (o : Option ℕ) → (b ≡ true → points o k ≡ hit) → points (cond b None o) k ≡ (if b && hit then false else points o k)
gone_step true hit k o is = gone_there hit (points o k) (is refl)
gone_step false hit k o is = refl

pub id_goes : (ids now : List (ℕ × ℕ)) (id number : ℕ) → now ≡ without id ids → at id ids ≡ Some number
    → (q k : ℕ) → points (at q now) k ≡ (if (id == q) && (number == k) then false else points (at q ids) k)
id_goes ids now id number is there q k =
    ap (λ o. points o k) (at_gone id ids now is q)
    ∙ gone_step (id == q) (number == k) k (at q ids) (λ here. ap (λ n. points (at n ids) k) (sym (eqb-true id q here)) ∙ ap (λ o. points o k) there)
