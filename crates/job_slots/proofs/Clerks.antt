-- Of the clerk in a lawful slot table.
use Rattle.std.proofs.Common.{◌≡◌, ℕ, ◌≤◌, List, map, sym, ap, ◌∙◌, subst}
use Rattle.std.specs.Prelude.{Option, count_by}
use mathlib.Core.Option.{some, some-injective}
use lib.ListN.{get_elem?}
use Rattle.atomic_table.specs.Table.{State}
use Rattle.job_slots.specs.declared.view.Look.{Look}
use Rattle.job_slots.specs.declared.view.View.{View}
use Rattle.job_slots.specs.declared.view.View.TheVariants.{Clerk}
use Rattle.job_slots.specs.Phases.{Phase, look_of}
use Rattle.job_slots.specs.Looks.{is_worker}
use Rattle.job_slots.specs.Lawful.{LawfulTable}

module _ {J : Type 0} where
  -- whichever seat has a clerk's view is the first, and its looks and its count are right
  abbrev pub KnowsAll : List (Phase J) → List (View J) → Type 0
  KnowsAll phases views = (id : ℕ) (looks : List (Look J)) (live : ℕ) → get_elem? views id ≡ some (Clerk looks live)
      → (id ≡ 0) × (looks ≡ map look_of phases) × (count_by is_worker views ≤ live)

  -- the first seat has a clerk's view
  abbrev pub IsLed : List (View J) → Type 0
  IsLed views = (looks : List (Look J)) × (live : ℕ) × (get_elem? views 0 ≡ some (Clerk looks live))

  pub knows : (turned : J → J → Type 0) (s : State (Option J) (View J)) (r : LawfulTable turned s) → KnowsAll r.phases s.views
  knows turned s r id looks live e = let first = r.alone id looks live e in let mine = r.clerk in
      let same : Clerk (map look_of r.phases) mine.0 ≡ Clerk looks live = some-injective _ _ (sym mine.1 ∙ subst (λ (y : ℕ). get_elem? s.views y ≡ some (Clerk looks live)) first e) in (
        first,
        (let l : map look_of r.phases ≡ looks = cc in sym l),
        (let n : mine.0 ≡ live = cc in subst (λ (y : ℕ). count_by is_worker s.views ≤ y) n mine.2),
      )

  pub leads : (phases : List (Phase J)) (views : List (View J)) → KnowsAll phases views → IsLed views
      → (live : ℕ) × (get_elem? views 0 ≡ some (Clerk (map look_of phases) live)) × (count_by is_worker views ≤ live)
  leads phases views known led = let here = known 0 led.0 led.1 led.2 in (led.1, led.2 ∙ ap (λ (ls : List (Look J)). some (Clerk ls led.1)) here.1, here.2)
