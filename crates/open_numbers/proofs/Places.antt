-- What stands for a number in the window, and what is kept of it.
use Rattle.std.proofs.Common.{◌≡◌, ℕ, suc, zero, ◌≤◌, List, [], ◌∷◌, length, set, map, refl, ap, sym, ◌∙◌, Bool, true, false, Option, Some, None}
use Rattle.std.proofs.lemmas.List.{map-set, set-get_or, set-set, get_or_past}
use Rattle.std.specs.Global.{Box}
use Rattle.message_ids.specs.declared.id.Id.{Id}
use Rattle.number_set.specs.Dense.{place_at}
use Rattle.open_numbers.specs.declared.kept.Kept.{Kept}
use Rattle.open_numbers.specs.declared.open_call.OpenCall.{OpenCall}
use Rattle.open_numbers.specs.declared.requests_by_id.RequestsById.{RequestsById}
use Rattle.open_numbers.specs.Kept.{kept_at, kept_in, kept_if, with_change}
use Rattle.open_numbers.specs.Numbers.{IsIndexed}
use Rattle.open_numbers.specs.Requests.{is_reached_by}
use Rattle.open_numbers.proofs.Indexed.{IsUnseen, IsUnseen-changed, IsIndexed-unseen}

pub kept-place : (places : List (Option (Box Kept))) (n : ℕ) → kept_at (map kept_in places) n ≡ kept_in (place_at None places n)
kept-place [] n = refl
kept-place (x ∷ xs) zero = refl
kept-place (x ∷ xs) (suc n) = kept-place xs n

-- what is kept of a number, where it was looked up
pub kept-found : (places : List (Option (Box Kept))) (n : ℕ) (was : Box Kept) → Some was ≡ place_at None places n → kept_at (map kept_in places) n ≡ Some (was.value)
kept-found places n was read = kept-place places n ∙ ap kept_in (sym read)

pub kept-missing : (places : List (Option (Box Kept))) (n : ℕ) → None ≡ place_at None places n → kept_at (map kept_in places) n ≡ None
kept-missing places n read = kept-place places n ∙ ap kept_in (sym read)

-- a change of what stands there, as one of what is kept
pub place-changed : (f : Option Kept → Option Kept) (places : List (Option (Box Kept))) (n : ℕ) (was now : Box Kept) (numbers : List (Option Kept))
    → Some was ≡ place_at None places n → Some (now.value) ≡ f (Some (was.value)) → map kept_in places ≡ numbers
    → map kept_in (set places n (Some now)) ≡ set numbers n (f (kept_at numbers n))
place-changed f places n was now numbers read is seen =
    map-set kept_in places n (Some now)
    ∙ ap (set (map kept_in places) n) (is ∙ ap f (sym (kept-found places n was read)))
    ∙ ap (λ ns. set ns n (f (kept_at ns n))) seen

pub place-missing : (f : Option Kept → Option Kept) (places : List (Option (Box Kept))) (n : ℕ) (numbers : List (Option Kept))
    → None ≡ place_at None places n → f None ≡ None → map kept_in places ≡ numbers
    → map kept_in places ≡ set numbers n (f (kept_at numbers n))
place-missing f places n numbers read is seen =
    let here : kept_at (map kept_in places) n ≡ None = kept-missing places n read in
    let same : f (kept_at (map kept_in places) n) ≡ kept_at (map kept_in places) n = ap f here ∙ is ∙ sym here in
    sym (set-get_or (map kept_in places) n None)
    ∙ ap (set (map kept_in places) n) (sym same)
    ∙ ap (λ ns. set ns n (f (kept_at ns n))) seen

-- a change that no cancel can see
pub place-unseen : (change : OpenCall → OpenCall) → ((n : OpenCall) → (change n).id ≡ n.id) → ((n : OpenCall) → (change n).is_marked ≡ n.is_marked)
    → (places : List (Option (Box Kept))) (n : ℕ) (was now : Box Kept) (requests : RequestsById) (recent : ℕ)
    → Some was ≡ place_at None places n → Some (now.value) ≡ with_change change (Some (was.value))
    → IsIndexed (map kept_in places) requests recent → IsIndexed (map kept_in (set places n (Some now))) requests recent
place-unseen change ids marks places n was now requests recent read is inv =
    let here : kept_at (map kept_in places) n ≡ Some (was.value) = kept-found places n was read in
    let unseen : IsUnseen (Some (now.value)) (kept_at (map kept_in places) n) = rw (is, here) (IsUnseen-changed change ids marks (Some (was.value))) in
    rw (map-set kept_in places n (Some now)) (IsIndexed-unseen (map kept_in places) n (Some (now.value)) requests recent unseen inv)

-- what is kept once what stood there was let go of
pub place-given-up : (f : Option Kept → Option Kept) (places : List (Option (Box Kept))) (n : ℕ) (was now : Box Kept)
    → Some was ≡ place_at None places n → f (Some (was.value)) ≡ None
    → set (map kept_in (set places n (Some now))) n None ≡ set (map kept_in places) n (f (kept_at (map kept_in places) n))
place-given-up f places n was now read is =
    ap (λ ns. set ns n None) (map-set kept_in places n (Some now))
    ∙ set-set (map kept_in places) n (Some (now.value)) None
    ∙ ap (set (map kept_in places) n) (sym (ap f (kept-found places n was read) ∙ is))

pub kept-if-none : (some : Bool) (kept : Kept) (rest : Option Kept) → kept_if some kept ≡ rest → some ≡ false → rest ≡ None
kept-if-none true kept rest is none = cc
kept-if-none false kept rest is none = sym is

pub kept-if-some : (some : Bool) (kept : Kept) (rest : Option Kept) → kept_if some kept ≡ rest → some ≡ true → Some kept ≡ rest
kept-if-some true kept rest is some' = is
kept-if-some false kept rest is some' = cc

-- none is reached behind the last
pub none-behind : (id : Id) (numbers : List (Option Kept)) (k : ℕ) → length numbers ≤ k → is_reached_by id (kept_at numbers k) ≡ false
none-behind id numbers k behind = ap (is_reached_by id) (get_or_past numbers k None behind)
