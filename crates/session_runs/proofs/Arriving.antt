-- One more entry of a unit: its numbers, its place, its stages.
use Rattle.std.proofs.Common.{◌≡◌, ◌≤◌, ◌<◌, ℕ, ◌+◌, zero, suc, List, [], ◌∷◌, ◌++◌, length, map, take, get_or, refl, sym, ap, ◌∙◌, arith, append_assoc}
use Rattle.std.proofs.lemmas.List.{append-nil, take_more, map_push}
use Rattle.rpc_messages.specs.Entry.{SeenEntry}
use Rattle.rpc_messages.specs.Numbering.{numbers_in, numbers_of}
use Rattle.method_steps.specs.Steps.{MethodTable}
use Rattle.peer_events.specs.Taking.{place_of_entry, places_of_entries, entry_stages, stages_for}

pub map-take_next : {X Y : Type 0} (f : X → Y) (xs : List X) (i : ℕ) (x : X) → i < length xs → x ≡ get_or xs i x → map f (take (i + 1) xs) ≡ map f (take i xs) ++ f x ∷ []
map-take_next f xs i x h is = ap (map f) (take_more xs i x h ∙ ap (λ y. take i xs ++ y ∷ []) (sym is)) ∙ map_push f (take i xs) x

pub numbers_in-push : (es : List SeenEntry) (e : SeenEntry) → numbers_in (es ++ e ∷ []) ≡ numbers_in es + numbers_of e
numbers_in-push [] e = omega arith
numbers_in-push (x ∷ es) e = omega (arith, numbers_in-push es e)

-- a front takes no more numbers than all
pub numbers_in-front : {X : Type 0} (f : X → SeenEntry) (xs : List X) (i : ℕ) → numbers_in (map f (take i xs)) ≤ numbers_in (map f xs)
numbers_in-front f [] zero = omega arith
numbers_in-front f [] (suc i) = omega arith
numbers_in-front f (x ∷ xs) zero = omega arith
numbers_in-front f (x ∷ xs) (suc i) = omega (arith, numbers_in-front f xs i)

pub places-push : (table : MethodTable) (es : List SeenEntry) (e : SeenEntry) →
    places_of_entries table (es ++ e ∷ []) ≡ places_of_entries table es ++ place_of_entry table e ∷ []
places-push table [] e = refl
places-push table (x ∷ es) e = ap (λ places. place_of_entry table x ∷ places) (places-push table es e)

pub stages-push : (table : MethodTable) (n : ℕ) (es : List SeenEntry) (e : SeenEntry) →
    stages_for table n (es ++ e ∷ []) ≡ stages_for table n es ++ entry_stages table (n + numbers_in es) e
stages-push table n [] e = append-nil (entry_stages table n e) ∙ ap (λ m. entry_stages table m e) (omega arith)
stages-push table n (x ∷ es) e =
    ap (λ stages. entry_stages table n x ++ stages) (stages-push table (n + numbers_of x) es e
    ∙ ap (λ m. stages_for table (n + numbers_of x) es ++ entry_stages table m e) (omega arith))
    ∙ sym (append_assoc (entry_stages table n x) (stages_for table (n + numbers_of x) es) (entry_stages table (n + numbers_in (x ∷ es)) e))

-- a front and the next entry take no more numbers than all
pub numbers_in-next : {X : Type 0} (f : X → SeenEntry) (xs : List X) (i : ℕ) (x : X) → i < length xs → x ≡ get_or xs i x →
    numbers_in (map f (take i xs)) + numbers_of (f x) ≤ numbers_in (map f xs)
numbers_in-next f xs i x within is =
    let next : numbers_in (map f (take (i + 1) xs)) ≡ numbers_in (map f (take i xs)) + numbers_of (f x) =
    ap numbers_in (map-take_next f xs i x within is) ∙ numbers_in-push (map f (take i xs)) (f x) in
    omega (arith, next, numbers_in-front f xs (i + 1))
