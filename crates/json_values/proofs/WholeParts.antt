-- Parts of a value without fractions have none, and a value of such parts has none.
use Rattle.std.proofs.Common.{◌≡◌, ℕ, zero, suc, List, [], ◌∷◌, ◌++◌, Bool, true, false, ◌||◌, ◌==◌, cond, Option, Some, None, option_and_then, refl, ap, ◌∙◌, true≢false, Ordering, Less, Equal, Greater}
use Rattle.std.specs.Ordering.{match_ordering, nat_cmp}
use Rattle.std.specs.Cmp.Lexicographic.{slice_cmp}
use Rattle.serde_json.specs.Data.{Data, null, boolean, number, string, array, object, Items, no_items, item, Members, no_members, member, put}
use Rattle.serde_json.specs.Find.{get_member, get_item, step, walk, pointer, index_of, unescape}
use Rattle.serde_json.specs.View.{items_of}
use Rattle.serde_json.specs.Written.{has_float, items_have_float, members_have_float}

neither_left : (a b : Bool) → (a || b) ≡ false → a ≡ false
neither_left false b h = refl
neither_left true b h = absurd (true≢false h)

neither_right : (a b : Bool) → (a || b) ≡ false → b ≡ false
neither_right false b h = h
neither_right true b h = absurd (true≢false h)

neither : (a b : Bool) → a ≡ false → b ≡ false → (a || b) ≡ false
neither a b p q = ap (λ x. x || b) p ∙ q

-- one more element without fractions
pub items_have_float-push : (ds : List Data) (d : Data) → items_have_float (items_of ds) ≡ false → has_float d ≡ false → items_have_float (items_of (ds ++ d ∷ [])) ≡ false
items_have_float-push [] d before here = neither (has_float d) false here refl
items_have_float-push (e ∷ ds) d before here =
    neither (has_float e) _ (neither_left (has_float e) _ before) (items_have_float-push ds d (neither_right (has_float e) _ before) here)

put_at : (o : Ordering) (k l : List ℕ) (d e : Data) (ms : Members) → has_float d ≡ false → has_float e ≡ false → members_have_float ms ≡ false → members_have_float (put k d ms) ≡ false
    → members_have_float (match_ordering o (member k d (member l e ms)) (member l d ms) (member l e (put k d ms))) ≡ false
put_at Less k l d e ms here there before later = neither (has_float d) _ here (neither (has_float e) _ there before)
put_at Equal k l d e ms here there before later = neither (has_float d) _ here before
put_at Greater k l d e ms here there before later = neither (has_float e) _ there later

-- one more member without fractions
pub members_have_float-put : (k : List ℕ) (d : Data) (ms : Members) → has_float d ≡ false → members_have_float ms ≡ false → members_have_float (put k d ms) ≡ false
members_have_float-put k d no_members here before = neither (has_float d) false here refl
members_have_float-put k d (member l e ms) here before =
    let there = neither_left (has_float e) _ before in
    let others = neither_right (has_float e) _ before in
    put_at (slice_cmp nat_cmp k l) k l d e ms here there others (members_have_float-put k d ms here others)

-- ---- what a look-up finds in a value without fractions

-- an option's value, where there is one, has no fraction
abbrev pub IsWholeIfSome : Option Data → Type 0
IsWholeIfSome None = Unit {0}
IsWholeIfSome (Some d) = has_float d ≡ false

whole_item : (i : ℕ) (ds : Items) → items_have_float ds ≡ false → IsWholeIfSome (get_item i ds)
whole_item i no_items h = tt
whole_item zero (item d ds) h = neither_left (has_float d) _ h
whole_item (suc i) (item d ds) h = whole_item i ds (neither_right (has_float d) _ h)

whole_choice : (o : Ordering) (d : Data) (rest : Option Data) → has_float d ≡ false → IsWholeIfSome rest → IsWholeIfSome (match_ordering o rest (Some d) rest)
whole_choice Less d rest here later = later
whole_choice Equal d rest here later = here
whole_choice Greater d rest here later = later

pub whole_member : (k : List ℕ) (ms : Members) → members_have_float ms ≡ false → IsWholeIfSome (get_member k ms)
whole_member k no_members h = tt
whole_member k (member l d ms) h = whole_choice (slice_cmp nat_cmp k l) d _ (neither_left (has_float d) _ h) (whole_member k ms (neither_right (has_float d) _ h))

whole_at : (o : Option ℕ) (ds : Items) → items_have_float ds ≡ false → IsWholeIfSome (option_and_then (λ i. get_item i ds) o)
whole_at None ds h = tt
whole_at (Some i) ds h = whole_item i ds h

whole_step : (part : List ℕ) (d : Data) → has_float d ≡ false → IsWholeIfSome (step part d)
whole_step part null h = tt
whole_step part (boolean b) h = tt
whole_step part (number n) h = tt
whole_step part (string s) h = tt
whole_step part (array ds) h = whole_at (index_of part) ds h
whole_step part (object ms) h = whole_member (unescape part) ms h

whole_onward : (find : Data → Option Data) → ((e : Data) → has_float e ≡ false → IsWholeIfSome (find e)) → (next : Option Data) → IsWholeIfSome next → IsWholeIfSome (option_and_then find next)
whole_onward find all None found = tt
whole_onward find all (Some e) found = all e found

whole_branch : (b : Bool) (one other : Option Data) → IsWholeIfSome one → IsWholeIfSome other → IsWholeIfSome (cond b one other)
whole_branch true one other here there = here
whole_branch false one other here there = there

whole_walk : (part rest : List ℕ) (d : Data) → has_float d ≡ false → IsWholeIfSome (walk part rest d)
unfolding walk
whole_walk part [] d h = whole_step part d h
whole_walk part (x ∷ rest) d h =
    whole_branch (x == 47) _ _ (whole_onward (walk [] rest) (λ e p. whole_walk [] rest e p) (step part d) (whole_step part d h)) (whole_walk (part ++ x ∷ []) rest d h)

pub whole_pointer : (path : List ℕ) (d : Data) → has_float d ≡ false → IsWholeIfSome (pointer path d)
whole_pointer [] d h = h
whole_pointer (x ∷ rest) d h = whole_branch (x == 47) _ None (whole_walk [] rest d h) tt
