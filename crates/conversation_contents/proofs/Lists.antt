-- Lists whose elements have numbers, and what is left of a list, by the places of what is left.
use Rattle.std.proofs.Common.{◌≡◌, ◌||◌, ◌==◌, ℕ, zero, suc, ◌+◌, ◌<◌, ◌≤◌, List, [], ◌∷◌, ◌++◌, Bool, true, false, Option, Some, None, length, take, get_or, position, map, filter, refl, ap, sym, subst, ◌∙◌, arith, cond, if◌then◌else◌, option_map, ltb-true, eq-eqb}
use Rattle.std.specs.Prelude.{not, nat_lt, count_by, option_and_then, is_some}
use Rattle.std.specs.List.{cons_option, filter_map, remove, slice_get, position_or_len, list_any}
use Rattle.std.specs.Option.{option_map_or}
use Rattle.std.proofs.lemmas.List.Sums.{length-filter}
use Rattle.std.proofs.lemmas.Bool.{lt-ltb, eqb-true, ltb-false}
use Rattle.std.proofs.lemmas.Option.{slice_get_past}
use Rattle.number_windows.specs.Numbered.{at, without, Above, Ascending}
use Rattle.number_windows.proofs.Numbered.{apart_after, at_above, without_above}
use Rattle.conversation_contents.specs.Left.{at_test, index_of, values_of}

-- ---- elements by their numbers

pub here : {X : Type 0} (e : ℕ × X) (es : List (ℕ × X)) → at e.0 (e ∷ es) ≡ Some e.1
here e es = ap (λ b. cond b (Some e.1) (at e.0 es)) (eq-eqb e.0 e.0 refl)

pub behind : {X : Type 0} (e : ℕ × X) (es : List (ℕ × X)) (n : ℕ) (x : X) → Above e.0 es → at n es ≡ Some x → at n (e ∷ es) ≡ Some x
behind e es n x above is = ap (λ b. cond b (Some e.1) (at n es)) (apart_after n e.0 (at_above e.0 n x es above is)) ∙ is

lt_more : (n m : ℕ) → nat_lt (1 + n) (suc m) ≡ nat_lt n m
lt_more n m = both (nat_lt (1 + n) (suc m)) (nat_lt n m) (λ is. let e = ltb-true (1 + n) (suc m) is in lt-ltb n m (omega arith)) (λ is. let e = ltb-true n m is in lt-ltb (1 + n) (suc m) (omega arith))
  where
    both : (a b : Bool) → (a ≡ true → b ≡ true) → (b ≡ true → a ≡ true) → a ≡ b
    both true true f g = refl
    both true false f g = sym (f refl)
    both false true f g = g refl
    both false false f g = refl

position-by : {X : Type 0} (p : X → Bool) (b : Bool) (xs : List X) →
    cond (nat_lt (cond (not b) (1 + position_or_len p xs) 0) (suc (length xs))) (Some (cond (not b) (1 + position_or_len p xs) 0)) None ≡ cond b (Some 0) (option_map suc (position p xs))
position-by p true xs = ap (λ t. cond t (Some 0) None) (lt-ltb 0 (suc (length xs)) (omega arith))
position-by p false xs = ap (λ t. cond t (Some (1 + position_or_len p xs)) None) (lt_more (position_or_len p xs) (length xs)) ∙ by_test (nat_lt (position_or_len p xs) (length xs)) (position_or_len p xs)
  where
    by_test : (t : Bool) (n : ℕ) → cond t (Some (1 + n)) None ≡ option_map suc (cond t (Some n) None)
    by_test true n = ap Some (let e : 1 + n ≡ suc n = omega arith in e)
    by_test false n = refl

-- the first, or one of the others
pub position-first : {X : Type 0} (p : X → Bool) (x : X) (xs : List X) → position p (x ∷ xs) ≡ cond (p x) (Some 0) (option_map suc (position p xs))
position-first p x xs = position-by p (p x) xs

index_step : {X : Type 0} (b : Bool) (e : ℕ × X) (es : List (ℕ × X)) (i : ℕ) (o : Option X) → slice_get (values_of es) i ≡ o → slice_get (values_of (e ∷ es)) (if b then zero else suc i) ≡ cond b (Some e.1) o
index_step true e es i o is = refl
index_step false e es i o is = is

pub at_index : {X : Type 0} (n : ℕ) (es : List (ℕ × X)) → slice_get (values_of es) (index_of n es) ≡ at n es
at_index n [] = refl
at_index n (e ∷ es) = index_step (n == e.0) e es (index_of n es) (at n es) (at_index n es)

removed_step : {X : Type 0} (b : Bool) (n : ℕ) (e : ℕ × X) (es : List (ℕ × X)) → (b ≡ true → without n es ≡ es) → remove (values_of es) (index_of n es) ≡ values_of (without n es) →
    remove (values_of (e ∷ es)) (if b then zero else suc (index_of n es)) ≡ values_of (cond (not b) (e ∷ without n es) (without n es))
removed_step true n e es gone rest = ap values_of (sym (gone refl))
removed_step false n e es gone rest = ap (λ xs. e.1 ∷ xs) rest

pub removed_is : {X : Type 0} (n : ℕ) (es : List (ℕ × X)) → Ascending es → remove (values_of es) (index_of n es) ≡ values_of (without n es)
removed_is n [] order = refl
removed_is n (e ∷ es) order =
    removed_step (n == e.0) n e es (λ same. without_above n es (subst (λ m. Above m es) (sym (eqb-true n e.0 same)) order.0)) (removed_is n es order.1)

-- ---- places and what stands there

same_front : {X : Type 0} (at : ℕ → Option X) (i : ℕ) (x : X) (places : List ℕ) (left : List X) → map at (i ∷ places) ≡ map Some (x ∷ left) → at i ≡ Some x
same_front at i x places left is = let e : at i ∷ map at places ≡ Some x ∷ map Some left = is in cc

same_rest : {X : Type 0} (at : ℕ → Option X) (i : ℕ) (x : X) (places : List ℕ) (left : List X) → map at (i ∷ places) ≡ map Some (x ∷ left) → map at places ≡ map Some left
same_rest at i x places left is = let e : at i ∷ map at places ≡ Some x ∷ map Some left = is in cc

pub same_length : {X : Type 0} (at : ℕ → Option X) (places : List ℕ) (left : List X) → map at places ≡ map Some left → length places ≡ length left
same_length at [] [] is = refl
same_length at [] (x ∷ left) is = absurd (let e : [] ≡ Some x ∷ map Some left = is in cc)
same_length at (i ∷ places) [] is = absurd (let e : at i ∷ map at places ≡ [] = is in cc)
same_length at (i ∷ places) (x ∷ left) is = ap suc (same_length at places left (same_rest at i x places left is))

same_place : {X : Type 0} (p : X → Bool) (at : ℕ → Option X) (places : List ℕ) (left : List X) → map at places ≡ map Some left → position_or_len (at_test p at) places ≡ position_or_len p left
same_place p at [] [] is = refl
same_place p at [] (x ∷ left) is = absurd (let e : [] ≡ Some x ∷ map Some left = is in cc)
same_place p at (i ∷ places) [] is = absurd (let e : at i ∷ map at places ≡ [] = is in cc)
same_place p at (i ∷ places) (x ∷ left) is =
    ap (λ o. cond (not (option_map_or p o false)) (1 + position_or_len (at_test p at) places) 0) (same_front at i x places left is)
    ∙ ap (λ n. cond (not (p x)) (1 + n) 0) (same_place p at places left (same_rest at i x places left is))

pub position-left : {X : Type 0} (p : X → Bool) (at : ℕ → Option X) (places : List ℕ) (left : List X) → map at places ≡ map Some left → position (at_test p at) places ≡ position p left
position-left p at places left is =
    let a = same_place p at places left is in
    let b = same_length at places left is in
    ap (λ n. cond (nat_lt n (length places)) (Some n) None) a ∙ ap (λ n. cond (nat_lt (position_or_len p left) n) (Some (position_or_len p left)) None) b

map-remove : {X Y : Type 0} (f : X → Y) (xs : List X) (k : ℕ) → map f (remove xs k) ≡ remove (map f xs) k
map-remove f [] zero = refl
map-remove f [] (suc k) = refl
map-remove f (x ∷ xs) zero = refl
map-remove f (x ∷ xs) (suc k) = ap (λ ys. f x ∷ ys) (map-remove f xs k)

pub remove-left : {X : Type 0} (at : ℕ → Option X) (places : List ℕ) (left : List X) (k : ℕ) → map at places ≡ map Some left → map at (remove places k) ≡ map Some (remove left k)
remove-left at places left k is = map-remove at places k ∙ ap (λ xs. remove xs k) is ∙ sym (map-remove Some left k)

pub at-left : {X : Type 0} (at : ℕ → Option X) (places : List ℕ) (left : List X) (k : ℕ) → map at places ≡ map Some left → option_and_then at (slice_get places k) ≡ slice_get left k
at-left at [] [] k is = refl
at-left at [] (x ∷ left) k is = absurd (let e : [] ≡ Some x ∷ map Some left = is in cc)
at-left at (i ∷ places) [] k is = absurd (let e : at i ∷ map at places ≡ [] = is in cc)
at-left at (i ∷ places) (x ∷ left) zero is = same_front at i x places left is
at-left at (i ∷ places) (x ∷ left) (suc k) is = at-left at places left k (same_rest at i x places left is)

-- all places of a list
pub more_places : {X : Type 0} (xs : List X) (i : ℕ) → i < length xs → map Some (take i xs) ++ slice_get xs i ∷ [] ≡ map Some (take (suc i) xs)
more_places [] i lt = absurd (let e : i < 0 = lt in omega (arith, e))
more_places (x ∷ xs) zero lt = refl
more_places (x ∷ xs) (suc i) lt = ap (λ os. Some x ∷ os) (more_places xs i (let e : suc i < suc (length xs) = lt in omega (arith, e)))

map-append : {X Y : Type 0} (f : X → Y) (xs ys : List X) → map f (xs ++ ys) ≡ map f xs ++ map f ys
map-append f [] ys = refl
map-append f (x ∷ xs) ys = ap (λ zs. f x ∷ zs) (map-append f xs ys)

pub place_more : {X : Type 0} (xs : List X) (places : List ℕ) (i : ℕ) → i < length xs → map (slice_get xs) places ≡ map Some (take i xs) → map (slice_get xs) (places ++ i ∷ []) ≡ map Some (take (i + 1) xs)
place_more xs places i lt is =
    map-append (slice_get xs) places (i ∷ []) ∙ ap (λ os. os ++ slice_get xs i ∷ []) is ∙ more_places xs i lt ∙ ap (λ n. map Some (take n xs)) (let e : suc i ≡ i + 1 = omega arith in e)

-- ---- a test of what is left

pub any-left : {X : Type 0} (p : X → Bool) (at : ℕ → Option X) (places : List ℕ) (left : List X) → map at places ≡ map Some left → list_any (at_test p at) places ≡ list_any p left
any-left p at [] [] is = refl
any-left p at [] (x ∷ left) is = absurd (let e : [] ≡ Some x ∷ map Some left = is in cc)
any-left p at (i ∷ places) [] is = absurd (let e : at i ∷ map at places ≡ [] = is in cc)
any-left p at (i ∷ places) (x ∷ left) is =
    ap (λ o. option_map_or p o false || list_any (at_test p at) places) (same_front at i x places left is)
    ∙ ap (λ b. p x || b) (any-left p at places left (same_rest at i x places left is))

same_if : {X Y : Type 0} (b : Bool) (x : X) (y : Y) (xs : List X) (ys : List Y) → length xs ≡ length ys → length (if b then x ∷ xs else xs) ≡ length (if b then y ∷ ys else ys)
same_if true x y xs ys is = ap suc is
same_if false x y xs ys is = is

same_filter : {X : Type 0} (p : X → Bool) (at : ℕ → Option X) (places : List ℕ) (left : List X) → map at places ≡ map Some left → length (filter (at_test p at) places) ≡ length (filter p left)
same_filter p at [] [] is = refl
same_filter p at [] (x ∷ left) is = absurd (let e : [] ≡ Some x ∷ map Some left = is in cc)
same_filter p at (i ∷ places) [] is = absurd (let e : at i ∷ map at places ≡ [] = is in cc)
same_filter p at (i ∷ places) (x ∷ left) is =
    ap (λ o. length (if option_map_or p o false then i ∷ filter (at_test p at) places else filter (at_test p at) places)) (same_front at i x places left is)
    ∙ same_if (p x) i x (filter (at_test p at) places) (filter p left) (same_filter p at places left (same_rest at i x places left is))

pub count-left : {X : Type 0} (p : X → Bool) (at : ℕ → Option X) (places : List ℕ) (left : List X) → map at places ≡ map Some left → count_by (at_test p at) places ≡ count_by p left
count-left p at places left is = sym (length-filter (at_test p at) places) ∙ same_filter p at places left is ∙ length-filter p left

-- ---- what is left, as a list

pub among_is : {X : Type 0} (at : ℕ → Option X) (places : List ℕ) (left : List X) → map at places ≡ map Some left → filter_map at places ≡ left
among_is at [] [] is = refl
among_is at [] (x ∷ left) is = absurd (let e : [] ≡ Some x ∷ map Some left = is in cc)
among_is at (i ∷ places) [] is = absurd (let e : at i ∷ map at places ≡ [] = is in cc)
among_is at (i ∷ places) (x ∷ left) is =
    ap (λ o. cons_option o (filter_map at places)) (same_front at i x places left is) ∙ ap (λ xs. x ∷ xs) (among_is at places left (same_rest at i x places left is))

pub left_among : {X : Type 0} (at : ℕ → Option X) (places : List ℕ) (left : List X) → map at places ≡ map Some left → map at places ≡ map Some (filter_map at places)
left_among at places left is = is ∙ ap (map Some) (sym (among_is at places left is))

-- something stands at each place
there_by : {X : Type 0} (read : ℕ → Option X) (e : ℕ × ℕ) (x : X) (place : ℕ) (b : Bool) (o : Option ℕ) → read e.1 ≡ Some x → cond b (Some e.1) o ≡ Some place → (o ≡ Some place → (y : X) × (read place ≡ Some y)) → (y : X) × (read place ≡ Some y)
there_by read e x place true o front it rest = (x, ap read (let f : place ≡ e.1 = cc in f) ∙ front)
there_by read e x place false o front it rest = rest it

pub stands_there : {X : Type 0} (read : ℕ → Option X) (es : List (ℕ × ℕ)) (left : List X) (n place : ℕ) → map read (values_of es) ≡ map Some left → at n es ≡ Some place → (x : X) × (read place ≡ Some x)
stands_there read [] left n place is there = absurd (cc)
stands_there read (e ∷ es) [] n place is there = absurd (let f : read e.1 ∷ map read (values_of es) ≡ [] = is in cc)
stands_there read (e ∷ es) (x ∷ left) n place is there =
    there_by read e x place (n == e.0) (at n es) (same_front read e.1 x (values_of es) left is) there (stands_there read es left n place (same_rest read e.1 x (values_of es) left is))

-- a list that is longer has the same at the places of the shorter one, and at the next the element more
pub still_read : {X : Type 0} (xs : List X) (x : X) (i : ℕ) (y : X) → slice_get xs i ≡ Some y → slice_get (xs ++ x ∷ []) i ≡ Some y
still_read [] x i y is = cc
still_read (w ∷ xs) x zero y is = is
still_read (w ∷ xs) x (suc i) y is = still_read xs x i y is

pub last_read : {X : Type 0} (xs : List X) (x : X) → slice_get (xs ++ x ∷ []) (length xs) ≡ Some x
last_read [] x = refl
last_read (w ∷ xs) x = last_read xs x

pub still_left : {X : Type 0} (xs : List X) (x : X) (places : List ℕ) (left : List X) → map (slice_get xs) places ≡ map Some left → map (slice_get (xs ++ x ∷ [])) places ≡ map Some left
still_left xs x [] left is = is
still_left xs x (i ∷ places) [] is = absurd (let e : slice_get xs i ∷ map (slice_get xs) places ≡ [] = is in cc)
still_left xs x (i ∷ places) (y ∷ left) is =
    ap (λ o. o ∷ map (slice_get (xs ++ x ∷ [])) places) (still_read xs x i y (same_front (slice_get xs) i y places left is))
    ∙ ap (λ os. Some y ∷ os) (still_left xs x places left (same_rest (slice_get xs) i y places left is))

pub one_more_left : {X : Type 0} (xs : List X) (x : X) (places : List ℕ) (left : List X) → map (slice_get xs) places ≡ map Some left → map (slice_get (xs ++ x ∷ [])) (places ++ length xs ∷ []) ≡ map Some (left ++ x ∷ [])
one_more_left xs x places left is =
    map-append (slice_get (xs ++ x ∷ [])) places (length xs ∷ [])
    ∙ ap (λ os. os ++ slice_get (xs ++ x ∷ []) (length xs) ∷ []) (still_left xs x places left is)
    ∙ ap (λ o. map Some left ++ o ∷ []) (last_read xs x)
    ∙ sym (map-append Some left (x ∷ []))

-- each is changed
read_changed : {X : Type 0} (f : X → X) (xs : List X) (i : ℕ) (y : X) → slice_get xs i ≡ Some y → slice_get (map f xs) i ≡ Some (f y)
read_changed f [] i y is = cc
read_changed f (w ∷ xs) zero y is = let e : w ≡ y = cc in ap (λ v. Some (f v)) e
read_changed f (w ∷ xs) (suc i) y is = read_changed f xs i y is

pub changed_left : {X : Type 0} (f : X → X) (xs : List X) (places : List ℕ) (left : List X) → map (slice_get xs) places ≡ map Some left → map (slice_get (map f xs)) places ≡ map Some (map f left)
changed_left f xs [] [] is = refl
changed_left f xs [] (y ∷ left) is = absurd (let e : [] ≡ Some y ∷ map Some left = is in cc)
changed_left f xs (i ∷ places) [] is = absurd (let e : slice_get xs i ∷ map (slice_get xs) places ≡ [] = is in cc)
changed_left f xs (i ∷ places) (y ∷ left) is =
    ap (λ o. o ∷ map (slice_get (map f xs)) places) (read_changed f xs i y (same_front (slice_get xs) i y places left is))
    ∙ ap (λ os. Some (f y) ∷ os) (changed_left f xs places left (same_rest (slice_get xs) i y places left is))

-- ---- the first that passes

any_by : (b : Bool) (o : Option ℕ) (rest : Bool) → is_some o ≡ rest → is_some (cond b (Some 0) (option_map suc o)) ≡ (b || rest)
any_by true o rest is = refl
any_by false None rest is = is
any_by false (Some n) rest is = is

pub any_position : {X : Type 0} (p : X → Bool) (xs : List X) → is_some (position p xs) ≡ list_any p xs
any_position p [] = refl
any_position p (x ∷ xs) = ap is_some (position-first p x xs) ∙ any_by (p x) (position p xs) (list_any p xs) (any_position p xs)

found_by : (t : Bool) (n k : ℕ) → cond t (Some n) None ≡ Some k → n ≡ k
found_by true n k is = cc
found_by false n k is = cc

pub position_is_place : {X : Type 0} (p : X → Bool) (xs : List X) (k : ℕ) → position p xs ≡ Some k → position_or_len p xs ≡ k
position_is_place p xs k is = found_by (nat_lt (position_or_len p xs) (length xs)) (position_or_len p xs) k is

past_by : (t : Bool) (n m : ℕ) → nat_lt n m ≡ t → cond t (Some n) None ≡ None → nat_lt n m ≡ false
past_by true n m is none = cc
past_by false n m is none = is

pub no_place : {X : Type 0} (p : X → Bool) (xs : List X) → position p xs ≡ None → length xs ≤ position_or_len p xs
no_place p xs none = ltb-false (position_or_len p xs) (length xs) (past_by (nat_lt (position_or_len p xs) (length xs)) (position_or_len p xs) (length xs) refl none)

pub removed_past : {X : Type 0} (xs : List X) (k : ℕ) → length xs ≤ k → remove xs k ≡ xs
removed_past [] zero le = refl
removed_past [] (suc k) le = refl
removed_past (x ∷ xs) zero le = absurd (let e : suc (length xs) ≤ 0 = le in omega (arith, e))
removed_past (x ∷ xs) (suc k) le = ap (λ ys. x ∷ ys) (removed_past xs k (let e : suc (length xs) ≤ suc k = le in omega (arith, e)))

pub none_read : {X : Type 0} (p : X → Bool) (xs : List X) → position p xs ≡ None → slice_get xs (position_or_len p xs) ≡ None
none_read p xs none = slice_get_past xs (position_or_len p xs) (no_place p xs none)

pub none_removed : {X : Type 0} (p : X → Bool) (xs : List X) → position p xs ≡ None → remove xs (position_or_len p xs) ≡ xs
none_removed p xs none = removed_past xs (position_or_len p xs) (no_place p xs none)

-- ---- a test of all, where one is gone

swapped : (a b c : Bool) → (a || (b || c)) ≡ (b || (a || c))
swapped true true c = refl
swapped true false c = refl
swapped false b c = refl

pub any_removed : {X : Type 0} (p : X → Bool) (xs : List X) (k : ℕ) (x : X) → slice_get xs k ≡ Some x → list_any p xs ≡ (p x || list_any p (remove xs k))
any_removed p [] k x is = cc
any_removed p (w ∷ xs) zero x is = let e : w ≡ x = cc in ap (λ v. p v || list_any p xs) e
any_removed p (w ∷ xs) (suc k) x is = ap (λ b. p w || b) (any_removed p xs k x is) ∙ swapped (p w) (p x) (list_any p (remove xs k))

any_end : {X : Type 0} (p : X → Bool) (xs : List X) (x : X) → list_any p (xs ++ x ∷ []) ≡ (p x || list_any p xs)
any_end p [] x = refl
any_end p (w ∷ xs) x = ap (λ b. p w || b) (any_end p xs x) ∙ swapped (p w) (p x) (list_any p xs)

pub any_popped : {X : Type 0} (p : X → Bool) (was now : List X) (x : X) → was ≡ now ++ x ∷ [] → list_any p was ≡ (p x || list_any p now)
any_popped p was now x is = ap (list_any p) is ∙ any_end p now x

-- two tests in turn
or_four : (a b c d : Bool) → ((a || c) || (b || d)) ≡ ((a || b) || (c || d))
or_four true b c d = refl
or_four false true true d = refl
or_four false true false d = refl
or_four false false c d = refl

pub any_of_two : {X : Type 0} (p q r : X → Bool) (xs : List X) → ((x : X) → (p x || q x) ≡ r x) → (list_any p xs || list_any q xs) ≡ list_any r xs
any_of_two p q r [] is = refl
any_of_two p q r (x ∷ xs) is =
    or_four (p x) (q x) (list_any p xs) (list_any q xs) ∙ ap (λ b. b || (list_any p xs || list_any q xs)) (is x) ∙ ap (λ b. r x || b) (any_of_two p q r xs is)

pub one_taken : {X : Type 0} (xs : List X) (i : ℕ) (x : X) → i < length xs → x ≡ get_or xs i x → take i xs ++ x ∷ [] ≡ take (suc i) xs
one_taken [] i x lt is = absurd (let e : i < 0 = lt in omega (arith, e))
one_taken (w ∷ xs) zero x lt is = ap (λ v. v ∷ []) is
one_taken (w ∷ xs) (suc i) x lt is = ap (λ ys. w ∷ ys) (one_taken xs i x (let e : suc i < suc (length xs) = lt in omega (arith, e)) is)

pub taken_all : {X : Type 0} (xs : List X) (i : ℕ) → length xs ≤ i → take i xs ≡ xs
taken_all [] zero le = refl
taken_all [] (suc i) le = refl
taken_all (x ∷ xs) zero le = absurd (let e : suc (length xs) ≤ 0 = le in omega (arith, e))
taken_all (x ∷ xs) (suc i) le = ap (λ ys. x ∷ ys) (taken_all xs i (let e : suc (length xs) ≤ suc i = le in omega (arith, e)))
