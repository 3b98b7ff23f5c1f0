-- Contents up to the first that is too large.
use Rattle.std.proofs.Common.{◌≡◌, ℕ, ◌+◌, Bool, true, false, cond, not, ◌&&◌, List, [], ◌∷◌, ◌++◌, take, map, refl, ap, sym, ◌∙◌, subst, one-add}
use Rattle.std.specs.List.{list_all, take_while, prefix_len, filter}
use Rattle.std.proofs.lemmas.List.{map-append}
use Rattle.std.proofs.lemmas.List.Elements.{filter-append}
use Rattle.std.proofs.lemmas.List.Folds.{list_all-append}
use Rattle.content_streams.specs.Lines.{without_cr, is_blank, fits, all_fit, line_contents}

pub take_while-cons : {X : Type 0} (p : X → Bool) (x : X) (xs : List X) → take_while p (x ∷ xs) ≡ cond (p x) (x ∷ take_while p xs) []
take_while-cons p x xs = go (p x)
  where
    go : (t : Bool) → take (cond t (1 + prefix_len p xs) 0) (x ∷ xs) ≡ cond t (x ∷ take_while p xs) []
    go true = rw one-add refl
    go false = refl

take_while_yes : {X : Type 0} (p : X → Bool) (x : X) (xs : List X) → p x ≡ true → take_while p (x ∷ xs) ≡ x ∷ take_while p xs
take_while_yes p x xs e = take_while-cons p x xs ∙ ap (λ t. cond t (x ∷ take_while p xs) []) e

take_while_no : {X : Type 0} (p : X → Bool) (x : X) (xs : List X) → p x ≡ false → take_while p (x ∷ xs) ≡ []
take_while_no p x xs e = take_while-cons p x xs ∙ ap (λ t. cond t (x ∷ take_while p xs) []) e

-- ---- one list behind another

pub all_first : {X : Type 0} (p : X → Bool) (xs ys : List X) → list_all p xs ≡ true → take_while p (xs ++ ys) ≡ take_while p xs ++ take_while p ys
all_first p [] ys all = refl
all_first p (x ∷ xs) ys all = go (p x) refl (λ h. all_first p xs ys h)
  where
    go : (t : Bool) → p x ≡ t → (list_all p xs ≡ true → take_while p (xs ++ ys) ≡ take_while p xs ++ take_while p ys) → take_while p (x ∷ (xs ++ ys)) ≡ take_while p (x ∷ xs) ++ take_while p ys
    go true e again =
        let rest : list_all p xs ≡ true = subst (λ t. (t && list_all p xs) ≡ true) e all in
        take_while_yes p x (xs ++ ys) e ∙ ap (λ zs. x ∷ zs) (again rest) ∙ sym (ap (λ zs. zs ++ take_while p ys) (take_while_yes p x xs e))
    go false e again = (let isnt : (false && list_all p xs) ≡ true = subst (λ t. (t && list_all p xs) ≡ true) e all in cc)

pub not_all_first : {X : Type 0} (p : X → Bool) (xs ys : List X) → list_all p xs ≡ false → take_while p (xs ++ ys) ≡ take_while p xs
not_all_first p [] ys all = cc
not_all_first p (x ∷ xs) ys all = go (p x) refl (λ h. not_all_first p xs ys h)
  where
    go : (t : Bool) → p x ≡ t → (list_all p xs ≡ false → take_while p (xs ++ ys) ≡ take_while p xs) → take_while p (x ∷ (xs ++ ys)) ≡ take_while p (x ∷ xs)
    go true e again =
        let rest : list_all p xs ≡ false = subst (λ t. (t && list_all p xs) ≡ false) e all in
        take_while_yes p x (xs ++ ys) e ∙ ap (λ zs. x ∷ zs) (again rest) ∙ sym (take_while_yes p x xs e)
    go false e again = take_while_no p x (xs ++ ys) e ∙ sym (take_while_no p x xs e)

-- a list of which not all pass, with one behind
pub not_all_append : {X : Type 0} (p : X → Bool) (xs ys : List X) → list_all p xs ≡ false → list_all p (xs ++ ys) ≡ false
not_all_append p xs ys isnt = list_all-append p xs ys ∙ ap (λ t. t && list_all p ys) isnt

pub all_append : {X : Type 0} (p : X → Bool) (xs ys : List X) → list_all p xs ≡ true → list_all p (xs ++ ys) ≡ list_all p ys
all_append p xs ys does = list_all-append p xs ys ∙ ap (λ t. t && list_all p ys) does

-- ---- lines

pub lines_all_first : (limit : ℕ) (lines more : List (List ℕ)) → all_fit limit lines ≡ true → line_contents limit (lines ++ more) ≡ line_contents limit lines ++ line_contents limit more
unfolding all_fit line_contents
lines_all_first limit lines more all =
    ap (λ xs. filter (λ content. not (is_blank content)) (take_while (fits limit) xs)) (map-append without_cr lines more)
    ∙ ap (filter (λ content. not (is_blank content))) (all_first (fits limit) (map without_cr lines) (map without_cr more) all)
    ∙ filter-append (λ content. not (is_blank content)) (take_while (fits limit) (map without_cr lines)) (take_while (fits limit) (map without_cr more))

pub lines_not_all_first : (limit : ℕ) (lines more : List (List ℕ)) → all_fit limit lines ≡ false → line_contents limit (lines ++ more) ≡ line_contents limit lines
unfolding all_fit line_contents
lines_not_all_first limit lines more isnt =
    ap (λ xs. filter (λ content. not (is_blank content)) (take_while (fits limit) xs)) (map-append without_cr lines more)
    ∙ ap (filter (λ content. not (is_blank content))) (not_all_first (fits limit) (map without_cr lines) (map without_cr more) isnt)

pub all_fit_behind : (limit : ℕ) (lines more : List (List ℕ)) → all_fit limit lines ≡ true → all_fit limit (lines ++ more) ≡ all_fit limit more
unfolding all_fit
all_fit_behind limit lines more all = ap (list_all (fits limit)) (map-append without_cr lines more) ∙ all_append (fits limit) (map without_cr lines) (map without_cr more) all

pub not_all_fit : (limit : ℕ) (lines more : List (List ℕ)) → all_fit limit lines ≡ false → all_fit limit (lines ++ more) ≡ false
unfolding all_fit
not_all_fit limit lines more isnt = ap (list_all (fits limit)) (map-append without_cr lines more) ∙ not_all_append (fits limit) (map without_cr lines) (map without_cr more) isnt

-- the content of a line that isn't too long
abbrev pub kept : List ℕ → List (List ℕ)
kept content = cond (is_blank content) [] (content ∷ [])

pub first_fits : (limit : ℕ) (line : List ℕ) (lines : List (List ℕ)) → fits limit (without_cr line) ≡ true → line_contents limit (line ∷ lines) ≡ kept (without_cr line) ++ line_contents limit lines
unfolding line_contents
first_fits limit line lines does =
    ap (filter (λ content. not (is_blank content))) (take_while_yes (fits limit) (without_cr line) (map without_cr lines) does) ∙ go (is_blank (without_cr line))
  where
    go : (t : Bool) → cond (not t) (without_cr line ∷ line_contents limit lines) (line_contents limit lines) ≡ cond t [] (without_cr line ∷ []) ++ line_contents limit lines
    go true = refl
    go false = refl

pub first_is_too_long : (limit : ℕ) (line : List ℕ) (lines : List (List ℕ)) → fits limit (without_cr line) ≡ false → line_contents limit (line ∷ lines) ≡ []
unfolding line_contents
first_is_too_long limit line lines isnt = ap (filter (λ content. not (is_blank content))) (take_while_no (fits limit) (without_cr line) (map without_cr lines) isnt)

pub all_fit-yes : (limit : ℕ) (line : List ℕ) (lines : List (List ℕ)) → fits limit (without_cr line) ≡ true → all_fit limit (line ∷ lines) ≡ all_fit limit lines
unfolding all_fit
all_fit-yes limit line lines does = ap (λ t. t && all_fit limit lines) does

pub all_fit-no : (limit : ℕ) (line : List ℕ) (lines : List (List ℕ)) → fits limit (without_cr line) ≡ false → all_fit limit (line ∷ lines) ≡ false
unfolding all_fit
all_fit-no limit line lines isnt = ap (λ t. t && all_fit limit lines) isnt

pub none_fit : (limit : ℕ) → all_fit limit [] ≡ true
unfolding all_fit
none_fit limit = refl

pub no_lines : (limit : ℕ) → line_contents limit [] ≡ []
unfolding line_contents
no_lines limit = refl
