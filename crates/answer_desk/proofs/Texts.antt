-- The answers of one unit more.
use Rattle.std.proofs.Common.{◌≡◌, ℕ, ◌+◌, suc, ◌<◌, length, List, [], ◌∷◌, ◌++◌, Bool, true, false, true≢false, if◌then◌else◌, refl, sym, ap, ◌∙◌, arith, append_assoc, map, take, get_or, is_some, unwrap_or, option_to_list, Option, Some, None, Result, Ok, Err, IfOk}
use Rattle.std.specs.List.{filter_map, flat_map, cons_option}
use Rattle.std.proofs.lemmas.List.{append-nil, take_more, map_push}
use Rattle.std.proofs.Math.Seq.{take-append_seam}
use Rattle.std.proofs.lemmas.List.Elements.{filter_map-append}

-- one element more of a list that is gone over
pub map-take_next : {X Y : Type 0} (f : X → Y) (xs : List X) (i : ℕ) (x : X) → i < length xs → x ≡ get_or xs i x → map f (take (i + 1) xs) ≡ map f (take i xs) ++ f x ∷ []
map-take_next f xs i x h is = ap (map f) (take_more xs i x h ∙ ap (λ y. take i xs ++ y ∷ []) (sym is)) ∙ map_push f (take i xs) x

pub map-take_suc : {X Y : Type 0} (f : X → Y) (xs : List X) (i : ℕ) (x : X) → i < length xs → x ≡ get_or xs i x → map f (take (suc i) xs) ≡ map f (take i xs) ++ f x ∷ []
map-take_suc f xs i x h is = let one : suc i ≡ i + 1 = omega arith in ap (λ n. map f (take n xs)) one ∙ map-take_next f xs i x h is

pub filter_map-take_next : {X Y Z : Type 0} (g : Y → Option Z) (f : X → Y) (xs : List X) (i : ℕ) (d : X) → i < length xs
    → filter_map g (map f (take (i + 1) xs)) ≡ filter_map g (map f (take i xs)) ++ cons_option (g (f (get_or xs i d))) []
filter_map-take_next g f xs i d h =
    ap (λ ys. filter_map g (map f ys)) (take_more xs i d h) ∙ ap (filter_map g) (map_push f (take i xs) (get_or xs i d))
    ∙ filter_map-append g (map f (take i xs)) (f (get_or xs i d) ∷ [])

cons_to_list : {Z : Type 0} (o : Option Z) → cons_option o [] ≡ option_to_list o
cons_to_list None = refl
cons_to_list (Some z) = refl

pub filter_map-take_item : {X Y Z : Type 0} (g : Y → Option Z) (f : X → Y) (xs : List X) (i : ℕ) (x : X) → i < length xs → x ≡ get_or xs i x
    → filter_map g (map f (take (i + 1) xs)) ≡ filter_map g (map f (take i xs)) ++ option_to_list (g (f x))
filter_map-take_item g f xs i x h is =
    filter_map-take_next g f xs i x h
    ∙ ap (λ y. filter_map g (map f (take i xs)) ++ cons_option (g (f y)) []) (sym is)
    ∙ ap (λ zs. filter_map g (map f (take i xs)) ++ zs) (cons_to_list (g (f x)))

-- whether there is an answer, and its text
pub put_or_not : (answer : Option (List ℕ)) (some : Bool) (old new : List ℕ) → old ≡ [] → new ≡ old ++ unwrap_or answer [] → some ≡ is_some answer
    → answer ≡ (if some then Some new else None)
put_or_not None some old new empty put is = rw is refl
put_or_not (Some text) some old new empty put is = rw (is, put, empty) refl

-- what was put behind a text is cut off again
pub cut_back : (all old more : List ℕ) (n : ℕ) → all ≡ old ++ more → n ≡ length old → take n all ≡ old
cut_back all old more n is long = ap (take n) is ∙ ap (λ k. take k (old ++ more)) long ∙ take-append_seam old more

-- the frame of an answer that is there

pub answer_there : (some : Bool) (answer : Option (List ℕ)) (text : List ℕ) → some ≡ true → answer ≡ (if some then Some text else None) → answer ≡ Some text
answer_there true answer text is put = put
answer_there false answer text is put = absurd (true≢false (sym is))

pub one-frame : (frame : List ℕ → List ℕ) (text : List ℕ) → frame text ≡ flat_map frame (text ∷ [])
one-frame frame text = sym (append-nil (frame text))

pub frame_behind : (old head digits blank content : List ℕ) → old ++ head ++ digits ++ blank ++ content ≡ old ++ (head ++ digits ++ blank ++ content)
frame_behind old head digits blank content = simp append_assoc

pub put_result : {E : Type 0} (answer : Option (List ℕ)) (result : Result Bool E) (old new : List ℕ) → old ≡ [] → IfOk result (λ some. new ≡ old ++ unwrap_or answer [])
    → IfOk result (λ some. some ≡ is_some answer) → IfOk result (λ some. answer ≡ (if some then Some new else None))
put_result answer (Ok some) old new empty put is = put_or_not answer some old new empty put is
put_result answer (Err error) old new empty put is = tt
