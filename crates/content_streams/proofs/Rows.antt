-- Contents that are taken from a row, or moved in it.
use Rattle.std.proofs.Common.{◌≡◌, ℕ, List, [], ◌∷◌, ◌++◌, Option, Some, None, true, false, drop, map, append-nil, refl, ap, ◌∙◌}
use Rattle.std.specs.List.{slice_get}
use Rattle.std.specs.Option.{is_none, is_some, option_to_list}
use Rattle.lsp_frames.specs.declared.frame.Frame.{Frame}

pub none_waits : (waiting : List Frame) → true ≡ is_none (slice_get waiting 0) → waiting ≡ []
none_waits [] empty = refl
none_waits (w ∷ waiting) empty = cc

pub swapped : (waiting others x y last : List Frame) (first : Option Frame) → true ≡ is_none (slice_get waiting 0) → is_some first ≡ false → x ≡ others → y ≡ waiting →
    x ++ (option_to_list first ++ y) ++ last ≡ waiting ++ (option_to_list first ++ others) ++ last
swapped [] others x y last None empty none to from =
    ap (λ (ys : List Frame). x ++ ys ++ last) from ∙ ap (λ (xs : List Frame). xs ++ last) (append-nil x ∙ to)
swapped [] others x y last (Some frame) empty none to from = cc
swapped (w ∷ waiting) others x y last first empty none to from = cc

pub none_added : (waiting y : List Frame) (first : Option Frame) → true ≡ is_none (slice_get waiting 0) → is_some first ≡ false → y ≡ waiting → option_to_list first ++ y ≡ []
none_added [] y None empty none from = from
none_added [] y (Some frame) empty none from = cc
none_added (w ∷ waiting) y first empty none from = cc

pub first_taken : (waiting others last : List Frame) (first : Option Frame) → true ≡ is_none (slice_get waiting 0) → true ≡ is_some first →
    waiting ++ others ++ last ≡ drop 1 (waiting ++ (option_to_list first ++ others) ++ last)
first_taken [] others last (Some frame) empty some = refl
first_taken [] others last None empty some = cc
first_taken (w ∷ waiting) others last first empty some = cc

pub other_taken : (waiting others left last : List Frame) (first : Option Frame) → true ≡ is_none (slice_get waiting 0) → false ≡ is_some first → false ≡ is_none (slice_get others 0) → left ≡ drop 1 others →
    waiting ++ (option_to_list first ++ left) ++ last ≡ drop 1 (waiting ++ (option_to_list first ++ others) ++ last)
other_taken [] (frame ∷ others) left last None empty none some is = ap (λ (fs : List Frame). fs ++ last) is
other_taken [] [] left last None empty none some is = cc
other_taken [] others left last (Some frame) empty none some is = cc
other_taken (w ∷ waiting) others left last first empty none some is = cc

pub last_taken : (waiting others : List Frame) (first last : Option Frame) → true ≡ is_none (slice_get waiting 0) → false ≡ is_some first → true ≡ is_none (slice_get others 0) →
    waiting ++ (option_to_list first ++ others) ++ [] ≡ drop 1 (waiting ++ (option_to_list first ++ others) ++ option_to_list last)
last_taken [] [] None None empty none gone = refl
last_taken [] [] None (Some frame) empty none gone = refl
last_taken [] (frame ∷ others) None last empty none gone = cc
last_taken [] others (Some frame) last empty none gone = cc
last_taken (w ∷ waiting) others first last empty none gone = cc

-- the place of a content that may be missing

pub no_place : (first : Option Frame) (contents : List Frame) (place : ℕ) → option_to_list first ≡ contents → is_some first ≡ false → [] ≡ map (λ (f : Frame). place) contents
no_place None contents place is none = ap (λ (fs : List Frame). map (λ (f : Frame). place) fs) is
no_place (Some frame) contents place is none = cc

pub one_place : (first : Option Frame) (contents : List Frame) (place : ℕ) → option_to_list first ≡ contents → is_some first ≡ true → place ∷ [] ≡ map (λ (f : Frame). place) contents
one_place (Some frame) contents place is none = ap (λ (fs : List Frame). map (λ (f : Frame). place) fs) is
one_place None contents place is none = cc
