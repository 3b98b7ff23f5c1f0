-- A slot of a batch is given its text.
use Rattle.std.proofs.Common.{◌≡◌, ℕ, ◌<◌, ◌≤◌, ◌+◌, ◌-◌, Bool, true, false, cond, Option, Some, None, List, [], ◌∷◌, ◌++◌, length, length-append, take, drop, get_or, set, refl, ap, sym, subst, ◌∙◌, arith}
use Rattle.std.proofs.lemmas.List.{drop_at, drop-append-le, get_or-map, length-drop, length-map, map-set, take_all, take-append-le}
use Rattle.std.proofs.lemmas.List.Elements.{All-set, recursion_from_All}
use Rattle.std.proofs.lemmas.List.Sums.{sum_by-set}
use Rattle.std.specs.List.{All, AllByRecursion, slice_range}
use Rattle.std.specs.Option.{is_none}
use mir.Val.{bool_byte}
use Rattle.owed_answers.specs.declared.held.Held.{Held}
use Rattle.owed_answers.specs.declared.held.Held.TheVariants.{AsCame, Given}
use Rattle.owed_answers.specs.Batches.{IsWithin, held_slots, seen_held}
use Rattle.owed_answers.specs.Owed.{lacking_slots}

abbrev pub Seen : Type 0
Seen = List (Option (List ℕ))

-- ---- answers that were given stay where they stand

range_stays : (given more : List ℕ) (start end : ℕ) → start ≤ end → end ≤ length given → slice_range (given ++ more) start end ≡ slice_range given start end
range_stays given more start end order within =
    ap (take (end - start)) (drop-append-le start given more (omega (arith, order, within)))
    ∙ take-append-le (end - start) (drop start given) more (omega (arith, length-drop start given, order, within))

range_last : (given text : List ℕ) → slice_range (given ++ text) (length given) (length given + length text) ≡ text
range_last given text =
    ap (take (length given + length text - length given)) (drop_at given text (length given) refl)
    ∙ take_all (length given + length text - length given) text (omega arith)

stays : (given more : List ℕ) (h : Held) → IsWithin given h → seen_held (given ++ more) h ≡ seen_held given h
stays given more (AsCame slot) within = refl
stays given more (Given start end) within = ap Some (range_stays given more start end within.0 within.1)

still : (given more : List ℕ) (h : Held) → IsWithin given h → IsWithin (given ++ more) h
still given more (AsCame slot) within = tt
still given more (Given start end) within = (within.0, omega (arith, length-append given more, within.1))

all_stay : (given more : List ℕ) (held : List Held) → All (IsWithin given) held → held_slots (given ++ more) held ≡ held_slots given held
all_stay given more held within = recursive held (recursion_from_All (IsWithin given) held within)
  where
    recursive : (hs : List Held) → AllByRecursion (IsWithin given) hs → held_slots (given ++ more) hs ≡ held_slots given hs
    recursive [] within = refl
    recursive (h ∷ hs) within = λ i. stays given more h within.0 i ∷ recursive hs within.1 i

all_still : (given more : List ℕ) (held : List Held) → All (IsWithin given) held → All (IsWithin (given ++ more)) held
all_still given more held within = λ k d lt. still given more (get_or held k d) (within k d lt)

-- ---- how many are lacking

abbrev pub weight : Option (List ℕ) → ℕ
weight slot = cond (is_none slot) 1 0

-- were a slot given its text, that one would not be lacking
pub fewer : (seen : Seen) (i : ℕ) (slot : Option (List ℕ)) (text : List ℕ) → i < length seen → slot ≡ get_or seen i None → lacking_slots (set seen i (Some text)) + weight slot ≡ lacking_slots seen
fewer seen i slot text lt here = omega (arith, ap weight here, sum_by-set weight seen i (Some text) None lt)

pub lacking_read : (given : List ℕ) (held : List Held) (seen : Seen) (i : ℕ) (h : Held) (lacks : Bool) (text : List ℕ) → held_slots given held ≡ seen → i < length held → h ≡ get_or held i h → lacks ≡ is_none (seen_held given h)
    → lacking_slots (set seen i (Some text)) + cond lacks 1 0 ≡ lacking_slots seen
lacking_read given held seen i h lacks text view lt here is =
    let inside : i < length seen = omega (arith, ap length view, length-map held (seen_held given)) in
    let read : seen_held given h ≡ get_or seen i None = ap (seen_held given) here ∙ sym (get_or-map (seen_held given) held i h None lt) ∙ ap (λ s. get_or s i None) view in
    ap (λ b. lacking_slots (set seen i (Some text)) + cond b 1 0) is ∙ fewer seen i (seen_held given h) text inside read

-- ---- a slot is given its text

pub given_is : (given text : List ℕ) (held : List Held) (seen : Seen) (i start end : ℕ) (now : List ℕ) → All (IsWithin given) held → held_slots given held ≡ seen → now ≡ given ++ text → start ≡ length given → end ≡ length given + length text
    → held_slots now (set held i (Given start end)) ≡ set seen i (Some text)
given_is given text held seen i start end now within view is first last =
    ap (λ bytes. held_slots bytes (set held i (Given start end))) is
    ∙ map-set (seen_held (given ++ text)) held i (Given start end)
    ∙ ap (λ s. set s i (seen_held (given ++ text) (Given start end))) (all_stay given text held within ∙ view)
    ∙ ap (λ n. set seen i (Some (slice_range (given ++ text) n end))) first
    ∙ ap (λ n. set seen i (Some (slice_range (given ++ text) (length given) n))) last
    ∙ ap (λ t. set seen i (Some t)) (range_last given text)

pub given_within : (given text : List ℕ) (held : List Held) (i start end : ℕ) (now : List ℕ) → All (IsWithin given) held → now ≡ given ++ text → start ≡ length given → end ≡ length given + length text → All (IsWithin now) (set held i (Given start end))
given_within given text held i start end now within is first last =
    subst (λ bytes. All (IsWithin bytes) (set held i (Given start end))) (sym is)
    (All-set (IsWithin (given ++ text)) held i (Given start end) (omega (arith, first, last), omega (arith, last, length-append given text)) (all_still given text held within))

pub as_byte : (b : Bool) → cond b 1 0 ≡ bool_byte b
as_byte true = refl
as_byte false = refl
