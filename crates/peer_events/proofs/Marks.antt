-- What a cancel marks at the desk, and which requests it reaches.
use Rattle.std.proofs.Common.{◌≡◌, ◌≢◌, Bool, true, false, not, ◌&&◌, ◌||◌, Option, Some, None, Decides, refl, sym}
use Rattle.std.specs.Cmp.{unsigned_Decides, signed_Decides}
use Rattle.std.specs.Cmp.Lexicographic.{bytes_decides}
use Rattle.std.specs.Option.{option_map, option_map_or}
use Rattle.message_ids.specs.declared.id.Id.{Id}
use Rattle.message_ids.specs.declared.id.Id.TheVariants.{Null, Text, Signed, Unsigned}
use Rattle.message_ids.specs.Ids.{same_id, has_id}
use Rattle.open_numbers.specs.declared.open_call.OpenCall.{OpenCall}
use Rattle.open_numbers.specs.OpenCalls.{marked, is_in_reach, is_marked_number}

-- ---- equal ids, either way round

turned : {A : Type 0} (a b : A) (p q : Bool) → Decides p (a ≡ b) → Decides q (b ≡ a) → p ≡ q
turned a b true true d e = refl
turned a b false false d e = refl
turned a b true false d e = let same : false ≡ true = e.1 (sym (d.0 refl)) in cc
turned a b false true d e = let same : false ≡ true = d.1 (sym (e.0 refl)) in cc

pub id-turned : (a b : Id) → same_id a b ≡ same_id b a
id-turned Null Null = refl
id-turned Null (Text b) = refl
id-turned Null (Signed b) = refl
id-turned Null (Unsigned b) = refl
id-turned (Text a) Null = refl
id-turned (Text a) (Text b) = turned a b _ _ (bytes_decides a b) (bytes_decides b a)
id-turned (Text a) (Signed b) = refl
id-turned (Text a) (Unsigned b) = refl
id-turned (Signed a) Null = refl
id-turned (Signed a) (Text b) = refl
id-turned (Signed a) (Signed b) = turned a b _ _ (signed_Decides a b) (signed_Decides b a)
id-turned (Signed a) (Unsigned b) = refl
id-turned (Unsigned a) Null = refl
id-turned (Unsigned a) (Text b) = refl
id-turned (Unsigned a) (Signed b) = refl
id-turned (Unsigned a) (Unsigned b) = turned a b _ _ (unsigned_Decides a b) (unsigned_Decides b a)

-- whether a cancel of the one id is a cancel of a request with the other
pub reaches-turned : (id : Id) (own : Option Id) → has_id id own ≡ option_map_or (λ i. has_id i (Some id)) own false
reaches-turned id None = refl
reaches-turned id (Some own) = id-turned own id

-- ---- one that a cancel can reach, and one that it has reached

and-parts : (a b : Bool) → (a && b) ≡ true → (a ≡ true) × (b ≡ true)
and-parts true true is = (refl, refl)
and-parts true false is = cc
and-parts false b is = cc

and-none : (b : Bool) → (b && false) ≡ false
and-none true = refl
and-none false = refl

pub reach-open : (id : Id) (o : Option OpenCall) → is_in_reach id o ≡ true → o ≢ None
reach-open id None is none = cc
reach-open id (Some kept) is none = cc

pub reach-unmarked : (id : Id) (o : Option OpenCall) → is_in_reach id o ≡ true → is_marked_number o ≡ false
reach-unmarked id None is = refl
reach-unmarked id (Some kept) is = by_mark kept.is_marked (and-parts (has_id id kept.id) (not kept.is_marked) is).1
  where
    by_mark : (b : Bool) → not b ≡ true → b ≡ false
    by_mark true is = cc
    by_mark false is = refl

-- what a cancel reaches has its id
pub reach-id : (id : Id) (kept : OpenCall) → is_in_reach id (Some kept) ≡ true → true ≡ (kept.is_marked || has_id id kept.id)
reach-id id kept is = by_mark kept.is_marked (has_id id kept.id) (and-parts (has_id id kept.id) (not kept.is_marked) is).0
  where
    by_mark : (marked own : Bool) → own ≡ true → true ≡ (marked || own)
    by_mark true own is = refl
    by_mark false own is = sym is

-- what it doesn't reach is marked, or hasn't
pub reach-none : (id : Id) (kept : OpenCall) → is_in_reach id (Some kept) ≡ false → kept.is_marked ≡ (kept.is_marked || has_id id kept.id)
reach-none id kept is = by_mark kept.is_marked (has_id id kept.id) is
  where
    by_mark : (marked own : Bool) → (own && not marked) ≡ false → marked ≡ (marked || own)
    by_mark true own is = refl
    by_mark false true is = cc
    by_mark false false is = refl

-- and once it has been there, it reaches it no more
pub reached-out : (id : Id) (o : Option OpenCall) → is_in_reach id (option_map marked o) ≡ false
reached-out id None = refl
reached-out id (Some kept) = and-none (has_id id kept.id)
