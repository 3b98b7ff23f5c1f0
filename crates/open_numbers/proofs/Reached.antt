-- Which entries a cancel reaches, and the numbers that stand for them.
use Rattle.std.proofs.Common.{◌≡◌, ◌&&◌, refl, ap, sym, ◌∙◌, Bool, true, false, not, if◌then◌else◌, is_some, true≢false, Option, Some, None}
use Rattle.message_ids.specs.declared.id.Id.{Id}
use Rattle.open_numbers.specs.declared.kept.Kept.{Kept}
use Rattle.open_numbers.specs.declared.kept.Kept.TheVariants.{Open, Answered}
use Rattle.message_ids.specs.Ids.{same_id, has_id}
use Rattle.open_numbers.specs.Requests.{is_reached_by, id_unless, id_in_reach_of, in_reach}
use Rattle.message_ids.proofs.Ids.{same-is}

pub and_false : (b : Bool) → (b && false) ≡ false
and_false true = refl
and_false false = refl

pub and_true : (b : Bool) → (b && true) ≡ b
and_true true = refl
and_true false = refl

-- a cancel reaches a request that is in reach exactly where it has its id

by_id : (marked : Bool) (own : Option Id) (id q : Id) → id_unless marked own ≡ Some id → (has_id q own && not marked) ≡ same_id id q
by_id false (Some own) id q is = and_true (same_id own q) ∙ ap (has_id q) is
by_id false None id q is = cc
by_id true own id q is = cc

pub reached-some : (entry : Option Kept) (id q : Id) → id_in_reach_of entry ≡ Some id → is_reached_by q entry ≡ same_id id q
reached-some (Some (Open n)) id q is = by_id n.is_marked n.id id q is
reached-some (Some (Answered other reply)) id q is = cc
reached-some None id q is = cc

by_none : (marked : Bool) (own : Option Id) (q : Id) → id_unless marked own ≡ None → (has_id q own && not marked) ≡ false
by_none false (Some own) q is = cc
by_none false None q is = refl
by_none true own q is = and_false (has_id q own)

pub reached-none : (entry : Option Kept) (q : Id) → id_in_reach_of entry ≡ None → is_reached_by q entry ≡ false
reached-none (Some (Open n)) q is = by_none n.is_marked n.id q is
reached-none (Some (Answered other reply)) q is = refl
reached-none None q is = refl

own_id : (marked : Bool) (own : Option Id) (id : Id) → (has_id id own && not marked) ≡ true → id_unless marked own ≡ Some id
own_id false (Some own) id hit = ap Some (same-is own id (sym (and_true (same_id own id)) ∙ hit))
own_id false None id hit = absurd (true≢false (sym hit))
own_id true own id hit = absurd (true≢false (sym hit ∙ and_false (has_id id own)))

-- what a cancel reaches is in reach by that id
pub reached-id : (entry : Option Kept) (id : Id) → is_reached_by id entry ≡ true → id_in_reach_of entry ≡ Some id
reached-id (Some (Open n)) id hit = own_id n.is_marked n.id id hit
reached-id (Some (Answered other reply)) id hit = absurd (true≢false (sym hit))
reached-id None id hit = absurd (true≢false (sym hit))

pub reached-one : (entry : Option Kept) (id : Id) → is_reached_by id entry ≡ true → in_reach entry ≡ 1
reached-one entry id hit = ap (λ o. if is_some o then 1 else 0) (reached-id entry id hit)
