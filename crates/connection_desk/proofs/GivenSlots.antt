-- A slot of an owed answer is given its text.
use Rattle.std.proofs.Common.{◌≡◌, ℕ, ◌<◌, ◌≤◌, ◌==◌, not, Bool, true, false, cond, [], ◌∷◌, refl, sym, ap, ◌∙◌, arith}
use Rattle.std.proofs.lemmas.Bool.{ne_eqb}
use Rattle.std.specs.Global.{Vec}
use Rattle.std.specs.Vec.{vec_capacity}
use Rattle.connection_history.specs.declared.order.Order.{Order}
use Rattle.connection_history.specs.declared.order.Order.TheVariants.{AsAnswered, AsCame}
use Rattle.connection_steps.specs.Steps.{is_complete, complete_front, incomplete_rest, leaving, staying}
use Rattle.open_calls.specs.Numbered.{without, changed_at, Above}
use Rattle.owed_answers.specs.Owed.{OwedUnit}
use Rattle.connection_desk.specs.declared.events.Events.{Events}
use Rattle.connection_desk.specs.Inner.{OnlyAt, IsDesk, IsOpenEnded}
use Rattle.connection_desk.proofs.OwedLists.{Units, all_stay, none_first}

-- ---- what a desk keeps

filter_none : (b : Bool) (e : ℕ × OwedUnit) (es : Units) → b ≡ is_complete e.1 → leaving AsAnswered es ≡ [] → leaving AsAnswered (cond (not b) (e ∷ es) es) ≡ []
filter_none true e es is none = none
filter_none false e es is none = ap (λ d. cond d (e ∷ leaving AsAnswered es) (leaving AsAnswered es)) (sym is) ∙ none

front_none : (b : Bool) (e : ℕ × OwedUnit) (es rest : Units) → b ≡ is_complete e.1 → complete_front rest ≡ [] → complete_front (cond b rest (e ∷ es)) ≡ []
front_none true e es rest is none = none
front_none false e es rest is none = ap (λ d. cond d (e ∷ complete_front es) []) (sym is)

none_leaves : (order : Order) (owed : Units) → leaving order (staying order owed) ≡ []
none_leaves AsAnswered [] = refl
none_leaves AsAnswered (e ∷ es) = filter_none (is_complete e.1) e (staying AsAnswered es) refl (none_leaves AsAnswered es)
none_leaves AsCame [] = refl
none_leaves AsCame (e ∷ es) = front_none (is_complete e.1) e es (incomplete_rest es) refl (none_leaves AsCame es)

pub desk_stays : (order : Order) (owed now : Units) (is_over : Bool) (events : Events) (room : Vec ℕ) → (is_over ≡ false → IsOpenEnded events) → vec_capacity room ≤ 65536 → now ≡ staying order owed
    → IsDesk order now is_over events room
desk_stays order owed now is_over events room open_ended few is = record {
  settled = ap (leaving order) is ∙ none_leaves order owed;
  open_ended = open_ended;
  kept = few;
}

front_stays : (b : Bool) (e : ℕ × OwedUnit) (es front rest : Units) → cond b (e ∷ front) [] ≡ [] → cond b rest (e ∷ es) ≡ e ∷ es
front_stays true e es front rest is = absurd (cc)
front_stays false e es front rest is = refl

-- where nothing can go out, all stay
pub all_stays : (order : Order) (owed : Units) → leaving order owed ≡ [] → staying order owed ≡ owed
all_stays AsAnswered owed none = all_stay owed none
all_stays AsCame [] none = refl
all_stays AsCame (e ∷ es) none = front_stays (is_complete e.1) e es (complete_front es) (incomplete_rest es) none

-- ---- a slot is changed

only_step : (b : Bool) (f : OwedUnit → OwedUnit) (e : ℕ × OwedUnit) (rest : Units) → is_complete e.1 ≡ false → leaving AsAnswered rest ≡ []
    → leaving AsAnswered (cond (not b) ((e.0, cond b (f e.1) e.1) ∷ rest) rest) ≡ []
only_step true f e rest is none = none
only_step false f e rest is none = ap (λ d. cond d ((e.0, e.1) ∷ leaving AsAnswered rest) (leaving AsAnswered rest)) is ∙ none

pub only_changed : (order : Order) (place : ℕ) (f : OwedUnit → OwedUnit) (owed : Units) → leaving order owed ≡ [] → OnlyAt order place (changed_at place f owed)
only_changed AsCame place f owed none = tt
only_changed AsAnswered place f [] none = refl
only_changed AsAnswered place f (e ∷ es) none =
    let first = none_first (is_complete e.1) e (leaving AsAnswered es) none in
    only_step (place == e.0) f e (without place (changed_at place f es)) first.0 (only_changed AsAnswered place f es first.1)

-- ---- a unit that isn't there

apart : (n m : ℕ) → n < m → (n == m) ≡ false
apart n m lt = ne_eqb n m (λ same. omega arith)

pub changed_above : (n : ℕ) (f : OwedUnit → OwedUnit) (es : Units) → Above n es → changed_at n f es ≡ es
changed_above n f [] above = refl
changed_above n f (e ∷ es) above =
    ap (λ b. let d : ℕ × OwedUnit = (e.0, cond b (f e.1) e.1) in d ∷ changed_at n f es) (apart n e.0 above.0) ∙ ap (λ t. e ∷ t) (changed_above n f es above.1)
