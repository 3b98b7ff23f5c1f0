-- One mark of a set of numbers.
use Rattle.std.proofs.Common.{◌≡◌, ◌≢◌, ℕ, zero, suc, ◌-◌, ◌==◌, ◌<◌, ◌≤◌, ◌&&◌, nat_le, List, [], ◌∷◌, length, set, slice_index_or, Bool, true, false, refl, sym, subst, arith}
use Rattle.std.proofs.lemmas.List.{get_or-set_other, get_or-set_same, length-set}
use Rattle.std.specs.Cmp.{unsigned_Decides}
use Rattle.number_set.specs.Numbers.{Marked, HasRoom, is_in, with_mark}

-- ---- each number is this one or another

each_of_if : (P : ℕ → Type 0) (n k : ℕ) (hit : Bool) → (n == k) ≡ hit → P n → (k ≢ n → P k) → P k
each_of_if P n k true is here other = subst P ((unsigned_Decides n k).0 is) here
each_of_if P n k false is here other = other (λ same. absurd (let hit : (n == k) ≡ true = (unsigned_Decides n k).1 (sym same) in cc))

pub each-number : (P : ℕ → Type 0) (n : ℕ) → P n → ((k : ℕ) → k ≢ n → P k) → (k : ℕ) → P k
each-number P n here other k = each_of_if P n k (n == k) refl here (other k)

-- ---- marks

at_least : (a b : ℕ) → a ≤ b → nat_le a b ≡ true
at_least a b h = grind (arith, h)

at_most : (a b : ℕ) → nat_le a b ≡ true → a ≤ b
at_most a b h = grind (arith, h)

within : (s : Marked) (n : ℕ) → HasRoom s n → n - s.first < length s.marks
within s n room = omega (arith, room.0, room.1)

marked-in : (n : ℕ) (s : Marked) → HasRoom s n → is_in (with_mark true n s) n ≡ true
marked-in n s room =
    let first : nat_le s.first n ≡ true = at_least s.first n room.0 in
    rw (first, first) (get_or-set_same s.marks (n - s.first) true false (within s n room))

unset : (i : ℕ) (marks : List Bool) → slice_index_or (set marks i false) i false ≡ false
unset i [] = refl
unset zero (mark ∷ marks) = refl
unset (suc i) (mark ∷ marks) = unset i marks

unmarked-if : (known : Bool) (n : ℕ) (s : Marked) → nat_le s.first n ≡ known → is_in (with_mark false n s) n ≡ false
unmarked-if true n s is = rw (is, is) (unset (n - s.first) s.marks)
unmarked-if false n s is = rw (is, is) refl

pub marked-here : (mark : Bool) (n : ℕ) (s : Marked) → (mark ≡ true → HasRoom s n) → is_in (with_mark mark n s) n ≡ mark
marked-here true n s room = marked-in n s (room refl)
marked-here false n s room = unmarked-if (nat_le s.first n) n s refl

other-at : (reached : Bool) (mark : Bool) (n k : ℕ) (s : Marked) → nat_le s.first k ≡ reached → s.first ≤ n → k ≢ n
    → (nat_le s.first k && slice_index_or (set s.marks (n - s.first) mark) (k - s.first) false) ≡ (nat_le s.first k && slice_index_or s.marks (k - s.first) false)
other-at false mark n k s is first apart = rw is refl
other-at true mark n k s is first apart =
    let apart_there : (k - s.first) ≢ (n - s.first) = λ same. apart (omega (arith, same, first, at_most s.first k is)) in
    rw is (get_or-set_other s.marks (n - s.first) (k - s.first) mark false apart_there)

other-if : (known : Bool) (mark : Bool) (n k : ℕ) (s : Marked) → nat_le s.first n ≡ known → k ≢ n → is_in (with_mark mark n s) k ≡ is_in s k
other-if false mark n k s is apart = rw is refl
other-if true mark n k s is apart = rw is (other-at (nat_le s.first k) mark n k s refl (at_most s.first n is) apart)

pub marked-other : (mark : Bool) (n k : ℕ) (s : Marked) → k ≢ n → is_in (with_mark mark n s) k ≡ is_in s k
marked-other mark n k s apart = other-if (nat_le s.first n) mark n k s refl apart

room-if : (known : Bool) (mark : Bool) (n k : ℕ) (s : Marked) → nat_le s.first n ≡ known → HasRoom s k → HasRoom (with_mark mark n s) k
room-if true mark n k s is room = rw is (room.0, omega (arith, room.1, length-set s.marks (n - s.first) mark))
room-if false mark n k s is room = rw is room

pub marked-room : (mark : Bool) (n k : ℕ) (s : Marked) → HasRoom s k → HasRoom (with_mark mark n s) k
marked-room mark n k s room = room-if (nat_le s.first n) mark n k s refl room
