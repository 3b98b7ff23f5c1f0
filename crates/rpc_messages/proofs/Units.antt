-- Laws of numbers, of what is taken and of what is due, over units one after another.
use Rattle.std.proofs.Common.{◌≡◌, ℕ, ◌+◌, ◌-◌, ◌≤◌, List, [], ◌∷◌, ◌++◌, true, false, refl, sym, ap, ◌∙◌, arith, append_assoc}
use Rattle.rpc_messages.specs.declared.reply.Reply.{Reply}
use Rattle.rpc_messages.specs.Unit.{SeenUnit}
use Rattle.rpc_messages.specs.Numbering.{unit_numbers, units_numbers, taken, is_cut}
use Rattle.rpc_messages.specs.Dues.{dues, unit_dues}

pub units_numbers-append : (us vs : List SeenUnit) → units_numbers (us ++ vs) ≡ units_numbers us + units_numbers vs
units_numbers-append [] vs = omega arith
units_numbers-append (u ∷ us) vs = omega (arith, units_numbers-append us vs)

-- Where nothing is cut off, all is taken, and it needs no more numbers than were left.
pub taken-uncut : (room : ℕ) (us : List SeenUnit) → is_cut room us ≡ false → taken room us ≡ us
taken-uncut room [] h = refl
taken-uncut room (u ∷ us) h = grind (arith, taken-uncut (room - unit_numbers u) us)

pub units_numbers-uncut : (room : ℕ) (us : List SeenUnit) → is_cut room us ≡ false → units_numbers us ≤ room
units_numbers-uncut room [] h = omega arith
units_numbers-uncut room (u ∷ us) h = grind (arith, units_numbers-uncut (room - unit_numbers u) us)

-- More units go on where those before them end.
pub taken-append : (room : ℕ) (us vs : List SeenUnit) → is_cut room us ≡ false → taken room (us ++ vs) ≡ us ++ taken (room - units_numbers us) vs
taken-append room [] vs h = ap (λ r. taken r vs) (omega arith)
taken-append room (u ∷ us) vs h = grind (arith, taken-append (room - unit_numbers u) us vs)

pub is_cut-append : (room : ℕ) (us vs : List SeenUnit) → is_cut room us ≡ false → is_cut room (us ++ vs) ≡ is_cut (room - units_numbers us) vs
is_cut-append room [] vs h = ap (λ r. is_cut r vs) (omega arith)
is_cut-append room (u ∷ us) vs h = grind (arith, is_cut-append (room - unit_numbers u) us vs)

-- Where something was cut off, more units change nothing.
pub taken-cut : (room : ℕ) (us vs : List SeenUnit) → is_cut room us ≡ true → taken room (us ++ vs) ≡ taken room us
taken-cut room [] vs h = absurd (cc)
taken-cut room (u ∷ us) vs h = grind (arith, taken-cut (room - unit_numbers u) us vs)

pub is_cut-cut : (room : ℕ) (us vs : List SeenUnit) → is_cut room us ≡ true → is_cut room (us ++ vs) ≡ true
is_cut-cut room [] vs h = absurd (cc)
is_cut-cut room (u ∷ us) vs h = grind (arith, is_cut-cut (room - unit_numbers u) us vs)

pub dues-append : (choice : ℕ → Reply) (n : ℕ) (us vs : List SeenUnit) → dues choice n (us ++ vs) ≡ dues choice n us ++ dues choice (n + units_numbers us) vs
dues-append choice n [] vs = ap (λ m. dues choice m vs) (omega arith)
dues-append choice n (u ∷ us) vs =
    ap (λ ds. unit_dues choice n u ++ ds) (dues-append choice (n + unit_numbers u) us vs
    ∙ ap (λ m. dues choice (n + unit_numbers u) us ++ dues choice m vs) (omega arith))
    ∙ sym (append_assoc (unit_dues choice n u) (dues choice (n + unit_numbers u) us) (dues choice (n + (unit_numbers u + units_numbers us)) vs))
