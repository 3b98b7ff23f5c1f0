-- What holds in one of two cases.
use Rattle.std.proofs.Common.{◌≡◌, ◌||◌, Bool, true, false, Result, Ok, Err, OnOk, OnErr, refl}

pub either_false : (a b : Bool) → (a || b) ≡ false → (a ≡ false) × (b ≡ false)
either_false true b none = absurd (let e : true ≡ false = none in cc)
either_false false b none = (refl, none)

pub either_of : (a b : Bool) (P : Type 0) → (a || b) ≡ true → (a ≡ true → P) → (b ≡ true → P) → P
either_of true b P is first second = first refl
either_of false b P is first second = second is

pub if_ok : {X E P Q : Type 0} (r : Result X E) → (P → Q) → OnOk r P → OnOk r Q
if_ok (Ok x) f p = f p
if_ok (Err e) f p = tt

pub if_err : {X E P Q : Type 0} (r : Result X E) → (P → Q) → OnErr r P → OnErr r Q
if_err (Ok x) f p = tt
if_err (Err e) f p = f p

pub on_err : {X E P : Type 0} (r : Result X E) → P → OnErr r P
on_err (Ok x) p = tt
on_err (Err e) p = p
