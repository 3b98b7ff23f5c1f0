-- What holds of a result, carried on.
use Rattle.std.proofs.Common.{◌≡◌, Result, Ok, Err, Some, None, IfOk, OnOk, OnErr, subst}
use Rattle.std.specs.Prelude.{IfErr}
use Rattle.std.specs.Result.{result_ok}

pub on-ok : {A E X : Type 0} (r : Result A E) → X → OnOk r X
on-ok (Ok a) x = x
on-ok (Err e) x = tt

pub on-err : {A E X : Type 0} (r : Result A E) → X → OnErr r X
on-err (Ok a) x = tt
on-err (Err e) x = x

pub OnOk-map : {A E P Q : Type 0} (r : Result A E) → (P → Q) → OnOk r P → OnOk r Q
OnOk-map (Ok a) f p = f p
OnOk-map (Err e) f p = tt

pub OnErr-map : {A E P Q : Type 0} (r : Result A E) → (P → Q) → OnErr r P → OnErr r Q
OnErr-map (Ok a) f p = tt
OnErr-map (Err e) f p = f p

pub IfOk-map : {A E : Type 0} {P Q : A → Type 0} (r : Result A E) → ((a : A) → P a → Q a) → IfOk r P → IfOk r Q
IfOk-map (Ok a) f p = f a p
IfOk-map (Err e) f p = tt

pub OnOk-with : {A E P Q R T : Type 0} (r : Result A E) → (P → Q → R → T) → OnOk r P → OnOk r Q → OnOk r R → OnOk r T
OnOk-with (Ok a) f p q t = f p q t
OnOk-with (Err e) f p q t = tt

pub IfErr-with : {A E : Type 0} {P Q R T : E → Type 0} (r : Result A E) → ((e : E) → P e → Q e → R e → T e) → IfErr r P → IfErr r Q → IfErr r R → IfErr r T
IfErr-with (Ok a) f p q t = tt
IfErr-with (Err e) f p q t = f e p q t

-- ---- what a result gives, where its fault is let go

pub of-given : {A E : Type 0} (P : A → Type 0) (r : Result A E) (a : A) → result_ok r ≡ Some a → IfOk r P → P a
of-given P (Ok b) a is p = let same : b ≡ a = cc in subst P same p
of-given P (Err e) a is p = absurd (cc)

pub of-refused : {A E P : Type 0} (r : Result A E) → result_ok r ≡ None → OnErr r P → P
of-refused (Ok a) is p = absurd (cc)
of-refused (Err e) is p = p
