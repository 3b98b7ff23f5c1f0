-- What holds of one outcome, and the text of one token.
use Rattle.std.proofs.Common.{◌≡◌, ℕ, List, [], ◌∷◌, ◌++◌, take, length, Result, Ok, Err, OnOk, OnErr, is_ok, if◌then◌else◌, refl, ap, sym, subst, ◌∙◌, arith}
use Rattle.std.proofs.lemmas.Grind.{common_steps}
use Rattle.std.proofs.lemmas.List.{append-nil, take_at}
use Rattle.std.specs.Io.{StartsWith}
use Rattle.json.specs.Token as token
use Rattle.json.specs.Print.{print, print_from, quoted}

pub OnOk-follows : {X E P Q : Type 0} (r : Result X E) → (P → Q) → OnOk r P → OnOk r Q
OnOk-follows (Ok x) f p = f p
OnOk-follows (Err e) f p = p

pub OnErr-follows : {X E P Q : Type 0} (r : Result X E) → (P → Q) → OnErr r P → OnErr r Q
OnErr-follows (Ok x) f p = p
OnErr-follows (Err e) f p = f p

pub print-string : (s : List ℕ) → print (token.string s ∷ []) ≡ quoted s
unfolding print_from
print-string s = append-nil (quoted s)

-- ---- what stands in front of bytes behind which more was put

pub starts_with_append : (bytes front rest : List ℕ) → bytes ≡ front ++ rest → StartsWith bytes front
starts_with_append bytes front rest is = ap (take (length front)) is ∙ take_at front rest (length front) refl

pub starts_with_trans : (bytes middle front : List ℕ) → StartsWith bytes middle → StartsWith middle front → StartsWith bytes front
starts_with_trans bytes middle front h k = grind (arith, common_steps)

-- ---- the last of several parts

pub on_err : {X E P : Type 0} (r : Result X E) → P → OnErr r P
on_err (Ok x) p = tt
on_err (Err e) p = p

pub put_last : {X E : Type 0} (r : Result X E) (whole part new : List ℕ) → new ≡ (if is_ok r then whole else part) → OnOk r (new ≡ whole)
put_last (Ok x) whole part new h = h
put_last (Err e) whole part new h = tt

pub last_front : {X E : Type 0} (r : Result X E) (whole part new front : List ℕ) → new ≡ (if is_ok r then whole else part) → StartsWith part front → OnErr r (StartsWith new front)
last_front (Ok x) whole part new front h k = tt
last_front (Err e) whole part new front h k = subst (λ bytes. StartsWith bytes front) (sym h) k

-- a fact that holds whatever the outcome
pub always : {X E P : Type 0} (r : Result X E) → P → OnOk r P
always (Ok x) p = p
always (Err e) p = tt
