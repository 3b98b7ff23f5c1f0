-- A pointer of one digit leads to that item of an array.
use Rattle.std.proofs.Common.{◌≡◌, ℕ, zero, suc, ◌+◌, ◌-◌, ◌<◌, ◌≤◌, List, [], ◌∷◌, length, get_or, true, is_some, refl, sym, ap, ◌∙◌, arith}
use Rattle.std.proofs.lemmas.Grind.{common_steps}
use Rattle.std.specs.Char.{is_ascii_digit}
use Rattle.serde_json.specs.Data.{Data, null, boolean, number, string, array, object, Items}
use Rattle.serde_json.specs.Find.{as_array, at, get_item, pointer}
use Rattle.serde_json.proofs.OnLiterals.{serde_json_on_literals}

leads : (n : ℕ) → n < 10 → (ds : Items) → pointer (47 ∷ (48 + n) ∷ []) (array ds) ≡ get_item n ds
unfolding serde_json_on_literals
leads zero h ds = refl
leads (suc zero) h ds = refl
leads (suc (suc zero)) h ds = refl
leads (suc (suc (suc zero))) h ds = refl
leads (suc (suc (suc (suc zero)))) h ds = refl
leads (suc (suc (suc (suc (suc zero))))) h ds = refl
leads (suc (suc (suc (suc (suc (suc zero)))))) h ds = refl
leads (suc (suc (suc (suc (suc (suc (suc zero))))))) h ds = refl
leads (suc (suc (suc (suc (suc (suc (suc (suc zero)))))))) h ds = refl
leads (suc (suc (suc (suc (suc (suc (suc (suc (suc zero))))))))) h ds = refl
leads (suc (suc (suc (suc (suc (suc (suc (suc (suc (suc n)))))))))) h ds = let no : ⊥ = omega arith in absurd no

two : (p : List ℕ) (x y : ℕ) → length p ≡ 2 → get_or p 0 0 ≡ x → get_or p 1 0 ≡ y → p ≡ x ∷ y ∷ []
two [] x y long first second = let no : ⊥ = omega arith in absurd no
two (a ∷ []) x y long first second = let no : ⊥ = omega arith in absurd no
two (a ∷ b ∷ []) x y long first second = rw (first, second)
two (a ∷ b ∷ c ∷ r) x y long first second = let no : ⊥ = omega arith in absurd no

bounds : (x : ℕ) → is_ascii_digit x ≡ true → (48 ≤ x) × (x < 58)
bounds x h = (grind (arith, common_steps), grind (arith, common_steps))

pub digit_leads : (p : List ℕ) (x : ℕ) → length p ≡ 2 → get_or p 0 0 ≡ 47 → get_or p 1 0 ≡ x → is_ascii_digit x ≡ true
    → (ds : Items) → pointer p (array ds) ≡ get_item (x - 48) ds
digit_leads p x long slash digit is ds =
    let (low, high) = bounds x is in
    let again : 48 + (x - 48) ≡ x = omega (arith, low) in
    ap (λ q. pointer q (array ds)) (two p 47 (48 + (x - 48)) long slash (digit ∙ sym again)) ∙ leads (x - 48) (omega (arith, low, high)) ds

pub item_is_pointed_at : (d : Data) (i : ℕ) (p : List ℕ) → is_some (as_array d) ≡ true
    → ((ds : Items) → pointer p (array ds) ≡ get_item i ds) → at i d ≡ pointer p d
item_is_pointed_at null i p h leads = cc
item_is_pointed_at (boolean b) i p h leads = cc
item_is_pointed_at (number n) i p h leads = cc
item_is_pointed_at (string s) i p h leads = cc
item_is_pointed_at (array ds) i p h leads = sym (leads ds)
item_is_pointed_at (object ms) i p h leads = cc
