-- What a value can be, by the token that it begins with.
use Rattle.std.proofs.Common.{◌≡◌, ℕ, List, ◌∷◌, Option, Some, None, option_map, refl, sym, ap, ◌∙◌, subst}
use Rattle.std.specs.Prelude.{⊤}
use Rattle.json.specs.Token as spec
use Rattle.json.specs.Json as json
use Rattle.json.specs.Json.{Parse, parse_map, value, value_with}
use Rattle.json.specs.Reads.{token_of}
use Rattle.json.specs.declared.token.Token.{Token}
use Rattle.json.specs.declared.token.Token.TheVariants.{BeginObject, EndObject, BeginArray, EndArray, Key, String, Number, Bool, Null, Bad}
use Rattle.json.proofs.Grammar.{value_is}
use Rattle.json_reading.proofs.Reading.{converted-array, converted-object}
use Rattle.serde_json.specs.Data.{Num, Data, number, array, object}
use Rattle.serde_json.specs.Read.{number_of, of_json, converted}
use Rattle.rpc_messages.specs.Entry.{invalid, entry_of}
use Rattle.rpc_messages.specs.Unit.{single, value_unit}

abbrev Shows : (Data → Type 0) → Option (Data × List spec.Token) → Type 0
Shows P None = ⊤
Shows P (Some p) = P p.0

inside : {A : Type 0} (P : Data → Type 0) (f : A → Data) → ((a : A) → P (f a)) → (o : Option (A × List spec.Token)) → Shows P (parse_map f o)
inside P f each None = tt
inside P f each (Some p) = each p.0

numbers : (P : Data → Type 0) → ((n : Num) → P (number n)) → (ts : List spec.Token) (x : Option Num) → Shows P (option_map (λ d. (d, ts)) (option_map number x))
numbers P each ts None = tt
numbers P each ts (Some n) = each n

abbrev IsInvalid : Data → Type 0
IsInvalid d = invalid ≡ entry_of d

abbrev IsSingle : Data → Type 0
IsSingle d = single (entry_of d) ≡ value_unit d

not_object : (a : Parse json.Items) (o : Parse json.Members) (t : Token) (ts : List spec.Token) → (t ≡ BeginObject → ⊥) → Shows IsInvalid (converted of_json (value_with a o (token_of t ∷ ts)))
not_object a o BeginObject ts other = absurd (other refl)
not_object a o EndObject ts other = tt
not_object a o BeginArray ts other = subst (Shows IsInvalid) (sym (converted-array (a ts))) (inside IsInvalid array (λ ds. refl) _)
not_object a o EndArray ts other = tt
not_object a o (Key s) ts other = tt
not_object a o (String s) ts other = refl
not_object a o (Number s) ts other = numbers IsInvalid (λ n. refl) ts (number_of s.now)
not_object a o (Bool b) ts other = refl
not_object a o Null ts other = refl
not_object a o Bad ts other = tt

not_array : (a : Parse json.Items) (o : Parse json.Members) (t : Token) (ts : List spec.Token) → (t ≡ BeginArray → ⊥) → Shows IsSingle (converted of_json (value_with a o (token_of t ∷ ts)))
not_array a o BeginObject ts other = subst (Shows IsSingle) (sym (converted-object (o ts))) (inside IsSingle object (λ ms. refl) _)
not_array a o EndObject ts other = tt
not_array a o BeginArray ts other = absurd (other refl)
not_array a o EndArray ts other = tt
not_array a o (Key s) ts other = tt
not_array a o (String s) ts other = refl
not_array a o (Number s) ts other = numbers IsSingle (λ n. refl) ts (number_of s.now)
not_array a o (Bool b) ts other = refl
not_array a o Null ts other = refl
not_array a o Bad ts other = tt

-- what no brace opens is no message
pub invalid_unless_object : (depth : ℕ) (t : Token) (ts r : List spec.Token) (d : Data) → (t ≡ BeginObject → ⊥) → converted of_json (value depth (token_of t ∷ ts)) ≡ Some (d, r) → invalid ≡ entry_of d
invalid_unless_object depth t ts r d other is =
    subst (Shows IsInvalid) (sym (ap (converted of_json) (value_is depth (token_of t ∷ ts))) ∙ is) (not_object _ _ t ts other)

-- what no bracket opens is no batch
pub single_unless_array : (depth : ℕ) (t : Token) (ts r : List spec.Token) (d : Data) → (t ≡ BeginArray → ⊥) → converted of_json (value depth (token_of t ∷ ts)) ≡ Some (d, r) → single (entry_of d) ≡ value_unit d
single_unless_array depth t ts r d other is =
    subst (Shows IsSingle) (sym (ap (converted of_json) (value_is depth (token_of t ∷ ts))) ∙ is) (not_array _ _ t ts other)
