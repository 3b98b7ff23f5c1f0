-- A compact text of JSON has no LF.
use Rattle.std.proofs.Common.{◌≡◌, ℕ, zero, suc, ◌+◌, ◌/◌, ◌%◌, ◌<◌, Bool, true, false, cond, not, ◌&&◌, ◌||◌, List, [], ◌∷◌, ◌++◌, refl, ap, ◌∙◌, arith}
use Rattle.std.specs.Prelude.{◌==◌, nat_lt, pos, negsuc, ℤ}
use Rattle.std.specs.List.{list_all, join_with_byte}
use Rattle.std.specs.Char.{digit_char}
use Rattle.std.specs.Fmt.{decimal, signed_decimal, digits, digits_onto, digit_glyph}
use Rattle.std.proofs.lemmas.Bool.Decides.{nat_tests}
use Rattle.std.proofs.lemmas.List.Folds.{list_all-append}
use Rattle.std.proofs.lemmas.List.Elements.{All-head, All-tail}
use Rattle.std.specs.Prelude.{All}
use Rattle.lsp_frames.specs.Frames.{HasNoLf}
use Rattle.json.specs.Print.{escape_letter, escape_byte, escape, quoted}
use Rattle.serde_json.specs.Data.{Num, unsigned, negative, float, Data, null, boolean, number, string, array, object, Items, no_items, item, Members, no_members, member}
use Rattle.serde_json.specs.Written.{comma_if, compact_text, items_text, members_text, number_text}

abbrev pub isnt_lf : ℕ → Bool
isnt_lf b = not (b == 10)

-- ---- texts behind texts

pub both : (front back : List ℕ) → HasNoLf front → HasNoLf back → HasNoLf (front ++ back)
both front back f b = list_all-append isnt_lf front back ∙ ap (λ t. t && list_all isnt_lf back) f ∙ b

pub behind : (b : ℕ) (bytes : List ℕ) → isnt_lf b ≡ true → HasNoLf bytes → HasNoLf (b ∷ bytes)
behind b bytes isnt rest = ap (λ t. t && list_all isnt_lf bytes) isnt ∙ rest

pub joined : (byte : ℕ) (texts : List (List ℕ)) → isnt_lf byte ≡ true → All HasNoLf texts → HasNoLf (join_with_byte byte texts)
joined byte [] isnt all = refl
joined byte (text ∷ []) isnt all = All-head HasNoLf text [] all
joined byte (text ∷ next ∷ texts) isnt all =
    both text (byte ∷ join_with_byte byte (next ∷ texts)) (All-head HasNoLf text (next ∷ texts) all)
    (behind byte (join_with_byte byte (next ∷ texts)) isnt (joined byte (next ∷ texts) isnt (All-tail HasNoLf text (next ∷ texts) all)))

-- ---- strings

over : (b : ℕ) → 10 < b → isnt_lf b ≡ true
over b more = grind (arith, nat_tests)

digit-is : (d : ℕ) → isnt_lf (digit_char d) ≡ true
digit-is d = go (nat_lt d 10)
  where
    go : (t : Bool) → isnt_lf (cond t (48 + d) (87 + d)) ≡ true
    go true = over (48 + d) (omega arith)
    go false = over (87 + d) (omega arith)

-- a letter of an escape
letter-is : (x : ℕ) → isnt_lf (escape_letter x) ≡ true
letter-is x = go ((x == 34) || (x == 92)) refl (x == 8) (x == 12) (x == 10) (x == 13) (x == 9)
  where
    quote : (a b : Bool) → (a || b) ≡ true → x == 34 ≡ a → x == 92 ≡ b → isnt_lf x ≡ true
    quote true b is one other = let here : x ≡ 34 = grind (arith, nat_tests) in ap isnt_lf here
    quote false true is one other = let here : x ≡ 92 = grind (arith, nat_tests) in ap isnt_lf here
    quote false false is one other = cc

    go : (q : Bool) → ((x == 34) || (x == 92)) ≡ q → (b f n r t : Bool)
        → isnt_lf (cond q x (cond b 98 (cond f 102 (cond n 110 (cond r 114 (cond t 116 0)))))) ≡ true
    go true is b f n r t = quote (x == 34) (x == 92) is refl refl
    go false is true f n r t = refl
    go false is false true n r t = refl
    go false is false false true r t = refl
    go false is false false false true t = refl
    go false is false false false false true = refl
    go false is false false false false false = refl

not-ten : (x : ℕ) → nat_lt 0 (escape_letter x) ≡ false → nat_lt x 32 ≡ false → isnt_lf x ≡ true
not-ten x none large = over x (grind (arith, nat_tests))

byte-is : (x : ℕ) → HasNoLf (escape_byte x)
unfolding escape_byte
byte-is x = go (nat_lt 0 (escape_letter x)) refl (nat_lt x 32) refl
  where
    go : (t : Bool) → nat_lt 0 (escape_letter x) ≡ t → (s : Bool) → nat_lt x 32 ≡ s
        → HasNoLf (cond t (92 ∷ escape_letter x ∷ []) (cond s (92 ∷ 117 ∷ 48 ∷ 48 ∷ digit_char (x / 16) ∷ digit_char (x % 16) ∷ []) (x ∷ [])))
    go true is s small = behind (escape_letter x) [] (letter-is x) refl
    go false is true small = behind (digit_char (x / 16)) (digit_char (x % 16) ∷ []) (digit-is (x / 16)) (behind (digit_char (x % 16)) [] (digit-is (x % 16)) refl)
    go false is false small = behind x [] (not-ten x is small) refl

escaped : (s : List ℕ) → HasNoLf (escape s)
escaped [] = refl
escaped (x ∷ s) = both (escape_byte x) (escape s) (byte-is x) (escaped s)

quoted-is : (s : List ℕ) → HasNoLf (quoted s)
quoted-is s = both (escape s) (34 ∷ []) (escaped s) refl

-- ---- numbers

glyph-is : (d : ℕ) → isnt_lf (digit_glyph false d) ≡ true
glyph-is d = go (nat_lt d 10)
  where
    go : (t : Bool) → isnt_lf (cond t (48 + d) (87 + d)) ≡ true
    go true = over (48 + d) (omega arith)
    go false = over (87 + d) (omega arith)

onto-is : (k n : ℕ) (acc : List ℕ) → HasNoLf acc → HasNoLf (digits_onto k 10 false n acc)
onto-is zero n acc none = none
onto-is (suc k) n acc none = go (n / 10 == 0) (λ h. onto-is k (n / 10) (digit_glyph false (n % 10) ∷ acc) h)
  where
    more : HasNoLf (digit_glyph false (n % 10) ∷ acc)
    more = behind (digit_glyph false (n % 10)) acc (glyph-is (n % 10)) none

    go : (t : Bool) → (HasNoLf (digit_glyph false (n % 10) ∷ acc) → HasNoLf (digits_onto k 10 false (n / 10) (digit_glyph false (n % 10) ∷ acc)))
        → HasNoLf (cond t (digit_glyph false (n % 10) ∷ acc) (digits_onto k 10 false (n / 10) (digit_glyph false (n % 10) ∷ acc)))
    go true again = more
    go false again = again more

decimal-is : (n : ℕ) → HasNoLf (decimal n)
unfolding digits
decimal-is n = onto-is 64 n [] refl

signed-is : (z : ℤ) → HasNoLf (signed_decimal z)
signed-is (pos n) = decimal-is n
signed-is (negsuc n) = decimal-is (suc n)

number-is : (n : Num) → HasNoLf (number_text n)
number-is (unsigned n) = decimal-is n
number-is (negative z) = signed-is z
number-is (float x) = refl

-- ---- values

comma-is : (later : Bool) → HasNoLf (comma_if later)
comma-is true = refl
comma-is false = refl

mutual
  pub text-is : (d : Data) → HasNoLf (compact_text d)
  text-is null = refl
  text-is (boolean true) = refl
  text-is (boolean false) = refl
  text-is (number n) = number-is n
  text-is (string s) = quoted-is s
  text-is (array ds) = items-are false ds
  text-is (object ms) = members-are false ms

  items-are : (later : Bool) (ds : Items) → HasNoLf (items_text later ds)
  items-are later no_items = refl
  items-are later (item d ds) = both (comma_if later) (compact_text d ++ items_text true ds) (comma-is later) (both (compact_text d) (items_text true ds) (text-is d) (items-are true ds))

  members-are : (later : Bool) (ms : Members) → HasNoLf (members_text later ms)
  members-are later no_members = refl
  members-are later (member k d ms) =
      both (comma_if later) (quoted k ++ 58 ∷ (compact_text d ++ members_text true ms)) (comma-is later)
      (both (quoted k) (58 ∷ (compact_text d ++ members_text true ms)) (quoted-is k) (both (compact_text d) (members_text true ms) (text-is d) (members-are true ms)))
