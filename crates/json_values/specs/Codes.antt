-- A code of JSON data: a tree of numbers that gives the data back. Contracts see a `Json` as its data, and what a value
-- is seen as needs such a code, by which a proof tells two values apart.
use Rattle.std.specs.Prelude.{◌≡◌, ℕ, zero, suc, List, [], ◌∷◌, Bool, true, false, refl, ℤ, pos, negsuc, Float}
use base.Stored.{Gv, gnil, gnum, gcons, Coded}
use lib.Ieee.{nan, inf, fin}
use mathlib.Core.Path.{ap, sym, ◌∙◌}
use Rattle.serde_json.specs.Data.{Num, unsigned, negative, float, Data, null, boolean, number, string, array, object, Items, no_items, item, Members, no_members, member}

-- ---- parts of a tree

abbrev pub count : Gv → ℕ
count gnil = 0
count (gnum n) = n
count (gcons a b) = 0

abbrev pub first : Gv → Gv
first gnil = gnil
first (gnum n) = gnil
first (gcons a b) = a

abbrev pub second : Gv → Gv
second gnil = gnil
second (gnum n) = gnil
second (gcons a b) = b

-- ---- truth values, texts and numbers

abbrev pub truth_code : Bool → Gv
truth_code true = gnum 1
truth_code false = gnum 0

abbrev pub truth_at : ℕ → Bool
truth_at zero = false
truth_at (suc n) = true

pub truth_back : (b : Bool) → truth_at (count (truth_code b)) ≡ b
truth_back true = refl
truth_back false = refl

abbrev pub text_code : List ℕ → Gv
text_code [] = gnil
text_code (b ∷ bs) = gcons (gnum b) (text_code bs)

abbrev pub text_at : Gv → List ℕ
text_at gnil = []
text_at (gnum n) = []
text_at (gcons a b) = count a ∷ text_at b

pub text_back : (bs : List ℕ) → text_at (text_code bs) ≡ bs
text_back [] = refl
text_back (b ∷ bs) = ap (λ t. b ∷ t) (text_back bs)

abbrev pub whole_code : ℤ → Gv
whole_code (pos n) = gcons (gnum 0) (gnum n)
whole_code (negsuc n) = gcons (gnum 1) (gnum n)

abbrev pub whole_by : ℕ → ℕ → ℤ
whole_by zero n = pos n
whole_by (suc k) n = negsuc n

abbrev pub whole_at : Gv → ℤ
whole_at g = whole_by (count (first g)) (count (second g))

pub whole_back : (z : ℤ) → whole_at (whole_code z) ≡ z
whole_back (pos n) = refl
whole_back (negsuc n) = refl

abbrev pub float_code : Float → Gv
float_code nan = gnil
float_code (inf s) = truth_code s
float_code (fin s m e) = gcons (truth_code s) (gcons (gnum m) (whole_code e))

abbrev pub float_at : Gv → Float
float_at gnil = nan
float_at (gnum n) = inf (truth_at n)
float_at (gcons a b) = fin (truth_at (count a)) (count (first b)) (whole_at (second b))

pub float_back : (x : Float) → float_at (float_code x) ≡ x
float_back nan = refl
float_back (inf true) = refl
float_back (inf false) = refl
float_back (fin s m e) = λ i. fin (truth_back s i) m (whole_back e i)

abbrev pub number_code : Num → Gv
number_code (unsigned n) = gnum n
number_code (negative z) = gcons (gnum 0) (whole_code z)
number_code (float x) = gcons (gnum 1) (float_code x)

abbrev pub number_by : ℕ → Gv → Num
number_by zero g = negative (whole_at g)
number_by (suc n) g = float (float_at g)

abbrev pub number_at : Gv → Num
number_at gnil = unsigned 0
number_at (gnum n) = unsigned n
number_at (gcons a b) = number_by (count a) b

pub number_back : (n : Num) → number_at (number_code n) ≡ n
number_back (unsigned n) = refl
number_back (negative z) = ap negative (whole_back z)
number_back (float x) = ap float (float_back x)

-- ---- data

abbrev mutual
  pub data_code : Data → Gv
  data_code null = gnil
  data_code (boolean b) = truth_code b
  data_code (number n) = gcons (gnum 0) (number_code n)
  data_code (string s) = gcons (gnum 1) (text_code s)
  data_code (array ds) = gcons (gnum 2) (items_code ds)
  data_code (object ms) = gcons (gnum 3) (members_code ms)

  pub items_code : Items → Gv
  items_code no_items = gnil
  items_code (item d ds) = gcons (data_code d) (items_code ds)

  pub members_code : Members → Gv
  members_code no_members = gnil
  members_code (member k d ms) = gcons (gcons (text_code k) (data_code d)) (members_code ms)

abbrev pub data_by : ℕ → Gv → Items → Members → Data
data_by zero g ds ms = number (number_at g)
data_by (suc zero) g ds ms = string (text_at g)
data_by (suc (suc zero)) g ds ms = array ds
data_by (suc (suc (suc n))) g ds ms = object ms

-- what a tree is as data, as items, as members, and as one member's value
abbrev pub read_back : Gv → Data × Items × Members × Data
read_back gnil = (null, no_items, no_members, null)
read_back (gnum n) = (boolean (truth_at n), no_items, no_members, null)
read_back (gcons a b) = (data_by (count a) b (read_back b).1 (read_back b).2, item (read_back a).0 (read_back b).1, member (text_at (first a)) (read_back a).3 (read_back b).2, (read_back b).0)

mutual
  pub data_back : (d : Data) → (read_back (data_code d)).0 ≡ d
  data_back null = refl
  data_back (boolean true) = refl
  data_back (boolean false) = refl
  data_back (number n) = ap number (number_back n)
  data_back (string s) = ap string (text_back s)
  data_back (array ds) = ap array (items_back ds)
  data_back (object ms) = ap object (members_back ms)

  pub items_back : (ds : Items) → (read_back (items_code ds)).1 ≡ ds
  items_back no_items = refl
  items_back (item d ds) = λ i. item (data_back d i) (items_back ds i)

  pub members_back : (ms : Members) → (read_back (members_code ms)).2 ≡ ms
  members_back no_members = refl
  members_back (member k d ms) = λ i. member (text_back k i) (data_back d i) (members_back ms i)

abbrev pub coded_data : Coded Data
coded_data = record {
  code = data_code;
  inj = λ x y same. sym (data_back x) ∙ ap (λ g. (read_back g).0) same ∙ data_back y;
}

abbrev pub coded_members : Coded Members
coded_members = record {
  code = members_code;
  inj = λ x y same. sym (members_back x) ∙ ap (λ g. (read_back g).2) same ∙ members_back y;
}
