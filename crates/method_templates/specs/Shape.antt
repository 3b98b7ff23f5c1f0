-- What a template is: a JSON value with places that registers fill.
use Rattle.std.specs.Prelude.{◌≡◌, ℕ, zero, suc, ◌+◌, max, List, refl}
use base.Stored.{Gv, gnil, gnum, gcons, Coded}
use mathlib.Core.Path.{ap, sym, ◌∙◌}
use Rattle.serde_json.specs.Data.{Data, null}
use Rattle.json_values.specs.Codes.{count, first, second, text_code, text_at, text_back, data_code, data_back, read_back as data_at}

mutual
  pub data Shape : Type 0 where
    -- a value that stands for itself
    plain : Data → Shape
    -- the place in the register of that name that the JSON Pointer leads to
    place : List ℕ → List ℕ → Shape
    list : Shapes → Shape
    members : Parts → Shape

  pub data Shapes : Type 0 where
    no_shapes : Shapes
    shape : Shape → Shapes → Shapes

  -- members, by their keys
  pub data Parts : Type 0 where
    no_parts : Parts
    part : List ℕ → Shape → Parts → Parts

-- how many templates stand in a template, itself counted
abbrev mutual
  pub size_of : Shape → ℕ
  size_of (plain d) = 1
  size_of (place name pointer) = 1
  size_of (list ts) = 1 + shapes_size ts
  size_of (members ms) = 1 + parts_size ms

  pub shapes_size : Shapes → ℕ
  shapes_size no_shapes = 0
  shapes_size (shape t ts) = size_of t + shapes_size ts

  pub parts_size : Parts → ℕ
  parts_size no_parts = 0
  parts_size (part k t ms) = size_of t + parts_size ms

-- a scalar is 1 deep, an array or an object one more than its deepest member
abbrev mutual
  pub depth : Shape → ℕ
  depth (plain d) = 1
  depth (place name pointer) = 1
  depth (list ts) = suc (shapes_depth ts)
  depth (members ms) = suc (parts_depth ms)

  pub shapes_depth : Shapes → ℕ
  shapes_depth no_shapes = 0
  shapes_depth (shape t ts) = max (depth t) (shapes_depth ts)

  pub parts_depth : Parts → ℕ
  parts_depth no_parts = 0
  parts_depth (part k t ms) = max (depth t) (parts_depth ms)

-- ---- a code, by which a proof tells two shapes apart

abbrev mutual
  pub shape_code : Shape → Gv
  shape_code (plain d) = gcons (gnum 0) (data_code d)
  shape_code (place name pointer) = gcons (gnum 1) (gcons (text_code name) (text_code pointer))
  shape_code (list ts) = gcons (gnum 2) (shapes_code ts)
  shape_code (members ms) = gcons (gnum 3) (parts_code ms)

  pub shapes_code : Shapes → Gv
  shapes_code no_shapes = gnil
  shapes_code (shape t ts) = gcons (shape_code t) (shapes_code ts)

  pub parts_code : Parts → Gv
  parts_code no_parts = gnil
  parts_code (part k t ms) = gcons (gcons (text_code k) (shape_code t)) (parts_code ms)

abbrev pub shape_by : ℕ → Gv → Shapes → Parts → Shape
shape_by zero g ts ms = plain (data_at g).0
shape_by (suc zero) g ts ms = place (text_at (first g)) (text_at (second g))
shape_by (suc (suc zero)) g ts ms = list ts
shape_by (suc (suc (suc n))) g ts ms = members ms

-- what a tree is as a shape, as shapes, as parts, and as one part's shape
abbrev pub read_back : Gv → Shape × Shapes × Parts × Shape
read_back gnil = (plain null, no_shapes, no_parts, plain null)
read_back (gnum n) = (plain null, no_shapes, no_parts, plain null)
read_back (gcons a b) = (shape_by (count a) b (read_back b).1 (read_back b).2, shape (read_back a).0 (read_back b).1, part (text_at (first a)) (read_back a).3 (read_back b).2, (read_back b).0)

mutual
  pub shape_back : (t : Shape) → (read_back (shape_code t)).0 ≡ t
  shape_back (plain d) = ap plain (data_back d)
  shape_back (place name pointer) = λ i. place (text_back name i) (text_back pointer i)
  shape_back (list ts) = ap list (shapes_back ts)
  shape_back (members ms) = ap members (parts_back ms)

  pub shapes_back : (ts : Shapes) → (read_back (shapes_code ts)).1 ≡ ts
  shapes_back no_shapes = refl
  shapes_back (shape t ts) = λ i. shape (shape_back t i) (shapes_back ts i)

  pub parts_back : (ms : Parts) → (read_back (parts_code ms)).2 ≡ ms
  parts_back no_parts = refl
  parts_back (part k t ms) = λ i. part (text_back k i) (shape_back t i) (parts_back ms i)

abbrev pub coded_shape : Coded Shape
coded_shape = record {
  code = shape_code;
  inj = λ x y same. sym (shape_back x) ∙ ap (λ g. (read_back g).0) same ∙ shape_back y;
}
