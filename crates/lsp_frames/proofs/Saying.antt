-- What a line says, read backwards.
use Rattle.std.proofs.Common.{◌≡◌, ℕ, ◌+◌, ◌-◌, ◌<◌, inl, inr, Bool, true, false, not, ◌&&◌, eqb, ltb, List, [], ◌∷◌, ◌++◌, length, take, drop, get_or, Option, Some, None, Result, Ok, Err, refl, ap, sym, ◌∙◌, arith, position, codes}
use Rattle.std.proofs.lemmas.Grind.{common_steps}
use Rattle.std.proofs.lemmas.List.Folds.{list_all-append}
use Rattle.std.proofs.lemmas.List.Sums.{prefix_len_stops}
use Rattle.std.proofs.Math.Seq.{drop-cons}
use Rattle.std.specs.List.{list_all, position_or_len}
use Rattle.lsp_frames.specs.Fields.{is_name_byte, is_value_byte, is_colon, is_name, field_at, field_of, is_named, length_of, is_long_number}
use Rattle.lsp_frames.specs.Lines.{with_length, fields_with_length, fields_with, fields_after, head_end, line_of, meaning_of, line_meaning}
use Rattle.lsp_frames.specs.Frames.{HasNoLf}
use Rattle.lsp_frames.specs.declared.frame.FrameFault.{FrameFault}
use Rattle.lsp_frames.specs.declared.frame.FrameFault.TheVariants.{BadHead, Truncated}
use Rattle.lsp_frames.specs.declared.line.Fields.{Fields}
use Rattle.lsp_frames.specs.declared.line.Line.{Line}
use Rattle.lsp_frames.specs.declared.line.Line.TheVariants.{More, End, Fault}
use Rattle.lsp_frames.proofs.Choices.{choice, both, all_of, last_at, front_at, ends_so}

-- bytes of names and values are no LF

abbrev pub is_no_lf : ℕ → Bool
is_no_lf b = not (eqb b 10)

pub name_byte_is_no_lf : (b : ℕ) → is_name_byte b ≡ true → is_no_lf b ≡ true
name_byte_is_no_lf b h = elim (choice (eqb b 10) true false (eqb b 10) (grind (arith, common_steps))) [
  | inl e ↦ (let same : b ≡ 10 = grind (arith, common_steps, e.0) in let none : is_name_byte 10 ≡ true = rw same at h in cc)
  | inr e ↦ rw e.0
]

pub value_byte_is_no_lf : (b : ℕ) → is_value_byte b ≡ true → is_no_lf b ≡ true
value_byte_is_no_lf b h = grind (arith, common_steps)

-- a field's line: its first colon, with a name before and a value behind it
pub record IsSplit (line : List ℕ) : Type 0 where
  pub colon : ℕ
  pub place : position is_colon line ≡ Some colon
  pub name : is_name (take colon line) ≡ true
  pub value : list_all is_value_byte (drop (colon + 1) line) ≡ true

split_at : (line : List ℕ) (place : Option ℕ) (field : List ℕ × List ℕ) → position is_colon line ≡ place → field_at line place ≡ Some field → IsSplit line
split_at line None field e h = cc
split_at line (Some colon) field e h =
    elim (choice (is_name (take colon line) && list_all is_value_byte (drop (colon + 1) line)) _ _ _ h) [
      | inl hit ↦ (let parts = both (is_name (take colon line)) (list_all is_value_byte (drop (colon + 1) line)) hit.0 in
          record { colon = colon; place = e; name = parts.0; value = parts.1 })
      | inr miss ↦ cc
    ]

pub split_of : (line : List ℕ) (field : List ℕ × List ℕ) → field_of line ≡ Some field → IsSplit line
unfolding field_of
split_of line field h = split_at line (position is_colon line) field refl h

colon_at : (line : List ℕ) (colon : ℕ) → position is_colon line ≡ Some colon → (colon < length line) × (get_or line colon 0 ≡ 58)
colon_at line colon h = elim (choice (ltb (position_or_len is_colon line) (length line)) _ _ _ h) [
  | inl hit ↦ (let at : position_or_len is_colon line ≡ colon = cc in
      let low : position_or_len is_colon line < length line = grind (arith, common_steps, hit.0) in
      let stops : not (is_colon (get_or line (position_or_len is_colon line) 0)) ≡ false = prefix_len_stops (λ b. not (is_colon b)) line 0 low in
      (rw at at low, grind (arith, common_steps, rw at at stops)))
  | inr miss ↦ cc
]

pub record IsLine (line : List ℕ) : Type 0 where
  pub no_lf : HasNoLf line
  pub some : 0 < length line

pub line_of_split : (line : List ℕ) → IsSplit line → IsLine line
line_of_split line s =
    let at : (s.colon < length line) × (get_or line s.colon 0 ≡ 58) = colon_at line s.colon s.place in
    let name = both (ltb 0 (length (take s.colon line))) (list_all is_name_byte (take s.colon line)) s.name in
    let whole : line ≡ take s.colon line ++ drop s.colon line = grind (arith, common_steps) in
    let behind : drop s.colon line ≡ 58 ∷ drop (s.colon + 1) line = grind (arith, common_steps, drop-cons line s.colon 0 at.0, at.1) in
    let front : list_all is_no_lf (take s.colon line) ≡ true = all_of is_name_byte is_no_lf name_byte_is_no_lf (take s.colon line) name.1 in
    let back : list_all is_no_lf (drop (s.colon + 1) line) ≡ true = all_of is_value_byte is_no_lf value_byte_is_no_lf (drop (s.colon + 1) line) s.value in
    let rest : list_all is_no_lf (drop s.colon line) ≡ true = rw behind back in
    let all : list_all is_no_lf (take s.colon line ++ drop s.colon line) ≡ true = rw (list_all-append is_no_lf (take s.colon line) (drop s.colon line), front, rest) in
    record { no_lf = rw whole all; some = omega arith }

field_is : (limit : ℕ) (fields next : Fields) (field : Option (List ℕ × List ℕ)) → fields_with limit fields field ≡ Ok next → (f : List ℕ × List ℕ) × (field ≡ Some f)
field_is limit fields next None h = cc
field_is limit fields next (Some f) h = (f, refl)

-- a line that adds to the fields is not empty and has no LF
pub fields_after_is_line : (limit : ℕ) (fields next : Fields) (line : List ℕ) → fields_after limit fields line ≡ Ok next → IsLine line
unfolding fields_after
fields_after_is_line limit fields next line h =
    let f = field_is limit fields next (field_of line) h in
    line_of_split line (split_of line f.0 f.1)

-- what a line with its CR says

pub meaning_of_line : (limit : ℕ) (fields next : Fields) (line : List ℕ) → fields_after limit fields line ≡ Ok next → line_meaning limit fields (line ++ 13 ∷ []) ≡ More next
unfolding line_meaning
meaning_of_line limit fields next line h = rw (last_at line 13, front_at line 13) (said_whole limit fields next line (fields_after_is_line limit fields next line h) h)
  where
    said_whole : (limit : ℕ) (fields next : Fields) (line : List ℕ) → IsLine line → fields_after limit fields line ≡ Ok next → meaning_of limit fields line ≡ More next
    said_whole limit fields next [] is h = absurd (omega (arith, is.some))
    said_whole limit fields next (b ∷ bytes) is h = ap line_of h

pub meaning_of_empty : (limit n : ℕ) (foreign : Bool) → line_meaning limit (record { content_length = Some n; foreign = foreign }) (13 ∷ []) ≡ End n foreign
unfolding line_meaning
meaning_of_empty limit n foreign = refl

-- and backwards

ends_in_cr : (limit : ℕ) (fields : Fields) (text : List ℕ) (line : Line) → (line ≡ Fault BadHead → ⊥) → line_meaning limit fields text ≡ line → (text ≡ take (length text - 1) text ++ 13 ∷ []) × (meaning_of limit fields (take (length text - 1) text) ≡ line)
unfolding line_meaning
ends_in_cr limit fields text line differs h = elim (choice (eqb (get_or text (length text - 1) 0) 13) _ _ _ h) [
  | inl hit ↦ (let cr : get_or text (length text - 1) 0 ≡ 13 = grind (arith, common_steps, hit.0) in (ends_so text 12 cr, hit.1))
  | inr other ↦ absurd (differs (sym other.1))
]

line_more : (limit : ℕ) (fields next : Fields) (line : List ℕ) → meaning_of limit fields line ≡ More next → fields_after limit fields line ≡ Ok next
line_more limit fields next [] h = absurd (end_is_no_more fields next fields.content_length h)
  where
    end_is_no_more : (fields next : Fields) (n : Option ℕ) → head_end fields n ≡ More next → ⊥
    end_is_no_more fields next None h = cc
    end_is_no_more fields next (Some n) h = cc
line_more limit fields next (b ∷ bytes) h = more_is_ok (fields_after limit fields (b ∷ bytes)) next h
  where
    more_is_ok : (r : Result Fields FrameFault) (next : Fields) → line_of r ≡ More next → r ≡ Ok next
    more_is_ok (Ok fields) next h = cc
    more_is_ok (Err fault) next h = cc

pub record IsMore (limit : ℕ) (fields next : Fields) (text : List ℕ) : Type 0 where
  pub line : List ℕ
  pub whole : text ≡ line ++ 13 ∷ []
  pub judges : fields_after limit fields line ≡ Ok next

pub meaning_more : (limit : ℕ) (fields next : Fields) (text : List ℕ) → line_meaning limit fields text ≡ More next → IsMore limit fields next text
meaning_more limit fields next text h =
    let cr = ends_in_cr limit fields text (More next) (λ e. cc) h in
    record { line = take (length text - 1) text; whole = cr.0; judges = line_more limit fields next (take (length text - 1) text) cr.1 }

pub record IsEnd (fields : Fields) (n : ℕ) (foreign : Bool) (text : List ℕ) : Type 0 where
  pub whole : text ≡ 13 ∷ []
  pub says : fields ≡ record { content_length = Some n; foreign = foreign }

line_end : (limit : ℕ) (fields : Fields) (n : ℕ) (foreign : Bool) (line : List ℕ) → meaning_of limit fields line ≡ End n foreign → (line ≡ []) × (fields ≡ record { content_length = Some n; foreign = foreign })
line_end limit fields n foreign [] h = (refl, says fields.content_length refl h)
  where
    says : (length : Option ℕ) → fields.content_length ≡ length → head_end fields length ≡ End n foreign → fields ≡ record { content_length = Some n; foreign = foreign }
    says None e h = cc
    says (Some m) e h =
        let same : m ≡ n = cc in
        let also : fields.foreign ≡ foreign = cc in
        ap (λ (o : Option ℕ). let f : Fields = record { content_length = o; foreign = fields.foreign } in f) (e ∙ ap Some same)
        ∙ ap (λ (b : Bool). let f : Fields = record { content_length = Some n; foreign = b } in f) also
line_end limit fields n foreign (b ∷ bytes) h = absurd (ok_is_no_end (fields_after limit fields (b ∷ bytes)) h)
  where
    ok_is_no_end : (r : Result Fields FrameFault) → line_of r ≡ End n foreign → ⊥
    ok_is_no_end (Ok fields) h = cc
    ok_is_no_end (Err fault) h = cc

pub said_end : (limit : ℕ) (fields : Fields) (n : ℕ) (foreign : Bool) (text : List ℕ) → line_meaning limit fields text ≡ End n foreign → IsEnd fields n foreign text
said_end limit fields n foreign text h =
    let cr = ends_in_cr limit fields text (End n foreign) (λ e. cc) h in
    let line = line_end limit fields n foreign (take (length text - 1) text) cr.1 in
    record { whole = cr.0 ∙ ap (λ (xs : List ℕ). xs ++ 13 ∷ []) line.0; says = line.1 }

-- no line says that the input ends

length_is_not_truncated : (limit : ℕ) (fields : Fields) (is_long : Bool) (n : Option ℕ) → with_length limit fields is_long n ≡ Err Truncated → ⊥
length_is_not_truncated limit fields true None h = cc
length_is_not_truncated limit fields false None h = cc
length_is_not_truncated limit fields is_long (Some n) h = elim (choice (ltb limit n) _ _ _ h) [ inl hit ↦ cc | inr miss ↦ cc ]

second_is_not_truncated : (limit : ℕ) (fields : Fields) (before : Option ℕ) (value : List ℕ) → fields_with_length limit fields before value ≡ Err Truncated → ⊥
second_is_not_truncated limit fields (Some n) value h = cc
second_is_not_truncated limit fields None value h = length_is_not_truncated limit fields (is_long_number value) (length_of value) h

field_is_not_truncated : (limit : ℕ) (fields : Fields) (field : Option (List ℕ × List ℕ)) → fields_with limit fields field ≡ Err Truncated → ⊥
field_is_not_truncated limit fields None h = cc
field_is_not_truncated limit fields (Some (name, value)) h = elim (choice (is_named name (codes "Content-Length")) _ _ _ h) [
  | inl hit ↦ second_is_not_truncated limit fields fields.content_length value hit.1
  | inr miss ↦ elim (choice (is_named name (codes "Content-Type")) _ _ _ miss.1) [ inl a ↦ (let e = a.1 in cc) | inr b ↦ (let e = b.1 in cc) ]
]

judged_is_not_truncated : (limit : ℕ) (fields : Fields) (line : List ℕ) → fields_after limit fields line ≡ Err Truncated → ⊥
unfolding fields_after
judged_is_not_truncated limit fields line h = field_is_not_truncated limit fields (field_of line) h

line_is_not_truncated : (limit : ℕ) (fields : Fields) (line : List ℕ) → meaning_of limit fields line ≡ Fault Truncated → ⊥
line_is_not_truncated limit fields [] h = go fields.content_length h
  where
    go : (n : Option ℕ) → head_end fields n ≡ Fault Truncated → ⊥
    go None e = cc
    go (Some n) e = cc
line_is_not_truncated limit fields (b ∷ bytes) h = go (fields_after limit fields (b ∷ bytes)) refl h
  where
    go : (r : Result Fields FrameFault) → fields_after limit fields (b ∷ bytes) ≡ r → line_of r ≡ Fault Truncated → ⊥
    go (Ok next) e f = cc
    go (Err fault) e f = judged_is_not_truncated limit fields (b ∷ bytes) (e ∙ (let same : fault ≡ Truncated = cc in ap Err same))

pub meaning_is_not_truncated : (limit : ℕ) (fields : Fields) (text : List ℕ) → line_meaning limit fields text ≡ Fault Truncated → ⊥
meaning_is_not_truncated limit fields text h =
    let cr = ends_in_cr limit fields text (Fault Truncated) (λ e. cc) h in
    line_is_not_truncated limit fields (take (length text - 1) text) cr.1
