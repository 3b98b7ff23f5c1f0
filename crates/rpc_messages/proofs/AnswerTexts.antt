-- A response's text, part by part, and that it is read back.
use Rattle.std.proofs.Common.{◌≡◌, ℕ, ◌<◌, ◌≤◌, ◌^◌, ◌++◌, List, Bool, codes, false, Option, Some, None, option_map, Result, Ok, Err, OnOk, refl, ap, sym, subst, ◌∙◌, arith, append_assoc, decimal, ℤ, pos, negsuc, ◌||◌}
use Rattle.std.specs.Fmt.{digits, signed_decimal}
use Rattle.std.specs.Prelude.{option_and_then}
use Rattle.json.specs.Print.{quoted}
use Rattle.json.proofs.OnLiterals.{json_on_literals}
use Rattle.serde_json.specs.Data.{Data, null, boolean, number, string, array, object, unsigned, negative, float, depth}
use Rattle.serde_json.specs.Find.{as_bool, as_number, as_u64, of_integer}
use Rattle.serde_json.specs.Read.{read, max_depth}
use Rattle.serde_json.specs.Written.{compact_text, has_float}
use Rattle.message_ids.specs.declared.standard.Standard.{Standard}
use Rattle.message_ids.specs.declared.standard.Standard.TheVariants.{ParseError, InvalidRequest, MethodNotFound, InvalidParams, InternalError, Cancelled, NoReply, InvalidReply}
use Rattle.message_texts.specs.Texts.{CodeFits, IdFits, id_text, code_text, error_rest, error_head, error_end, error_text, fixed_error_text, result_text, error_answer_text}
use Rattle.rpc_messages.specs.Texts.{standard_error, answer_text_of, answer_of, error_answer_of, error_data, id_data}
use Rattle.rpc_messages.specs.Parts.{IsReadBack, AreReadBack}
use Rattle.rpc_messages.specs.declared.error_value.ErrorValue.{ErrorValue}
use Rattle.message_ids.specs.declared.id.Id.{Id}
use Rattle.message_ids.specs.declared.id.Id.TheVariants.{Null, Text, Signed, Unsigned}
use Rattle.rpc_messages.specs.declared.reply.Reply.TheVariants.{Done, Error, Standard as Fixed}
use Rattle.json_values.proofs.ReadBack.{Sound, read-sound, read-compact_text}
use Rattle.rpc_messages.proofs.Flat.{flat_four, flat_five}

-- ---- texts of their parts

id_is : (id : Id) → id_text id ≡ compact_text (id_data id)
unfolding json_on_literals digits
id_is Null = refl
id_is (Text s) = refl
id_is (Signed (pos n)) = refl
id_is (Signed (negsuc n)) = refl
id_is (Unsigned n) = refl

done_parts : (id : Id) (d : Data)
    → (codes "{\"id\":" ++ (compact_text (id_data id) ++ (codes ",\"jsonrpc\":\"2.0\",\"result\":" ++ (compact_text d ++ codes "}")))) ≡ answer_text_of id (Done d)
unfolding json_on_literals digits
done_parts id d = refl

pub result_is : (id : Id) (d : Data) → result_text id (compact_text d) ≡ answer_text_of id (Done d)
result_is id d =
    ap (λ s. codes "{\"id\":" ++ s) (flat_four (id_text id) (codes ",\"jsonrpc\":\"2.0\",\"result\":") (compact_text d) (codes "}"))
    ∙ ap (λ i. codes "{\"id\":" ++ (i ++ (codes ",\"jsonrpc\":\"2.0\",\"result\":" ++ (compact_text d ++ codes "}")))) (id_is id) ∙ done_parts id d

error_parts : (id : Id) (e : ErrorValue)
    → (codes "{\"error\":" ++ (compact_text (error_data e) ++ (codes ",\"id\":" ++ (compact_text (id_data id) ++ codes ",\"jsonrpc\":\"2.0\"}")))) ≡ compact_text (error_answer_of id e)
unfolding json_on_literals digits
error_parts id e = refl

error_whole_is : (id : Id) (e : ErrorValue) (text : List ℕ) → text ≡ compact_text (error_data e) → error_answer_text id text ≡ compact_text (error_answer_of id e)
unfolding error_head error_end
error_whole_is id e text is =
    ap (λ s. codes "{\"error\":" ++ (s ++ (codes ",\"id\":" ++ (id_text id ++ codes ",\"jsonrpc\":\"2.0\"}")))) is
    ∙ ap (λ i. codes "{\"error\":" ++ (compact_text (error_data e) ++ (codes ",\"id\":" ++ (i ++ codes ",\"jsonrpc\":\"2.0\"}")))) (id_is id) ∙ error_parts id e

code_parts : (z : ℤ) (m : List ℕ) → (codes "{\"code\":" ++ (signed_decimal z ++ (codes ",\"message\":" ++ (quoted m ++ codes "}")))) ≡ compact_text (error_data (record { code = z; message = m; extra = None }))
unfolding json_on_literals digits
code_parts (pos n) m = refl
code_parts (negsuc n) m = refl

extra_parts : (z : ℤ) (m : List ℕ) (d : Data)
    → (codes "{\"code\":" ++ (signed_decimal z ++ (codes ",\"data\":" ++ (compact_text d ++ (codes ",\"message\":" ++ (quoted m ++ codes "}")))))) ≡ compact_text (error_data (record { code = z; message = m; extra = Some d }))
unfolding json_on_literals digits
extra_parts (pos n) m d = refl
extra_parts (negsuc n) m d = refl

pub error_object_is : (e : ErrorValue) → error_text e.code e.message (option_map compact_text e.extra) ≡ compact_text (error_data e)
unfolding code_text error_rest
error_object_is e = by_extra e.code e.message e.extra
  where
    by_extra : (z : ℤ) (m : List ℕ) (x : Option Data) → error_text z m (option_map compact_text x) ≡ compact_text (error_data (record { code = z; message = m; extra = x }))
    by_extra z m None = ap (λ s. codes "{\"code\":" ++ s) (append_assoc (signed_decimal z) (codes ",") (codes "\"message\":" ++ (quoted m ++ codes "}"))) ∙ code_parts z m
    by_extra z m (Some d) =
        ap (λ s. codes "{\"code\":" ++ ((signed_decimal z ++ codes ",") ++ (codes "\"data\":" ++ s))) (flat_five (compact_text d) (codes ",") (codes "\"message\":") (quoted m) (codes "}"))
        ∙ ap (λ s. codes "{\"code\":" ++ s) (append_assoc (signed_decimal z) (codes ",") (codes "\"data\":" ++ (compact_text d ++ (codes ",\"message\":" ++ (quoted m ++ codes "}")))))
        ∙ extra_parts z m d

pub error_is : (id : Id) (e : ErrorValue) → error_answer_text id (error_text e.code e.message (option_map compact_text e.extra)) ≡ answer_text_of id (Error e)
error_is id e = error_whole_is id e _ (error_object_is e)

pub fixed_is : (id : Id) (s : Standard) → error_answer_text id (fixed_error_text s) ≡ answer_text_of id (Fixed s)
fixed_is id s = error_whole_is id (standard_error s) _ (error_object_is (standard_error s))

-- a part that is told whatever the outcome
pub always : {X E P : Type 0} (r : Result X E) → P → OnOk r P
always (Ok x) p = p
always (Err e) p = tt

-- a value that is shown to be this whole number
pub unsigned_is : (d : Data) (n : ℕ) → Some n ≡ option_and_then as_u64 (as_number d) → d ≡ number (unsigned n)
unsigned_is null n e = cc
unsigned_is (boolean b) n e = cc
unsigned_is (number (unsigned m)) n e = let same : n ≡ m = cc in ap (λ k. number (unsigned k)) (sym same)
unsigned_is (number (negative z)) n e = cc
unsigned_is (number (float x)) n e = cc
unsigned_is (string s) n e = cc
unsigned_is (array ds) n e = cc
unsigned_is (object ms) n e = cc

pub unsigned_text : (n : ℕ) → decimal n ≡ compact_text (number (unsigned n))
unfolding json_on_literals
unsigned_text n = refl

-- such a number is read back
pub unsigned_is_read_back : (d : Data) (n : ℕ) → d ≡ number (unsigned n) → n < 2 ^ 64 → IsReadBack d
unsigned_is_read_back d n is fits =
    subst (λ v. IsReadBack v) (sym is) (record { whole = refl; back = λ shallow. read-compact_text (number (unsigned n)) fits refl shallow })

pub boolean_is : (d : Data) (b : Bool) → Some b ≡ as_bool d → d ≡ boolean b
boolean_is null b e = cc
boolean_is (boolean c) b e = let same : b ≡ c = cc in ap boolean (sym same)
boolean_is (number n) b e = cc
boolean_is (string s) b e = cc
boolean_is (array ds) b e = cc
boolean_is (object ms) b e = cc

pub boolean_is_read_back : (d : Data) (b : Bool) → d ≡ boolean b → IsReadBack d
boolean_is_read_back d b is = subst (λ v. IsReadBack v) (sym is) (record { whole = refl; back = λ shallow. read-compact_text (boolean b) tt refl shallow })

-- ---- reading back

pub id_whole : (id : Id) → has_float (id_data id) ≡ false
id_whole Null = refl
id_whole (Text s) = refl
id_whole (Signed (pos n)) = refl
id_whole (Signed (negsuc n)) = refl
id_whole (Unsigned n) = refl

code_sound : (z : ℤ) → CodeFits z → Sound (number (of_integer z))
code_sound (pos n) fits = omega (arith, fits)
code_sound (negsuc n) fits = fits

-- an id whose number fits is read back
pub id_read : (id : Id) → IdFits id → read (compact_text (id_data id)) ≡ Some (id_data id)
id_read Null fits = read-compact_text null tt refl (omega arith)
id_read (Text s) fits = read-compact_text (string s) tt refl (omega arith)
id_read (Signed z) fits = read-compact_text (id_data (Signed z)) (code_sound z fits) (id_whole (Signed z)) (omega arith)
id_read (Unsigned n) fits = read-compact_text (number (unsigned n)) fits refl (omega arith)

-- an error is sound where its code fits and its data is read back, and has no fraction
pub error_sound : (e : ErrorValue) → CodeFits e.code → AreReadBack e.extra → depth (error_data e) ≤ max_depth → Sound (error_data e)
error_sound e fits back = by_extra e.code e.message e.extra fits back
  where
    by_extra : (z : ℤ) (m : List ℕ) (x : Option Data) → CodeFits z → AreReadBack x → depth (error_data (record { code = z; message = m; extra = x })) ≤ max_depth
        → Sound (error_data (record { code = z; message = m; extra = x }))
    by_extra z m None fits back shallow = (code_sound z fits, (refl, tt), (tt, tt, tt))
    by_extra z m (Some d) fits back shallow =
        let below : depth d ≤ max_depth = omega arith in
        (code_sound z fits, (refl, (refl, tt)), (read-sound _ d (back.back below), (refl, tt), (tt, tt, tt)))

pub error_whole : (e : ErrorValue) → AreReadBack e.extra → has_float (error_data e) ≡ false
error_whole e back = by_extra e.code e.message e.extra back
  where
    by_extra : (z : ℤ) (m : List ℕ) (x : Option Data) → AreReadBack x → has_float (error_data (record { code = z; message = m; extra = x })) ≡ false
    by_extra z m None back = rw (id_whole (Signed z)) refl
    by_extra z m (Some d) back = rw (id_whole (Signed z), back.whole) refl

no_float : (a b : Data) → has_float a ≡ false → has_float b ≡ false → (has_float a || (has_float b || false)) ≡ false
no_float a b h k = rw (h, k)

-- a response is read back where its id and its result are
pub done_reads_back : (id : Id) (d : Data) → read (compact_text (id_data id)) ≡ Some (id_data id) → (depth d ≤ max_depth → read (compact_text d) ≡ Some d) → has_float d ≡ false
    → depth (answer_of id (Done d)) ≤ max_depth → read (compact_text (answer_of id (Done d))) ≡ Some (answer_of id (Done d))
done_reads_back id d of_id of_d whole shallow =
    let below : depth d ≤ max_depth = omega arith in
    let sound : Sound (answer_of id (Done d)) =
    (read-sound _ (id_data id) of_id, (refl, (refl, tt)), (tt, (refl, tt), (read-sound _ d (of_d below), tt, tt))) in
    read-compact_text (answer_of id (Done d)) sound (no_float (id_data id) d (id_whole id) whole) shallow

-- and where its id and its error are
pub error_reads_back : (id : Id) (e : ErrorValue) → read (compact_text (id_data id)) ≡ Some (id_data id) → (depth (error_data e) ≤ max_depth → Sound (error_data e)) → has_float (error_data e) ≡ false
    → depth (error_answer_of id e) ≤ max_depth → read (compact_text (error_answer_of id e)) ≡ Some (error_answer_of id e)
error_reads_back id e of_id of_e whole shallow =
    let below : depth (error_data e) ≤ max_depth = omega arith in
    let sound : Sound (error_answer_of id e) =
    (of_e below, (refl, (refl, tt)), (read-sound _ (id_data id) of_id, (refl, tt), (tt, tt, tt))) in
    read-compact_text (error_answer_of id e) sound (no_float (error_data e) (id_data id) whole (id_whole id)) shallow

pub fixed_sound : (s : Standard) → Sound (error_data (standard_error s))
fixed_sound ParseError = (omega arith, (refl, tt), (tt, tt, tt))
fixed_sound InvalidRequest = (omega arith, (refl, tt), (tt, tt, tt))
fixed_sound MethodNotFound = (omega arith, (refl, tt), (tt, tt, tt))
fixed_sound InvalidParams = (omega arith, (refl, tt), (tt, tt, tt))
fixed_sound InternalError = (omega arith, (refl, tt), (tt, tt, tt))
fixed_sound Cancelled = (omega arith, (refl, tt), (tt, tt, tt))
fixed_sound NoReply = (omega arith, (refl, tt), (tt, tt, tt))
fixed_sound InvalidReply = (omega arith, (refl, tt), (tt, tt, tt))

pub fixed_whole : (s : Standard) → has_float (error_data (standard_error s)) ≡ false
fixed_whole ParseError = refl
fixed_whole InvalidRequest = refl
fixed_whole MethodNotFound = refl
fixed_whole InvalidParams = refl
fixed_whole InternalError = refl
fixed_whole Cancelled = refl
fixed_whole NoReply = refl
fixed_whole InvalidReply = refl

-- one fact for an `Ok` gives another
pub OnOk-map : {X E P Q : Type 0} (r : Result X E) → (P → Q) → OnOk r P → OnOk r Q
OnOk-map (Ok x) f p = f p
OnOk-map (Err e) f p = tt

pub OnOk-map2 : {X E P Q R : Type 0} (r : Result X E) → (P → Q → R) → OnOk r P → OnOk r Q → OnOk r R
OnOk-map2 (Ok x) f p q = f p q
OnOk-map2 (Err e) f p q = tt

abbrev pub ReadsBack : Data → Type 0
ReadsBack d = depth d ≤ max_depth → read (compact_text d) ≡ Some d
