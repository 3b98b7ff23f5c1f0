-- Texts of calls, notifications and withdrawals, part by part, and that they are read back.
use Rattle.std.proofs.Common.{◌≡◌, ℕ, ◌+◌, ◌≤◌, ◌<◌, ◌^◌, List, [], ◌∷◌, ◌++◌, codes, true, false, Option, Some, None, refl, ap, sym, ◌∙◌, arith, append_assoc, append-nil, decimal, option_map}
use Rattle.std.specs.Str.Parse.{AllDigits}
use Rattle.std.proofs.lemmas.Fmt.{decimal_is_IsNumeral}
use Rattle.std.proofs.lemmas.Str.Parse.{digit_from_value}
use Rattle.json.specs.Print.{quoted, escape}
use Rattle.json.proofs.Printed.Strings.{escape_byte_plain}
use Rattle.json.proofs.OnLiterals.{json_on_literals}
use Rattle.serde_json.specs.Data.{Data, depth, array, items_depth}
use Rattle.serde_json.specs.Read.{read, max_depth}
use Rattle.serde_json.specs.View.{items_of}
use Rattle.serde_json.specs.Written.{compact_text, members_text, has_float, items_have_float}
use Rattle.rpc_messages.specs.Key.{key_text, dot}
use Rattle.message_texts.specs.Texts.{call_text, method_text, notice_text, params_member, withdrawal_text}
use Rattle.message_texts.specs.declared.keys.CallKey.TheVariants.{Pair}
use Rattle.rpc_messages.specs.Parts.{AreReadBack, AllAreReadBack}
use Rattle.rpc_messages.specs.Texts.{method_members, call_of, call_text_of, calls_of, calls_text_of, notice_of, notice_text_of, withdrawal_of, withdraw_text_of}
use Rattle.rpc_messages.specs.declared.outgoing.Outgoing.{Outgoing}
use Rattle.rpc_messages.proofs.Flat.{flat_four}
use Rattle.json_values.proofs.ReadBack.{Sound, ItemsSound, read-sound, read-compact_text}

-- ---- a key needs no escapes

escape_digits : (ds rest : List ℕ) → AllDigits 10 ds → escape (ds ++ rest) ≡ ds ++ escape rest
escape_digits [] rest h = refl
escape_digits (d ∷ ds) rest h =
    let digit = digit_from_value d h.0 in
    λ i. escape_byte_plain d (λ e. omega (arith, digit)) (λ e. omega (arith, digit)) (omega (arith, digit)) i ++ escape_digits ds rest h.1 i

escape_key : (n t : ℕ) → n < 2 ^ 64 → t < 2 ^ 64 → escape (key_text n t) ≡ key_text n t
escape_key n t n_fits t_fits =
    let last : escape (decimal t) ≡ decimal t = ap escape (sym (append-nil (decimal t))) ∙ escape_digits (decimal t) [] (decimal_is_IsNumeral t t_fits).0.1 ∙ append-nil (decimal t) in
    escape_digits (decimal n) (dot ∷ decimal t) (decimal_is_IsNumeral n n_fits).0.1
    ∙ ap (λ s. decimal n ++ s) (λ i. escape_byte_plain dot (λ e. omega (arith, e)) (λ e. omega (arith, e)) (omega arith) i ++ last i)

pub quoted_key : (n t : ℕ) → n < 2 ^ 64 → t < 2 ^ 64 → quoted (key_text n t) ≡ 34 ∷ (key_text n t ++ 34 ∷ [])
quoted_key n t n_fits t_fits = ap (λ s. 34 ∷ (s ++ 34 ∷ [])) (escape_key n t n_fits t_fits)

-- the member `params` with the comma before it, where there are params
abbrev params_text : Option Data → List ℕ
params_text None = []
params_text (Some d) = codes ",\"params\":" ++ compact_text d

-- ---- texts of their parts

params_is : (p : Option Data) → params_member (option_map compact_text p) ≡ params_text p
params_is None = refl
params_is (Some d) = refl

method_parts : (o : Outgoing) → (codes ",\"method\":" ++ (quoted o.method ++ (params_text o.params ++ codes "}"))) ≡ members_text true (method_members o)
unfolding json_on_literals
method_parts o = by_params o.params
  where
    by_params : (p : Option Data) → (codes ",\"method\":" ++ (quoted o.method ++ (params_text p ++ codes "}"))) ≡ members_text true (method_members (record o { params = p }))
    by_params None = refl
    by_params (Some d) = refl

method_is : (o : Outgoing) → method_text o.method (option_map compact_text o.params) ≡ members_text true (method_members o)
method_is o =
    ap (λ s. codes ",\"method\":" ++ s) (append_assoc (quoted o.method) (params_member (option_map compact_text o.params)) (codes "}"))
    ∙ ap (λ s. codes ",\"method\":" ++ (quoted o.method ++ (s ++ codes "}"))) (params_is o.params) ∙ method_parts o

call_parts : (n t : ℕ) (o : Outgoing) → n < 2 ^ 64 → t < 2 ^ 64
    → (codes "{\"id\":\"" ++ (key_text n t ++ (codes "\",\"jsonrpc\":\"2.0\"" ++ members_text true (method_members o)))) ≡ call_text_of n t o
unfolding json_on_literals
call_parts n t o n_fits t_fits =
    let method = members_text true (method_members o) in
    ap (λ s. codes "{\"id\":" ++ 34 ∷ s) (sym (append_assoc (key_text n t) (34 ∷ []) (codes ",\"jsonrpc\":\"2.0\"" ++ method)))
    ∙ ap (λ s. codes "{\"id\":" ++ (s ++ (codes ",\"jsonrpc\":\"2.0\"" ++ method))) (sym (quoted_key n t n_fits t_fits))

pub call_is : (n t : ℕ) (o : Outgoing) → n < 2 ^ 64 → t < 2 ^ 64 → call_text (Pair n t) o.method (option_map compact_text o.params) ≡ call_text_of n t o
call_is n t o n_fits t_fits =
    let method = method_text o.method (option_map compact_text o.params) in
    ap (λ s. codes "{\"id\":\"" ++ s) (flat_four (key_text n t) (34 ∷ []) (codes ",\"jsonrpc\":\"2.0\"") method)
    ∙ ap (λ s. codes "{\"id\":\"" ++ (key_text n t ++ (codes "\",\"jsonrpc\":\"2.0\"" ++ s))) (method_is o) ∙ call_parts n t o n_fits t_fits

notice_parts : (o : Outgoing) → (codes "{\"jsonrpc\":\"2.0\"" ++ members_text true (method_members o)) ≡ notice_text_of o
unfolding json_on_literals
notice_parts o = refl

pub notice_is : (o : Outgoing) → notice_text o.method (option_map compact_text o.params) ≡ notice_text_of o
notice_is o = ap (λ s. codes "{\"jsonrpc\":\"2.0\"" ++ s) (method_is o) ∙ notice_parts o

withdrawal_parts : (n t : ℕ) → n < 2 ^ 64 → t < 2 ^ 64
    → (codes "{\"jsonrpc\":\"2.0\",\"method\":\"$/cancelRequest\",\"params\":{\"id\":\"" ++ (key_text n t ++ codes "\"}}")) ≡ withdraw_text_of n t
unfolding json_on_literals
withdrawal_parts n t n_fits t_fits =
    let start = codes "{\"jsonrpc\":\"2.0\",\"method\":\"$/cancelRequest\",\"params\":{\"id\":" in
    ap (λ s. start ++ 34 ∷ s) (sym (append_assoc (key_text n t) (34 ∷ []) (codes "}}")))
    ∙ ap (λ s. start ++ (s ++ codes "}}")) (sym (quoted_key n t n_fits t_fits))
    ∙ ap (λ s. start ++ s) (sym (append_assoc (quoted (key_text n t)) (125 ∷ []) (125 ∷ [])))

pub withdrawal_is : (n t : ℕ) → n < 2 ^ 64 → t < 2 ^ 64 → withdrawal_text (codes "$/cancelRequest") (codes "id") (Pair n t) ≡ withdraw_text_of n t
withdrawal_is n t n_fits t_fits =
    ap (λ s. codes "{\"jsonrpc\":\"2.0\",\"method\":\"$/cancelRequest\",\"params\":{\"id\":\"" ++ s) (append_assoc (key_text n t) (34 ∷ []) (codes "}}"))
    ∙ withdrawal_parts n t n_fits t_fits

-- ---- reading back

pub call_whole : (n t : ℕ) (o : Outgoing) → AreReadBack o.params → has_float (call_of n t o) ≡ false
call_whole n t o = by_params o.params
  where
    by_params : (p : Option Data) → AreReadBack p → has_float (call_of n t (record o { params = p })) ≡ false
    by_params None back = refl
    by_params (Some d) back = rw back.whole refl

pub call_sound : (n t : ℕ) (o : Outgoing) → AreReadBack o.params → depth (call_of n t o) ≤ max_depth → Sound (call_of n t o)
call_sound n t o = by_params o.params
  where
    by_params : (p : Option Data) → AreReadBack p → depth (call_of n t (record o { params = p })) ≤ max_depth → Sound (call_of n t (record o { params = p }))
    by_params None back shallow = (tt, (refl, (refl, tt)), (tt, (refl, tt), (tt, tt, tt)))
    by_params (Some d) back shallow =
        let below : depth d ≤ max_depth = omega arith in
        (tt, (refl, (refl, (refl, tt))), (tt, (refl, (refl, tt)), (tt, (refl, tt), (read-sound _ d (back.back below), tt, tt))))

pub call_reads_back : (n t : ℕ) (o : Outgoing) → AreReadBack o.params → depth (call_of n t o) ≤ max_depth → read (call_text_of n t o) ≡ Some (call_of n t o)
call_reads_back n t o back shallow = read-compact_text (call_of n t o) (call_sound n t o back shallow) (call_whole n t o back) shallow

calls_whole : (n t : ℕ) (os : List Outgoing) → AllAreReadBack os → items_have_float (items_of (calls_of n t os)) ≡ false
calls_whole n t [] back = refl
calls_whole n t (o ∷ os) back = rw (call_whole n t o back.0, calls_whole n (t + 1) os back.1) refl

calls_sound : (n t : ℕ) (os : List Outgoing) → AllAreReadBack os → items_depth (items_of (calls_of n t os)) ≤ max_depth → ItemsSound (items_of (calls_of n t os))
calls_sound n t [] back shallow = tt
calls_sound n t (o ∷ os) back shallow =
    let here : depth (call_of n t o) ≤ max_depth = omega arith in
    let later : items_depth (items_of (calls_of n (t + 1) os)) ≤ max_depth = omega arith in
    (call_sound n t o back.0 here, calls_sound n (t + 1) os back.1 later)

pub calls_read_back : (n t : ℕ) (os : List Outgoing) → AllAreReadBack os → depth (array (items_of (calls_of n t os))) ≤ max_depth
    → read (calls_text_of n t os) ≡ Some (array (items_of (calls_of n t os)))
calls_read_back n t os back shallow =
    let below : items_depth (items_of (calls_of n t os)) ≤ max_depth = omega arith in
    read-compact_text (array (items_of (calls_of n t os))) (calls_sound n t os back below) (calls_whole n t os back) shallow

pub notice_reads_back : (o : Outgoing) → AreReadBack o.params → depth (notice_of o) ≤ max_depth → read (notice_text_of o) ≡ Some (notice_of o)
notice_reads_back o = by_params o.params
  where
    by_params : (p : Option Data) → AreReadBack p → depth (notice_of (record o { params = p })) ≤ max_depth → read (notice_text_of (record o { params = p })) ≡ Some (notice_of (record o { params = p }))
    by_params None back shallow = read-compact_text _ (tt, (refl, tt), (tt, tt, tt)) refl shallow
    by_params (Some d) back shallow =
        let below : depth d ≤ max_depth = omega arith in
        read-compact_text (notice_of (record o { params = Some d })) (tt, (refl, (refl, tt)), (tt, (refl, tt), (read-sound _ d (back.back below), tt, tt))) (rw back.whole refl) shallow

pub withdrawal_reads_back : (n t : ℕ) → read (withdraw_text_of n t) ≡ Some (withdrawal_of n t)
withdrawal_reads_back n t = read-compact_text (withdrawal_of n t) (tt, (refl, (refl, tt)), (tt, (refl, tt), ((tt, tt, tt), tt, tt))) refl (omega arith)
