-- The members of a compact object, noted as they pass.
use Rattle.std.proofs.Common.{◌≡◌, ℕ, ◌+◌, ◌-◌, ◌≤◌, List, [], ◌∷◌, ◌++◌, length, take, drop, get_or, Bool, true, false, cond, Option, Some, None, option_map, if◌then◌else◌, Bor, refl, sym, ap, ◌∙◌, subst, arith, suc, append_assoc, length-append, length-drop, drop-drop, get_or-drop}
use Rattle.std.specs.Prelude.{codes}
use Rattle.std.specs.Str.{bytes_eq, IsUtf8, is_utf8}
use Rattle.std.proofs.lemmas.Str.{is_utf8-from_IsUtf8}
use Rattle.std.proofs.lemmas.Bool.Decides.{Decides-eqb}
use Rattle.std.proofs.lemmas.Slice.Eq.{bytes_eq-Decides, starts_is}
use Rattle.std.proofs.Math.Seq.{get_or-append_seam}
use Rattle.std.proofs.lemmas.List.{take_all}
use Rattle.json.specs.Find.{get_member, later_or}
use Rattle.json.specs.Json.{Json, array, object, Items, item, no_items, Members, member, no_members}
use Rattle.json.specs.Print.{escape, quoted, escape_byte}
use Rattle.json.specs.Text.{content, plain}
use Rattle.json.proofs.Printed.Strings.{content-escape}
use Rattle.json_texts.specs.Texts.{json_text, value_of}
use Rattle.json_texts.specs.Standing.{Stands, HasName, HasValue}
use Rattle.json_texts.proofs.Placed.{MembersStand, stand_more, stand_last, ItemsStand, stand_more_items, stand_last_item, object_stands, array_text, value_text}
use Rattle.json_texts.proofs.ReadBack.{value_of-json_text}
use Rattle.connection_messages.specs.Envelope.{IsMember, HasEnvelope, HasEnvelopeAt, HasBatch}
use Rattle.connection_messages.specs.Named.{begins, first_of_names, member_of, member_named, name_len, with_part}
use Rattle.connection_messages.specs.Reading.{entry_of, entries_of}
use Rattle.connection_messages.specs.declared.entry.Entry.{Entry}
use Rattle.json.specs.Tree.{depth, HasNumbers}
use Rattle.connection_messages.specs.declared.read.unit.TheConstants.{MOST_DEPTH_IN}
use Rattle.connection_messages.specs.declared.read.envelope.Envelope.{Envelope}
use Rattle.connection_messages.specs.declared.read.envelope.Member.{Member}
use Rattle.connection_messages.specs.declared.read.envelope.Member.TheVariants.{Version, Id, Method, Params, Result, Error, Request}
use Rattle.connection_messages.specs.declared.rules.Rules.{Rules}

-- each slot has the text that was noted for its name
pub record AreNoted (e : Envelope) (note : List ℕ → Option Json) : Type 0 where
  pub version : IsMember e.version (note (codes "jsonrpc"))
  pub id : IsMember e.id (note (codes "id"))
  pub method : IsMember e.method (note (codes "method"))
  pub params : IsMember e.params (note (codes "params"))
  pub result : IsMember e.result (note (codes "result"))
  pub error : IsMember e.error (note (codes "error"))
  pub request : IsMember e.request (note (codes "requestId"))

-- all members, where these stand at the end
abbrev pub AllMembers : ℕ → List ℕ → ℕ → (List ℕ → Option Json) → Members → ℕ → Type 0
AllMembers levels text from note ms end =
    (all : Members) × MembersStand levels text from all end × ((name : List ℕ) → get_member name all ≡ later_or (get_member name ms) (note name))

-- what was noted is of the members before this place
abbrev pub IsBehind : ℕ → List ℕ → ℕ → ℕ → (List ℕ → Option Json) → Type 0
IsBehind levels text from at note =
    (end : ℕ) (k : List ℕ) (j : Json) (ms : Members) → MembersStand levels text at (member k j ms) end → AllMembers levels text from note (member k j ms) end

later_or-None : (o : Option Json) → later_or o None ≡ o
later_or-None None = refl
later_or-None (Some j) = refl

abbrev pub nothing : List ℕ → Option Json
nothing name = None

pub nothing_behind : (levels : ℕ) (text : List ℕ) (from : ℕ) → IsBehind levels text from from nothing
nothing_behind levels text from end k j ms stand = (member k j ms, stand, λ name. sym (later_or-None (get_member name (member k j ms))))

-- one more member
abbrev pub with_member : (List ℕ → Option Json) → List ℕ → Json → List ℕ → Option Json
with_member note k j name = cond (bytes_eq k name) (Some j) (note name)

later-more : (b : Bool) (j : Json) (later before : Option Json) → later_or (later_or later (cond b (Some j) None)) before ≡ later_or later (cond b (Some j) before)
later-more true j None before = refl
later-more true j (Some i) before = refl
later-more false j None before = refl
later-more false j (Some i) before = refl

pub more_behind : (levels : ℕ) (text : List ℕ) (from at mid stop : ℕ) (note : List ℕ → Option Json) (n : HasName text at mid) (v : HasValue levels text mid stop) → get_or text stop 0 ≡ 44
    → IsBehind levels text from at note → IsBehind levels text from (stop + 1) (with_member note n.name v.value)
more_behind levels text from at mid stop note n v is behind end k j ms stand =
    let all = behind end n.name v.value (member k j ms) (stand_more levels text at mid stop end n v is k j ms stand) in
    (all.0, all.1, λ name. all.2 name ∙ later-more (bytes_eq n.name name) v.value (get_member name (member k j ms)) (note name))

pub last_behind : (levels : ℕ) (text : List ℕ) (from at mid end : ℕ) (note : List ℕ → Option Json) (n : HasName text at mid) (v : HasValue levels text mid end) → get_or text end 0 ≡ 125
    → IsBehind levels text from at note
    → (all : Members) × MembersStand levels text from all (end + 1) × ((name : List ℕ) → get_member name all ≡ with_member note n.name v.value name)
last_behind levels text from at mid end note n v is behind =
    let all = behind (end + 1) n.name v.value no_members (stand_last levels text at mid end n v is) in
    (all.0, all.1, λ name. all.2 name ∙ later-more (bytes_eq n.name name) v.value None (note name))

-- ---- names and parts

same_truths : (a b : Bool) → (a ≡ true → b ≡ true) → (b ≡ true → a ≡ true) → a ≡ b
same_truths true b f g = sym (f refl)
same_truths false true f g = g refl
same_truths false false f g = refl

-- what begins with a name and its quotes and the colon behind it, is a member of that name
begins_same : (text name word quoted_word rest : List ℕ) → text ≡ (quoted name ++ 58 ∷ []) ++ rest → quoted_word ≡ quoted word ++ 58 ∷ [] → begins text quoted_word ≡ bytes_eq name word
begins_same text name word quoted_word rest stands is =
    let start = starts_is Decides-eqb text quoted_word (begins text quoted_word) refl in
    let name_text : text ≡ 34 ∷ (escape name ++ 34 ∷ 58 ∷ rest) = stands ∙ quoted_text name rest in
    same_truths _ _
    (λ t.
    let word_text : text ≡ 34 ∷ (escape word ++ 34 ∷ 58 ∷ drop (length quoted_word) text) = start.0 t ∙ ap (λ l. l ++ drop (length quoted_word) text) is ∙ quoted_text word (drop (length quoted_word) text) in
    let both : Some name ≡ Some word =
    sym (content-escape name (58 ∷ rest)) ∙ ap (λ l. content plain (drop 1 l)) (sym name_text ∙ word_text) ∙ content-escape word (58 ∷ drop (length quoted_word) text) in
    let same : name ≡ word = cc in
    (bytes_eq-Decides name word).1 same)
    (λ t. start.1 rest (stands ∙ ap (λ w. (quoted w ++ 58 ∷ []) ++ rest) ((bytes_eq-Decides name word).0 t) ∙ ap (λ l. l ++ rest) (sym is)))
  where
    quoted_text : (s r : List ℕ) → (quoted s ++ 58 ∷ []) ++ r ≡ 34 ∷ (escape s ++ 34 ∷ 58 ∷ r)
    quoted_text s r = ap (λ l. 34 ∷ l) (append_assoc (escape s ++ 34 ∷ []) (58 ∷ []) r ∙ append_assoc (escape s) (34 ∷ []) (58 ∷ r))

quoted_names : (codes "\"jsonrpc\":" ≡ quoted (codes "jsonrpc") ++ 58 ∷ []) × (codes "\"id\":" ≡ quoted (codes "id") ++ 58 ∷ []) × (codes "\"method\":" ≡ quoted (codes "method") ++ 58 ∷ [])
    × (codes "\"params\":" ≡ quoted (codes "params") ++ 58 ∷ []) × (codes "\"result\":" ≡ quoted (codes "result") ++ 58 ∷ []) × (codes "\"error\":" ≡ quoted (codes "error") ++ 58 ∷ [])
    × (codes "\"requestId\":" ≡ quoted (codes "requestId") ++ 58 ∷ [])
unfolding escape_byte
quoted_names = (refl, refl, refl, refl, refl, refl, refl)

-- the member that a text begins with is that of the name that stands there
pub member_same : (text : List ℕ) (at from : ℕ) (n : HasName text at from) → member_of (drop at text) ≡ member_named n.name
member_same text at from n =
    let same : (word quoted_word : List ℕ) → quoted_word ≡ quoted word ++ 58 ∷ [] → begins (drop at text) quoted_word ≡ bytes_eq n.name word =
    λ word quoted_word is. begins_same (drop at text) n.name word quoted_word (drop from text) n.stands is in
    let version = same (codes "jsonrpc") (codes "\"jsonrpc\":") quoted_names.0 in
    let id = same (codes "id") (codes "\"id\":") quoted_names.1 in
    let method = same (codes "method") (codes "\"method\":") quoted_names.2 in
    let params = same (codes "params") (codes "\"params\":") quoted_names.3 in
    let result = same (codes "result") (codes "\"result\":") quoted_names.4 in
    let error = same (codes "error") (codes "\"error\":") quoted_names.5 in
    let request = same (codes "requestId") (codes "\"requestId\":") quoted_names.6 in
    λ i. first_of_names (version i) (id i) (method i) (params i) (result i) (error i) (request i)

-- a choice, by its cases
chosen : (P : Member → Type 0) (b : Bool) (m rest : Member) → (b ≡ true → P m) → (b ≡ false → P rest) → P (if b then m else rest)
chosen P true m rest f g = f refl
chosen P false m rest f g = g refl

-- a known name stands where the text begins with it
abbrev KnownName : List ℕ → ℕ → Member → Type 0
KnownName text at m = (len : ℕ) → name_len m ≡ Some len → HasName text at (at + len)

known : (text : List ℕ) (at len : ℕ) (m : Member) (name quoted_name : List ℕ) → quoted_name ≡ quoted name ++ 58 ∷ [] → length quoted_name ≡ len → name_len m ≡ Some len
    → begins (drop at text) quoted_name ≡ true → KnownName text at m
known text at len m name quoted_name is size here found some asked =
    let same : some ≡ len = (let both : Some some ≡ Some len = sym asked ∙ here in cc) in
    let stands : drop at text ≡ quoted_name ++ drop (length quoted_name) (drop at text) = (starts_is Decides-eqb (drop at text) quoted_name (begins (drop at text) quoted_name) refl).0 found in
    let rest : drop (length quoted_name) (drop at text) ≡ drop (at + some) text = drop-drop (length quoted_name) at text ∙ ap (λ n. drop n text) (omega (arith, same, size)) in
    record { name = name; stands = stands ∙ ap (λ l. quoted_name ++ l) rest ∙ ap (λ l. l ++ drop (at + some) text) is }

pub known_name : (text : List ℕ) (at : ℕ) → KnownName text at (member_of (drop at text))
known_name text at =
    let P : Member → Type 0 = KnownName text at in
    chosen P _ _ _ (known text at 10 Version (codes "jsonrpc") (codes "\"jsonrpc\":") quoted_names.0 refl refl) (λ _.
    chosen P _ _ _ (known text at 5 Id (codes "id") (codes "\"id\":") quoted_names.1 refl refl) (λ _.
    chosen P _ _ _ (known text at 9 Method (codes "method") (codes "\"method\":") quoted_names.2 refl refl) (λ _.
    chosen P _ _ _ (known text at 9 Params (codes "params") (codes "\"params\":") quoted_names.3 refl refl) (λ _.
    chosen P _ _ _ (known text at 9 Result (codes "result") (codes "\"result\":") quoted_names.4 refl refl) (λ _.
    chosen P _ _ _ (known text at 8 Error (codes "error") (codes "\"error\":") quoted_names.5 refl refl) (λ _.
    chosen P _ _ _ (known text at 12 Request (codes "requestId") (codes "\"requestId\":") quoted_names.6 refl refl) (λ _ len none. let no : None ≡ Some len = none in cc)))))))

pub whole_rest : (text : List ℕ) (at : ℕ) → take (length text - at) (drop at text) ≡ drop at text
whole_rest text at = take_all (length text - at) (drop at text) (omega (arith, length-drop at text))

-- the colon ends a name
pub name_colon : (text : List ℕ) (at from : ℕ) (n : HasName text at from) → at + 3 ≤ from → from ≤ length text → get_or text (from - 1) 0 ≡ 58
name_colon text at from n below within =
    let q = quoted n.name in
    let rest = drop from text in
    let behind : drop at text ≡ q ++ 58 ∷ rest = n.stands ∙ append_assoc q (58 ∷ []) rest in
    let whole : length text - at ≡ length q + suc (length rest) = sym (length-drop at text) ∙ ap length behind ∙ length-append q (58 ∷ rest) in
    let tail : length rest ≡ length text - from = length-drop from text in
    let place : from - 1 ≡ at + length q = omega (arith, whole, tail, below, within) in
    ap (λ i. get_or text i 0) place ∙ sym (get_or-drop at text (length q) 0) ∙ ap (λ l. get_or l (length q) 0) behind ∙ get_or-append_seam q 58 rest 0

-- ---- parts

-- a slot of another name
slot_kept : (old : Option (Bor (List ℕ))) (note : List ℕ → Option Json) (name word : List ℕ) (j : Json) → bytes_eq name word ≡ false → IsMember old (note word) → IsMember old (with_member note name j word)
slot_kept old note name word j other before = before ∙ ap (λ b. option_map json_text (cond b (Some j) (note word))) (sym other)

-- and of one
noted_one : (e : Envelope) (note : List ℕ → Option Json) (m : Member) (name word : List ℕ) (part : Bor (List ℕ)) (j : Json)
    → AreNoted (with_part m part e) (with_member note word j) → bytes_eq name word ≡ true → AreNoted (with_part m part e) (with_member note name j)
noted_one e note m name word part j noted same = subst (λ n. AreNoted (with_part m part e) (with_member note n j)) (sym ((bytes_eq-Decides name word).0 same)) noted

all_noted : (e : Envelope) (note : List ℕ → Option Json) (name : List ℕ) (part : Bor (List ℕ)) (j : Json) → json_text j ≡ part.now → AreNoted e note
    → AreNoted (with_part (member_named name) part e) (with_member note name j)
all_noted e note name part j text before =
    let P : Member → Type 0 = λ m. AreNoted (with_part m part e) (with_member note name j) in
    let is : Some part.now ≡ Some (json_text j) = ap Some (sym text) in
    chosen P _ _ _ (noted_one e note Version name (codes "jsonrpc") part j
    (record { version = is; id = before.id; method = before.method; params = before.params; result = before.result; error = before.error; request = before.request })) (λ version.
    chosen P _ _ _ (noted_one e note Id name (codes "id") part j
    (record { version = before.version; id = is; method = before.method; params = before.params; result = before.result; error = before.error; request = before.request })) (λ id.
    chosen P _ _ _ (noted_one e note Method name (codes "method") part j
    (record { version = before.version; id = before.id; method = is; params = before.params; result = before.result; error = before.error; request = before.request })) (λ method.
    chosen P _ _ _ (noted_one e note Params name (codes "params") part j
    (record { version = before.version; id = before.id; method = before.method; params = is; result = before.result; error = before.error; request = before.request })) (λ params.
    chosen P _ _ _ (noted_one e note Result name (codes "result") part j
    (record { version = before.version; id = before.id; method = before.method; params = before.params; result = is; error = before.error; request = before.request })) (λ result.
    chosen P _ _ _ (noted_one e note Error name (codes "error") part j
    (record { version = before.version; id = before.id; method = before.method; params = before.params; result = before.result; error = is; request = before.request })) (λ error.
    chosen P _ _ _ (noted_one e note Request name (codes "requestId") part j
    (record { version = before.version; id = before.id; method = before.method; params = before.params; result = before.result; error = before.error; request = is })) (λ request.
    record {
      version = slot_kept e.version note name (codes "jsonrpc") j version before.version;
      id = slot_kept e.id note name (codes "id") j id before.id;
      method = slot_kept e.method note name (codes "method") j method before.method;
      params = slot_kept e.params note name (codes "params") j params before.params;
      result = slot_kept e.result note name (codes "result") j result before.result;
      error = slot_kept e.error note name (codes "error") j error before.error;
      request = slot_kept e.request note name (codes "requestId") j request before.request;
    })))))))

pub noted_as : (old new : Envelope) (note : List ℕ → Option Json) (m : Member) (name : List ℕ) (part : Bor (List ℕ)) (j : Json) → m ≡ member_named name → json_text j ≡ part.now
    → AreNoted old note → new ≡ with_part m part old → AreNoted new (with_member note name j)
noted_as old new note m name part j is text before put =
    subst (λ e. AreNoted e (with_member note name j)) (ap (λ m. with_part m part old) (sym is) ∙ sym put) (all_noted old note name part j text before)

-- ---- a whole object

pub envelope_is : (levels : ℕ) (text bytes : List ℕ) (e : Envelope) (note : List ℕ → Option Json) (all : Members) (from end : ℕ) → bytes ≡ text → get_or bytes from 0 ≡ 123
    → MembersStand levels bytes (from + 1) all end → ((name : List ℕ) → get_member name all ≡ note name) → AreNoted e note → HasEnvelopeAt levels text from end e
envelope_is levels text bytes e note all from end same first stand names noted =
    let slot : (name : List ℕ) → option_map json_text (note name) ≡ option_map json_text (get_member name all) = λ name. ap (option_map json_text) (sym (names name)) in
    record {
      members = all;
      numbers = stand.0;
      nests = stand.1;
      stands = subst (λ t. Stands t from (json_text (object all)) end) same (object_stands levels bytes from end all first stand);
      names = record {
        version = noted.version ∙ slot (codes "jsonrpc");
        id = noted.id ∙ slot (codes "id");
        method = noted.method ∙ slot (codes "method");
        params = noted.params ∙ slot (codes "params");
        result = noted.result ∙ slot (codes "result");
        error = noted.error ∙ slot (codes "error");
        request = noted.request ∙ slot (codes "requestId");
      };
    }

-- a value that is a whole text is read
pub whole_value : (text : List ℕ) (j : Json) → IsUtf8 text → HasNumbers j → depth j ≤ MOST_DEPTH_IN → json_text j ≡ text → value_of MOST_DEPTH_IN text ≡ Some j
whole_value text j utf8 numbers nests is_text =
    let is_utf8_text : is_utf8 (json_text j) ≡ true = is_utf8-from_IsUtf8 (json_text j) (subst (λ t. IsUtf8 t) (sym is_text) utf8) in
    subst (λ t. value_of MOST_DEPTH_IN t ≡ Some j) is_text (value_of-json_text MOST_DEPTH_IN j numbers nests is_utf8_text)

pub whole_envelope : (text : List ℕ) (e : Envelope) (end : ℕ) → IsUtf8 text → HasEnvelopeAt 126 text 0 end e → end ≡ length text → HasEnvelope text e
whole_envelope text e end utf8 h whole =
    let nests = h.nests in
    let value : HasValue 127 text 0 end = record { value = object h.members; numbers = h.numbers; nests = omega (arith, nests); stands = h.stands } in
    record { members = h.members; is = whole_value text (object h.members) utf8 h.numbers (omega (arith, nests)) (value_text 127 text end value whole); numbers = h.numbers; names = h.names }

-- an element of an array
abbrev pub element : (levels : ℕ) (text : List ℕ) (e : Envelope) (from end : ℕ) (h : HasEnvelopeAt levels text from end e) → HasValue (suc levels) text from end
element levels text e from end h = record { value = object h.members; numbers = h.numbers; nests = (let nests = h.nests in omega (arith, nests)); stands = h.stands }

pub nothing_noted : AreNoted (record { version = None; id = None; method = None; params = None; result = None; error = None; request = None }) nothing
nothing_noted = record { version = refl; id = refl; method = refl; params = refl; result = refl; error = refl; request = refl }

-- ---- batches

-- the entries are those of the elements before this place
abbrev pub AreBehind : Rules → List ℕ → ℕ → List Entry → Type 0
AreBehind rules text at entries =
    (end : ℕ) (j : Json) (js : Items) → ItemsStand 126 text at (item j js) end
    → (k : Json) × (ks : Items) × ItemsStand 126 text 1 (item k ks) end × (entries_of rules (item k ks) ≡ entries ++ entries_of rules (item j js))

pub none_behind : (rules : Rules) (text : List ℕ) → AreBehind rules text 1 []
none_behind rules text end j js stand = (j, js, stand, refl)

pub entry_behind : (rules : Rules) (text : List ℕ) (at stop : ℕ) (entries : List Entry) (entry : Entry) (v : HasValue 126 text at stop) → entry ≡ entry_of rules v.value → get_or text stop 0 ≡ 44
    → AreBehind rules text at entries → AreBehind rules text (stop + 1) (entries ++ entry ∷ [])
entry_behind rules text at stop entries entry v is comma behind end j js stand =
    let all = behind end v.value (item j js) (stand_more_items 126 text at stop end v comma j js stand) in
    (all.0, all.1, all.2, all.3 ∙ ap (λ e. entries ++ e ∷ entries_of rules (item j js)) (sym is) ∙ sym (append_assoc entries (entry ∷ []) (entries_of rules (item j js))))

pub batch_is : (rules : Rules) (text bytes : List ℕ) (at end : ℕ) (entries : List Entry) (entry : Entry) (v : HasValue 126 bytes at end) → entry ≡ entry_of rules v.value → get_or bytes end 0 ≡ 93
    → AreBehind rules bytes at entries → get_or bytes 0 0 ≡ 91 → end + 1 ≡ length bytes → bytes ≡ text → IsUtf8 text → HasBatch rules text (entries ++ entry ∷ [])
batch_is rules text bytes at end entries entry v is bracket behind first whole same utf8 =
    let all = behind (end + 1) v.value no_items (stand_last_item 126 bytes at end v bracket) in
    let stand = all.2 in
    let nests = stand.1 in
    let is_text : json_text (array (item all.0 all.1)) ≡ text = array_text 126 bytes (item all.0 all.1) (end + 1) first stand whole ∙ same in
    record {
      first = all.0;
      rest = all.1;
      is = whole_value text (array (item all.0 all.1)) utf8 stand.0 (omega (arith, nests)) is_text;
      are = ap (λ e. entries ++ e ∷ []) is ∙ sym all.3;
    }
