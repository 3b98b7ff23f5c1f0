-- A cancel by which a connection may leave a request is one to the judge as well.
use Rattle.std.proofs.Common.{◌≡◌, ◌⊎◌, inl, inr, ◌||◌, ◌&&◌, not, ℕ, ◌+◌, ◌≤◌, Bool, true, false, if◌then◌else◌, List, [], ◌∷◌, Option, Some, None, option_map, is_some, refl, sym, ap, subst, ◌∙◌, arith}
use Rattle.std.proofs.lemmas.Slice.Eq.{bytes_eq-Decides}
use Rattle.std.specs.Option.{option_map_or, is_none}
use Rattle.std.specs.Prelude.{codes, option_and_then}
use Rattle.std.specs.Str.{bytes_eq}
use Rattle.json.specs.Find.{get}
use Rattle.json.specs.Json as json
use Rattle.json.specs.Json.{Json, array, object, Items, no_items, item}
use Rattle.connection_messages.specs.Reading as lenient
use Rattle.connection_messages.specs.Reading.{cancelled_id, cancel_member, call_id, call_params, call_from, call_in as came_in, target_in, is_cancel as is_its_cancel, cancel_or_call, call_entry, id_of, key_in, reply_in, reply_entry}
use Rattle.connection_messages.specs.declared.call.Call.{Call as Came}
use Rattle.connection_messages.specs.declared.cancels.Cancels.TheVariants.{Mcp}
use Rattle.connection_messages.specs.declared.entry.Entry.{Entry as Read}
use Rattle.connection_messages.specs.declared.entry.Entry.TheVariants.{Call, Cancel, Reply, Stray, Invalid as Nothing}
use Rattle.connection_messages.specs.declared.reply.Reply.{Reply as Replied}
use Rattle.connection_messages.specs.declared.rules.Rules.{Rules}
use Rattle.conversation_reading.specs.Strictly as strict
use Rattle.conversation_reading.specs.Strictly.{has, there_in, is_object, is_version_2, id_in, method_in, are_unfit, call_faults, answer_faults, no_object, faults_of, has_fault, call_kind, kind_in}
use Rattle.conversation_reading.specs.Twice.{has_twice as stands_twice}
use Rattle.conversation_reading.specs.declared.entry.Kind.TheVariants.{Notification, Answer, BrokenAnswer, Invalid}
use Rattle.conversation_rules.specs.Entries.{is_notification, is_cancel, is_first_cancel, may_leave}
use Rattle.conversation_rules.specs.Protocols.{is_mcp, cancel_method}
use Rattle.conversation_rules.specs.declared.protocol.Protocol.{Protocol}
use Rattle.conversation_rules.specs.declared.protocol.Protocol.TheVariants.{JsonRpc, Lsp, Mcp as Mcp20251125, Mcp20250618, Mcp20250326, Mcp20241105}
use Rattle.judge_laws.proofs.Ties.{object_of}
use Rattle.message_ids.specs.declared.id.Id.{Id}
use Rattle.our_side.specs.Answered.{any_cancel}
use Rattle.our_side.specs.Asked.{as_number, leaving}

-- ---- what it reads as a cancel

abbrev is_one : Read → Bool
is_one e = any_cancel (e ∷ [])

any_first : (e : Read) (es : List Read) → any_cancel (e ∷ es) ≡ true → (is_one e ≡ true) ⊎ (any_cancel es ≡ true)
any_first (Call c) es any = inr any
any_first (Cancel id) es any = inl refl
any_first (Reply k r) es any = inr any
any_first Stray es any = inr any
any_first Nothing es any = inr any

abbrev mcp_name : List ℕ
mcp_name = codes "notifications/cancelled"

record IsTheirs (j : Json) (version : Bool) (method : Option (List ℕ)) (params : Option (Option (List ℕ))) (given : Option (Option Id)) : Type 0 where
  version_is : version ≡ true
  name : List ℕ
  method_is : method ≡ Some name
  name_is : bytes_eq name mcp_name ≡ true
  known : Option (List ℕ)
  params_are : params ≡ Some known
  no_id : given ≡ Some None
  target : Id
  target_is : target_in Mcp j ≡ Some target

module _ (j : Json) where
  by_name : (m : List ℕ) (q : Option (List ℕ)) (target : Id) (b : Bool) → bytes_eq m mcp_name ≡ b → target_in Mcp j ≡ Some target
      → is_one (if b then Cancel target else Call (record { id = None; method = m; params = q })) ≡ true → IsTheirs j true (Some m) (Some q) (Some None)
  by_name m q target true named aimed one = record { version_is = refl; name = m; method_is = refl; name_is = named; known = q; params_are = refl; no_id = refl; target = target; target_is = aimed }
  by_name m q target false named aimed one = absurd (let no : false ≡ true = one in cc)

  by_target : (m : List ℕ) (q : Option (List ℕ)) (o : Option Id) → target_in Mcp j ≡ o → is_one (cancel_or_call Mcp (record { id = None; method = m; params = q }) o) ≡ true → IsTheirs j true (Some m) (Some q) (Some None)
  by_target m q None aimed one = absurd (let no : false ≡ true = one in cc)
  by_target m q (Some target) aimed one = by_name m q target (bytes_eq m mcp_name) refl aimed one

  with_id : (m : List ℕ) (q : Option (List ℕ)) (id : Id) (o : Option Id) → is_one (cancel_or_call Mcp (record { id = Some id; method = m; params = q }) o) ≡ false
  with_id m q id None = refl
  with_id m q id (Some target) = refl

  theirs : (version : Bool) (method : Option (List ℕ)) (params : Option (Option (List ℕ))) (given : Option (Option Id)) → is_one (call_entry (Some Mcp) (call_from version method params given) j) ≡ true → IsTheirs j version method params given
  theirs false method params given one = absurd (let no : false ≡ true = one in cc)
  theirs true None params given one = absurd (let no : false ≡ true = one in cc)
  theirs true (Some m) None given one = absurd (let no : false ≡ true = one in cc)
  theirs true (Some m) (Some q) None one = absurd (let no : false ≡ true = one in cc)
  theirs true (Some m) (Some q) (Some None) one = by_target m q (target_in Mcp j) refl one
  theirs true (Some m) (Some q) (Some (Some id)) one = absurd (let no : false ≡ true = sym (with_id m q id (target_in Mcp j)) ∙ one in cc)

  -- ---- it is a notification strictly

  fit : (told : Bool) (o : Option Json) (q : Option (List ℕ)) (target : Id) → call_params told o ≡ Some q → option_and_then (λ params. option_and_then cancelled_id (get (cancel_member Mcp) params)) o ≡ Some target → are_unfit o ≡ false
  fit told None q target are aimed = refl
  fit told (Some json.null) q target are aimed = absurd (let no : None ≡ Some target = aimed in cc)
  fit told (Some (json.boolean b)) q target are aimed = absurd (let no : None ≡ Some target = aimed in cc)
  fit told (Some (json.number s)) q target are aimed = absurd (let no : None ≡ Some target = aimed in cc)
  fit told (Some (json.string s)) q target are aimed = absurd (let no : None ≡ Some target = aimed in cc)
  fit told (Some (array js)) q target are aimed = refl
  fit told (Some (object ms)) q target are aimed = refl

  none_given : (o : Option Id) → option_map Some o ≡ Some None → ⊥
  none_given None is = let no : None ≡ Some None = is in cc
  none_given (Some id) is = let no : Some (Some id) ≡ Some None = is in cc

  unnamed : (o : Option Json) → call_id o ≡ Some None → is_some o ≡ false
  unnamed None is = refl
  unnamed (Some i) is = absurd (none_given (id_of i) is)

  abbrev faults_by : Bool → Bool → Bool → Bool → Bool
  faults_by version method params id = false || not version || method || params || id || false || false

  module _ (told : Bool) (method : has (codes "method") j ≡ true) (it : IsTheirs j (is_version_2 j) (method_in j) (call_params told (get (codes "params") j)) (call_id (get (codes "id") j))) where
    no_id_there : has (codes "id") j ≡ false
    no_id_there = unnamed (get (codes "id") j) it.no_id

    call_is : faults_of j ≡ call_faults j
    call_is = (λ i. if object_of j method i then (if method i then call_faults j else answer_faults j (there_in j)) else no_object)

    faultless : has_fault (faults_of j) ≡ false
    faultless = ap has_fault call_is
        ∙ (λ i. faults_by (it.version_is i) (is_none (it.method_is i)) (fit told (get (codes "params") j) it.known it.target it.params_are it.target_is i) (no_id_there i && is_none (id_in j)))

    notified : kind_in j ≡ Notification
    notified =
        (λ i. if method i then call_kind (has_fault (faults_of j)) (has (codes "id") j) else (if has (codes "result") j || has (codes "error") j then (if has_fault (faults_of j) || stands_twice j then BrokenAnswer else Answer) else Invalid))
        ∙ (λ i. call_kind (faultless i) (no_id_there i))

    same_name : bytes_eq mcp_name it.name ≡ true
    same_name = (bytes_eq-Decides mcp_name it.name).1 (sym ((bytes_eq-Decides it.name mcp_name).0 it.name_is))

    named : option_map_or (bytes_eq mcp_name) (method_in j) false ≡ true
    named = ap (λ o. option_map_or (bytes_eq mcp_name) o false) it.method_is ∙ same_name

-- ---- to the judge

mcp_method : (protocol : Protocol) → is_mcp protocol ≡ true → cancel_method protocol ≡ Some mcp_name
mcp_method JsonRpc is = absurd (let no : false ≡ true = is in cc)
mcp_method Lsp is = absurd (let no : false ≡ true = is in cc)
mcp_method Mcp20251125 is = refl
mcp_method Mcp20250618 is = refl
mcp_method Mcp20250326 is = refl
mcp_method Mcp20241105 is = refl

module _ (protocol : Protocol) (mcp : is_mcp protocol ≡ true) (rules : Rules) (by_mcp : rules.cancels ≡ Some Mcp) where
  module _ (j : Json) where
    notified_leaves : kind_in j ≡ Notification → option_map_or (bytes_eq mcp_name) (method_in j) false ≡ true → may_leave protocol (strict.entry_of j) ≡ true
    notified_leaves notification name =
        let cancel : is_cancel protocol (strict.entry_of j) ≡ true =
        (λ i. is_notification (notification i) && option_map_or (λ method. option_map_or (bytes_eq method) (method_in j) false) (mcp_method protocol mcp i) false) ∙ name in
        (λ i. mcp i && (cancel i || option_map_or (is_first_cancel protocol) (strict.entry_of j).first false))

    no_reply : (o : Option ℕ) (r : Replied) → is_one (reply_entry o r) ≡ false
    no_reply None r = refl
    no_reply (Some k) r = refl

    entry_leaves : is_one (lenient.entry_of rules j) ≡ true → may_leave protocol (strict.entry_of j) ≡ true
    entry_leaves one = from (has (codes "method") j) refl (has (codes "result") j || has (codes "error") j) one
      where
        from : (m : Bool) → has (codes "method") j ≡ m → (r : Bool) → is_one (if m then call_entry rules.cancels (came_in rules.null_params j) j else (if r then reply_entry (key_in j) (reply_in j) else Nothing)) ≡ true
            → may_leave protocol (strict.entry_of j) ≡ true
        from true method r this =
            let it = theirs j (is_version_2 j) (method_in j) (call_params rules.null_params (get (codes "params") j)) (call_id (get (codes "id") j))
            (subst (λ by. is_one (call_entry by (came_in rules.null_params j) j) ≡ true) by_mcp this) in
            notified_leaves (notified j rules.null_params method it) (named j rules.null_params method it)
        from false method true this = absurd (let no : false ≡ true = sym (no_reply (key_in j) (reply_in j)) ∙ this in cc)
        from false method false this = absurd (let no : false ≡ true = this in cc)

  pub single_leaves : (j : Json) → is_one (lenient.entry_of rules j) ≡ true → 1 ≤ leaving protocol (strict.entry_of j ∷ [])
  single_leaves j one = let it = ap as_number (entry_leaves j one) in omega (arith, it)

  pub items_leave : (js : Items) → any_cancel (lenient.entries_of rules js) ≡ true → 1 ≤ leaving protocol (strict.entries_of js)
  items_leave no_items any = absurd (let no : false ≡ true = any in cc)
  items_leave (item j js) any = from (any_first (lenient.entry_of rules j) (lenient.entries_of rules js) any) (items_leave js)
    where
      from : (is_one (lenient.entry_of rules j) ≡ true) ⊎ (any_cancel (lenient.entries_of rules js) ≡ true) → (any_cancel (lenient.entries_of rules js) ≡ true → 1 ≤ leaving protocol (strict.entries_of js))
          → 1 ≤ leaving protocol (strict.entry_of j ∷ strict.entries_of js)
      from (inl one) later = let it = ap as_number (entry_leaves j one) in omega (arith, it)
      from (inr more) later = let rest = later more in omega (arith, rest)
