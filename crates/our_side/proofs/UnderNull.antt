-- A single answer under null settles what expects it, or counts for what may be refused whole, or for what can't be read.
use Rattle.std.proofs.Common.{◌≡◌, ◌⊎◌, inl, inr, ◌==◌, ◌||◌, ◌&&◌, not, ℕ, zero, suc, ◌+◌, ◌-◌, ◌^◌, ◌≤◌, ◌<◌, nat_lt, Bool, true, false, if◌then◌else◌, List, [], ◌∷◌, ◌++◌, length, Option, Some, None, option_map, refl, sym, ap, subst, ◌∙◌, arith}
use Rattle.std.proofs.lemmas.Bool.{eqb-true, lt-ltb}
use Rattle.std.specs.Prelude.{is_some, remove}
use Rattle.std.specs.List.{list_any, filter_map}
use Rattle.std.specs.Option.{option_map_or, option_to_list}
use Rattle.conversation_reading.specs.declared.entry.WrittenId.{WrittenId}
use Rattle.conversation_reading.specs.declared.entry.WrittenId.TheVariants.{Null}
use Rattle.conversation_rules.specs.Amounts.{is_null}
use Rattle.conversation_rules.specs.Answers.{has_code, refuses_open, refuses, one_refused, refused_by, is_unsure, target_of, target_of_null, rest_of, single_findings, single_findings_of, unfit_findings, behind_unfit, behind_found, refused_behind, behind_single, refused_behind_single, stray_of, not_owed_level, each_not_owed, are_told, not_owed_findings, behind_not_owed}
use Rattle.conversation_rules.specs.Dues as dues
use Rattle.conversation_rules.specs.Dues.{may_be_refused, settled, settled_entry, unreadable_target}
use Rattle.conversation_rules.specs.Matching.{expects_null, is_null_request, is_null_other, is_unnamed, expects_null_in, null_in, null_target, parse_error_target, named_target, or_else, oldest}
use Rattle.conversation_rules.specs.Owed.{Owed, Due}
use Rattle.conversation_rules.specs.Speakers.{found, found_if, one_less}
use Rattle.conversation_rules.specs.declared.finding.Message.{Message}
use Rattle.conversation_rules.specs.declared.finding.Rule.TheVariants as rules
use Rattle.conversation_rules.specs.declared.found.Target.{Target}
use Rattle.conversation_rules.specs.declared.found.Target.TheVariants.{EntryOf, WholeOf}
use Rattle.conversation_rules.specs.declared.level.Level.TheVariants.{Note}
use Rattle.conversation_rules.specs.declared.protocol.Protocol.{Protocol}
use Rattle.conversation_rules.specs.declared.reply.Refusals.{Refusals}
use Rattle.conversation_rules.specs.declared.reply.Reply.{Reply}
use Rattle.conversation_rules.specs.declared.reply.Sight.{Sight}
use Rattle.our_side.specs.Asked.{Question, alone, together, by_array, under_null, CanBeAsked, as_number, asked_from, answered_under}
use Rattle.our_side.proofs.Ids.{not_named}
use Rattle.our_side.proofs.Kept.{Mild, mild_none, Enough, Leaves, same_left, less_most, one_less_is}
use Rattle.our_side.proofs.Matched.{IsOldest, single_none}
use Rattle.our_side.proofs.Open.{open_on, open_in, AreOrderly, fitting, Takes, takes, none_oldest, null_parts, wholes, under_null_is, under_null_most, any_whole, none_whole, TakesWhole, takes_whole}
use Rattle.our_side.proofs.Walking.{Each}

never : {A : Type 0} (b : Bool) → b ≡ true → b ≡ false → A
never true is isnt = absurd (cc)
never false is isnt = absurd (cc)

module _ (protocol : Protocol) (sight : Sight) (message : Message) (reply : Reply) (owed : List Due) (id : WrittenId) where
  abbrev after : List Due
  after = behind_single sight reply (Some id) owed

  abbrev refusals : Refusals
  refusals = refused_behind_single sight reply (Some id) owed

  -- it accuses nobody, and what is left is owed still
  pub record IsAnswered : Type 0 where
    pub mild : Each Mild (single_findings protocol sight message reply (Some id) owed)
    pub orderly : AreOrderly (behind_single sight reply (Some id) owed)
    pub left : (q : Question) → CanBeAsked q → Leaves q sight.refusals (refused_behind_single sight reply (Some id) owed) (open_in q owed) (open_in q (behind_single sight reply (Some id) owed)) (answered_under q (Some id))

  abbrev pub target : Option Target
  target = target_of sight reply (Some id) owed

  -- what it finds is settled
  abbrev pub FewAsked : Option WrittenId → Type 0
  FewAsked expected = (q : Question) → CanBeAsked q → asked_from q false false (option_to_list expected) ≤ answered_under q (Some id)

  pub entry_answered : (fits : Owed → Bool) (it : Takes fits owed) → target ≡ Some (EntryOf it.content 0) → FewAsked it.it.expected → IsAnswered
  entry_answered fits it is few =
      let rest = settled_entry it.content 0 owed in
      let left : after ≡ rest = ap (λ t. behind_found sight reply (settled t owed) (dues.found t owed)) is ∙ ap (behind_found sight reply rest) it.found_is in
      let same : refusals ≡ sight.refusals = ap (λ t. refused_behind sight reply (settled t owed) (dues.found t owed)) is ∙ ap (refused_behind sight reply rest) it.found_is in
      record {
        mild = mild_none _ (single_none protocol sight message reply (rest_of sight reply (Some id) owed) owed target
            (subst (λ t. IsOldest t owed) (sym is) (record { fit = it.fit; found_is = it.found_is; alone = it.alone; content = it.content; place = 0; is = refl })));
        orderly = subst AreOrderly (sym left) it.orderly;
        left = λ q can.
            let all = it.left q in
            let most = few q can in
            let now = ap (open_in q) left in
            subst (λ r. Leaves q sight.refusals r (open_in q owed) (open_in q after) (answered_under q (Some id))) (sym same)
            (same_left q sight.refusals (open_in q owed) (open_in q after) (answered_under q (Some id)) (omega (arith, all, most, now)));
      }

  -- ---- under null

  module _ (null : id ≡ Null) where
    target_null : target ≡ target_of_null sight reply owed
    target_null = ap (λ x. if is_null x then target_of_null sight reply owed else named_target x owed) null

    answered_null : (q : Question) → answered_under q (Some id) ≡ answered_under q (Some Null)
    answered_null q = ap (λ x. answered_under q (Some x)) null

    once : answered_under under_null (Some id) ≡ 1
    once = answered_null under_null

    unread_few : (q : Question) → CanBeAsked q → asked_from q false true [] ≤ answered_under q (Some Null)
    unread_few (alone i) can = omega arith
    unread_few (together ids) can = omega arith
    unread_few by_array can = omega arith
    unread_few under_null can = omega arith

    null_id_few : (other : WrittenId) → is_null other ≡ true → (q : Question) → CanBeAsked q → asked_from q false false (other ∷ []) ≤ answered_under q (Some Null)
    null_id_few other is (alone i) can = let none = ap as_number (not_named i other can is) in omega (arith, none)
    null_id_few other is (together ids) can = omega arith
    null_id_few other is by_array can = omega arith
    null_id_few other is under_null can = let one = ap as_number is in omega (arith, one)

    null_few : (o : Option WrittenId) → option_map_or is_null o false ≡ true → FewAsked o
    null_few None is q can = absurd (let no : false ≡ true = is in cc)
    null_few (Some other) is q can = let few = null_id_few other is q can in let same = answered_null q in omega (arith, few, same)

    -- an entry that expects null
    null_taken : (fits : Owed → Bool) (it : Takes fits owed) → expects_null it.it ≡ true → target_of_null sight reply owed ≡ Some (EntryOf it.content 0) → IsAnswered
    null_taken fits it null_it is = entry_answered fits it (target_null ∙ is) (null_few it.it.expected null_it)

    second_true : (a b : Bool) → (a && b) ≡ true → b ≡ true
    second_true true b is = is
    second_true false b is = cc

    first_true : (a b : Bool) → (a && b) ≡ true → a ≡ true
    first_true true b is = refl
    first_true false b is = cc

    request_taken : (it : Takes is_null_request owed) → target_of_null sight reply owed ≡ Some (EntryOf it.content 0) → IsAnswered
    request_taken it is = null_taken is_null_request it (second_true it.it.is_request (expects_null it.it) it.fits_it) is

    other_taken : (it : Takes is_null_other owed) → target_of_null sight reply owed ≡ Some (EntryOf it.content 0) → IsAnswered
    other_taken it is = null_taken is_null_other it (second_true (not it.it.is_request) (expects_null it.it) it.fits_it) is

    unnamed_taken : (it : Takes is_unnamed owed) → target_of_null sight reply owed ≡ Some (EntryOf it.content 0) → IsAnswered
    unnamed_taken it is = null_taken is_unnamed it (second_true (not it.it.is_request) (expects_null it.it) (first_true (is_null_other it.it) (option_map_or is_null it.it.own true) it.fits_it)) is

    -- a content that can't be read
    abbrev is_unread : Due → Bool
    is_unread due = due.is_unreadable

    unread_open : (it : TakesWhole is_unread owed) (q : Question) → CanBeAsked q → open_in q owed ≤ open_in q (remove owed it.content) + answered_under q (Some id)
    unread_open it q can =
        let empty = it.was.empty it.fits_it in
        let all = it.left q in
        let few = unread_few q can in
        let on : open_on q it.it ≡ asked_from q false true [] = (λ i. asked_from q (empty.0 i) (it.fits_it i) (filter_map (λ x. x.expected) (empty.1 i))) in
        let same = answered_null q in
        omega (arith, all, few, on, same)

    unread_taken : (it : TakesWhole is_unread owed) → target_of_null sight reply owed ≡ Some (WholeOf it.content) → IsAnswered
    unread_taken it is =
        let whole = target_null ∙ is in
        let left : after ≡ remove owed it.content = ap (λ t. behind_found sight reply (settled t owed) (dues.found t owed)) whole in
        let same : refusals ≡ sight.refusals = ap (λ t. refused_behind sight reply (settled t owed) (dues.found t owed)) whole in
        record {
          mild = subst (λ t. Each Mild (single_findings_of protocol sight message reply (settled t owed) (dues.found t owed))) (sym whole) tt;
          orderly = subst AreOrderly (sym left) it.orderly;
          left = λ q can.
              let few = unread_open it q can in
              let now = ap (open_in q) left in
              subst (λ r. Leaves q sight.refusals r (open_in q owed) (open_in q after) (answered_under q (Some id))) (sym same)
              (same_left q sight.refusals (open_in q owed) (open_in q after) (answered_under q (Some id)) (omega (arith, few, now)));
        }

    -- ---- where it finds nothing

    module _ (none : target_of_null sight reply owed ≡ None) where
      abbrev Behind : (List Due → Type 0) → Type 0
      Behind P = P (behind_unfit sight reply owed)

      after_is : after ≡ behind_unfit sight reply owed
      after_is = ap (λ t. behind_found sight reply (settled t owed) (dues.found t owed)) (target_null ∙ none)

      refusals_are : refusals ≡ refused_by sight reply owed
      refusals_are = ap (λ t. refused_behind sight reply (settled t owed) (dues.found t owed)) (target_null ∙ none)

      findings_are : single_findings protocol sight message reply (Some id) owed ≡ unfit_findings sight message reply owed
      findings_are = ap (λ t. single_findings_of protocol sight message reply (settled t owed) (dues.found t owed)) (target_null ∙ none)

      -- a note
      note_mild : (b : Bool) → Each Mild (found_if b (found message reply.at rules.NotOwed Note))
      note_mild true = (refl, tt)
      note_mild false = tt

      -- it counts for what may be refused whole
      module _ (counts : refuses sight reply owed ≡ true) where
        refused_after : after ≡ owed
        refused_after = after_is ∙ ap (λ b. if b then owed else behind_not_owed (stray_of reply ∷ []) owed) counts

        refused_are : refusals ≡ one_refused sight.refusals owed
        refused_are = refusals_are ∙ ap (λ b. if b then one_refused sight.refusals owed else sight.refusals) counts

        refused_mild : Each Mild (single_findings protocol sight message reply (Some id) owed)
        refused_mild =
            subst (Each Mild) (sym (findings_are ∙ ap (λ b. if b then found_if reply.is_well (found message reply.at rules.NotOwed Note) else not_owed_findings sight message (stray_of reply ∷ []) owed) counts)) (note_mild reply.is_well)

        rest_true : (a b c : Bool) → (a && (b || c)) ≡ true → b ≡ false → c ≡ true
        rest_true true true c is isnt = cc
        rest_true true false c is isnt = is
        rest_true false b c is isnt = cc

        by_count : (b : Bool) → refuses_open sight.refusals owed ≡ b
            → Leaves under_null sight.refusals (if b then record sight.refusals { refused = suc sight.refusals.refused } else record sight.refusals { unowed = one_less sight.refusals.unowed }) (open_in under_null owed) (open_in under_null owed) 1
        by_count true is = record { most = λ most. most; left = inr (omega arith) }
        by_count false is = record { most = λ most. less_most sight.refusals.unowed most; left = from (one_less_is sight.refusals.unowed some) }
          where
            some : not (sight.refusals.unowed == 0) ≡ true
            some = rest_true reply.may_refuse (refuses_open sight.refusals owed) (not (sight.refusals.unowed == 0)) counts is

            from : (one_less sight.refusals.unowed ≡ 2 ^ 64 - 1) ⊎ (one_less sight.refusals.unowed + 1 ≡ sight.refusals.unowed)
                → (one_less sight.refusals.unowed ≡ 2 ^ 64 - 1) ⊎ (open_in under_null owed + sight.refusals.unowed + sight.refusals.refused ≤ open_in under_null owed + one_less sight.refusals.unowed + sight.refusals.refused + 1)
            from (inl most) = inl most
            from (inr less) = inr (omega (arith, less))

        refused_left : (q : Question) → CanBeAsked q → Leaves q sight.refusals (one_refused sight.refusals owed) (open_in q owed) (open_in q owed) (answered_under q (Some id))
        refused_left (alone i) can = record { most = λ most. most; left = inr (omega arith) }
        refused_left (together ids) can = record { most = λ most. most; left = inr (omega arith) }
        refused_left by_array can = record { most = λ most. most; left = inr (omega arith) }
        refused_left under_null can = subst (λ n. Leaves under_null sight.refusals (one_refused sight.refusals owed) (open_in under_null owed) (open_in under_null owed) n) (sym once) (by_count (refuses_open sight.refusals owed) refl)

        refused_answered : AreOrderly owed → IsAnswered
        refused_answered orderly = record {
          mild = refused_mild;
          orderly = subst AreOrderly (sym refused_after) orderly;
          left = λ q can.
              subst (λ r. Leaves q sight.refusals r (open_in q owed) (open_in q after) (answered_under q (Some id))) (sym refused_are)
              (subst (λ these. Leaves q sight.refusals (one_refused sight.refusals owed) (open_in q owed) (open_in q these) (answered_under q (Some id))) (sym refused_after) (refused_left q can));
        }

      -- or for a content that couldn't be read
      module _ (counts : refuses sight reply owed ≡ false) (well : reply.is_well ≡ true) (it : TakesWhole is_unread owed) where
        unreadable_is : unreadable_target owed ≡ Some (WholeOf it.content)
        unreadable_is = ap (option_map WholeOf) it.is

        are_told_true : are_told (stray_of reply ∷ []) ≡ true
        are_told_true = ap (λ b. b || false) well

        stray_behind : behind_unfit sight reply owed ≡ remove owed it.content
        stray_behind =
            ap (λ b. if b then owed else behind_not_owed (stray_of reply ∷ []) owed) counts ∙ ap (λ b. if b then settled (unreadable_target owed) owed else owed) are_told_true
            ∙ ap (λ t. settled t owed) unreadable_is

        append_nothing : (b : Bool) → Each Mild (found_if b (found message reply.at rules.NotOwed Note)) → Each Mild (found_if b (found message reply.at rules.NotOwed Note) ++ [])
        append_nothing true each = (each.0, tt)
        append_nothing false each = tt

        told_level : not_owed_level sight (is_some (unreadable_target owed)) ≡ Note
        told_level = ap (λ t. not_owed_level sight (is_some t)) unreadable_is

        stray_findings : unfit_findings sight message reply owed ≡ each_not_owed message Note (stray_of reply ∷ [])
        stray_findings =
            ap (λ b. if b then found_if reply.is_well (found message reply.at rules.NotOwed Note) else not_owed_findings sight message (stray_of reply ∷ []) owed) counts
            ∙ ap (λ b. if b then each_not_owed message (not_owed_level sight (is_some (unreadable_target owed))) (stray_of reply ∷ []) else []) are_told_true
            ∙ ap (λ level. each_not_owed message level (stray_of reply ∷ [])) told_level

        stray_answered : IsAnswered
        stray_answered =
            let left : after ≡ remove owed it.content = after_is ∙ stray_behind in
            let same : refusals ≡ sight.refusals = refusals_are ∙ ap (λ b. if b then one_refused sight.refusals owed else sight.refusals) counts in
            record {
              mild = subst (Each Mild) (sym (findings_are ∙ stray_findings)) (append_nothing reply.is_well (note_mild reply.is_well));
              orderly = subst AreOrderly (sym left) it.orderly;
              left = λ q can.
                  let few = unread_open it q can in
                  let now = ap (open_in q) left in
                  subst (λ r. Leaves q sight.refusals r (open_in q owed) (open_in q after) (answered_under q (Some id))) (sym same)
                  (same_left q sight.refusals (open_in q owed) (open_in q after) (answered_under q (Some id)) (omega (arith, few, now)));
            }

    -- ---- which of them it is

    module _ (well : reply.is_well ≡ true) (may : reply.may_refuse ≡ true) (orderly : AreOrderly owed) (some : Enough under_null sight.refusals 1 (open_in under_null owed)) where
      abbrev unread_count : ℕ
      unread_count = wholes is_unread owed

      abbrev batch_count : ℕ
      batch_count = wholes (λ due. due.is_batch) owed

      -- something may be answered so
      or_parts : (b c : Bool) → (b || c) ≡ false → (b ≡ false) × (c ≡ false)
      or_parts true c is = cc
      or_parts false true c = cc
      or_parts false false is = (refl, refl)

      not_zero : (n : ℕ) → not (n == 0) ≡ false → n ≡ 0
      not_zero n is = from (n == 0) refl is
        where
          from : (b : Bool) → (n == 0) ≡ b → not b ≡ false → n ≡ 0
          from true equal isnt = eqb-true n 0 equal
          from false equal isnt = absurd (cc)

      and_true : (a b : Bool) → a ≡ true → b ≡ true → (a && b) ≡ true
      and_true a b is that = ap (λ x. x && b) is ∙ that

      counts_not : refuses sight reply owed ≡ false → unread_count ≡ 0 → fitting expects_null owed ≡ 0 → {A : Type 0} → A
      counts_not not_refused read singly =
          let parts = or_parts (refuses_open sight.refusals owed) (not (sight.refusals.unowed == 0)) (sym (ap (λ b. b && (refuses_open sight.refusals owed || not (sight.refusals.unowed == 0))) may) ∙ not_refused) in
          from parts.0 (not_zero sight.refusals.unowed parts.1) some
        where
          most_not : sight.refusals.unowed ≡ 0 → sight.refusals.unowed ≡ 2 ^ 64 - 1 → ⊥
          most_not nothing most = let no : 0 ≡ 2 ^ 64 - 1 = sym nothing ∙ most in omega (arith, no)

          from : refuses_open sight.refusals owed ≡ false → sight.refusals.unowed ≡ 0 → Enough under_null sight.refusals 1 (open_in under_null owed) → {A : Type 0} → A
          from isnt nothing (inl most) = absurd (most_not nothing most)
          from isnt nothing (inr enough) =
              let parts = under_null_is owed orderly in
              let few = under_null_most owed orderly in
              let batches : 1 ≤ batch_count = omega (arith, enough, nothing, parts, read, singly) in
              let below : sight.refusals.refused < length owed = omega (arith, enough, nothing, few) in
              let refused : may_be_refused owed ≡ true = ap (λ b. b || list_any (λ due. due.has_huge) owed) (any_whole (λ due. due.is_batch) owed batches) in
              never (refuses_open sight.refusals owed) (and_true (may_be_refused owed) (nat_lt sight.refusals.refused (length owed)) refused (lt-ltb sight.refusals.refused (length owed) below)) isnt

      unread_none : unread_count ≡ 0 → unreadable_target owed ≡ None
      unread_none none = ap (option_map WholeOf) (none_whole is_unread owed none)

      -- it is unsure where it may refuse
      unsure_is : unread_count ≡ 0 → is_unsure sight reply owed ≡ refuses sight reply owed
      unsure_is none = ap (λ t. refuses sight reply owed || (reply.may_refuse && is_some t)) (unread_none none) ∙ nothing_more (refuses sight reply owed) reply.may_refuse
        where
          nothing_more : (b c : Bool) → (b || (c && false)) ≡ b
          nothing_more true c = refl
          nothing_more false true = refl
          nothing_more false false = refl

      -- ---- -32700

      abbrev parse_by : Option Target → Option Target → Bool → Option Target → Bool → Option Target → Option Target
      parse_by unread request limited unnamed unsure named = or_else unread (or_else request (if limited then None else or_else unnamed (if unsure then None else named)))

      -- what a reader may limit is open
      abbrev limited : Bool
      limited = is_unsure sight reply owed && list_any (λ due. due.has_huge) owed

      module _ (says : has_code 32700 reply ≡ true) where
        parse_is : target_of_null sight reply owed
            ≡ parse_by (unreadable_target owed) (oldest false is_null_request owed) limited (oldest false is_unnamed owed) (is_unsure sight reply owed) (oldest false is_null_other owed)
        parse_is = ap (λ b. if b then parse_error_target (is_unsure sight reply owed) owed else null_target (has_code 32600 reply) (is_unsure sight reply owed) owed) says

        named_by : (b : Bool) → refuses sight reply owed ≡ b → unread_count ≡ 0 → fitting is_null_request owed ≡ 0 → limited ≡ false → fitting is_unnamed owed ≡ 0 → (named : ℕ) → fitting is_null_other owed ≡ named → IsAnswered
        named_by true counts read requests within unnamed named are =
            refused_answered (parse_is ∙ (λ i. parse_by (unread_none read i) (none_oldest is_null_request owed requests i) (within i) (none_oldest is_unnamed owed unnamed i) ((unsure_is read ∙ counts) i) (oldest false is_null_other owed))) counts orderly
        named_by false counts read requests within unnamed zero are =
            counts_not counts read (let parts = null_parts owed in omega (arith, parts, requests, are))
        named_by false counts read requests within unnamed (suc n) are =
            let it = takes is_null_other owed orderly (omega (arith, are)) in
            other_taken it (parse_is ∙ (λ i. parse_by (unread_none read i) (none_oldest is_null_request owed requests i) (within i) (none_oldest is_unnamed owed unnamed i) ((unsure_is read ∙ counts) i) (it.is i)))

        unnamed_by : (n : ℕ) → unread_count ≡ 0 → fitting is_null_request owed ≡ 0 → limited ≡ false → fitting is_unnamed owed ≡ n → IsAnswered
        unnamed_by zero read requests within unnamed = named_by (refuses sight reply owed) refl read requests within unnamed (fitting is_null_other owed) refl
        unnamed_by (suc n) read requests within unnamed =
            let it = takes is_unnamed owed orderly (omega (arith, unnamed)) in
            unnamed_taken it (parse_is ∙ (λ i. parse_by (unread_none read i) (none_oldest is_null_request owed requests i) (within i) (it.is i) (is_unsure sight reply owed) (oldest false is_null_other owed)))

        limited_by : (b : Bool) → limited ≡ b → unread_count ≡ 0 → fitting is_null_request owed ≡ 0 → IsAnswered
        limited_by true beyond read requests =
            refused_answered (parse_is ∙ (λ i. parse_by (unread_none read i) (none_oldest is_null_request owed requests i) (beyond i) (oldest false is_unnamed owed) (is_unsure sight reply owed) (oldest false is_null_other owed)))
            (sym (unsure_is read) ∙ first_true (is_unsure sight reply owed) (list_any (λ due. due.has_huge) owed) beyond) orderly
        limited_by false within read requests = unnamed_by (fitting is_unnamed owed) read requests within refl

        request_by : (n : ℕ) → unread_count ≡ 0 → fitting is_null_request owed ≡ n → IsAnswered
        request_by zero read requests = limited_by limited refl read requests
        request_by (suc n) read requests =
            let it = takes is_null_request owed orderly (omega (arith, requests)) in
            request_taken it (parse_is ∙ (λ i. parse_by (unread_none read i) (it.is i) limited (oldest false is_unnamed owed) (is_unsure sight reply owed) (oldest false is_null_other owed)))

        unread_by : (n : ℕ) → unread_count ≡ n → IsAnswered
        unread_by zero read = request_by (fitting is_null_request owed) read refl
        unread_by (suc n) read =
            let it = takes_whole is_unread owed orderly (omega (arith, read)) in
            unread_taken it (parse_is ∙ ap (λ o. parse_by (option_map WholeOf o) (oldest false is_null_request owed) limited (oldest false is_unnamed owed) (is_unsure sight reply owed) (oldest false is_null_other owed)) it.is)

      -- ---- another code

      module _ (says : has_code 32700 reply ≡ false) where
        abbrev invalid : Bool
        invalid = has_code 32600 reply

        abbrev expects_by : Bool → Option Target → Option Target → Option Target
        expects_by says_invalid request other = if says_invalid then or_else other request else or_else request other

        expects_is : (b : Bool) → expects_null_in b false owed ≡ expects_by b (oldest false is_null_request owed) (oldest false is_null_other owed)
        expects_is true = refl
        expects_is false = refl

        abbrev null_by : Bool → Option Target → Option Target
        null_by unsure expected = if unsure then expected else or_else (or_else expected (oldest false (λ x. x.may_be_null) owed)) (null_in invalid true owed)

        null_is : target_of_null sight reply owed ≡ null_by (is_unsure sight reply owed) (expects_null_in invalid false owed)
        null_is = ap (λ b. if b then parse_error_target (is_unsure sight reply owed) owed else null_target invalid (is_unsure sight reply owed) owed) says

        found_by : (b : Bool) (n : ℕ) → null_by b (Some (EntryOf n 0)) ≡ Some (EntryOf n 0)
        found_by true n = refl
        found_by false n = refl

        expected_is : (n : ℕ) → expects_by invalid (oldest false is_null_request owed) (oldest false is_null_other owed) ≡ Some (EntryOf n 0) → target_of_null sight reply owed ≡ Some (EntryOf n 0)
        expected_is n is = null_is ∙ ap (null_by (is_unsure sight reply owed)) (expects_is invalid ∙ is) ∙ found_by (is_unsure sight reply owed) n

        stray_by : (n : ℕ) → unread_count ≡ n → refuses sight reply owed ≡ false → fitting expects_null owed ≡ 0 → target_of_null sight reply owed ≡ null_by (is_unsure sight reply owed) None → IsAnswered
        stray_by zero read counts singly is = counts_not counts read singly
        stray_by (suc n) read counts singly is =
            let it = takes_whole is_unread owed orderly (omega (arith, read)) in
            let unsure : is_unsure sight reply owed ≡ true = (λ i. counts i || (may i && is_some (option_map WholeOf (it.is i)))) in
            stray_answered (is ∙ ap (λ b. null_by b None) unsure) counts well it

        refused_by_count : (b : Bool) → refuses sight reply owed ≡ b → fitting expects_null owed ≡ 0 → target_of_null sight reply owed ≡ null_by (is_unsure sight reply owed) None → IsAnswered
        refused_by_count true counts singly is =
            let unsure : is_unsure sight reply owed ≡ true = ap (λ b. b || (reply.may_refuse && is_some (unreadable_target owed))) counts in
            refused_answered (is ∙ ap (λ b. null_by b None) unsure) counts orderly
        refused_by_count false counts singly is = stray_by unread_count refl counts singly is

        both_none : (b : Bool) → expects_by b None None ≡ None
        both_none true = refl
        both_none false = refl

        alone_by : (code : Bool) → invalid ≡ code → (requests others : ℕ) → fitting is_null_request owed ≡ requests → fitting is_null_other owed ≡ others → IsAnswered
        alone_by code code_is zero zero none no_other =
            refused_by_count (refuses sight reply owed) refl (let parts = null_parts owed in omega (arith, parts, none, no_other))
            (null_is ∙ ap (null_by (is_unsure sight reply owed)) (expects_is invalid ∙ (λ i. expects_by invalid (none_oldest is_null_request owed none i) (none_oldest is_null_other owed no_other i)) ∙ both_none invalid))
        alone_by code code_is zero (suc n) none many =
            let it = takes is_null_other owed orderly (omega (arith, many)) in
            other_taken it (expected_is it.content ((λ i. expects_by (code_is i) (none_oldest is_null_request owed none i) (it.is i)) ∙ only_other code it.content))
          where
            only_other : (b : Bool) (n : ℕ) → expects_by b None (Some (EntryOf n 0)) ≡ Some (EntryOf n 0)
            only_other true n = refl
            only_other false n = refl
        alone_by code code_is (suc n) zero many none =
            let it = takes is_null_request owed orderly (omega (arith, many)) in
            request_taken it (expected_is it.content ((λ i. expects_by (code_is i) (it.is i) (none_oldest is_null_other owed none i)) ∙ only_request code it.content))
          where
            only_request : (b : Bool) (n : ℕ) → expects_by b (Some (EntryOf n 0)) None ≡ Some (EntryOf n 0)
            only_request true n = refl
            only_request false n = refl
        alone_by true code_is (suc n) (suc m) many more =
            let it = takes is_null_other owed orderly (omega (arith, more)) in
            other_taken it (expected_is it.content (λ i. expects_by (code_is i) (oldest false is_null_request owed) (it.is i)))
        alone_by false code_is (suc n) (suc m) many more =
            let it = takes is_null_request owed orderly (omega (arith, many)) in
            request_taken it (expected_is it.content (λ i. expects_by (code_is i) (it.is i) (oldest false is_null_other owed)))

      pub null_answered : IsAnswered
      null_answered = from (has_code 32700 reply) refl
        where
          from : (b : Bool) → has_code 32700 reply ≡ b → IsAnswered
          from true says = unread_by says unread_count refl
          from false says = alone_by says (has_code 32600 reply) refl (fitting is_null_request owed) (fitting is_null_other owed) refl refl
