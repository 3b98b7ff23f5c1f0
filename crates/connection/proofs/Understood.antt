-- What came to one connection is what the other said.
use Rattle.std.proofs.Common.{◌≡◌, ℕ, zero, suc, ◌≤◌, List, [], ◌∷◌, length, map, take, Option, None, refl, ap, sym, subst, ◌∙◌, arith}
use Rattle.std.proofs.lemmas.List.{take-map, take-take, take_all, length-map, length-take}
use Rattle.std.specs.Prelude.{slice_get}
use Rattle.connection_messages.specs.declared.cancels.Cancels.{Cancels}
use Rattle.connection_messages.specs.declared.rules.Rules.{Rules}
use Rattle.connection_history.specs.declared.event.Event.{Event}
use Rattle.connection_history.specs.History.{History, units_of}
use Rattle.content_streams.specs.Streams.{contents, contents_of, plain}
use Rattle.content_streams.specs.declared.ending.HowEnded.{HowEnded}
use Rattle.outbox.specs.Output.{full_count}
use Rattle.connection.specs.BackToBack.{Message, text_of, as_read, messages_of, NoCancelNoticed, AreFirst, AllFit, AllWithin, IsEndedWhole, whole_count, AreJoined, Understands}
use Rattle.connection.specs.Settings.{rules_of}
use Rattle.connection.specs.Connections.{Connection, StandsAfter, read, next_content}
use Rattle.connection.proofs.OwnNames.{HaveOwnNames, first_named, messages_named}
use Rattle.connection.proofs.ReadIds.{came_have_ids}
use Rattle.connection.proofs.SaidSound.{AreSound, messages_sound}
use Rattle.connection.proofs.SoundTexts.{ReadLaws, message_reads}
use Rattle.connection.proofs.Written.{written_is}
use Rattle.connection.proofs.WrittenBytes.{all_taken}

-- What the law of written contents says.
abbrev pub AreContents : Type 0
AreContents =
    (c : Connection) (history : History) (told : List Event) (limit : ℕ) (pieces : List (List ℕ)) (ended : Option HowEnded) → StandsAfter c history told → AllFit limit c.desk.out.written
    → (n : ℕ) → IsEndedWhole c.settings.framing n c.desk.out.written ended → AreFirst c.settings.framing n c.desk.out.written pieces
    → contents_of c.settings.framing limit pieces ended ≡ map plain (take (whole_count c.settings.framing n c.desk.out.written) c.desk.out.written)

-- texts that are read are the messages
all_read : ReadLaws → (rules : Rules) (ms : List Message) → AreSound rules.cancels ms → HaveOwnNames rules.cancels ms → AllWithin rules.most_entries ms → map (read rules) (map plain (map text_of ms)) ≡ map as_read ms
all_read laws rules [] sound named kept = refl
all_read laws rules (m ∷ ms) sound named kept = λ i. message_reads laws rules m sound.0 named.0 kept.0 i ∷ all_read laws rules ms sound.1 named.1 kept.1 i

first_sound : (cancels : Option Cancels) (n : ℕ) (ms : List Message) → AreSound cancels ms → AreSound cancels (take n ms)
first_sound cancels zero ms sound = tt
first_sound cancels (suc n) [] sound = tt
first_sound cancels (suc n) (m ∷ ms) sound = (sound.0, first_sound cancels n ms sound.1)

first_kept : (most : Option ℕ) (n : ℕ) (ms : List Message) → AllWithin most ms → AllWithin most (take n ms)
first_kept most zero ms kept = tt
first_kept most (suc n) [] kept = tt
first_kept most (suc n) (m ∷ ms) kept = (kept.0, first_kept most n ms kept.1)

none_left : {A : Type 0} (xs : List A) (n : ℕ) → slice_get xs n ≡ None → length xs ≤ n
none_left [] n none = omega arith
none_left (x ∷ xs) zero none = absurd (cc)
none_left (x ∷ xs) (suc n) none = let few = none_left xs n none in omega (arith, few)

module _ (laws : ReadLaws) (are : AreContents) (n : ℕ) (writer reader : Connection) (said heard : History) (told other : List Event)
    (speaks : StandsAfter writer said told) (hears : StandsAfter reader heard other) (none_cancels : NoCancelNoticed writer.settings.cancels said) (joined : AreJoined n writer reader)
    (kept : AllWithin reader.settings.most_entries (messages_of writer.settings.order said)) where
  abbrev messages : List Message
  messages = messages_of writer.settings.order said

  abbrev whole : ℕ
  whole = whole_count writer.settings.framing n writer.desk.out.written

  abbrev rules : Rules
  rules = rules_of reader.settings

  sound : AreSound reader.settings.cancels messages
  sound = subst (λ c. AreSound c messages) (sym joined.cancels) (messages_sound writer.settings.cancels writer.settings.order said speaks.lawful speaks.typed (came_have_ids writer said told speaks))

  named : HaveOwnNames reader.settings.cancels messages
  named = subst (λ c. HaveOwnNames c messages) (sym joined.cancels) (messages_named writer.settings.cancels writer.settings.order said none_cancels)

  -- the reader's contents are the texts that came whole
  texts_came : contents reader.stream ≡ map plain (map text_of (take whole messages))
  texts_came =
      (λ i. contents_of (((hears.stream.framing ∙ joined.framing) i)) (hears.stream.limit i) reader.stream.pieces reader.stream.ended)
      ∙ are writer said told reader.settings.content reader.stream.pieces reader.stream.ended speaks joined.fits n joined.ended joined.fed
      ∙ ap (λ ts. map plain (take whole ts)) (written_is writer said told speaks)
      ∙ ap (map plain) (take-map text_of whole messages)

  -- those of them that the reader has gone through
  came : units_of heard ≡ map as_read (take (length (units_of heard)) (take whole messages))
  came =
      let count : ℕ = length (units_of heard) in
      hears.stream.came
      ∙ (λ i. map (read rules) (take (hears.stream.taken i) (texts_came i)))
      ∙ ap (map (read rules)) (take-map plain count (map text_of (take whole messages)) ∙ ap (map plain) (take-map text_of count (take whole messages)))
      ∙ all_read laws rules (take count (take whole messages)) (first_sound rules.cancels count (take whole messages) (first_sound rules.cancels whole messages sound))
      (first_named rules.cancels count (take whole messages) (first_named rules.cancels whole messages named))
      (first_kept rules.most_entries count (take whole messages) (first_kept rules.most_entries whole messages kept))

  size : length (units_of heard) ≤ length (take whole messages)
  size = let is = ap length came ∙ length-map (take (length (units_of heard)) (take whole messages)) as_read in omega (arith, is, length-take (length (units_of heard)) (take whole messages))

  first : units_of heard ≡ map as_read (take (length (units_of heard)) messages)
  first = came ∙ ap (map as_read) (take-take (length (units_of heard)) whole messages (let few = length-take whole messages in omega (arith, size, few)))

  all_came : next_content reader heard ≡ None → units_of heard ≡ map as_read (take whole messages)
  all_came none =
      let few : length (contents reader.stream) ≤ length (units_of heard) = none_left (contents reader.stream) (length (units_of heard)) none in
      let texts : length (contents reader.stream) ≡ length (take whole messages) = ap length texts_came ∙ length-map (map text_of (take whole messages)) plain ∙ length-map (take whole messages) text_of in
      came ∙ ap (map as_read) (take_all (length (units_of heard)) (take whole messages) (omega (arith, few, texts)))

  every : full_count writer.settings.framing writer.desk.out.written ≤ n → take whole messages ≡ messages
  every all =
      let texts = written_is writer said told speaks in
      let same : length (take whole writer.desk.out.written) ≡ length writer.desk.out.written = ap length (all_taken writer.settings.framing n writer.desk.out.written all) in
      let count : length writer.desk.out.written ≡ length messages = ap length texts ∙ length-map messages text_of in
      take_all whole messages (let few = length-take whole writer.desk.out.written in omega (arith, same, count, few))

  pub understands : Understands n writer reader said heard
  understands = record {
    first = first;
    whole = all_came;
    all = λ none all. all_came none ∙ ap (map as_read) (every all);
  }
