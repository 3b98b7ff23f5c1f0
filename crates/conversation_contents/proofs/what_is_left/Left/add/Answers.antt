use Rattle.std.proofs.Common.{◌≡◌, ◌+◌, ◌++◌, ◌∷◌, [], ◌∙◌, ap, subst, sym, arith}
use Rattle.std.specs.List.{slice_get}
use Rattle.std.proofs.lemmas.List.{map-append}
use Rattle.number_windows.specs.Numbered.{Above, Below}
use Rattle.number_windows.specs.Windows.{window_entries}
use Rattle.number_windows.proofs.Numbered.{above_push, below_push, at_below}
use Rattle.conversation_contents.proofs.Places.{noted_come}
use Rattle.conversation_contents.specs.Left.{left_entries, values_of}
use Rattle.conversation_contents.proofs.what_is_left.Left.add.Goals as goal

pub returns-clause-findable : goal.returns-clause-findable
returns-clause-findable c =
    let es = left_entries c.args.self.now in
    let number = c.in-Some.number in
    let next : number ≡ c.args.count + 1 = omega arith in
    let is : window_entries c.push.new.self ≡ es ++ (number, c.args.place) ∷ [] = c.push.ensures.entries ∙ ap (λ s. s ++ (number, c.args.place) ∷ []) c.make_room.ensures.entries in
    record {
      window = c.push.ensures.window;
      above = subst (λ fs. Above 0 fs) (sym is) (above_push 0 number c.args.place es (omega arith) c.requires.findable.above);
      noted = noted_come (slice_get c.args.entries.now) c.note_at.new.marks c.args.self.now.marks (window_entries c.push.new.self) es number c.args.place c.requires.findable.noted is
          (at_below number es (subst (λ n. Below n es) (sym next) c.requires.below)) c.in_ok-note_at.ensures.noted c.note_at.ensures.kept;
    }

pub returns-clause-below : goal.returns-clause-below
returns-clause-below c =
    let es = left_entries c.args.self.now in
    let number = c.in-Some.number in
    let next : number ≡ c.args.count + 1 = omega arith in
    let is : window_entries c.push.new.self ≡ es ++ (number, c.args.place) ∷ [] = c.push.ensures.entries ∙ ap (λ s. s ++ (number, c.args.place) ∷ []) c.make_room.ensures.entries in
    subst (λ n. Below (n + 1) (window_entries c.push.new.self)) next
    (subst (λ fs. Below (number + 1) fs) (sym is) (below_push (c.args.count + 1) (number + 1) number c.args.place es (omega arith) (omega arith) c.requires.below))

pub returns-clause-ok : goal.returns-clause-ok
returns-clause-ok c =
    let es = left_entries c.args.self.now in
    let number = c.in-Some.number in
    let is : window_entries c.push.new.self ≡ es ++ (number, c.args.place) ∷ [] = c.push.ensures.entries ∙ ap (λ s. s ++ (number, c.args.place) ∷ []) c.make_room.ensures.entries in
    ap values_of is ∙ map-append (λ e. e.1) es ((number, c.args.place) ∷ [])
