use Rattle.std.proofs.Common.{◌≡◌, ◌+◌, ◌++◌, ◌∷◌, [], suc, ◌∙◌, ap, subst, sym, arith}
use Rattle.number_windows.specs.Windows.{window_entries}
use Rattle.number_windows.specs.Numbered.{Above, Below}
use Rattle.number_windows.proofs.Numbered.{below_push, above_push, at_below}
use Rattle.conversation_open.specs.Open.{open_entries, AreUncancelled, IsIndexed}
use Rattle.conversation_open.proofs.Indexed.{indexed_come, indexed_back}
use Rattle.conversation_open.proofs.Uncancelled.{uncancelled_come}
use Rattle.conversation_open.proofs.open_contents.OpenContents.add.Goals as goal

pub returns-clause-stands : goal.returns-clause-stands
returns-clause-stands c =
    let es = open_entries c.args.self.now in
    let last = c.args.self.now.last in
    let number = c.in-Some.number in
    let next : number ≡ last + 1 = omega arith in
    let is : window_entries c.push.new.self ≡ es ++ (number, c.args.due) ∷ [] = c.push.ensures.entries ∙ ap (λ s. s ++ (number, c.args.due) ∷ []) c.make_room.ensures.entries in
    let under : Below number es = subst (λ n. Below n es) (let e : suc last ≡ number = omega arith in e) c.requires.stands.below in
    record {
      window = c.push.ensures.window;
      above = subst (λ fs. Above 0 fs) (sym is) (above_push 0 number c.args.due es (omega arith) c.requires.stands.above);
      below = subst (λ fs. Below (suc number) fs) (sym is) (below_push number (suc number) number c.args.due es (omega arith) (omega arith) under);
      indexed = indexed_come c.note_content.new.self c.args.self.now.index (window_entries c.push.new.self) es number c.args.due c.requires.stands.indexed is (at_below number es under) c.requires.none
          c.in_default.ensures.noted c.note_content.ensures.others c.note_content.ensures.other_kind;
      uncancelled = λ on. uncancelled_come (window_entries c.push.new.self) es number c.args.due is (at_below number es under) c.requires.none (c.requires.stands.uncancelled on);
    }

pub returns-in-Err-clause-stands : goal.returns-in-Err-clause-stands
returns-in-Err-clause-stands c =
    let es = open_entries c.args.self.now in
    let now = window_entries c.make_room.new.self in
    let last = c.args.self.now.last in
    let under : Below c.in-Some.number es = subst (λ n. Below n es) (let e : suc last ≡ c.in-Some.number = omega arith in e) c.requires.stands.below in
    record {
      window = c.make_room.ensures.window;
      above = subst (λ fs. Above 0 fs) (sym c.make_room.ensures.entries) c.requires.stands.above;
      below = subst (λ fs. Below (suc last) fs) (sym c.make_room.ensures.entries) c.requires.stands.below;
      indexed = subst (IsIndexed c.forget_content.new.self) (sym c.make_room.ensures.entries)
          (indexed_back c.forget_content.new.self c.note_content.new.self c.args.self.now.index es c.in-Some.number c.args.due c.requires.stands.indexed (at_below c.in-Some.number es under) c.requires.none
          c.note_content.ensures.others c.note_content.ensures.other_kind c.forget_content.ensures.here c.forget_content.ensures.other_kind);
      uncancelled = λ on. subst AreUncancelled (sym c.make_room.ensures.entries) (c.requires.stands.uncancelled on);
    }
