use Rattle.std.proofs.Common.{◌≡◌, ℕ, ◌==◌, ◌&&◌, true, if◌then◌else◌, subst, sym}
use Rattle.message_ids.specs.declared.id.Id.{Id}
use Rattle.message_ids.specs.Ids.{same_id}
use Rattle.number_windows.specs.Numbered.{Below}
use Rattle.open_calls.specs.Inner.{is_ascending}
use Rattle.open_calls.proofs.Ids.{id_comes}
use Rattle.open_calls.proofs.ascending_ids.AscendingIds.add.Goals as goal

pub returns-in_ok-push-in-Unsigned-clause-ok : goal.returns-in_ok-push-in-Unsigned-clause-ok
returns-in_ok-push-in-Unsigned-clause-ok c =
    let id = c.in-Unsigned.id in
    subst (λ i. (q : Id) (k : ℕ) → is_ascending c.push.new.self q k ≡ (if same_id i q && (c.args.number == k) then true else is_ascending c.args.self.now q k)) (sym c.in-Unsigned.is)
    (id_comes c.args.self.now c.push.new.self id c.args.number c.in_ok-push-in-Unsigned.ensures.ok (subst (λ ids. Below id ids) c.self.view_is (c.ends_below.ensures c.if-ends_below.true)))
