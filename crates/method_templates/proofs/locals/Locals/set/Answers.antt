use Rattle.std.proofs.Common.{◌≡◌, sym, ap, ◌∙◌, arith}
use Rattle.std.proofs.lemmas.Result.{on_ok_weaker}
use Rattle.serde_json.specs.Data.{null}
use Rattle.method_templates.specs.Inner.Rows.{place_in}
use Rattle.method_templates.specs.declared.locals.Place.TheVariants.{At, Before}
use Rattle.method_templates.proofs.Rows.{at_within, put_at, before_within, put_before}
use Rattle.method_templates.proofs.locals.Locals.set.Goals as goal

pub index_mut-requires : goal.index_mut-requires
index_mut-requires c =
    let rows = c.self.inside.rows.items in
    let is : At c.in-At.place ≡ place_in c.args.name.now c.args.self.now = sym c.in-At.is ∙ c.find.ensures ∙ ap (λ n. place_in n c.args.self.now) c.as_bytes.ensures.value in
    let here : At c.in-At.place ≡ place_in c.args.name.now rows = is ∙ ap (place_in c.args.name.now) (sym c.self.view_is) in
    let within = at_within c.args.name.now c.args.value null rows c.in-At.place here in
    omega arith

pub insert-requires : goal.insert-requires
insert-requires c =
    let is : Before c.in-Before.place ≡ place_in c.args.name.now c.args.self.now = sym c.in-Before.is ∙ c.find.ensures ∙ ap (λ n. place_in n c.args.self.now) c.as_bytes.ensures.value in
    before_within c.args.name.now c.args.value null c.args.self.now c.in-Before.place is

pub returns-in-At-clause-ok : goal.returns-in-At-clause-ok
returns-in-At-clause-ok c = λ lent.
    let rows = c.self.inside.rows.items in
    let is : At c.in-At.place ≡ place_in c.args.name.now c.args.self.now = sym c.in-At.is ∙ c.find.ensures ∙ ap (λ n. place_in n c.args.self.now) c.as_bytes.ensures.value in
    let here : At c.in-At.place ≡ place_in c.args.name.now rows = is ∙ ap (place_in c.args.name.now) (sym c.self.view_is) in
    rw (c.replace.ensures.after, ← c.self.view_is) (put_at c.args.name.now c.args.value lent rows c.in-At.place c.index_mut.result.now here c.index_mut.ensures.value)

pub returns-in-Before-clause-ok : goal.returns-in-Before-clause-ok
returns-in-Before-clause-ok c =
    let is : Before c.in-Before.place ≡ place_in c.args.name.now c.args.self.now = sym c.in-Before.is ∙ c.find.ensures ∙ ap (λ n. place_in n c.args.self.now) c.as_bytes.ensures.value in
    on_ok_weaker c.insert.result (λ same lent. rw same (put_before c.args.name.now c.args.value lent c.args.self.now c.in-Before.place is)) c.insert.ensures.ok
