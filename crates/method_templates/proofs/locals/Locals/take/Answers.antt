use Rattle.std.proofs.Common.{◌≡◌, sym, ap, ◌∙◌, arith}
use Rattle.serde_json.specs.Data.{null}
use Rattle.method_templates.specs.Inner.Rows.{place_in}
use Rattle.method_templates.specs.declared.locals.Place.TheVariants.{At}
use Rattle.method_templates.proofs.Rows.{at_within, taken_at, kept_at}
use Rattle.method_templates.proofs.locals.Locals.take.Goals as goal

pub index_mut-requires : goal.index_mut-requires
index_mut-requires c =
    let rows = c.self.inside.rows.items in
    let is : At c.in-At.place ≡ place_in c.args.name.now c.args.self.now = sym c.in-At.is ∙ c.find.ensures ∙ ap (λ n. place_in n c.args.self.now) c.as_bytes.ensures.value in
    let here : At c.in-At.place ≡ place_in c.args.name.now rows = is ∙ ap (place_in c.args.name.now) (sym c.self.view_is) in
    let within = at_within c.args.name.now null null rows c.in-At.place here in
    omega arith

pub returns-in-At-clause-some : goal.returns-in-At-clause-some
returns-in-At-clause-some c =
    let rows = c.self.inside.rows.items in
    let is : At c.in-At.place ≡ place_in c.args.name.now c.args.self.now = sym c.in-At.is ∙ c.find.ensures ∙ ap (λ n. place_in n c.args.self.now) c.as_bytes.ensures.value in
    let here : At c.in-At.place ≡ place_in c.args.name.now rows = is ∙ ap (place_in c.args.name.now) (sym c.self.view_is) in
    rw (← c.self.view_is) (taken_at c.args.name.now rows c.in-At.place c.index_mut.result.now c.take.result here c.index_mut.ensures.value c.take.ensures.value)

pub returns-in-At-clause-none : goal.returns-in-At-clause-none
returns-in-At-clause-none c =
    let rows = c.self.inside.rows.items in
    rw (c.take.ensures.after, ← c.self.view_is) (kept_at rows c.in-At.place c.index_mut.result.now c.take.result c.index_mut.ensures.value c.take.ensures.value)
