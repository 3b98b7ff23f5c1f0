use Rattle.std.proofs.Common.{◌≡◌, Some, None, sym, ap, ◌∙◌}
use Rattle.std.specs.Prelude.{codes}
use Rattle.json.specs.Find.{get}
use Rattle.json_texts.proofs.Placed.{some_weaker}
use Rattle.json_texts.proofs.ReadBack.{IfOk-follows}
use Rattle.connection_messages.specs.Envelope.{cancels_by, GivesVersion, GivesCall}
use Rattle.connection_messages.proofs.Enveloped.{member_absent, method_is, call_entry_is, some_holds, cancels_by_is}
use Rattle.connection_messages.proofs.read.compact.read_envelope.Goals as goal

pub returns-in_default : goal.returns-in_default
returns-in_default c =
    let e = c.args.envelope.now in
    let version : GivesVersion e = c.has_version_2.ensures c.if-not-has_version_2.false in
    IfOk-follows c.read_result.result
    (λ o holds. some_weaker o (λ entry gives j numbers names. gives c.args.rules j numbers names (version j numbers names) (member_absent e.method (get (codes "method") j) c.in_default.is names.method)) holds)
    c.read_result.ensures

pub returns-in-Some-2 : goal.returns-in-Some-2
returns-in-Some-2 c j numbers names =
    let e = c.args.envelope.now in
    let version : GivesVersion e = c.has_version_2.ensures c.if-not-has_version_2.false in
    let call = c.in-Some-2.call in
    let method = method_is e.method c.in-Some.part c.in-Some-plain.method.now j c.in-Some.is c.in-Some-plain.ensures numbers names.method in
    let gives : GivesCall c.args.rules.null_params e c.in-Some-plain.method.now call = some_holds (GivesCall c.args.rules.null_params e c.in-Some-plain.method.now) c.in_ok-call.field-0 call c.in-Some-2.is c.in_ok-call.ensures.call in
    let named : call.method ≡ c.in-Some-plain.method.now = some_holds (λ made. made.method ≡ c.in-Some-plain.method.now) c.in_ok-call.field-0 call c.in-Some-2.is c.in_ok-call.ensures.method in
    let other : cancels_by c.args.rules.cancels call.method ≡ None = ap (cancels_by c.args.rules.cancels) named ∙ sym c.cancels_by.ensures ∙ c.in_default-cancels_by.is in
    call_entry_is c.args.rules j call method.0 (gives j numbers names (version j numbers names) method.1) other

pub returns-in-Some-cancels_by : goal.returns-in-Some-cancels_by
returns-in-Some-cancels_by c =
    let e = c.args.envelope.now in
    let version : GivesVersion e = c.has_version_2.ensures c.if-not-has_version_2.false in
    let method = c.in-Some-plain.method.now in
    let by = c.in-Some-cancels_by.by in
    let same = cancels_by_is c.args.rules.cancels method by (sym c.cancels_by.ensures ∙ c.in-Some-cancels_by.is) in
    IfOk-follows c.read_cancel.result
    (λ o holds. some_weaker o (λ entry gives j numbers names.
    let is = method_is e.method c.in-Some.part method j c.in-Some.is c.in-Some-plain.ensures numbers names.method in
    gives c.args.rules j same.0 numbers names (version j numbers names) (is.0, is.1 ∙ ap Some same.1)) holds)
    c.read_cancel.ensures
