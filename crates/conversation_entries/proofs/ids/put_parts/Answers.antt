use Rattle.std.proofs.Common.{◌≡◌, ◌++◌, ◌∙◌, ap, append_assoc}
use Rattle.std.proofs.lemmas.Result.{on_ok_weaker}
use Rattle.conversation_rules.specs.Entries.{fault_findings, both_findings, twice_findings, code_findings, name_findings, object_findings}
use Rattle.conversation_entries.proofs.ids.put_parts.Goals as goal

pub returns : goal.returns
returns c =
    let m = c.args.message in
    let at = c.args.at in
    let entry = c.args.entry.now in
    let old = c.args.findings.now.items in
    let faults = fault_findings c.args.protocol m at entry.there entry.faults in
    let both = both_findings m at entry in
    let twice = twice_findings m at entry in
    let code = code_findings c.args.protocol m at entry in
    let name = name_findings m at entry in
    let objects = object_findings c.args.protocol m at entry in
    on_ok_weaker c.put_objects.result
    (λ (e : c.put_objects.new.findings.items ≡ c.put_name.new.findings.items ++ objects).
    e ∙ ap (λ found. found ++ objects) (c.in_ok-put_name.ensures
    ∙ ap (λ found. found ++ name) (c.in_ok-put_code.ensures
    ∙ ap (λ found. found ++ code) (c.in_ok-put_twice.ensures
    ∙ ap (λ found. found ++ twice) (c.in_ok-put_both.ensures ∙ ap (λ found. found ++ both) c.in_ok-put_faults.ensures ∙ append_assoc old faults both)
    ∙ append_assoc old (faults ++ both) twice)
    ∙ append_assoc old (faults ++ both ++ twice) code)
    ∙ append_assoc old (faults ++ both ++ twice ++ code) name)
    ∙ append_assoc old (faults ++ both ++ twice ++ code ++ name) objects)
    c.put_objects.ensures
