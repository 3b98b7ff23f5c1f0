use Rattle.std.proofs.Common.{◌++◌, map, take, ap, sym, subst, ◌∙◌, arith}
use Rattle.std.proofs.lemmas.List.{take_all}
use Rattle.std.proofs.lemmas.Option.{slice_get-get_or}
use Rattle.peer_output.specs.Items.{sent}
use Rattle.peer_session.specs.Framings.{bytes_in}
use Rattle.peer_events.specs.Core.{stage_at, unwritten}
use Rattle.session_runs.specs.Runs.{unwritten_numbers, unwritten_of}
use Rattle.peer_session.specs.Inner.Writing.{Counts}
use Rattle.session_runs.proofs.Unwritten.{of-more, all-of}
use Rattle.peer_session.proofs.Puts.{put-on, counts-on}
use Rattle.peer_session.proofs.writing.put_sendings.Goals as goal
use Rattle.peer_session.proofs.writing.put_sendings.Goals.{in-Some+in_ok-put_number, in_default}

pub loop-place-preserved : goal.loop-place-preserved
loop-place-preserved c =
    let core = c.args.runs.now in
    let ns = unwritten_numbers core in
    let place = c.loop-place.place in
    let had = unwritten_of core (take place ns) in
    elim c.match-unwritten_at.branch [
      | in-Some+in_ok-put_number w ↦
          let n = w.in-Some.number in
          let more = of-more core ns place n (sym w.in-Some.ensures.number) in
          rw (w.bytes-is, w.written-is, more) (record {
            bytes = put-on c.args.framing c.args.bytes.now.items c.loop-place.bytes.items w.put_number.new.bytes.items had (map (sent n) (unwritten (stage_at core n)))
                c.loop-place.invariant.bytes w.in_ok-put_number.ensures.bytes;
            counts = counts-on c.loop-place.written w.in_ok-put_number.field-0 w.and-written.result had (map (sent n) (unwritten (stage_at core n)))
                c.loop-place.invariant.counts w.in_ok-put_number.ensures.counts w.and-written.ensures;
          })
      | in_default w ↦
          let there = slice_get-get_or ns place 0 (omega (arith, c.loop-place-test.true, c.unwritten_len-place-end.ensures)) in
          absurd (cc (there, c.unwritten_at.ensures.number, w.in_default.is))
    ]

pub returns-clause-bytes : goal.returns-clause-bytes
returns-clause-bytes c =
    let core = c.args.runs.now in
    let all = ap (unwritten_of core) (take_all c.loop-place.place (unwritten_numbers core) (omega (arith, c.loop-place-test.false, c.unwritten_len-place-end.ensures))) ∙ all-of core in
    c.loop-place.invariant.bytes ∙ ap (λ l. c.args.bytes.now.items ++ bytes_in c.args.framing l) all

pub returns-clause-counts : goal.returns-clause-counts
returns-clause-counts c =
    let core = c.args.runs.now in
    let all = ap (unwritten_of core) (take_all c.loop-place.place (unwritten_numbers core) (omega (arith, c.loop-place-test.false, c.unwritten_len-place-end.ensures))) ∙ all-of core in
    subst (Counts c.loop-place.written) all c.loop-place.invariant.counts
