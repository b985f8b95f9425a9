use Rattle.std.proofs.Common.{◌≡◌, arith, true, take}
use Rattle.std.specs.Result.{is_ok}
use Rattle.std.proofs.lemmas.List.{take_more, take_all}
use Rattle.loglet_runs.proofs.Steps.{ops_run-append, made_run, served-append}
use Rattle.loglet_runs.proofs.runs.run_ops.Goals as goal

pub loop-call-preserved : goal.loop-call-preserved
loop-call-preserved g c =
    let fits : is_ok c.push.result ≡ true = c.push.ensures.succeeds (omega (arith, c.loop-call.invariant.told, c.loop-call.invariant.answers_room, c.loop-call-test.true)) in
    let items = rw fits at c.push.ensures.items in
    let len = rw fits at c.push.ensures.len in
    record {
      ran = rw (take_more c.args.calls.now c.loop-call.call-index c.call-item.result c.loop-call-test.true, ← c.call-item.is, items)
          (ops_run-append _ _ _ _ _ c.call-item.result c.step-answer.result c.loop-call.invariant.ran c.step-answer.ensures.step);
      served = rw (take_more c.args.calls.now c.loop-call.call-index c.call-item.result c.loop-call-test.true, ← c.call-item.is, items)
          (served-append _ _ _ _ _ _ _ c.call-item.result c.step-answer.result c.loop-call.invariant.ran c.loop-call.invariant.served c.step-answer.ensures.serves);
      tracked = c.step-answer.ensures.tracked;
      told = omega (arith, len, c.loop-call.invariant.told);
      answers_room = omega (arith, c.loop-call.invariant.answers_room, c.push.ensures.capacity);
      tickets_room = omega (arith, c.loop-call.invariant.tickets_room, c.step-answer.ensures.room);
    }

pub returns-clause-run : goal.returns-clause-run
returns-clause-run g c =
    let whole : take c.loop-call.call-index c.args.calls.now ≡ c.args.calls.now = take_all c.loop-call.call-index c.args.calls.now (omega (arith, c.loop-call-test.false)) in
    made_run _ _ c.args.calls.now c.loop-call.answers.items (rw whole at c.loop-call.invariant.ran)

pub returns-clause-serves : goal.returns-clause-serves
returns-clause-serves g c =
    let whole : take c.loop-call.call-index c.args.calls.now ≡ c.args.calls.now = take_all c.loop-call.call-index c.args.calls.now (omega (arith, c.loop-call-test.false)) in
    rw whole at c.loop-call.invariant.served
