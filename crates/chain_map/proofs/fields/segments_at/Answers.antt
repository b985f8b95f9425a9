use Rattle.std.proofs.Common.{◌-◌, None, arith}
use Rattle.std.proofs.lemmas.Result.{err_from_is_err_and}
use Rattle.chain_map.specs.Reading.{segments_from}
use Rattle.chain_map.proofs.Runs.{goes_on, stops, ends, stops_at_last}
use Rattle.chain_map.proofs.fields.segments_at.Goals as goal

pub returns-in_err-segment-clause-gives : goal.returns-in_err-segment-clause-gives
returns-in_err-segment-clause-gives c =
    let p = err_from_is_err_and c.from_residual-in_err-segment.result c.from_residual-in_err-segment.ensures.1 in
    rw (p.1, p.2) (stops c.in_err-segment.field-0.0 c.args.size c.args.trim c.loop.former c.loop.least c.loop.segments.items c.args.count c.loop.counter c.loop.rest.now (segments_from c.args.size c.args.trim None 0 (c.args.count - 1) c.args.bytes.now) c.loop-test.true c.in_err-segment.ensures.gives c.loop.invariant.run)

pub loop-preserved : goal.loop-preserved
loop-preserved c =
    let s = c.in_ok-segment.segment in
    record {
      run = rw c.in_ok-push.ensures.items (goes_on c.args.size c.args.trim c.loop.former c.loop.least c.loop.segments.items c.args.count c.loop.counter c.loop.rest.now s c.in_ok-segment.after.now (segments_from c.args.size c.args.trim None 0 (c.args.count - 1) c.args.bytes.now) c.loop-test.true c.in_ok-segment.ensures.gives c.loop.invariant.run);
      within = omega (arith, c.in_ok-segment.ensures.rest, c.loop.invariant.within);
    }

pub returns-in_err-last-clause-gives : goal.returns-in_err-last-clause-gives
returns-in_err-last-clause-gives c =
    let p = err_from_is_err_and c.from_residual-in_err-last.result c.from_residual-in_err-last.ensures.1 in
    rw (p.1, p.2) (stops_at_last c.in_err-last.field-0.0 c.args.size c.args.trim c.loop.former c.loop.least c.loop.segments.items c.args.count c.loop.counter c.loop.rest.now (segments_from c.args.size c.args.trim None 0 (c.args.count - 1) c.args.bytes.now) c.loop-test.false c.in_err-last.ensures.gives c.loop.invariant.run)

pub returns-clause-gives : goal.returns-clause-gives
returns-clause-gives c =
    rw c.in_ok-push-2.ensures.items (ends c.args.size c.args.trim c.loop.former c.loop.least c.loop.segments.items c.args.count c.loop.counter c.loop.rest.now c.in_ok-last.last c.in_ok-last.rest.now (segments_from c.args.size c.args.trim None 0 (c.args.count - 1) c.args.bytes.now) c.loop-test.false c.in_ok-last.ensures.gives c.loop.invariant.run)
