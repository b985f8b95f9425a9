use Rattle.std.proofs.Common.{arith}
use Rattle.std.proofs.lemmas.Result.{err_from_is_err_and}
use Rattle.entry_codec.specs.Reading.{headers_from}
use Rattle.entry_codec.proofs.Headers.{goes_on, ends, is_done}
use Rattle.entry_codec.proofs.fields.headers_of.Goals as goal

pub returns-in_err-header-clause-gives : goal.returns-in_err-header-clause-gives
returns-in_err-header-clause-gives c =
    let p = err_from_is_err_and c.from_residual.result c.from_residual.ensures.1 in
    rw (p.1, p.2) (ends c.in_err-header.field-0.0 c.args.size c.loop.least c.loop.headers.items c.args.count c.loop.counter c.loop.rest.now (headers_from c.args.size 1 c.args.count c.args.bytes.now) c.loop-test.true c.in_err-header.ensures.gives c.loop.invariant.reads)

pub loop-preserved : goal.loop-preserved
loop-preserved c =
    let h = c.in_ok-header.header in
    record {
      reads = rw (c.in_ok-push.ensures.items, c.from-least.ensures) (goes_on c.args.size c.loop.least c.loop.headers.items c.args.count c.loop.counter c.loop.rest.now h c.in_ok-header.after.now (headers_from c.args.size 1 c.args.count c.args.bytes.now) c.loop-test.true c.in_ok-header.ensures.gives c.loop.invariant.reads);
      within = omega (arith, c.in_ok-header.ensures.rest, c.loop.invariant.within);
    }

pub returns-clause-gives : goal.returns-clause-gives
returns-clause-gives c = (is_done c.args.size c.loop.least c.loop.headers.items c.args.count c.loop.counter c.loop.rest.now (headers_from c.args.size 1 c.args.count c.args.bytes.now) c.loop-test.false c.loop.invariant.reads)
