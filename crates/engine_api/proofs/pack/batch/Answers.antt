use Rattle.std.proofs.Common.{◌≤◌, arith}
use Rattle.engine_api.proofs.Packed.{unpack-packed, spellable-packed}
use Rattle.engine_api.proofs.pack.batch.Goals as goal

pub returns-clause-spellable : goal.returns-clause-spellable
returns-clause-spellable c =
    let low : 1 ≤ c.args.origin = omega arith in
    let high : c.args.origin ≤ 8 = omega arith in
    rw (c.in_ok-headers.ensures, c.in_ok-payload.ensures, c.in_ok-body.ensures) (spellable-packed c.args.origin c.args.items.now low high c.requires)

pub returns-clause-holds : goal.returns-clause-holds
returns-clause-holds c =
    λ pos. rw (c.in_ok-headers.ensures, c.in_ok-payload.ensures, c.in_ok-body.ensures) (unpack-packed c.args.origin c.args.items.now pos c.requires)
