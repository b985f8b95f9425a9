use Rattle.std.proofs.Common.{◌≡◌, ◌+◌, ap, sym, arith, rules, None}
use Rattle.std.specs.Option.{option_map}
use Rattle.engine_api.specs.Order as order
use Rattle.engine_api.proofs.Steps.{acts-some, acts-none, act_at-is}
use Rattle.engine_api.proofs.order.push_acts.Goals as goal

pub loop-rank-preserved-in-Continue-branch-2 : goal.loop-rank-preserved-in-Continue-branch-2
loop-rank-preserved-in-Continue-branch-2 c =
    let same : c.in_ok-command.command ≡ c.in-Some.first.now.command = search rules in
    (omega arith, rw c.in_ok-push.ensures.items (acts-some _ _ _ _ _ _ c.loop-rank-test.true (act_at-is _ c.args.x.now _ c.in-Some.first.now _ (sym c.in-Some.ensures) same) c.loop-rank.invariant.1))

pub loop-rank-preserved : goal.loop-rank-preserved
loop-rank-preserved c =
    let gone : order.first_of c.args.seen.now c.args.x.now.session (c.loop-rank.rank + 1) ≡ None = sym c.in_default.ensures in
    (omega arith, acts-none _ _ _ _ _ c.loop-rank-test.true (ap (option_map _) gone) c.loop-rank.invariant.1)
