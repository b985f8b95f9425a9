use Rattle.std.proofs.Common.{◌≡◌, ◌+◌, ◌<◌, false, is_some, arith, rules, Option}
use Rattle.table_core.specs.declared.command.Command.{Command}
use Rattle.engine_api.specs.Order as order
use Rattle.engine_api.proofs.Gaps.{gap_from-is, first_of-above_top}
use Rattle.engine_api.proofs.order.reached.Goals as goal

pub returns-else-is_some : goal.returns-else-is_some
returns-else-is_some c =
    let gone : is_some (order.first_of c.args.seen.now c.args.session (c.loop-reached.reached + 1)) ≡ false = search rules in
    gap_from-is {C = Option Command} c.args.seen.now c.args.session (c.args.last + 1) (c.loop-reached.reached + 1) (omega arith) c.loop-reached.invariant.1 gone

pub returns-after-loop-reached : goal.returns-after-loop-reached
returns-after-loop-reached c =
    let above : order.top_rank c.args.seen.now < c.loop-reached.reached + 1 = omega arith in
    gap_from-is {C = Option Command} c.args.seen.now c.args.session (c.args.last + 1) (c.loop-reached.reached + 1) (omega arith) c.loop-reached.invariant.1
    (first_of-above_top c.args.seen.now c.args.session (c.loop-reached.reached + 1) above)
