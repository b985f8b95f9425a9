use Rattle.std.proofs.Common.{◌≡◌, ◌+◌, ◌<◌, true, false, arith, rules, sym}
use Rattle.engine_api.specs.Members.{is_member, position_of}
use Rattle.engine_api.proofs.Greatest.{least-passes, least-drops}
use Rattle.engine_api.proofs.members.least_position.Goals as goal

pub loop-number-preserved-then-not-is_member : goal.loop-number-preserved-then-not-is_member
loop-number-preserved-then-not-is_member c =
    let same : c.in-Some.node ≡ c.loop-number.number = search rules in
    let drops : is_member c.args.placed.now c.loop-number.number ≡ false = rw (sym same) (search rules) in
    let below : c.loop-number.number < c.args.nodes + 1 = omega arith in
    least-drops (position_of c.args.placed.now) (is_member c.args.placed.now) c.loop-number.least c.loop-number.number (c.args.nodes + 1) _ below drops c.loop-number.invariant

pub loop-number-preserved : goal.loop-number-preserved
loop-number-preserved c =
    let same : c.in-Some.node ≡ c.loop-number.number = search rules in
    let passes : is_member c.args.placed.now c.loop-number.number ≡ true = rw (sym same) (search rules) in
    let below : c.loop-number.number < c.args.nodes + 1 = omega arith in
    rw (c.lesser.ensures, c.position_of.ensures, same)
    (least-passes (position_of c.args.placed.now) (is_member c.args.placed.now) c.loop-number.least c.loop-number.number (c.args.nodes + 1) _ below passes c.loop-number.invariant)
