use Rattle.std.proofs.Common.{◌≡◌, ◌+◌, ◌<◌, true, false, length, arith, rules}
use Rattle.engine_api.specs.Members.{clean_at}
use Rattle.engine_api.proofs.Greatest.{greatest-passes, greatest-drops}
use Rattle.engine_api.proofs.members.clean_position.Goals as goal

pub loop-n-preserved-then-not-is_clean : goal.loop-n-preserved-then-not-is_clean
loop-n-preserved-then-not-is_clean c =
    let drops : clean_at c.args.entries.now c.loop-n.n ≡ false = search rules in
    let below : c.loop-n.n < length c.args.entries.now + 1 = omega arith in
    record {
      low = omega (arith, c.loop-n.invariant.low);
      greatest = greatest-drops (clean_at c.args.entries.now) c.loop-n.clean c.loop-n.n (length c.args.entries.now + 1) _ below drops c.loop-n.invariant.greatest;
    }

pub loop-n-preserved : goal.loop-n-preserved
loop-n-preserved c =
    let passes : clean_at c.args.entries.now c.loop-n.n ≡ true = search rules in
    let below : c.loop-n.n < length c.args.entries.now + 1 = omega arith in
    record {
      low = omega arith;
      greatest = greatest-passes (clean_at c.args.entries.now) c.loop-n.clean c.loop-n.n (length c.args.entries.now + 1) _ c.loop-n.invariant.low below passes c.loop-n.invariant.greatest;
    }
