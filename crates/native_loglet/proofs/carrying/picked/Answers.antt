use Rattle.std.proofs.Common.{arith}
use Rattle.native_loglet.proofs.Rules.{nth_is_out}
use Rattle.native_loglet.proofs.carrying.picked.Goals as goal

pub pick-skip-requires : goal.pick-skip-requires
pick-skip-requires c = omega (arith, c.requires, c.outstanding.ensures)

pub pick-requires : goal.pick-requires
pick-requires c = omega (arith, c.pick-skip.ensures.one, c.outstanding.ensures)

pub returns-clause-out : goal.returns-clause-out
returns-clause-out c = rw c.pick.ensures.value (nth_is_out c.pick-skip.result c.args.p.now.members.items (omega (arith, c.pick-skip.ensures.one, c.outstanding.ensures)))
