use Rattle.std.proofs.Common.{arith}
use Rattle.virtual_log.proofs.Sealing.{seals_refl}
use Rattle.virtual_log.proofs.Calming.{calm_refl}
use Rattle.virtual_log.proofs.Saying.{drawn_refl}
use Rattle.virtual_log.proofs.Operating.{operates_refl}
use Rattle.virtual_log.proofs.log.VirtualLog.read_next.Goals as goal

pub returns-then-end-least-clause-unsealed : goal.returns-then-end-least-clause-unsealed
returns-then-end-least-clause-unsealed g c = seals_refl _ _

pub returns-then-end-least-clause-calm : goal.returns-then-end-least-clause-calm
returns-then-end-least-clause-calm g c = calm_refl _ _

pub returns-then-end-least-clause-closes : goal.returns-then-end-least-clause-closes
returns-then-end-least-clause-closes g c = operates_refl _ _ _

pub returns-then-end-least-clause-rises : goal.returns-then-end-least-clause-rises
returns-then-end-least-clause-rises g c = omega arith

pub returns-then-end-least-clause-draws : goal.returns-then-end-least-clause-draws
returns-then-end-least-clause-draws g c = drawn_refl _ _
