use Rattle.std.proofs.Common.{refl, None}
use Rattle.virtual_log.proofs.Sealing.{turn_none}
use Rattle.virtual_log.proofs.Saying.{turn_silent}
use Rattle.virtual_log.proofs.Calming.{turn_calm}
use Rattle.virtual_log.proofs.Answering.{write_answers}
use Rattle.virtual_log.proofs.Operating.{turn_keeps}
use Rattle.virtual_log.proofs.Attempts.{turn_idles}
use Rattle.virtual_log.proofs.write.write_over.Goals as goal

pub returns-in-Written-clause-unsealed : goal.returns-in-Written-clause-unsealed
returns-in-Written-clause-unsealed g c = turn_none _ _ _ _ _ _ c.in-Written.ensures.turn refl

pub returns-in-Conflict-clause-unsealed : goal.returns-in-Conflict-clause-unsealed
returns-in-Conflict-clause-unsealed g c = turn_none _ _ _ _ _ _ c.in-Conflict.ensures.turn refl

pub returns-in-MetaFault-clause-unsealed : goal.returns-in-MetaFault-clause-unsealed
returns-in-MetaFault-clause-unsealed g c = turn_none _ _ _ _ _ _ c.in-MetaFault.ensures.turn refl

pub returns-in-Down-clause-unsealed : goal.returns-in-Down-clause-unsealed
returns-in-Down-clause-unsealed g c = turn_none _ _ _ _ _ _ c.in-Down.ensures.turn refl

pub returns-in-Memory-clause-unsealed : goal.returns-in-Memory-clause-unsealed
returns-in-Memory-clause-unsealed g c = turn_none _ _ _ _ _ _ c.in-Memory.ensures.turn refl

pub returns-in-Written-clause-silent : goal.returns-in-Written-clause-silent
returns-in-Written-clause-silent g c = turn_silent _ _ _ _ _ _ c.in-Written.ensures.turn refl

pub returns-in-Conflict-clause-silent : goal.returns-in-Conflict-clause-silent
returns-in-Conflict-clause-silent g c = turn_silent _ _ _ _ _ _ c.in-Conflict.ensures.turn refl

pub returns-in-MetaFault-clause-silent : goal.returns-in-MetaFault-clause-silent
returns-in-MetaFault-clause-silent g c = turn_silent _ _ _ _ _ _ c.in-MetaFault.ensures.turn refl

pub returns-in-Down-clause-silent : goal.returns-in-Down-clause-silent
returns-in-Down-clause-silent g c = turn_silent _ _ _ _ _ _ c.in-Down.ensures.turn refl

pub returns-in-Memory-clause-silent : goal.returns-in-Memory-clause-silent
returns-in-Memory-clause-silent g c = turn_silent _ _ _ _ _ _ c.in-Memory.ensures.turn refl

pub returns-in-Written-clause-calm : goal.returns-in-Written-clause-calm
returns-in-Written-clause-calm g c = turn_calm _ _ _ _ _ _ c.in-Written.ensures.turn tt

pub returns-in-Conflict-clause-calm : goal.returns-in-Conflict-clause-calm
returns-in-Conflict-clause-calm g c = turn_calm _ _ _ _ _ _ c.in-Conflict.ensures.turn tt

pub returns-in-Memory-clause-memory : goal.returns-in-Memory-clause-memory
returns-in-Memory-clause-memory g c = λ _. turn_calm _ _ _ _ _ _ c.in-Memory.ensures.turn tt

pub unreachable-requires : goal.unreachable-requires
unreachable-requires g c = write_answers _ _ _ _ _ _ _ c.turn.ensures.turn c.in_default.not-Written c.in_default.not-Conflict c.in_default.not-MetaFault c.in_default.not-Down c.in_default.not-Memory

pub returns-in-Written-clause-closes : goal.returns-in-Written-clause-closes
returns-in-Written-clause-closes g c = turn_keeps _ _ _ None _ _ _ c.in-Written.ensures.turn refl

pub returns-in-Conflict-clause-closes : goal.returns-in-Conflict-clause-closes
returns-in-Conflict-clause-closes g c = turn_keeps _ _ _ None _ _ _ c.in-Conflict.ensures.turn refl

pub returns-in-MetaFault-clause-closes : goal.returns-in-MetaFault-clause-closes
returns-in-MetaFault-clause-closes g c = turn_keeps _ _ _ None _ _ _ c.in-MetaFault.ensures.turn refl

pub returns-in-Down-clause-closes : goal.returns-in-Down-clause-closes
returns-in-Down-clause-closes g c = turn_keeps _ _ _ None _ _ _ c.in-Down.ensures.turn refl

pub returns-in-Memory-clause-closes : goal.returns-in-Memory-clause-closes
returns-in-Memory-clause-closes g c = turn_keeps _ _ _ None _ _ _ c.in-Memory.ensures.turn refl

pub returns-in-Written-clause-idle : goal.returns-in-Written-clause-idle
returns-in-Written-clause-idle g c = turn_idles _ _ _ _ _ _ c.in-Written.ensures.turn refl refl (λ _. tt)

pub returns-in-Conflict-clause-idle : goal.returns-in-Conflict-clause-idle
returns-in-Conflict-clause-idle g c = turn_idles _ _ _ _ _ _ c.in-Conflict.ensures.turn refl refl (λ _. tt)

pub returns-in-MetaFault-clause-idle : goal.returns-in-MetaFault-clause-idle
returns-in-MetaFault-clause-idle g c = turn_idles _ _ _ _ _ _ c.in-MetaFault.ensures.turn refl refl (λ _. tt)

pub returns-in-Down-clause-idle : goal.returns-in-Down-clause-idle
returns-in-Down-clause-idle g c = turn_idles _ _ _ _ _ _ c.in-Down.ensures.turn refl refl (λ _. tt)

pub returns-in-Memory-clause-idle : goal.returns-in-Memory-clause-idle
returns-in-Memory-clause-idle g c = turn_idles _ _ _ _ _ _ c.in-Memory.ensures.turn refl refl (λ _. tt)
