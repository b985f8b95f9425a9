use Rattle.std.proofs.Common.{refl, None}
use Rattle.virtual_log.proofs.OneTurn.{look_ok}
use Rattle.virtual_log.proofs.Writing.{turn_quiet}
use Rattle.virtual_log.proofs.Sealing.{turn_none}
use Rattle.virtual_log.proofs.Saying.{turn_silent}
use Rattle.virtual_log.proofs.Calming.{turn_calm}
use Rattle.virtual_log.proofs.Answering.{look_answers}
use Rattle.virtual_log.proofs.Operating.{turn_keeps}
use Rattle.virtual_log.proofs.Attempts.{turn_idles}
use Rattle.virtual_log.proofs.turn.look.Goals as goal

pub returns-in-At-clause-ok : goal.returns-in-At-clause-ok
returns-in-At-clause-ok g c = look_ok _ _ _ _ _ _ c.in-At.ensures.turn

pub returns-in-At-clause-unsealed : goal.returns-in-At-clause-unsealed
returns-in-At-clause-unsealed g c = turn_none _ _ _ _ _ _ c.in-At.ensures.turn refl

pub returns-in-Down-clause-unsealed : goal.returns-in-Down-clause-unsealed
returns-in-Down-clause-unsealed g c = turn_none _ _ _ _ _ _ c.in-Down.ensures.turn refl

pub returns-in-Memory-clause-unsealed : goal.returns-in-Memory-clause-unsealed
returns-in-Memory-clause-unsealed g c = turn_none _ _ _ _ _ _ c.in-Memory.ensures.turn refl

pub returns-in-At-clause-silent : goal.returns-in-At-clause-silent
returns-in-At-clause-silent g c = turn_silent _ _ _ _ _ _ c.in-At.ensures.turn refl

pub returns-in-Down-clause-silent : goal.returns-in-Down-clause-silent
returns-in-Down-clause-silent g c = turn_silent _ _ _ _ _ _ c.in-Down.ensures.turn refl

pub returns-in-Memory-clause-silent : goal.returns-in-Memory-clause-silent
returns-in-Memory-clause-silent g c = turn_silent _ _ _ _ _ _ c.in-Memory.ensures.turn refl

pub returns-in-At-clause-calm : goal.returns-in-At-clause-calm
returns-in-At-clause-calm g c = turn_calm _ _ _ _ _ _ c.in-At.ensures.turn tt

pub returns-in-Memory-clause-memory : goal.returns-in-Memory-clause-memory
returns-in-Memory-clause-memory g c = λ _. turn_calm _ _ _ _ _ _ c.in-Memory.ensures.turn tt

pub unreachable-requires : goal.unreachable-requires
unreachable-requires g c = look_answers _ _ _ _ _ c.turn.ensures.turn c.in_default.not-At c.in_default.not-Down c.in_default.not-Memory

pub returns-in-At-clause-quiet : goal.returns-in-At-clause-quiet
returns-in-At-clause-quiet g c = turn_quiet _ _ _ _ _ _ c.in-At.ensures.turn refl

pub returns-in-Down-clause-quiet : goal.returns-in-Down-clause-quiet
returns-in-Down-clause-quiet g c = turn_quiet _ _ _ _ _ _ c.in-Down.ensures.turn refl

pub returns-in-Memory-clause-quiet : goal.returns-in-Memory-clause-quiet
returns-in-Memory-clause-quiet g c = turn_quiet _ _ _ _ _ _ c.in-Memory.ensures.turn refl

pub returns-in-At-clause-closes : goal.returns-in-At-clause-closes
returns-in-At-clause-closes g c = turn_keeps _ _ _ None _ _ _ c.in-At.ensures.turn refl

pub returns-in-Down-clause-closes : goal.returns-in-Down-clause-closes
returns-in-Down-clause-closes g c = turn_keeps _ _ _ None _ _ _ c.in-Down.ensures.turn refl

pub returns-in-Memory-clause-closes : goal.returns-in-Memory-clause-closes
returns-in-Memory-clause-closes g c = turn_keeps _ _ _ None _ _ _ c.in-Memory.ensures.turn refl

pub returns-in-At-clause-idle : goal.returns-in-At-clause-idle
returns-in-At-clause-idle g c = turn_idles _ _ _ _ _ _ c.in-At.ensures.turn refl refl (λ _. tt)

pub returns-in-Down-clause-idle : goal.returns-in-Down-clause-idle
returns-in-Down-clause-idle g c = turn_idles _ _ _ _ _ _ c.in-Down.ensures.turn refl refl (λ _. tt)

pub returns-in-Memory-clause-idle : goal.returns-in-Memory-clause-idle
returns-in-Memory-clause-idle g c = turn_idles _ _ _ _ _ _ c.in-Memory.ensures.turn refl refl (λ _. tt)
