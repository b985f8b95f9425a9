use Rattle.std.proofs.Common.{refl}
use Rattle.legal_journal.specs.declared.events.FabricAnswer.TheVariants.{Gone, NoTicket, Memory}
use Rattle.virtual_log.proofs.Sealing.{turn_none}
use Rattle.virtual_log.proofs.Saying.{turn_silent}
use Rattle.virtual_log.proofs.Attempts.{turn_idles}
use Rattle.virtual_log.proofs.Calming.{turn_calm}
use Rattle.virtual_log.proofs.Answering.{forget_answers}
use Rattle.virtual_log.proofs.turn.forget.Goals as goal

pub returns-in-Gone-clause-turn : goal.returns-in-Gone-clause-turn
returns-in-Gone-clause-turn g c = (Gone, refl, c.in-Gone.ensures.turn)

pub returns-in-Gone-clause-unsealed : goal.returns-in-Gone-clause-unsealed
returns-in-Gone-clause-unsealed g c = turn_none _ _ _ _ _ _ c.in-Gone.ensures.turn refl

pub returns-in-Gone-clause-silent : goal.returns-in-Gone-clause-silent
returns-in-Gone-clause-silent g c = turn_silent _ _ _ _ _ _ c.in-Gone.ensures.turn refl

pub returns-in-Gone-clause-calm : goal.returns-in-Gone-clause-calm
returns-in-Gone-clause-calm g c = turn_calm _ _ _ _ _ _ c.in-Gone.ensures.turn tt

pub returns-in-NoTicket-clause-turn : goal.returns-in-NoTicket-clause-turn
returns-in-NoTicket-clause-turn g c = (NoTicket, refl, c.in-NoTicket.ensures.turn)

pub returns-in-NoTicket-clause-unsealed : goal.returns-in-NoTicket-clause-unsealed
returns-in-NoTicket-clause-unsealed g c = turn_none _ _ _ _ _ _ c.in-NoTicket.ensures.turn refl

pub returns-in-NoTicket-clause-silent : goal.returns-in-NoTicket-clause-silent
returns-in-NoTicket-clause-silent g c = turn_silent _ _ _ _ _ _ c.in-NoTicket.ensures.turn refl

pub returns-in-NoTicket-clause-calm : goal.returns-in-NoTicket-clause-calm
returns-in-NoTicket-clause-calm g c = turn_calm _ _ _ _ _ _ c.in-NoTicket.ensures.turn tt

pub returns-in-Memory-clause-turn : goal.returns-in-Memory-clause-turn
returns-in-Memory-clause-turn g c = (Memory, refl, c.in-Memory.ensures.turn)

pub returns-in-Memory-clause-unsealed : goal.returns-in-Memory-clause-unsealed
returns-in-Memory-clause-unsealed g c = turn_none _ _ _ _ _ _ c.in-Memory.ensures.turn refl

pub returns-in-Memory-clause-silent : goal.returns-in-Memory-clause-silent
returns-in-Memory-clause-silent g c = turn_silent _ _ _ _ _ _ c.in-Memory.ensures.turn refl

pub returns-in-Memory-clause-calm : goal.returns-in-Memory-clause-calm
returns-in-Memory-clause-calm g c = turn_calm _ _ _ _ _ _ c.in-Memory.ensures.turn tt

pub unreachable-requires : goal.unreachable-requires
unreachable-requires g c = forget_answers _ _ _ _ _ _ _ c.turn.ensures.turn c.in_default.not-Gone c.in_default.not-NoTicket c.in_default.not-Memory

pub returns-in-Gone-clause-idle : goal.returns-in-Gone-clause-idle
returns-in-Gone-clause-idle g c = turn_idles _ _ _ _ _ _ c.in-Gone.ensures.turn refl refl (λ _. tt)

pub returns-in-NoTicket-clause-idle : goal.returns-in-NoTicket-clause-idle
returns-in-NoTicket-clause-idle g c = turn_idles _ _ _ _ _ _ c.in-NoTicket.ensures.turn refl refl (λ _. tt)

pub returns-in-Memory-clause-idle : goal.returns-in-Memory-clause-idle
returns-in-Memory-clause-idle g c = turn_idles _ _ _ _ _ _ c.in-Memory.ensures.turn refl refl (λ _. tt)
