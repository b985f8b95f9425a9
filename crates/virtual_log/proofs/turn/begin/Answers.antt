use Rattle.std.proofs.Common.{None, Some, refl}
use Rattle.virtual_log.proofs.OneTurn.{begin_ok}
use Rattle.virtual_log.proofs.Writing.{turn_wrote}
use Rattle.virtual_log.proofs.Sealing.{turn_none, turn_at}
use Rattle.virtual_log.proofs.Saying.{turn_silent}
use Rattle.virtual_log.proofs.Calming.{turn_calm}
use Rattle.virtual_log.proofs.Answering.{begin_answers}
use Rattle.virtual_log.proofs.Operating.{turn_hands, turn_keeps}
use Rattle.virtual_log.proofs.Attempts.{turn_begins, turn_of, full_begun, memory_begun}
use Rattle.virtual_log.proofs.turn.begin.Goals as goal

pub returns-in-Begun-clause-ok : goal.returns-in-Begun-clause-ok
returns-in-Begun-clause-ok g c = begin_ok _ _ _ _ _ _ _ c.in-Begun.ensures.turn

pub returns-in-Begun-clause-quiet : goal.returns-in-Begun-clause-quiet
returns-in-Begun-clause-quiet g c = turn_wrote _ _ _ _ _ _ c.in-Begun.ensures.turn c.in-Begun.ensures.turn.event refl

pub returns-in-Begun-clause-unsealed : goal.returns-in-Begun-clause-unsealed
returns-in-Begun-clause-unsealed g c = λ other. turn_none _ _ _ _ _ _ c.in-Begun.ensures.turn other

pub returns-in-Begun-clause-seals : goal.returns-in-Begun-clause-seals
returns-in-Begun-clause-seals g c = turn_at _ _ _ _ _ _ _ c.in-Begun.ensures.turn

pub returns-in-Full-clause-unsealed : goal.returns-in-Full-clause-unsealed
returns-in-Full-clause-unsealed g c = λ other. turn_none _ _ _ _ _ _ c.in-Full.ensures.turn other

pub returns-in-Full-clause-seals : goal.returns-in-Full-clause-seals
returns-in-Full-clause-seals g c = turn_at _ _ _ _ _ _ _ c.in-Full.ensures.turn

pub returns-in-Memory-clause-unsealed : goal.returns-in-Memory-clause-unsealed
returns-in-Memory-clause-unsealed g c = λ other. turn_none _ _ _ _ _ _ c.in-Memory.ensures.turn other

pub returns-in-Memory-clause-seals : goal.returns-in-Memory-clause-seals
returns-in-Memory-clause-seals g c = turn_at _ _ _ _ _ _ _ c.in-Memory.ensures.turn

pub returns-in-Begun-clause-silent : goal.returns-in-Begun-clause-silent
returns-in-Begun-clause-silent g c = turn_silent _ _ _ _ _ _ c.in-Begun.ensures.turn refl

pub returns-in-Full-clause-silent : goal.returns-in-Full-clause-silent
returns-in-Full-clause-silent g c = turn_silent _ _ _ _ _ _ c.in-Full.ensures.turn refl

pub returns-in-Memory-clause-silent : goal.returns-in-Memory-clause-silent
returns-in-Memory-clause-silent g c = turn_silent _ _ _ _ _ _ c.in-Memory.ensures.turn refl

pub returns-in-Begun-clause-calm : goal.returns-in-Begun-clause-calm
returns-in-Begun-clause-calm g c = turn_calm _ _ _ _ _ _ c.in-Begun.ensures.turn tt

pub returns-in-Memory-clause-memory : goal.returns-in-Memory-clause-memory
returns-in-Memory-clause-memory g c = λ _. turn_calm _ _ _ _ _ _ c.in-Memory.ensures.turn tt

pub unreachable-requires : goal.unreachable-requires
unreachable-requires g c = begin_answers _ _ _ _ _ _ _ c.turn.ensures.turn c.in_default.not-Begun c.in_default.not-Full c.in_default.not-Memory

pub returns-in-Begun-clause-opens : goal.returns-in-Begun-clause-opens
returns-in-Begun-clause-opens g c = turn_hands _ _ _ None (Some (record { loglet = c.args.cell; ticket = c.in-Begun.ticket })) _ _ _ c.in-Begun.ensures.turn c.in-Begun.ensures.turn.event refl

pub returns-in-Full-clause-refused : goal.returns-in-Full-clause-refused
returns-in-Full-clause-refused g c = turn_keeps _ _ _ None _ _ _ c.in-Full.ensures.turn refl

pub returns-in-Memory-clause-refused : goal.returns-in-Memory-clause-refused
returns-in-Memory-clause-refused g c = turn_keeps _ _ _ None _ _ _ c.in-Memory.ensures.turn refl

pub returns-in-Begun-clause-begun : goal.returns-in-Begun-clause-begun
returns-in-Begun-clause-begun g c = λ entry of. turn_begins _ _ _ _ _ _ _ entry c.in-Begun.ensures.turn of

pub returns-in-Full-clause-unbegun : goal.returns-in-Full-clause-unbegun
returns-in-Full-clause-unbegun g c = λ entry of. turn_of _ _ _ _ _ _ entry c.in-Full.ensures.turn (full_begun c.args.cell _) refl of

pub returns-in-Memory-clause-unbegun : goal.returns-in-Memory-clause-unbegun
returns-in-Memory-clause-unbegun g c = λ entry of. turn_of _ _ _ _ _ _ entry c.in-Memory.ensures.turn (memory_begun c.args.cell _) refl of
