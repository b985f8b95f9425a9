use Rattle.virtual_log.proofs.turn.carry.Goals as goal

pub turn-requires-clause-may : goal.turn-requires-clause-may
turn-requires-clause-may g c = c.requires.may _
