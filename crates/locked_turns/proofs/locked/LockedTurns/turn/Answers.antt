use Rattle.locked_turns.proofs.Passing.{may_take, is_turn}
use Rattle.locked_turns.proofs.locked.LockedTurns.turn.Goals as goal

pub take-requires : goal.take-requires
take-requires g c = let p = g.P.Rules in record { may = may_take p.law c.args.self.now.who c.args.self.now.seen c.args.call c.requires.may }

pub returns-clause-turn : goal.returns-clause-turn
returns-clause-turn g c = let p = g.P.Rules in is_turn p.law c.args.self.now.who c.args.self.now.seen c.args.call c.take.result _ c.take.ensures.taken
