use Rattle.crew_making.proofs.Before.{no_turn}
use Rattle.crew_making.proofs.early.EarlyTurns.turn.Goals as goal

pub returns-clause-turn : goal.returns-clause-turn
returns-clause-turn g c = no_turn g.P.Rules.law _ c.args._call c.self.invariant
