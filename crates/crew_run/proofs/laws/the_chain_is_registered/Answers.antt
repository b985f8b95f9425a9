use Rattle.crew_run.proofs.Registering.{registered}
use Rattle.crew_run.proofs.laws.the_chain_is_registered.Goals as goal

pub returns : goal.returns
returns g c = λ early l f v o legal asks last mine ran told run version chain down.
    registered g.P.Rules.law early l f v o legal asks last mine ran told run version chain down
