use Rattle.std.proofs.Common.{◌≡◌, subst, IfOk}
use Rattle.fitting_run.proofs.Turning.{in-turns}
use Rattle.fitting_run.proofs.acting.placed_acts.Goals as goal

pub returns : goal.returns
returns c = subst (λ acts. IfOk c.acts_in.result (λ r. r ≡ acts)) (in-turns c.args.told.now c.in_ok-turns.turns.entries c.in_ok-turns.ensures) c.acts_in.ensures
