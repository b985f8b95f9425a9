use Rattle.std.proofs.Common.{◌≡◌, ◌++◌, drop}
use Rattle.fitting_run.specs.Turns.{acts_from}
use Rattle.fitting_run.proofs.acting.acts_from.Given as goal

abbrev pub invariant-loop-act : goal.invariant-loop-act
invariant-loop-act l = l.above.items ++ acts_from l.pos (drop l.act-index l.acts) ≡ acts_from l.pos l.acts
