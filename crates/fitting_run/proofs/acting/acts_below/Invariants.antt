use Rattle.std.proofs.Common.{◌≡◌, ◌++◌, drop}
use Rattle.fitting_run.specs.Acts.{acts_below}
use Rattle.fitting_run.proofs.acting.acts_below.Given as goal

abbrev pub invariant-loop-act : goal.invariant-loop-act
invariant-loop-act l = l.below.items ++ acts_below l.pos (drop l.act-index l.acts) ≡ acts_below l.pos l.acts
