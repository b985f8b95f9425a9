use Rattle.std.proofs.Common.{◌≡◌, ◌++◌, drop, map}
use Rattle.fitting_run.specs.Turns as turns
use Rattle.fitting_run.proofs.acting.asked_of.Given as goal

abbrev pub invariant-loop-act : goal.invariant-loop-act
invariant-loop-act l = l.asked.items ++ map turns.asked (drop l.act-index l.acts) ≡ map turns.asked l.acts
