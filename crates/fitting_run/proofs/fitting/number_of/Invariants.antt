use Rattle.std.proofs.Common.{◌≡◌, ◌≤◌, take}
use Rattle.fitting_run.specs.Turns.{number_of}
use Rattle.fitting_run.proofs.fitting.number_of.Given as goal

abbrev pub invariant-loop-act : goal.invariant-loop-act
invariant-loop-act l = (l.count ≡ number_of l.session (take l.act-index l.acts)) × (l.count ≤ l.act-index)
