use Rattle.std.proofs.Common.{◌≡◌, [], drop}
use Rattle.fitting_run.specs.Turns.{with_acts, acts_told}
use Rattle.fitting_run.proofs.acting.in_turn.Given as goal

abbrev pub invariant-loop-answered : goal.invariant-loop-answered
invariant-loop-answered l = with_acts l.turns.entries (acts_told (drop l.answered-index l.told)) ≡ with_acts [] (acts_told l.told)
