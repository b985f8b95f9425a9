use Rattle.std.proofs.Common.{◌≡◌, ◌++◌, map}
use Rattle.fitting_run.proofs.acting.acts_in.Given as goal

abbrev pub invariant-loop-act : goal.invariant-loop-act
invariant-loop-act l = l.acts.items ++ l.act-iterator ≡ map (λ e. e.1) l.fn.turns.entries
