use Rattle.loglet_runs.specs.Runs.{BringsSpellable}
use Rattle.benches.proofs.native.calls.Given as goal

abbrev pub invariant-loop-number : goal.invariant-loop-number
invariant-loop-number l = BringsSpellable l.calls.items

abbrev pub invariant-loop-server : goal.invariant-loop-server
invariant-loop-server l = BringsSpellable l.calls.items

abbrev pub invariant-loop-heard : goal.invariant-loop-heard
invariant-loop-heard l = BringsSpellable l.calls.items
