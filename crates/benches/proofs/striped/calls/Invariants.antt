use Rattle.loglet_runs.specs.Runs.{BringsSpellable}
use Rattle.benches.proofs.striped.calls.Given as goal

abbrev pub invariant-loop-number : goal.invariant-loop-number
invariant-loop-number l = BringsSpellable l.calls.items

abbrev pub invariant-loop-word : goal.invariant-loop-word
invariant-loop-word l = BringsSpellable l.calls.items

abbrev pub invariant-loop-carry : goal.invariant-loop-carry
invariant-loop-carry l = BringsSpellable l.calls.items
