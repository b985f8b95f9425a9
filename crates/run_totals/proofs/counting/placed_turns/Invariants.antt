use Rattle.std.proofs.Common.{◌≡◌, []}
use Rattle.std.specs.Iterator.Adapters.{zip_first, zip_second}
use Rattle.std.specs.Slice.Iter.{iter_rest}
use Rattle.run_totals.specs.Replay.{shown, with_acts, acts_told}
use Rattle.run_totals.proofs.counting.placed_turns.Given as goal

abbrev pub invariant-loop-line : goal.invariant-loop-line
invariant-loop-line l =
    with_acts (shown l.turns.entries) (acts_told (iter_rest (zip_first l.line-iterator)) (iter_rest (zip_second l.line-iterator)))
    ≡ with_acts [] (acts_told l.fn.lines l.fn.rows)
