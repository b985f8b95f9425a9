use Rattle.std.proofs.Common.{◌≡◌, ◌<◌, ◌≤◌, ℕ, length, slice_index_or}
use Rattle.node_threads.specs.Each.{Changes}
use Rattle.node_threads.proofs.threads.in_turn.Given as goal

abbrev pub invariant-loop-k : goal.invariant-loop-k
invariant-loop-k g l = record {
  size : length l.s ≡ length l.initial.s;
  later : (j : ℕ) (d : g.row.T.Denot) → l.k ≤ j → slice_index_or l.s j d ≡ slice_index_or l.initial.s j d;
  done : (j : ℕ) (d : g.row.T.Denot) → j < l.k → Changes g.F.Fn l.f (slice_index_or l.initial.s j d) (slice_index_or l.s j d);
}
