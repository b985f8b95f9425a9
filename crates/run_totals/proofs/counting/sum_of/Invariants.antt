use Rattle.std.proofs.Common.{◌≡◌, ◌+◌, ◌*◌, ◌^◌, ◌<◌, length, fold, pos, ◌+ℤ◌, ◌≤ℤ◌, neg_ℤ}
use Rattle.run_totals.specs.Totals.{number_in, sum_of_table}
use Rattle.run_totals.proofs.counting.sum_of.Given as goal

abbrev pub invariant-loop-value : goal.invariant-loop-value
invariant-loop-value l =
    record {
      can_next : (goal.iterator-loop-value).can_next l.value-iterator;
      is_finite : (goal.iterator-loop-value).is_finite l.value-iterator;
      whole : fold (λ s e. s +ℤ number_in e.1) l.sum l.value-iterator ≡ sum_of_table l.fn.table;
      short : length l.yielded + length l.value-iterator < 2 ^ 63;
      low : neg_ℤ (pos (2 ^ 63 * length l.yielded)) ≤ℤ l.sum;
      high : l.sum ≤ℤ pos (2 ^ 63 * length l.yielded);
    }
