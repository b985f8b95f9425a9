use Rattle.std.proofs.Common.{◌≡◌, length}
use Rattle.std.specs.Prelude.{All}
use Rattle.engine_api.specs.Packing.{IsProposable}
use Rattle.worked_texts.proofs.order.entry.Given as goal

abbrev pub invariant-loop-rank : goal.invariant-loop-rank
invariant-loop-rank l = record {
  each : All IsProposable l.items.items;
  count : length l.items.items ≡ l.rank-index;
}
