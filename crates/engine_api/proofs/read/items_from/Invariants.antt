use Rattle.std.proofs.Common.{◌≡◌, ◌+◌, ◌*◌, ◌≤◌, length}
use Rattle.engine_api.specs.Items.{lengths_of, items_from}
use Rattle.engine_api.proofs.Unpacked.{in_front}
use Rattle.engine_api.proofs.read.items_from.Given as goal

abbrev pub invariant-loop-len : goal.invariant-loop-len
invariant-loop-len l = record {
  items : in_front l.items (items_from (lengths_of l.left) l.rest) ≡ items_from (lengths_of l.fn.lengths) l.fn.bytes;
  few : 2 * length l.items + length l.left ≤ length l.fn.lengths;
}

abbrev pub decreases-loop-len : goal.decreases-loop-len
decreases-loop-len l = length l.left
