use Rattle.std.proofs.Common.{◌≡◌, ◌+◌, length}
use Rattle.local_store.specs.Slots.{set_after}
use Rattle.local_store.proofs.spell.count_after.Given as goal

abbrev pub invariant-loop-key : goal.invariant-loop-key
invariant-loop-key l = l.count + length (set_after l.changes.entries l.key-iterator) ≡ length (set_after l.changes.entries l.slots.entries) + length l.key-iterator
