use Rattle.std.proofs.Common.{◌≡◌}
use Rattle.std.specs.Prelude.{is_some}
use Rattle.local_store.specs.Slots.{first_shown, slot_of}
use Rattle.local_store.proofs.seek.first_shown.Given as goal

abbrev pub invariant-loop-key : goal.invariant-loop-key
invariant-loop-key l = first_shown l.kind (λ q. is_some (slot_of l.others.entries q)) l.key-iterator ≡ first_shown l.kind (λ q. is_some (slot_of l.others.entries q)) l.fn.run
