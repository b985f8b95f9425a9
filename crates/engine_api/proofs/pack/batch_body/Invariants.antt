use Rattle.std.proofs.Common.{◌≡◌, ◌++◌, drop}
use Rattle.std.specs.Prelude.{flat_map}
use Rattle.delos_types.specs.Numbers.{u16_bytes}
use Rattle.delos_types.specs.Spelling.{item_length}
use Rattle.engine_api.specs.Packing.{batch_body}
use Rattle.engine_api.proofs.pack.batch_body.Given as goal

abbrev pub invariant-loop-item : goal.invariant-loop-item
invariant-loop-item l = l.body.items ++ flat_map (λ i. u16_bytes (item_length i)) (drop l.item-index l.items) ≡ batch_body l.items
