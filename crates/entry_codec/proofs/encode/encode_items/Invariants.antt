use Rattle.std.proofs.Common.{◌≡◌, take, flat_map}
use Rattle.entry_codec.specs.Format.{item_bytes}
use Rattle.entry_codec.proofs.encode.encode_items.Given as goal

abbrev pub invariant-loop-item : goal.invariant-loop-item
invariant-loop-item l = l.out.items ≡ flat_map item_bytes (take l.item-index l.items)
