use Rattle.std.proofs.Common.{◌≡◌, ◌++◌, ◌∷◌, length, take, flat_map}
use Rattle.entry_codec.specs.Format.{header_bytes}
use Rattle.entry_codec.proofs.encode.put_headers.Given as goal

abbrev pub invariant-loop-header : goal.invariant-loop-header
invariant-loop-header l = l.out.items ≡ l.fn.out.items ++ length l.headers ∷ flat_map header_bytes (take l.header-index l.headers)
