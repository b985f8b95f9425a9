use Rattle.std.proofs.Common.{◌≡◌, ◌+◌, drop}
use Rattle.delos_types.specs.Spelling.{headers_length}
use Rattle.entry_codec.proofs.encode.headers_len.Given as goal

-- what is counted, and what is still to be counted
abbrev pub invariant-loop-header : goal.invariant-loop-header
invariant-loop-header l = l.len + headers_length (drop l.header-index l.headers) ≡ headers_length l.headers
