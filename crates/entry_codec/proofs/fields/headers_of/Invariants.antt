use Rattle.std.proofs.Common.{◌≡◌, ◌-◌, ◌≤◌, length}
use Rattle.entry_codec.specs.Reading.{headers_from}
use Rattle.entry_codec.proofs.Headers.{with_front}
use Rattle.entry_codec.proofs.fields.headers_of.Given as goal

abbrev pub invariant-loop : goal.invariant-loop
invariant-loop l = record {
  reads : with_front l.headers.items (headers_from l.size l.least (l.count - l.counter) l.rest) ≡ headers_from l.size 1 l.count l.bytes;
  within : length l.rest ≤ length l.bytes;
}
