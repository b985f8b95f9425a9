use Rattle.std.proofs.Common.{◌≡◌, ◌++◌, drop}
use Rattle.journal_core.specs.Records.{payloads}
use Rattle.journal_pair.specs.Layout.{spelled}
use Rattle.journal_pair.proofs.compact.spell.Given as goal

abbrev pub invariant-loop-record : goal.invariant-loop-record
invariant-loop-record l = l.bytes.items ++ spelled (payloads (drop l.record-index l.records)) ≡ spelled (payloads l.records)
