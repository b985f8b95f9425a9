use Rattle.std.proofs.Common.{◌-◌, ◌≤◌, drop}
use Rattle.journal_core.specs.Records.{payloads}
use Rattle.log_server.proofs.Compacted.{SpellFirst}
use Rattle.log_server.proofs.spell.records_of_server.Given as goal

abbrev pub invariant-loop-index : goal.invariant-loop-index
invariant-loop-index l = record {
  behind : l.gone ≤ l.index;
  spelled : SpellFirst (payloads l.records.items) l.base l.fn.sealed_at (drop l.gone l.entries.items) (l.index - l.gone);
}
