use Rattle.std.proofs.Common.{◌≡◌, ◌-◌}
use Rattle.store_records.specs.Reading.{changes_from}
use Rattle.store_records.proofs.ChangeLaws.{with_front}
use Rattle.store_records.proofs.fields.changes_at.Given as goal

abbrev pub invariant-loop : goal.invariant-loop
invariant-loop l = with_front l.changes.items (changes_from (l.count - l.counter) l.rest) ≡ changes_from l.count l.bytes
