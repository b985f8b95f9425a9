use Rattle.std.proofs.Common.{◌≡◌, ◌+◌, ◌-◌, ◌≤◌, length, max}
use Rattle.std.specs.Prelude.{filter}
use Rattle.engine_api.specs.Order.{numbers}
use Rattle.engine_api.specs.Members.{greatest, clean_at, clean_position}
use Rattle.engine_api.proofs.members.clean_position.Given as goal

abbrev pub invariant-loop-n : goal.invariant-loop-n
invariant-loop-n l = record {
  low : l.clean ≤ l.n;
  greatest : max l.clean (greatest (filter (clean_at l.entries) (numbers l.n (length l.entries + 1 - l.n)))) ≡ clean_position l.entries;
}
