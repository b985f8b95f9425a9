use Rattle.std.proofs.Common.{◌≡◌, ◌+◌, ◌-◌}
use Rattle.std.specs.Prelude.{filter, map}
use Rattle.engine_api.specs.Order.{numbers}
use Rattle.engine_api.specs.Members.{least, is_member, position_of, least_position}
use Rattle.engine_api.proofs.Greatest.{with_least}
use Rattle.engine_api.proofs.members.least_position.Given as goal

abbrev pub invariant-loop-number : goal.invariant-loop-number
invariant-loop-number l =
    least (with_least l.least (map (position_of l.placed) (filter (is_member l.placed) (numbers l.number (l.nodes + 1 - l.number))))) ≡ least_position l.nodes l.placed
