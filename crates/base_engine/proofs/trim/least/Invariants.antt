use Rattle.std.proofs.Common.{◌≡◌, ◌+◌, ◌-◌}
use Rattle.std.specs.Prelude.{filter, map}
use Rattle.engine_api.specs.Order.{numbers}
use Rattle.engine_api.specs.Members.{least}
use Rattle.engine_api.proofs.Greatest.{with_least}
use Rattle.engine_steps.specs.Layout.{reported_of}
use Rattle.base_engine.specs.Trimming.{is_member_in, least_of}
use Rattle.base_engine.proofs.trim.least.Given as goal

abbrev pub invariant-loop-number : goal.invariant-loop-number
invariant-loop-number g l =
    let m = (g.R.Replica.shows l.replica).contents in
    least (with_least l.least (map (reported_of m) (filter (is_member_in m) (numbers l.number (l.nodes + 1 - l.number))))) ≡ least_of l.nodes m
