use Rattle.std.proofs.Common.{◌≡◌}
use Rattle.pass_lock.specs.Steps.{IsSameSeat}
use Rattle.pass_lock.proofs.turns.draw.Given as goal

abbrev pub invariant-loop : goal.invariant-loop
invariant-loop g l = IsSameSeat l.initial.place l.place × (l.place.me ≡ l.initial.place.me)
