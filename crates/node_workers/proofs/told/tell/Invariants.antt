use Rattle.std.specs.Prelude.{[], ◌∷◌}
use Rattle.engine_api.specs.Packing.{packed}
use Rattle.node_lines.specs.Workers.{SendsToo, StaysKept}
use Rattle.node_lines.specs.Steps.{UpToIf}
use Rattle.node_workers.proofs.told.tell.Given as goal

abbrev pub ghosts-within : goal.ghosts-within
ghosts-within g a =
    let seen = g.A.Access.seen a.access in
    let p = g.A.Law.Rules in
    record { who = g.A.Access.who a.access; law = record p.law { may = SendsToo a.seat.who p.law.may g.E.Sent.counts seen (packed a.seat.node.replica.origin (a.step.item ∷ [])); floor = UpToIf (StaysKept g.A.Access.beside p.law.floor a.seat seen a.step.item) p.law.floor a.seat.node.replica.cursor }; seals = λ _. ⊥; since = seen }
