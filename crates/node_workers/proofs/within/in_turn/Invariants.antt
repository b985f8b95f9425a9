use Rattle.node_lines.specs.Workers.{Sends, IsKept}
use Rattle.node_lines.specs.Steps.{UpToIf}
use Rattle.node_workers.proofs.within.in_turn.Given as goal

abbrev pub ghosts-within : goal.ghosts-within
ghosts-within g a =
    let seen = g.A.Access.seen a.access in
    let p = g.A.Law.Rules in
    record { who = g.A.Access.who a.access; law = record p.law { may = Sends a.seat.who p.law.may g.E.Sent.counts seen; floor = UpToIf (IsKept g.A.Access.beside p.law.floor a.seat seen) p.law.floor a.seat.node.replica.cursor }; seals = g.X.NodeStep.seals; since = seen }
