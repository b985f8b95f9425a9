use Rattle.node_lines.specs.Workers.{Sends, sent_by}
use Rattle.run_closing.proofs.turns.finish_worker.Given as goal

abbrev pub ghosts-finish_within : goal.ghosts-finish_within
ghosts-finish_within g a =
    let seen = g.A.Access.seen a.access in
    record { who = g.A.Access.who a.access; law = record g.A.Law.Rules.law { may = Sends a.worker.seat.who g.A.Law.Rules.law.may (sent_by a.worker.desks.items) seen }; seals = λ _. ⊥; since = seen }
