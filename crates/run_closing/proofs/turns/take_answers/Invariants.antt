use Rattle.run_closing.specs.Collecting.{WithinDesks}
use Rattle.run_closing.proofs.turns.take_answers.Given as goal

abbrev pub ghosts-take_within : goal.ghosts-take_within
ghosts-take_within g a =
    let seen = g.A.Access.seen a.access in
    record { who = g.A.Access.who a.access; law = record g.A.Law.Rules.law { may = WithinDesks g.A.Law.Rules.law.may a.desks.now.items }; seals = λ _. ⊥; since = seen }
