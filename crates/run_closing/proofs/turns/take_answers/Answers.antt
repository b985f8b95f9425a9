use Rattle.std.proofs.Common.{refl}
use Rattle.turn_scopes.proofs.Alone.{narrows_alone}
use Rattle.run_closing.specs.Collecting.{WithinDesks}
use Rattle.run_closing.proofs.turns.take_answers.Goals as goal

pub take_within-requires-clause-narrows : goal.take_within-requires-clause-narrows
take_within-requires-clause-narrows g c =
    let p = g.A.Law.Rules in
    narrows_alone (record p.law { may = WithinDesks p.law.may c.args.desks.now.items }) p.law (g.A.Access.beside (g.A.Access.who c.args.access)) c.requires.alone (record { may = λ who e h. h.0; floor = λ log n h. h; shelf = refl })
