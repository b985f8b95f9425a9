use Rattle.node_lines.proofs.Moving.{moves-pack}
use Rattle.node_lines.proofs.steps.pack.Goals as goal

pub returns-clause-moves : goal.returns-clause-moves
returns-clause-moves g c =
    let p = g.T.Law.Rules in
    moves-pack p.law c.requires.floor c.args.node.now c.flush.new.self c.requires.kept c.in_ok-flush.ensures.keeps c.in_ok-flush.ensures.rest c.in_ok-flush.ensures.sent
