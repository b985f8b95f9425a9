use Rattle.std.proofs.Common.{refl}
use Rattle.run_closing.proofs.Ending.{moves_nothing}
use Rattle.node_workers.proofs.Ok.{on_ok}
use Rattle.run_closing.proofs.last.finish.Goals as goal

pub returns-then-passed-clause-moves : goal.returns-then-passed-clause-moves
returns-then-passed-clause-moves g c = let p = g.T.Law.Rules in moves_nothing p.law c.requires.floor c.args.node.now (c.in_ok-passed.ensures.legal c.if-passed.true)

pub returns-then-passed-clause-plays : goal.returns-then-passed-clause-plays
returns-then-passed-clause-plays g c = record { left = c.in_ok-passed.ensures.gone c.if-passed.true; same = refl }

pub returns-clause-plays : goal.returns-clause-plays
returns-clause-plays g c = record {
  stays = c.in_ok-passed.ensures.called c.if-passed.false;
  plays = on_ok _ c.in_ok-cursor.was c.play_out.ensures.plays;
}
