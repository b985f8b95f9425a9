use Rattle.std.proofs.Common.{◌++◌, ◌∷◌, [], length, map, subst, arith}
use Rattle.std.specs.List.{AllByRecursion}
use Rattle.log_laws.proofs.Pairs.{all-left}
use Rattle.crew_making.specs.Fresh.{IsFreshLog}
use Rattle.node_opening.proofs.Lists.{goes_back}
use Rattle.crew_making.proofs.berth.leave_all.Goals as goal

pub loop-berths-preserved : goal.loop-berths-preserved
loop-berths-preserved g c =
    let l = c.loop-berths in
    let t = c.take_last-berth in
    record {
      logs = all-left (λ b. IsFreshLog (length g.K.Terms.law.shelf) b.log) t.new.self.items (t.result ∷ []) (subst (λ x. AllByRecursion (λ b. IsFreshLog (length g.K.Terms.law.shelf) b.log) x) t.ensures.items l.invariant.logs);
      room = grind (arith, l.invariant.room, t.ensures.len, c.put_first.ensures.items, c.put_first.ensures.room);
      kept = grind (arith, l.invariant.kept, c.put_first.ensures.room);
      same = goes_back (λ b. b.replica) (λ n. n.replica) l.berths.items t.new.self.items l.nodes.items c.put_first.new.nodes.items t.result c.leave.result (map (λ b. b.replica) c.args.berths.items ++ map (λ n. n.replica) c.args.nodes.now.items) c.leave.ensures t.ensures.items c.put_first.ensures.items l.invariant.same;
    }
