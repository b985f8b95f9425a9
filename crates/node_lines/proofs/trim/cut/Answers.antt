use Rattle.std.proofs.Common.{refl, ap, subst, [], ◌∷◌}
use Rattle.replica_api.specs.Replica.{ReplicaView}
use Rattle.base_engine.specs.Causes.{Blames}
use Rattle.base_engine.proofs.Arming.{arming_same}
use Rattle.base_engine.proofs.Showing.{shows_all}
use Rattle.node_lines.specs.Moving.{strikes}
use Rattle.node_lines.proofs.Moving.{moves-sync}
use Rattle.node_lines.proofs.Spending.{spends-none, spends-blames, strikes-same, twice-same}
use Rattle.node_lines.proofs.trim.cut.Goals as goal

pub trim_applied-requires-clause-shown : goal.trim_applied-requires-clause-shown
trim_applied-requires-clause-shown g c = let p = g.T.Law.Rules in shows_all p.law c.requires.floor

pub trim_applied-requires-clause-free : goal.trim_applied-requires-clause-free
trim_applied-requires-clause-free g c = c.requires.free

pub returns-in-Ok : goal.returns-in-Ok
returns-in-Ok g c =
    let p = g.T.Law.Rules in
    let n = c.args.node.now in
    let m = c.trim_applied.new.self in
    let e = c.in-Ok.ensures in
    let k = e.keeps in
    record {
      cuts = record {
        others = [];
        moves = moves-sync p.law c.requires.floor n m [] k e.outbox (ap (λ (r : ReplicaView). r.kept) e.replica) (arming_same 0 n.replica m.replica e.replica)
            (spends-none n.who n.seen m.seen (strikes n.replica) (strikes m.replica) (k.later.more, k.later.seen) (strikes-same n.replica m.replica e.replica));
        replica = e.replica;
        outbox = e.outbox;
        cuts = (refl, e.trims);
      };
    }

pub returns-in-Err-Because : goal.returns-in-Err-Because
returns-in-Err-Because g c =
    let p = g.T.Law.Rules in
    let n = c.args.node.now in
    let m = c.trim_applied.new.self in
    let e = c.in-Err-Because.ensures in
    let k = e.keeps in
    let why = c.in-Err-Because.cause in
    let blames = subst (λ f. Blames n.who n.seen n.replica.faults f m.seen m.replica.faults) c.in-Err-Because.field-0-is e.blames in
    record {
      cuts = record {
        others = why ∷ [];
        moves = moves-sync p.law c.requires.floor n m (why ∷ []) k e.outbox (ap (λ (r : ReplicaView). r.kept) e.replica) (arming_same 0 n.replica m.replica e.replica)
            (spends-blames n.who n.seen m.seen why n.replica m.replica (k.later.more, k.later.seen) (strikes-same n.replica m.replica e.replica) blames (twice-same n.who n.seen m.seen why n.replica m.replica e.replica blames));
        replica = e.replica;
        outbox = e.outbox;
        cuts = refl;
      };
    }
