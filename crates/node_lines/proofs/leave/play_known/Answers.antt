use Rattle.std.proofs.Common.{[], ◌∷◌, subst}
use Rattle.base_engine.specs.Arming.{StoreTwice}
use Rattle.base_engine.specs.Causes.{Blames}
use Rattle.base_engine.specs.Following.{Reaches}
use Rattle.node_lines.specs.Moving.{strikes}
use Rattle.node_lines.proofs.Moving.{moves-sync}
use Rattle.node_lines.proofs.Spending.{spends-none, spends-blames, strikes-stay}
use Rattle.node_lines.proofs.leave.play_known.Goals as goal

pub returns-in-Ok : goal.returns-in-Ok
returns-in-Ok g c =
    let p = g.T.Law.Rules in
    let e = c.in-Ok.ensures in
    let k = e.keeps in
    let n = c.args.node.now in
    let m = c.play.new.self in
    record {
      plays = record {
        moves = moves-sync p.law c.requires.floor n m [] k e.outbox e.kept e.arming (spends-none n.who n.seen m.seen (strikes n.replica) (strikes m.replica) (k.later.more, k.later.seen) (strikes-stay n.replica m.replica k.counts e.arming.down));
        outbox = e.outbox;
        kept = e.kept;
        reaches = λ none. subst (λ to. Reaches to n.replica m.replica m.seen) c.known-end.ensures e.reaches;
      };
    }

pub returns-in-Err-Because : goal.returns-in-Err-Because
returns-in-Err-Because g c =
    let p = g.T.Law.Rules in
    let e = c.in-Err-Because.ensures in
    let k = e.keeps in
    let n = c.args.node.now in
    let m = c.play.new.self in
    let why = c.in-Err-Because.cause in
    record {
      plays = record {
        moves = moves-sync p.law c.requires.floor n m (why ∷ []) k e.outbox e.kept e.arming
            (spends-blames n.who n.seen m.seen why n.replica m.replica (k.later.more, k.later.seen) (strikes-stay n.replica m.replica k.counts e.arming.down)
            (subst (λ f. Blames n.who n.seen n.replica.faults f m.seen m.replica.faults) c.in-Err-Because.field-0-is e.blames)
            (subst (λ f. StoreTwice n.replica f m.replica) c.in-Err-Because.field-0-is e.twice));
        outbox = e.outbox;
        kept = e.kept;
        reaches = λ none. absurd (cc);
      };
    }
