use Rattle.std.proofs.Common.{◌≡◌, ◌-◌, ◌^◌, ◌<◌, refl, ap, subst, ⊎_elim, ℕ, false, List, [], ◌∷◌, arith}
use Rattle.delos_types.specs.declared.cause.Cause.{Cause}
use Rattle.delos_types.specs.declared.cause.Cause.TheVariants as cause
use Rattle.legal_journal.specs.declared.events.Event.{Event}
use Rattle.replica_api.specs.Replica.{ReplicaView}
use Rattle.base_engine.specs.declared.fault.Fault.TheVariants.{Because}
use Rattle.base_engine.specs.Causes.{Blames}
use Rattle.base_engine.proofs.Arming.{arming_same}
use Rattle.node_lines.specs.Moving.{is_store, strikes}
use Rattle.node_lines.proofs.Moving.{moves-sync}
use Rattle.node_lines.proofs.Spending.{spends-none, spends-blames, strikes-same, twice-same}
use Rattle.node_lines.proofs.extend.extend_log.Goals as goal

pub returns-in-Ok : goal.returns-in-Ok
returns-in-Ok g c =
    let p = g.T.Law.Rules in
    let n = c.args.node.now in
    let m = c.extend.new.self in
    let k = c.in-Ok.ensures.keeps in
    record {
      replaces = record {
        others = [];
        moves = moves-sync p.law c.requires.floor n m [] k c.in-Ok.ensures.outbox (ap (λ (r : ReplicaView). r.kept) c.in-Ok.ensures.replica) (arming_same 0 n.replica m.replica c.in-Ok.ensures.replica)
            (spends-none n.who n.seen m.seen (strikes n.replica) (strikes m.replica) (k.later.more, k.later.seen) (strikes-same n.replica m.replica c.in-Ok.ensures.replica));
        replica = c.in-Ok.ensures.replica;
        outbox = c.in-Ok.ensures.outbox;
        extends = (refl, c.in-Ok.ensures.extension);
        seals = c.in-Ok.ensures.seals;
      };
    }

-- a fault that is blamed so whatever the disk counted isn't the disk's
not_store : (who : ℕ) (old new : List Event) (why : Cause) → ((faults faults' : ℕ) → Blames who old faults (Because why) new faults') → is_store why ≡ false
not_store who old new (cause.NoQuorum id unreached) h = refl
not_store who old new (cause.Full id) h = refl
not_store who old new cause.Meta h = refl
not_store who old new cause.Store h = absurd (⊎_elim (λ (rose : 1 < 0). omega (arith, rose)) (λ (most : 1 ≡ 2 ^ 64 - 1). omega (arith, most)) (h 1 0))

pub returns-in-Err-Because : goal.returns-in-Err-Because
returns-in-Err-Because g c =
    let p = g.T.Law.Rules in
    let n = c.args.node.now in
    let m = c.extend.new.self in
    let k = c.in-Err-Because.ensures.keeps in
    let why = c.in-Err-Because.cause in
    let blames : (faults faults' : ℕ) → Blames n.who n.seen faults (Because why) m.seen faults' = λ faults faults'.
    subst (λ f. Blames n.who n.seen faults f m.seen faults') c.in-Err-Because.field-0-is (c.in-Err-Because.ensures.blames faults faults') in
    record {
      replaces = record {
        others = why ∷ [];
        moves = moves-sync p.law c.requires.floor n m (why ∷ []) k c.in-Err-Because.ensures.outbox (ap (λ (r : ReplicaView). r.kept) c.in-Err-Because.ensures.replica) (arming_same 0 n.replica m.replica c.in-Err-Because.ensures.replica)
            (spends-blames n.who n.seen m.seen why n.replica m.replica (k.later.more, k.later.seen) (strikes-same n.replica m.replica c.in-Err-Because.ensures.replica) (blames n.replica.faults m.replica.faults)
            (twice-same n.who n.seen m.seen why n.replica m.replica c.in-Err-Because.ensures.replica (blames n.replica.faults m.replica.faults)));
        replica = c.in-Err-Because.ensures.replica;
        outbox = c.in-Err-Because.ensures.outbox;
        extends = (refl, not_store n.who n.seen m.seen why blames);
        seals = c.in-Err-Because.ensures.seals;
      };
    }
