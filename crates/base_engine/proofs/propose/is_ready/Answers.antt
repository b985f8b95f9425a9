use Rattle.std.proofs.Common.{subst, refl}
use Rattle.virtual_log.proofs.OneTurn.{later_refl}
use Rattle.engine_steps.specs.Words.{under}
use Rattle.base_engine.specs.Settling.{view_of}
use Rattle.base_engine.specs.Proposing.{IsNearBy}
use Rattle.base_engine.proofs.Following.{crash_at_rest}
use Rattle.base_engine.proofs.Settling.{settled_none}
use Rattle.base_engine.proofs.Proposing.{refused_memory, refused_by, readied_at_once}
use Rattle.base_engine.proofs.Arming.{arming_refl}
use Rattle.base_engine.proofs.propose.is_ready.Goals as goal

pub returns-in_default-clause-any_crash : goal.returns-in_default-clause-any_crash
returns-in_default-clause-any_crash g c =
    let t = g.L.SharedLog in
    let r = g.R.Replica in
    crash_at_rest t.holds r.meaning (t.seen c.args.log.now) (r.shows c.args.replica.now) c.requires.follows

pub returns-in-Err-clause-any_crash : goal.returns-in-Err-clause-any_crash
returns-in-Err-clause-any_crash g c =
    let t = g.L.SharedLog in
    let r = g.R.Replica in
    crash_at_rest t.holds r.meaning (t.seen c.args.log.now) (r.shows c.args.replica.now) c.requires.follows

pub returns-then-near-clause-any_crash : goal.returns-then-near-clause-any_crash
returns-then-near-clause-any_crash g c =
    let t = g.L.SharedLog in
    let r = g.R.Replica in
    crash_at_rest t.holds r.meaning (t.seen c.args.log.now) (r.shows c.args.replica.now) c.requires.follows

pub returns-in-Err-clause-refused : goal.returns-in-Err-clause-refused
returns-in-Err-clause-refused g c =
    let p = g.L.Law.Rules in
    let t = g.L.SharedLog in
    let r = g.R.Replica in
    let w = t.who c.args.log.now in
    let old = t.seen c.args.log.now in
    let was = view_of c.args.outbox.now in
    let v = r.shows c.args.replica.now in
    refused_memory t.holds w old was (under 2 c.args.item.now) old was (settled_none t.holds p.law w old old was was refl (later_refl p.law old c.requires.legal))

pub returns-then-near-clause-ready : goal.returns-then-near-clause-ready
returns-then-near-clause-ready g c =
    let p = g.L.Law.Rules in
    let t = g.L.SharedLog in
    let r = g.R.Replica in
    let w = t.who c.args.log.now in
    let old = t.seen c.args.log.now in
    let was = view_of c.args.outbox.now in
    let v = r.shows c.args.replica.now in
    readied_at_once t.holds w old was c.args.item.now c.in-Some.word.0 c.in-Some.word.1 _ v c.in-Some.ensures (subst (λ b. IsNearBy v.contents c.in-Some.word.0 c.in-Some.word.1 b) c.if-near.true c.in-Ok.ensures)

pub returns-in-Err-catch_up-clause-refused : goal.returns-in-Err-catch_up-clause-refused
returns-in-Err-catch_up-clause-refused g c =
    let p = g.L.Law.Rules in
    let t = g.L.SharedLog in
    let r = g.R.Replica in
    let w = t.who c.args.log.now in
    let old = t.seen c.args.log.now in
    let was = view_of c.args.outbox.now in
    let v = r.shows c.args.replica.now in
    let new = t.seen c.catch_up.new.log in
    let is = view_of c.catch_up.new.outbox in
    let u = r.shows c.catch_up.new.replica in
    refused_by t.holds w old was c.args.item.now c.in-Some.word.0 c.in-Some.word.1 _ _ new is c.in-Some.ensures c.in-Err-catch_up.ensures.gave_up

pub returns-in_default-clause-arming : goal.returns-in_default-clause-arming
returns-in_default-clause-arming g c = arming_refl 0 (g.R.Replica.shows c.args.replica.now)

pub returns-in-Err-clause-arming : goal.returns-in-Err-clause-arming
returns-in-Err-clause-arming g c = arming_refl 0 (g.R.Replica.shows c.args.replica.now)

pub returns-then-near-clause-arming : goal.returns-then-near-clause-arming
returns-then-near-clause-arming g c = arming_refl 0 (g.R.Replica.shows c.args.replica.now)
