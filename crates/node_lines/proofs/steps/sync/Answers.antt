use Rattle.std.proofs.Common.{◌≡◌, ℕ, [], ◌∷◌, subst}
use Rattle.base_engine.specs.Arming.{StoreTwice}
use Rattle.base_engine.specs.Causes.{Blames}
use Rattle.base_engine.specs.Following.{EndsBy}
use Rattle.node_lines.specs.declared.steps.Synced.TheVariants as synced
use Rattle.node_lines.specs.Moving.{strikes}
use Rattle.node_lines.proofs.Moving.{moves-sync}
use Rattle.node_lines.proofs.Spending.{spends-none, spends-blames, strikes-stay}
use Rattle.node_lines.proofs.steps.sync.Goals as goal

pub returns-in-Ok-clause-moves : goal.returns-in-Ok-clause-moves
returns-in-Ok-clause-moves g c =
    let p = g.T.Law.Rules in
    let k = c.in-Ok.ensures.keeps in
    let n = c.args.node.now in
    let m = c.sync.new.self in
    moves-sync p.law c.requires.floor n m [] k c.in-Ok.ensures.outbox c.in-Ok.ensures.kept c.in-Ok.ensures.arming
    (spends-none n.who n.seen m.seen (strikes n.replica) (strikes m.replica) (k.later.more, k.later.seen) (strikes-stay n.replica m.replica k.counts c.in-Ok.ensures.arming.down))

pub returns-in-Err-Because-clause-moves : goal.returns-in-Err-Because-clause-moves
returns-in-Err-Because-clause-moves g c =
    let p = g.T.Law.Rules in
    let k = c.in-Err-Because.ensures.keeps in
    let n = c.args.node.now in
    let m = c.sync.new.self in
    moves-sync p.law c.requires.floor n m (c.in-Err-Because.cause ∷ []) k c.in-Err-Because.ensures.outbox c.in-Err-Because.ensures.kept c.in-Err-Because.ensures.arming
    (spends-blames n.who n.seen m.seen c.in-Err-Because.cause n.replica m.replica (k.later.more, k.later.seen) (strikes-stay n.replica m.replica k.counts c.in-Err-Because.ensures.arming.down)
    (subst (λ f. Blames n.who n.seen n.replica.faults f m.seen m.replica.faults) c.in-Err-Because.field-0-is c.in-Err-Because.ensures.blames)
    (subst (λ f. StoreTwice n.replica f m.replica) c.in-Err-Because.field-0-is c.in-Err-Because.ensures.twice))

same_tail : (a b : ℕ) → synced.At a ≡ synced.At b → a ≡ b
same_tail a b h = cc

pub returns-in-Ok-clause-exact : goal.returns-in-Ok-clause-exact
returns-in-Ok-clause-exact g c = λ tail same.
    let n = c.args.node.now in
    let m = c.sync.new.self in
    subst (λ t. EndsBy n.who n.replica.cursor n.seen t m.seen) (same_tail c.in-Ok.tail tail same) c.in-Ok.ensures.exact

pub returns-in-Err-Because-clause-exact : goal.returns-in-Err-Because-clause-exact
returns-in-Err-Because-clause-exact g c = λ tail same. absurd (cc)
