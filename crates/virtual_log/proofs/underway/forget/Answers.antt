use Rattle.std.proofs.Common.{subst}
use Rattle.std.specs.Prelude.{if◌then◌else◌}
use Rattle.virtual_log.specs.declared.underway.Step.TheVariants.{Starting, Dropping}
use Rattle.virtual_log.specs.Underway.{Forgets}
use Rattle.virtual_log.proofs.Stepping.{may_forget, forgets_by}
use Rattle.virtual_log.proofs.underway.forget.Goals as goal

pub forget-requires : goal.forget-requires
forget-requires g c =
    let p = g.T.Law.Rules in
    let t = g.T.Turns in
    record { may = may_forget p.law (t.who c.args.turns.now) (t.seen c.args.turns.now) c.requires.legal c.args.cell c.args.ticket c.requires.dropping }

pub returns-then-forget-clause-turn : goal.returns-then-forget-clause-turn
returns-then-forget-clause-turn g c =
    let last = c.forget.ensures.turn in
    (last.0, subst (λ b. Forgets c.args.cell c.args.ticket last.0 (if b then Starting else Dropping c.args.cell c.args.ticket)) c.if-forget.true (forgets_by c.args.cell c.args.ticket last.0 c.forget.result last.1), last.2)

pub returns-clause-turn : goal.returns-clause-turn
returns-clause-turn g c =
    let last = c.forget.ensures.turn in
    (last.0, subst (λ b. Forgets c.args.cell c.args.ticket last.0 (if b then Starting else Dropping c.args.cell c.args.ticket)) c.if-forget.false (forgets_by c.args.cell c.args.ticket last.0 c.forget.result last.1), last.2)
