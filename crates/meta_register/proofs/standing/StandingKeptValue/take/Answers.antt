use Rattle.std.proofs.Common.{sym, ◌∙◌}
use Rattle.meta_register.proofs.Keeping.{took_none, took_other, taken_whole}
use Rattle.meta_register.proofs.standing.StandingKeptValue.take.Goals as goal

pub returns-in_default-clause-taken : goal.returns-in_default-clause-taken
returns-in_default-clause-taken c = λ records long spelled. took_none c.args.self.now c.args.bytes.now records spelled (sym c.in_ok-next.ensures.value ∙ c.in_default.is)

pub returns-then-not-is_next-clause-taken : goal.returns-then-not-is_next-clause-taken
returns-then-not-is_next-clause-taken c =
    λ records long spelled. took_other c.args.self.now c.in-Some.next c.args.bytes.now records _ spelled (sym c.in_ok-next.ensures.value ∙ c.in-Some.is) (sym c.is_next.ensures ∙ c.if-not-is_next.true)

pub returns-clause-taken : goal.returns-clause-taken
returns-clause-taken c =
    λ records long spelled. took_other c.args.self.now c.in-Some.next c.args.bytes.now records _ spelled (sym c.in_ok-next.ensures.value ∙ c.in-Some.is) (sym c.is_next.ensures ∙ c.if-not-is_next.false)

pub returns-clause-sound : goal.returns-clause-sound
returns-clause-sound c = λ _. taken_whole c.args.self.now c.in-Some.next c.requires.sound (c.in_ok-next.ensures.chain c.in-Some.next c.in-Some.is) (sym c.is_next.ensures ∙ c.if-not-is_next.false)
