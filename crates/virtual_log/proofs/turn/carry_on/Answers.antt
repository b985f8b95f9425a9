use Rattle.std.proofs.Common.{◌++◌, None, Some, ◌∙◌, refl, sym, subst, arith, append_assoc}
use Rattle.legal_journal.specs.declared.events.FabricCall.TheVariants.{Forget}
use Rattle.legal_journal.specs.Journal.{state_of, IsOwn}
use Rattle.legal_journal.specs.Turns.{MayTurn}
use Rattle.virtual_log.specs.Turning.{OnlyOwn, Answered}
use Rattle.virtual_log.specs.Operating.{Operation}
use Rattle.virtual_log.specs.Attempts.{refused_by}
use Rattle.virtual_log.proofs.OneTurn.{may_carry, may_drop, going_ok, going_still, done_ok, answered_since, nil, turn_later, later_refl, later_trans}
use Rattle.virtual_log.proofs.Owning.{own_split, still_trans, still_refl}
use Rattle.virtual_log.proofs.Writing.{turn_wrote, wrote_refl, wrote_trans, wrote_by}
use Rattle.virtual_log.proofs.Sealing.{turn_none, seals_refl, seals_trans, seals_as}
use Rattle.virtual_log.proofs.Saying.{drawn_refl, drawn_then, spares_then, turn_draws, turn_spares, spares_on}
use Rattle.virtual_log.proofs.Calming.{turn_calm, calm_refl, calm_then}
use Rattle.virtual_log.proofs.Answering.{carry_answers}
use Rattle.virtual_log.proofs.Operating.{operates_refl, operates_then, turn_hands, turn_keeps, turn_forgets}
use Rattle.virtual_log.proofs.Attempts.{turn_idles, turn_answers, idle_refl, idle_then, carried_then}
use Rattle.virtual_log.proofs.turn.carry_on.Goals as goal

pub carry-requires : goal.carry-requires
carry-requires g c =
    let t = g.T.Turns in
    let p = g.T.Law.Rules in
    let l = c.loop-answer in
    let r = c.requires.own.0 in
    record {
      may = λ word. may_carry p.law (t.who l.turns) (t.seen l.turns) (t.seen l.turns) c.args.cell c.args.ticket word r c.requires.cell l.invariant.later.legal
          (subst (λ k. IsOwn ((state_of (t.seen l.turns)).cells c.args.cell) k c.args.ticket r) (sym l.invariant.who) (l.invariant.own r c.requires.own.1));
    }

pub returns-in-Done-clause-ok : goal.returns-in-Done-clause-ok
returns-in-Done-clause-ok g c = λ r h.
    let t = g.T.Turns in
    let p = g.T.Law.Rules in
    let l = c.loop-answer in
    let now = t.seen c.carry.new.turns in
    let done = done_ok p.law (t.who l.turns) (t.seen l.turns) now c.args.cell c.args.ticket _ r c.in-Done.answer l.invariant.later.legal c.in-Done.ensures.turn.3
    (subst (λ k. IsOwn ((state_of (t.seen l.turns)).cells c.args.cell) k c.args.ticket r) (sym l.invariant.who) (l.invariant.own r h)) in
    answered_since (t.who c.args.turns.now) (t.seen c.args.turns.now) (t.seen l.turns) now c.args.cell c.args.ticket r c.in-Done.answer l.invariant.later.more l.invariant.later.seen l.invariant.still
    (subst (λ k. Answered k (t.seen l.turns) c.args.cell c.args.ticket r c.in-Done.answer now) l.invariant.who done)

pub returns-in-Done-clause-quiet : goal.returns-in-Done-clause-quiet
returns-in-Done-clause-quiet g c =
    let t = g.T.Turns in
    let p = g.T.Law.Rules in
    let l = c.loop-answer in
    let turn = c.in-Done.ensures.turn.3 in
    wrote_trans (t.who c.args.turns.now) (t.seen c.args.turns.now) (t.seen l.turns) (t.seen c.carry.new.turns) l.invariant.quiet
    (wrote_by _ _ _ _ l.invariant.who (turn_wrote p.law _ _ _ _ _ turn turn.event refl))

pub loop-answer-smaller : goal.loop-answer-smaller
loop-answer-smaller g c =
    let t = g.T.Turns in
    let p = g.T.Law.Rules in
    let l = c.loop-answer in
    let r = c.requires.own.0 in
    let k = going_ok p.law (t.who l.turns) (t.seen l.turns) (t.seen c.carry.new.turns) c.args.cell c.args.ticket _ r l.invariant.later.legal c.in-Going.ensures.turn.3
    (subst (λ x. IsOwn ((state_of (t.seen l.turns)).cells c.args.cell) x c.args.ticket r) (sym l.invariant.who) (l.invariant.own r c.requires.own.1)) in
    omega (arith, k.1.0, k.1.1)

pub loop-answer-preserved : goal.loop-answer-preserved
loop-answer-preserved g c =
    let t = g.T.Turns in
    let p = g.T.Law.Rules in
    let l = c.loop-answer in
    record {
      later = later_trans p.law (t.seen c.args.turns.now) (t.seen l.turns) (t.seen c.carry.new.turns) l.invariant.later (turn_later p.law _ _ _ _ _ c.in-Going.ensures.turn.3);
      who = c.carry.ensures.who ∙ l.invariant.who;
      quiet = wrote_trans (t.who c.args.turns.now) (t.seen c.args.turns.now) (t.seen l.turns) (t.seen c.carry.new.turns) l.invariant.quiet
          (wrote_by _ _ _ _ l.invariant.who (turn_wrote p.law _ _ _ _ _ c.in-Going.ensures.turn.3 c.in-Going.ensures.turn.3.event refl));
      unsealed = seals_trans (t.who c.args.turns.now) (t.seen c.args.turns.now) (t.seen l.turns) (t.seen c.carry.new.turns) l.invariant.unsealed
          (seals_as _ _ _ _ l.invariant.who (turn_none p.law _ _ _ _ _ c.in-Going.ensures.turn.3 refl));
      idle = idle_then (t.who c.args.turns.now) (t.who l.turns) (t.seen c.args.turns.now) (t.seen l.turns) (t.seen c.carry.new.turns) l.invariant.who l.invariant.idle
          (turn_idles p.law _ _ _ _ _ c.in-Going.ensures.turn.3 refl refl (λ _. tt));
      calm = calm_then (t.who c.args.turns.now) (t.who l.turns) (t.seen c.args.turns.now) (t.seen l.turns) (t.seen c.carry.new.turns) l.invariant.who l.invariant.calm
          (turn_calm p.law _ _ _ _ _ c.in-Going.ensures.turn.3 tt);
      closes = operates_then (t.who c.args.turns.now) (t.who l.turns) (t.seen c.args.turns.now) (t.seen l.turns) (t.seen c.carry.new.turns) l.invariant.who l.invariant.closes
          (turn_keeps p.law (t.who l.turns) (t.seen l.turns) (Some (record { loglet = c.args.cell; ticket = c.args.ticket })) _ _ _ c.in-Going.ensures.turn.3 (refl, refl, refl));
      draws = drawn_then (t.who c.args.turns.now) (t.who l.turns) (t.seen c.args.turns.now) (t.seen l.turns) (t.seen c.carry.new.turns) l.invariant.who l.invariant.draws
          (turn_draws p.law (t.who l.turns) (t.seen l.turns) _ _ _ _ _ c.in-Going.ensures.turn.3 c.in-Going.ensures.turn.3.event c.in-Going.ensures.turn.1 c.in-Going.ensures.turn.2);
      own = λ r h.
          subst (λ x. IsOwn ((state_of (t.seen c.carry.new.turns)).cells c.args.cell) x c.args.ticket r) l.invariant.who
          (going_ok p.law (t.who l.turns) (t.seen l.turns) (t.seen c.carry.new.turns) c.args.cell c.args.ticket _ r l.invariant.later.legal c.in-Going.ensures.turn.3
          (subst (λ x. IsOwn ((state_of (t.seen l.turns)).cells c.args.cell) x c.args.ticket r) (sym l.invariant.who) (l.invariant.own r h))).0;
      still = λ alone.
          let turn = c.in-Going.ensures.turn.3 in
          let parts = own_split (t.who c.args.turns.now) (t.seen c.args.turns.now) (t.seen l.turns) (t.seen c.carry.new.turns) l.invariant.later.more (turn.others ++ turn.own) l.invariant.later.seen (turn.seen ∙ append_assoc (t.seen l.turns) turn.others turn.own) alone in
          still_trans (state_of (t.seen c.args.turns.now)) (state_of (t.seen l.turns)) (state_of (t.seen c.carry.new.turns)) (l.invariant.still parts.0)
          (going_still p.law (t.who l.turns) (t.seen l.turns) (t.seen c.carry.new.turns) c.args.cell c.args.ticket _ turn
          (subst (λ w. OnlyOwn w (t.seen l.turns) (t.seen c.carry.new.turns)) (sym l.invariant.who) parts.1));
    }

pub loop-answer-init : goal.loop-answer-init
loop-answer-init g c =
    let t = g.T.Turns in
    let p = g.T.Law.Rules in
    let old = t.seen c.args.turns.now in
    record {
      later = later_refl p.law old c.requires.legal;
      who = refl;
      own = λ r h. h;
      still = λ alone. still_refl (state_of old);
      quiet = wrote_refl (t.who c.args.turns.now) old (nil old);
      unsealed = seals_refl (t.who c.args.turns.now) old;
      idle = idle_refl (t.who c.args.turns.now) old;
      calm = calm_refl (t.who c.args.turns.now) old;
      closes = operates_refl (t.who c.args.turns.now) _ old;
      draws = drawn_refl (t.who c.args.turns.now) old;
    }

pub returns-in-Done-clause-unsealed : goal.returns-in-Done-clause-unsealed
returns-in-Done-clause-unsealed g c =
    let t = g.T.Turns in
    let p = g.T.Law.Rules in
    let l = c.loop-answer in
    seals_trans (t.who c.args.turns.now) (t.seen c.args.turns.now) (t.seen l.turns) (t.seen c.carry.new.turns) l.invariant.unsealed
    (seals_as _ _ _ _ l.invariant.who (turn_none p.law _ _ _ _ _ c.in-Done.ensures.turn.3 refl))

pub returns-in-Done-clause-draws : goal.returns-in-Done-clause-draws
returns-in-Done-clause-draws g c =
    let t = g.T.Turns in
    let p = g.T.Law.Rules in
    let l = c.loop-answer in
    drawn_then (t.who c.args.turns.now) (t.who l.turns) (t.seen c.args.turns.now) (t.seen l.turns) (t.seen c.carry.new.turns) l.invariant.who l.invariant.draws
    (turn_draws p.law (t.who l.turns) (t.seen l.turns) _ _ _ _ _ c.in-Done.ensures.turn.3 c.in-Done.ensures.turn.3.event c.in-Done.ensures.turn.1 c.in-Done.ensures.turn.2)

pub returns-in-Done-clause-calm : goal.returns-in-Done-clause-calm
returns-in-Done-clause-calm g c = λ is.
    let t = g.T.Turns in
    let p = g.T.Law.Rules in
    let l = c.loop-answer in
    calm_then (t.who c.args.turns.now) (t.who l.turns) (t.seen c.args.turns.now) (t.seen l.turns) (t.seen c.carry.new.turns) l.invariant.who l.invariant.calm
    (turn_calm p.law _ _ _ _ _ c.in-Done.ensures.turn.3 is)

pub unreachable-requires : goal.unreachable-requires
unreachable-requires g c =
    let t = g.T.Turns in
    let p = g.T.Law.Rules in
    let l = c.loop-answer in
    let r = c.requires.own.0 in
    carry_answers p.law (t.who l.turns) (t.seen l.turns) (t.seen c.carry.new.turns) c.args.cell c.args.ticket _ r _ l.invariant.later.legal
    (subst (λ k. IsOwn ((state_of (t.seen l.turns)).cells c.args.cell) k c.args.ticket r) (sym l.invariant.who) (l.invariant.own r c.requires.own.1))
    c.carry.ensures.turn.3 c.in_default.not-Done c.in_default.not-Going c.in_default.not-Memory

pub forget-requires : goal.forget-requires
forget-requires g c =
    let t = g.T.Turns in
    let p = g.T.Law.Rules in
    let l = c.loop-answer in
    let r = c.requires.own.0 in
    let mid = t.seen c.carry.new.turns in
    record {
      may = subst (λ w. MayTurn p.law w mid (Forget c.args.cell c.args.ticket)) (sym c.carry.ensures.who)
          (may_drop p.law (t.who l.turns) (t.seen l.turns) mid c.args.cell c.args.ticket r c.requires.cell l.invariant.later.legal
          (turn_later p.law _ _ _ _ _ c.in-Memory.ensures.turn.3)
          (subst (λ k. IsOwn ((state_of (t.seen l.turns)).cells c.args.cell) k c.args.ticket r) (sym l.invariant.who) (l.invariant.own r c.requires.own.1)));
    }

pub returns-in-Memory-clause-later : goal.returns-in-Memory-clause-later
returns-in-Memory-clause-later g c =
    let t = g.T.Turns in
    let p = g.T.Law.Rules in
    let l = c.loop-answer in
    later_trans p.law (t.seen c.args.turns.now) (t.seen c.carry.new.turns) (t.seen c.forget.new.turns)
    (later_trans p.law (t.seen c.args.turns.now) (t.seen l.turns) (t.seen c.carry.new.turns) l.invariant.later (turn_later p.law _ _ _ _ _ c.in-Memory.ensures.turn.3))
    c.forget.ensures.later

pub returns-in-Memory-clause-who : goal.returns-in-Memory-clause-who
returns-in-Memory-clause-who g c = c.forget.ensures.who ∙ (c.carry.ensures.who ∙ c.loop-answer.invariant.who)

pub returns-in-Memory-clause-unsealed : goal.returns-in-Memory-clause-unsealed
returns-in-Memory-clause-unsealed g c =
    let t = g.T.Turns in
    let p = g.T.Law.Rules in
    let l = c.loop-answer in
    seals_trans (t.who c.args.turns.now) (t.seen c.args.turns.now) (t.seen c.carry.new.turns) (t.seen c.forget.new.turns)
    (seals_trans (t.who c.args.turns.now) (t.seen c.args.turns.now) (t.seen l.turns) (t.seen c.carry.new.turns) l.invariant.unsealed
    (seals_as _ _ _ _ l.invariant.who (turn_none p.law _ _ _ _ _ c.in-Memory.ensures.turn.3 refl)))
    (seals_as _ _ _ _ (c.carry.ensures.who ∙ l.invariant.who) c.forget.ensures.unsealed)

pub returns-in-Memory-clause-spares : goal.returns-in-Memory-clause-spares
returns-in-Memory-clause-spares g c =
    let t = g.T.Turns in
    let p = g.T.Law.Rules in
    let l = c.loop-answer in
    spares_on (t.who c.args.turns.now) (t.who c.carry.new.turns) (t.seen c.args.turns.now) (t.seen c.carry.new.turns) (t.seen c.forget.new.turns) (c.carry.ensures.who ∙ l.invariant.who)
    (spares_then (t.who c.args.turns.now) (t.who l.turns) (t.seen c.args.turns.now) (t.seen l.turns) (t.seen c.carry.new.turns) l.invariant.who l.invariant.draws
    (turn_spares p.law (t.who l.turns) (t.seen l.turns) _ _ _ _ c.in-Memory.ensures.turn.3 c.in-Memory.ensures.turn.1 c.in-Memory.ensures.turn.2))
    c.forget.ensures.silent

pub returns-in-Memory-clause-memory : goal.returns-in-Memory-clause-memory
returns-in-Memory-clause-memory g c =
    let t = g.T.Turns in
    let p = g.T.Law.Rules in
    let l = c.loop-answer in
    calm_then (t.who c.args.turns.now) (t.who c.carry.new.turns) (t.seen c.args.turns.now) (t.seen c.carry.new.turns) (t.seen c.forget.new.turns) (c.carry.ensures.who ∙ l.invariant.who)
    (calm_then (t.who c.args.turns.now) (t.who l.turns) (t.seen c.args.turns.now) (t.seen l.turns) (t.seen c.carry.new.turns) l.invariant.who l.invariant.calm
    (turn_calm p.law _ _ _ _ _ c.in-Memory.ensures.turn.3 tt))
    c.forget.ensures.calm

pub returns-in-Done-clause-closes : goal.returns-in-Done-clause-closes
returns-in-Done-clause-closes g c =
    let t = g.T.Turns in
    let p = g.T.Law.Rules in
    let l = c.loop-answer in
    let turn = c.in-Done.ensures.turn.3 in
    operates_then (t.who c.args.turns.now) (t.who l.turns) (t.seen c.args.turns.now) (t.seen l.turns) (t.seen c.carry.new.turns) l.invariant.who l.invariant.closes
    (turn_hands p.law (t.who l.turns) (t.seen l.turns) (Some (record { loglet = c.args.cell; ticket = c.args.ticket })) None _ _ _ turn turn.event (refl, refl, refl))

pub returns-in-Memory-clause-left : goal.returns-in-Memory-clause-left
returns-in-Memory-clause-left g c =
    let t = g.T.Turns in
    let p = g.T.Law.Rules in
    let l = c.loop-answer in
    let o : Operation = record { loglet = c.args.cell; ticket = c.args.ticket } in
    let carried = operates_then (t.who c.args.turns.now) (t.who l.turns) (t.seen c.args.turns.now) (t.seen l.turns) (t.seen c.carry.new.turns) l.invariant.who l.invariant.closes
    (turn_keeps p.law (t.who l.turns) (t.seen l.turns) (Some o) _ _ _ c.in-Memory.ensures.turn.3 (refl, refl, refl)) in
    let left = turn_forgets p.law (t.who c.carry.new.turns) (t.seen c.carry.new.turns) o _ _ c.forget.ensures.turn.2 in
    (left.0, operates_then (t.who c.args.turns.now) (t.who c.carry.new.turns) (t.seen c.args.turns.now) (t.seen c.carry.new.turns) (t.seen c.forget.new.turns) (c.carry.ensures.who ∙ l.invariant.who) carried left.1)

pub returns-in-Done-clause-refused : goal.returns-in-Done-clause-refused
returns-in-Done-clause-refused g c = λ entry.
    let t = g.T.Turns in
    let p = g.T.Law.Rules in
    let l = c.loop-answer in
    carried_then (t.who c.args.turns.now) (t.who l.turns) entry (refused_by c.in-Done.answer) (t.seen c.args.turns.now) (t.seen l.turns) (t.seen c.carry.new.turns) l.invariant.who (l.invariant.idle entry)
    (turn_answers p.law _ _ _ _ _ _ _ entry c.in-Done.ensures.turn.3)

pub returns-in-Memory-clause-idle : goal.returns-in-Memory-clause-idle
returns-in-Memory-clause-idle g c =
    let t = g.T.Turns in
    let p = g.T.Law.Rules in
    let l = c.loop-answer in
    idle_then (t.who c.args.turns.now) (t.who c.carry.new.turns) (t.seen c.args.turns.now) (t.seen c.carry.new.turns) (t.seen c.forget.new.turns) (c.carry.ensures.who ∙ l.invariant.who)
    (idle_then (t.who c.args.turns.now) (t.who l.turns) (t.seen c.args.turns.now) (t.seen l.turns) (t.seen c.carry.new.turns) l.invariant.who l.invariant.idle
    (turn_idles p.law _ _ _ _ _ c.in-Memory.ensures.turn.3 refl refl (λ _. tt)))
    c.forget.ensures.idle
