use Rattle.std.proofs.Common.{ℕ, Option, IfNone, ◌∙◌, sym, subst}
use Rattle.virtual_log.specs.Underway.{IsGoing, StaysGoing}
use Rattle.worked_nodes.proofs.both.carry.Goals as goal

pub returns-in-Ok-Some-clause-others : goal.returns-in-Ok-Some-clause-others
returns-in-Ok-Some-clause-others g c = λ early other h apart.
    let may = g.T.Law.Rules.law.may in
    let l = c.turn in
    let new = c.go_on.new.self in
    let x = l.invariant.others early other h apart in
    let y = c.go_on.ensures.others early other (subst (λ w. IsGoing may w early l.log.seen l.log.chain other) (sym l.invariant.who) x.0) x.1 in
    subst (λ w. IsGoing may w early new.seen new.chain other) l.invariant.who y.0

pub returns-in-Err-clause-others : goal.returns-in-Err-clause-others
returns-in-Err-clause-others g c = λ early other h apart.
    let may = g.T.Law.Rules.law.may in
    let l = c.turn in
    let new = c.go_on.new.self in
    let x = l.invariant.others early other h apart in
    let y = c.go_on.ensures.others early other (subst (λ w. IsGoing may w early l.log.seen l.log.chain other) (sym l.invariant.who) x.0) x.1 in
    subst (λ w. IsGoing may w early new.seen new.chain other) l.invariant.who y.0

pub turn-preserved : goal.turn-preserved
turn-preserved g c =
    let may = g.T.Law.Rules.law.may in
    let l = c.turn in
    let new = c.go_on.new.self in
    let early = l.invariant.going.0 in
    let stays = subst (λ (o : Option ℕ). IfNone o (StaysGoing may l.log.who l.log.seen l.log.chain l.going new.seen new.chain c.go_on.new.going)) c.in-Ok-None.field-0-is c.in-Ok-None.ensures.going in
    record {
      who = c.go_on.ensures.who ∙ l.invariant.who;
      going = (early, subst (λ w. IsGoing may w early new.seen new.chain c.go_on.new.going) (sym c.go_on.ensures.who) (stays early l.invariant.going.1));
      others = λ early other h apart.
          let x = l.invariant.others early other h apart in
          let y = c.go_on.ensures.others early other (subst (λ w. IsGoing may w early l.log.seen l.log.chain other) (sym l.invariant.who) x.0) x.1 in
          (subst (λ w. IsGoing may w early new.seen new.chain other) l.invariant.who y.0, y.1);
    }

pub returns-clause-others : goal.returns-clause-others
returns-clause-others g c = λ early other h apart. (c.turn.invariant.others early other h apart).0
