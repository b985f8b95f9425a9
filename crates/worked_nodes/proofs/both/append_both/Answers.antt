use Rattle.std.proofs.Common.{sym, subst}
use Rattle.virtual_log.specs.Underway.{IsGoing}
use Rattle.worked_nodes.proofs.both.append_both.Goals as goal

pub carry-requires-2 : goal.carry-requires-2
carry-requires-2 g c =
    let may = g.T.Law.Rules.law.may in
    let first = c.in_ok-first.first in
    let log = c.begin-2.new.log in
    let new = c.carry.new.log in
    let early = c.in_ok-first.ensures.going.0 in
    let begun = c.in_ok-second.ensures.others early first c.in_ok-first.ensures.going.1 in
    let kept = c.carry.ensures.others early first (subst (λ w. IsGoing may w early log.seen log.chain first) (sym c.begin-2.ensures.who) begun.0) begun.1 in
    record { going = (early, subst (λ w. IsGoing may w early new.seen new.chain first) (sym c.carry.ensures.who) kept) }
