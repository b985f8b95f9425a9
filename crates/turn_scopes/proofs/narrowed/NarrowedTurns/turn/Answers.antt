use Rattle.std.proofs.Common.{◌++◌, sym, subst}
use Rattle.legal_journal.specs.Journal.{state_of, IsLegal}
use Rattle.legal_journal.specs.Turns.{MayTurn, HasRight, IsTurn}
use Rattle.legal_journal.proofs.Legal.{legal_front}
use Rattle.turn_scopes.specs.Beside.{NarrowView, IsNarrow}
use Rattle.turn_scopes.proofs.Widening.{call_wider, legal_within, own_cases}
use Rattle.turn_scopes.proofs.Beside.{legal_beside, are_others, no_fault_by_right, since_more}
use Rattle.turn_scopes.proofs.Seals.{right_more}
use Rattle.turn_scopes.proofs.narrowed.NarrowedTurns.turn.Goals as goal

pub take-requires : goal.take-requires
take-requires g c =
    let k = g.A.Law.Rules in
    let a = g.A.Access in
    let q = g.Q.Scope in
    let s = c.self.inside in
    let i = c.self.invariant in
    let may = subst (λ (x : NarrowView). MayTurn q.law x.who x.seen c.args.call) (sym c.self.view_is) c.requires.may in
    record {
      may = record {
        behind = λ others between legal.
            call_wider q.law k.law i.narrows.narrower (state_of (a.seen s.access ++ others)) (a.who s.access) c.args.call
            (may others (are_others (a.who s.access) (a.beside (a.who c.self.inside.access)) (a.apart (a.who c.self.inside.access)) others between)
            (legal_beside k.law q.law i.narrows.narrower.shelf (a.beside (a.who c.self.inside.access)) i.narrows.others i.narrows.trims (a.seen s.access) others between i.legal legal));
      };
    }

pub invariant_of-self : goal.invariant_of-self
invariant_of-self g c =
    let k = g.A.Law.Rules in
    let a = g.A.Access in
    let q = g.Q.Scope in
    let s = c.self.inside in
    let i = c.self.invariant in
    let t = c.take.ensures.taken in
    let who = a.who s.access in
    let mid = a.seen s.access ++ t.others in
    let may = subst (λ (x : NarrowView). MayTurn q.law x.who x.seen c.args.call) (sym c.self.view_is) c.requires.may in
    let whole = subst (IsLegal k.law) t.seen t.legal in
    let front = legal_beside k.law q.law i.narrows.narrower.shelf (a.beside (a.who c.self.inside.access)) i.narrows.others i.narrows.trims (a.seen s.access) t.others t.between i.legal (legal_front k.law mid t.own whole) in
    let called = may t.others (are_others who (a.beside (a.who c.self.inside.access)) (a.apart (a.who c.self.inside.access)) t.others t.between) front in
    subst (λ w. IsNarrow q.law k.law a.beside q.seals q.who q.since w (a.seen c.take.new.self)) (sym c.take.ensures.who) (record {
      who_is = i.who_is;
      narrows = i.narrows;
      legal = legal_within q.law k.law i.narrows.narrower who c.args.call c.take.result mid t.own (a.seen c.take.new.self) front called t.event t.seen t.legal;
      since_is = since_more who (a.beside (a.who c.self.inside.access)) c.args.call c.take.result q.since (a.seen s.access) t.others t.own (a.seen c.take.new.self) i.since_is t.between
          (no_fault_by_right q.seals who c.args.call (subst (λ (x : NarrowView). HasRight q.seals x.who c.args.call) (sym c.self.view_is) c.requires.right))
          (own_cases q.law k.law i.narrows.narrower who c.args.call c.take.result t.own t.event) t.seen;
      right = right_more q.seals who c.args.call c.take.result q.since (a.seen s.access) t.others t.own (a.seen c.take.new.self) i.right
          (are_others who (a.beside (a.who c.self.inside.access)) (a.apart (a.who c.self.inside.access)) t.others t.between) (subst (λ (x : NarrowView). HasRight q.seals x.who c.args.call) (sym c.self.view_is) c.requires.right)
          (own_cases q.law k.law i.narrows.narrower who c.args.call c.take.result t.own t.event) t.seen;
    })

pub returns-clause-turn : goal.returns-clause-turn
returns-clause-turn g c =
    let k = g.A.Law.Rules in
    let a = g.A.Access in
    let q = g.Q.Scope in
    let s = c.self.inside in
    let i = c.self.invariant in
    let t = c.take.ensures.taken in
    let who = a.who s.access in
    let mid = a.seen s.access ++ t.others in
    let may = subst (λ (x : NarrowView). MayTurn q.law x.who x.seen c.args.call) (sym c.self.view_is) c.requires.may in
    let whole = subst (IsLegal k.law) t.seen t.legal in
    let front = legal_beside k.law q.law i.narrows.narrower.shelf (a.beside (a.who c.self.inside.access)) i.narrows.others i.narrows.trims (a.seen s.access) t.others t.between i.legal (legal_front k.law mid t.own whole) in
    let called = may t.others (are_others who (a.beside (a.who c.self.inside.access)) (a.apart (a.who c.self.inside.access)) t.others t.between) front in
    subst (λ (x : NarrowView). IsTurn q.law x.who x.seen c.args.call c.take.result (a.seen c.take.new.self)) c.self.view_is (record {
      others = t.others;
      own = t.own;
      apart = are_others who (a.beside (a.who c.self.inside.access)) (a.apart (a.who c.self.inside.access)) t.others t.between;
      event = t.event;
      seen = t.seen;
      legal = legal_within q.law k.law i.narrows.narrower who c.args.call c.take.result mid t.own (a.seen c.take.new.self) front called t.event t.seen t.legal;
    })
