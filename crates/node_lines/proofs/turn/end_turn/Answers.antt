use Rattle.std.proofs.Common.{◌≡◌, sym, subst, ⊎_elim, None}
use Rattle.base_engine.specs.Settling.{cause_in}
use Rattle.node_lines.specs.Lines.{failure_in}
use Rattle.node_lines.specs.Desks.{KeepsFrom}
use Rattle.node_lines.specs.Turns.{AllAnswered, ClosesIt}
use Rattle.node_lines.proofs.Moving.{none-before}
use Rattle.node_lines.proofs.Desks.{desk_moves}
use Rattle.node_lines.proofs.Turning.{answered_acted, desk_forgotten, kept_acted, was_at, same_at}
use Rattle.node_lines.proofs.turn.end_turn.Goals as goal

pub close_all-requires-clause-desks : goal.close_all-requires-clause-desks
close_all-requires-clause-desks g c = λ s d at.
    let p = g.T.Law.Rules in
    desk_moves p.law c.requires.floor c.args.node.now c.end_phase.new.node (failure_in c.in_ok-failed.failed) s d c.in_ok-failed.ensures.ends.moves (c.requires.desks s d at)

pub close_all-requires-clause-found : goal.close_all-requires-clause-found
close_all-requires-clause-found g c = λ none s d at free.
    let p = g.T.Law.Rules in
    let n = c.args.node.now in
    let m = c.end_phase.new.node in
    let e = c.in_ok-failed.ensures.ends in
    let ok = c.requires.desks s d at in
    let cause : cause_in s m.outbox.given ≡ None = subst (λ q. cause_in q m.outbox.given ≡ None) ok.session free.1 in
    let before = none-before p.law c.requires.floor n m (failure_in c.in_ok-failed.failed) s e.moves.goes cause in
    ⊎_elim
    (λ (keeps : KeepsFrom p.law n.replica.cursor). kept_acted p.law n m c.in_ok-failed.failed e keeps none s d.sent cause (ok.given free.0 before).1)
    (λ (all : AllAnswered n c.args.desks.now).
    let there = desk_moves p.law c.requires.floor n m (failure_in c.in_ok-failed.failed) s d e.moves ok in
    answered_acted p.law m s d e.moves.goes.keeps.later.legal there (all s d at (free.0, subst (λ q. cause_in q n.outbox.given ≡ None) (sym ok.session) before)))
    c.requires.keeps

pub returns : goal.returns
returns g c =
    let p = g.T.Law.Rules in
    let n = c.args.node.now in
    let m = c.end_phase.new.node in
    let e = c.in_ok-failed.ensures.ends in
    let f = c.in_ok-failed.ensures.follows.now in
    record {
      ends = record {
        mid = m;
        ends = e;
        forgets = c.next_phase.ensures;
        closes = c.in_ok-close_all.ensures.closes;
        desks = λ s d at.
            let all = c.in_ok-close_all.ensures.closes in
            let old = was_at c.args.desks.now c.close_all.new.desks s d all.size at in
            let one = all.each s old.0 old.1 in
            let same = same_at c.close_all.new.desks s one.desk d one.is at in
            desk_forgotten p.law c.requires.floor m c.next_phase.new.self c.in_ok-failed.failed s old.0 d e.moves.goes.keeps.later.legal c.next_phase.ensures e.none e.kept f.log f.size f.front
            (desk_moves p.law c.requires.floor n m (failure_in c.in_ok-failed.failed) s old.0 e.moves (c.requires.desks s old.0 old.1))
            (c.in_ok-close_all.ensures.desks s d at)
            (subst (ClosesIt m c.in_ok-failed.failed old.0) same one.closes)
            (c.requires.bound s old.0 old.1);
      };
    }
