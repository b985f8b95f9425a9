use Rattle.std.proofs.Common.{◌≡◌, refl, subst, None, arith}
use Rattle.node_lines.specs.Lines.{failure_in}
use Rattle.node_lines.specs.Moving.{Moves, CarriesFirst}
use Rattle.node_lines.proofs.Desks.{desk_moves}
use Rattle.node_lines.proofs.Turning.{answers_whole}
use Rattle.node_lines.proofs.turn.answer_all.Goals as goal

pub collect_all-requires-clause-desks : goal.collect_all-requires-clause-desks
collect_all-requires-clause-desks g c = λ s d at.
    let p = g.T.Law.Rules in
    desk_moves p.law c.requires.floor c.args.node.now c.end_phase.new.node (failure_in c.in_ok-failed.failed) s d c.in_ok-failed.ensures.ends.moves (c.requires.desks s d at)

pub returns-in-Some : goal.returns-in-Some
returns-in-Some g c =
    let p = g.T.Law.Rules in
    let n = c.args.node.now in
    let m = c.end_phase.new.node in
    let e = c.in_ok-failed.ensures.ends in
    record {
      answers = record {
        moves = subst (λ f. Moves p.law n m (failure_in f)) c.in-Some.is e.moves;
        first = subst (λ f. CarriesFirst p.law n m (failure_in f)) c.in-Some.is e.first;
        none = e.none;
        unsettled = e.unsettled;
        kept = e.kept;
        desks = λ s d at. desk_moves p.law c.requires.floor n m (failure_in c.in_ok-failed.failed) s d e.moves (c.requires.desks s d at);
        size = refl;
        takes = λ s d at. (d, at, refl, omega arith);
        answered = λ none. absurd (cc);
      };
    }

pub returns : goal.returns
returns g c =
    let p = g.T.Law.Rules in
    let n = c.args.node.now in
    let m = c.end_phase.new.node in
    let e = c.in_ok-failed.ensures.ends in
    let t = c.in_ok-collect_all.ensures.takes in
    let failed : c.in_ok-failed.failed ≡ None = c.in_default.is in
    let w = answers_whole p.law c.requires.floor g.R.Replica.meaning.state n m c.in_ok-failed.failed c.args.desks.now c.collect_all.new.desks e failed c.requires.keeps c.requires.desks c.in_ok-failed.ensures.follows.now t c.in_ok-collect_all.ensures.desks in
    record {
      answers = record {
        moves = subst (λ f. Moves p.law n m (failure_in f)) failed e.moves;
        first = subst (λ f. CarriesFirst p.law n m (failure_in f)) failed e.first;
        none = e.none;
        unsettled = e.unsettled;
        kept = e.kept;
        desks = c.in_ok-collect_all.ensures.desks;
        size = t.size;
        takes = w.0;
        answered = λ none. w.1;
      };
    }
