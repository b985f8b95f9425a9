use Rattle.std.proofs.Common.{rules, ◌≡◌, sym, ◌∙◌, subst}
use Rattle.std.specs.Prelude.{OnOk, ℕ, length}
use Rattle.pass_lock.specs.Pass.{whole}
use Rattle.node_course.specs.FaultLines.{HaveActed}
use Rattle.node_crew.specs.Crews.{CrewRests, CrewStands}
use Rattle.node_threads.proofs.Joining.{whole_rested, closed_same, rested_size}
use Rattle.node_threads.proofs.phases.play_phases.Goals as goal

pub play_in-answer-requires-clause-rested : goal.play_in-answer-requires-clause-rested
play_in-answer-requires-clause-rested g c κs within =
    let first : c.in-Ok.main ≡ whole c.in-Ok.lock = search rules in
    (whole_rested c.in-Ok.lock c.in-Ok.main first).1

pub play_in-answer-requires-clause-fresh : goal.play_in-answer-requires-clause-fresh
play_in-answer-requires-clause-fresh g c κs within =
    let first : c.in-Ok.main ≡ whole c.in-Ok.lock = search rules in
    subst (λ j. CrewRests g.K.Terms.law g.S.Replica.meaning c.args.lines.now c.args.faults.now 0 0 j c.args.crew.looks.items (λ w. w.seat) (λ w. w.desks.items) c.args.crew.workers.items)
    (c.requires.none ∙ sym (whole_rested c.in-Ok.lock c.in-Ok.main first).0) c.requires.fresh

pub play_in-answer-requires-clause-stands : goal.play_in-answer-requires-clause-stands
play_in-answer-requires-clause-stands g c κs within =
    let first : c.in-Ok.main ≡ whole c.in-Ok.lock = search rules in
    subst (λ j. CrewStands g.K.Terms.law g.S.Replica.meaning j (λ w. w.seat) c.args.crew.workers.items)
    (c.requires.none ∙ sym (whole_rested c.in-Ok.lock c.in-Ok.main first).0) c.requires.stands

pub close-fabric-requires-clause-all : goal.close-fabric-requires-clause-all
close-fabric-requires-clause-all g c = rested_size c.in-Ok.lock c.play_in-answer.new.main c.play_in-answer.ensures.rested

pub returns-in-Ok-clause-played : goal.returns-in-Ok-clause-played
returns-in-Ok-clause-played g c =
    let e = c.close-fabric.ensures in
    let same = closed_same c.in-Ok.lock c.play_in-answer.new.main c.close-fabric.result.fabric.journal c.play_in-answer.ensures.rested e.seen e.signed in
    let lines = c.args.lines.now in
    subst (λ j. OnOk c.play_in-answer.result ((phase : ℕ) × CrewRests g.K.Terms.law g.S.Replica.meaning lines c.args.faults.now (length lines) phase j c.play_in-answer.new.looks.items (λ w. w.seat) (λ w. w.desks.items) c.play_in-answer.new.workers.items)) (sym same) c.play_in-answer.ensures.played

pub returns-in-Ok-clause-stands : goal.returns-in-Ok-clause-stands
returns-in-Ok-clause-stands g c =
    let e = c.close-fabric.ensures in
    let same = closed_same c.in-Ok.lock c.play_in-answer.new.main c.close-fabric.result.fabric.journal c.play_in-answer.ensures.rested e.seen e.signed in
    subst (λ j. CrewStands g.K.Terms.law g.S.Replica.meaning j (λ w. w.seat) c.play_in-answer.new.workers.items) (sym same) c.play_in-answer.ensures.stands

pub returns-in-Err-clause-stands : goal.returns-in-Err-clause-stands
returns-in-Err-clause-stands g c =
    subst (λ d. CrewStands g.K.Terms.law g.S.Replica.meaning d.fabric.journal (λ w. w.seat) c.args.crew.workers.items) (sym c.in-Err.ensures.err) c.requires.stands

pub play_in-answer-requires-clause-none : goal.play_in-answer-requires-clause-none
play_in-answer-requires-clause-none g c κs within =
    let first : c.in-Ok.main ≡ whole c.in-Ok.lock = search rules in
    (whole_rested c.in-Ok.lock c.in-Ok.main first).0

pub returns-in-Ok-clause-acted : goal.returns-in-Ok-clause-acted
returns-in-Ok-clause-acted g c =
    let e = c.close-fabric.ensures in
    let same = closed_same c.in-Ok.lock c.play_in-answer.new.main c.close-fabric.result.fabric.journal c.play_in-answer.ensures.rested e.seen e.signed in
    subst (λ n. OnOk c.play_in-answer.result (HaveActed n c.args.faults.now 0 c.close-fabric.result.fabric.journal)) c.shelf_len-cells.ensures.len
    (subst (λ j. OnOk c.play_in-answer.result (HaveActed c.shelf_len-cells.result c.args.faults.now 0 j)) (sym same) c.play_in-answer.ensures.acted)
