use Rattle.std.proofs.Common.{rules, ◌≡◌, ◌+◌, ◌-◌, ◌%◌, true, sym, ◌∙◌, subst, arith}
use Rattle.turn_scopes.specs.Beside.{IsTaken}
use Rattle.legal_journal.specs.declared.events.FabricCall.TheVariants.{Stray}
use Rattle.node_course.specs.FaultLines.{strays_from}
use Rattle.node_threads.proofs.Stirring.{Stirring, all_stirred, strays_first, strays_next, strays_over, stirs_more, stirs_no_more, stirs_none}
use Rattle.node_threads.proofs.stirrer.stir.Goals as goal

pub loop-i-init : goal.loop-i-init
loop-i-init g c =
    let all = strays_from c.args.cells 0 c.args.turns in
    let j = g.A.Access.seen c.args.access.now in
    record {
      who = c.requires.who;
      stirring = subst (λ left. Stirring all left j j) (sym (strays_first c.args.cells c.args.turns)) (stirs_none all j);
    }

pub returns-then-not-is_made-clause-stirred : goal.returns-then-not-is_made-clause-stirred
returns-then-not-is_made-clause-stirred g c =
    let law = g.A.Law.Rules.law in
    let l = c.loop-i in
    let i = l.invariant in
    let cells = c.args.cells in
    let turns = c.args.turns in
    let now = g.A.Access.seen l.access in
    let new = g.A.Access.seen c.take-answer.new.self in
    let answer = c.take-answer.result in
    let t = subst (λ n. IsTaken law (g.A.Access.beside n) n now (Stray (l.i % cells) l.i) answer new) i.who c.take-answer.ensures.taken in
    stirs_no_more law (g.A.Access.beside 0) (g.A.Access.apart 0) (strays_from cells 0 turns) (strays_from cells (l.i + 1) (turns - (l.i + 1))) (l.i % cells) l.i answer (g.A.Access.seen c.args.access.now) now new c.is_made.result c.is_made.ensures t
    (strays_from cells l.i (turns - l.i)) (strays_next cells l.i turns (omega (arith, c.loop-i-test.true))) i.stirring

pub loop-i-preserved : goal.loop-i-preserved
loop-i-preserved g c =
    let law = g.A.Law.Rules.law in
    let l = c.loop-i in
    let i = l.invariant in
    let cells = c.args.cells in
    let turns = c.args.turns in
    let now = g.A.Access.seen l.access in
    let new = g.A.Access.seen c.take-answer.new.self in
    let answer = c.take-answer.result in
    let t = subst (λ n. IsTaken law (g.A.Access.beside n) n now (Stray (l.i % cells) l.i) answer new) i.who c.take-answer.ensures.taken in
    let so : c.is_made.result ≡ true = search rules in
    record {
      who = c.take-answer.ensures.who ∙ i.who;
      stirring = stirs_more law (g.A.Access.beside 0) (g.A.Access.apart 0) (strays_from cells 0 turns) (strays_from cells (l.i + 1) (turns - (l.i + 1))) (l.i % cells) l.i answer (g.A.Access.seen c.args.access.now) now new c.is_made.result c.is_made.ensures t
          (strays_from cells l.i (turns - l.i)) (strays_next cells l.i turns (omega (arith, c.loop-i-test.true))) i.stirring so;
    }

pub returns-clause-stirred : goal.returns-clause-stirred
returns-clause-stirred g c =
    let l = c.loop-i in
    let cells = c.args.cells in
    let turns = c.args.turns in
    all_stirred (strays_from cells 0 turns) (strays_from cells l.i (turns - l.i)) (g.A.Access.seen c.args.access.now) (g.A.Access.seen l.access) (strays_over cells l.i turns (omega (arith, c.loop-i-test.false))) l.invariant.stirring
