use Rattle.std.proofs.Common.{◌≡◌, [], ◌∷◌, sym, ap, ◌∙◌, subst}
use Rattle.std.specs.Prelude.{OnOk}
use Rattle.node_course.specs.FaultLines.{call_by}
use Rattle.node_threads.specs.Outset.{CanBegin, MakesCalls, as_list}
use Rattle.node_threads.specs.Passes.{journal_of}
use Rattle.node_threads.proofs.Beginning.{goes_none, makes_none}
use Rattle.node_threads.proofs.Faults.{AreFaults, by_fault}
use Rattle.node_threads.proofs.outset.begin_line.Goals as goal

pub act-requires-clause-there : goal.act-requires-clause-there
act-requires-clause-there g c =
    let is : c.in-Some.call ∷ [] ≡ call_by c.args.line.now.number c.args.line.now.asks = c.in-Some.ensures in
    (subst (CanBegin g.P.Rules.law.shelf) (sym is) c.requires.there).0

pub act-requires-clause-acts : goal.act-requires-clause-acts
act-requires-clause-acts g c =
    let is : c.in-Some.call ∷ [] ≡ call_by c.args.line.now.number c.args.line.now.asks = c.in-Some.ensures in
    (subst AreFaults (sym is) (by_fault c.args.line.now.number c.args.line.now.asks)).0

pub returns-clause-made : goal.returns-clause-made
returns-clause-made g c =
    let is : c.in-Some.call ∷ [] ≡ call_by c.args.line.now.number c.args.line.now.asks = c.in-Some.ensures in
    subst (λ cs. OnOk c.act.result (MakesCalls cs (journal_of c.args.main.now) (journal_of c.act.new.main))) is c.act.ensures.made

pub returns-in_default-clause-made : goal.returns-in_default-clause-made
returns-in_default-clause-made g c =
    let is : [] ≡ call_by c.args.line.now.number c.args.line.now.asks = ap as_list (sym c.in_default.is) ∙ c.call_of.ensures in
    subst (λ cs. MakesCalls cs (journal_of c.args.main.now) (journal_of c.args.main.now)) is (makes_none (journal_of c.args.main.now))

pub returns-in_default-clause-goes : goal.returns-in_default-clause-goes
returns-in_default-clause-goes g c = goes_none g.P.Rules.law (journal_of c.args.main.now)
