use Rattle.std.proofs.Common.{ℕ, subst, ◌∙◌, List}
use Rattle.legal_journal.specs.Journal.{IsLegal}
use Rattle.world_steps.specs.Parts.{fresh}
use Rattle.world_steps.specs.Steps.{run_world}
use Rattle.world_steps.proofs.Stepped.{run_goes}
use Rattle.world_steps.proofs.Fresh.{fresh_law, fresh_shelf}
use Rattle.world_steps.proofs.laws.events_are_legal.Goals as goal

pub returns-clause-legal : goal.returns-clause-legal
returns-clause-legal g c = λ shapes nodes steps shelf keeps.
    let goes = run_goes g.P.Rules.law.may g.P.Rules.law.floor steps (fresh shapes nodes) (fresh_law g.P.Rules.law.may g.P.Rules.law.floor shapes nodes shelf) keeps in
    subst (λ (s : List ℕ). IsLegal (record g.P.Rules.law { shelf = s }) (run_world steps (fresh shapes nodes)).events) (goes.shelf ∙ fresh_shelf shapes nodes) goes.law.legal

pub returns-clause-told : goal.returns-clause-told
returns-clause-told g c = λ shapes nodes steps shelf keeps.
    (run_goes g.P.Rules.law.may g.P.Rules.law.floor steps (fresh shapes nodes) (fresh_law g.P.Rules.law.may g.P.Rules.law.floor shapes nodes shelf) keeps).law
