use Rattle.std.proofs.Common.{sym, subst}
use Rattle.legal_journal.specs.Journal.{IsLegal}
use Rattle.journal_laws.proofs.Changes.{legal_by}
use Rattle.journal_laws.proofs.appending.other_rules_let_it.Goals as goal

pub returns : goal.returns
returns g c =
    let p = g.P.Rules in
    let q = g.Q.Rules in
    λ events legal may floor shelf. subst (λ s. IsLegal (record q.law { shelf = s }) events) (sym shelf) (legal_by p.law q.law.may q.law.floor events legal may floor)
