use Rattle.turn_scopes.proofs.Trims.{others_trim}
use Rattle.turn_scopes.proofs.laws.own_reports_bound_every_trim.Goals as goal

pub returns : goal.returns
returns g c =
    let k = g.A.Law.Rules in
    let a = g.A.Access in
    let q = g.Q.Scope in
    λ nodes node m who is least most tells. others_trim k.law q.law.may nodes node m is least most tells (a.beside who)
