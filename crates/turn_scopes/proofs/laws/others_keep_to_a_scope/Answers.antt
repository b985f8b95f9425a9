use Rattle.turn_scopes.proofs.Beside.{legal_beside}
use Rattle.turn_scopes.proofs.laws.others_keep_to_a_scope.Goals as goal

pub returns : goal.returns
returns g c =
    let k = g.A.Law.Rules in
    let a = g.A.Access in
    let q = g.Q.Scope in
    λ who same may trims seen others beside legal now. legal_beside k.law q.law same (a.beside who) may trims seen others beside legal now
