use Rattle.std.proofs.Common.{refl}
use Rattle.std.specs.Prelude.{◌++◌}
use Rattle.node_course.proofs.Asked.{behind_joined}
use Rattle.node_course.proofs.stability.what_is_told_stands_behind.Goals as goal

pub returns : goal.returns
returns g c = let p = g.P.Rules in λ run lines looks old more legal was tells.
    behind_joined p.law run lines looks old (old ++ more) more refl legal was tells
