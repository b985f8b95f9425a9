use Rattle.std.proofs.Common.{◌≡◌, ◌++◌, ◌∷◌, [], ap, ◌∙◌, subst, Some}
use Rattle.table_core.specs.Find.{pairs_between}
use Rattle.base_engine.specs.Querying.{table_in, IsNextPair}
use Rattle.base_engine.proofs.Scanning.{scan_on}
use Rattle.base_engine.proofs.read.scan.Goals as goal

pub pair-preserved : goal.pair-preserved
pair-preserved g c =
    let m = (g.R.Replica.shows c.args.replica.now).contents in
    let t = table_in m in
    let high = c.args.high.now in
    let from = c.pair.from in
    let done = c.pair.pairs.items in
    let p = c.in-Some.pair in
    let next : IsNextPair m from high (Some p) = subst (IsNextPair m from high) c.in-Some.is c.in_ok-pair.ensures in
    ap (λ xs. xs ++ pairs_between t c.in_ok-from-2.from high) c.in_ok-push.ensures.items
    ∙ (ap (λ q. (done ++ p ∷ []) ++ pairs_between t q high) c.in_ok-from-2.ensures
    ∙ scan_on m from high p done (pairs_between t c.args.low.now high) next c.pair.invariant)
