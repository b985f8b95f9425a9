use Rattle.std.proofs.Common.{◌≡◌, ◌≤◌, arith, rules}
use Rattle.std.specs.Prelude.{IfOk}
use Rattle.engine_api.specs.Packing as packing
use Rattle.engine_api.proofs.Packed.{content_of-leave, proposable-leave, ok_item}
use Rattle.engine_api.proofs.pack.leave_item.Goals as goal

pub returns-clause-says : goal.returns-clause-says
returns-clause-says c =
    let made : IfOk c.item_under.result (λ item. item ≡ packing.leave_item c.args.node) = search rules in
    let low : 1 ≤ c.args.node = omega arith in
    let high : c.args.node ≤ 8 = omega arith in
    ok_item c.item_under.result _ _ (content_of-leave c.args.node low high) made

pub returns-clause-proposable : goal.returns-clause-proposable
returns-clause-proposable c =
    let made : IfOk c.item_under.result (λ item. item ≡ packing.leave_item c.args.node) = search rules in
    let low : 1 ≤ c.args.node = omega arith in
    let high : c.args.node ≤ 8 = omega arith in
    ok_item c.item_under.result _ _ (proposable-leave c.args.node low high) made
