use Rattle.std.proofs.Common.{◌≡◌, ◌<◌, ◌^◌, arith, rules}
use Rattle.std.specs.Prelude.{IfOk}
use Rattle.engine_api.specs.Packing as packing
use Rattle.engine_api.proofs.Packed.{content_of-trim, proposable-trim, ok_item}
use Rattle.engine_api.proofs.pack.trim_item.Goals as goal

pub returns-clause-says : goal.returns-clause-says
returns-clause-says c =
    let made : IfOk c.item_under.result (λ item. item ≡ packing.trim_item c.args.position) = search rules in
    let small : c.args.position < 2 ^ 64 = omega arith in
    ok_item c.item_under.result _ _ (content_of-trim c.args.position small) made

pub returns-clause-proposable : goal.returns-clause-proposable
returns-clause-proposable c =
    let made : IfOk c.item_under.result (λ item. item ≡ packing.trim_item c.args.position) = search rules in
    let small : c.args.position < 2 ^ 64 = omega arith in
    ok_item c.item_under.result _ _ (proposable-trim c.args.position small) made
