use Rattle.std.proofs.Common.{◌≡◌, ◌<◌, ◌≤◌, ◌^◌, arith, rules}
use Rattle.std.specs.Prelude.{IfOk}
use Rattle.engine_api.specs.Packing as packing
use Rattle.engine_api.proofs.Packed.{content_of-session, proposable-session, ok_item}
use Rattle.engine_api.proofs.pack.session_item.Goals as goal

pub returns-clause-says : goal.returns-clause-says
returns-clause-says c =
    let made : IfOk c.item_under.result (λ item. item ≡ packing.session_item c.args.session c.args.rank c.args.command.now) = search rules in
    let low : c.args.session ≤ 63 = omega arith in
    let one : 1 ≤ c.args.rank = omega arith in
    let small : c.args.rank < 2 ^ 64 = omega arith in
    ok_item c.item_under.result _ _ (content_of-session c.args.session c.args.rank c.args.command.now low one small c.requires.spellable) made

pub returns-clause-proposable : goal.returns-clause-proposable
returns-clause-proposable c =
    let made : IfOk c.item_under.result (λ item. item ≡ packing.session_item c.args.session c.args.rank c.args.command.now) = search rules in
    let low : c.args.session ≤ 63 = omega arith in
    let one : 1 ≤ c.args.rank = omega arith in
    let small : c.args.rank < 2 ^ 64 = omega arith in
    ok_item c.item_under.result _ _ (proposable-session c.args.session c.args.rank c.args.command.now low one small c.requires.spellable c.requires.small) made
