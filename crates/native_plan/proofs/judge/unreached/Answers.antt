use Rattle.std.proofs.Common.{rules, ◌∙◌, tests}
use Rattle.std.proofs.lemmas.Iterator.{YieldsList-from_slice}
use Rattle.std.proofs.lemmas.Iterator.Consumers.{count_from_yields_List, YieldsList-from_filter}
use Rattle.std.proofs.lemmas.List.Sums.{length-filter}
use Rattle.native_plan.specs.Members.{is_unreached}
use Rattle.native_plan.proofs.judge.unreached.Goals as goal

pub returns : goal.returns
returns c =
    count_from_yields_List c.filter.result _ c.count.ensures.ran (YieldsList-from_filter _ is_unreached (YieldsList-from_slice c.args.members.now (cc)) c.filter.ensures.closure (λ x r q k. search (rules, tests))) ∙ length-filter is_unreached c.args.members.now
