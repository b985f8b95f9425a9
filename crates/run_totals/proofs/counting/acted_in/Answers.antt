use Rattle.std.proofs.Common.{rules, ◌∙◌, tests}
use Rattle.std.proofs.lemmas.Iterator.{YieldsList-from_slice}
use Rattle.std.proofs.lemmas.Iterator.Consumers.{count_from_yields_List, YieldsList-from_filter}
use Rattle.std.proofs.lemmas.List.Sums.{length-filter}
use Rattle.row_text.specs.declared.row.Row.{Row}
use Rattle.run_totals.specs.Totals.{is_placed}
use Rattle.run_totals.proofs.counting.acted_in.Goals as goal

pub returns : goal.returns
returns c =
    count_from_yields_List c.filter.result _ c.count.ensures.ran (YieldsList-from_filter _ (λ (r : Row). is_placed r.outcome) (YieldsList-from_slice c.args.rows.now (cc)) c.filter.ensures.closure (λ x r q k. search (rules, tests))) ∙ length-filter (λ (r : Row). is_placed r.outcome) c.args.rows.now
