use Rattle.std.proofs.Common.{◌≡◌, sym, ◌∙◌, count_by, rules}
use Rattle.std.proofs.lemmas.List.Sums.{length-filter}
use Rattle.script_text.specs.declared.asks.NamedLine.{NamedLine}
use Rattle.fitting_run.specs.Answered.{has_row}
use Rattle.fitting_run.proofs.fitting.rows_asked_for.Goals as goal

pub returns : goal.returns
returns c =
    let counted : c.count.result ≡ count_by (λ (l : NamedLine). has_row l.asks) c.args.lines.now = search rules in
    counted ∙ sym (length-filter (λ (l : NamedLine). has_row l.asks) c.args.lines.now)
