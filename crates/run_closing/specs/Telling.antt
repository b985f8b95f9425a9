-- What rows tell of a look.
use Rattle.node_lines.specs.declared.lines.Looked.{Looked}
use Rattle.node_lines.specs.declared.lines.Looked.TheVariants as looked
use Rattle.row_text.specs.declared.row.Outcome.{Outcome}
use Rattle.row_text.specs.declared.row.Outcome.TheVariants as out
use Rattle.virtual_log.specs.declared.extend.Extension.TheVariants.{Extended, Moved, NoSpare}

abbrev pub outcome_by : Looked → Outcome
outcome_by (looked.Found after found) = out.Read after found
outcome_by (looked.Kept cause) = out.Open cause
outcome_by (looked.Failed cause) = out.Open cause
outcome_by (looked.Extended (Extended version start)) = out.Extended version start
outcome_by (looked.Extended (Moved version)) = out.Moved version
outcome_by (looked.Extended NoSpare) = out.NoSpare
outcome_by (looked.Reported clean) = out.Alive clean
outcome_by looked.Left = out.Retired
outcome_by (looked.Trimmed trim) = out.Trimmed trim
