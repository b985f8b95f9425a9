-- What each line, and the end of a phase, leaves of what stops chose: nothing but a stop arms the node's disk.
use Rattle.std.proofs.Common.{sym, subst, ℕ, List, Option}
use Rattle.delos_types.specs.declared.cause.Cause.{Cause}
use Rattle.table_core.specs.declared.command.Query.{Query}
use Rattle.legal_journal.specs.Law.{Law}
use Rattle.base_engine.specs.Arming.{LeavesArming}
use Rattle.base_engine.specs.Node.{NodeView}
use Rattle.node_lines.specs.declared.desk.Desk.{Desk}
use Rattle.node_lines.specs.declared.lines.Looked.{Looked}
use Rattle.node_lines.specs.Lines.{Looks}
use Rattle.node_lines.specs.Extending.{Extends}
use Rattle.node_lines.specs.Reporting.{Reports}
use Rattle.node_lines.specs.Leaving.{Leaves}
use Rattle.node_lines.specs.Trimming.{TrimsLog}
use Rattle.node_lines.specs.Turns.{EndsTurn}
use Rattle.node_lines.specs.Workers.{Logs}

module _ (law : Law) (old new : NodeView) where
  pub logs_arms : (s : ℕ) (was is : List Desk) → Logs law old new s was is → LeavesArming 0 old.replica new.replica
  logs_arms s was is h = h.logs.goes.arming

  pub looks_arms : (d : Desk) (query : Query) (l : Looked) → Looks law old new d query l → LeavesArming 0 old.replica new.replica
  looks_arms d query l h = h.moves.goes.arming

  pub extends_arms : (l : Looked) → Extends law old new l → LeavesArming 0 old.replica new.replica
  extends_arms l h = h.moves.goes.arming

  pub reports_arms : (l : Looked) → Reports law old new l → LeavesArming 0 old.replica new.replica
  reports_arms l h = h.moves.goes.arming

  pub leaves_arms : (l : Looked) → Leaves law old new l → LeavesArming 0 old.replica new.replica
  leaves_arms l h = h.moves.goes.arming

  pub trims_arms : (l : Looked) → TrimsLog law old new l → LeavesArming 0 old.replica new.replica
  trims_arms l h = h.moves.goes.arming

  pub ends_arms : (was is : List Desk) (failed : Option Cause) → EndsTurn law old new was is failed → LeavesArming 0 old.replica new.replica
  ends_arms was is failed h = subst (λ (n : NodeView). LeavesArming 0 old.replica n.replica) (sym h.forgets) h.ends.moves.goes.arming
