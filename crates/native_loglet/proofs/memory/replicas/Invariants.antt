use Rattle.std.proofs.Common.{◌≡◌, true, length, All}
use Rattle.log_server.specs.View.{View, Survives}
use Rattle.quorum_cell.specs.Cells.{no_server}
use Rattle.native_loglet.specs.Natives.{IsNew}
use Rattle.native_loglet.proofs.memory.replicas.Given as goal

abbrev pub invariant-loop-index : goal.invariant-loop-index
invariant-loop-index l = (length l.replicas.items ≡ l._index) × All (λ (v : View). v.server ≡ record no_server { up = true }) l.replicas.items × All Survives l.replicas.items × All IsNew l.replicas.items
