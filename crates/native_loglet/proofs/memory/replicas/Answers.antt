use Rattle.std.proofs.Common.{◌≡◌, true, sym, subst, arith, List, length, ap}
use Rattle.std.specs.Prelude.{All}
use Rattle.std.proofs.lemmas.List.{length_push}
use Rattle.std.proofs.lemmas.List.Elements.{All-push}
use Rattle.log_server.specs.View.{View, Survives}
use Rattle.quorum_cell.specs.Cells.{no_server}
use Rattle.native_loglet.specs.Natives.{IsNew}
use Rattle.native_loglet.proofs.memory.replicas.Goals as goal

pub loop-index-preserved : goal.loop-index-preserved
loop-index-preserved c = (
  omega (arith, ap (λ (vs : List View). length vs) c.in_ok-push.ensures.items, length_push c.loop-index.replicas.items c.in_ok-replica.field-0, c.loop-index.invariant.0),
  rw c.in_ok-push.ensures.items (All-push (λ (v : View). v.server ≡ record no_server { up = true }) c.loop-index.replicas.items c.in_ok-replica.field-0 c.loop-index.invariant.1 c.in_ok-replica.ensures.fresh),
  subst (λ (vs : List View). All Survives vs) (sym c.in_ok-push.ensures.items) (All-push Survives c.loop-index.replicas.items c.in_ok-replica.field-0 c.loop-index.invariant.2 c.in_ok-replica.ensures.disk),
  subst (λ (vs : List View). All IsNew vs) (sym c.in_ok-push.ensures.items) (All-push IsNew c.loop-index.replicas.items c.in_ok-replica.field-0 c.loop-index.invariant.3 c.in_ok-replica.ensures.new),
)
