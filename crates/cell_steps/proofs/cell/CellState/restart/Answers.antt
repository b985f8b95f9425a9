use Rattle.std.proofs.Common.{arith, ap}
use Rattle.quorum_cell.specs.Cells.{Cell}
use Rattle.cell_steps.proofs.Bounds.{torn_fits}
use Rattle.cell_steps.proofs.cell.CellState.restart.Goals as goal

pub restart-requires : goal.restart-requires
restart-requires c =
    torn_fits c.args.self.now c.requires c.self.inside.servers.items (ap (λ (v : Cell). v.servers) c.self.view_is) c.args.server _ c.index_mut.result.now (omega (arith, c.if-len-server.false, c.len.ensures)) c.index_mut.ensures.value
