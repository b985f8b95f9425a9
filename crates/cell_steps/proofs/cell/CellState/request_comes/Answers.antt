use Rattle.std.proofs.Common.{◌≡◌, Some, sym, ◌∙◌}
use Rattle.std.specs.Prelude.{slice_get}
use Rattle.cell_steps.proofs.Bounds.{request_fits}
use Rattle.cell_steps.proofs.cell.CellState.request_comes.Goals as goal

pub serve-requires : goal.serve-requires
serve-requires c = request_fits c.args.self.now c.requires c.args.number c.in-Some.request (sym c.in_ok-request.ensures ∙ c.in-Some.is)

pub returns : goal.returns
returns c =
    let at : slice_get c.args.self.now.requests c.args.number ≡ Some c.in-Some.request = sym c.in_ok-request.ensures ∙ c.in-Some.is in
    rw at c.serve.ensures
