use Rattle.std.proofs.Common.{◌≡◌, ℕ, ◌<◌, Some}
use Rattle.std.specs.Prelude.{slice_get}
use Rattle.loglet_api.specs.Sound.{IsSound}
use Rattle.crew_run.proofs.run.know_all.Given as goal

abbrev pub invariant-loop-cell : goal.invariant-loop-cell
invariant-loop-cell g l = (k : ℕ) (x : g.row.L.Denot) → k < l.cell-index → slice_get l.cells k ≡ Some x → IsSound (g.L.Loglet.view x)
