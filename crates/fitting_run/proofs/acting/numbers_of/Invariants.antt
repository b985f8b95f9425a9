use Rattle.std.proofs.Common.{◌≡◌, ◌≤◌, ℕ, take, length, slice_index}
use Rattle.fitting_run.specs.Turns.{AreNumbers}
use Rattle.fitting_run.proofs.acting.numbers_of.Given as goal

abbrev pub invariant-loop-act : goal.invariant-loop-act
invariant-loop-act l = AreNumbers l.numbers (take l.act-index l.acts) × (length l.numbers ≡ 64) × ((s : ℕ) → slice_index l.numbers s ≤ l.act-index)
