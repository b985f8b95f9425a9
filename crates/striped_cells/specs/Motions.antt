-- What moves in a cell that is nobody's call.
use Rattle.std.specs.Prelude.{Bool, true, false}
use Rattle.loglet_api.specs.declared.call.Op.{Op}
use Rattle.loglet_api.specs.declared.call.Op.TheVariants.{Append, Settle, Tail, Seal, Read, Trim}
use Rattle.quorum_cell.specs.declared.operation.Aim.{Aim}
use Rattle.quorum_cell.specs.declared.operation.Aim.TheVariants.{Append as AimAppend, Settle as AimSettle, Tail as AimTail, Seal as AimSeal, Read as AimRead, Trim as AimTrim}
use Rattle.quorum_cell.specs.declared.operation.CellStep.{CellStep}
use Rattle.quorum_cell.specs.declared.operation.CellStep.TheVariants as cell

-- a step of a quorum cell that is nobody's call
abbrev pub is_inner : CellStep → Bool
is_inner (cell.Begin aim) = false
is_inner (cell.Take t) = false
is_inner (cell.Forget t) = false
is_inner step = true

abbrev pub aim_of : Op → Aim
aim_of (Append e) = AimAppend e
aim_of (Settle n) = AimSettle n
aim_of Tail = AimTail
aim_of Seal = AimSeal
aim_of (Read p) = AimRead p
aim_of (Trim n) = AimTrim n
