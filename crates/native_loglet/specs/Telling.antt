-- What an answer to the question for its length tells of a server.
use Rattle.std.specs.Prelude.{ℕ, Bool, true, false}
use Rattle.quorum_cell.specs.declared.message.Told.{Told}
use Rattle.quorum_cell.specs.declared.message.Told.TheVariants.{Sealed, Unsealed}

-- whether it is sealed; where it is down, whether it was before
abbrev pub seal_told_by : Told → Bool → Bool
seal_told_by (Sealed n) before = true
seal_told_by (Unsealed n) before = false
seal_told_by told before = before

-- its length, 0 where it tells none
abbrev pub length_told_by : Told → ℕ
length_told_by (Sealed n) = n
length_told_by (Unsealed n) = n
length_told_by told = 0
