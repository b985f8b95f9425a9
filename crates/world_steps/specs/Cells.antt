-- The cells of a world: quorum cells, stripes over quorum cells, and stripes over such stripes.
use Rattle.std.specs.Prelude.{ℕ, Bool, List, Option, map, ◌*◌}
use Rattle.delos_types.specs.declared.entry.Entry.{Entry}
use Rattle.loglet_api.specs.declared.call.Op.{Op}
use Rattle.loglet_api.specs.declared.call.Answer.{Answer}
use Rattle.loglet_api.specs.View.{LogletView}
use Rattle.quorum_cell.specs.Cells.{Cell, start}
use Rattle.striped_cells.specs.declared.motion.Motion.{Motion}
use Rattle.striped_cells.specs.Ways.{Ways}
use Rattle.striped_cells.specs.Quorums.{quorum_ways}
use Rattle.striped_cells.specs.Striped.{Striped as Stripes, striped_ways, stripes_like}
use Rattle.world_steps.specs.declared.cell.WorldCell.{WorldCell}
use Rattle.world_steps.specs.declared.cell.WorldCell.TheVariants.{Quorum, Striped, Nested}
use Rattle.world_steps.specs.declared.shape.QuorumShape.{QuorumShape}
use Rattle.world_steps.specs.declared.shape.Shape.{Shape}
use Rattle.world_steps.specs.declared.shape.Shape.TheVariants as shape

-- stripes over quorum cells
abbrev pub once : Ways (Stripes Cell)
once = striped_ways quorum_ways

-- and over such stripes
abbrev pub twice : Ways (Stripes (Stripes Cell))
twice = striped_ways once

abbrev pub view_of : WorldCell → LogletView
view_of (Quorum c) = quorum_ways.view c
view_of (Striped c) = once.view c
view_of (Nested c) = twice.view c

abbrev pub entries_of : WorldCell → List Entry
entries_of (Quorum c) = quorum_ways.entries c
entries_of (Striped c) = once.entries c
entries_of (Nested c) = twice.entries c

abbrev pub IsLawfulCell : WorldCell → Type 0
IsLawfulCell (Quorum c) = quorum_ways.is_lawful c
IsLawfulCell (Striped c) = once.is_lawful c
IsLawfulCell (Nested c) = twice.is_lawful c

abbrev pub is_full : WorldCell → Op → Bool
is_full (Quorum c) op = quorum_ways.is_full c op
is_full (Striped c) op = once.is_full c op
is_full (Nested c) op = twice.is_full c op

abbrev pub begun : WorldCell → Op → WorldCell
begun (Quorum c) op = Quorum (quorum_ways.begin c op)
begun (Striped c) op = Striped (once.begin c op)
begun (Nested c) op = Nested (twice.begin c op)

abbrev pub left_of : WorldCell → ℕ → ℕ × ℕ
left_of (Quorum c) t = quorum_ways.left c t
left_of (Striped c) t = once.left c t
left_of (Nested c) t = twice.left c t

abbrev pub answer_of : WorldCell → ℕ → Option Answer
answer_of (Quorum c) t = quorum_ways.answer c t
answer_of (Striped c) t = once.answer c t
answer_of (Nested c) t = twice.answer c t

abbrev pub taken : WorldCell → ℕ → WorldCell
taken (Quorum c) t = Quorum (quorum_ways.take c t)
taken (Striped c) t = Striped (once.take c t)
taken (Nested c) t = Nested (twice.take c t)

abbrev pub is_open : WorldCell → ℕ → Bool
is_open (Quorum c) t = quorum_ways.is_open c t
is_open (Striped c) t = once.is_open c t
is_open (Nested c) t = twice.is_open c t

abbrev pub forgotten : WorldCell → ℕ → WorldCell
forgotten (Quorum c) t = Quorum (quorum_ways.forget c t)
forgotten (Striped c) t = Striped (once.forget c t)
forgotten (Nested c) t = Nested (twice.forget c t)

abbrev pub stirred : WorldCell → List ℕ → Motion → WorldCell
stirred (Quorum c) path m = Quorum (quorum_ways.stir c path m)
stirred (Striped c) path m = Striped (once.stir c path m)
stirred (Nested c) path m = Nested (twice.stir c path m)

abbrev pub quorum_of : WorldCell → List ℕ → Option Cell
quorum_of (Quorum c) path = quorum_ways.quorum_at c path
quorum_of (Striped c) path = once.quorum_at c path
quorum_of (Nested c) path = twice.quorum_at c path

-- The kind of a world's cells.
abbrev pub cell_ways : Ways WorldCell
cell_ways = record {
  view = view_of;
  entries = entries_of;
  is_lawful = IsLawfulCell;
  is_full = is_full;
  begin = begun;
  left = left_of;
  answer = answer_of;
  take = taken;
  is_open = is_open;
  forget = forgotten;
  stir = stirred;
  quorum_at = quorum_of;
}

---- new cells

abbrev pub start_quorum : QuorumShape → Cell
start_quorum s = start s.servers s.room s.limit

abbrev pub start_of : Shape → WorldCell
start_of (shape.Quorum s) = Quorum (start_quorum s)
start_of (shape.Striped m s) = Striped (stripes_like quorum_ways m (start_quorum s))
start_of (shape.Nested n m s) = Nested (stripes_like once n (stripes_like quorum_ways m (start_quorum s)))

-- how many servers it has
abbrev pub servers_of : Shape → ℕ
servers_of (shape.Quorum s) = s.servers
servers_of (shape.Striped m s) = m * s.servers
servers_of (shape.Nested n m s) = n * (m * s.servers)
