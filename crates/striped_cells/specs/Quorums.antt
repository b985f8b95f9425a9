-- Quorum cells, as a kind of cells.
use Rattle.std.specs.Prelude.{ℕ, not, if◌then◌else◌, List, [], ◌∷◌, Option, None, Some}
use Rattle.loglet_api.specs.declared.call.Kind.TheVariants.{File}
use Rattle.loglet_api.specs.declared.call.Answer.{Answer}
use Rattle.quorum_cell.specs.Cells.{Cell, operation}
use Rattle.quorum_cell.specs.Law.{IsLawful}
use Rattle.quorum_cell.specs.Steps.{cell_step, is_full, begin, take_outcome, forget}
use Rattle.cell_views.specs.Views.{Manner, IsSpelled, cell_view, left_of, taken}
use Rattle.striped_cells.specs.declared.motion.Motion.{Motion}
use Rattle.striped_cells.specs.declared.motion.Motion.TheVariants.{Servers}
use Rattle.striped_cells.specs.Motions.{is_inner, aim_of}
use Rattle.striped_cells.specs.Ways.{Ways}

-- nothing is told of how a loglet goes about its work
abbrev pub plain : Manner
plain = record { kind = File; rounds = 0; left = λ t. (0, 1) }

-- what the client of an open operation that came to its end is told
abbrev pub answer_of : Cell → ℕ → Option Answer
answer_of c t = let o = operation c t in if o.closed then None else taken c.cut o o.decided

abbrev pub stir_cell : Cell → List ℕ → Motion → Cell
stir_cell c [] (Servers step) = if is_inner step then cell_step c step else c
stir_cell c path m = c

abbrev pub quorum_itself : Cell → List ℕ → Option Cell
quorum_itself c [] = Some c
quorum_itself c (i ∷ path) = None

abbrev pub quorum_ways : Ways Cell
quorum_ways = record {
  view = cell_view plain;
  entries = λ c. c.entries;
  is_lawful = λ c. IsLawful c × IsSpelled c;
  is_full = λ c op. is_full c (aim_of op);
  begin = λ c op. begin c (aim_of op);
  left = λ c t. left_of (operation c t).decided (0, 1);
  answer = answer_of;
  take = take_outcome;
  is_open = λ c t. not (operation c t).closed;
  forget = forget;
  stir = stir_cell;
  quorum_at = quorum_itself;
}
