-- The steps by which something is published, and what is shown after them.
use Rattle.std.specs.Prelude.{◌≡◌, ℕ, ◌+◌, ◌-◌, Bool, if◌then◌else◌, List, [], ◌∷◌, ◌++◌, length, drop, map, slice_get, Option, Some, None}
use Rattle.std.specs.Arc.{arc_value}
use Rattle.std.specs.FinMap.{empty}
use Rattle.snap_reads.specs.Tables.{changed}
use Rattle.snap_reads.specs.declared.change.Change.{Change}
use Rattle.snap_reads.specs.declared.change.Published.{Published}
use Rattle.snap_reads.specs.declared.shown.Shown.{Shown}
use Rattle.snap_reads.specs.declared.shown.Says.{Says}
use Rattle.snap_reads.specs.declared.shown.Op.{Op}
use Rattle.snap_reads.specs.declared.shown.Op.TheVariants as op

pub data Step : Type 0 where
  begins : Bool → Step
  changes : Option Change → Step
  ends : ℕ → Published → Step

abbrev pub meant : Op → Step
meant (op.Begin of) = begins of.value.changes.whole
meant (op.Change of at) = changes (slice_get of.value.changes.list at)
meant (op.End of needless) = ends needless of.value

abbrev pub says : Shown → Says
says s = record { tables = s.tables; pos = s.pos; count = s.count; carried = map arc_value s.carried.items }

abbrev pub act : Says → Step → Says
act s (begins whole) = record { tables = if whole then empty else s.tables; pos = s.pos; count = s.count; carried = s.carried }
act s (changes None) = s
act s (changes (Some c)) = record { tables = changed s.tables c; pos = s.pos; count = s.count; carried = s.carried }
act s (ends needless p) = record { tables = s.tables; pos = p.pos; count = s.count + 1; carried = drop (needless - (s.count - length s.carried)) (s.carried ++ p ∷ []) }

abbrev pub applied : Says → Op → Says
applied s o = act s (meant o)

-- the steps of something published, where so many from the first on are needless at its end
abbrev pub steps_of : ℕ × Published → List Step
steps_of e = begins e.1.changes.whole ∷ map (λ c. changes (Some c)) e.1.changes.list ++ ends e.0 e.1 ∷ []

abbrev pub all_steps : List (ℕ × Published) → List Step
all_steps [] = []
all_steps (e ∷ es) = steps_of e ++ all_steps es

-- what these steps bring to its end
abbrev pub ended : List Step → List (ℕ × Published)
ended [] = []
ended (begins whole ∷ steps) = ended steps
ended (changes c ∷ steps) = ended steps
ended (ends needless p ∷ steps) = (needless, p) ∷ ended steps

abbrev pub published_by : List Step → List Published
published_by steps = map (λ e. e.1) (ended steps)

-- the steps are those of what they bring to its end
abbrev pub IsWhole : List Step → Type 0
IsWhole steps = steps ≡ all_steps (ended steps)

-- nothing was published
abbrev pub nothing : Says
nothing = record { tables = empty; pos = 0; count = 0; carried = [] }
