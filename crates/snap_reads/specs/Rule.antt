-- The rule between the writer and its readers.
use Rattle.std.specs.Prelude.{◌≡◌, ℕ, List, [], ◌∷◌, ◌++◌, length}
use mathlib.Core.Option.{some}
use lib.ListN.{get_elem?}
use Rattle.snap_reads.specs.declared.change.Published.{Published}
use Rattle.snap_reads.specs.declared.shown.Shown.{Shown}
use Rattle.snap_reads.specs.declared.shown.Says.{Says}
use Rattle.snap_reads.specs.declared.rule.View.{View}
use Rattle.snap_reads.specs.Tables.{tables_after, last_position, IsRisingFrom, StartsWith}
use Rattle.snap_reads.specs.Steps.{says}

abbrev pub EndsWith : List Published → List Published → Type 0
EndsWith list end = (front : List Published) × (list ≡ front ++ end)

-- this is shown after that list: its tables, its last position, how many it has, and the last of them
pub record Shows (s : Says) (list : List Published) : Type 0 where
  pub tables : s.tables ≡ tables_after list
  pub pos : s.pos ≡ last_position list
  pub count : s.count ≡ length list
  pub carried : EndsWith list s.carried

abbrev pub newcomer : View
newcomer = record { seen = []; told = [] }

-- what was seen stays, and so many were told
abbrev pub informed : View → View → View
informed v w = record { seen = v.seen; told = w.seen }

-- There is a list of all that was published, of which what is shown comes, and with which what each one has seen, or was told of, begins.
pub record Kept (x : Shown) (views : List View) : Type 0 where
  pub all : List Published
  pub shows : Shows (says x) all
  pub rising : IsRisingFrom 0 all
  pub seen : (seat : ℕ) (v : View) → get_elem? views seat ≡ some v → StartsWith all v.seen
  pub told : (seat : ℕ) (v : View) → get_elem? views seat ≡ some v → StartsWith all v.told

-- what a look at y tells: y is shown after a list that goes on from what was seen and from what was told
pub record Looks (v : View) (y : Shown) (w : View) : Type 0 where
  pub seen : StartsWith w.seen v.seen
  pub told : StartsWith w.seen v.told
  pub shows : Shows (says y) w.seen
  pub rising : IsRisingFrom 0 w.seen
  pub same : w.told ≡ v.told

-- what publishing tells who knows all that is shown
pub record Adds (list : List Published) (v : View) (x y : Shown) (w : View) : Type 0 where
  pub seen : w.seen ≡ v.seen ++ list
  pub told : w.told ≡ v.told
  pub shows : Shows (says y) w.seen
