-- What clauses see of a reader's end and of the writer's.
use Rattle.std.specs.Prelude.{◌≡◌, List, [], ◌∷◌, ◌++◌, Result, Ok, Err}
use Rattle.snap_reads.specs.declared.change.Published.{Published}
use Rattle.snap_reads.specs.declared.rule.View.{View}
use Rattle.snap_reads.specs.declared.snap.Refused.{Refused}
use Rattle.snap_reads.specs.declared.snap.Refused.TheVariants.{NotTaken, Owed}
use Rattle.snap_reads.specs.Steps.{Step, published_by}

-- what a reader was told of, and what it knows: the list that it saw last, or was told of since
pub record Peek : Type 0 where
  pub told : List Published
  pub knows : List Published

abbrev pub known : List Published → List Published → List Published
known told [] = told
known told (p ∷ seen) = p ∷ seen

abbrev pub peek_of : View → Peek
peek_of v = record { told = v.told; knows = known v.told v.seen }

-- what was published, and what waits to be, for want of memory
pub record Shelf : Type 0 where
  pub published : List Published
  pub owed : List Published

abbrev pub shelf : List Published → List Step → Shelf
shelf seen queue = record { published = seen; owed = published_by queue }

-- what publishing leaves: all is published, or what was not taken up stays outside, or it is owed behind what was
abbrev pub Publishes : Published → Result (Unit {0}) Refused → Shelf → Shelf → Type 0
Publishes p (Ok done) old new = new ≡ record { published = (old.published ++ old.owed) ++ p ∷ []; owed = [] }
Publishes p (Err NotTaken) old new = new ≡ old
Publishes p (Err Owed) old new = new ≡ record { published = old.published; owed = old.owed ++ p ∷ [] }
