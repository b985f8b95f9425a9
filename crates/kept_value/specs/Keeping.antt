-- How a value and what keeps it belong together.
use Rattle.std.specs.Prelude.{◌≡◌, ◌+◌, true, false, length, Some, None}
use Rattle.std.specs.Option.{ForSome}
use Rattle.journal_pair.specs.Journal as pair
use Rattle.kept_value.specs.View.{Kind, View, reopened_by}

-- Its journal's records spell the value, or what it is once the change in which the disk failed is made, where the record of
-- that one stands. The other records, which a crash may leave, spell it with that change.
pub record IsKept {C : Type 0} (K : Kind C) (s : K.State) (v : View C) : Type 0 where
  pub spelled : K.spelled v.journal.records ≡ Some (reopened_by K s v.asked v.stands)
  pub other : ForSome v.journal.other (λ rs. K.spelled rs ≡ Some (reopened_by K s v.asked true))
  pub longer : v.stands ≡ false → ForSome v.journal.other (λ rs. length rs ≡ length v.journal.records + 1)
  pub can : ForSome v.asked (K.CanChange s)
  pub whole : v.journal.shut ≡ false → v.asked ≡ None
  pub settled : v.journal.shut ≡ false → v.stands ≡ false
  pub survives : pair.Survives v.journal
