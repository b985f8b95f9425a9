-- Events of one user alone.
use Rattle.std.specs.Prelude.{◌≡◌, ◌≢◌, ℕ, ◌-◌, ◌<◌, ◌≤◌, List, [], ◌∷◌, ◌++◌, length, drop}
use Rattle.legal_journal.specs.Law.{Law}
use Rattle.legal_journal.specs.declared.events.Event.{Event}
use Rattle.legal_journal.specs.Journal.{IsLegal}
use Rattle.legal_journal.specs.Turns.{AreOthers}

-- each event is by who
abbrev pub AreBy : ℕ → List Event → Type 0
AreBy who [] = Unit {0}
AreBy who (e ∷ es) = (e.who ≡ who) × AreBy who es

-- the number of a user, and the journal
pub record SecondView : Type 0 where
  pub who : ℕ
  pub journal : List Event

-- a user's number, if it isn't 0, says from which event on all are by it
pub record IsAlone (who : ℕ) (journal : List Event) : Type 0 where
  pub other : who ≢ 1
  pub within : 0 < who → who - 2 ≤ length journal
  pub by : 0 < who → AreBy who (drop (who - 2) journal)

-- events of others than the first user were added
pub record ActsApart (law : Law) (old new : List Event) : Type 0 where
  pub others : List Event
  pub apart : AreOthers 1 others
  pub seen : new ≡ old ++ others
  pub legal : IsLegal law new
