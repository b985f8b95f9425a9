-- What one step of a worker's turn leaves: each has a scope of its own.
use Rattle.std.specs.Prelude.{◌≡◌, ◌⊎◌, ℕ, ◌≤◌, List, Option, None, Some}
use Rattle.delos_types.specs.declared.entry.Entry.{Entry}
use Rattle.delos_types.specs.declared.item.Item.{Item}
use Rattle.delos_types.specs.declared.cause.Cause.{Cause}
use Rattle.legal_journal.specs.Law.{Law}
use Rattle.legal_journal.specs.declared.events.Event.{Event}
use Rattle.base_engine.specs.Node.{NodeView}
use Rattle.replica_api.specs.Replica.{Meaning}
use Rattle.turn_scopes.specs.Beside.{Since, SealsByRight}
use Rattle.turn_scopes.specs.Seats.{SeatView, SeatOk}
use Rattle.node_lines.specs.declared.lines.Looked.{Looked}
use Rattle.node_lines.specs.declared.lines.Looked.TheVariants as looked
use Rattle.node_lines.specs.Reporting.{Tells}
use Rattle.node_lines.specs.Leaving.{PlaysKnown}

-- Whatever it came to, the seat can take the access again; each event since is the node's or of one of those beside; and it began a Seal only where
-- it has the right.
pub record IsLeft (law : Law) (meaning : Meaning) (beside : ℕ → ℕ → Type 0) (right : Type 0) (old : List Event) (a : SeatView) (new : List Event) (b : SeatView) : Type 0 where
  pub stands : SeatOk law meaning new b
  pub who : b.who ≡ a.who
  pub since : Since a.who (beside a.who) old new
  pub seals : SealsByRight right a.who old new

-- where the log may be trimmed; if that is so, not above m
abbrev pub UpToIf : Type 0 → (List Entry → ℕ → Type 0) → ℕ → List Entry → ℕ → Type 0
UpToIf so floor m log n = floor log n × (so → n ≤ m)

-- the item's entry failed
pub record Untold (law : Law) (old new : NodeView) (item : Item) (failed : Option Cause) : Type 0 where
  pub cause : Cause
  pub is : failed ≡ Some cause
  pub tells : Tells law old new item (Some cause)

-- the item's entry was appended, and then the log was played as far as it is known, or as it isn't trimmed; or it or the disk failed
pub record ToldAndPlayed (law : Law) (old new : NodeView) (item : Item) (failed : Option Cause) : Type 0 where
  pub told : NodeView
  pub tells : Tells law old told item None
  pub plays : PlaysKnown law told new failed

abbrev pub TellsAndPlays : Law → NodeView → NodeView → Item → Option Cause → Type 0
TellsAndPlays law old new item failed = Untold law old new item failed ⊎ ToldAndPlayed law old new item failed

-- what a line came to, where nothing failed in its last step
abbrev pub came_to : Option Cause → Looked → Looked
came_to None l = l
came_to (Some c) l = looked.Failed c
