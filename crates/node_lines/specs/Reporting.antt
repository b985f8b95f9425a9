-- What comes of a line by which a node reports how much of the log it needs no more.
use Rattle.std.specs.Prelude.{◌≡◌, ℕ, ◌<◌, ◌≤◌, List, [], ◌∷◌, ◌++◌, length, Option, Some, None}
use Rattle.delos_types.specs.declared.entry.Entry.{Entry}
use Rattle.delos_types.specs.declared.item.Item.{Item}
use Rattle.delos_types.specs.declared.cause.Cause.{Cause}
use Rattle.legal_journal.specs.Law.{Law}
use Rattle.legal_journal.specs.declared.events.Event.{Event}
use Rattle.legal_journal.specs.Journal.{state_of, tail_of}
use Rattle.virtual_log.specs.Holding.{Holds}
use Rattle.engine_api.specs.declared.content.Content.{Content}
use Rattle.engine_api.specs.declared.content.Content.TheVariants as content
use Rattle.engine_api.specs.Items.{content_of, placed_from, unpack}
use Rattle.engine_api.specs.Members.{clean_position}
use Rattle.engine_api.specs.Packing.{packed, alive_item}
use Rattle.base_engine.specs.Reading.{IsFront}
use Rattle.base_engine.specs.Settling.{session_of}
use Rattle.base_engine.specs.Trimming.{IsAppended}
use Rattle.base_engine.specs.Node.{NodeView}
use Rattle.node_lines.specs.declared.lines.Looked.{Looked}
use Rattle.node_lines.specs.declared.lines.Looked.TheVariants as looked
use Rattle.node_lines.specs.Moving.{Moves, CarriesFirst}
use Rattle.node_lines.specs.Lines.{failure_in}

-- what the item says is of no session
pub record IsPlain (item : Item) : Type 0 where
  pub content : Content
  pub says : content_of item ≡ Some content
  pub none : session_of content ≡ None

-- The item was packed alone, and its entry is all that is outstanding.
pub record LaysDown (law : Law) (old new : NodeView) (item : Item) : Type 0 where
  pub moves : Moves law old new []
  pub entries : new.outbox.entries ≡ packed old.replica.origin (item ∷ []) ∷ []
  pub unsettled : new.outbox.unsettled ≡ old.outbox.unsettled
  pub kept : new.replica.kept ≡ []
  pub replica : new.replica ≡ record old.replica { kept = [] }

-- the entry was appended, at a position that the node knows
pub record IsAppendedWithin (who : ℕ) (old : List Event) (e : Entry) (new : List Event) (known : ℕ) : Type 0 where
  pub landed : IsAppended Holds who old e new
  pub within : landed.position < known

-- The item's entry was appended; or it failed, and its cause is given to no session. Nothing was played.
pub record Tells (law : Law) (old new : NodeView) (item : Item) (failed : Option Cause) : Type 0 where
  pub moves : Moves law old new (failure_in failed)
  pub none : new.outbox.entries ≡ []
  pub kept : new.replica.kept ≡ []
  pub replica : new.replica ≡ record old.replica { kept = [] }
  pub appended : failed ≡ None → IsAppendedWithin old.who old.seen (packed old.replica.origin (item ∷ [])) new.seen new.known

-- The node had the state of a front of the log that reaches each tail that was there before; so many of its entries are
-- clean; and an entry that says so, and nothing else, was appended after that.
pub record HasTold (old new : NodeView) (position : ℕ) : Type 0 where
  pub log : List Entry
  pub synced : List Event
  pub since : (more : List Event) × (synced ≡ old.seen ++ more)
  pub front : IsFront Holds synced log
  pub from : tail_of (state_of old.seen) ≤ length log
  pub within : length log ≤ new.replica.cursor
  pub clean : position ≡ clean_position log
  pub says : unpack 0 (packed old.replica.origin (alive_item old.replica.origin position ∷ [])) ≡ placed_from 0 0 (content.Alive old.replica.origin position ∷ [])
  pub landed : IsAppended Holds old.who synced (packed old.replica.origin (alive_item old.replica.origin position ∷ [])) new.seen

-- The node reported so; or the log or the disk failed.
abbrev pub ReportsSo : NodeView → NodeView → List Cause → Looked → Type 0
ReportsSo old new others (looked.Reported position) = (others ≡ []) × HasTold old new position
ReportsSo old new others (looked.Failed c) = others ≡ c ∷ []
ReportsSo old new others (looked.Kept c) = ⊥
ReportsSo old new others (looked.Found after found) = ⊥
ReportsSo old new others (looked.Extended x) = ⊥
ReportsSo old new others looked.Left = ⊥
ReportsSo old new others (looked.Trimmed trim) = ⊥

-- All was carried to its end, and the node reported, or failed to.
pub record Reports (law : Law) (old new : NodeView) (answer : Looked) : Type 0 where
  pub others : List Cause
  pub moves : Moves law old new others
  pub first : CarriesFirst law old new others
  pub none : new.outbox.entries ≡ []
  pub kept : new.replica.kept ≡ []
  pub tells : ReportsSo old new others answer
