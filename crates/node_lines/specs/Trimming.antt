-- What comes of a line by which a node trims the log.
use Rattle.std.specs.Prelude.{◌≡◌, ℕ, ◌≤◌, List, [], ◌∷◌, ◌++◌, length}
use Rattle.delos_types.specs.declared.entry.Entry.{Entry}
use Rattle.delos_types.specs.declared.cause.Cause.{Cause}
use Rattle.legal_journal.specs.Law.{Law}
use Rattle.legal_journal.specs.declared.events.Event.{Event}
use Rattle.legal_journal.specs.Journal.{state_of, tail_of, trim_of}
use Rattle.virtual_log.specs.Holding.{Holds}
use Rattle.virtual_log.specs.Truncating.{IsPrefixTrimmed}
use Rattle.engine_api.specs.declared.content.Content.TheVariants as content
use Rattle.engine_api.specs.Items.{placed_from, unpack}
use Rattle.engine_api.specs.Acted.{unpack_all}
use Rattle.engine_api.specs.Members.{least_position}
use Rattle.engine_api.specs.Packing.{packed, trim_item}
use Rattle.base_engine.specs.Reading.{IsFront}
use Rattle.base_engine.specs.Trimming.{IsAppended, trim_to}
use Rattle.base_engine.specs.Node.{NodeView}
use Rattle.node_lines.specs.declared.lines.Looked.{Looked}
use Rattle.node_lines.specs.declared.lines.Looked.TheVariants as looked
use Rattle.node_lines.specs.Moving.{Moves, CarriesFirst}

-- the log was trimmed as far as the node's state says, to this trim; or it failed
abbrev pub CutsSo : NodeView → NodeView → List Cause → Looked → Type 0
CutsSo old new others (looked.Trimmed trim) = (others ≡ []) × IsPrefixTrimmed old.who old.seen (trim_to old.nodes old.replica) trim new.seen
CutsSo old new others (looked.Failed c) = others ≡ c ∷ []
CutsSo old new others (looked.Kept c) = ⊥
CutsSo old new others (looked.Found after found) = ⊥
CutsSo old new others (looked.Extended x) = ⊥
CutsSo old new others (looked.Reported position) = ⊥
CutsSo old new others looked.Left = ⊥

-- The log was trimmed, and nothing else was done.
pub record Cuts (law : Law) (old new : NodeView) (answer : Looked) : Type 0 where
  pub others : List Cause
  pub moves : Moves law old new others
  pub replica : new.replica ≡ old.replica
  pub outbox : new.outbox ≡ old.outbox
  pub cuts : CutsSo old new others answer

-- The node had the state of a front of the log that reaches each tail that was there before. The trim isn't below the least
-- position of a member in it, nor above that of the log; and an entry that asks for a trim to that least position, and says nothing
-- else, was appended after that.
pub record HasTrimmed (old new : NodeView) (trim : ℕ) : Type 0 where
  pub log : List Entry
  pub front : IsFront Holds new.seen log
  pub from : tail_of (state_of old.seen) ≤ length log
  pub reached : least_position old.nodes (unpack_all 0 log) ≤ trim
  pub upto : trim ≤ trim_of (state_of new.seen)
  pub position : ℕ
  pub least : position ≡ least_position old.nodes (unpack_all 0 log)
  pub synced : List Event
  pub since : (more : List Event) × (synced ≡ old.seen ++ more)
  pub met : IsFront Holds synced log
  pub says : unpack 0 (packed old.replica.origin (trim_item position ∷ [])) ≡ placed_from 0 0 (content.Trim position ∷ [])
  pub landed : IsAppended Holds old.who synced (packed old.replica.origin (trim_item position ∷ [])) new.seen

-- The node trimmed the log so; or the log or the disk failed.
abbrev pub TrimsSo : NodeView → NodeView → List Cause → Looked → Type 0
TrimsSo old new others (looked.Trimmed trim) = (others ≡ []) × HasTrimmed old new trim
TrimsSo old new others (looked.Failed c) = others ≡ c ∷ []
TrimsSo old new others (looked.Kept c) = ⊥
TrimsSo old new others (looked.Found after found) = ⊥
TrimsSo old new others (looked.Extended x) = ⊥
TrimsSo old new others (looked.Reported position) = ⊥
TrimsSo old new others looked.Left = ⊥

-- All was carried to its end, and the node trimmed the log, or failed to.
pub record TrimsLog (law : Law) (old new : NodeView) (answer : Looked) : Type 0 where
  pub others : List Cause
  pub moves : Moves law old new others
  pub first : CarriesFirst law old new others
  pub none : new.outbox.entries ≡ []
  pub kept : new.replica.kept ≡ []
  pub trims : TrimsSo old new others answer
