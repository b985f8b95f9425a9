-- What comes of a line that replaces the last loglet of the log.
use Rattle.std.specs.Prelude.{◌≡◌, ℕ, false, List, [], ◌∷◌, length}
use Rattle.delos_types.specs.declared.cause.Cause.{Cause}
use Rattle.legal_journal.specs.Law.{Law}
use Rattle.virtual_log.specs.Sealing.{SealsNone, SealsLast}
use Rattle.base_engine.specs.Reading.{IsExtendedBy}
use Rattle.base_engine.specs.Node.{NodeView}
use Rattle.node_lines.specs.declared.lines.Looked.{Looked}
use Rattle.node_lines.specs.declared.lines.Looked.TheVariants as looked
use Rattle.node_lines.specs.Moving.{is_store, Moves}

-- The last loglet was replaced as the log says, over a shelf of so many loglets; or the log failed, and not the disk.
abbrev pub ExtendsSo : ℕ → NodeView → NodeView → List Cause → Looked → Type 0
ExtendsSo cells old new others (looked.Extended x) =
    (others ≡ []) × IsExtendedBy cells old.who old.seen old.known new.known new.seen x
ExtendsSo cells old new others (looked.Failed c) = (others ≡ c ∷ []) × (is_store c ≡ false)
ExtendsSo cells old new others (looked.Kept c) = ⊥
ExtendsSo cells old new others (looked.Found after found) = ⊥
ExtendsSo cells old new others (looked.Reported position) = ⊥
ExtendsSo cells old new others looked.Left = ⊥
ExtendsSo cells old new others (looked.Trimmed trim) = ⊥

-- The last loglet was replaced, and nothing else was done: whatever came of it, no Seal was begun, or one of the loglet that was
-- the last one.
pub record Replaces (law : Law) (old new : NodeView) (answer : Looked) : Type 0 where
  pub others : List Cause
  pub moves : Moves law old new others
  pub replica : new.replica ≡ old.replica
  pub outbox : new.outbox ≡ old.outbox
  pub extends : ExtendsSo (length law.shelf) old new others answer
  pub seals : SealsLast old.who old.seen new.seen

-- One after the other. The node began no Seal before the last loglet was replaced.
pub record Extends (law : Law) (old new : NodeView) (answer : Looked) : Type 0 where
  pub others : List Cause
  pub moves : Moves law old new others
  pub settled : NodeView
  pub settles : Moves law old settled []
  pub none : settled.outbox.entries ≡ []
  pub kept : settled.replica.kept ≡ []
  pub since : Moves law settled new others
  pub unsealed : SealsNone old.who old.seen settled.seen
  pub replica : new.replica ≡ settled.replica
  pub outbox : new.outbox ≡ settled.outbox
  pub extends : ExtendsSo (length law.shelf) settled new others answer
  pub seals : SealsLast settled.who settled.seen new.seen
