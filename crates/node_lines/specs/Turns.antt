-- What comes of the end of a phase, and of the taking of all answers.
use Rattle.std.specs.Prelude.{◌≡◌, ℕ, ◌<◌, ◌≤◌, List, [], length, Option, None, Some, slice_get}
use Rattle.delos_types.specs.declared.cause.Cause.{Cause}
use Rattle.legal_journal.specs.Law.{Law}
use Rattle.base_engine.specs.Node.{NodeView}
use Rattle.node_lines.specs.declared.desk.Desk.{Desk}
use Rattle.node_lines.specs.Answered.{AreAllAnswers, InFront}
use Rattle.node_lines.specs.Desks.{DesksOk}
use Rattle.node_lines.specs.Lines.{IsFree, EndsPhase, Closes, failure_in}
use Rattle.node_lines.specs.Moving.{Moves, CarriesFirst}

-- a session that asked something is closed
pub record ClosesIt (n : NodeView) (failed : Option Cause) (old new : Desk) : Type 0 where
  pub asked : 0 < old.asked → Closes n failed old new
  pub none : old.asked ≡ 0 → new ≡ old

pub record ClosesOne (n : NodeView) (failed : Option Cause) (old : Desk) (desks : List Desk) (s : ℕ) : Type 0 where
  pub desk : Desk
  pub is : slice_get desks s ≡ Some desk
  pub closes : ClosesIt n failed old desk

pub record ClosesAll (n : NodeView) (failed : Option Cause) (old new : List Desk) : Type 0 where
  pub size : length new ≡ length old
  pub each : (s : ℕ) (d : Desk) → slice_get old s ≡ Some d → ClosesOne n failed d new s

-- All was carried to its end and played, each session was closed, and the causes were forgotten.
pub record EndsTurn (law : Law) (old new : NodeView) (was is : List Desk) (failed : Option Cause) : Type 0 where
  pub mid : NodeView
  pub ends : EndsPhase law old mid failed
  pub forgets : new ≡ record mid { outbox = record mid.outbox { given = [] } }
  pub closes : ClosesAll mid failed was is
  pub desks : DesksOk new is

-- each session that has no cause has an answer to each command that it asked
abbrev pub AllAnswered : NodeView → List Desk → Type 0
AllAnswered n desks = (s : ℕ) (d : Desk) → slice_get desks s ≡ Some d → IsFree n d → d.asked ≤ length d.answers.items

-- the answers of a session that asked something were taken, and nothing else
pub record TakesIt (n : NodeView) (old new : Desk) : Type 0 where
  pub rest : new ≡ record old { answers = new.answers }
  pub all : 0 < old.asked → InFront n.seen n.replica.cursor (λ log. AreAllAnswers log old.session new.answers.items)
  pub none : old.asked ≡ 0 → new ≡ old

pub record TakesOne (n : NodeView) (old : Desk) (desks : List Desk) (s : ℕ) : Type 0 where
  pub desk : Desk
  pub is : slice_get desks s ≡ Some desk
  pub takes : TakesIt n old desk

pub record TakesAll (n : NodeView) (old new : List Desk) : Type 0 where
  pub size : length new ≡ length old
  pub each : (s : ℕ) (d : Desk) → slice_get old s ≡ Some d → TakesOne n d new s

-- each desk is as it was, but for answers that were taken: it has no fewer
abbrev pub IsAnswered : List Desk → List Desk → Type 0
IsAnswered old new = (s : ℕ) (d : Desk) → slice_get new s ≡ Some d → (x : Desk) × (slice_get old s ≡ Some x) × (d ≡ record x { answers = d.answers }) × (length x.answers.items ≤ length d.answers.items)

-- All was carried to its end and played. Where a tail was found, the answers of all sessions were taken then, and each that has no
-- cause has all of them.
pub record AnswersAll (law : Law) (old new : NodeView) (was is : List Desk) (failed : Option Cause) : Type 0 where
  pub moves : Moves law old new (failure_in failed)
  pub first : CarriesFirst law old new (failure_in failed)
  pub none : new.outbox.entries ≡ []
  pub unsettled : new.outbox.unsettled ≡ None
  pub kept : new.replica.kept ≡ []
  pub desks : DesksOk new is
  pub size : length is ≡ length was
  pub takes : IsAnswered was is
  pub answered : failed ≡ None → AllAnswered new is
