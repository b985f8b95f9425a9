-- The answers that a node's state tells of sessions, of whatever node they are.
use Rattle.std.specs.Prelude.{◌≡◌, ℕ, ◌+◌, ◌<◌, ◌≤◌, List, length, Some, slice_get}
use Rattle.delos_types.specs.declared.entry.Entry.{Entry}
use Rattle.base_engine.specs.Node.{NodeView}
use Rattle.node_lines.specs.declared.desk.Desk.{Desk}
use Rattle.node_lines.specs.Answered.{AreAnswers, AreAllAnswers, InFront}
use Rattle.node_lines.specs.Desks.{IsBound}
use Rattle.node_lines.specs.UnderWay.{HasRank}

-- who may append what, of which no rank of a session that asked something at these desks is above those that its desk sent
abbrev pub WithinDesks : (ℕ → Entry → Type 0) → List Desk → ℕ → Entry → Type 0
WithinDesks may desks who e = may who e × ((s r : ℕ) (d : Desk) → slice_get desks s ≡ Some d → 0 < d.asked → HasRank s r e → r ≤ d.sent)

-- the session's first answers are those that the node's state tells, and there are few more
pub record CanTake (may : ℕ → Entry → Type 0) (n : NodeView) (s : ℕ) (d : Desk) : Type 0 where
  pub session : d.session ≡ s
  pub known : s ≤ 63
  pub bound : 0 < d.asked → IsBound may s d.sent
  pub near : d.sent ≤ length d.answers.items + 64
  pub acted : InFront n.seen n.replica.cursor (λ log. AreAnswers log s d.answers.items)

abbrev pub CanTakeAll : (ℕ → Entry → Type 0) → NodeView → List Desk → Type 0
CanTakeAll may n desks = (s : ℕ) (d : Desk) → slice_get desks s ≡ Some d → CanTake may n s d

-- all answers that the node's state tells of the session were taken, where it asked something, and nothing else changed
pub record TakesIt (n : NodeView) (old new : Desk) : Type 0 where
  pub rest : new ≡ record old { answers = new.answers }
  pub all : 0 < old.asked → InFront n.seen n.replica.cursor (λ log. AreAllAnswers log old.session new.answers.items)

pub record TakesOne (n : NodeView) (old : Desk) (desks : List Desk) (s : ℕ) : Type 0 where
  pub desk : Desk
  pub is : slice_get desks s ≡ Some desk
  pub takes : TakesIt n old desk

pub record TakesAll (n : NodeView) (old new : List Desk) : Type 0 where
  pub size : length new ≡ length old
  pub each : (s : ℕ) (d : Desk) → slice_get old s ≡ Some d → TakesOne n d new s
