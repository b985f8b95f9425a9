-- Which steps of its cell a message that moves takes.
use Rattle.std.specs.Prelude.{◌≡◌, ◌⊎◌, ℕ, List, [], ◌∷◌, length, Option, Some, None}
use Rattle.quorum_cell.specs.declared.message.Told.{Told}
use Rattle.quorum_cell.specs.declared.operation.Outcome.{Outcome}
use Rattle.quorum_cell.specs.declared.operation.CellStep.{CellStep}
use Rattle.quorum_cell.specs.declared.operation.CellStep.TheVariants.{Send, RequestComes, RequestStops, ReplyComes, Lose, Decide}
use Rattle.quorum_cell.specs.Servers.{Server}
use Rattle.quorum_cell.specs.Cells.{Cell, operation}
use Rattle.native_plan.specs.declared.member.Member.{Member}
use Rattle.native_plan.specs.declared.pending.Pending.{Pending}
use Rattle.native_plan.specs.declared.message.Errand.{Errand}
use Rattle.native_plan.specs.declared.message.Message.{Message}
use Rattle.native_plan.specs.declared.message.Message.TheVariants.{Asked, Told as Answered}
use Rattle.native_ties.specs.Parts.{LostSo, HasReply, GoesBy, AnswersBy, wish_of}

-- the operation is decided, or it goes on
abbrev pub IsEnd : ℕ → List CellStep → Type 0
IsEnd t steps = (steps ≡ []) ⊎ ((a : Outcome) × (steps ≡ Decide t a ∷ []))

-- the errand of a message, asked or answered
abbrev pub errand_of : Option Message → Option Errand
errand_of None = None
errand_of (Some (Asked e)) = Some e
errand_of (Some (Answered e told)) = Some e

-- the message to server i is sent now, and its first try is lost
pub record LosesFirst (c : Cell) (t i : ℕ) (m : Member) (ending steps : List CellStep) : Type 0 where
  pub errand : Errand
  pub is : errand_of m.message ≡ Some errand
  pub none : m.losses ≡ 0
  pub takes : steps ≡ Send t i (wish_of errand) ∷ Lose (length c.requests) ∷ ending

-- one more try is lost of a message to server i that was sent before
pub record LosesAgain (c : Cell) (t i : ℕ) (m : Member) (ending steps : List CellStep) : Type 0 where
  pub lost : LostSo c (operation c t) t i m.losses
  pub takes : steps ≡ Lose lost.message ∷ ending

-- the message of operation t to server i is lost
pub record IsLoss (c : Cell) (t i : ℕ) (m : Member) (steps : List CellStep) : Type 0 where
  pub ending : List CellStep
  pub ends : IsEnd t ending
  pub loses : LosesFirst c t i m ending steps ⊎ LosesAgain c t i m ending steps

-- its request is sent and comes to server i, which answers
abbrev pub IsRequest : Cell → ℕ → ℕ → Errand → List CellStep → Type 0
IsRequest c t i e steps = steps ≡ Send t i (wish_of e) ∷ RequestComes (length c.requests) ∷ []

-- its request is sent and comes to server i, which stops inside the write
abbrev pub IsStop : Cell → ℕ → ℕ → Errand → List CellStep → Type 0
IsStop c t i e steps = steps ≡ Send t i (wish_of e) ∷ RequestStops (length c.requests) ∷ []

-- the answer of server i to this errand comes to the operation
pub record IsAnswer (c : Cell) (t i : ℕ) (e : Errand) (told : Told) (steps : List CellStep) : Type 0 where
  pub reply : HasReply c t i e told
  pub ending : List CellStep
  pub ends : IsEnd t ending
  pub takes : steps ≡ ReplyComes reply.number ∷ ending

-- an operation goes on by such steps
abbrev pub GoesAs : Cell → ℕ → List ℕ → Pending → (List CellStep → Type 0) → Type 0
GoesAs c t faults p Is = (goes : GoesBy c t faults p) × Is goes.steps

-- and where a server answered
abbrev pub AnswersAs : Cell → ℕ → ℕ → Server → List ℕ → Pending → (List CellStep → Type 0) → Type 0
AnswersAs c t i s faults p Is = (answers : AnswersBy c t i s faults p) × Is answers.steps
