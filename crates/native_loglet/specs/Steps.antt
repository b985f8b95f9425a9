-- The steps that each call takes in the cell that the loglet is.
use Rattle.std.specs.Prelude.{◌≡◌, ◌⊎◌, ◌%◌, ℕ, Bool, false, List, [], ◌∷◌, length, get_or, slice_get, Option, Some, None}
use Rattle.fate_words.specs.declared.fates.Fate.{Fate}
use Rattle.fate_words.specs.declared.fates.Fate.TheVariants.{Lose}
use Rattle.fate_words.specs.Words.{fate_of}
use Rattle.loglet_api.specs.declared.call.Answer.{Answer}
use Rattle.loglet_api.specs.declared.call.Op.{Op}
use Rattle.loglet_api.specs.declared.call.Op.TheVariants.{Append, Settle, Tail, Seal, Read, Trim}
use Rattle.loglet_api.specs.declared.call.Refused.TheVariants.{Memory}
use Rattle.loglet_api.specs.declared.call.LogletCall.{LogletCall}
use Rattle.loglet_api.specs.declared.call.LogletCall.TheVariants as calls
use Rattle.loglet_api.specs.declared.call.LogletAnswer.{LogletAnswer}
use Rattle.loglet_api.specs.declared.call.LogletAnswer.TheVariants.{Refusal, Taken, Restarted}
use Rattle.loglet_api.specs.Step.{LogletStep}
use Rattle.quorum_cell.specs.declared.operation.Aim.{Aim}
use Rattle.quorum_cell.specs.declared.operation.Aim.TheVariants as aims
use Rattle.quorum_cell.specs.declared.operation.CellStep.{CellStep}
use Rattle.quorum_cell.specs.declared.operation.CellStep.TheVariants.{Begin, RequestComes, RequestStops, Take, Forget, Restart, RestartFails}
use Rattle.quorum_cell.specs.Cells.{Cell, operation}
use Rattle.quorum_cell.specs.Steps.{run_cell}
use Rattle.cell_views.specs.Views.{taken}
use Rattle.native_plan.specs.declared.member.Member.{Member}
use Rattle.native_plan.specs.declared.pending.Pending.{Pending}
use Rattle.native_plan.specs.declared.message.Message.{Message}
use Rattle.native_plan.specs.declared.message.Message.TheVariants.{Asked, Told as Answered}
use Rattle.native_plan.specs.Members.{no_member, due_of}
use Rattle.native_ties.specs.Steps.{IsLoss, IsRequest, IsStop, IsAnswer}
use Rattle.native_loglet.specs.Natives.{Native, PendingList, look_in, loglet_of, IsCellOf}
use Rattle.native_ties.specs.Strays.{IsRequest as IsRequestOf, IsReply, HearsBy}
use Rattle.native_loglet.specs.declared.mail.Mail.{Mail}
use Rattle.native_loglet.specs.declared.mail.Mail.TheVariants as mail
use Rattle.native_loglet.specs.Moving.{picked_by}
use Rattle.native_loglet.specs.Copies.{hears_of}

---- a carry

-- the message of operation t to server i comes: its request to the server, in place of an entry below the cut that it lets go, and the server answers or stops inside the write; or the server's answer to the operation
abbrev pub ComesBy : Cell → ℕ → ℕ → Option Message → List CellStep → Type 0
ComesBy c t i None steps = ⊥
ComesBy c t i (Some (Asked e)) steps = IsRequest c t i (due_of c.cut e) steps ⊎ IsStop c t i (due_of c.cut e) steps
ComesBy c t i (Some (Answered e told)) steps = IsAnswer c t i e told steps

-- by this fate it is lost, and by each other it comes
abbrev pub FatedBy : Fate → Cell → ℕ → ℕ → Member → List CellStep → Type 0
FatedBy Lose c t i m steps = IsLoss c t i m steps
FatedBy fate c t i m steps = ComesBy c t i m.message steps

-- one message of operation t moves: that of the server that the word picks, and the word says its fate
pub record IsCarry (pending : PendingList) (c : Cell) (t word : ℕ) (steps : List CellStep) : Type 0 where
  pub p : Pending
  pub is : look_in pending t ≡ Some p
  pub server : ℕ
  pub picked : server ≡ picked_by word p
  pub moves : FatedBy (fate_of word) c t server (get_or p.members.items server no_member) steps

---- a stray

-- the answer to a copy of a request is the cell's last reply then
pub record AsksAgain (z : Option Pending) (c : Cell) (t i k : ℕ) (steps : List CellStep) : Type 0 where
  pub hearing : List CellStep
  pub hears : HearsBy (hears_of z i) t (length c.replies) hearing
  pub takes : (steps ≡ RequestComes k ∷ hearing) ⊎ (steps ≡ RequestStops k ∷ hearing)

-- a copy comes: of a request to its server, which answers or stops inside the write; then the answer, or the copy of one, to the operation that hears it
abbrev pub ComesAgainBy : PendingList → Cell → Option Mail → List CellStep → Type 0
ComesAgainBy pending c None steps = steps ≡ []
ComesAgainBy pending c (Some (mail.Asked t i a)) steps = (k : ℕ) × IsRequestOf c k t i a × AsksAgain (look_in pending t) c t i k steps
ComesAgainBy pending c (Some (mail.Told t i e told)) steps = (k : ℕ) × IsReply c k t i e told × HearsBy (hears_of (look_in pending t) i) t k steps

---- each call

abbrev pub aim_of : Op → Aim
aim_of (Append e) = aims.Append e
aim_of (Settle n) = aims.Settle n
aim_of Tail = aims.Tail
aim_of Seal = aims.Seal
aim_of (Read p) = aims.Read p
aim_of (Trim n) = aims.Trim n

-- where there is no memory nothing is done; a refusal as full is a step too, which counts a fault
abbrev pub BeginSteps : Op → LogletAnswer → List CellStep → Type 0
BeginSteps op (Refusal Memory) steps = steps ≡ []
BeginSteps op answer steps = steps ≡ Begin (aim_of op) ∷ []

abbrev pub CarrySteps : PendingList → Cell → ℕ → ℕ → LogletAnswer → List CellStep → Type 0
CarrySteps pending c t word (Refusal Memory) steps = steps ≡ []
CarrySteps pending c t word answer steps = IsCarry pending c t word steps

-- an answer closes the operation; one that is undecided stays as it is
abbrev pub IsTake : ℕ → Option Answer → List CellStep → Type 0
IsTake t None steps = steps ≡ []
IsTake t (Some answer) steps = steps ≡ Take t ∷ []

-- the client is told what the operation came to in the cell
abbrev pub TakeSteps : Cell → ℕ → LogletAnswer → List CellStep → Type 0
TakeSteps c t (Taken answer) steps = (taken c.cut (operation c t) (operation c t).decided ≡ answer) × IsTake t answer steps
TakeSteps c t answer steps = ⊥

-- the server finds the write inside which it stopped done or not; of one that is up this changes nothing
abbrev pub RestartSteps : ℕ → LogletAnswer → List CellStep → Type 0
RestartSteps i (Refusal Memory) steps = steps ≡ []
RestartSteps i (Restarted false) steps = steps ≡ RestartFails i ∷ []
RestartSteps i answer steps = (kept : Bool) × (steps ≡ Restart i kept ∷ [])

-- the copy whose number is the word modulo their number comes again
abbrev pub StraySteps : Native → Cell → ℕ → LogletAnswer → List CellStep → Type 0
StraySteps a c word (Refusal Memory) steps = steps ≡ []
StraySteps a c word answer steps = ComesAgainBy a.pending c (slice_get a.strays (word % length a.strays)) steps

-- what is left, and a stop that is only armed, take no step
abbrev pub StepsOf : Native → Cell → LogletCall → LogletAnswer → List CellStep → Type 0
StepsOf a c (calls.Begin op) answer steps = BeginSteps op answer steps
StepsOf a c (calls.Carry t word) answer steps = CarrySteps a.pending c t word answer steps
StepsOf a c (calls.Take t) answer steps = TakeSteps c t answer steps
StepsOf a c (calls.Forget t) answer steps = steps ≡ Forget t ∷ []
StepsOf a c (calls.Stray word) answer steps = StraySteps a c word answer steps
StepsOf a c (calls.Restart i word) answer steps = RestartSteps i answer steps
StepsOf a c call answer steps = steps ≡ []

-- the loglet is afterwards the cell before it, gone on by the steps of the call
pub record Reaches (before : Native) (c : Cell) (call : LogletCall) (answer : LogletAnswer) (after : Native) : Type 0 where
  pub steps : List CellStep
  pub are : StepsOf before c call answer steps
  pub cell : IsCellOf after (run_cell steps c)

-- a call of a native loglet: a step of a loglet, and in each cell that the loglet may be these steps
pub record NativeStep (before : Native) (call : LogletCall) (answer : LogletAnswer) (after : Native) : Type 0 where
  pub loglet : LogletStep (loglet_of before) call answer (loglet_of after)
  pub cells : (c : Cell) → IsCellOf before c → Reaches before c call answer after

-- a list of calls
abbrev pub NativeRun : Native → List (LogletCall × LogletAnswer) → Native → Type 0
NativeRun before [] after = after ≡ before
NativeRun before (call ∷ more) after = (mid : Native) × NativeStep before call.0 call.1 mid × NativeRun mid more after
