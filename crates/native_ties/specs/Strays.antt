-- Messages of operations that come again, as steps of their cell.
use Rattle.std.specs.Prelude.{◌≡◌, ℕ, ◌≤◌, Bool, true, false, List, [], ◌∷◌, length, set, slice_get, Some}
use Rattle.loglet_api.specs.Step.{IsAtMost}
use Rattle.quorum_cell.specs.declared.message.Ask.{Ask}
use Rattle.quorum_cell.specs.declared.message.Reply.{Reply}
use Rattle.quorum_cell.specs.declared.message.Told.{Told}
use Rattle.quorum_cell.specs.declared.message.Told.TheVariants.{Short}
use Rattle.quorum_cell.specs.declared.operation.CellStep.{CellStep}
use Rattle.quorum_cell.specs.declared.operation.CellStep.TheVariants.{ReplyComes}
use Rattle.quorum_cell.specs.Servers.{Server, length_of}
use Rattle.quorum_cell.specs.Cells.{Cell, operation, server_before}
use Rattle.quorum_cell.specs.Steps.{run_cell}
use Rattle.native_plan.specs.declared.message.Errand.{Errand}
use Rattle.native_plan.specs.declared.message.Errand.TheVariants.{Read}
use Rattle.native_plan.specs.declared.pending.Pending.{Pending}
use Rattle.native_plan.specs.Course.{IsAskOf}
use Rattle.native_plan.specs.Pendings.{left_now}
use Rattle.native_plan.specs.Strays.{is_asked}
use Rattle.native_ties.specs.Parts.{IsPartOf, AreStrays}
use Rattle.native_ties.specs.Steps.{IsEnd}

-- request k of the cell: operation t asked server i this
abbrev pub IsRequest : Cell → ℕ → ℕ → ℕ → Ask → Type 0
IsRequest c k t i a = slice_get c.requests k ≡ Some (record { ticket = t; server = i; ask = a })

-- reply k of the cell: server i answered this errand of operation t so; where it said that it didn't have an entry, it wasn't so long as the operation began
pub record IsReply (c : Cell) (k t i : ℕ) (e : Errand) (z : Told) : Type 0 where
  pub reply : Reply
  pub is : slice_get c.replies k ≡ Some reply
  pub ticket : reply.ticket ≡ t
  pub of_server : reply.server ≡ i
  pub told_is : reply.told ≡ z
  pub asked : IsAskOf e reply.ask
  pub short : (p n : ℕ) → e ≡ Read p → z ≡ Short n → length_of (server_before (operation c t) i) ≤ p

-- reply k comes to operation t, which then is decided or goes on; or the operation doesn't hear it
abbrev pub HearsBy : Bool → ℕ → ℕ → List CellStep → Type 0
HearsBy true t k steps = (ending : List CellStep) × IsEnd t ending × (steps ≡ ReplyComes k ∷ ending)
HearsBy false t k steps = steps ≡ []

-- reply k comes to operation t, which then is decided or goes on, by steps of its cell; they leave the other operations, the servers and the faults alone
pub record GoesAgain (c : Cell) (k t : ℕ) (p : Pending) : Type 0 where
  pub steps : List CellStep
  pub ends : IsEnd t steps
  pub strays : AreStrays steps
  pub part : IsPartOf (run_cell (ReplyComes k ∷ steps) c) t p
  pub others : (q : ℕ) → (q ≡ t → ⊥) → operation (run_cell (ReplyComes k ∷ steps) c) q ≡ operation c q
  pub servers : (run_cell (ReplyComes k ∷ steps) c).servers ≡ c.servers
  pub faults_are : (run_cell (ReplyComes k ∷ steps) c).faults ≡ c.faults

-- step `comes` brings a request to server i again, which is this then; the faults are these; the answer, which is the last reply then, comes to operation t, and leaves it no more to do
pub record ComesAgain (c : Cell) (comes : CellStep) (t i : ℕ) (s : Server) (faults : List ℕ) (old p : Pending) : Type 0 where
  pub steps : List CellStep
  pub hears : HearsBy (is_asked old.phase i) t (length c.replies) steps
  pub no_more : IsAtMost (left_now p) (left_now old)
  pub strays : AreStrays (comes ∷ steps)
  pub part : IsPartOf (run_cell (comes ∷ steps) c) t p
  pub others : (q : ℕ) → (q ≡ t → ⊥) → operation (run_cell (comes ∷ steps) c) q ≡ operation c q
  pub servers : (run_cell (comes ∷ steps) c).servers ≡ set c.servers i s
  pub faults_are : (run_cell (comes ∷ steps) c).faults ≡ faults

-- it brings it to the server, and the answer comes to no operation
pub record ComesTo (c : Cell) (comes : CellStep) (i : ℕ) (s : Server) (faults : List ℕ) : Type 0 where
  pub strays : AreStrays (comes ∷ [])
  pub operations : (q : ℕ) → operation (run_cell (comes ∷ []) c) q ≡ operation c q
  pub servers : (run_cell (comes ∷ []) c).servers ≡ set c.servers i s
  pub faults_are : (run_cell (comes ∷ []) c).faults ≡ faults
