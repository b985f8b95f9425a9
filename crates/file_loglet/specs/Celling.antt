-- The steps that a carry is in a quorum cell of one server.
use Rattle.std.specs.Prelude.{◌≡◌, ◌⊎◌, ℕ, suc, if◌then◌else◌, List, [], ◌∷◌, slice_get, option_map, Option, Some, None}
use Rattle.delos_types.specs.declared.entry.Entry.{Entry}
use Rattle.loglet_api.specs.declared.call.Task.{Task}
use Rattle.loglet_api.specs.declared.call.Task.TheVariants.{Placing, Settling, Finding, Sealing, Reading, Trimming}
use Rattle.quorum_cell.specs.declared.message.Ask.{Ask}
use Rattle.quorum_cell.specs.declared.message.Ask.TheVariants.{Store, Seal, Tail, Repair, Trim}
use Rattle.quorum_cell.specs.declared.operation.Aim.{Aim}
use Rattle.quorum_cell.specs.declared.operation.Aim.TheVariants.{Append as AimAppend, Settle as AimSettle, Tail as AimTail, Seal as AimSeal, Read as AimRead, Trim as AimTrim}
use Rattle.quorum_cell.specs.declared.operation.Wish.{Wish}
use Rattle.quorum_cell.specs.declared.operation.Wish.TheVariants.{Store as WishStore, Seal as WishSeal, Tail as WishTail, Repair as WishRepair, Read as WishRead, Trim as WishTrim}
use Rattle.quorum_cell.specs.declared.operation.CellStep.{CellStep}
use Rattle.quorum_cell.specs.declared.operation.CellStep.TheVariants.{Send, RequestComes, RequestStops, ReplyComes}
use Rattle.quorum_cell.specs.Cells.{is_seal}
use Rattle.quorum_cell.specs.Steps.{ask_read}

-- what an operation with this aim sends by a wish, whatever it heard
abbrev pub wished : List Entry → ℕ → Aim → Wish → Option Ask
wished entries cut aim (WishStore p) = option_map (λ e. Store p e) (slice_get entries p)
wished entries cut aim WishSeal = if is_seal aim then Some Seal else None
wished entries cut aim WishTail = Some Tail
wished entries cut aim (WishRepair p) = option_map (λ e. Repair p e) (slice_get entries p)
wished entries cut aim WishRead = ask_read aim
wished entries cut aim WishTrim = Some (Trim cut)

-- the task of an operation with this aim
abbrev pub task_for : Aim → Task
task_for (AimAppend e) = Placing
task_for (AimSettle n) = Settling n
task_for AimTail = Finding
task_for AimSeal = Sealing
task_for (AimRead p) = Reading p
task_for (AimTrim n) = Trimming n

-- these requests, one for each wish
abbrev pub AreWished : List Entry → ℕ → Aim → List Wish → List Ask → Type 0
AreWished entries cut aim [] [] = Unit {0}
AreWished entries cut aim (wish ∷ wishes) (ask ∷ asks) = (wished entries cut aim wish ≡ Some ask) × AreWished entries cut aim wishes asks
AreWished entries cut aim [] (ask ∷ asks) = ⊥
AreWished entries cut aim (wish ∷ wishes) [] = ⊥

-- Operation t asks the server these wishes in turn, in a cell that had so many requests and replies before: each request is
-- sent and comes to the server, and the reply comes to the operation. Or the server stops inside the write for one, and
-- that was the last.
abbrev pub IsAsking : ℕ → ℕ → ℕ → List Wish → List CellStep → Type 0
IsAsking t requests replies [] steps = steps ≡ []
IsAsking t requests replies (wish ∷ wishes) steps =
    (steps ≡ Send t 0 wish ∷ RequestStops requests ∷ ReplyComes replies ∷ [])
    ⊎ ((more : List CellStep) × (steps ≡ Send t 0 wish ∷ RequestComes requests ∷ ReplyComes replies ∷ more) × IsAsking t (suc requests) (suc replies) wishes more)
