-- What an operation of a cell is to do never changes.
use Rattle.std.proofs.Common.{◌≡◌, ℕ, ◌+◌, ◌<◌, Bool, true, false, refl, ◌∙◌, ap, arith, List, [], ◌∷◌, ◌++◌, length, get_or, set, Option, Some, None}
use Rattle.std.specs.Prelude.{◌&&◌, not, nat_lt, if◌then◌else◌, slice_get}
use Rattle.std.proofs.Math.Seq.{get_or-append_seam}
use Rattle.std.proofs.lemmas.List.{get_or_append_left}
use Rattle.quorum_cell.specs.declared.message.Ask.{Ask}
use Rattle.quorum_cell.specs.declared.message.Request.{Request}
use Rattle.quorum_cell.specs.declared.message.Reply.{Reply}
use Rattle.quorum_cell.specs.declared.message.Told.TheVariants.{DiskFault}
use Rattle.quorum_cell.specs.declared.operation.Aim.{Aim}
use Rattle.quorum_cell.specs.declared.operation.Outcome.{Outcome}
use Rattle.quorum_cell.specs.declared.operation.CellStep.{CellStep}
use Rattle.quorum_cell.specs.declared.operation.CellStep.TheVariants.{Begin, Send, RequestComes, RequestStops, ReplyComes, Lose, Restart, RestartFails, Decide, Take, Forget}
use Rattle.quorum_cell.specs.Servers.{writes, restarted}
use Rattle.quorum_cell.specs.Cells.{Cell, Operation, operation, server, no_operation}
use Rattle.quorum_cell.specs.Tallies.{may_decide}
use Rattle.quorum_cell.specs.Law.{Later}
use Rattle.quorum_cell.specs.Steps.{cell_step, run_cell, is_full, with_fault, begin, begun, admit, sent, ask_for, request_comes, request_stops, answered, waits, put_operation, reply_comes, lose, give}
use Rattle.quorum_cell.proofs.Lists.{at_set}
use Rattle.quorum_cell.proofs.Runs.{step_later}

abbrev pub aim_at : List Operation → ℕ → Aim
aim_at os t = (get_or os t no_operation).aim

aim_put : (os : List Operation) (k : ℕ) (o : Operation) → o.aim ≡ aim_at os k → (t : ℕ) → aim_at (set os k o) t ≡ aim_at os t
aim_put os k o same t = at_set (λ j (x : Operation). x.aim ≡ aim_at os j) os k o no_operation (λ j. refl) (λ _. same) t

aim_step : (c : Cell) (step : CellStep) (t : ℕ) → t < length c.operations → (operation (cell_step c step) t).aim ≡ (operation c t).aim
aim_step c (Begin aim) t known = by (is_full c aim)
  where
    by : (b : Bool) → (operation (if b then with_fault c (length c.servers) else admit c aim) t).aim ≡ (operation c t).aim
    by true = refl
    by false = ap (λ (o : Operation). o.aim) (get_or_append_left c.operations (begun c aim ∷ []) no_operation t known)
aim_step c (Send k i wish) t known = by (not (operation c k).closed && nat_lt i (length c.servers)) (ask_for c (operation c k) wish)
  where
    by : (b : Bool) (z : Option Ask) → (operation (if b then sent c k i z else c) t).aim ≡ (operation c t).aim
    by false z = refl
    by true None = refl
    by true (Some ask) = refl
aim_step c (RequestComes k) t known = by (slice_get c.requests k)
  where
    by : (z : Option Request) → (operation (request_comes c z) t).aim ≡ (operation c t).aim
    by None = refl
    by (Some q) = refl
aim_step c (RequestStops k) t known = by (slice_get c.requests k)
  where
    by : (z : Option Request) → (operation (request_stops c z) t).aim ≡ (operation c t).aim
    by None = refl
    by (Some q) = at ((server c q.server).up && writes (server c q.server) q.ask)
      where
        at : (b : Bool) → (operation (if b then answered (with_fault c q.server) q (record (server c q.server) { up = false; torn = Some q.ask }) DiskFault else c) t).aim ≡ (operation c t).aim
        at true = refl
        at false = refl
aim_step c (ReplyComes k) t known = by (slice_get c.replies k)
  where
    by : (z : Option Reply) → (operation (reply_comes c z) t).aim ≡ (operation c t).aim
    by None = refl
    by (Some r) = at (waits (operation c r.ticket))
      where
        at : (b : Bool) → (operation (if b then put_operation c r.ticket (record (operation c r.ticket) { heard = (operation c r.ticket).heard ++ r ∷ [] }) else c) t).aim ≡ (operation c t).aim
        at true = aim_put c.operations r.ticket (record (operation c r.ticket) { heard = (operation c r.ticket).heard ++ r ∷ [] }) refl t
        at false = refl
aim_step c (Lose k) t known = by (slice_get c.requests k)
  where
    by : (z : Option Request) → (operation (lose c k z) t).aim ≡ (operation c t).aim
    by None = refl
    by (Some q) = at (waits (operation c q.ticket))
      where
        at : (b : Bool) → (operation (if b then put_operation (with_fault c q.server) q.ticket (record (operation c q.ticket) { lost = (operation c q.ticket).lost ++ record { message = k; server = q.server } ∷ [] }) else c) t).aim ≡ (operation c t).aim
        at true = aim_put c.operations q.ticket (record (operation c q.ticket) { lost = (operation c q.ticket).lost ++ record { message = k; server = q.server } ∷ [] }) refl t
        at false = refl
aim_step c (Restart i kept) t known = by (server c i).up
  where
    by : (b : Bool) → (operation (if b then c else record c { servers = set c.servers i (restarted (server c i) kept (server c i).torn) }) t).aim ≡ (operation c t).aim
    by true = refl
    by false = refl
aim_step c (RestartFails i) t known = by (nat_lt i (length c.servers) && not (server c i).up)
  where
    by : (b : Bool) → (operation (if b then with_fault c i else c) t).aim ≡ (operation c t).aim
    by true = refl
    by false = refl
aim_step c (Decide k a) t known = by (waits (operation c k) && may_decide (length c.servers) c.cut (operation c k) (operation c k).aim a)
  where
    by : (b : Bool) → (operation (if b then put_operation c k (record (operation c k) { decided = Some a }) else c) t).aim ≡ (operation c t).aim
    by true = aim_put c.operations k (record (operation c k) { decided = Some a }) refl t
    by false = refl
aim_step c (Take k) t known = by (operation c k).closed (operation c k).decided
  where
    by : (b : Bool) (z : Option Outcome) → (operation (if b then c else give c k (operation c k) z) t).aim ≡ (operation c t).aim
    by true z = refl
    by false None = refl
    by false (Some a) = at_set (λ j (x : Operation). x.aim ≡ aim_at c.operations j) c.operations k _ no_operation (λ j. refl) (λ _. refl) t
aim_step c (Forget k) t known = by (operation c k).closed
  where
    by : (b : Bool) → (operation (if b then c else put_operation c k (record (operation c k) { closed = true })) t).aim ≡ (operation c t).aim
    by true = refl
    by false = aim_put c.operations k (record (operation c k) { closed = true }) refl t

pub run_aim : (steps : List CellStep) (c : Cell) (t : ℕ) → t < length c.operations → (operation (run_cell steps c) t).aim ≡ (operation c t).aim
run_aim [] c t known = refl
run_aim (step ∷ steps) c t known =
    let later : Later c (cell_step c step) = step_later c step in
    run_aim steps (cell_step c step) t (omega (arith, known, later.tickets)) ∙ aim_step c step t known

-- where one more operation is there, the one that began is the last
pub begun_aim : (c : Cell) (aim : Aim) → length (begin c aim).operations ≡ length c.operations + 1 → (operation (begin c aim) (length c.operations)).aim ≡ aim
begun_aim c aim more = by (is_full c aim) more
  where
    by : (b : Bool) → length (if b then with_fault c (length c.servers) else admit c aim).operations ≡ length c.operations + 1 → (operation (if b then with_fault c (length c.servers) else admit c aim) (length c.operations)).aim ≡ aim
    by true e = absurd (omega (arith, e))
    by false e = ap (λ (o : Operation). o.aim) (get_or-append_seam c.operations (begun c aim) [] no_operation)
