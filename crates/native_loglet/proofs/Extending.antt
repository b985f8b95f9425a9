-- Every message ever sent is there in each later cell.
use Rattle.std.proofs.Common.{ℕ, Bool, true, false, List, [], ◌∷◌, ◌++◌, length, set, Option, Some, None}
use Rattle.std.specs.Prelude.{◌&&◌, not, nat_lt, slice_get, if◌then◌else◌}
use Rattle.quorum_cell.specs.declared.message.Ask.{Ask}
use Rattle.quorum_cell.specs.declared.message.Told.TheVariants.{DiskFault}
use Rattle.quorum_cell.specs.declared.message.Request.{Request}
use Rattle.quorum_cell.specs.declared.message.Reply.{Reply}
use Rattle.quorum_cell.specs.declared.operation.Outcome.{Outcome}
use Rattle.quorum_cell.specs.declared.operation.CellStep.{CellStep}
use Rattle.quorum_cell.specs.declared.operation.CellStep.TheVariants.{Begin, Send, RequestComes, RequestStops, ReplyComes, Lose, Restart, RestartFails, Decide, Take, Forget}
use Rattle.quorum_cell.specs.Servers.{writes, restarted}
use Rattle.quorum_cell.specs.Cells.{Cell, Operation, operation, server}
use Rattle.quorum_cell.specs.Tallies.{may_decide}
use Rattle.quorum_cell.specs.Steps.{cell_step, run_cell, is_full, admit, with_fault, ask_for, sent, answered, request_comes, request_stops, waits, put_operation, reply_comes, lose, give}
use Rattle.quorum_cell.proofs.Lists.{slice_get_more}
use Rattle.native_ties.specs.Parts.{Extends}

same : (c : Cell) → Extends c c
same c = record { requests = λ k q h. h; replies = λ k r h. h }

twice : (c d e : Cell) → Extends c d → Extends d e → Extends c e
twice c d e x y = record { requests = λ k q h. y.requests k q (x.requests k q h); replies = λ k r h. y.replies k r (x.replies k r h) }

by_if : (c d e : Cell) (b : Bool) → Extends c d → Extends c e → Extends c (if b then d else e)
by_if c d e true x y = x
by_if c d e false x y = y

by_sent : (c : Cell) (t i : ℕ) (a : Option Ask) → Extends c (sent c t i a)
by_sent c t i None = same c
by_sent c t i (Some a) = record { requests = λ k q h. slice_get_more c.requests _ k q h; replies = λ k r h. h }

by_comes : (c : Cell) (q : Option Request) → Extends c (request_comes c q)
by_comes c None = same c
by_comes c (Some q) = record { requests = λ k p h. h; replies = λ k r h. slice_get_more c.replies _ k r h }

by_stops : (c : Cell) (q : Option Request) → Extends c (request_stops c q)
by_stops c None = same c
by_stops c (Some q) = by_if c (answered (with_fault c q.server) q (record (server c q.server) { up = false; torn = Some q.ask }) DiskFault) c ((server c q.server).up && writes (server c q.server) q.ask) (record { requests = λ k p h. h; replies = λ k r h. slice_get_more c.replies _ k r h }) (same c)

by_reply : (c : Cell) (r : Option Reply) → Extends c (reply_comes c r)
by_reply c None = same c
by_reply c (Some r) = by_if c (put_operation c r.ticket (record (operation c r.ticket) { heard = (operation c r.ticket).heard ++ r ∷ [] })) c (waits (operation c r.ticket)) (record { requests = λ k q h. h; replies = λ k x h. h }) (same c)

by_loss : (c : Cell) (k : ℕ) (q : Option Request) → Extends c (lose c k q)
by_loss c k None = same c
by_loss c k (Some q) = by_if c (put_operation (with_fault c q.server) q.ticket (record (operation c q.ticket) { lost = (operation c q.ticket).lost ++ record { message = k; server = q.server } ∷ [] })) c (waits (operation c q.ticket)) (record { requests = λ n p h. h; replies = λ n r h. h }) (same c)

by_give : (c : Cell) (t : ℕ) (o : Operation) (a : Option Outcome) → Extends c (give c t o a)
by_give c t o None = same c
by_give c t o (Some a) = record { requests = λ k q h. h; replies = λ k r h. h }

step_extends : (c : Cell) (step : CellStep) → Extends c (cell_step c step)
step_extends c (Begin aim) = by_if c (with_fault c (length c.servers)) (admit c aim) (is_full c aim) (record { requests = λ k q h. h; replies = λ k r h. h }) (record { requests = λ k q h. h; replies = λ k r h. h })
step_extends c (Send t i wish) = by_if c (sent c t i (ask_for c (operation c t) wish)) c (not (operation c t).closed && nat_lt i (length c.servers)) (by_sent c t i (ask_for c (operation c t) wish)) (same c)
step_extends c (RequestComes k) = by_comes c (slice_get c.requests k)
step_extends c (RequestStops k) = by_stops c (slice_get c.requests k)
step_extends c (ReplyComes k) = by_reply c (slice_get c.replies k)
step_extends c (Lose k) = by_loss c k (slice_get c.requests k)
step_extends c (Restart i kept) = by_if c c (record c { servers = set c.servers i (restarted (server c i) kept (server c i).torn) }) (server c i).up (same c) (record { requests = λ k q h. h; replies = λ k r h. h })
step_extends c (RestartFails i) = by_if c (with_fault c i) c (nat_lt i (length c.servers) && not (server c i).up) (record { requests = λ k q h. h; replies = λ k r h. h }) (same c)
step_extends c (Decide t a) = by_if c (put_operation c t (record (operation c t) { decided = Some a })) c (waits (operation c t) && may_decide (length c.servers) c.cut (operation c t) (operation c t).aim a) (record { requests = λ k q h. h; replies = λ k r h. h }) (same c)
step_extends c (Take t) = by_if c c (give c t (operation c t) (operation c t).decided) (operation c t).closed (same c) (by_give c t (operation c t) (operation c t).decided)
step_extends c (Forget t) = by_if c c (put_operation c t (record (operation c t) { closed = true })) (operation c t).closed (same c) (record { requests = λ k q h. h; replies = λ k r h. h })

pub run_extends : (steps : List CellStep) (c : Cell) → Extends c (run_cell steps c)
run_extends [] c = same c
run_extends (s ∷ ss) c = twice c (cell_step c s) (run_cell ss (cell_step c s)) (step_extends c s) (run_extends ss (cell_step c s))
