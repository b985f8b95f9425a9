-- The steps of a cell.
use Rattle.std.specs.Prelude.{ℕ, ◌+◌, min, max, Bool, true, false, not, ◌&&◌, ◌||◌, ◌==◌, nat_lt, if◌then◌else◌, List, [], ◌∷◌, ◌++◌, length, set, slice_get, is_some, option_map, Option, Some, None}
use Rattle.std.specs.List.{list_any}
use Rattle.delos_types.specs.declared.entry.Entry.{Entry}
use Rattle.quorum_cell.specs.declared.message.Ask.{Ask}
use Rattle.quorum_cell.specs.declared.message.Ask.TheVariants.{Store, Seal, Tail, Repair, Read, Trim}
use Rattle.quorum_cell.specs.declared.message.Told.{Told}
use Rattle.quorum_cell.specs.declared.message.Told.TheVariants.{DiskFault}
use Rattle.quorum_cell.specs.declared.message.Request.{Request}
use Rattle.quorum_cell.specs.declared.message.Reply.{Reply}
use Rattle.quorum_cell.specs.declared.operation.Aim.{Aim}
use Rattle.quorum_cell.specs.declared.operation.Aim.TheVariants.{Append as AimAppend, Settle as AimSettle, Read as AimRead, Trim as AimTrim}
use Rattle.quorum_cell.specs.declared.operation.Outcome.{Outcome}
use Rattle.quorum_cell.specs.declared.operation.Outcome.TheVariants.{Reached, OpenTail, SealedTail, Gone}
use Rattle.quorum_cell.specs.declared.operation.Wish.{Wish}
use Rattle.quorum_cell.specs.declared.operation.Wish.TheVariants.{Store as WishStore, Seal as WishSeal, Tail as WishTail, Repair as WishRepair, Read as WishRead, Trim as WishTrim}
use Rattle.quorum_cell.specs.declared.operation.CellStep.{CellStep}
use Rattle.quorum_cell.specs.declared.operation.CellStep.TheVariants.{Begin, Send, RequestComes, RequestStops, ReplyComes, Lose, Restart, RestartFails, Decide, Take, Forget}
use Rattle.quorum_cell.specs.Servers.{Server, told, writes, written, restarted}
use Rattle.quorum_cell.specs.Cells.{Cell, Operation, server, operation, is_seal}
use Rattle.quorum_cell.specs.Tallies.{says_sealed, may_decide}

---- an operation begins

abbrev pub is_append : Aim → Bool
is_append (AimAppend e) = true
is_append _ = false

-- there is no room for its entry, or no ticket left
abbrev pub is_full : Cell → Aim → Bool
is_full c aim = (is_append aim && (length c.entries == c.room)) || (length c.operations == c.limit)

abbrev pub entries_after : Cell → Aim → List Entry
entries_after c (AimAppend e) = c.entries ++ e ∷ []
entries_after c _ = c.entries

abbrev pub cut_after : Cell → Aim → ℕ
cut_after c (AimTrim n) = max c.cut (min n c.reach)
cut_after c _ = c.cut

abbrev pub wanted : Cell → Aim → ℕ
wanted c (AimAppend e) = length c.entries + 1
wanted c (AimSettle n) = min n (length c.entries)
wanted c (AimTrim n) = cut_after c (AimTrim n)
wanted c _ = 0

abbrev pub begun : Cell → Aim → Operation
begun c aim = record { aim = aim; want = wanted c aim; heard = []; lost = []; servers_before = c.servers; size_before = length c.entries; reach_before = c.reach; firm_before = c.firm; faults_before = length c.faults; decided = None; given = None; closed = false }

abbrev pub admit : Cell → Aim → Cell
admit c aim = record c { entries = entries_after c aim; cut = cut_after c aim; operations = c.operations ++ begun c aim ∷ [] }

-- one more fault: of server i, or of none where there are not so many
abbrev pub with_fault : Cell → ℕ → Cell
with_fault c i = record c { faults = c.faults ++ i ∷ [] }

abbrev pub begin : Cell → Aim → Cell
begin c aim = if is_full c aim then with_fault c (length c.servers) else admit c aim

---- it sends messages, and they come

abbrev pub ask_read : Aim → Option Ask
ask_read (AimRead p) = Some (Read p)
ask_read _ = None

-- what the wish of an operation comes to: an entry is the cell's own, a trim goes to the cut, and only a seal or an operation that met a sealed server seals
abbrev pub ask_for : Cell → Operation → Wish → Option Ask
ask_for c o (WishStore p) = option_map (λ e. Store p e) (slice_get c.entries p)
ask_for c o WishSeal = if is_seal o.aim || list_any says_sealed o.heard then Some Seal else None
ask_for c o WishTail = Some Tail
ask_for c o (WishRepair p) = option_map (λ e. Repair p e) (slice_get c.entries p)
ask_for c o WishRead = ask_read o.aim
ask_for c o WishTrim = Some (Trim c.cut)

abbrev pub sent : Cell → ℕ → ℕ → Option Ask → Cell
sent c t i None = c
sent c t i (Some ask) = record c { requests = c.requests ++ record { ticket = t; server = i; ask = ask } ∷ [] }

abbrev pub send : Cell → ℕ → ℕ → Wish → Cell
send c t i wish = if not (operation c t).closed && nat_lt i (length c.servers) then sent c t i (ask_for c (operation c t) wish) else c

abbrev pub answered : Cell → Request → Server → Told → Cell
answered c q s t = record c { servers = set c.servers q.server s; replies = c.replies ++ record { ticket = q.ticket; server = q.server; ask = q.ask; told = t } ∷ [] }

-- a request comes to its server
abbrev pub request_comes : Cell → Option Request → Cell
request_comes c None = c
request_comes c (Some q) =
    let s = server c q.server in
    answered c q (if s.up then written s q.ask else s) (told s q.ask)

-- a request comes to its server, which stops inside the write
abbrev pub request_stops : Cell → Option Request → Cell
request_stops c None = c
request_stops c (Some q) =
    let s = server c q.server in
    if s.up && writes s q.ask then answered (with_fault c q.server) q (record s { up = false; torn = Some q.ask }) DiskFault else c

-- whether the operation still waits for its outcome
abbrev pub waits : Operation → Bool
waits o = not (o.closed || is_some o.decided)

abbrev pub put_operation : Cell → ℕ → Operation → Cell
put_operation c t o = record c { operations = set c.operations t o }

-- a reply comes to its operation
abbrev pub reply_comes : Cell → Option Reply → Cell
reply_comes c None = c
reply_comes c (Some r) =
    let o = operation c r.ticket in
    if waits o then put_operation c r.ticket (record o { heard = o.heard ++ r ∷ [] }) else c

-- one more try of message k, or of the reply to it, is lost
abbrev pub lose : Cell → ℕ → Option Request → Cell
lose c k None = c
lose c k (Some q) =
    let o = operation c q.ticket in
    if waits o then put_operation (with_fault c q.server) q.ticket (record o { lost = o.lost ++ record { message = k; server = q.server } ∷ [] }) else c

---- servers come up again

abbrev pub restart : Cell → ℕ → Bool → Cell
restart c i kept =
    let s = server c i in
    if s.up then c else record c { servers = set c.servers i (restarted s kept s.torn) }

abbrev pub restart_fails : Cell → ℕ → Cell
restart_fails c i = if nat_lt i (length c.servers) && not (server c i).up then with_fault c i else c

---- an operation comes to its end

abbrev pub decide : Cell → ℕ → Outcome → Cell
decide c t a =
    let o = operation c t in
    if waits o && may_decide (length c.servers) c.cut o o.aim a then put_operation c t (record o { decided = Some a }) else c

-- the length that an outcome shows to be there for good
abbrev pub reached : Operation → Outcome → ℕ
reached o Reached = o.want
reached o (OpenTail t) = t
reached o _ = 0

-- the length that it speaks of in any way
abbrev pub shown : Operation → Outcome → ℕ
shown o (SealedTail t) = t
shown o a = reached o a

abbrev pub cap_after : Option ℕ → Outcome → Option ℕ
cap_after None (SealedTail t) = Some t
cap_after (Some u) (SealedTail t) = Some (min u t)
cap_after cap _ = cap

-- what the client is given: of a read below the cut, that the entry is let go
abbrev pub given_outcome : ℕ → Aim → Outcome → Outcome
given_outcome cut (AimRead p) a = if nat_lt p cut then Gone else a
given_outcome cut _ a = a

-- an outcome counts from when it is given, and the operation is closed
abbrev pub give : Cell → ℕ → Operation → Option Outcome → Cell
give c t o None = c
give c t o (Some a) = record c {
  reach = max c.reach (reached o a);
  firm = max c.firm (shown o a);
  cap = cap_after c.cap a;
  operations = set c.operations t (record o { given = Some (given_outcome c.cut o.aim a); closed = true });
}

abbrev pub take_outcome : Cell → ℕ → Cell
take_outcome c t = let o = operation c t in if o.closed then c else give c t o o.decided

abbrev pub forget : Cell → ℕ → Cell
forget c t = let o = operation c t in if o.closed then c else put_operation c t (record o { closed = true })

---- every step; one that is not possible changes nothing

abbrev pub cell_step : Cell → CellStep → Cell
cell_step c (Begin aim) = begin c aim
cell_step c (Send t i wish) = send c t i wish
cell_step c (RequestComes k) = request_comes c (slice_get c.requests k)
cell_step c (RequestStops k) = request_stops c (slice_get c.requests k)
cell_step c (ReplyComes k) = reply_comes c (slice_get c.replies k)
cell_step c (Lose k) = lose c k (slice_get c.requests k)
cell_step c (Restart i kept) = restart c i kept
cell_step c (RestartFails i) = restart_fails c i
cell_step c (Decide t a) = decide c t a
cell_step c (Take t) = take_outcome c t
cell_step c (Forget t) = forget c t

-- a list of steps from a cell
abbrev pub run_cell : List CellStep → Cell → Cell
run_cell [] c = c
run_cell (step ∷ steps) c = run_cell steps (cell_step c step)
