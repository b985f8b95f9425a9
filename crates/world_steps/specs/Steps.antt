-- The steps of a world. A step touches one part, and one that is not possible changes nothing.
use Rattle.std.specs.Prelude.{ℕ, ◌+◌, Bool, true, false, not, ◌&&◌, ◌==◌, nat_lt, if◌then◌else◌, List, [], ◌∷◌, ◌++◌, length, set, Option, Some, None}
use Rattle.delos_types.specs.declared.entry.Entry.{Entry}
use Rattle.delos_types.specs.declared.chain.Chain.{Chain}
use Rattle.loglet_api.specs.declared.call.Op.{Op}
use Rattle.loglet_api.specs.declared.call.Answer.{Answer}
use Rattle.loglet_api.specs.declared.call.Refused.TheVariants.{Full as FullLoglet}
use Rattle.loglet_api.specs.declared.call.LogletCall.{LogletCall}
use Rattle.loglet_api.specs.declared.call.LogletCall.TheVariants.{Begin as CallBegin, Take as CallTake, Forget as CallForget, Stray as CallStray}
use Rattle.loglet_api.specs.declared.call.LogletAnswer.{LogletAnswer}
use Rattle.loglet_api.specs.declared.call.LogletAnswer.TheVariants.{Begun as BegunOn, Refusal, Taken, Forgotten, Strayed}
use Rattle.quorum_cell.specs.declared.operation.CellStep.{CellStep}
use Rattle.quorum_cell.specs.declared.operation.CellStep.TheVariants as cell
use Rattle.striped_cells.specs.declared.motion.Motion.{Motion}
use Rattle.striped_cells.specs.declared.motion.Motion.TheVariants.{Servers}
use Rattle.striped_cells.specs.Motions.{is_inner, aim_of}
use Rattle.legal_journal.specs.declared.events.FabricCall.{FabricCall}
use Rattle.legal_journal.specs.declared.events.FabricCall.TheVariants.{Begin as AskBegin, Carry as AskCarry, Forget as AskForget, ReadChain as AskRead, WriteChain as AskWrite, MendMeta as AskMend}
use Rattle.legal_journal.specs.declared.events.FabricAnswer.{FabricAnswer}
use Rattle.legal_journal.specs.declared.events.FabricAnswer.TheVariants.{Begun, Full, Done, Gone, At, Down, Written, Conflict, MetaFault, Set}
use Rattle.legal_journal.specs.declared.events.Event.{Event}
use Rattle.world_steps.specs.declared.step.ChainChange.{ChainChange}
use Rattle.world_steps.specs.declared.step.WorldStep.{WorldStep}
use Rattle.world_steps.specs.declared.step.WorldStep.TheVariants.{Inside, Begin, Take, Forget, ReadChain, WriteChain, WriteStops, MendRegister, MendFails, Apply, StopNode, RestartNode}
use Rattle.world_steps.specs.declared.cell.WorldCell.{WorldCell}
use Rattle.world_steps.specs.Cells.{view_of, is_full, begun, answer_of, taken, is_open, forgotten, stirred}
use Rattle.world_steps.specs.Parts.{Register, Node, World, cell_at, node_at, given_under}
use Rattle.world_steps.specs.Events.{is_owner}
use Rattle.world_steps.specs.Guards.{may_begin, changed, may_follow}
use Rattle.world_steps.specs.Logs.{log_at}

abbrev pub event : ℕ → FabricCall → FabricAnswer → List Event
event who call answer = record { who = who; call = call; answer = answer } ∷ []

-- a client asked this, and was told that
abbrev pub world_with : World → ℕ → FabricCall → FabricAnswer → World
world_with w who call answer = record w { events = w.events ++ event who call answer }

---- cells

-- what is done in one cell
pub record Deed : Type 0 where
  pub at : ℕ
  -- what the cell is then
  pub cell : WorldCell
  -- the steps that it is of a quorum cell, and the calls that it is of a loglet, with what they returned
  pub steps : List CellStep
  pub calls : List (LogletCall × LogletAnswer)
  -- what its client asked and was told, if it is a client's
  pub event : List Event

-- the steps that a motion is of a quorum cell
abbrev pub inner_steps : List ℕ → Motion → List CellStep
inner_steps [] (Servers step) = if is_inner step then step ∷ [] else []
inner_steps path m = []

-- something moves: that is nobody's call
abbrev pub moves_inside : World → ℕ → List ℕ → Motion → Option Deed
moves_inside w i path m =
    if nat_lt i (length w.cells)
    then Some (record { at = i; cell = stirred (cell_at w.cells i) path m; steps = inner_steps path m; calls = (CallStray 0, Strayed) ∷ []; event = [] })
    else None

-- what the client of an operation that begins is told
abbrev pub begin_answer : WorldCell → Op → FabricAnswer
begin_answer c op = if is_full c op then Full else Begun (view_of c).begun

abbrev pub begin_returned : WorldCell → Op → LogletAnswer
begin_returned c op = if is_full c op then Refusal FullLoglet else BegunOn (view_of c).begun

abbrev pub begins_op : World → ℕ → ℕ → Op → Option Deed
begins_op w who i op =
    if nat_lt i (length w.cells) && may_begin w i op
    then Some (record { at = i; cell = begun (cell_at w.cells i) op; steps = cell.Begin (aim_of op) ∷ []; calls = (CallBegin op, begin_returned (cell_at w.cells i) op) ∷ []; event = event who (AskBegin i op) (begin_answer (cell_at w.cells i) op) })
    else None

abbrev pub told : World → ℕ → ℕ → ℕ → Option Answer → Option Deed
told w who i t None = None
told w who i t (Some answer) = Some (record { at = i; cell = taken (cell_at w.cells i) t; steps = cell.Take t ∷ []; calls = (CallTake t, Taken (Some answer)) ∷ []; event = event who (AskCarry i t 0) (Done answer) })

abbrev pub takes_answer : World → ℕ → ℕ → ℕ → Option Deed
takes_answer w who i t = if nat_lt i (length w.cells) && is_owner w.events who i t then told w who i t (answer_of (cell_at w.cells i) t) else None

abbrev pub forgets_op : World → ℕ → ℕ → ℕ → Option Deed
forgets_op w who i t =
    if (nat_lt i (length w.cells) && is_owner w.events who i t) && is_open (cell_at w.cells i) t
    then Some (record { at = i; cell = forgotten (cell_at w.cells i) t; steps = cell.Forget t ∷ []; calls = (CallForget t, Forgotten) ∷ []; event = event who (AskForget i t) Gone })
    else None

-- what a step does in a cell
abbrev pub deed : World → WorldStep → Option Deed
deed w (Inside i path m) = moves_inside w i path m
deed w (Begin who i op) = begins_op w who i op
deed w (Take who i t) = takes_answer w who i t
deed w (Forget who i t) = forgets_op w who i t
deed w step = None

abbrev pub done : World → Option Deed → World
done w None = w
done w (Some d) = record w { cells = set w.cells d.at d.cell; events = w.events ++ d.event }

---- the register

-- a client is given what stands
abbrev pub gave : Register → Register
gave r = if r.version == length r.given then r else record r { given = r.given ++ r.chain ∷ [] }

abbrev pub replaced : Register → Chain → Register
replaced r c = record r { version = r.version + 1; chain = c; given = r.given ++ c ∷ [] }

-- it stops inside a write
abbrev pub torn_by : Register → Chain → Register
torn_by r c = record r { torn = Some c; up = false }

-- it comes up again, and finds the write done or not
abbrev pub mended : Register → Bool → Option Chain → Register
mended r kept None = record r { torn = None; up = true }
mended r true (Some c) = record r { version = r.version + 1; chain = c; torn = None; up = true }
mended r false (Some c) = record r { torn = None; up = true }

abbrev pub on_register : World → Register → ℕ → FabricCall → FabricAnswer → World
on_register w r who call answer = record w { register = r; events = w.events ++ event who call answer }

abbrev pub reads : World → ℕ → World
reads w who =
    let r = w.register in
    if r.up then on_register w (gave r) who AskRead (At r.version r.chain) else on_register w r who AskRead Down

-- the chain that follows this one, where one may
abbrev pub followed : World → ChainChange → Option Chain → Option Chain
followed w change None = None
followed w change (Some old) = if may_follow w old change then Some (changed old change) else None

-- a write of this chain comes to the register
abbrev pub asked : World → ℕ → ℕ → Chain → World
asked w who expected chain =
    let r = w.register in
    if not r.up then on_register w r who (AskWrite expected chain) Down
    else if not (expected == r.version) then on_register w (gave r) who (AskWrite expected chain) (Conflict r.version r.chain)
    else on_register w (replaced r chain) who (AskWrite expected chain) (Written (r.version + 1))

-- a write comes to the register: it asks for the chain that follows, by this change, the one that was given under the version that it expects
abbrev pub writes : World → ℕ → ℕ → ChainChange → Option Chain → World
writes w who expected change None = w
writes w who expected change (Some old) = if may_follow w old change then asked w who expected (changed old change) else w

-- .. and the register stops inside it
abbrev pub torn_world : World → ℕ → ℕ → Chain → World
torn_world w who expected chain = on_register w (torn_by w.register chain) who (AskWrite expected chain) MetaFault

abbrev pub stops_writing : World → ℕ → ℕ → ChainChange → Option Chain → World
stops_writing w who expected change None = w
stops_writing w who expected change (Some old) =
    if (w.register.up && (expected == w.register.version)) && may_follow w old change then torn_world w who expected (changed old change) else w

abbrev pub mends : World → ℕ → Bool → World
mends w who kept = let r = w.register in if r.up then w else on_register w (mended r kept r.torn) who (AskMend 0) (Set true)

abbrev pub stays_down : World → ℕ → World
stays_down w who = if w.register.up then w else on_register w w.register who (AskMend 0) (Set false)

---- nodes

abbrev pub with_entry : List Entry → Option Entry → List Entry
with_entry applied None = applied
with_entry applied (Some e) = applied ++ e ∷ []

abbrev pub put_node : World → ℕ → Node → World
put_node w k n = record w { nodes = set w.nodes k n }

-- the entry that a node applies next
abbrev pub next_entry : World → Node → Option Entry
next_entry w n = log_at w (length n.applied)

abbrev pub applies : World → ℕ → World
applies w k = let n = node_at w.nodes k in if n.up then put_node w k (record n { applied = with_entry n.applied (next_entry w n) }) else w

-- it may be applying the next entry as it stops
abbrev pub stops_node : World → ℕ → World
stops_node w k = let n = node_at w.nodes k in if n.up then put_node w k (record n { torn = next_entry w n; up = false }) else w

-- it comes up again, and finds that entry applied or not
abbrev pub restarted_node : Node → Bool → Node
restarted_node n kept = record { applied = if kept then with_entry n.applied n.torn else n.applied; torn = None; up = true }

abbrev pub restarts_node : World → ℕ → Bool → World
restarts_node w k kept =
    let n = node_at w.nodes k in
    if n.up then w else put_node w k (restarted_node n kept)

---- every step

abbrev pub world_step : World → WorldStep → World
world_step w (ReadChain who) = reads w who
world_step w (WriteChain who expected change) = writes w who expected change (given_under w.register expected)
world_step w (WriteStops who expected change) = stops_writing w who expected change (given_under w.register expected)
world_step w (MendRegister who kept) = mends w who kept
world_step w (MendFails who) = stays_down w who
world_step w (Apply k) = applies w k
world_step w (StopNode k) = stops_node w k
world_step w (RestartNode k kept) = restarts_node w k kept
world_step w step = done w (deed w step)

abbrev pub run_world : List WorldStep → World → World
run_world [] w = w
run_world (step ∷ steps) w = run_world steps (world_step w step)
