-- What a journal tells, and which event may follow it.
use Rattle.std.specs.Prelude.{◌≡◌, ◌≢◌, ℕ, ◌+◌, ◌<◌, ◌≤◌, ◌^◌, Bool, true, false, if◌then◌else◌, List, [], ◌∷◌, ◌++◌, length, slice_get, Option, Some, None, ◌⊎◌, Contains}
use Rattle.delos_types.specs.declared.entry.Entry.{Entry}
use Rattle.delos_types.specs.Spelling.{IsSpellable}
use Rattle.delos_types.specs.declared.chain.Segment.{Segment}
use Rattle.delos_types.specs.declared.chain.Chain.{Chain}
use Rattle.chain_map.specs.Chain.{first_chain, last_of_segments}
use Rattle.chain_map.specs.Step.{extended, dropped_below}
use Rattle.loglet_api.specs.declared.call.Op.{Op}
use Rattle.loglet_api.specs.declared.call.Op.TheVariants.{Append, Seal, Trim}
use Rattle.loglet_api.specs.declared.call.Answer.{Answer}
use Rattle.loglet_api.specs.declared.call.Answer.TheVariants.{SealedTail}
use Rattle.loglet_api.specs.Step.{entries_of}
use Rattle.legal_journal.specs.declared.events.FabricCall.{FabricCall}
use Rattle.legal_journal.specs.declared.events.FabricCall.TheVariants.{Begin, Carry, Forget, ReadChain, WriteChain, Stop, Mend, Stray, StopMeta, MendMeta}
use Rattle.legal_journal.specs.declared.events.Event.{Event}
use Rattle.legal_journal.specs.Law.{Law}
use Rattle.legal_journal.specs.Told.{Told, Running, put, untold, begun, answered, forgotten, size_of, MayAnswer}
use Rattle.legal_journal.specs.Shown.{end_of, entry_of}
use Rattle.legal_journal.specs.Moves.{CellMove, Begins, Carries, Answers, Drops, Misses, RegisterMove, Gives, Conflicts, Writes, Faults, Fails, Mends, Move, OnCell, OnRegister, Nothing, Never, move}

-- What a journal tells.

pub record CellState : Type 0 where
  -- what the loglet's own calls and answers tell
  pub told : Told
  -- all its entries, trimmed ones too
  pub entries : List Entry
  -- its answered sealed tails
  pub ends : List ℕ
  -- who began each ticket, and how many carries left it undecided
  pub owner : ℕ → ℕ
  pub carried : ℕ → ℕ

pub record RegisterState : Type 0 where
  -- the last version and chain that are known
  pub version : ℕ
  pub chain : Chain
  -- each known chain, by its version
  pub given : ℕ → Option Chain
  -- the chain of a write that faulted, until it is known whether it stands
  pub asked : Option Chain
  pub down : Bool

pub record State : Type 0 where
  pub cells : ℕ → CellState
  pub register : RegisterState
  -- where a chain had each cell's segment start
  pub starts : ℕ → Option ℕ
  -- what the log shows at each position, or did before it was trimmed
  pub shown : ℕ → Option Entry

abbrev pub fresh_cell : CellState
fresh_cell = record { told = untold; entries = []; ends = []; owner = λ _. 0; carried = λ _. 0 }

abbrev pub fresh_register : RegisterState
fresh_register = record {
  version = 1;
  chain = first_chain;
  given = put (λ _. None) 1 (Some first_chain);
  asked = None;
  down = false;
}

abbrev pub start : State
start = record {
  cells = λ _. fresh_cell;
  register = fresh_register;
  starts = put (λ _. None) 0 (Some 0);
  shown = λ _. None;
}

-- What each move does to it.

abbrev pub ends_told : List ℕ → Answer → List ℕ
ends_told ends (SealedTail t) = ends ++ t ∷ []
ends_told ends a = ends

abbrev pub answered_by : Told → ℕ → Answer → Option Running → Told
answered_by c t a None = c
answered_by c t a (Some r) = answered c t r a

abbrev pub cell_after : ℕ → CellState → CellMove → CellState
cell_after who c (Begins op t) = record {
  told = begun c.told op t;
  entries = c.entries ++ entries_of op;
  ends = c.ends;
  owner = put c.owner t who;
  carried = put c.carried t 0;
}
cell_after who c (Carries t) = record {
  told = c.told;
  entries = c.entries;
  ends = c.ends;
  owner = c.owner;
  carried = put c.carried t (c.carried t + 1);
}
cell_after who c (Answers t a) = record {
  told = answered_by c.told t a (c.told.ops t);
  entries = c.entries;
  ends = ends_told c.ends a;
  owner = c.owner;
  carried = c.carried;
}
cell_after who c (Drops t) = record {
  told = forgotten c.told t;
  entries = c.entries;
  ends = c.ends;
  owner = c.owner;
  carried = c.carried;
}
cell_after who c (Misses t) = c

abbrev pub known : RegisterState → ℕ → Chain → RegisterState
known r v c = record { version = v; chain = c; given = put r.given v (Some c); asked = None; down = false }

abbrev pub register_after : RegisterState → RegisterMove → RegisterState
register_after r (Gives v c) = known r v c
register_after r (Conflicts x v c) = known r v c
register_after r (Writes x c v) = known r v c
register_after r (Faults x c) = record {
  version = r.version;
  chain = r.chain;
  given = r.given;
  asked = Some c;
  down = true;
}
register_after r Fails = r
register_after r (Mends b) = record {
  version = r.version;
  chain = r.chain;
  given = r.given;
  asked = r.asked;
  down = if b then false else r.down;
}

abbrev pub reach : (ℕ → CellState) → ℕ → ℕ
reach cells i = (cells i).told.reach

abbrev pub entries : (ℕ → CellState) → ℕ → List Entry
entries cells i = (cells i).entries

abbrev pub ends : (ℕ → CellState) → ℕ → List ℕ
ends cells i = (cells i).ends

-- The log: the entry at each position, from the trim up to the tail.

abbrev pub log_of : (ℕ → CellState) → Chain → ℕ → Option Entry
log_of cells chain pos = entry_of (reach cells) (entries cells) chain pos

abbrev pub log_at : State → ℕ → Option Entry
log_at w pos = log_of w.cells w.register.chain pos

abbrev pub trim_of : State → ℕ
trim_of w = w.register.chain.trim

abbrev pub last_segment : State → Segment
last_segment w = last_of_segments w.register.chain.segments

abbrev pub tail_of : State → ℕ
tail_of w = end_of (reach w.cells) (last_segment w)

-- what is shown at a position now, or else was
abbrev pub now_or_before : Option Entry → Option Entry → Option Entry
now_or_before (Some e) before = Some e
now_or_before None before = before

abbrev pub make : (ℕ → CellState) → RegisterState → (ℕ → Option ℕ) → (ℕ → Option Entry) → State
make cells register starts shown = record {
  cells = cells;
  register = register;
  starts = starts;
  shown = λ pos. now_or_before (log_of cells register.chain pos) (shown pos);
}

abbrev pub after : State → ℕ → Move → State
after w who (OnCell i m) = make (put w.cells i (cell_after who (w.cells i) m)) w.register w.starts w.shown
after w who (OnRegister m) =
    let r = register_after w.register m in
    let s = last_of_segments r.chain.segments in
    make w.cells r (put w.starts s.id (Some s.start)) w.shown
after w who Nothing = w
after w who Never = w

abbrev pub after_all : State → List Event → State
after_all w [] = w
after_all w (e ∷ es) = after_all (after w e.who (move e)) es

-- what a whole journal tells
abbrev pub state_of : List Event → State
state_of es = after_all start es

-- What may happen.

-- A chain closes its last segment at a sealed tail that its cell answered, and goes on in the next cell, of which there
-- is one.
pub record Extends (ends : ℕ → List ℕ) (cells : ℕ) (old new : Chain) : Type 0 where
  pub at : ℕ
  pub told : Contains (ends (last_of_segments old.segments).id) at
  pub spare : (last_of_segments old.segments).id + 1 < cells
  pub is : new ≡ extended old at

-- A chain raises its trim.
pub record Raises (old new : Chain) : Type 0 where
  pub trim : ℕ
  pub above : old.trim < trim
  pub small : trim ≤ 2 ^ 38
  pub is : new ≡ dropped_below old trim

-- the log shows these entries from position 0 on, or did
abbrev pub Shows : (ℕ → Option Entry) → List Entry → Type 0
Shows shown es = (i : ℕ) → i < length es → shown i ≡ slice_get es i

-- what the log shows has a beginning that lets it be trimmed to n
pub record IsFree (shown : ℕ → Option Entry) (floor : List Entry → ℕ → Type 0) (n : ℕ) : Type 0 where
  pub log : List Entry
  pub shows : Shows shown log
  pub free : floor log n

abbrev pub MayFollow : State → (List Entry → ℕ → Type 0) → ℕ → Chain → Chain → Type 0
MayFollow w floor cells old new = Extends (ends w.cells) cells old new ⊎ (Raises old new × IsFree w.shown floor new.trim)

-- what the register may tell: what is known, or that the write that faulted stands
abbrev pub IsCurrent : RegisterState → ℕ → Chain → Type 0
IsCurrent r v c = ((v ≡ r.version) × (c ≡ r.chain)) ⊎ ((v ≡ r.version + 1) × (r.asked ≡ Some c))

-- Before who begins an operation on a cell: an Append's entry has a spelling, and is who's to append; a Trim lets go of what some chain's trim had
-- passed; the last cell of the shelf isn't sealed.
abbrev pub MayBegin : State → (ℕ → Entry → Type 0) → ℕ → ℕ → ℕ → Op → Type 0
MayBegin w may cells who i (Append e) = IsSpellable e × may who e
MayBegin w may cells who i (Trim n) = (s : ℕ) × (w.starts i ≡ Some s) × (s + n ≤ trim_of w)
MayBegin w may cells who i Seal = i + 1 < cells
MayBegin w may cells who i op = Unit {0}

-- an append finds room
abbrev pub HasRoom : Told → Op → Type 0
HasRoom c (Append e) = size_of c < 2 ^ 32
HasRoom c op = Unit {0}

-- the ticket is open, and it is who's
pub record IsOwn (c : CellState) (who t : ℕ) (r : Running) : Type 0 where
  pub is_open : c.told.ops t ≡ Some r
  pub own : c.owner t ≡ who

-- so many carries at most leave one operation undecided
abbrev pub patience : ℕ
patience = 2 ^ 117

-- Tickets are 0, 1, 2 and so on. An open one is carried and closed by the who that began it.
abbrev pub CellAllowed : State → (ℕ → Entry → Type 0) → ℕ → ℕ → ℕ → CellMove → Type 0
CellAllowed w may cells who i (Begins op t) =
    MayBegin w may cells who i op × HasRoom (w.cells i).told op × (t ≡ (w.cells i).told.begun)
CellAllowed w may cells who i (Carries t) =
    ((r : Running) × IsOwn (w.cells i) who t r) × ((w.cells i).carried t < patience)
CellAllowed w may cells who i (Answers t a) =
    (r : Running) × IsOwn (w.cells i) who t r × MayAnswer (w.cells i).told r r.op a
CellAllowed w may cells who i (Drops t) = (r : Running) × IsOwn (w.cells i) who t r
CellAllowed w may cells who i (Misses t) = (w.cells i).told.ops t ≡ None

abbrev pub RegisterAllowed : State → (List Entry → ℕ → Type 0) → ℕ → RegisterMove → Type 0
RegisterAllowed w floor cells (Gives v c) = (w.register.down ≡ false) × IsCurrent w.register v c
RegisterAllowed w floor cells (Conflicts x v c) =
    (w.register.down ≡ false) × IsCurrent w.register v c × (x ≢ v)
RegisterAllowed w floor cells (Writes x c v) =
    (w.register.down ≡ false) × (x ≡ w.register.version) × MayFollow w floor cells w.register.chain c × (v ≡ x + 1)
RegisterAllowed w floor cells (Faults x c) =
    (w.register.down ≡ false) × (x ≡ w.register.version) × MayFollow w floor cells w.register.chain c
RegisterAllowed w floor cells Fails = w.register.down ≡ true
RegisterAllowed w floor cells (Mends b) = Unit {0}

abbrev pub IsAllowed : State → Law → ℕ → Move → Type 0
IsAllowed w law who (OnCell i m) = CellAllowed w law.may (length law.shelf) who i m
IsAllowed w law who (OnRegister m) = RegisterAllowed w law.floor (length law.shelf) m
IsAllowed w law who Nothing = Unit {0}
IsAllowed w law who Never = ⊥

-- the cell has this server
abbrev pub HasServer : List ℕ → ℕ → ℕ → Type 0
HasServer shelf i server = (servers : ℕ) × (slice_get shelf i ≡ Some servers) × (server < servers)

-- the cells and servers that the call names are there
abbrev pub Exists : List ℕ → FabricCall → Type 0
Exists shelf (Begin i op) = i < length shelf
Exists shelf (Carry i t word) = i < length shelf
Exists shelf (Forget i t) = i < length shelf
Exists shelf ReadChain = Unit {0}
Exists shelf (WriteChain x c) = Unit {0}
Exists shelf (Stop i server n) = HasServer shelf i server
Exists shelf (Mend i server word) = HasServer shelf i server
Exists shelf (Stray i word) = i < length shelf
Exists shelf (StopMeta n) = Unit {0}
Exists shelf (MendMeta word) = Unit {0}

-- the event may follow
pub record MayHappen (w : State) (law : Law) (e : Event) : Type 0 where
  pub there : Exists law.shelf e.call
  pub allowed : IsAllowed w law e.who (move e)

-- each event may follow those before it
abbrev pub IsLegalFrom : State → Law → List Event → Type 0
IsLegalFrom w law [] = Unit {0}
IsLegalFrom w law (e ∷ es) = MayHappen w law e × IsLegalFrom (after w e.who (move e)) law es

-- a journal over a shelf of 1 to 64 cells, each event of which may follow those before it
pub record IsLegal (law : Law) (es : List Event) : Type 0 where
  pub least : 0 < length law.shelf
  pub most : length law.shelf ≤ 64
  pub steps : IsLegalFrom start law es
