-- What a native loglet shows, and what ties it to the quorum cell that it is.
use Rattle.std.specs.Prelude.{◌≡◌, ◌⊎◌, ℕ, zero, suc, ◌+◌, ◌*◌, ◌^◌, ◌<◌, ◌≤◌, nat_eq, nat_le, not, Bool, true, false, cond, if◌then◌else◌, List, [], ◌∷◌, map, drop, length, count_by, slice_get, Option, None, Some}
use Rattle.std.specs.Map.{lookup, KeepsOthers}
use Rattle.delos_types.specs.declared.entry.Entry.{Entry}
use Rattle.disk_model.specs.Disk.{DiskView}
use Rattle.loglet_api.specs.declared.call.Kind.TheVariants.{Native as NativeKind}
use Rattle.loglet_api.specs.View.{LogletView, Operation as OpenOperation}
use Rattle.loglet_api.specs.Servers.{ServerState, ServersView}
use Rattle.quorum_cell.specs.declared.operation.Outcome.{Outcome}
use Rattle.majority_rule.specs.Majority.{majority}
use Rattle.quorum_cell.specs.Servers.{Server, is_sealed}
use Rattle.quorum_cell.specs.Cells.{Cell, operation, seals, lacks}
use Rattle.quorum_cell.specs.Law.{IsLawful}
use Rattle.cell_views.specs.Views.{Manner, IsSpelled, counted}
use Rattle.log_server.specs.View.{View}
use Rattle.native_plan.specs.declared.pending.Pending.{Pending}
use Rattle.native_plan.specs.Pendings.{plan_left, left_now}
use Rattle.native_ties.specs.Parts.{IsPartOf}
use Rattle.native_ties.specs.Strays.{IsRequest, IsReply}
use Rattle.native_loglet.specs.declared.marks.Marks.{Marks}
use Rattle.native_loglet.specs.declared.mail.Mail.{Mail}
use Rattle.native_loglet.specs.declared.mail.Mail.TheVariants as mail

-- how many servers there may be
abbrev pub IsCount : ℕ → Type 0
IsCount n = (n ≡ 1) ⊎ ((n ≡ 3) ⊎ ((n ≡ 5) ⊎ (n ≡ 7)))

-- the open operations, by ticket
abbrev pub PendingList : Type 0
PendingList = List (ℕ × Pending)

-- the parts of a native loglet, as plain values
pub record Native : Type 0 where
  pub room : ℕ
  -- the entries from the cut on, and no others
  pub entries : List Entry
  pub replicas : List View
  pub marks : Marks
  pub pending : PendingList
  -- the copies of messages that came, which may come again
  pub strays : List Mail

abbrev pub native_of : ℕ → List Entry → List View → Marks → PendingList → List Mail → Native
native_of room entries replicas marks pending strays = record { room = room; entries = entries; replicas = replicas; marks = marks; pending = pending; strays = strays }

abbrev pub server_in : View → Server
server_in v = v.server

-- how many servers are down, and whether more than half are sealed
abbrev pub down_in : List View → ℕ
down_in vs = count_by (λ (v : View). not v.server.up) vs

abbrev pub shut_in : List View → Bool
shut_in vs = nat_le (majority (length vs)) (count_by (λ (v : View). is_sealed v.server) vs)

---- the open operations as they are shown

abbrev pub shown : Pending → OpenOperation
shown p = record { task = p.task; size = p.size; reach = p.reach; firm = p.firm; shut = p.shut; faults = p.faults; down = p.down; left = left_now p }

abbrev pub shown_by : ℕ → Option Pending → List (ℕ × OpenOperation) → List (ℕ × OpenOperation)
shown_by t None rest = rest
shown_by t (Some p) rest = (t, shown p) ∷ rest

-- those of so many tickets from t on
abbrev pub shown_from : (ℕ → Option Pending) → ℕ → ℕ → List (ℕ × OpenOperation)
shown_from look t zero = []
shown_from look t (suc n) = shown_by t (look t) (shown_from look (suc t) n)

abbrev pub look_in : PendingList → ℕ → Option Pending
look_in pending t = lookup (nat_eq t) pending

-- the operation of a ticket is this now, or none, and each other is what it was
abbrev pub UpdatesAt : PendingList → PendingList → ℕ → Option Pending → Type 0
UpdatesAt old new t now = ((q : ℕ) → look_in new q ≡ cond (nat_eq t q) now (look_in old q)) × (look_in new t ≡ now) × ((q : ℕ) → nat_eq t q ≡ false → look_in new q ≡ look_in old q) × KeepsOthers nat_eq (nat_eq t) old new

---- what it shows

abbrev pub loglet_of : Native → LogletView
loglet_of a = record {
  kind = NativeKind (length a.replicas);
  servers = length a.replicas;
  quorum = majority (length a.replicas);
  room = a.room;
  rounds = 7;
  limit = 2 ^ 62;
  cut = a.marks.cut;
  log = a.entries;
  reach = a.marks.reach;
  cap = a.marks.cap;
  firm = a.marks.firm;
  shut = shut_in a.replicas;
  operations = shown_from (look_in a.pending) 0 a.marks.begun;
  faults = a.marks.faults;
  down = down_in a.replicas;
  begun = a.marks.begun;
  seals = a.marks.seals;
  lacks = a.marks.lacks;
}

-- a native loglet: what every loglet shows, its servers with their disks, the word that the last carry or stray was given,
-- how many carries and strays there were, and its parts
pub record NativeView : Type 0 where
  pub loglet : LogletView
  pub replicas : List View
  pub told : ℕ
  pub carried : ℕ
  pub strayed : ℕ
  pub parts : Native

abbrev pub native_view : ℕ → List Entry → List View → Marks → PendingList → List Mail → ℕ → ℕ → ℕ → NativeView
native_view room entries replicas marks pending strays told carried strayed = record { loglet = loglet_of (native_of room entries replicas marks pending strays); replicas = replicas; told = told; carried = carried; strayed = strayed; parts = native_of room entries replicas marks pending strays }

---- what is seen of its servers

-- one that is down isn't armed
abbrev pub state_of : Bool → DiskView → ℕ → ℕ → ServerState
state_of up disk stops restarts = record { up = up; armed = if up then disk.armed else 0; word = disk.word; faults = disk.faults; stops = stops; restarts = restarts }

abbrev pub state_in : View → ServerState
state_in v = state_of v.server.up v.disk v.stops v.restarts

-- one of which nothing was asked, whose disk wasn't armed, reopened or failed
abbrev pub new_state : ServerState
new_state = record { up = true; armed = 0; word = 0; faults = 0; stops = 0; restarts = 0 }

-- so it is seen, and its disk isn't stopped
abbrev pub IsNew : View → Type 0
IsNew v = (state_in v ≡ new_state) × (v.disk.stopped ≡ false)

abbrev pub states_in : List View → List ServerState
states_in vs = map state_in vs

-- servers in these states, of a loglet that was told this word last, after so many carries and strays
abbrev pub served_by : List ServerState → ℕ → ℕ → ℕ → ServersView
served_by states told carried strayed = record { states = states; told = told; carries = carried; strays = strayed }

abbrev pub serving_of : NativeView → ServersView
serving_of v = served_by (states_in v.replicas) v.told v.carried v.strayed

---- the cell that it is

-- what is left to do of an undecided operation
abbrev pub left_for : Option Outcome → ℕ × ℕ → ℕ × ℕ
left_for None left = left
left_for (Some a) left = (0, 1)

abbrev pub left_in : Option Pending → ℕ × ℕ
left_in None = (0, 1)
left_in (Some p) = left_for p.outcome (plan_left p)

abbrev pub manner_of : Native → Manner
manner_of a = record { kind = NativeKind (length a.replicas); rounds = 7; left = λ t. left_in (look_in a.pending t) }

-- the operation of a ticket is open as this one is, or closed
abbrev pub IsOpenAs : Cell → ℕ → Option Pending → Type 0
IsOpenAs c t None = (operation c t).closed ≡ true
IsOpenAs c t (Some p) = IsPartOf c t p

-- a copy is a message of the cell, by number, to or from one of its servers
abbrev pub IsMail : Cell → Mail → Type 0
IsMail c (mail.Asked t i a) = (k : ℕ) × IsRequest c k t i a × (i < length c.servers)
IsMail c (mail.Told t i e z) = (k : ℕ) × IsReply c k t i e z × (i < length c.servers)

pub record IsCellOf (a : Native) (c : Cell) : Type 0 where
  pub lawful : IsLawful c
  pub spelled : IsSpelled c
  pub odd : (k : ℕ) × (length c.servers ≡ 2 * k + 1)
  pub few : length c.servers ≤ 7
  pub room : c.room ≡ a.room
  pub limit : c.limit ≡ 2 ^ 62
  pub entries : drop c.cut c.entries ≡ a.entries
  pub servers : c.servers ≡ map server_in a.replicas
  pub cut : c.cut ≡ a.marks.cut
  pub reach : c.reach ≡ a.marks.reach
  pub firm : c.firm ≡ a.marks.firm
  pub cap : c.cap ≡ a.marks.cap
  pub faults : counted (length c.faults) ≡ a.marks.faults
  pub begun : length c.operations ≡ a.marks.begun
  pub seals_are : seals c ≡ a.marks.seals
  pub lacks_are : lacks c ≡ a.marks.lacks
  pub operations : (t : ℕ) → IsOpenAs c t (look_in a.pending t)
  pub strays : (n : ℕ) (m : Mail) → slice_get a.strays n ≡ Some m → IsMail c m

-- there is a cell of which it is the code
abbrev pub IsNative : ℕ → List Entry → List View → Marks → PendingList → List Mail → Type 0
IsNative room entries replicas marks pending strays = (c : Cell) × IsCellOf (native_of room entries replicas marks pending strays) c
