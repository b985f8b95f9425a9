-- A cell: log servers, every message ever sent, and the operations on them.
use Rattle.std.specs.Prelude.{ℕ, Bool, true, false, not, List, [], length, count_by, get_or, replicate, Option, Some, None}
use Rattle.delos_types.specs.declared.entry.Entry.{Entry}
use Rattle.quorum_cell.specs.declared.message.Request.{Request}
use Rattle.quorum_cell.specs.declared.message.Reply.{Reply}
use Rattle.quorum_cell.specs.declared.operation.Aim.{Aim}
use Rattle.quorum_cell.specs.declared.operation.Loss.{Loss}
use Rattle.quorum_cell.specs.declared.operation.Aim.TheVariants.{Tail, Seal}
use Rattle.quorum_cell.specs.declared.operation.Outcome.{Outcome}
use Rattle.quorum_cell.specs.declared.operation.Outcome.TheVariants.{NoQuorum}
use Rattle.majority_rule.specs.Majority.{is_majority, votes_below}
use Rattle.quorum_cell.specs.Servers.{Server, is_sealed}

pub record Operation : Type 0 where
  pub aim : Aim
  pub want : ℕ  -- the length that an append or a settle waits for, the cut of a trim
  pub heard : List Reply  -- the tally: the replies that came to it
  pub lost : List Loss  -- each try of its messages that was lost
  pub servers_before : List Server  -- the cell as it began: its servers, its size, the lengths that were answered, and the number of its faults
  pub size_before : ℕ
  pub reach_before : ℕ
  pub firm_before : ℕ
  pub faults_before : ℕ
  pub decided : Option Outcome  -- what it came to
  pub given : Option Outcome  -- what its client was given
  pub closed : Bool

pub record Cell : Type 0 where
  pub room : ℕ  -- the greatest number of entries, and of operations
  pub limit : ℕ
  pub entries : List Entry  -- the entry of every append begun
  pub servers : List Server
  pub requests : List Request  -- every message ever sent, in order
  pub replies : List Reply
  pub operations : List Operation  -- by ticket
  pub cut : ℕ  -- the entries below it may be let go
  pub reach : ℕ  -- the greatest length given to an append, a settle or an open tail
  pub firm : ℕ  -- the greatest length given in any way
  pub cap : Option ℕ  -- the least sealed tail given
  pub faults : List ℕ  -- the server of each fault, in order; of a refusal the number of servers, which names none

-- what stands at a number that names no server or operation
abbrev pub no_server : Server
no_server = record { base = 0; entries = []; sealed_at = None; up = false; torn = None }

abbrev pub no_operation : Operation
no_operation = record { aim = Tail; want = 0; heard = []; lost = []; servers_before = []; size_before = 0; reach_before = 0; firm_before = 0; faults_before = 0; decided = None; given = None; closed = true }

abbrev pub server : Cell → ℕ → Server
server c i = get_or c.servers i no_server

abbrev pub operation : Cell → ℕ → Operation
operation c t = get_or c.operations t no_operation

abbrev pub server_before : Operation → ℕ → Server
server_before o i = get_or o.servers_before i no_server

-- a cell of n empty servers that are up
abbrev pub start : ℕ → ℕ → ℕ → Cell
start n room limit = record { room = room; limit = limit; entries = []; servers = replicate n (record no_server { up = true }); requests = []; replies = []; operations = []; cut = 0; reach = 0; firm = 0; cap = None; faults = [] }

-- more than half of the servers are sealed
abbrev pub is_shut : Cell → Bool
is_shut c = is_majority (length c.servers) (λ i. is_sealed (server c i))

-- how many servers are down
abbrev pub down : Cell → ℕ
down c = votes_below (length c.servers) (λ i. not (server c i).up)

abbrev pub is_seal : Aim → Bool
is_seal Seal = true
is_seal _ = false

abbrev pub is_lack : Option Outcome → Bool
is_lack (Some (NoQuorum u)) = true
is_lack _ = false

-- how many seals were begun
abbrev pub seals : Cell → ℕ
seals c = count_by (λ (o : Operation). is_seal o.aim) c.operations

-- how many clients were given that there is no quorum
abbrev pub lacks : Cell → ℕ
lacks c = count_by (λ (o : Operation). is_lack o.given) c.operations
