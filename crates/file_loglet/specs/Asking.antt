-- What an operation asks of the server, and how the server goes on by it.
use Rattle.std.specs.Prelude.{◌≡◌, ◌⊎◌, ℕ, suc, ◌+◌, ◌-◌, min, true, false, List, [], ◌∷◌, drop, take, Some, Result, Ok, Err}
use Rattle.delos_types.specs.declared.entry.Entry.{Entry}
use Rattle.loglet_api.specs.declared.call.Task.{Task}
use Rattle.loglet_api.specs.declared.call.Task.TheVariants.{Placing, Settling, Finding, Sealing, Reading, Trimming}
use Rattle.journal_core.specs.declared.fault.Fault.{Fault}
use Rattle.journal_core.specs.declared.fault.Fault.TheVariants.{Disk, Memory}
use Rattle.quorum_cell.specs.declared.message.Ask.{Ask}
use Rattle.quorum_cell.specs.declared.message.Ask.TheVariants.{Store, Seal, Tail, Trim}
use Rattle.quorum_cell.specs.Servers.{Server, length_of, writes, written}

-- a request for each of these entries, the first of them at this position
abbrev pub stores : ℕ → List Entry → List Ask
stores p [] = []
stores p (e ∷ es) = Store p e ∷ stores (suc p) es

-- one for each entry that isn't stored yet, up to a length
abbrev pub stores_up_to : List Entry → ℕ → ℕ → List Ask
stores_up_to behind stored end = stores stored (take (end - stored) behind)

-- What an operation that began at this size asks of the server, where the log has these entries from the cut on. A Read asks
-- nothing: entries are in memory.
abbrev pub asks : List Entry → ℕ → Server → ℕ → Task → List Ask
asks log cut s size Placing = stores_up_to (drop (length_of s - cut) log) (length_of s) (size + 1)
asks log cut s size (Settling n) = stores_up_to (drop (length_of s - cut) log) (length_of s) (min n size)
asks log cut s size Finding = Tail ∷ []
asks log cut s size Sealing = Seal ∷ []
asks log cut s size (Reading q) = []
asks log cut s size (Trimming n) = Trim cut ∷ []

-- A server that is up did what it was asked, in turn, each as a server of a cell does; or stopped inside the write of one.
abbrev pub Follows : Server → List Ask → Server → Type 0
Follows s [] new = new ≡ s
Follows s (ask ∷ rest) new = ((writes s ask ≡ true) × (new ≡ record s { up = false; torn = Some ask })) ⊎ Follows (written s ask) rest new

-- it did the first of them, if any
abbrev pub Begins : Server → List Ask → Server → Type 0
Begins s [] new = new ≡ s
Begins s (ask ∷ rest) new = (new ≡ s) ⊎ Begins (written s ask) rest new

-- so of a call on the server that may fail: where memory was wanting, the first of them
abbrev pub Heeds : {U : Type 0} → Server → List Ask → Result U Fault → Server → Type 0
Heeds s rest (Ok u) new = Follows s rest new
Heeds s rest (Err Disk) new = Follows s rest new
Heeds s rest (Err Memory) new = Begins s rest new

-- and of an operation that is carried: a disk that fails is told in its answer
abbrev pub Obeys : {U E : Type 0} → Server → List Ask → Result U E → Server → Type 0
Obeys s rest (Ok u) new = Follows s rest new
Obeys s rest (Err e) new = Begins s rest new
