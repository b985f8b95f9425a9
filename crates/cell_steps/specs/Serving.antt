-- What a server does with a request.
use Rattle.std.specs.Prelude.{ℕ, ◌^◌, ◌≤◌, [], ◌∷◌, ◌++◌, if◌then◌else◌, set, ⊤}
use Rattle.quorum_cell.specs.declared.message.Ask.{Ask}
use Rattle.quorum_cell.specs.declared.message.Ask.TheVariants.{Trim}
use Rattle.quorum_cell.specs.declared.message.Request.{Request}
use Rattle.quorum_cell.specs.declared.message.Told.{Told}
use Rattle.quorum_cell.specs.Servers.{written}
use Rattle.quorum_cell.specs.Cells.{Cell, server}

-- a trim goes no further than a log has places
abbrev pub AskFits : Ask → Type 0
AskFits (Trim n) = n ≤ 2 ^ 32
AskFits _ = ⊤

-- the server of a request made the write that its answer wants
abbrev pub served : Cell → Request → Cell
served c q = let s = server c q.server in record c { servers = set c.servers q.server (if s.up then written s q.ask else s) }

-- the server of a request answers it
abbrev pub replied : Cell → Request → Told → Cell
replied c q t = record c { replies = c.replies ++ record { ticket = q.ticket; server = q.server; ask = q.ask; told = t } ∷ [] }
