-- What a log server holds in memory, and what callers see of it.
use Rattle.std.specs.Prelude.{ℕ, ◌<◌, not}
use Rattle.std.specs.VecDeque.{deque_len, deque_capacity}
use Rattle.quorum_cell.specs.declared.message.Ask.{Ask}
use Rattle.quorum_cell.specs.declared.message.Ask.TheVariants.{Store, Seal, Tail, Repair, Read, Trim}
use Rattle.quorum_cell.specs.Servers.{Server}
use Rattle.kept_value.specs.View as kept
use Rattle.kept_value.specs.Keeping.{IsKept}
use Rattle.log_server.specs.declared.held.Held.{Held}
use Rattle.log_server.specs.Kind.{server_at, server_kind, IsSound}
use Rattle.log_server.specs.View.{View}

-- a server that is up and holds this
abbrev pub server_with : Held → Server
server_with h = server_at h.base h.sealed_at h.entries.items

-- there is room for the entry that it takes by this, if it takes one
abbrev pub IsRoomFor : Held → Ask → Type 0
IsRoomFor h (Store p e) = deque_len h.entries < deque_capacity h.entries
IsRoomFor h (Repair p e) = deque_len h.entries < deque_capacity h.entries
IsRoomFor h Seal = Unit {0}
IsRoomFor h Tail = Unit {0}
IsRoomFor h (Read p) = Unit {0}
IsRoomFor h (Trim n) = Unit {0}

-- what it holds and whether it is up, as callers see it
abbrev pub server_shown : Held → kept.View Ask → Server
server_shown h k = record { base = h.base; entries = h.entries.items; sealed_at = h.sealed_at; up = not k.journal.shut; torn = k.asked }

-- what callers see, once so many stops and restarts were asked for
abbrev pub view_of : Held → kept.View Ask → ℕ → ℕ → View
view_of h k stops restarts = record { server = server_shown h k; disk = k.journal.disk; stands = k.stands; stops = stops; restarts = restarts }

-- The journal keeps what is held, of which some bytes spell all.
pub record IsHeld (h : Held) (k : kept.View Ask) : Type 0 where
  pub sound : IsSound (server_with h)
  pub kept : IsKept server_kind (server_with h) k
