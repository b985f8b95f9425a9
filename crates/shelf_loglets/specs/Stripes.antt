-- What a stripe shows, and new servers.
use Rattle.std.specs.Prelude.{◌≡◌, ℕ, replicate}
use Rattle.loglet_api.specs.declared.call.Kind.{Kind}
use Rattle.loglet_api.specs.Sound.{IsSound}
use Rattle.loglet_api.specs.Servers.{ServersView}
use Rattle.loglet_api.specs.View.{LogletView, IsFresh}
use Rattle.native_loglet.specs.Natives.{new_state}

-- a loglet of this kind with these numbers, on which nothing was begun
pub record IsStripe (kind : Kind) (servers rounds room : ℕ) (v : LogletView) : Type 0 where
  pub fresh : IsFresh v
  pub sound : IsSound v
  pub kind_is : v.kind ≡ kind
  pub servers_are : v.servers ≡ servers
  pub rounds_are : v.rounds ≡ rounds
  pub room_is : v.room ≡ room

-- so many servers that are up, none of them armed, reopened or failed; nothing was asked of them or of their loglet
abbrev pub new_servers : ℕ → ServersView
new_servers n = record { states = replicate n new_state; told = 0; carries = 0; strays = 0 }
