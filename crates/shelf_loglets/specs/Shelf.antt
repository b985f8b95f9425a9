-- What the loglet of a kind shows.
use Rattle.std.specs.Prelude.{◌≡◌, ◌*◌, ◌^◌, ◌≤◌, ℕ, ⊤, false, All}
use Rattle.loglet_api.specs.View.{LogletView}
use Rattle.loglet_api.specs.Servers.{ServersView}
use Rattle.loglet_api.specs.declared.call.Kind.{Kind as LogletKind}
use Rattle.loglet_api.specs.declared.call.Kind.TheVariants as kinds
use Rattle.file_loglet.specs.File.{serving_of as file_serving}
use Rattle.native_loglet.specs.Natives.{serving_of as native_serving}
use Rattle.striped_loglet.specs.Striped.{serving_of as striped_serving}
use Rattle.script_words.specs.declared.shelf.Kind.{Kind}
use Rattle.script_words.specs.declared.shelf.Kind.TheVariants.{File, Native1, Native3, Native5, Native7, Striped2, Striped3, Striped4, Striped5, Striped6, Striped7, Striped8, Nested}
use Rattle.shelf_loglets.specs.declared.shelf.Rooms.{Rooms}
use Rattle.shelf_loglets.specs.declared.shelf.ShelfLoglet.{ShelfLoglet}
use Rattle.shelf_loglets.specs.declared.shelf.ShelfLoglet.TheVariants as made

-- what it shows as a loglet
abbrev pub view_of : ShelfLoglet → LogletView
view_of (made.File l) = l.loglet
view_of (made.Native l) = l.loglet
view_of (made.Striped l) = l.loglet
view_of (made.Nested l) = l.loglet

-- what is seen of its servers
abbrev pub serving_in : ShelfLoglet → ServersView
serving_in (made.File l) = file_serving l
serving_in (made.Native l) = native_serving l
serving_in (made.Striped l) = striped_serving l
serving_in (made.Nested l) = striped_serving l

-- the kind of loglet that a word names
abbrev pub kind_for : Kind → LogletKind
kind_for File = kinds.File
kind_for Native1 = kinds.Native 1
kind_for Native3 = kinds.Native 3
kind_for Native5 = kinds.Native 5
kind_for Native7 = kinds.Native 7
kind_for Striped2 = kinds.Striped 2
kind_for Striped3 = kinds.Striped 3
kind_for Striped4 = kinds.Striped 4
kind_for Striped5 = kinds.Striped 5
kind_for Striped6 = kinds.Striped 6
kind_for Striped7 = kinds.Striped 7
kind_for Striped8 = kinds.Striped 8
kind_for Nested = kinds.Nested

-- how many entries the loglet of a kind takes
abbrev pub room_for : Rooms → Kind → ℕ
room_for rooms File = rooms.single
room_for rooms Native1 = rooms.single
room_for rooms Native3 = rooms.single
room_for rooms Native5 = rooms.single
room_for rooms Native7 = rooms.single
room_for rooms Striped2 = 2 * rooms.inner
room_for rooms Striped3 = 3 * rooms.inner
room_for rooms Striped4 = 4 * rooms.inner
room_for rooms Striped5 = 5 * rooms.inner
room_for rooms Striped6 = 6 * rooms.inner
room_for rooms Striped7 = 7 * rooms.inner
room_for rooms Striped8 = 8 * rooms.inner
room_for rooms Nested = 4 * rooms.inner

-- how many servers it has
abbrev pub servers_for : Kind → ℕ
servers_for File = 1
servers_for Native1 = 1
servers_for Native3 = 3
servers_for Native5 = 5
servers_for Native7 = 7
servers_for Striped2 = 6
servers_for Striped3 = 9
servers_for Striped4 = 12
servers_for Striped5 = 15
servers_for Striped6 = 18
servers_for Striped7 = 21
servers_for Striped8 = 24
servers_for Nested = 12

-- no disk that it shows is stopped; one over stripes shows its servers, and no disks
abbrev pub IsRunning : ShelfLoglet → Type 0
IsRunning (made.File l) = l.disk.stopped ≡ false
IsRunning (made.Native l) = All (λ v. v.disk.stopped ≡ false) l.replicas
IsRunning (made.Striped l) = ⊤
IsRunning (made.Nested l) = ⊤

-- eight inner rooms are at most 2^32
pub record AreRooms (rooms : Rooms) : Type 0 where
  pub single : (1 ≤ rooms.single) × (rooms.single ≤ 2 ^ 32)
  pub inner : (1 ≤ rooms.inner) × (rooms.inner ≤ 2 ^ 29)
