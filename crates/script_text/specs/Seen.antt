-- What the lines so far have said of sessions and of nodes.
use Rattle.std.specs.Prelude.{◌≡◌, ◌==◌, ℕ, Bool, List, [], ◌∷◌, ◌++◌, Option, Some, None, Result, Ok, Err, length, nat_lt, find, if◌then◌else◌}
use Rattle.std.specs.List.{list_any}
use Rattle.std.specs.Str.{bytes_eq}
use Rattle.script_text.specs.declared.line.Rule.{Rule}
use Rattle.script_text.specs.declared.line.Rule.TheVariants.{Retired, Moved, Sessions}
use Rattle.script_text.specs.declared.line.Admin.{Admin}
use Rattle.script_text.specs.declared.line.Admin.TheVariants.{Retire}
use Rattle.script_text.specs.declared.line.Session.{Session}
use Rattle.script_text.specs.declared.seen.Home.{Home}
use Rattle.script_text.specs.declared.line.Fault.{Fault}
use Rattle.script_text.specs.Words.{Word}
use Rattle.script_text.specs.Gives.{Fails}

-- the sessions so far, each at its node, in the order of their first lines; and the nodes that have been asked to leave
pub record Before : Type 0 where
  pub homes : List Home
  pub retired : List ℕ

abbrev pub nothing_yet : Before
nothing_yet = record { homes = []; retired = [] }

-- what a function returned and left is what reading gives, unless memory ran out
abbrev pub Reads : {A : Type 0} → Before → Result A Fault → Result (A × Before) Rule → Type 0
Reads after (Ok x) read = read ≡ Ok (x, after)
Reads after (Err e) read = Fails e read

abbrev pub session : ℕ → Word → Session
session id name = record { id = id; name = name }

abbrev pub home : Session → ℕ → Home
home s node = record { session = s; node = node }

abbrev pub is_named : Word → Home → Bool
is_named name h = bytes_eq h.session.name name

-- where the session with this name is at home
abbrev pub home_of : List Home → Word → Option Home
home_of homes name = find (is_named name) homes

-- an earlier line makes the node leave
abbrev pub is_retired : Before → ℕ → Bool
is_retired b node = list_any (λ n. n == node) b.retired

-- once a node itself is asked
abbrev pub with_asked : Before → ℕ → Admin → Before
with_asked b node Retire = record b { retired = b.retired ++ node ∷ [] }
with_asked b node other = b

-- a new session gets the next number, and is at home at the node of its first line
abbrev pub with_session : Before → ℕ → Word → Before
with_session b node name = record b { homes = b.homes ++ home (session (length b.homes) name) node ∷ [] }

abbrev pub admit_new : Before → ℕ → Word → Result (Session × Before) Rule
admit_new b node name = if nat_lt (length b.homes) 64 then Ok (session (length b.homes) name, with_session b node name) else Err Sessions

abbrev pub admit_at : Before → ℕ → Word → Option Home → Result (Session × Before) Rule
admit_at b node name None = admit_new b node name
admit_at b node name (Some h) = if h.node == node then Ok (h.session, b) else Err Moved

-- a line of a session at a node: no earlier line makes the node leave, and the session is at no other node, and among the first 64
abbrev pub admit : Before → ℕ → Word → Result (Session × Before) Rule
admit b node name = if is_retired b node then Err Retired else admit_at b node name (home_of b.homes name)
