-- The rules that a run over nodes picks for its log: who may append what.
use Rattle.std.specs.Prelude.{◌≡◌, ℕ, List, Option, Some, slice_get}
use Rattle.std.specs.List.{AllByRecursion}
use Rattle.delos_types.specs.declared.entry.Entry.{Entry}
use Rattle.legal_journal.specs.Law.{Law}
use Rattle.table_core.specs.declared.command.Command.{Command}
use Rattle.engine_api.specs.declared.content.Content.{Content}
use Rattle.engine_api.specs.declared.content.Content.TheVariants.{Session, Alive, Leave, Trim}
use Rattle.engine_api.specs.Items.{unpack}
use Rattle.engine_api.specs.Acted.{Asked}
use Rattle.script_text.specs.declared.line.Admin.{Admin}
use Rattle.script_text.specs.declared.line.Admin.TheVariants as admin
use Rattle.script_text.specs.declared.asks.NamedLine.{NamedLine}
use Rattle.script_text.specs.declared.asks.Asks.{Asks}
use Rattle.script_text.specs.declared.asks.Asks.TheVariants as asks
use Rattle.run_laws.specs.Ended.{LogsThis}
use Rattle.turn_scopes.specs.Floors.{MayTrim}

-- what is asked is to log this command, as this rank of this session
abbrev pub LogsRank : Asks → ℕ → ℕ → Option Command → Type 0
LogsRank (asks.Logged s r c) session rank command = (session ≡ s.id) × (rank ≡ r) × (command ≡ Some c)
LogsRank (asks.Look s q) session rank command = ⊥
LogsRank (asks.Admin a) session rank command = ⊥

-- a line of the node logs it
pub record HasLine (lines : List NamedLine) (who session rank : ℕ) (command : Option Command) : Type 0 where
  pub at : ℕ
  pub line : NamedLine
  pub is : slice_get lines at ≡ Some line
  pub node : line.node ≡ who
  pub logs : LogsRank line.asks session rank command

-- a line asks this of the node itself
pub record HasAsked (lines : List NamedLine) (who : ℕ) (what : Admin) : Type 0 where
  pub at : ℕ
  pub line : NamedLine
  pub is : slice_get lines at ≡ Some line
  pub node : line.node ≡ who
  pub asks : line.asks ≡ asks.Admin what

-- a line has the node report how much of the log it needs no more
abbrev pub HasReport : List NamedLine → ℕ → Type 0
HasReport lines who = HasAsked lines who admin.Alive

-- a line has the node leave
abbrev pub HasLeave : List NamedLine → ℕ → Type 0
HasLeave lines who = HasAsked lines who admin.Retire

-- a line has the node trim the log
abbrev pub HasTrim : List NamedLine → ℕ → Type 0
HasTrim lines who = HasAsked lines who admin.Trim

-- it is a command, of a line of the node, or the node's own report or leave, or a trim, for which a line of it asks
abbrev pub IsLineOf : List NamedLine → ℕ → Content → Type 0
IsLineOf lines who (Session s r c) = HasLine lines who s r c
IsLineOf lines who (Alive node position) = (node ≡ who) × HasReport lines who
IsLineOf lines who (Leave node) = (node ≡ who) × HasLeave lines who
IsLineOf lines who (Trim position) = HasTrim lines who

-- the entry is the node's own, and each item of it what a line there asks
pub record HoldsLines (lines : List NamedLine) (who : ℕ) (e : Entry) : Type 0 where
  pub own : e.origin ≡ who
  pub items : AllByRecursion (λ p. IsLineOf lines who p.content) (unpack 0 e)

-- who may append what
abbrev pub may_of : List NamedLine → ℕ → Entry → Type 0
may_of lines who e = HoldsLines lines who e

-- The law of a run: so many nodes append what its lines ask them to, and trim what none of them needs again.
abbrev pub law_of : List NamedLine → ℕ → List ℕ → Law
law_of lines nodes shelf = record { may = may_of lines; floor = MayTrim nodes; shelf = shelf }

-- each entry is somebody's
abbrev pub AreOfLines : List NamedLine → List Entry → Type 0
AreOfLines lines log = AllByRecursion (λ e. (who : ℕ) × may_of lines who e) log

-- a line asks for this command
pub record IsAskedBy (lines : List NamedLine) (x : Asked) : Type 0 where
  pub at : ℕ
  pub line : NamedLine
  pub is : slice_get lines at ≡ Some line
  pub logs : LogsThis line.asks x
