-- The parts of a world: cells, the register of the chain that joins them, nodes that apply its log, and all events.
use Rattle.std.specs.Prelude.{ℕ, zero, suc, ◌-◌, Bool, true, List, [], ◌∷◌, length, map, replicate, get_or, slice_get, Option, None}
use Rattle.delos_types.specs.declared.entry.Entry.{Entry}
use Rattle.delos_types.specs.declared.chain.Chain.{Chain}
use Rattle.chain_map.specs.Chain.{first_chain}
use Rattle.quorum_cell.specs.Cells.{start}
use Rattle.legal_journal.specs.declared.events.Event.{Event}
use Rattle.world_steps.specs.declared.cell.WorldCell.{WorldCell}
use Rattle.world_steps.specs.declared.cell.WorldCell.TheVariants.{Quorum}
use Rattle.world_steps.specs.declared.shape.Shape.{Shape}
use Rattle.world_steps.specs.Cells.{view_of, start_of}

pub record Register : Type 0 where
  -- what stands
  pub version : ℕ
  pub chain : Chain
  -- the chains that it gave, by version, from version 1 on
  pub given : List Chain
  -- the chain of a write inside which it stopped
  pub torn : Option Chain
  pub up : Bool

pub record Node : Type 0 where
  -- the entries that it applied, one after another: its cursor is their number
  pub applied : List Entry
  -- the entry that it was applying as it stopped
  pub torn : Option Entry
  pub up : Bool

pub record World : Type 0 where
  pub cells : List WorldCell
  pub register : Register
  pub nodes : List Node
  -- what clients asked, and what they were told
  pub events : List Event

-- what stands at a number that names no cell or node
abbrev pub no_cell : WorldCell
no_cell = Quorum (start 1 1 0)

abbrev pub no_node : Node
no_node = record { applied = []; torn = None; up = true }

abbrev pub cell_at : List WorldCell → ℕ → WorldCell
cell_at cells i = get_or cells i no_cell

abbrev pub node_at : List Node → ℕ → Node
node_at nodes k = get_or nodes k no_node

-- the chain of a version, of the chains from version 1 on
abbrev pub of_version : List Chain → ℕ → Option Chain
of_version chains zero = None
of_version chains (suc v) = slice_get chains v

-- the chain that it gave under a version
abbrev pub given_under : Register → ℕ → Option Chain
given_under r v = of_version r.given v

-- the last chain that it gave
abbrev pub last_given : Register → Chain
last_given r = get_or r.given (length r.given - 1) first_chain

-- the first chain stands under version 1, and is known
abbrev pub first_register : Register
first_register = record { version = 1; chain = first_chain; given = first_chain ∷ []; torn = None; up = true }

-- a world of new cells of these shapes, and of so many nodes, in which nothing happened
abbrev pub fresh : List Shape → ℕ → World
fresh shapes nodes = record {
  cells = map start_of shapes;
  register = first_register;
  nodes = replicate nodes no_node;
  events = [];
}

-- the numbers of servers of the cells
abbrev pub shelf_of : World → List ℕ
shelf_of w = map (λ (c : WorldCell). (view_of c).servers) w.cells
