-- What holds of every world that steps lead to.
use Rattle.std.specs.Prelude.{◌≡◌, ℕ, ◌*◌, ◌<◌, ◌≤◌, ◌^◌, true, not, List, [], ◌∷◌, length, slice_get, Option, Some, None, All, Contains, ⊤}
use Rattle.delos_types.specs.declared.entry.Entry.{Entry}
use Rattle.delos_types.specs.declared.chain.Chain.{Chain}
use Rattle.delos_types.specs.Spelling.{IsSpellable}
use Rattle.loglet_api.specs.declared.call.Op.TheVariants.{Append}
use Rattle.loglet_api.specs.Step.{CanBegin}
use Rattle.legal_journal.specs.Law.{Law}
use Rattle.legal_journal.specs.Journal.{CellState, RegisterState, state_of, IsLegal, IsCurrent, IsFree, Shows}
use Rattle.fabric_core.specs.Fabric.{IsAsTold}
use Rattle.world_steps.specs.declared.cell.WorldCell.{WorldCell}
use Rattle.world_steps.specs.declared.shape.QuorumShape.{QuorumShape}
use Rattle.world_steps.specs.declared.shape.Shape.{Shape}
use Rattle.world_steps.specs.declared.shape.Shape.TheVariants as shape
use Rattle.world_steps.specs.Cells.{view_of, entries_of, IsLawfulCell}
use Rattle.world_steps.specs.declared.step.ChainChange.{ChainChange}
use Rattle.world_steps.specs.declared.step.ChainChange.TheVariants.{Extend, Raise}
use Rattle.world_steps.specs.declared.step.WorldStep.{WorldStep}
use Rattle.world_steps.specs.declared.step.WorldStep.TheVariants.{Begin, WriteChain, WriteStops}
use Rattle.world_steps.specs.Parts.{Register, Node, World, cell_at, node_at, given_under, last_given, shelf_of}
use Rattle.world_steps.specs.Events.{is_owner, was_sealed_at, was_placed_at}
use Rattle.world_steps.specs.Logs.{Stands}
use Rattle.world_steps.specs.Steps.{world_step}

-- some bytes spell the entry that the step brings
abbrev pub BringsSpelled : WorldStep → Type 0
BringsSpelled (Begin who i op) = CanBegin op
BringsSpelled step = ⊤

-- the log shows what lets it be trimmed so
abbrev pub IsLet : (List Entry → ℕ → Type 0) → World → ChainChange → Type 0
IsLet floor w (Extend t) = ⊤
IsLet floor w (Raise n) = IsFree (state_of w.events).shown floor n

-- a step keeps to the rules of who may append what and of how far the log may be trimmed
abbrev pub KeepsTo : (ℕ → Entry → Type 0) → (List Entry → ℕ → Type 0) → World → WorldStep → Type 0
KeepsTo may floor w (Begin who i (Append e)) = IsSpellable e × may who e
KeepsTo may floor w (WriteChain who expected change) = IsLet floor w change
KeepsTo may floor w (WriteStops who expected change) = IsLet floor w change
KeepsTo may floor w step = ⊤

-- so do these, one after another
abbrev pub AllKeepTo : (ℕ → Entry → Type 0) → (List Entry → ℕ → Type 0) → World → List WorldStep → Type 0
AllKeepTo may floor w [] = ⊤
AllKeepTo may floor w (step ∷ steps) = KeepsTo may floor w step × AllKeepTo may floor (world_step w step) steps

-- a quorum cell has 1 to 64 servers, room for 1 to 2^32 entries, and at most 2^62 tickets
pub record IsQuorumShaped (s : QuorumShape) : Type 0 where
  pub servers : (1 ≤ s.servers) × (s.servers ≤ 64)
  pub room : (1 ≤ s.room) × (s.room ≤ 2 ^ 32)
  pub limit : s.limit ≤ 2 ^ 62

-- so many stripes, of so many servers and so much room each
pub record AreStripes (m servers room : ℕ) : Type 0 where
  pub count : (2 ≤ m) × (m ≤ 8)
  pub few : m * servers ≤ 64
  pub small : m * room ≤ 2 ^ 32

-- a cell has at most 64 servers, and room for at most 2^32 entries
abbrev pub IsShaped : Shape → Type 0
IsShaped (shape.Quorum s) = IsQuorumShaped s
IsShaped (shape.Striped m s) = IsQuorumShaped s × AreStripes m s.servers s.room
IsShaped (shape.Nested n m s) = IsQuorumShaped s × AreStripes m s.servers s.room × AreStripes n (m * s.servers) (m * s.room)

-- 1 to 64 such cells
pub record IsShelf (shapes : List Shape) : Type 0 where
  pub least : 0 < length shapes
  pub most : length shapes ≤ 64
  pub each : All IsShaped shapes

-- rules that allow everything
abbrev pub any_append : ℕ → Entry → Type 0
any_append who e = ⊤

abbrev pub any_trim : List Entry → ℕ → Type 0
any_trim log n = ⊤

-- a cell is as the events tell it
pub record IsCellTold (told : CellState) (c : WorldCell) : Type 0 where
  pub lawful : IsLawfulCell c
  pub view : IsAsTold told (view_of c)
  pub entries : told.entries ≡ entries_of c

-- The register is as the events tell it: it gave what they say; what stands is what it gave last, or the write that
-- faulted; and a write that it may find done as it comes up is the one that faulted, over what it gave last.
pub record IsRegisterTold (told : RegisterState) (r : Register) : Type 0 where
  pub count : told.version ≡ length r.given
  pub given : (v : ℕ) → told.given v ≡ given_under r v
  pub last : told.chain ≡ last_given r
  pub down : told.down ≡ not r.up
  pub current : IsCurrent told r.version r.chain
  pub whole : r.up ≡ true → r.torn ≡ None
  pub torn : (c : Chain) → r.torn ≡ Some c → (told.asked ≡ Some c) × (r.version ≡ told.version) × (r.chain ≡ told.chain)

-- a node applied what the log shows, or did, from position 0 on, and so is what it was applying
pub record IsFront (shown : ℕ → Option Entry) (n : Node) : Type 0 where
  pub applied : Shows shown n.applied
  pub whole : n.up ≡ true → n.torn ≡ None
  pub torn : (e : Entry) → n.torn ≡ Some e → shown (length n.applied) ≡ Some e

-- each of these entries stands in the log at its place, from position 0 on, or was trimmed there
abbrev pub IsFrontOf : World → List Entry → Type 0
IsFrontOf w front = (pos : ℕ) (e : Entry) → slice_get front pos ≡ Some e → Stands w pos e

-- the law of a world's log: by these rules, over the cells of the world
abbrev pub law_of : (ℕ → Entry → Type 0) → (List Entry → ℕ → Type 0) → World → Law
law_of may floor w = record { may = may; floor = floor; shelf = shelf_of w }

-- The law of worlds: the events are a legal journal, and all parts are as they tell.
pub record WorldLaw (may : ℕ → Entry → Type 0) (floor : List Entry → ℕ → Type 0) (w : World) : Type 0 where
  pub legal : IsLegal (law_of may floor w) w.events
  pub cells : (i : ℕ) → IsCellTold ((state_of w.events).cells i) (cell_at w.cells i)
  pub owners : (i t who : ℕ) → is_owner w.events who i t ≡ true → (t < ((state_of w.events).cells i).told.begun) × (((state_of w.events).cells i).owner t ≡ who)
  pub ends : (i n : ℕ) → was_sealed_at w.events i n ≡ true → Contains ((state_of w.events).cells i).ends n
  pub placed : (i p : ℕ) → was_placed_at w.events i p ≡ true → p < ((state_of w.events).cells i).told.reach
  pub register : IsRegisterTold (state_of w.events).register w.register
  pub nodes : (k : ℕ) → IsFront (state_of w.events).shown (node_at w.nodes k)
