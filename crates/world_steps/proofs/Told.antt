-- A cell that takes a step goes on as the events tell.
use Rattle.std.proofs.Common.{◌≡◌, ℕ, true, false, refl, ap, sym, ◌∙◌, subst, List, ◌++◌, Some}
use Rattle.delos_types.specs.declared.entry.Entry.{Entry}
use Rattle.loglet_api.specs.declared.call.Op.{Op}
use Rattle.loglet_api.specs.declared.call.Answer.{Answer}
use Rattle.loglet_api.specs.View.{LogletView}
use Rattle.loglet_api.specs.Sound.{IsSound}
use Rattle.loglet_api.specs.Step.{CanBegin, entries_of as entries_by, bumped}
use Rattle.legal_journal.specs.Told.{MayAnswer, Running}
use Rattle.legal_journal.specs.Moves.{Begins as BeginsMove, Answers, Drops}
use Rattle.legal_journal.specs.Journal.{CellState, cell_after, HasRoom}
use Rattle.fabric_core.specs.Fabric.{IsAsTold}
use Rattle.fabric_core.proofs.AsTold.{has_room, begun_as_told, moved_as_told, moved_left, answered_as_told, dropped_as_told}
use Rattle.striped_cells.specs.declared.motion.Motion.{Motion}
use Rattle.world_steps.specs.declared.cell.WorldCell.{WorldCell}
use Rattle.world_steps.specs.Cells.{view_of, entries_of, is_full, begun, answer_of, taken, is_open, forgotten, stirred}
use Rattle.world_steps.specs.Laws.{IsCellTold}
use Rattle.world_steps.proofs.Kind.{cell_kind}

---- an operation begins

-- what a begin leaves, and why it may be
pub record Begun (told : CellState) (c : WorldCell) (who : ℕ) (op : Op) : Type 0 where
  pub room : HasRoom told.told op
  pub ticket : (view_of c).begun ≡ told.told.begun
  pub now : IsCellTold (cell_after who told (BeginsMove op (view_of c).begun)) (begun c op)
  pub servers : (view_of (begun c op)).servers ≡ (view_of c).servers

pub begun_told : (told : CellState) (c : WorldCell) (who : ℕ) (op : Op) → IsCellTold told c → CanBegin op → is_full c op ≡ false → Begun told c who op
begun_told told c who op h can room =
    let b = cell_kind.begins c op h.lawful can room in
    record {
      room = has_room told (view_of c) h.view op b.does.room;
      ticket = h.view.begun;
      now = record {
        lawful = b.lawful;
        view = begun_as_told told (view_of c) h.view who (view_of c).begun op (view_of (begun c op)) b.does (cell_kind.sound (begun c op) b.lawful);
        entries = ap (λ (es : List Entry). es ++ entries_by op) h.entries ∙ sym b.keeps;
      };
      servers = ap (λ (v : LogletView). v.servers) b.does.rest;
    }

-- faults count nothing that is told
faulted : (told : CellState) (v now : LogletView) (n : ℕ) → IsAsTold told v → now ≡ record v { faults = n } → IsSound now → IsAsTold told now
faulted told v now n m is sound = subst (IsAsTold told) (sym is) (record {
  cut = m.cut;
  log = m.log;
  reach = m.reach;
  cap = m.cap;
  firm = m.firm;
  begun = m.begun;
  seals = m.seals;
  lacks = m.lacks;
  sealed = m.sealed;
  operations = m.operations;
  left = m.left;
  sound = subst IsSound is sound;
})

-- it goes on, and what is told of it stays
pub record StaysTold (told : CellState) (c new : WorldCell) : Type 0 where
  pub now : IsCellTold told new
  pub servers : (view_of new).servers ≡ (view_of c).servers

-- a full cell refuses
pub refused_told : (told : CellState) (c : WorldCell) (op : Op) → IsCellTold told c → CanBegin op → is_full c op ≡ true → StaysTold told c (begun c op)
refused_told told c op h can full =
    let b = cell_kind.refuses c op h.lawful can full in
    record {
      now = record {
        lawful = b.lawful;
        view = faulted told (view_of c) (view_of (begun c op)) (bumped (view_of c).faults) h.view b.does.1 (cell_kind.sound (begun c op) b.lawful);
        entries = h.entries ∙ sym b.keeps;
      };
      servers = ap (λ (v : LogletView). v.servers) b.does.1;
    }

---- something moves that is nobody's call

pub stirred_told : (told : CellState) (c : WorldCell) (path : List ℕ) (m : Motion) → IsCellTold told c → StaysTold told c (stirred c path m)
stirred_told told c path m h =
    let b = cell_kind.stirs c path m h.lawful in
    let now = stirred c path m in
    let sound = cell_kind.sound now b.lawful in
    record {
      now = record {
        lawful = b.lawful;
        view = moved_as_told told (view_of c) h.view told (view_of now) refl b.does sound (moved_left told (view_of c) h.view (view_of now) b.does sound);
        entries = h.entries ∙ sym b.keeps;
      };
      servers = ap (λ (v : LogletView). v.servers) b.does.rest;
    }

---- an operation is answered, or closed

-- what an answer leaves, and why it may be
pub record IsAnswered (told : CellState) (c : WorldCell) (who t : ℕ) (a : Answer) : Type 0 where
  pub running : Running
  pub is_open : told.told.ops t ≡ Some running
  pub may : MayAnswer told.told running running.op a
  pub now : IsCellTold (cell_after who told (Answers t a)) (taken c t)
  pub servers : (view_of (taken c t)).servers ≡ (view_of c).servers

pub answered_told : (told : CellState) (c : WorldCell) (who t : ℕ) (a : Answer) → IsCellTold told c → answer_of c t ≡ Some a → IsAnswered told c who t a
answered_told told c who t a h is =
    let b = cell_kind.takes c t a h.lawful is in
    let k = answered_as_told told (view_of c) h.view who t a (view_of (taken c t)) b.does (cell_kind.sound (taken c t) b.lawful) in
    record {
      running = k.running;
      is_open = k.is_open;
      may = k.may;
      now = record { lawful = b.lawful; view = k.told; entries = h.entries ∙ sym b.keeps };
      servers = ap (λ (v : LogletView). v.servers) b.does.rest;
    }

pub record IsDropped (told : CellState) (c : WorldCell) (who t : ℕ) : Type 0 where
  pub running : Running
  pub is_open : told.told.ops t ≡ Some running
  pub now : IsCellTold (cell_after who told (Drops t)) (forgotten c t)
  pub servers : (view_of (forgotten c t)).servers ≡ (view_of c).servers

pub dropped_told : (told : CellState) (c : WorldCell) (who t : ℕ) → IsCellTold told c → is_open c t ≡ true → IsDropped told c who t
dropped_told told c who t h going =
    let b = cell_kind.forgets c t h.lawful going in
    let k = dropped_as_told told (view_of c) h.view who t (view_of (forgotten c t)) b.does.0 b.does.1 (cell_kind.sound (forgotten c t) b.lawful) in
    record {
      running = k.running;
      is_open = k.is_open;
      now = record { lawful = b.lawful; view = k.told; entries = h.entries ∙ sym b.keeps };
      servers = ap (λ (v : LogletView). v.servers) b.does.1.rest;
    }
