use Rattle.std.proofs.Common.{◌≡◌, ℕ, ◌+◌, ◌<◌, ◌≤◌, true, false, length, Some}
use Rattle.std.specs.Prelude.{slice_get}
use Rattle.node_workers.specs.declared.worker.Worker.{Worker}
use Rattle.node_lines.specs.Workers.{Grows}
use Rattle.run_closing.specs.Finishing.{AllLeft, HasPlayed, HasLeft, HasMost, PassesBy, PlaysAt, IsPlayedWhole}
use Rattle.run_closing.specs.Opening.{MakesNoFaults}
use Rattle.node_crew.specs.Arming.{NoneArmed}
use Rattle.run_closing.proofs.finish.finish_each.Given as goal

abbrev pub invariant-loop-k : goal.invariant-loop-k
invariant-loop-k g l = record {
  high : l.k ≤ length l.initial.crew.workers.items;
  size : length l.crew.workers.items ≡ length l.initial.crew.workers.items;
  looks : l.crew.looks.items ≡ l.initial.crew.looks.items;
  rests : HasPlayed g.K.Terms.law g.S.Replica.meaning l.lines l.faults l.crew.fabric.journal l.crew.looks.items (λ w. w.seat) (λ w. w.desks.items) l.crew.workers.items;
  grows : Grows l.initial.crew.fabric.journal l.crew.fabric.journal;
  quiet : MakesNoFaults l.initial.crew.fabric.journal l.crew.fabric.journal;
  armed : NoneArmed (λ w. w.seat.node.replica) l.initial.crew.workers.items l.crew.workers.items;
  waits : (j : ℕ) → l.k ≤ j → slice_get l.crew.workers.items j ≡ slice_get l.initial.crew.workers.items j;
  passes : PassesBy l.lines l.initial.crew.looks.items (λ w. w.seat) l.initial.crew.workers.items l.crew.workers.items;
  plays : (j : ℕ) (w : Worker g.row.S.Denot g.row.C.Denot) → j < l.k → slice_get l.initial.crew.workers.items j ≡ Some w → (HasLeft l.lines l.initial.crew.looks.items (j + 1) w.seat → ⊥)
      → PlaysAt l.initial.crew.fabric.journal l.crew.fabric.journal (λ w. w.seat) w l.crew.workers.items j;
  left : l.passed ≡ true → (j : ℕ) (w : Worker g.row.S.Denot g.row.C.Denot) → j < l.k → slice_get l.initial.crew.workers.items j ≡ Some w → HasLeft l.lines l.initial.crew.looks.items (j + 1) w.seat;
  some : l.passed ≡ false → AllLeft l.lines l.initial.crew.looks.items (λ w. w.seat) l.initial.crew.workers.items → ⊥;
  most : HasMost (λ w. w.seat) l.crew.workers.items l.k l.most.node l.most.cursor;
  sees : l.passed ≡ false → IsPlayedWhole l.crew.fabric.journal (λ w. w.seat) l.crew.workers.items;
}
