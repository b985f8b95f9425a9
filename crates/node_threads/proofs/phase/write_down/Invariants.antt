use Rattle.std.proofs.Common.{◌≡◌, ◌<◌, length}
use Rattle.std.specs.List.{AllByRecursion}
use Rattle.std.specs.Vec.Iter.{into_iter_items}
use Rattle.node_crew.specs.Notes.{noted}
use Rattle.node_threads.proofs.phase.write_down.Given as goal

abbrev pub invariant-loop-note : goal.invariant-loop-note
invariant-loop-note l = record {
  size : length l.looks.items ≡ length l.fn.looks.items;
  within : AllByRecursion (λ note. note.line < length l.fn.looks.items) (into_iter_items l.note-iterator);
  done : noted l.looks.items (into_iter_items l.note-iterator) ≡ noted l.fn.looks.items l.fn.notes.items;
}
