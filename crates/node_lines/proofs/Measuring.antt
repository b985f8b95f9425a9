-- What is read off a node's state at a tail.
use Rattle.std.proofs.Common.{◌≡◌, refl, ◌∙◌, ℕ, List, length}
use Rattle.delos_types.specs.declared.entry.Entry.{Entry}
use Rattle.delos_types.specs.declared.cause.Cause.{Cause}
use Rattle.legal_journal.specs.Law.{Law}
use Rattle.log_laws.specs.State.{IsStateOf}
use Rattle.base_engine.specs.Node.{NodeView}
use Rattle.node_lines.specs.declared.measure.Measured.TheVariants as measured
use Rattle.node_lines.specs.Measuring.{Measures}

pub same_number : (n m : ℕ) → measured.At n ≡ measured.At m → m ≡ n
same_number n m h = cc

module _ (law : Law) (first other : List Entry → ℕ) (old new : NodeView) where
  -- another number is read off the same state
  pub measures_other : (k n : ℕ) → Measures law first old new (measured.At k) → ((log : List Entry) → length log ≡ new.replica.cursor → IsStateOf log new.replica.contents → n ≡ other log)
      → Measures law other old new (measured.At n)
  measures_other k n h is = record {
    moves = h.moves;
    first = h.first;
    none = h.none;
    unsettled = h.unsettled;
    kept = h.kept;
    measured = λ m same.
        let at = (h.measured k refl).at in
        record { at = at; is = same_number n m same ∙ is at.log at.size at.led };
  }

  -- nothing was read
  pub measures_none : (c : Cause) → Measures law first old new (measured.Failed c) → Measures law other old new (measured.Failed c)
  measures_none c h = record { moves = h.moves; first = h.first; none = h.none; unsettled = h.unsettled; kept = h.kept; measured = λ m same. absurd (cc) }
