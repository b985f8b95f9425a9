use Rattle.std.proofs.Common.{sym, ap, ◌∙◌, inl, inr}
use Rattle.std.specs.Iterator.Adapters.{zip_first, zip_second}
use Rattle.std.specs.Slice.Iter.{iter_rest}
use Rattle.std.proofs.lemmas.Slice.Zip.{either_empty_from_Zip}
use Rattle.run_totals.specs.Replay.{shown, with_acts, acts_told}
use Rattle.run_totals.proofs.Replaying.{told-nothing}
use Rattle.run_totals.proofs.counting.placed_turns.Goals as goal

pub returns : goal.returns
returns c =
    let turns = shown c.loop-line.turns.entries in
    let lines = iter_rest (zip_first c.loop-line.line-iterator) in
    let rows = iter_rest (zip_second c.loop-line.line-iterator) in
    elim (either_empty_from_Zip c.loop-line.line-iterator c.next.new.self c.next.result c.in-None.is c.next.ensures.steps) [
      | inl none ↦ sym (ap (λ ls. with_acts turns (acts_told ls rows)) none) ∙ c.loop-line.invariant
      | inr none ↦ sym (ap (with_acts turns) (ap (acts_told lines) none ∙ told-nothing lines)) ∙ c.loop-line.invariant
    ]
