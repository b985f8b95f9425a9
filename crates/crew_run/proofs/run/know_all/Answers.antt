use Rattle.std.proofs.Common.{◌≡◌, sym, ap, ◌∙◌, subst, get_or, arith, inl, inr}
use Rattle.std.specs.Prelude.{slice_get}
use Rattle.std.proofs.lemmas.Option.{get_or_from_slice_get, slice_get-get_or}
use Rattle.loglet_api.specs.Sound.{IsSound}
use Rattle.crew_run.proofs.Running.{below_next}
use Rattle.crew_run.proofs.run.know_all.Goals as goal

pub loop-cell-preserved : goal.loop-cell-preserved
loop-cell-preserved g c = λ k x low at.
    let xs = c.args.cells.now in
    let i = c.loop-cell.cell-index in
    let item = c.cell-item.result in
    elim (below_next k i low) [
      | inl before ↦ c.loop-cell.invariant k x before at
      | inr here ↦
          let is : item ≡ x = c.cell-item.is ∙ get_or_from_slice_get xs i x item (ap (slice_get xs) (sym here) ∙ at) in
          subst (λ y. IsSound (g.L.Loglet.view y)) is c.servers-servers.ensures.sound
    ]

pub returns : goal.returns
returns g c = λ k d low. c.loop-cell.invariant k (get_or c.args.cells.now k d) (omega (arith, low, c.loop-cell-test.false)) (slice_get-get_or c.args.cells.now k d low)
