use Rattle.std.proofs.Common.{List, length, ap, arith, sym, subst}
use Rattle.world_steps.specs.declared.shape.Shape.{Shape}
use Rattle.world_steps.specs.Laws.{WorldLaw, any_append, any_trim}
use Rattle.world_steps.proofs.Fresh.{fresh_law}
use Rattle.world_steps.proofs.world.World.new.Goals as goal

pub invariant_of-result : goal.invariant_of-result
invariant_of-result c =
    let same = ap (λ (xs : List Shape). length xs) c.as_slice-shapes.ensures.value in
    subst (WorldLaw any_append any_trim) (sym c.in_ok-parts.ensures)
    (fresh_law any_append any_trim c.as_slice-shapes.result.now c.args.nodes (record { least = omega (arith, same, c.requires.0); most = omega (arith, same, c.requires.1); each = c.as_slice-shapes.ensures.shaped }))
