use Rattle.std.proofs.Common.{◌≡◌, ◌∙◌, ◌++◌, ◌∷◌, [], ap, sym}
use Rattle.delos_types.specs.declared.chain.Segment.{Segment}
use Rattle.chain_map.specs.Chain.{last_of_segments}
use Rattle.chain_map.proofs.Changes.{last-append}
use Rattle.world_steps.proofs.register.last_id.Goals as goal

pub returns-in-Some : goal.returns-in-Some
returns-in-Some c =
    let split : c.args.chain.now.segments ≡ c.in-Some.field-0-1.now ++ c.in-Some.last.now ∷ [] = sym c.as_slice.ensures ∙ c.in-Some.ensures.cases.0 in
    let last : last_of_segments c.args.chain.now.segments ≡ c.in-Some.last.now = ap last_of_segments split ∙ last-append c.in-Some.field-0-1.now c.in-Some.last.now in
    ap (λ (s : Segment). s.id) (sym last)
