use Rattle.std.proofs.Common.{◌≡◌, ◌<◌, length, get_or, sym, ap, ◌∙◌}
use Rattle.std.proofs.lemmas.Bool.{ltb-true}
use Rattle.world_steps.specs.declared.cell.WorldCell.{WorldCell}
use Rattle.world_steps.specs.Parts.{World}
use Rattle.world_steps.specs.Laws.{any_append, any_trim}
use Rattle.world_steps.proofs.Kind.{lawful_at}
use Rattle.world_steps.proofs.parts.Parts.move_inside.Goals as goal

pub stir-requires : goal.stir-requires
stir-requires c =
    let low : c.args.cell < length c.args.self.now.cells = ltb-true _ _ (sym c.has_cell.ensures ∙ c.if-not-has_cell.false) in
    let is : c.index_mut.result.now ≡ get_or c.args.self.now.cells c.args.cell c.index_mut.result.now = c.index_mut.ensures.value ∙ ap (λ (w : World). get_or w.cells c.args.cell c.index_mut.result.now) c.self.view_is in
    lawful_at any_append any_trim c.args.self.now c.requires c.args.cell c.index_mut.result.now low is
