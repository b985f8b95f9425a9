use Rattle.std.proofs.Common.{◌≡◌, ◌<◌, length, get_or, sym, ap, subst, ◌∙◌}
use Rattle.std.proofs.lemmas.Bool.{ltb-true}
use Rattle.world_steps.specs.Parts.{World}
use Rattle.world_steps.specs.Laws.{any_append, any_trim}
use Rattle.world_steps.proofs.Kind.{lawful_at}
use Rattle.world_steps.proofs.parts.Parts.entry_of.Goals as goal

pub entry-requires : goal.entry-requires
entry-requires c =
    let same : c.deref.result.now ≡ c.args.self.now.cells = c.deref.ensures.value ∙ ap (λ (w : World). w.cells) c.self.view_is in
    let low : c.args.cell < length c.args.self.now.cells = subst (λ xs. c.args.cell < length xs) same (ltb-true _ _ (sym c.in-Some.ensures.lookup.0)) in
    let is : c.in-Some.cell.now ≡ get_or c.args.self.now.cells c.args.cell c.in-Some.cell.now = c.in-Some.ensures.lookup.1 ∙ ap (λ xs. get_or xs c.args.cell c.in-Some.cell.now) same in
    lawful_at any_append any_trim c.args.self.now c.requires c.args.cell c.in-Some.cell.now low is
