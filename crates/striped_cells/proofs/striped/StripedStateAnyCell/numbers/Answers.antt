use Rattle.std.proofs.Common.{◌≤◌, List, map, sym, ap, ◌∙◌, subst}
use Rattle.striped_loglet.specs.Views.{total}
use Rattle.striped_cells.specs.Striped.{Striped}
use Rattle.striped_cells.proofs.Calling.{few_down}
use Rattle.striped_cells.proofs.striped.StripedStateAnyCell.numbers.Goals as goal

pub counts-counts-requires-clause-few : goal.counts-counts-requires-clause-few
counts-counts-requires-clause-few g c =
    let e = ap (λ (s : Striped g.row.C.Denot). s.stripes) c.self.view_is in
    subst (λ (xs : List g.row.C.Denot). total (λ v. v.down) (map g.C.AnyCell.ways.view xs) ≤ 64) (sym (c.as_slice.ensures.value ∙ e)) (few_down g.C.AnyCell.ways c.args.self.now c.requires)
