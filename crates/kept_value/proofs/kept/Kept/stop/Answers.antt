use Rattle.std.proofs.Common.{◌≡◌, ◌∙◌, sym, ap, refl}
use Rattle.disk_model.specs.Disk.{DiskView}
use Rattle.journal_pair.specs.Journal as pair
use Rattle.kept_value.proofs.Laws.{inside, kept_inside, kept_refused}
use Rattle.kept_value.proofs.kept.Kept.stop.Goals as goal

pub returns-clause-kept : goal.returns-clause-kept
returns-clause-kept g c =
    λ s old.
    let K = g.V.KeptValue.kind in
    let i = c.self.inside in
    let here = inside i.journal i.asked i.stands in
    let k = kept_inside K s here c.args.self.now c.self.view_is old in
    let j = c.stop.new.self in
    let is : j ≡ record i.journal { disk = j.disk } = c.stop.ensures.stops ∙ ap (λ (d : DiskView). record i.journal { disk = d }) (sym (ap (λ (w : pair.View). w.disk) c.stop.ensures.stops)) in
    kept_refused K s here k s j refl is c.stop.ensures.survives
