use Rattle.kept_value.proofs.Laws.{inside, kept_made, kept_stands, still_calm, calm_inside}
use Rattle.kept_value.proofs.kept.Kept.make.Goals as goal

pub returns-in-Ok-clause-kept : goal.returns-in-Ok-clause-kept
returns-in-Ok-clause-kept g c =
    let K = g.V.KeptValue.kind in
    let s = g.V.KeptValue.state c.args.value.now in
    let i = c.self.inside in
    let here = inside i.journal i.asked i.stands in
    let j = c.compact.new.journal in
    let is = still_calm here j (calm_inside here c.args.self.now c.self.view_is c.requires.calm) in
    kept_made K s (g.V.KeptValue.state c.change.new.self) c.args.change j (inside j i.asked i.stands) c.change.ensures.changed is c.compact.ensures.spelled c.in-Ok.ensures.up c.compact.ensures.survives

pub returns-in-Ok-clause-ok : goal.returns-in-Ok-clause-ok
returns-in-Ok-clause-ok g c =
    let K = g.V.KeptValue.kind in
    let s = g.V.KeptValue.state c.args.value.now in
    let i = c.self.inside in
    let here = inside i.journal i.asked i.stands in
    let j = c.compact.new.journal in
    let is = still_calm here j (calm_inside here c.args.self.now c.self.view_is c.requires.calm) in
    (c.change.ensures.changed, is, c.in-Ok.ensures.up)

pub returns-in-Err-clause-kept : goal.returns-in-Err-clause-kept
returns-in-Err-clause-kept g c =
    let K = g.V.KeptValue.kind in
    let s = g.V.KeptValue.state c.args.value.now in
    let i = c.self.inside in
    let here = inside i.journal i.asked i.stands in
    kept_stands K s c.args.change c.compact.new.journal c.compact.ensures.spelled c.compact.ensures.other c.requires.can c.in-Err.ensures.failed.0 c.compact.ensures.survives
