use Rattle.std.proofs.Common.{◌≡◌, ℕ, length, Vec, None, false, sym, ap, ◌∙◌, arith}
use Rattle.std.proofs.lemmas.List.{length-map}
use Rattle.std.specs.declared.alloc.Global.{Global}
use Rattle.disk_model.specs.Disk.{reads}
use Rattle.journal_pair.specs.Records.{records_of}
use Rattle.journal_pair.proofs.Whole.{kept_opened, kept_survives}
use Rattle.journal_pair.proofs.pair.JournalPair.open_on.Goals as goal

pub invariant_of-journal : goal.invariant_of-journal
invariant_of-journal g c =
    let file = reads (g.D.Disk.view c.args.disk) in
    let v = c.in-Ok.found.0 in
    let long : c.len.result ≡ length (records_of file) = omega (arith, v.ok, c.len.ensures) ∙ sym (length-map v.items (λ (w : Vec ℕ Global). w.items)) ∙ ap length c.in-Ok.ensures.records in
    kept_opened c.len.result c.in-Ok.found.1 (records_of file) (g.D.Disk.view c.find.new.disk) c.in-Ok.ensures.fits c.in-Ok.ensures.stands c.in-Ok.ensures.synced c.in-Ok.ensures.running long

pub returns-clause-survives : goal.returns-clause-survives
returns-clause-survives g c =
    let file = reads (g.D.Disk.view c.args.disk) in
    let v = c.in-Ok.found.0 in
    let long : c.len.result ≡ length (records_of file) = omega (arith, v.ok, c.len.ensures) ∙ sym (length-map v.items (λ (w : Vec ℕ Global). w.items)) ∙ ap length c.in-Ok.ensures.records in
    kept_survives c.len.result None c.in-Ok.found.1 false (g.D.Disk.view c.find.new.disk)
    (kept_opened c.len.result c.in-Ok.found.1 (records_of file) (g.D.Disk.view c.find.new.disk) c.in-Ok.ensures.fits c.in-Ok.ensures.stands c.in-Ok.ensures.synced c.in-Ok.ensures.running long)
