use Rattle.std.proofs.Common.{ℕ, List, length, ◌∙◌, ap, subst, arith}
use Rattle.disk_model.specs.Torn.{IsTorn}
use Rattle.disk_model.specs.Disk.{Written, changed, at_rest, content}
use Rattle.disk_model.specs.Crash.{AnyCrash}
use Rattle.journal_pair.specs.Records.{slot_at}
use Rattle.journal_pair.proofs.Moving.{slot_low}
use Rattle.journal_pair.proofs.header.write_slot.Goals as goal

pub write_synced-requires-clause-inside : goal.write_synced-requires-clause-inside
write_synced-requires-clause-inside g c = omega (arith, c.slot.ensures, slot_low c.args.area.second, c.requires.inside)

pub returns-in_err-write_synced-clause-any_crash : goal.returns-in_err-write_synced-clause-any_crash
returns-in_err-write_synced-clause-any_crash g c =
    let old = (g.D.Disk.view c.args.disk.now).timeline in
    let new = (g.D.Disk.view c.write_synced.new.disk).timeline in
    subst (λ (i : ℕ). AnyCrash old new (IsTorn (content old.now) i 8)) c.slot.ensures (subst (λ (n : ℕ). AnyCrash old new (IsTorn (content old.now) c.slot.result n)) (ap length c.to_be_bytes.ensures) c.write_synced.ensures.any_crash)

pub returns-clause-any_crash : goal.returns-clause-any_crash
returns-clause-any_crash g c =
    let old = (g.D.Disk.view c.args.disk.now).timeline in
    let new = (g.D.Disk.view c.write_synced.new.disk).timeline in
    subst (λ (i : ℕ). AnyCrash old new (IsTorn (content old.now) i 8)) c.slot.ensures (subst (λ (n : ℕ). AnyCrash old new (IsTorn (content old.now) c.slot.result n)) (ap length c.to_be_bytes.ensures) c.write_synced.ensures.any_crash)

pub returns-clause-ok : goal.returns-clause-ok
returns-clause-ok g c =
    let old = (g.D.Disk.view c.args.disk.now).timeline in
    c.in_ok-write_synced.ensures.ok ∙ ap (λ (i : ℕ). at_rest (changed (Written i c.to_be_bytes.result) (content old.now))) c.slot.ensures
    ∙ ap (λ (l : List ℕ). at_rest (changed (Written (slot_at c.args.area.second) l) (content old.now))) c.to_be_bytes.ensures
