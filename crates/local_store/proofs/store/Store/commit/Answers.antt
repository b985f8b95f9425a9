use Rattle.std.proofs.Common.{◌≡◌, ◌≤◌, ◌∙◌, false, true, Err, Some, None, List, refl, sym, ap, subst}
use Rattle.std.specs.Prelude.{is_ok}
use Rattle.std.specs.Arc.{arc_value}
use Rattle.kept_value.specs.View as value
use Rattle.store_records.specs.declared.change.Change.{Change}
use Rattle.store_records.specs.declared.change.Commit.{Commit}
use Rattle.store_records.specs.Spelled.{Saved, committed}
use Rattle.local_store.specs.declared.asked.Asked.{Asked}
use Rattle.local_store.specs.View.{View, txn_commit, saved_in, CountsWrites}
use Rattle.local_store.specs.Keeping.{saved_by, asked_of, commit_of_asked}
use Rattle.disk_model.specs.Disk.{bumped}
use Rattle.local_store.proofs.Keeping.{seen_survives, kept_survives, kept_durable, stays_during, during, same_saved, made_fit, made_kept, standing_calm, standing_asked, standing_same, kept_now, seen_with, seen_before, counts_writes}
use Rattle.local_store.proofs.store.Store.commit.Goals as goal

pub write-requires-clause-sound : goal.write-requires-clause-sound
write-requires-clause-sound g c = made_fit (arc_value c.self.inside.base) c.in_ok-base.base.now c.in_ok-base.ensures.value c.self.invariant.fit

pub write-requires-clause-kept : goal.write-requires-clause-kept
write-requires-clause-kept g c = made_kept (arc_value c.self.inside.base) c.in_ok-base.base.now c.self.inside.kept c.in_ok-base.ensures.value c.self.invariant

pub write-requires-clause-can : goal.write-requires-clause-can
write-requires-clause-can g c =
    let made = c.in_ok-base.base.now in
    let same : saved_by made ≡ saved_in c.args.self.now = seen_before (arc_value c.self.inside.base) made c.self.inside.kept c.args.self.now c.in_ok-base.ensures.value c.self.view_is in
    record { rises = subst (λ (s : Saved). s.cursor ≤ c.args.cursor) (sym same) c.requires; fit = c.into_changes-changes.ensures.fit }

-- ---- it is down, or memory is wanting for a space of its own

pub returns-then-is_shut-clause-any_crash : goal.returns-then-is_shut-clause-any_crash
returns-then-is_shut-clause-any_crash g c =
    let i = c.self.inside in
    stays_during c.args.self.now (txn_commit c.args.cursor c.args.txn) c.args.self.now.disk refl (seen_survives (arc_value i.base) i.kept c.args.self.now c.self.invariant c.self.view_is)

pub returns-in_err-base-clause-any_crash : goal.returns-in_err-base-clause-any_crash
returns-in_err-base-clause-any_crash g c =
    let i = c.self.inside in
    stays_during c.args.self.now (txn_commit c.args.cursor c.args.txn) i.kept.journal.disk (ap (λ (v : View). v.disk.timeline) c.self.view_is) (seen_survives (arc_value i.base) i.kept c.args.self.now c.self.invariant c.self.view_is)

-- ---- the transaction is kept

pub invariant_of-self-in-Ok : goal.invariant_of-self-in-Ok
invariant_of-self-in-Ok g c =
    let i = c.self.inside in
    let base = arc_value i.base in
    let made = c.in_ok-base.base.now in
    let is = c.in_ok-base.ensures.value in
    let b = c.write.new.value in
    let last = arc_value (c.make_mut.follows.lender b) in
    let end : last ≡ b = c.make_mut.follows.holds b (ap is_ok c.in_ok-base.was) in
    kept_now last b c.write.new.self end c.write.ensures.sound (standing_calm c.write.new.self c.in-Ok.ensures.ok.1) c.write.ensures.kept

pub invariant_of-self-in-Err-Disk : goal.invariant_of-self-in-Err-Disk
invariant_of-self-in-Err-Disk g c =
    let i = c.self.inside in
    let base = arc_value i.base in
    let made = c.in_ok-base.base.now in
    let is = c.in_ok-base.ensures.value in
    let b = c.write.new.value in
    let failed = c.write.ensures.disk (c.in-Err-Disk.is ∙ ap Err c.in-Err-Disk.field-0-is) in
    let last = arc_value (c.make_mut.follows.lender b) in
    let end : last ≡ b = c.make_mut.follows.holds b (ap is_ok c.in_ok-base.was) in
    kept_now last b c.write.new.self end c.write.ensures.sound (standing_asked c.write.new.self _ failed.1) c.write.ensures.kept

pub invariant_of-self-in-Err-Memory : goal.invariant_of-self-in-Err-Memory
invariant_of-self-in-Err-Memory g c =
    let i = c.self.inside in
    let base = arc_value i.base in
    let made = c.in_ok-base.base.now in
    let is = c.in_ok-base.ensures.value in
    let b = c.write.new.value in
    let failed = c.write.ensures.memory (c.in-Err-Memory.is ∙ ap Err c.in-Err-Memory.field-0-is) in
    let last = arc_value (c.make_mut.follows.lender b) in
    let end : last ≡ b = c.make_mut.follows.holds b (ap is_ok c.in_ok-base.was) in
    kept_now last b c.write.new.self end c.write.ensures.sound (standing_same i.kept c.write.new.self _ failed.1 c.self.invariant.standing) c.write.ensures.kept

pub returns-in-Ok-clause-any_crash : goal.returns-in-Ok-clause-any_crash
returns-in-Ok-clause-any_crash g c =
    let i = c.self.inside in
    let base = arc_value i.base in
    let made = c.in_ok-base.base.now in
    let asked : Asked = record { cursor = c.args.cursor; changes = c.into_changes-changes.result } in
    let commit : commit_of_asked asked ≡ txn_commit c.args.cursor c.args.txn =
    ap (λ (l : List Change). record { cursor = c.args.cursor; changes = l }) c.into_changes-changes.ensures.changes in
    during base i.kept c.args.self.now (saved_by made) asked (txn_commit c.args.cursor c.args.txn) c.write.new.self.journal.disk c.self.view_is (same_saved base made c.in_ok-base.ensures.value) commit c.write.ensures.any_crash

pub returns-in-Ok-clause-survives : goal.returns-in-Ok-clause-survives
returns-in-Ok-clause-survives g c =
    let i = c.self.inside in
    let base = arc_value i.base in
    let made = c.in_ok-base.base.now in
    let is = c.in_ok-base.ensures.value in
    let b = c.write.new.value in
    let last = arc_value (c.make_mut.follows.lender b) in
    let end : last ≡ b = c.make_mut.follows.holds b (ap is_ok c.in_ok-base.was) in
    kept_survives last c.write.new.self (kept_now last b c.write.new.self end c.write.ensures.sound (standing_calm c.write.new.self c.in-Ok.ensures.ok.1) c.write.ensures.kept)

pub returns-in-Ok-clause-durable : goal.returns-in-Ok-clause-durable
returns-in-Ok-clause-durable g c =
    let i = c.self.inside in
    let base = arc_value i.base in
    let made = c.in_ok-base.base.now in
    let is = c.in_ok-base.ensures.value in
    let b = c.write.new.value in
    let last = arc_value (c.make_mut.follows.lender b) in
    let end : last ≡ b = c.make_mut.follows.holds b (ap is_ok c.in_ok-base.was) in
    kept_durable last c.write.new.self (kept_now last b c.write.new.self end c.write.ensures.sound (standing_calm c.write.new.self c.in-Ok.ensures.ok.1) c.write.ensures.kept) c.in-Ok.ensures.ok.2

pub returns-in-Ok-clause-ok : goal.returns-in-Ok-clause-ok
returns-in-Ok-clause-ok g c =
    let i = c.self.inside in
    let base = arc_value i.base in
    let made = c.in_ok-base.base.now in
    let is = c.in_ok-base.ensures.value in
    let b = c.write.new.value in
    let last = arc_value (c.make_mut.follows.lender b) in
    let end : last ≡ b = c.make_mut.follows.holds b (ap is_ok c.in_ok-base.was) in
    let same : saved_by made ≡ saved_in c.args.self.now = seen_before base made i.kept c.args.self.now is c.self.view_is in
    let asked : Asked = record { cursor = c.args.cursor; changes = c.into_changes-changes.result } in
    let commit : commit_of_asked asked ≡ txn_commit c.args.cursor c.args.txn =
    ap (λ (l : List Change). record { cursor = c.args.cursor; changes = l }) c.into_changes-changes.ensures.changes in
    let ok = c.in-Ok.ensures.ok in
    seen_with last b c.write.new.self (committed (saved_in c.args.self.now) (txn_commit c.args.cursor c.args.txn)) None false false end
    (ok.0 ∙ ap (λ (s : Saved). committed s (commit_of_asked asked)) same ∙ ap (λ (x : Commit). committed (saved_in c.args.self.now) x) commit)
    (ap (λ (k : value.View Asked). asked_of k.asked) ok.1) (ap (λ (k : value.View Asked). k.stands) ok.1) ok.2

pub returns-in-Ok-clause-counted : goal.returns-in-Ok-clause-counted
returns-in-Ok-clause-counted g c =
    let i = c.self.inside in
    let up : i.kept.journal.shut ≡ false = sym c.is_shut.ensures ∙ c.if-is_shut.false in
    subst (λ (v : View). CountsWrites v.disk c.write.new.self.journal.disk) c.self.view_is
    (counts_writes (saved_by (arc_value i.base)) i.kept c.write.new.self c.self.invariant.kept up c.in-Ok.ensures.one_more c.in-Ok.ensures.writes)

-- ---- the disk failed

pub returns-in-Err-Disk-clause-any_crash : goal.returns-in-Err-Disk-clause-any_crash
returns-in-Err-Disk-clause-any_crash g c =
    let i = c.self.inside in
    let base = arc_value i.base in
    let made = c.in_ok-base.base.now in
    let asked : Asked = record { cursor = c.args.cursor; changes = c.into_changes-changes.result } in
    let commit : commit_of_asked asked ≡ txn_commit c.args.cursor c.args.txn =
    ap (λ (l : List Change). record { cursor = c.args.cursor; changes = l }) c.into_changes-changes.ensures.changes in
    during base i.kept c.args.self.now (saved_by made) asked (txn_commit c.args.cursor c.args.txn) c.write.new.self.journal.disk c.self.view_is (same_saved base made c.in_ok-base.ensures.value) commit c.write.ensures.any_crash

pub returns-in-Err-Disk-clause-survives : goal.returns-in-Err-Disk-clause-survives
returns-in-Err-Disk-clause-survives g c =
    let i = c.self.inside in
    let base = arc_value i.base in
    let made = c.in_ok-base.base.now in
    let is = c.in_ok-base.ensures.value in
    let b = c.write.new.value in
    let failed = c.write.ensures.disk (c.in-Err-Disk.is ∙ ap Err c.in-Err-Disk.field-0-is) in
    let last = arc_value (c.make_mut.follows.lender b) in
    let end : last ≡ b = c.make_mut.follows.holds b (ap is_ok c.in_ok-base.was) in
    kept_survives last c.write.new.self (kept_now last b c.write.new.self end c.write.ensures.sound (standing_asked c.write.new.self _ failed.1) c.write.ensures.kept)

pub returns-in-Err-Disk-clause-disk : goal.returns-in-Err-Disk-clause-disk
returns-in-Err-Disk-clause-disk g c =
    let i = c.self.inside in
    let base = arc_value i.base in
    let made = c.in_ok-base.base.now in
    let is = c.in_ok-base.ensures.value in
    let b = c.write.new.value in
    let last = arc_value (c.make_mut.follows.lender b) in
    let end : last ≡ b = c.make_mut.follows.holds b (ap is_ok c.in_ok-base.was) in
    let same : saved_by made ≡ saved_in c.args.self.now = seen_before base made i.kept c.args.self.now is c.self.view_is in
    let asked : Asked = record { cursor = c.args.cursor; changes = c.into_changes-changes.result } in
    let commit : commit_of_asked asked ≡ txn_commit c.args.cursor c.args.txn =
    ap (λ (l : List Change). record { cursor = c.args.cursor; changes = l }) c.into_changes-changes.ensures.changes in
    let failed = c.write.ensures.disk (c.in-Err-Disk.is ∙ ap Err c.in-Err-Disk.field-0-is) in
    λ _. (
      seen_with last b c.write.new.self (saved_in c.args.self.now) (Some (txn_commit c.args.cursor c.args.txn)) c.write.new.self.stands true end (failed.0 ∙ same) (ap asked_of failed.1 ∙ ap Some commit) refl failed.2,
      failed.3 ∙ ap (λ (v : View). bumped v.disk.faults) c.self.view_is,
    )

-- ---- memory was wanting

pub returns-in-Err-Memory-clause-any_crash : goal.returns-in-Err-Memory-clause-any_crash
returns-in-Err-Memory-clause-any_crash g c =
    let i = c.self.inside in
    let base = arc_value i.base in
    let made = c.in_ok-base.base.now in
    let asked : Asked = record { cursor = c.args.cursor; changes = c.into_changes-changes.result } in
    let commit : commit_of_asked asked ≡ txn_commit c.args.cursor c.args.txn =
    ap (λ (l : List Change). record { cursor = c.args.cursor; changes = l }) c.into_changes-changes.ensures.changes in
    during base i.kept c.args.self.now (saved_by made) asked (txn_commit c.args.cursor c.args.txn) c.write.new.self.journal.disk c.self.view_is (same_saved base made c.in_ok-base.ensures.value) commit c.write.ensures.any_crash

pub returns-in-Err-Memory-clause-survives : goal.returns-in-Err-Memory-clause-survives
returns-in-Err-Memory-clause-survives g c =
    let i = c.self.inside in
    let base = arc_value i.base in
    let made = c.in_ok-base.base.now in
    let is = c.in_ok-base.ensures.value in
    let b = c.write.new.value in
    let failed = c.write.ensures.memory (c.in-Err-Memory.is ∙ ap Err c.in-Err-Memory.field-0-is) in
    let last = arc_value (c.make_mut.follows.lender b) in
    let end : last ≡ b = c.make_mut.follows.holds b (ap is_ok c.in_ok-base.was) in
    kept_survives last c.write.new.self (kept_now last b c.write.new.self end c.write.ensures.sound (standing_same i.kept c.write.new.self _ failed.1 c.self.invariant.standing) c.write.ensures.kept)

pub returns-in-Err-Memory-clause-memory : goal.returns-in-Err-Memory-clause-memory
returns-in-Err-Memory-clause-memory g c =
    let i = c.self.inside in
    let base = arc_value i.base in
    let made = c.in_ok-base.base.now in
    let is = c.in_ok-base.ensures.value in
    let b = c.write.new.value in
    let last = arc_value (c.make_mut.follows.lender b) in
    let end : last ≡ b = c.make_mut.follows.holds b (ap is_ok c.in_ok-base.was) in
    let same : saved_by made ≡ saved_in c.args.self.now = seen_before base made i.kept c.args.self.now is c.self.view_is in
    let failed = c.write.ensures.memory (c.in-Err-Memory.is ∙ ap Err c.in-Err-Memory.field-0-is) in
    λ _. seen_with last b c.write.new.self (saved_in c.args.self.now) c.args.self.now.asked c.args.self.now.stands c.args.self.now.down end (failed.0 ∙ same)
    (ap (λ (k : value.View Asked). asked_of k.asked) failed.1 ∙ ap (λ (v : View). v.asked) c.self.view_is) (ap (λ (k : value.View Asked). k.stands) failed.1 ∙ ap (λ (v : View). v.stands) c.self.view_is) (ap (λ (k : value.View Asked). k.journal.shut) failed.1 ∙ ap (λ (v : View). v.down) c.self.view_is)
