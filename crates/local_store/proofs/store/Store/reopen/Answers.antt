use Rattle.std.proofs.Common.{◌≡◌, ◌∙◌, inl, inr, false, true, None, sym, ap, subst}
use Rattle.std.specs.Prelude.{is_ok}
use Rattle.std.proofs.lemmas.Result.{err_from_is_err_and}
use Rattle.disk_model.specs.Disk.{bumped}
use Rattle.std.specs.Arc.{arc_value}
use Rattle.kept_value.specs.View as value
use Rattle.store_records.specs.Spelled.{Saved}
use Rattle.local_store.specs.declared.asked.Asked.{Asked}
use Rattle.local_store.specs.View.{View, saved_in, reopened, reopened_by}
use Rattle.local_store.specs.Keeping.{saved_by, asked_of}
use Rattle.local_store.proofs.Keeping.{seen_survives, kept_survives, kept_durable, stays_reopening, crash_reopening, same_saved, made_fit, made_kept, standing_calm, standing_same, by_fault, kept_now, seen_with, seen_before, shows_by}
use Rattle.local_store.proofs.store.Store.reopen.Goals as goal

pub reopen-requires-clause-sound : goal.reopen-requires-clause-sound
reopen-requires-clause-sound g c = made_fit (arc_value c.self.inside.base) c.in_ok-base.base.now c.in_ok-base.ensures.value c.self.invariant.fit

pub reopen-requires-clause-kept : goal.reopen-requires-clause-kept
reopen-requires-clause-kept g c = made_kept (arc_value c.self.inside.base) c.in_ok-base.base.now c.self.inside.kept c.in_ok-base.ensures.value c.self.invariant

pub returns-in_err-base-clause-any_crash : goal.returns-in_err-base-clause-any_crash
returns-in_err-base-clause-any_crash g c =
    let i = c.self.inside in
    stays_reopening c.args.self.now i.kept.journal.disk (ap (λ (v : View). v.disk.timeline) c.self.view_is) (seen_survives (arc_value i.base) i.kept c.args.self.now c.self.invariant c.self.view_is)

pub invariant_of-self-in_err-reopen : goal.invariant_of-self-in_err-reopen
invariant_of-self-in_err-reopen g c =
    let i = c.self.inside in
    let base = arc_value i.base in
    let made = c.in_ok-base.base.now in
    let is = c.in_ok-base.ensures.value in
    let b = c.reopen.new.value in
    let last = arc_value (c.make_mut.follows.lender b) in
    let end : last ≡ b = c.make_mut.follows.holds b (ap is_ok c.in_ok-base.was) in
    kept_now last b c.reopen.new.self end c.reopen.ensures.sound (by_fault _ _ c.in_err-reopen.was (λ e. standing_same i.kept c.reopen.new.self _ (c.reopen.ensures.memory e).1 c.self.invariant.standing) (λ e. standing_same i.kept c.reopen.new.self _ (c.reopen.ensures.disk e).1 c.self.invariant.standing)) c.reopen.ensures.kept

pub invariant_of-self-2 : goal.invariant_of-self-2
invariant_of-self-2 g c =
    let i = c.self.inside in
    let base = arc_value i.base in
    let made = c.in_ok-base.base.now in
    let is = c.in_ok-base.ensures.value in
    let b = c.reopen.new.value in
    let last = arc_value (c.make_mut.follows.lender b) in
    let end : last ≡ b = c.make_mut.follows.holds b (ap is_ok c.in_ok-base.was) in
    kept_now last b c.reopen.new.self end c.reopen.ensures.sound (standing_calm c.reopen.new.self c.in_ok-reopen.ensures.ok.0) c.reopen.ensures.kept

pub returns-in_err-reopen-clause-any_crash : goal.returns-in_err-reopen-clause-any_crash
returns-in_err-reopen-clause-any_crash g c =
    let i = c.self.inside in
    let base = arc_value i.base in
    let made = c.in_ok-base.base.now in
    crash_reopening base i.kept c.args.self.now (saved_by made) c.reopen.new.self.journal.disk c.self.view_is (same_saved base made c.in_ok-base.ensures.value) c.reopen.ensures.any_crash

pub returns-clause-any_crash : goal.returns-clause-any_crash
returns-clause-any_crash g c =
    let i = c.self.inside in
    let base = arc_value i.base in
    let made = c.in_ok-base.base.now in
    crash_reopening base i.kept c.args.self.now (saved_by made) c.reopen.new.self.journal.disk c.self.view_is (same_saved base made c.in_ok-base.ensures.value) c.reopen.ensures.any_crash

pub returns-in_err-reopen-clause-survives : goal.returns-in_err-reopen-clause-survives
returns-in_err-reopen-clause-survives g c =
    let i = c.self.inside in
    let base = arc_value i.base in
    let made = c.in_ok-base.base.now in
    let is = c.in_ok-base.ensures.value in
    let b = c.reopen.new.value in
    let last = arc_value (c.make_mut.follows.lender b) in
    let end : last ≡ b = c.make_mut.follows.holds b (ap is_ok c.in_ok-base.was) in
    kept_survives last c.reopen.new.self (kept_now last b c.reopen.new.self end c.reopen.ensures.sound (by_fault _ _ c.in_err-reopen.was (λ e. standing_same i.kept c.reopen.new.self _ (c.reopen.ensures.memory e).1 c.self.invariant.standing) (λ e. standing_same i.kept c.reopen.new.self _ (c.reopen.ensures.disk e).1 c.self.invariant.standing)) c.reopen.ensures.kept)

pub returns-clause-survives : goal.returns-clause-survives
returns-clause-survives g c =
    let i = c.self.inside in
    let base = arc_value i.base in
    let made = c.in_ok-base.base.now in
    let is = c.in_ok-base.ensures.value in
    let b = c.reopen.new.value in
    let last = arc_value (c.make_mut.follows.lender b) in
    let end : last ≡ b = c.make_mut.follows.holds b (ap is_ok c.in_ok-base.was) in
    kept_survives last c.reopen.new.self (kept_now last b c.reopen.new.self end c.reopen.ensures.sound (standing_calm c.reopen.new.self c.in_ok-reopen.ensures.ok.0) c.reopen.ensures.kept)

pub returns-clause-durable : goal.returns-clause-durable
returns-clause-durable g c =
    let i = c.self.inside in
    let base = arc_value i.base in
    let made = c.in_ok-base.base.now in
    let is = c.in_ok-base.ensures.value in
    let b = c.reopen.new.value in
    let last = arc_value (c.make_mut.follows.lender b) in
    let end : last ≡ b = c.make_mut.follows.holds b (ap is_ok c.in_ok-base.was) in
    kept_durable last c.reopen.new.self (kept_now last b c.reopen.new.self end c.reopen.ensures.sound (standing_calm c.reopen.new.self c.in_ok-reopen.ensures.ok.0) c.reopen.ensures.kept) c.in_ok-reopen.ensures.ok.1

pub returns-clause-ok : goal.returns-clause-ok
returns-clause-ok g c =
    let i = c.self.inside in
    let base = arc_value i.base in
    let made = c.in_ok-base.base.now in
    let is = c.in_ok-base.ensures.value in
    let b = c.reopen.new.value in
    let last = arc_value (c.make_mut.follows.lender b) in
    let end : last ≡ b = c.make_mut.follows.holds b (ap is_ok c.in_ok-base.was) in
    let same : saved_by made ≡ saved_in c.args.self.now = seen_before base made i.kept c.args.self.now is c.self.view_is in
    let found = c.in_ok-reopen.ensures.found in
    let saved : saved_by b ≡ reopened c.args.self.now found.0 =
    found.2 ∙ shows_by (saved_by made) i.kept.asked found.0 ∙ ap (λ (s : Saved). reopened_by s found.0 (asked_of i.kept.asked)) same
    ∙ ap (λ (v : View). reopened_by (saved_in c.args.self.now) found.0 v.asked) c.self.view_is in (
      found.0,
      λ stands. found.1 (ap (λ (v : View). v.stands) c.self.view_is ∙ stands),
      seen_with last b c.reopen.new.self (reopened c.args.self.now found.0) None false false end saved (ap (λ (k : value.View Asked). asked_of k.asked) c.in_ok-reopen.ensures.ok.0) (ap (λ (k : value.View Asked). k.stands) c.in_ok-reopen.ensures.ok.0) c.in_ok-reopen.ensures.ok.1,
    )

-- ---- it isn't open yet

pub returns-in_err-reopen-clause-memory : goal.returns-in_err-reopen-clause-memory
returns-in_err-reopen-clause-memory g c =
    let i = c.self.inside in
    let base = arc_value i.base in
    let made = c.in_ok-base.base.now in
    let b = c.reopen.new.value in
    let last = arc_value (c.make_mut.follows.lender b) in
    let end : last ≡ b = c.make_mut.follows.holds b (ap is_ok c.in_ok-base.was) in
    let same : saved_by made ≡ saved_in c.args.self.now = seen_before base made i.kept c.args.self.now c.in_ok-base.ensures.value c.self.view_is in
    let r = err_from_is_err_and c.from_residual-in_err-reopen.result c.from_residual-in_err-reopen.ensures.1 in
    rw (r.1, r.2) (λ is.
    let failed = c.in_err-reopen.ensures.memory is in (
      seen_with last b c.reopen.new.self (saved_in c.args.self.now) c.args.self.now.asked c.args.self.now.stands c.args.self.now.down end (failed.0 ∙ same)
          (ap (λ (k : value.View Asked). asked_of k.asked) failed.1 ∙ ap (λ (v : View). v.asked) c.self.view_is)
          (ap (λ (k : value.View Asked). k.stands) failed.1 ∙ ap (λ (v : View). v.stands) c.self.view_is) (ap (λ (k : value.View Asked). k.journal.shut) failed.1 ∙ ap (λ (v : View). v.down) c.self.view_is),
      failed.2 ∙ ap (λ (v : View). v.disk.faults) c.self.view_is,
    ))

pub returns-in_err-reopen-clause-disk : goal.returns-in_err-reopen-clause-disk
returns-in_err-reopen-clause-disk g c =
    let i = c.self.inside in
    let base = arc_value i.base in
    let made = c.in_ok-base.base.now in
    let b = c.reopen.new.value in
    let last = arc_value (c.make_mut.follows.lender b) in
    let end : last ≡ b = c.make_mut.follows.holds b (ap is_ok c.in_ok-base.was) in
    let same : saved_by made ≡ saved_in c.args.self.now = seen_before base made i.kept c.args.self.now c.in_ok-base.ensures.value c.self.view_is in
    let down : i.kept.journal.shut ≡ true = sym c.is_shut.ensures ∙ c.if-not-is_shut.false in
    let r = err_from_is_err_and c.from_residual-in_err-reopen.result c.from_residual-in_err-reopen.ensures.1 in
    rw (r.1, r.2) (λ is.
    let failed = c.in_err-reopen.ensures.disk is in (
      seen_with last b c.reopen.new.self (saved_in c.args.self.now) c.args.self.now.asked c.args.self.now.stands c.args.self.now.down end (failed.0 ∙ same)
          (ap (λ (k : value.View Asked). asked_of k.asked) failed.1 ∙ ap (λ (v : View). v.asked) c.self.view_is)
          (ap (λ (k : value.View Asked). k.stands) failed.1 ∙ ap (λ (v : View). v.stands) c.self.view_is)
          (ap (λ (k : value.View Asked). k.journal.shut) failed.1 ∙ sym down ∙ ap (λ (v : View). v.down) c.self.view_is),
      failed.2 ∙ ap (λ (v : View). bumped v.disk.faults) c.self.view_is,
    ))

pub returns-in_err-reopen-clause-word_refused : goal.returns-in_err-reopen-clause-word_refused
returns-in_err-reopen-clause-word_refused g c =
    subst (λ (v : View). value.Tries c.args.word v.disk c.reopen.new.self.journal.disk) c.self.view_is
    (by_fault _ _ c.in_err-reopen.was c.reopen.ensures.word_memory c.reopen.ensures.word_disk)

-- ---- which word

pub returns-clause-word_refused : goal.returns-clause-word_refused
returns-clause-word_refused g c = inl c.in_ok-reopen.ensures.word

pub returns-in_err-base-clause-word_refused : goal.returns-in_err-base-clause-word_refused
returns-in_err-base-clause-word_refused g c = inr (ap (λ (v : View). v.disk.word) c.self.view_is)
