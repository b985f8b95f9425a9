-- Replicas over stores that were begun.
use Rattle.std.proofs.Common.{Bool, ◌≡◌, ◌≤◌, ◌+◌, ℕ, List, [], Option, None, true, false, Some, refl, sym, ap, subst, ◌∙◌, inl, inr, arith}
use Rattle.std.specs.Prelude.{if◌then◌else◌}
use Rattle.std.specs.Option.{option_map}
use Rattle.std.specs.FinMap as map
use Rattle.delos_types.specs.declared.item.Item.{Item}
use Rattle.disk_model.specs.Disk.{DiskView, bumped}
use Rattle.disk_model.specs.Armed.{Spends}
use Rattle.store_records.specs.declared.change.Commit.{Commit}
use Rattle.store_records.specs.Spelled.{Saved, nothing_saved, committed}
use Rattle.log_laws.specs.State.{IsStateOf}
use Rattle.local_store.specs.View as store
use Rattle.local_replica.specs.Shown.{pair_of, shown, local_meaning}
use Rattle.local_replica.proofs.Showing.{shown_survives}
use Rattle.replica_api.specs.Fresh.{IsFreshReplica}
use Rattle.node_opening.specs.Opened.{IsCounted, IsArmedAs, IsLeftOf, AreLeftOf}

pub fresh_replica : (v s : store.View) (o number : ℕ) (w : List Item) (st re : ℕ) → v ≡ s → store.saved_in s ≡ nothing_saved → (s.asked ≡ None) × (s.stands ≡ false) → store.Survives s → o ≡ number → w ≡ [] → (st ≡ 0) × (re ≡ 0) → IsStateOf [] map.empty → IsFreshReplica local_meaning number (shown v o w st re)
fresh_replica v s o number w st re is start none survives same waits untold empty = record {
  empty = subst (IsStateOf []) (sym (ap (λ (u : store.View). u.contents) is ∙ ap (λ (x : Saved). x.contents) start)) empty;
  start = ap (λ (u : store.View). u.cursor) is ∙ ap (λ (x : Saved). x.cursor) start;
  none_asked = ap (λ (u : store.View). (shown u o w st re).asked) is ∙ ap (λ (a : Option Commit). option_map (λ c. pair_of (committed (store.saved_in s) c)) a) none.0;
  settled = ap (λ (u : store.View). u.stands) is ∙ none.1;
  nothing_waits = waits;
  survives = shown_survives v o w st re (subst store.Survives (sym is) survives);
  origin_is = same;
  none_told = untold;
}

pub is_counted : (v s : store.View) (o before : ℕ) (w : List Item) (st re : ℕ) → v ≡ s → before ≡ 0 → (s.down ≡ true → s.disk.faults ≡ bumped before) → (s.down ≡ false → s.disk.faults ≡ before) → IsCounted (shown v o w st re)
is_counted v s o before w st re is none down up = subst (λ (u : store.View). IsCounted (shown u o w st re)) (sym is) (by s.down refl)
  where
    by : (b : Bool) → s.down ≡ b → s.disk.faults ≡ (if s.down then 1 else 0)
    by true e = let one : bumped 0 ≡ 1 = refl in down e ∙ (ap bumped none ∙ (one ∙ ap (λ (b : Bool). if b then 1 else 0) (sym e)))
    by false e = up e ∙ (none ∙ ap (λ (b : Bool). if b then 1 else 0) (sym e))

pub armed_as : (v s : store.View) (o : ℕ) (w : List Item) (st re : ℕ) (d : DiskView) → v ≡ s → (s.down ≡ false → Spends 4 d.armed s.disk.armed) → s.disk.word ≡ d.word → IsArmedAs d (shown v o w st re)
armed_as v s o w st re d is spends word = subst (λ (u : store.View). IsArmedAs d (shown u o w st re)) (sym is) (record {
  up = λ e. subst (λ (b : Bool). Spends 4 d.armed (if b then 0 else s.disk.armed)) (sym e) (spends e);
  down = λ e. ap (λ (b : Bool). if b then 0 else s.disk.armed) e;
  word = word;
})

-- what a beginning leaves of a disk
pub left_of : (v s : store.View) (d : DiskView) → v ≡ s → (s.down ≡ true → s.disk.faults ≡ bumped d.faults) → (s.down ≡ false → s.disk.faults ≡ d.faults) → (s.down ≡ false → Spends 4 d.armed s.disk.armed) → d.armed ≤ s.disk.armed + 4 → s.disk.word ≡ d.word → IsLeftOf d v.disk
left_of v s d is down up spends four word = subst (λ (u : store.View). IsLeftOf d u.disk) (sym is) (by s.down refl)
  where
    by : (b : Bool) → s.down ≡ b → IsLeftOf d s.disk
    by true e = record { word = word; left = inr (down e, four) }
    by false e = record { word = word; left = inl (up e, spends e) }

-- nothing was done
pub left_alone : (d : DiskView) → IsLeftOf d d
left_alone d =
    let fewer : d.armed ≤ d.armed = omega arith in
    let most : d.armed ≤ d.armed + 4 = omega arith in
    record { word = refl; left = inl (refl, record { fewer = fewer; at_most = most; still = refl }) }

-- .. to any
pub all_left_alone : {B : Type 0} (disk : B → DiskView) (ks : List B) → AreLeftOf disk disk ks ks
all_left_alone disk ks j n at k at' =
    let both : Some n ≡ Some k = sym at ∙ at' in
    let one : n ≡ k = cc in
    subst (λ z. IsLeftOf (disk z) (disk n)) one (left_alone (disk n))
