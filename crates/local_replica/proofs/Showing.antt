-- A store's promises, as those of a replica.
use Rattle.std.proofs.Common.{◌≡◌, ◌⊎◌, ◌≤◌, ℕ, ◌+◌, Bool, true, false, List, [], Option, Some, None, IsSome, refl, sym, ap, subst, ◌∙◌, inl, inr, arith}
use Rattle.std.specs.Prelude.{if◌then◌else◌, min, ◌-◌, ◌^◌}
use Rattle.std.proofs.Math.Nat.{min_comm}
use Rattle.std.specs.Option.{option_map}
use Rattle.delos_types.specs.Spaces.{SpaceMap}
use Rattle.delos_types.specs.declared.entry.Entry.{Entry}
use Rattle.delos_types.specs.declared.item.Item.{Item}
use Rattle.disk_model.specs.Disk.{DiskView, bumped}
use Rattle.disk_model.specs.Armed.{Spends, TakesRecord}
use Rattle.disk_model.specs.Crash.{AnyCrash}
use Rattle.disk_model.specs.CrashLaws.{weaker, stays}
use Rattle.journal_pair.specs.Records.{records_of}
use Rattle.journal_pair.specs.Journal.{AnyCrashLeaves}
use Rattle.store_records.specs.declared.change.Commit.{Commit}
use Rattle.store_records.specs.Changing.{applied}
use Rattle.store_records.specs.Spelled.{committed, saved_of}
use Rattle.store_records.specs.Spelled as spelled
use Rattle.log_laws.specs.State.{IsStateOf}
use Rattle.local_store.specs.View as store
use Rattle.local_store.specs.View.{up_with}
use Rattle.replica_api.specs.Replica.{ReplicaView, SpellsOne, Survives, Advances, Advanced, Failed, MayFind, MayFindDuring, Recovered, Tries, StaysDown, armed_by}
use Rattle.local_replica.specs.Shown.{pair_of, shown, Spells}

-- records that spell what is kept, or what the disk failed to keep
found_with : (s : spelled.Saved) (asked : Option Commit) (kept : Bool) (image : List ℕ) → saved_of (records_of image) ≡ Some (store.reopened_by s kept asked) → SpellsOne Spells (λ t. (t ≡ pair_of s) ⊎ (option_map (λ c. pair_of (committed s c)) asked ≡ Some t)) image
found_with s None kept image e = (pair_of s, e, inl refl)
found_with s (Some c) true image e = (pair_of (committed s c), e, inr refl)
found_with s (Some c) false image e = (pair_of s, e, inl refl)

found_by : (v : store.View) (o : ℕ) (w : List Item) (s r : ℕ) (image : List ℕ) → store.MayFind v (records_of image) → SpellsOne Spells (MayFind (shown v o w s r)) image
found_by v o w s r image f = found_with (store.saved_in v) v.asked f.0 image f.1

pub shown_survives : (v : store.View) (o : ℕ) (w : List Item) (s r : ℕ) → store.Survives v → Survives Spells (shown v o w s r)
shown_survives v o w s r h image is = found_by v o w s r image (h.left image is)

-- nothing was written
pub stays_so : (v : store.View) (o : ℕ) (w : List Item) (s r : ℕ) (e : Entry) → store.Survives v → AnyCrash v.disk.timeline v.disk.timeline (SpellsOne Spells (MayFindDuring IsStateOf (shown v o w s r) e))
stays_so v o w s r e h = stays _ _ _ refl (λ image is. let f = shown_survives v o w s r h image is in (f.0, f.1, inl f.2))

-- a crash inside a commit
pub crash_during : (v : store.View) (c : Commit) (o : ℕ) (w : List Item) (s r : ℕ) (e : Entry) (new : DiskView) → c.cursor ≡ v.cursor + 1 → Advances IsStateOf v.contents v.cursor e (applied v.contents c.changes) → AnyCrashLeaves v.disk new (store.MayFindDuring v c) → AnyCrash v.disk.timeline new.timeline (SpellsOne Spells (MayFindDuring IsStateOf (shown v o w s r) e))
crash_during v c o w s r e new next led run = weaker _ _ _ _ each run
  where
    each : (image : List ℕ) → store.MayFindDuring v c (records_of image) → SpellsOne Spells (MayFindDuring IsStateOf (shown v o w s r) e) image
    each image (inl f) = let g = found_by v o w s r image f in (g.0, g.1, inl g.2)
    each image (inr f) = (pair_of (committed (store.saved_in v) c), f, inr (next, led))

-- a crash inside a reopening
pub crash_reopening : (v : store.View) (o : ℕ) (w : List Item) (s r : ℕ) (new : DiskView) → AnyCrashLeaves v.disk new (store.MayFind v) → AnyCrash v.disk.timeline new.timeline (SpellsOne Spells (MayFind (shown v o w s r)))
crash_reopening v o w s r new run = weaker _ _ _ _ (λ image f. found_by v o w s r image f) run

-- .. and of one that does nothing
pub idle_crash : (v : store.View) (o : ℕ) (w : List Item) (s r : ℕ) → store.Survives v → AnyCrash v.disk.timeline v.disk.timeline (SpellsOne Spells (MayFind (shown v o w s r)))
idle_crash v o w s r h = stays _ _ _ refl (shown_survives v o w s r h)

-- one more was told
pub counts_one : (n m : ℕ) → m ≡ min (n + 1) (2 ^ 64 - 1) → bumped n ≡ m
counts_one n m is = min_comm (2 ^ 64 - 1) (n + 1) ∙ sym is

-- What is left of the count

-- the count of a store that is up is the disk's
shows_count : (R : ℕ → ℕ → Type 0) (down down' : Bool) (n n' : ℕ) → down ≡ false → down' ≡ false → R n n' → R (if down then 0 else n) (if down' then 0 else n')
shows_count R down down' n n' up up' h =
    subst (λ (b : Bool). R (if b then 0 else n) (if down' then 0 else n')) (sym up) (subst (λ (b : Bool). R n (if b then 0 else n')) (sym up') h)

-- the entry was applied and kept
pub advanced : (v v' : store.View) (c : Commit) (o : ℕ) (w : List Item) (s r : ℕ) (e : Entry) → v.down ≡ false → c.cursor ≡ v.cursor + 1 → Advances IsStateOf v.contents v.cursor e (applied v.contents c.changes) → v' ≡ up_with (committed (store.saved_in v) c) v'.disk → v'.disk.faults ≡ v.disk.faults → v'.disk.word ≡ v.disk.word → TakesRecord 4 v.disk.armed v'.disk.armed
    → Advanced IsStateOf (shown v o w s r) e (shown v' o w s r)
advanced v v' c o w s r e up next led is faults word taken =
    let up' : v'.down ≡ false = ap (λ (u : store.View). u.down) is in
    record {
      was_up = up;
      led = subst (λ (m : SpaceMap). Advances IsStateOf v.contents v.cursor e m) (sym (ap (λ (u : store.View). u.contents) is)) led;
      cursor = ap (λ (u : store.View). u.cursor) is ∙ next;
      none_asked = ap (λ (u : store.View). (shown u o w s r).asked) is;
      settled = ap (λ (u : store.View). u.stands) is;
      up = up';
      faults = faults;
      origin = refl;
      kept = refl;
      armed = shows_count (TakesRecord 4) v.down v'.down v.disk.armed v'.disk.armed up up' taken;
      word = word;
      stops = refl;
      reopenings = refl;
    }

-- the disk failed
pub failed : (v v' : store.View) (c : Commit) (o : ℕ) (w : List Item) (s r : ℕ) (e : Entry) → v.down ≡ false → c.cursor ≡ v.cursor + 1 → Advances IsStateOf v.contents v.cursor e (applied v.contents c.changes) → v' ≡ record v { asked = Some c; stands = v'.stands; down = true; disk = v'.disk } → v'.disk.faults ≡ bumped v.disk.faults → v'.disk.word ≡ v.disk.word → v.disk.faults ≤ v'.disk.faults
    → Failed IsStateOf (shown v o w s r) e (shown v' o w s r)
failed v v' c o w s r e up next led is faults word counts =
    let fault : ℕ → ℕ → ℕ → ReplicaView = λ cursor faults word. record (shown v o w s r) { asked = Some (record { cursor = cursor; contents = applied v.contents c.changes }); stands = v'.stands; down = true; armed = 0; disk = v'.disk.timeline; faults = faults; word = word } in
    record {
      was_up = up;
      next = applied v.contents c.changes;
      led = led;
      is = ap (λ (u : store.View). shown u o w s r) is ∙ (ap (λ n. fault n v'.disk.faults v'.disk.word) next ∙ (ap (λ n. fault (v.cursor + 1) n v'.disk.word) faults ∙ ap (λ n. fault (v.cursor + 1) (bumped v.disk.faults) n) word));
      counts = counts;
    }

-- Want of memory: the disk alone may have changed, and at most one write was taken of its count.
pub unchanged : (v v' : store.View) (o : ℕ) (w : List Item) (s r : ℕ) → v.down ≡ false → v' ≡ record v { disk = v'.disk } → v'.disk.faults ≡ v.disk.faults → v'.disk.word ≡ v.disk.word → Spends 1 v.disk.armed v'.disk.armed
    → Spends 1 (shown v o w s r).armed (shown v' o w s r).armed × (shown v' o w s r ≡ record (shown v o w s r) { disk = v'.disk.timeline; armed = (shown v' o w s r).armed })
unchanged v v' o w s r up is faults word spends =
    let same : v'.down ≡ v.down = ap (λ (u : store.View). u.down) is in
    let with_disk : ℕ → ℕ → ℕ → ReplicaView = λ faults word armed. record (shown v o w s r) { disk = v'.disk.timeline; faults = faults; word = word; armed = armed } in
    let count : ℕ = if v.down then 0 else v'.disk.armed in (
      shows_count (Spends 1) v.down v'.down v.disk.armed v'.disk.armed up (same ∙ up) spends,
      ap (λ (u : store.View). shown u o w s r) is
          ∙ (ap (λ n. with_disk n v'.disk.word count) faults
          ∙ (ap (λ n. with_disk v.disk.faults n count) word
          ∙ ap (λ (b : Bool). with_disk v.disk.faults v.disk.word (if b then 0 else v'.disk.armed)) (sym same))),
    )

-- nothing was written
pub none_spent : (n : ℕ) → Spends 1 n n
none_spent n =
    let fewer : n ≤ n = omega arith in
    let most : n ≤ n + 1 = omega arith in
    record { fewer = fewer; at_most = most; still = refl }

-- What a reopening finds

found_one : (s : spelled.Saved) (asked : Option Commit) (done : Bool) → (pair_of (store.reopened_by s done asked) ≡ pair_of s) ⊎ (option_map (λ c. pair_of (committed s c)) asked ≡ Some (pair_of (store.reopened_by s done asked)))
found_one s None done = inl refl
found_one s (Some c) true = inr refl
found_one s (Some c) false = inl refl

-- what the disk failed to keep, where its record stands
found_asked : (s : spelled.Saved) (asked : Option Commit) (done : Bool) → IsSome asked → done ≡ true → option_map (λ c. pair_of (committed s c)) asked ≡ Some (pair_of (store.reopened_by s done asked))
found_asked s None done some is = absurd (cc)
found_asked s (Some c) true some is = refl
found_asked s (Some c) false some is = absurd (cc)

not_both : (b : Bool) → b ≡ true → b ≡ false → ⊥
not_both b up down = let both : true ≡ false = sym up ∙ down in cc

-- the store is open again
pub recovered : (v v' : store.View) (o : ℕ) (w : List Item) (s r word : ℕ) (kept : Bool) → store.Survives v → v.down ≡ true → (v.stands ≡ true → kept ≡ true) → v' ≡ up_with (store.reopened v kept) v'.disk → v'.disk.word ≡ word → v'.disk.armed ≡ 0 → v'.disk.faults ≡ v.disk.faults
    → Recovered word (shown v o w s r) (shown v' o w s (bumped r))
recovered v v' o w s r word kept sound was stands is by disarmed faults = record {
  found = subst (λ (u : store.View). MayFind (shown v o w s r) (pair_of (store.saved_in u))) (sym is) (found_one (store.saved_in v) v.asked kept);
  standing = λ h. subst (λ (u : store.View). (shown v o w s r).asked ≡ Some (pair_of (store.saved_in u))) (sym is) (found_asked (store.saved_in v) v.asked kept (sound.standing h) (stands h));
  settled = ap (λ (u : store.View). u.stands) is;
  none_asked = ap (λ (u : store.View). (shown u o w s r).asked) is;
  up = up;
  faults = faults;
  origin = refl;
  kept = refl;
  armed = ap (λ (b : Bool). if b then 0 else v'.disk.armed) up ∙ (disarmed ∙ ap (λ (b : Bool). if b then 0 else v.disk.armed) (sym was));
  word_is = λ _. by;
  stops = refl;
  reopenings = refl;
  idle = λ up. absurd (not_both v.down was up);
}
  where
    up : v'.down ≡ false
    up = ap (λ (u : store.View). u.down) is

-- it was open
pub idle : (v : store.View) (o : ℕ) (w : List Item) (s r word : ℕ) → store.Survives v → v.down ≡ false → Recovered word (shown v o w s r) (shown v o w s (bumped r))
idle v o w s r word sound up = record {
  found = inl refl;
  standing = λ h. absurd (not_both v.stands h (sound.settled up));
  settled = sound.settled up;
  none_asked = ap (λ (a : Option Commit). option_map (λ c. pair_of (committed (store.saved_in v) c)) a) (sound.whole up);
  up = up;
  faults = refl;
  origin = refl;
  kept = refl;
  armed = refl;
  word_is = λ was. absurd (not_both v.down was up);
  stops = refl;
  reopenings = refl;
  idle = λ _. refl;
}

-- a store that is down shows no count, whatever its disk's is
down_shows : (v v' : store.View) (o : ℕ) (w : List Item) (s r n : ℕ) → v.down ≡ true → v' ≡ record v { disk = v'.disk } → v'.disk.faults ≡ n → shown v' o w s r ≡ record (shown v o w s r) { disk = v'.disk.timeline; faults = n; word = v'.disk.word }
down_shows v v' o w s r n was is faults =
    let with_disk : ℕ → ℕ → ReplicaView = λ faults armed. record (shown v o w s r) { disk = v'.disk.timeline; faults = faults; word = v'.disk.word; armed = armed } in
    ap (λ (u : store.View). shown u o w s r) is
    ∙ (ap (λ n. with_disk n (if v.down then 0 else v'.disk.armed)) faults
    ∙ (ap (λ (b : Bool). with_disk n (if b then 0 else v'.disk.armed)) was ∙ ap (λ (b : Bool). with_disk n (if b then 0 else v.disk.armed)) (sym was)))

-- it is still down
pub stays_down : (v v' : store.View) (o : ℕ) (w : List Item) (s r word : ℕ) → v.down ≡ true → v' ≡ record v { disk = v'.disk } → v'.disk.faults ≡ bumped v.disk.faults → v.disk.faults ≤ v'.disk.faults → (v'.disk.word ≡ word) ⊎ (v'.disk.word ≡ v.disk.word)
    → StaysDown word (shown v o w s r) (shown v' o w s (bumped r))
stays_down v v' o w s r word was is faults counts by = record {
  tries = (was, by);
  is = down_shows v v' o w s (bumped r) (bumped v.disk.faults) was is faults;
  counts = counts;
}

-- .. without memory
pub stays_so_down : (v v' : store.View) (o : ℕ) (w : List Item) (s r word : ℕ) → v.down ≡ true → v' ≡ record v { disk = v'.disk } → v'.disk.faults ≡ v.disk.faults → (v'.disk.word ≡ word) ⊎ (v'.disk.word ≡ v.disk.word)
    → Tries word (shown v o w s r) (shown v' o w s r) × (shown v' o w s r ≡ record (shown v o w s r) { disk = v'.disk.timeline; word = v'.disk.word })
stays_so_down v v' o w s r word was is faults by = ((was, by), down_shows v v' o w s r v.disk.faults was is faults)

-- The store is told a count

-- a stopped disk may stay as it is, which only a store that is down has
armed_as : (v : store.View) (after : ℕ) (o : ℕ) (w : List Item) (s r : ℕ) (stopped : Bool) → v.down ≡ true → shown (record v { disk = if stopped then v.disk else record v.disk { armed = after } }) o w (bumped s) r ≡ armed_by (shown v o w s r) after
armed_as v after o w s r false down = refl
armed_as v after o w s r true down =
    let with_count : ℕ → ReplicaView = λ n. record (shown v o w s r) { armed = n; stops = bumped s } in
    ap (λ (b : Bool). with_count (if b then 0 else v.disk.armed)) down ∙ ap (λ (b : Bool). with_count (if b then 0 else after)) (sym down)

pub armed_so : (v v' : store.View) (after : ℕ) (o : ℕ) (w : List Item) (s r : ℕ) → v' ≡ record v { disk = if v.disk.stopped then v.disk else record v.disk { armed = after } } → (v.down ≡ false → v'.disk ≡ record v.disk { armed = after }) → shown v' o w (bumped s) r ≡ armed_by (shown v o w s r) after
armed_so v v' after o w s r is arms = by_state v.down refl
  where
    by_state : (b : Bool) → v.down ≡ b → shown v' o w (bumped s) r ≡ armed_by (shown v o w s r) after
    by_state false up = ap (λ (u : store.View). shown u o w (bumped s) r) (is ∙ ap (λ d. record v { disk = d }) (sym (ap (λ (u : store.View). u.disk) is) ∙ arms up))
    by_state true down = ap (λ (u : store.View). shown u o w (bumped s) r) is ∙ armed_as v after o w s r v.disk.stopped down
