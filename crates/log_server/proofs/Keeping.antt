-- What a server shows of what it holds and of what its journal keeps, and what a crash leaves of it.
use Rattle.std.proofs.Common.{◌≡◌, ℕ, ◌+◌, ◌-◌, ◌≤◌, ◌⊎◌, inl, inr, Bool, true, false, not, ◌&&◌, cond, ltb, List, length, Option, Some, None, refl, sym, ap, subst, ◌∙◌}
use Rattle.std.specs.Prelude.{slice_get}
use Rattle.std.specs.Option.{ForSome}
use Rattle.delos_types.specs.declared.entry.Entry.{Entry}
use Rattle.disk_model.specs.Disk.{DiskView, bumped}
use Rattle.disk_model.specs.CrashLaws.{stays, weaker}
use Rattle.journal_pair.specs.Records.{records_of}
use Rattle.journal_pair.specs.Journal.{LeavesRecords, AnyCrashLeaves}
use Rattle.journal_pair.specs.Journal as pair
use Rattle.kept_value.specs.View as kept
use Rattle.kept_value.specs.View.{calm, reopened_by, BeforeOrAfter}
use Rattle.kept_value.specs.Keeping.{IsKept}
use Rattle.quorum_cell.specs.declared.message.Ask.{Ask}
use Rattle.quorum_cell.specs.declared.message.Ask.TheVariants.{Store, Seal, Tail, Repair, Read, Trim}
use Rattle.quorum_cell.specs.declared.message.Told.{Told}
use Rattle.quorum_cell.specs.declared.message.Told.TheVariants.{Down, DiskFault, Sealed, Unsealed, Behind, Ack, Cut, Short, Got, Trimmed}
use Rattle.quorum_cell.specs.Servers.{Server, length_of, is_sealed, told, told_up, told_place, told_entry, writes, wrote, restarted}
use Rattle.server_records.specs.Spelled.{server_of}
use Rattle.log_server.specs.declared.held.Held.{Held}
use Rattle.log_server.specs.View.{View, MayFind, Survives}
use Rattle.log_server.specs.Answers.{after_ask, wants_write, writes_behind, Tells, Answers, MayFindDuring}
use Rattle.log_server.specs.Kind.{CanWrite, server_kind, compacts_after}
use Rattle.log_server.specs.Holding.{server_with, server_shown, view_of, IsHeld}

-- ---- what a crash leaves

kept_left : (s : Server) (k : kept.View Ask) → IsKept server_kind s k → LeavesRecords k.journal.disk (kept.MayFind server_kind s k)
kept_left s k h = λ image is. either (records_of image) (h.survives.left image is)
  where
    either : (found : List (List ℕ)) → pair.MayFind k.journal found → kept.MayFind server_kind s k found
    either found (inl same) = (k.stands, λ stands. stands, ap server_of same ∙ h.spelled)
    either found (inr other) = (true, λ stands. refl, h.other found other)

-- what a reopening finds is what a restart makes of the server
restarted_is : (h : Held) (up : Bool) (asked : Option Ask) (done : Bool) → ForSome asked (CanWrite (server_with h))
    → reopened_by server_kind (server_with h) asked done ≡ restarted (record { base = h.base; entries = h.entries.items; sealed_at = h.sealed_at; up = up; torn = asked }) done asked
restarted_is h up None done can = refl
restarted_is h up (Some ask) false can = refl
restarted_is h up (Some ask) true can = ap (λ t. cond t (wrote (server_with h) ask) (server_with h)) (sym (can ask refl).wanted)

may_find : (h : Held) (k : kept.View Ask) (n m : ℕ) → IsHeld h k → (found : List (List ℕ)) → kept.MayFind server_kind (server_with h) k found → MayFind (view_of h k n m) found
may_find h k n m held found it = (it.0, it.1, it.2 ∙ ap Some (restarted_is h (not k.journal.shut) k.asked it.0 held.kept.can))

pub held_survives : (h : Held) (k : kept.View Ask) (n m : ℕ) → IsHeld h k → Survives (view_of h k n m)
held_survives h k n m held = λ image is. may_find h k n m held (records_of image) (kept_left (server_with h) k held.kept image is)

-- what stays is as it was
pub stays_during : (v : View) (ask : Ask) (new : DiskView) → new.timeline ≡ v.disk.timeline → Survives v → AnyCrashLeaves v.disk new (MayFindDuring v ask)
stays_during v ask new same left = stays v.disk.timeline new.timeline (λ c. MayFindDuring v ask (records_of c)) same (λ image is. inl (left image is))

-- ---- a server that is up

pub not_true : (b : Bool) → not b ≡ true → b ≡ false
not_true true e = sym e
not_true false e = refl

-- what holds of a server that is up
pub record IsUp (h : Held) (k : kept.View Ask) : Type 0 where
  pub running : k.journal.shut ≡ false
  pub nothing : k.asked ≡ None
  pub server : server_shown h k ≡ server_with h

up_with : (h : Held) (k : kept.View Ask) → k.journal.shut ≡ false → k.asked ≡ None → server_shown h k ≡ server_with h
up_with h k running nothing =
    ap (λ (t : Option Ask). record { base = h.base; entries = h.entries.items; sealed_at = h.sealed_at; up = not k.journal.shut; torn = t }) nothing
    ∙ ap (λ b. record { base = h.base; entries = h.entries.items; sealed_at = h.sealed_at; up = not b; torn = None }) running

pub is_up : (h : Held) (k : kept.View Ask) → IsHeld h k → not k.journal.shut ≡ true → IsUp h k
is_up h k held up =
    let running : k.journal.shut ≡ false = not_true k.journal.shut up in
    let nothing : k.asked ≡ None = held.kept.whole running in
    record { running = running; nothing = nothing; server = up_with h k running nothing }

-- nothing failed, and it is up
pub calm_up : (h : Held) (k : kept.View Ask) → k ≡ calm k.journal → k.journal.shut ≡ false → server_shown h k ≡ server_with h
calm_up h k quiet running = up_with h k running (ap (λ (v : kept.View Ask). v.asked) quiet)

-- a server that came up is what a restart makes of it
pub came_up : (h after : Held) (k new : kept.View Ask) (n m : ℕ) (now : View) (done : Bool) → IsHeld h k → view_of h k n m ≡ now → new ≡ calm new.journal → new.journal.shut ≡ false
    → server_with after ≡ reopened_by server_kind (server_with h) k.asked done → server_shown after new ≡ restarted now.server done now.server.torn
came_up h after k new n m now done held is quiet running found =
    calm_up after new quiet running ∙ found ∙ restarted_is h (not k.journal.shut) k.asked done held.kept.can ∙ ap (λ (v : View). restarted v.server done v.server.torn) is

-- what it holds once it has made a change
written_is : (h : Held) (k : kept.View Ask) (ask : Ask) → IsHeld h k → not k.journal.shut ≡ true → CanWrite (server_shown h k) ask → after_ask (server_shown h k) ask ≡ wrote (server_with h) ask
written_is h k ask held up can =
    let u = is_up h k held up in
    let wanted : writes (server_with h) ask ≡ true = subst (λ (x : Server). writes x ask ≡ true) u.server can.wanted in
    ap (λ (x : Server). after_ask x ask) u.server ∙ ap (λ t. cond t (wrote (server_with h) ask) (server_with h)) wanted

-- ---- a crash inside a call

pub during : (h : Held) (k : kept.View Ask) (n m : ℕ) (now : View) (ask : Ask) (new : DiskView) → IsHeld h k → view_of h k n m ≡ now → now.server.up ≡ true → CanWrite now.server ask
    → AnyCrashLeaves k.journal.disk new (BeforeOrAfter server_kind (server_with h) ask) → AnyCrashLeaves now.disk new (MayFindDuring now ask)
during h k n m now ask new held is =
    subst (λ (v : View). v.server.up ≡ true → CanWrite v.server ask → AnyCrashLeaves k.journal.disk new (BeforeOrAfter server_kind (server_with h) ask) → AnyCrashLeaves v.disk new (MayFindDuring v ask)) is
    (λ up can run.
    let u = is_up h k held up in
    let s = server_shown h k in
    let after : after_ask s ask ≡ wrote (server_with h) ask = written_is h k ask held up can in
    let before : server_with h ≡ restarted s true s.torn =
    ap (λ (t : Option Ask). reopened_by server_kind (server_with h) t true) (sym u.nothing) ∙ restarted_is h (not k.journal.shut) k.asked true held.kept.can in
    weaker k.journal.disk.timeline new.timeline (λ c. BeforeOrAfter server_kind (server_with h) ask (records_of c)) (λ c. MayFindDuring (view_of h k n m) ask (records_of c))
    (λ c. elim [ inl as_before ↦ inl (true, λ stands. refl, as_before ∙ ap Some before) | inr done ↦ inr (done ∙ ap Some (sym after)) ]) run)

-- a crash inside a restart
pub reopening : (h : Held) (k : kept.View Ask) (n m : ℕ) (now : View) (new : DiskView) → IsHeld h k → view_of h k n m ≡ now → AnyCrashLeaves k.journal.disk new (kept.MayFind server_kind (server_with h) k) → AnyCrashLeaves now.disk new (MayFind now)
reopening h k n m now new held is run =
    subst (λ (v : View). AnyCrashLeaves v.disk new (MayFind v)) is
    (weaker k.journal.disk.timeline new.timeline (λ c. kept.MayFind server_kind (server_with h) k (records_of c)) (λ c. MayFind (view_of h k n m) (records_of c)) (λ c. may_find h k n m held (records_of c)) run)

-- ---- what a call answers

if_not : (b : Bool) (x y : Told) → (x ≡ DiskFault → ⊥) → (y ≡ DiskFault → ⊥) → cond b x y ≡ DiskFault → ⊥
if_not true x y first second = first
if_not false x y first second = second

place_untold : (p len : ℕ) → told_place p len ≡ DiskFault → ⊥
place_untold p len =
    if_not (ltb len p) (Behind len) (cond (ltb p len) (Ack len) (Ack (len + 1))) (λ e. absurd (cc))
    (if_not (ltb p len) (Ack len) (Ack (len + 1)) (λ e. absurd (cc)) (λ e. absurd (cc)))

entry_untold : (len : ℕ) (o : Option Entry) → told_entry len o ≡ DiskFault → ⊥
entry_untold len None e = absurd (cc)
entry_untold len (Some x) e = absurd (cc)

up_untold : (s : Server) (a : Ask) → told_up s a ≡ DiskFault → ⊥
up_untold s (Store p x) = if_not (is_sealed s) (Sealed (length_of s)) (told_place p (length_of s)) (λ e. absurd (cc)) (place_untold p (length_of s))
up_untold s Seal = λ e. absurd (cc)
up_untold s Tail = if_not (is_sealed s) (Sealed (length_of s)) (Unsealed (length_of s)) (λ e. absurd (cc)) (λ e. absurd (cc))
up_untold s (Repair p x) = if_not (is_sealed s) (told_place p (length_of s)) (Unsealed (length_of s)) (place_untold p (length_of s)) (λ e. absurd (cc))
up_untold s (Read p) = if_not (ltb p s.base) (Cut s.base) (told_entry (length_of s) (slice_get s.entries (p - s.base))) (λ e. absurd (cc)) (entry_untold (length_of s) (slice_get s.entries (p - s.base)))
up_untold s (Trim n) = λ e. absurd (cc)

-- the table tells no fault
untold : (s : Server) (a : Ask) → told s a ≡ DiskFault → ⊥
untold s a = if_not s.up (told_up s a) Down (up_untold s a) (λ e. absurd (cc))

answers_of : (old : View) (ask : Ask) (answer : Told) (new : View) → answer ≡ told old.server ask → Tells old ask answer new → Answers old ask answer new
answers_of old ask Down new is t = t
answers_of old ask (Sealed n) new is t = t
answers_of old ask (Unsealed n) new is t = t
answers_of old ask (Behind n) new is t = t
answers_of old ask (Ack n) new is t = t
answers_of old ask (Cut n) new is t = t
answers_of old ask (Short n) new is t = t
answers_of old ask (Got e) new is t = t
answers_of old ask (Trimmed n) new is t = t
answers_of old ask DiskFault new is t = absurd (untold old.server ask (sym is))

true_false : {P : Type 0} → true ≡ false → P
true_false is = cc is

nothing_after : (up w : Bool) (x s : Server) → up && w ≡ false → cond up (cond w x s) s ≡ s
nothing_after true true x s none = true_false none
nothing_after true false x s none = refl
nothing_after false w x s none = refl

-- nothing is to be written
pub tells_still : (v : View) (ask : Ask) (answer : Told) → answer ≡ told v.server ask → wants_write v.server ask ≡ false → Answers v ask answer v
tells_still v ask answer is none =
    answers_of v ask answer v is
    (record {
      told = is;
      server = sym (nothing_after v.server.up (writes v.server ask) (wrote v.server ask) v.server none);
      calm = λ _. refl;
      write = λ wanted. true_false (sym wanted ∙ none);
      counts = (refl, refl);
    })

pub wants_down : (s : Server) (ask : Ask) → s.up ≡ false → wants_write s ask ≡ false
wants_down s ask down = ap (λ b. b && writes s ask) down

and_false : (b c : Bool) → c ≡ false → b && c ≡ false
and_false true c e = e
and_false false c e = refl

pub wants_none : (s : Server) (ask : Ask) → writes s ask ≡ false → wants_write s ask ≡ false
wants_none s ask none = and_false s.up (writes s ask) none

wants : (s : Server) (ask : Ask) → s.up ≡ true → writes s ask ≡ true → wants_write s ask ≡ true
wants s ask up wanted = ap (λ b. b && writes s ask) up ∙ wanted

-- what a change writes: the record alone, unless the journal may be compacted behind it
write_of : (ask : Ask) (old new : pair.View) (records : ℕ) → kept.TakesWrite 4 old.disk new.disk → (compacts_after ask records ≡ false → kept.AddsOne old new) → kept.TakesWrite (writes_behind ask) old.disk new.disk
write_of (Store p e) old new records w alone = record { faults = w.faults; word = w.word; taken = (alone refl).taken }
write_of Seal old new records w alone = record { faults = w.faults; word = w.word; taken = (alone refl).taken }
write_of Tail old new records w alone = record { faults = w.faults; word = w.word; taken = (alone refl).taken }
write_of (Repair p e) old new records w alone = record { faults = w.faults; word = w.word; taken = (alone refl).taken }
write_of (Read p) old new records w alone = record { faults = w.faults; word = w.word; taken = (alone refl).taken }
write_of (Trim n) old new records w alone = w

-- a change that was made
pub tells_written : (h after : Held) (k new : kept.View Ask) (n m : ℕ) (now : View) (ask : Ask) (answer : Told) → IsHeld h k → view_of h k n m ≡ now → now.server.up ≡ true → CanWrite now.server ask → answer ≡ told now.server ask
    → server_with after ≡ wrote (server_with h) ask → new ≡ calm new.journal → new.journal.shut ≡ false → kept.TakesWrite (writes_behind ask) k.journal.disk new.journal.disk → Answers now ask answer (view_of after new n m)
tells_written h after k new n m now ask answer held is =
    subst (λ (v : View). v.server.up ≡ true → CanWrite v.server ask → answer ≡ told v.server ask → server_with after ≡ wrote (server_with h) ask → new ≡ calm new.journal → new.journal.shut ≡ false → kept.TakesWrite (writes_behind ask) k.journal.disk new.journal.disk → Answers v ask answer (view_of after new n m)) is
    (λ up can told_is made quiet running write.
    let v = view_of h k n m in
    answers_of v ask answer (view_of after new n m) told_is
    (record {
      told = told_is;
      server = calm_up after new quiet running ∙ made ∙ sym (written_is h k ask held up can);
      calm = λ unwanted. true_false (sym (wants v.server ask up can.wanted) ∙ unwanted);
      write = λ wanted. write;
      counts = (refl, refl);
    }))

pub written : (ask : Ask) (old new : pair.View) → kept.TakesWrite 4 old.disk new.disk → (compacts_after ask (length old.records + 1) ≡ false → kept.AddsOne old new) → kept.TakesWrite (writes_behind ask) old.disk new.disk
written ask old new = write_of ask old new (length old.records + 1)

with_other : (h after : Held) (up : Bool) (asked : Option Ask) → server_with after ≡ server_with h → record (server_with after) { up = up; torn = asked } ≡ record (server_with h) { up = up; torn = asked }
with_other h after up asked same = ap (λ (s : Server). record s { up = up; torn = asked }) same

-- a change in which the disk failed
pub stops : (h after : Held) (k new : kept.View Ask) (n m : ℕ) (now : View) (ask : Ask) → IsHeld h k → view_of h k n m ≡ now → now.server.up ≡ true → CanWrite now.server ask
    → server_with after ≡ server_with h → new.asked ≡ Some ask → new.journal.shut ≡ true → new.journal.disk.faults ≡ bumped k.journal.disk.faults → new.journal.disk.word ≡ k.journal.disk.word → Answers now ask DiskFault (view_of after new n m)
stops h after k new n m now ask held is =
    subst (λ (v : View). v.server.up ≡ true → CanWrite v.server ask → server_with after ≡ server_with h → new.asked ≡ Some ask → new.journal.shut ≡ true → new.journal.disk.faults ≡ bumped k.journal.disk.faults → new.journal.disk.word ≡ k.journal.disk.word → Answers v ask DiskFault (view_of after new n m)) is
    (λ up can same asked shut faults word. record {
      wanted = wants (server_shown h k) ask up can.wanted;
      server =
          with_other h after (not new.journal.shut) new.asked same ∙ ap (λ (t : Option Ask). record (server_with h) { up = not new.journal.shut; torn = t }) asked
          ∙ ap (λ b. record (server_with h) { up = not b; torn = Some ask }) shut;
      faults = faults;
      word = word;
      counts = (refl, refl);
    })

same_server : (h after : Held) (k new : kept.View Ask) → server_with after ≡ server_with h → new.journal.shut ≡ k.journal.shut → new.asked ≡ k.asked → server_shown after new ≡ server_shown h k
same_server h after k new same shut asked =
    with_other h after (not new.journal.shut) new.asked same ∙ ap (λ b. record (server_with h) { up = not b; torn = new.asked }) shut
    ∙ ap (λ (t : Option Ask). record (server_with h) { up = not k.journal.shut; torn = t }) asked

not_false : (b : Bool) → not b ≡ false → b ≡ true
not_false true e = refl
not_false false e = true_false e

-- Of what callers see only the disk is new, and how many restarts were asked for.
module _ (h after : Held) (k new : kept.View Ask) (n m : ℕ) (now : View) (is : view_of h k n m ≡ now) (same : server_with after ≡ server_with h) where
  shown : (r s : ℕ) → r ≡ s → new.journal.shut ≡ k.journal.shut → new.asked ≡ k.asked → new.stands ≡ k.stands → view_of after new n r ≡ record (view_of h k n m) { disk = new.journal.disk; restarts = s }
  shown r s count shut asked stands =
      let v : Server → Bool → ℕ → View = λ x b c. record { server = x; disk = new.journal.disk; stands = b; stops = n; restarts = c } in
      ap (λ (x : Server). v x new.stands r) (same_server h after k new same shut asked) ∙ ap (λ b. v (server_shown h k) b r) stands ∙ ap (λ c. v (server_shown h k) k.stands c) count

  -- want of memory left the rest as it was
  pub wanting : new ≡ record k { journal = record k.journal { disk = new.journal.disk } } → view_of after new n m ≡ record now { disk = new.journal.disk }
  wanting left =
      shown m m refl (ap (λ (w : kept.View Ask). w.journal.shut) left) (ap (λ (w : kept.View Ask). w.asked) left) (ap (λ (w : kept.View Ask). w.stands) left)
      ∙ ap (λ (w : View). record w { disk = new.journal.disk }) is

  -- a restart in which the disk failed
  pub stays_down : (r : ℕ) → not k.journal.shut ≡ false → new ≡ record k { journal = record k.journal { shut = true; disk = new.journal.disk } } → r ≡ bumped m → view_of after new n r ≡ record now { disk = new.journal.disk; restarts = bumped now.restarts }
  stays_down r down left count =
      shown r (bumped m) count (ap (λ (w : kept.View Ask). w.journal.shut) left ∙ sym (not_false k.journal.shut down)) (ap (λ (w : kept.View Ask). w.asked) left) (ap (λ (w : kept.View Ask). w.stands) left)
      ∙ ap (λ (w : View). record w { disk = new.journal.disk; restarts = bumped w.restarts }) is
