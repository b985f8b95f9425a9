-- What calls leave of what a stop chose, one after another.
use Rattle.std.proofs.Common.{Bool, ◌≡◌, ◌≢◌, ◌⊎◌, inl, inr, ℕ, ◌+◌, ◌-◌, ◌^◌, ◌<◌, ◌≤◌, true, false, List, refl, sym, ap, ◌∙◌, subst, ⊎_elim, arith}
use Rattle.std.specs.Prelude.{min, nat_lt, if◌then◌else◌}
use Rattle.std.proofs.lemmas.Bool.{cases_lt}
use Rattle.std.proofs.lemmas.Bool.Decides.{nat_tests}
use Rattle.std.proofs.Math.Nat.{min-le_left, min-le_right, le-min}
use Rattle.delos_types.specs.Spaces.{SpaceMap}
use Rattle.delos_types.specs.declared.cause.Cause.{Cause}
use Rattle.delos_types.specs.declared.cause.Cause.TheVariants as cause
use Rattle.delos_types.specs.declared.entry.Entry.{Entry}
use Rattle.disk_model.specs.Disk.{Rose, bumped}
use Rattle.disk_model.specs.Armed.{Spends}
use Rattle.legal_journal.specs.declared.events.Event.{Event}
use Rattle.virtual_log.specs.declared.fault.Fault.TheVariants as log_fault
use Rattle.virtual_log.specs.declared.fault.Fault as log
use Rattle.replica_api.specs.Replica.{ReplicaView, Advanced, Failed, Recovered, StaysDown, Tries, ArmedAsBefore}
use Rattle.base_engine.specs.declared.fault.Fault.{Fault}
use Rattle.base_engine.specs.declared.fault.Fault.TheVariants.{Because, Memory}
use Rattle.base_engine.specs.Causes.{HasEventOf, Blames, told}
use Rattle.base_engine.specs.Arming.{LeavesArming, RoseBy, FailsTwice, StoreTwice, repaired, FailsOnce, RecoversOnce, StaysShut, FailsToOpen}
use Rattle.base_engine.proofs.Landing.{rose_since}

-- Counts

one_rise : (x y : ℕ) → x ≤ y → Rose x y → RoseBy 1 x y
one_rise x y h (inl a) = omega (arith, min-le_left (x + 1) (2 ^ 64 - 1), a)
one_rise x y h (inr e) = omega (arith, min-le_right (x + 1) (2 ^ 64 - 1), e, h)

two_rises : (x y z : ℕ) → x ≤ y → y ≤ z → Rose x y → Rose y z → RoseBy 2 x z
two_rises x y z h k (inl a) (inl b) = omega (arith, min-le_left (x + 2) (2 ^ 64 - 1), a, b)
two_rises x y z h k (inl a) (inr e) = omega (arith, min-le_right (x + 2) (2 ^ 64 - 1), e, k)
two_rises x y z h k (inr e) r = omega (arith, min-le_right (x + 2) (2 ^ 64 - 1), e, h, k)

rose_by_since : (n x y z : ℕ) → x ≤ y → RoseBy n y z → RoseBy n x z
rose_by_since n x y z h r =
    let low : min (x + n) (2 ^ 64 - 1) ≤ y + n = omega (arith, min-le_left (x + n) (2 ^ 64 - 1), h) in
    let both : min (x + n) (2 ^ 64 - 1) ≤ min (y + n) (2 ^ 64 - 1) = le-min low (min-le_right (x + n) (2 ^ 64 - 1)) in
    omega (arith, both, r)

-- behind one more rise it is one more
rose_by_more : (x y z : ℕ) → x ≤ y → y ≤ z → Rose x y → RoseBy 1 y z → RoseBy 2 x z
rose_by_more x y z h k (inl a) r =
    let low : min (x + 2) (2 ^ 64 - 1) ≤ y + 1 = omega (arith, min-le_left (x + 2) (2 ^ 64 - 1), a) in
    let both : min (x + 2) (2 ^ 64 - 1) ≤ min (y + 1) (2 ^ 64 - 1) = le-min low (min-le_right (x + 2) (2 ^ 64 - 1)) in
    omega (arith, both, r)
rose_by_more x y z h k (inr e) r = omega (arith, min-le_right (x + 2) (2 ^ 64 - 1), e, h, k)

-- One step

bumped_rose : (n m : ℕ) → n ≤ m → m ≡ bumped n → Rose n m
bumped_rose n m h e =
    ⊎_elim
    (λ (less : n < 2 ^ 64 - 1). inl (omega (arith, e, less, le-min {k = n + 1} {a = 2 ^ 64 - 1} {b = n + 1} (omega (arith, less)) (omega arith))))
    (λ (le : 2 ^ 64 - 1 ≤ n). inr (omega (arith, h, e, le, min-le_left (2 ^ 64 - 1) (n + 1))))
    (cases_lt n (2 ^ 64 - 1))

pub failed_rose : (state : List Entry → SpaceMap → Type 0) (old : ReplicaView) (e : Entry) (new : ReplicaView) → Failed state old e new → Rose old.faults new.faults
failed_rose state old e new f = bumped_rose old.faults new.faults f.counts (ap (λ (v : ReplicaView). v.faults) f.is)

pub down_rose : (word : ℕ) (old new : ReplicaView) → StaysDown word old new → Rose old.faults new.faults
down_rose word old new d = bumped_rose old.faults new.faults d.counts (ap (λ (v : ReplicaView). v.faults) d.is)

-- it is up as it was, and its disk counted no fault: so nothing was opened
not_opened : (word : ℕ) (a b : ReplicaView) → b.down ≡ a.down → b.faults ≡ a.faults → b.down ≡ false → (a.down ≡ true) ⊎ (a.faults < b.faults) → b.word ≡ word
not_opened word a b same none up (inl d) = let no : true ≡ false = sym d ∙ sym same ∙ up in absurd (cc)
not_opened word a b same none up (inr less) = absurd (omega (arith, less, none))

-- the count is the same
pub armed_same : (a b : ReplicaView) → b.armed ≡ a.armed → ArmedAsBefore a b
armed_same a b e = inl (omega (arith, e), ap (nat_lt 0) e)

pub arming_refl : (word : ℕ) (a : ReplicaView) → LeavesArming word a a
arming_refl word a = record { armed = armed_same a a refl; word_is = inl refl; opened = not_opened word a a refl refl; down = λ h. inl h; counts = omega (arith); stops = refl }

pub arming_same : (word : ℕ) (a b : ReplicaView) → b ≡ a → LeavesArming word a b
arming_same word a b same = subst (λ x. LeavesArming word a x) (sym same) (arming_refl word a)

-- only what waits changed
pub arming_rest : (word : ℕ) (a b : ReplicaView) → b ≡ record a { kept = b.kept } → LeavesArming word a b
arming_rest word a b is = let c = record a { kept = b.kept } in subst (λ x. LeavesArming word a x) (sym is) record { armed = armed_same a c refl; word_is = inl refl; opened = not_opened word a c refl refl; down = λ h. inl h; counts = omega (arith); stops = refl }

-- only the disk's bytes are others
pub arming_bytes : (word : ℕ) (a b : ReplicaView) → b ≡ record a { disk = b.disk } → LeavesArming word a b
arming_bytes word a b is = let c = record a { disk = b.disk } in subst (λ x. LeavesArming word a x) (sym is) record { armed = armed_same a c refl; word_is = inl refl; opened = not_opened word a c refl refl; down = λ h. inl h; counts = omega (arith); stops = refl }

-- .. and a write at most was taken of its count
pub arming_wanting : (word : ℕ) (a b : ReplicaView) → Spends 1 a.armed b.armed × (b ≡ record a { disk = b.disk; armed = b.armed }) → LeavesArming word a b
arming_wanting word a b h = let c = record a { disk = b.disk; armed = b.armed } in subst (λ x. LeavesArming word a x) (sym h.1) record { armed = inl (h.0.fewer, h.0.still); word_is = inl refl; opened = not_opened word a c refl refl; down = λ d. inl d; counts = omega (arith); stops = refl }

-- .. or its word, in a reopening for which memory was wanting
arming_tried : (word : ℕ) (a b : ReplicaView) → Tries word a b → b ≡ record a { disk = b.disk; word = b.word } → LeavesArming word a b
arming_tried word a b h is = record {
  armed = armed_same a b (ap (λ (v : ReplicaView). v.armed) is);
  word_is = ⊎_elim (λ e. inr e) (λ e. inl e) h.1;
  opened = λ up came. let no : true ≡ false = sym h.0 ∙ sym (ap (λ (v : ReplicaView). v.down) is) ∙ up in absurd (cc);
  down = λ d. inl h.0;
  counts = omega (arith, ap (λ (v : ReplicaView). v.faults) is);
  stops = ap (λ (v : ReplicaView). v.stops) is;
}

pub arming_unopened : (word : ℕ) (a b : ReplicaView) → (b ≡ record a { disk = b.disk }) ⊎ (Tries word a b × (b ≡ record a { disk = b.disk; word = b.word })) → LeavesArming word a b
arming_unopened word a b (inl is) = arming_bytes word a b is
arming_unopened word a b (inr h) = arming_tried word a b h.0 h.1

pub arming_advanced : (word : ℕ) (state : List Entry → SpaceMap → Type 0) (old : ReplicaView) (e : Entry) (new : ReplicaView) → Advanced state old e new → LeavesArming word old new
arming_advanced word state old e new a = record { armed = inl (omega (arith, a.armed.taken), a.armed.still); word_is = inl a.word; opened = not_opened word old new (a.up ∙ sym a.was_up) a.faults; down = λ h. let no : true ≡ false = sym h ∙ a.up in absurd (cc); counts = omega (arith, a.faults); stops = a.stops }

pub arming_failed : (word : ℕ) (state : List Entry → SpaceMap → Type 0) (old : ReplicaView) (e : Entry) (new : ReplicaView) → Failed state old e new → LeavesArming word old new
arming_failed word state old e new f = record { armed = inr (ap (λ (v : ReplicaView). v.armed) f.is, failed_rose state old e new f); word_is = inl (ap (λ (v : ReplicaView). v.word) f.is); opened = λ up came. let no : true ≡ false = sym (ap (λ (v : ReplicaView). v.down) f.is) ∙ up in absurd (cc); down = λ h. inr (failed_rose state old e new f); counts = f.counts; stops = ap (λ (v : ReplicaView). v.stops) f.is }

recovered_word : (word : ℕ) (old new : ReplicaView) (d : Bool) → old.down ≡ d → Recovered word old new → (new.word ≡ old.word) ⊎ (new.word ≡ word)
recovered_word word old new true is r = inr (r.word_is is)
recovered_word word old new false is r = inl (ap (λ (v : ReplicaView). v.word) (r.idle is))

pub arming_recovered : (word : ℕ) (old new : ReplicaView) → Recovered word old new → LeavesArming word old new
arming_recovered word old new r = record {
  armed = armed_same old new r.armed;
  word_is = recovered_word word old new old.down refl r;
  opened = λ up came. ⊎_elim r.word_is (λ (less : old.faults < new.faults). absurd (omega (arith, less, r.faults))) came;
  down = λ h. let no : true ≡ false = sym h ∙ r.up in absurd (cc);
  counts = omega (arith, r.faults);
  stops = r.stops;
}

pub arming_down : (word : ℕ) (old new : ReplicaView) → StaysDown word old new → LeavesArming word old new
arming_down word old new d = record {
  armed = armed_same old new (ap (λ (v : ReplicaView). v.armed) d.is);
  word_is = ⊎_elim (λ e. inr e) (λ e. inl e) d.tries.1;
  opened = λ up came. let no : true ≡ false = sym d.tries.0 ∙ sym (ap (λ (v : ReplicaView). v.down) d.is) ∙ up in absurd (cc);
  down = λ h. inl d.tries.0;
  counts = d.counts;
  stops = ap (λ (v : ReplicaView). v.stops) d.is;
}

-- One step after another

rose_until : (x y z : ℕ) → x ≤ y → y ≤ z → Rose x y → Rose x z
rose_until x y z h k (inl a) = inl (omega (arith, a, k))
rose_until x y z h k (inr e) = inr e

armed_on : (a b c : ReplicaView) → a.faults ≤ b.faults → b.faults ≤ c.faults → ArmedAsBefore a b → ArmedAsBefore b c → ArmedAsBefore a c
armed_on a b c h k (inl p) (inl q) = inl (omega (arith, q.0, p.0), q.1 ∙ p.1)
armed_on a b c h k (inr p) (inl q) = inr (omega (arith, q.0, p.0), rose_until a.faults b.faults c.faults h k p.1)
armed_on a b c h k p (inr q) = inr (q.0, rose_since a.faults b.faults c.faults h k q.1)

word_on : (word a b c : ℕ) → (b ≡ a) ⊎ (b ≡ word) → (c ≡ b) ⊎ (c ≡ word) → (c ≡ a) ⊎ (c ≡ word)
word_on word a b c p (inr q) = inr q
word_on word a b c (inl p) (inl q) = inl (q ∙ p)
word_on word a b c (inr p) (inl q) = inr (q ∙ p)

-- where it is down behind some calls, or its disk failed, that was so before, or came since
pub down_since : (word : ℕ) (a b : ReplicaView) (z : ℕ) → LeavesArming word a b → b.faults ≤ z → (b.down ≡ true) ⊎ Rose b.faults z → (a.down ≡ true) ⊎ Rose a.faults z
down_since word a b z h k (inl d) = ⊎_elim (λ x. inl x) (λ r. inr (rose_until a.faults b.faults z h.counts k r)) (h.down d)
down_since word a b z h k (inr r) = inr (rose_since a.faults b.faults z h.counts k r)

-- the second opened it, or the first did, and the second left that
opened_on : (word : ℕ) (a b c : ReplicaView) (d : Bool) → b.down ≡ d → LeavesArming word a b → LeavesArming word b c → c.down ≡ false → (a.down ≡ true) ⊎ (a.faults < c.faults) → c.word ≡ word
opened_on word a b c true is p q up came = q.opened up (inl is)
opened_on word a b c false is p q up came =
    ⊎_elim
    (λ (less : b.faults < c.faults). q.opened up (inr less))
    (λ (none : c.faults ≤ b.faults). ⊎_elim (λ (e : c.word ≡ b.word). e ∙ p.opened is (⊎_elim (λ d. inl d) (λ (less : a.faults < c.faults). inr (omega (arith, less, none))) came)) (λ e. e) q.word_is)
    (cases_lt b.faults c.faults)

pub arming_trans : (word : ℕ) (a b c : ReplicaView) → LeavesArming word a b → LeavesArming word b c → LeavesArming word a c
arming_trans word a b c p q = record {
  armed = armed_on a b c p.counts q.counts p.armed q.armed;
  word_is = word_on word a.word b.word c.word p.word_is q.word_is;
  opened = opened_on word a b c b.down refl p q;
  down = λ h. down_since word a b c.faults p q.counts (q.down h);
  counts = omega (arith, p.counts, q.counts);
  stops = q.stops ∙ p.stops;
}

-- Two failures

-- the first came before, or it was down
pub twice_again : (a : ReplicaView) (y : ℕ) (c : ReplicaView) → a.faults ≤ y → y ≤ c.faults → (a.down ≡ true) ⊎ Rose a.faults y → Rose y c.faults → FailsTwice a c
twice_again a y c h k (inl d) r = inr (d, one_rise a.faults c.faults (omega (arith, h, k)) (rose_since a.faults y c.faults h k r))
twice_again a y c h k (inr s) r = inl (two_rises a.faults y c.faults h k s r)

pub twice_since : (word : ℕ) (a b c : ReplicaView) → LeavesArming word a b → b.faults ≤ c.faults → FailsTwice b c → FailsTwice a c
twice_since word a b c h k (inl r) = inl (rose_by_since 2 a.faults b.faults c.faults h.counts r)
twice_since word a b c h k (inr d) =
    ⊎_elim
    (λ (x : a.down ≡ true). inr (x, rose_by_since 1 a.faults b.faults c.faults h.counts d.1))
    (λ (s : Rose a.faults b.faults). inl (rose_by_more a.faults b.faults c.faults h.counts k s d.1))
    (h.down d.0)

pub store_since : (word : ℕ) (a b c : ReplicaView) (f : Fault) → LeavesArming word a b → b.faults ≤ c.faults → StoreTwice b f c → StoreTwice a f c
store_since word a b c f h k s is = twice_since word a b c h k (s is)

pub twice_down : (word : ℕ) (old new : ReplicaView) → StaysDown word old new → FailsTwice old new
twice_down word old new d = inr (d.tries.0, one_rise old.faults new.faults d.counts (down_rose word old new d))

-- No fault of a log is the store's

pub told_of_log : (f : log.Fault) → told f ≢ Because cause.Store
told_of_log (log_fault.NoQuorum id unreached) h = cc
told_of_log (log_fault.Full id) h = cc
told_of_log log_fault.Meta h = cc
told_of_log log_fault.Memory h = cc

pub twice_told : (a b : ReplicaView) (f : log.Fault) (g : Fault) → g ≡ told f → StoreTwice a g b
twice_told a b f g is h = absurd (told_of_log f (sym is ∙ h))

-- nor one that is blamed on the disk whatever that counted
pub never_store : (who : ℕ) (old new : List Event) (f : Fault) → ((faults faults' : ℕ) → Blames who old faults f new faults') → f ≢ Because cause.Store
never_store who old new f h is =
    let r : Rose 1 0 = subst (λ x. Blames who old 1 x new 0) is (h 1 0) in
    ⊎_elim (λ (a : 1 < 0). omega (arith, a)) (λ (e : 1 ≡ 2 ^ 64 - 1). omega (arith, e)) r

-- A reopening that failed

pub shut_down : (word : ℕ) (old new : ReplicaView) → StaysDown word old new → StaysShut old new
shut_down word old new d = record {
  is = d.is ∙ ap (λ n. record old { disk = new.disk; faults = n; word = new.word; reopenings = bumped old.reopenings }) (sym (ap (λ (v : ReplicaView). v.faults) d.is))
      ∙ ap (λ n. record old { disk = new.disk; faults = new.faults; word = new.word; reopenings = n }) (sym (ap (λ (v : ReplicaView). v.reopenings) d.is));
  counts = d.counts;
}

pub shut_unopened : (word : ℕ) (old new : ReplicaView) → (new ≡ record old { disk = new.disk }) ⊎ (Tries word old new × (new ≡ record old { disk = new.disk; word = new.word })) → StaysShut old new
shut_unopened word old new (inl is) = subst (λ x. StaysShut old x) (sym is) record { is = refl; counts = omega (arith) }
shut_unopened word old new (inr h) = subst (λ x. StaysShut old x) (sym h.1) record { is = refl; counts = omega (arith) }

-- One recovery

pub broken_rose : (old new : ReplicaView) → old.faults ≤ new.faults → new.faults ≡ repaired old → (old.down ≡ true) ⊎ Rose old.faults new.faults
broken_rose old new h e = by old.down refl
  where
    by : (d : Bool) → old.down ≡ d → (old.down ≡ true) ⊎ Rose old.faults new.faults
    by true is = inl is
    by false is = inr (bumped_rose old.faults new.faults h (e ∙ ap (λ x. if x then old.faults else bumped old.faults) is))

-- by whether the recovery is still to come
pub once_spent : (spare : Bool) (old new : ReplicaView) → new.faults ≡ (if spare then old.faults else repaired old) → FailsOnce old new
once_spent true old new e = inl e
once_spent false old new e = inr e

-- .. and the count before it
pub unspent : (spare : Bool) (old : ReplicaView) (n : ℕ) → spare ≡ true → n ≡ (if spare then old.faults else repaired old) → n ≡ old.faults
unspent spare old n is e = e ∙ ap (λ s. if s then old.faults else repaired old) is

pub spent : (spare : Bool) (old : ReplicaView) (n : ℕ) → spare ≡ false → n ≡ (if spare then old.faults else repaired old) → n ≡ repaired old
spent spare old n is e = e ∙ ap (λ s. if s then old.faults else repaired old) is

pub once_none : (old new : ReplicaView) → new.faults ≡ old.faults → FailsOnce old new
once_none old new e = inl e

-- a fault of the log, which isn't the store's
pub once_told : (old new : ReplicaView) (f : log.Fault) → FailsOnce old new → RecoversOnce old (told f) new
once_told old new (log_fault.NoQuorum id unreached) h = h
once_told old new (log_fault.Full id) h = h
once_told old new log_fault.Meta h = h
once_told old new log_fault.Memory h = h

-- any fault but the store's
pub once_but : (old new : ReplicaView) (f : Fault) → f ≢ Because cause.Store → FailsOnce old new → RecoversOnce old f new
once_but old new (Because cause.Store) other h = absurd (other refl)
once_but old new (Because (cause.NoQuorum id unreached)) other h = h
once_but old new (Because (cause.Full id)) other h = h
once_but old new (Because cause.Meta) other h = h
once_but old new Memory other h = h

pub repaired_same : (a b : ReplicaView) → b.faults ≡ a.faults → b.down ≡ a.down → repaired b ≡ repaired a
repaired_same a b faults down = ap (λ d. if d then b.faults else bumped b.faults) down ∙ ap (λ n. if a.down then n else bumped n) faults

pub once_same : (a b c : ReplicaView) → b.faults ≡ a.faults → b.down ≡ a.down → FailsOnce b c → FailsOnce a c
once_same a b c faults down (inl e) = inl (e ∙ faults)
once_same a b c faults down (inr e) = inr (e ∙ repaired_same a b faults down)

-- the same where nothing was counted before
pub once_from : (a b c : ReplicaView) (f : Fault) → b.faults ≡ a.faults → b.down ≡ a.down → RecoversOnce b f c → RecoversOnce a f c
once_from a b c (Because cause.Store) faults down h = h ∙ ap bumped (repaired_same a b faults down)
once_from a b c (Because (cause.NoQuorum id unreached)) faults down h = once_same a b c faults down h
once_from a b c (Because (cause.Full id)) faults down h = once_same a b c faults down h
once_from a b c (Because cause.Meta) faults down h = once_same a b c faults down h
once_from a b c Memory faults down h = once_same a b c faults down h

-- a replica whose failing made it go down wasn't opened again
pub once_unopened : (word : ℕ) (a v w : ReplicaView) (f : Fault) → v.faults ≡ repaired a → FailsToOpen word v f w → RecoversOnce a f w
once_unopened word a v w Memory e (inl is) = inr (ap (λ (x : ReplicaView). x.faults) is ∙ e)
once_unopened word a v w Memory e (inr h) = inr (ap (λ (x : ReplicaView). x.faults) h.1 ∙ e)
once_unopened word a v w (Because cause.Store) e d = ap (λ (x : ReplicaView). x.faults) d.is ∙ ap bumped e
once_unopened word a v w (Because (cause.NoQuorum id unreached)) e none = absurd none
once_unopened word a v w (Because (cause.Full id)) e none = absurd none
once_unopened word a v w (Because cause.Meta) e none = absurd none
