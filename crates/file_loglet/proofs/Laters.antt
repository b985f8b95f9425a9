-- How the server goes on from write to write.
use Rattle.std.proofs.Common.{◌≡◌, ℕ, zero, suc, ◌+◌, ◌-◌, ◌<◌, ◌≤◌, ◌⊎◌, Bool, nat_lt, true, false, Some, List, [], ◌∷◌, length, drop, get_or, refl, inl, inr, ap, sym, ◌∙◌, subst, arith, length-append, length-drop, zero-add}
use Rattle.std.specs.Prelude.{slice_get, if◌then◌else◌, Result, Ok, Err, IsOk}
use Rattle.std.proofs.lemmas.Bool.Decides.{nat_tests}
use Rattle.std.proofs.lemmas.Bool.{cases_lt}
use Rattle.delos_types.specs.declared.entry.Entry.{Entry}
use Rattle.journal_core.specs.declared.fault.Fault.{Fault}
use Rattle.journal_core.specs.declared.fault.Fault.TheVariants.{Disk, Memory}
use Rattle.quorum_cell.specs.declared.message.Ask.{Ask}
use Rattle.quorum_cell.specs.declared.message.Ask.TheVariants.{Store, Seal, Tail, Repair, Read, Trim}
use Rattle.quorum_cell.specs.Servers.{Server, length_of, is_sealed, wrote}
use Rattle.disk_model.specs.Disk.{DiskView, bumped}
use Rattle.disk_model.specs.Armed.{TakesRecord}
use Rattle.file_loglet.specs.Held.{Held, IsCalm, Fails, Writes}
use Rattle.file_loglet.specs.Later.{records_between, TakesRecords, GoesOn, Wore}

-- an element, by what a read of its place gives
pub got_at : (xs : List Entry) (i : ℕ) (x : Entry) → i < length xs → x ≡ get_or xs i x → slice_get xs i ≡ Some x
got_at [] i x lt e = absurd (omega arith)
got_at (y ∷ ys) zero x lt e = ap Some (sym e)
got_at (y ∷ ys) (suc i) x lt e = got_at ys i x (omega arith) e

pub within_get : (xs : List Entry) (i : ℕ) (x : Entry) → slice_get xs i ≡ Some x → i < length xs
within_get [] i x e = absurd (cc)
within_get (y ∷ ys) zero x e = omega arith
within_get (y ∷ ys) (suc i) x e = let rest = within_get ys i x e in omega arith

pub slice_get-drop : {X : Type 0} (n : ℕ) (xs : List X) (i : ℕ) → slice_get (drop n xs) i ≡ slice_get xs (n + i)
slice_get-drop zero xs i = rw zero-add refl
slice_get-drop (suc n) [] i = refl
slice_get-drop (suc n) (x ∷ xs) i = let e : suc n + i ≡ suc (n + i) = omega arith in rw e (slice_get-drop n xs i)

-- one entry more
pub stored_rises : (first old new : Server) (e : Entry) → length_of first ≤ length_of old → new ≡ wrote old (Store (length_of old) e) → length_of first ≤ length_of new
stored_rises first old new e le is = omega (arith, le, ap length_of is, length-append old.entries (e ∷ []))

trimmed_length : (s : Server) (n : ℕ) → s.base < n → n ≤ length_of s → length_of (wrote s (Trim n)) ≡ length_of s
trimmed_length s n above within = omega (arith, length-drop (n - s.base) s.entries)

-- an entry at or behind the cut, in what is left of the log
pub got_behind : (entries : List Entry) (cut q : ℕ) (e : Entry) → slice_get entries q ≡ Some e → cut ≤ q → slice_get (drop cut entries) (q - cut) ≡ Some e
got_behind entries cut q e is le =
    let at : cut + (q - cut) ≡ q = omega arith in
    slice_get-drop cut entries (q - cut) ∙ ap (λ i. slice_get entries i) at ∙ is

-- a trim that was written, or had nothing to write, lets go of all below the cut
pub trim_reaches : {U : Type 0} (cut : ℕ) (old new : Held) (u : U) → (old.server.base < cut → Writes old (Trim cut) (Ok u) new) → (cut ≤ old.server.base → new ≡ old) → cut ≤ new.server.base
trim_reaches cut old new u above gone =
    elim (cases_lt old.server.base cut) [
      | inl lt ↦ omega (arith, ap (λ (s : Server). s.base) (above lt).0)
      | inr ge ↦ omega (arith, ge, ap (λ (w : Held). w.server.base) (gone ge))
    ]

-- ---- what is counted

pub wrote_up : (s : Server) (ask : Ask) → s.up ≡ true → (wrote s ask).up ≡ true
wrote_up s (Store p e) h = h
wrote_up s Seal h = h
wrote_up s Tail h = h
wrote_up s (Repair p e) h = h
wrote_up s (Read p) h = h
wrote_up s (Trim n) h = h

not_sealed_since : (b : Bool) → ◌≡◌ {A = ℕ} (if b then 0 else if b then 1 else 0) 0
not_sealed_since true = refl
not_sealed_since false = refl

not_above : (n : ℕ) → ◌≡◌ {A = ℕ} (if nat_lt n n then 1 else 0) 0
not_above n = let e : nat_lt n n ≡ false = grind (arith, nat_tests) in rw e refl

is_above : (n m : ℕ) → n < m → ◌≡◌ {A = ℕ} (if nat_lt n m then 1 else 0) 1
is_above n m lt = let e : nat_lt n m ≡ true = grind (arith, nat_tests) in rw e refl

none_between : (s : Server) → records_between s s ≡ 0
none_between s = omega (arith, not_sealed_since (is_sealed s), not_above s.base)

one_more_between : (a s : Server) (p : ℕ) (e : Entry) → length_of a ≤ length_of s → records_between a (wrote s (Store p e)) ≡ records_between a s + 1
one_more_between a s p e le = omega (arith, length-append s.entries (e ∷ []), le)

seal_between : (s : Server) → is_sealed s ≡ false → records_between s (wrote s Seal) ≡ 1
seal_between s unsealed = rw unsealed (omega (arith, not_above s.base))

trim_between : (s : Server) (n : ℕ) → s.base < n → n ≤ length_of s → records_between s (wrote s (Trim n)) ≡ 1
trim_between s n above within = omega (arith, trimmed_length s n above within, not_sealed_since (is_sealed s), is_above s.base n above)

takes_none : (s : Server) (n : ℕ) → TakesRecords (records_between s s) n n
takes_none s n = record { taken = omega (arith, none_between s); still = refl }

takes_one : (old new : ℕ) → TakesRecord 0 old new → TakesRecords 1 old new
takes_one old new t = record { taken = omega (arith, t.taken, t.at_most); still = t.still }

takes_one_more : (n old mid new : ℕ) → TakesRecords n old mid → TakesRecord 0 mid new → TakesRecords (n + 1) old new
takes_one_more n old mid new f t = record { taken = omega (arith, f.taken, t.taken, t.at_most); still = t.still ∙ f.still }

calm_same : (d : DiskView) → IsCalm d d
calm_same d = record { faults = refl; word = refl }

pub calm_then : (a b c : DiskView) → IsCalm a b → IsCalm b c → IsCalm a c
calm_then a b c f s = record { faults = s.faults ∙ f.faults; word = s.word ∙ f.word }

fails_then : (a b c : DiskView) → IsCalm a b → Fails b c → Fails a c
fails_then a b c f s = record { faults = s.faults ∙ ap bumped f.faults; word = s.word ∙ f.word }

-- nothing was asked of the disk
pub goes_same : {U : Type 0} (h : Held) (u : U) → h.server.up ≡ true → GoesOn h (Ok u) h
goes_same h u up = (up, calm_same h.disk, takes_none h.server h.disk.armed)

-- one write, which is one record, however it ends
pub goes_written : {U : Type 0} (old new : Held) (ask : Ask) (done : Result U Fault) → old.server.up ≡ true → records_between old.server (wrote old.server ask) ≡ 1 → Writes old ask done new → GoesOn old done new
goes_written old new ask (Ok u) up one w = (
  ap (λ (s : Server). s.up) w.0 ∙ wrote_up old.server ask up,
  w.1,
  subst (λ (n : ℕ). TakesRecords n old.disk.armed new.disk.armed) (sym (ap (λ (s : Server). records_between old.server s) w.0 ∙ one)) (takes_one old.disk.armed new.disk.armed w.2),
)
goes_written old new ask (Err Disk) up one w = (ap (λ (s : Server). s.up) w.0, w.1)
goes_written old new ask (Err Memory) up one w = (
  ap (λ (s : Server). s.up) w.0 ∙ up,
  w.1,
  (old.disk.armed, subst (λ (s : Server). TakesRecords (records_between old.server s) old.disk.armed old.disk.armed) (sym w.0) (takes_none old.server old.disk.armed), w.2),
  ap (λ (s : Server). is_sealed s) w.0,
)

pub sealed_goes : {U : Type 0} (old new : Held) (done : Result U Fault) → old.server.up ≡ true → is_sealed old.server ≡ false → Writes old Seal done new → GoesOn old done new
sealed_goes old new done up unsealed w = goes_written old new Seal done up (seal_between old.server unsealed) w

-- a trim of what is stored, which writes nothing where that is gone
trim_idle : {U : Type 0} (old new : Held) (done : Result U Fault) → old.server.up ≡ true → IsOk done → new ≡ old → GoesOn old done new
trim_idle old new (Ok u) up ok same = subst (λ (h : Held). GoesOn old (Ok u) h) (sym same) (goes_same old u up)
trim_idle old new (Err fault) up ok same = absurd (cc)

pub trim_goes : {U : Type 0} (cut : ℕ) (old new : Held) (done : Result U Fault) → old.server.up ≡ true → cut ≤ length_of old.server → (old.server.base < cut → Writes old (Trim cut) done new) → (cut ≤ old.server.base → IsOk done × (new ≡ old)) → GoesOn old done new
trim_goes cut old new done up within above gone =
    elim (cases_lt old.server.base cut) [
      | inl lt ↦ goes_written old new (Trim cut) done up (trim_between old.server cut lt within) (above lt)
      | inr ge ↦ trim_idle old new done up (gone ge).0 (gone ge).1
    ]

-- entries were stored, and one more is
pub store_goes : {U : Type 0} (first old new : Held) (e : Entry) (done : Result U Fault) → IsCalm first.disk old.disk → TakesRecords (records_between first.server old.server) first.disk.armed old.disk.armed → length_of first.server ≤ length_of old.server
    → old.server.up ≡ true → is_sealed first.server ≡ is_sealed old.server → Writes old (Store (length_of old.server) e) done new → GoesOn first done new
store_goes first old new e (Ok u) calm taken le up sealed w = (
  ap (λ (s : Server). s.up) w.0 ∙ up,
  calm_then first.disk old.disk new.disk calm w.1,
  subst (λ (n : ℕ). TakesRecords n first.disk.armed new.disk.armed) (sym (ap (λ (s : Server). records_between first.server s) w.0 ∙ one_more_between first.server old.server (length_of old.server) e le))
      (takes_one_more (records_between first.server old.server) first.disk.armed old.disk.armed new.disk.armed taken w.2),
)
store_goes first old new e (Err Disk) calm taken le up sealed w = (ap (λ (s : Server). s.up) w.0, fails_then first.disk old.disk new.disk calm w.1)
store_goes first old new e (Err Memory) calm taken le up sealed w = (
  ap (λ (s : Server). s.up) w.0 ∙ up,
  calm_then first.disk old.disk new.disk calm w.1,
  (old.disk.armed, subst (λ (s : Server). TakesRecords (records_between first.server s) first.disk.armed old.disk.armed) (sym w.0) taken, w.2),
  ap (λ (s : Server). is_sealed s) w.0 ∙ sym sealed,
)

-- ---- what is seen of a call

pub wore_same : (h : Held) → Wore h h
wore_same h = inl (refl, calm_same h.disk, takes_none h.server h.disk.armed)

pub wore_on : {U : Type 0} (old new : Held) (u : U) → old.server.up ≡ true → GoesOn old (Ok u) new → Wore old new
wore_on old new u up h = inl (h.0 ∙ sym up, h.1, h.2)

-- nothing failed, or the disk failed once, and the server is down
abbrev pub MayFail : Held → Held → Type 0
MayFail old new = ((new.server.up ≡ old.server.up) × (new.disk.faults ≡ old.disk.faults)) ⊎ ((new.server.up ≡ false) × (new.disk.faults ≡ bumped old.disk.faults))

pub wore_may_fail : (old new : Held) → Wore old new → MayFail old new
wore_may_fail old new (inl same) = inl (same.0, same.1.faults)
wore_may_fail old new (inr failed) = inr (failed.1, failed.2.faults)
