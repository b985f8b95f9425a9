-- How the server goes on by what an operation asks of it.
use Rattle.std.proofs.Common.{◌≡◌, ℕ, zero, suc, ◌+◌, ◌-◌, ◌<◌, ◌≤◌, true, false, Some, List, [], ◌∷◌, drop, take, refl, inl, inr, ap, sym, ◌∙◌, subst, arith, length-append, zero-add}
use Rattle.std.specs.Prelude.{slice_get, Result, Ok, Err, IsOk}
use Rattle.std.proofs.Math.Seq.{drop-nil}
use Rattle.std.proofs.lemmas.Bool.Decides.{nat_tests}
use Rattle.std.proofs.lemmas.Bool.{cases_lt}
use Rattle.delos_types.specs.declared.entry.Entry.{Entry}
use Rattle.journal_core.specs.declared.fault.Fault.{Fault}
use Rattle.journal_core.specs.declared.fault.Fault.TheVariants.{Disk, Memory}
use Rattle.quorum_cell.specs.declared.message.Ask.{Ask}
use Rattle.quorum_cell.specs.declared.message.Ask.TheVariants.{Store, Seal, Trim}
use Rattle.quorum_cell.specs.Servers.{Server, length_of, is_sealed, writes, wrote, written}
use Rattle.file_loglet.specs.Held.{Held, Writes}
use Rattle.file_loglet.specs.Asking.{stores, stores_up_to, Follows, Begins, Heeds}

does : (s : Server) (ask : Ask) → writes s ask ≡ true → written s ask ≡ wrote s ask
does s ask h = rw h refl

idles : (s : Server) (ask : Ask) → writes s ask ≡ false → written s ask ≡ s
idles s ask h = rw h refl

-- one request, for which a record is written
pub heeds_written : {U : Type 0} (old new : Held) (ask : Ask) (done : Result U Fault) → writes old.server ask ≡ true → Writes old ask done new → Heeds old.server (ask ∷ []) done new.server
heeds_written old new ask (Ok u) h w = inr (w.0 ∙ sym (does old.server ask h))
heeds_written old new ask (Err Disk) h w = inl (h, w.0)
heeds_written old new ask (Err Memory) h w = inl w.0

-- one for which there is nothing to write
pub heeds_idle : {U : Type 0} (s : Server) (ask : Ask) (u : U) → writes s ask ≡ false → Heeds s (ask ∷ []) (Ok u) s
heeds_idle s ask u h = inr (sym (idles s ask h))

may_store : (s : Server) (e : Entry) → is_sealed s ≡ false → writes s (Store (length_of s) e) ≡ true
may_store s e h = rw h (grind (arith, nat_tests))

may_not_store : (s : Server) (p : ℕ) (e : Entry) → is_sealed s ≡ true → writes s (Store p e) ≡ false
may_not_store s p e h = rw h refl

pub heeds_seal : {U : Type 0} (old new : Held) (done : Result U Fault) → is_sealed old.server ≡ false → Writes old Seal done new → Heeds old.server (Seal ∷ []) done new.server
heeds_seal old new done unsealed w = heeds_written old new Seal done (rw unsealed refl) w

pub heeds_sealed : {U : Type 0} (s : Server) (u : U) → is_sealed s ≡ true → Heeds s (Seal ∷ []) (Ok u) s
heeds_sealed s u sealed = heeds_idle s Seal u (rw sealed refl)

trims_idle : {U : Type 0} (old new : Held) (n : ℕ) (done : Result U Fault) → n ≤ old.server.base → IsOk done → new ≡ old → Heeds old.server (Trim n ∷ []) done new.server
trims_idle old new n (Ok u) le ok same =
    let none : writes old.server (Trim n) ≡ false = grind (arith, nat_tests) in
    subst (λ (h : Held). Heeds old.server (Trim n ∷ []) (Ok u) h.server) (sym same) (heeds_idle old.server (Trim n) u none)
trims_idle old new n (Err fault) le ok same = absurd (cc)

pub heeds_trim : {U : Type 0} (old new : Held) (n : ℕ) (done : Result U Fault) → (old.server.base < n → Writes old (Trim n) done new) → (n ≤ old.server.base → IsOk done × (new ≡ old)) → Heeds old.server (Trim n ∷ []) done new.server
heeds_trim old new n done above gone =
    elim (cases_lt old.server.base n) [
      | inl lt ↦ heeds_written old new (Trim n) done (grind (arith, nat_tests)) (above lt)
      | inr ge ↦ trims_idle old new n done ge (gone ge).0 (gone ge).1
    ]

-- ---- entries, one after another

-- the requests for the entries that a server lacks below a length
abbrev pub lacking : List Entry → Server → ℕ → List Ask
lacking entries s end = stores_up_to (drop (length_of s) entries) (length_of s) end

refuses_all : (s : Server) (p : ℕ) (es : List Entry) → is_sealed s ≡ true → Follows s (stores p es) s
refuses_all s p [] sealed = refl
refuses_all s p (e ∷ es) sealed = inr (subst (λ (x : Server). Follows x (stores (suc p) es) s) (sym (idles s (Store p e) (may_not_store s p e sealed))) (refuses_all s (suc p) es sealed))

-- a sealed server takes none
pub heeds_refused : (entries : List Entry) (s : Server) (end : ℕ) → is_sealed s ≡ true → Follows s (stores_up_to (drop (length_of s) entries) (length_of s) end) s
heeds_refused entries s end sealed = refuses_all s (length_of s) (take (end - length_of s) (drop (length_of s) entries)) sealed

-- and nothing is asked of one that has them
none_lacking : (entries : List Entry) (s : Server) (end : ℕ) → end ≤ length_of s → lacking entries s end ≡ []
none_lacking entries s end le = let none : end - length_of s ≡ 0 = omega arith in rw none refl

pub drop_at : (es : List Entry) (n : ℕ) (e : Entry) → slice_get es n ≡ Some e → drop n es ≡ e ∷ drop (suc n) es
drop_at [] n e h = absurd (cc)
drop_at (x ∷ xs) zero e h = let same : x ≡ e = cc in ap (λ (y : Entry). y ∷ xs) same
drop_at (x ∷ xs) (suc n) e h = drop_at xs n e h

lacks_next : (entries : List Entry) (s t : Server) (end : ℕ) (e : Entry) → length_of s < end → slice_get entries (length_of s) ≡ Some e → length_of t ≡ suc (length_of s) → lacking entries s end ≡ Store (length_of s) e ∷ lacking entries t end
lacks_next entries s t end e lt here next =
    let more : end - length_of s ≡ suc (end - length_of t) = omega (arith, lt, next) in
    ap (λ (k : ℕ). stores (length_of s) (take k (drop (length_of s) entries))) more
    ∙ ap (λ (xs : List Entry). stores (length_of s) (take (suc (end - length_of t)) xs)) (drop_at entries (length_of s) e here)
    ∙ ap (λ (n : ℕ). Store (length_of s) e ∷ stores n (take (end - length_of t) (drop n entries))) (sym next)

next_length : (s t : Server) (e : Entry) → t ≡ wrote s (Store (length_of s) e) → length_of t ≡ suc (length_of s)
next_length s t e h = ap (λ (x : Server). length_of x) h ∙ (omega (arith, length-append s.entries (e ∷ [])))

-- what was asked first, and what goes on from a server
pub record GoesOnBy (first : Server) (all : List Ask) (s : Server) (rest : List Ask) : Type 0 where
  pub follows : (new : Server) → Follows s rest new → Follows first all new
  pub begins : (new : Server) → Begins s rest new → Begins first all new

pub goes_first : (s : Server) (all : List Ask) → GoesOnBy s all s all
goes_first s all = record { follows = λ new h. h; begins = λ new h. h }

goes_next : (first : Server) (all rest : List Ask) (s t : Server) (ask : Ask) → GoesOnBy first all s (ask ∷ rest) → t ≡ written s ask → GoesOnBy first all t rest
goes_next first all rest s t ask h e =
    record {
      follows = λ new f. h.follows new (inr (subst (λ (x : Server). Follows x rest new) e f));
      begins = λ new f. h.begins new (inr (subst (λ (x : Server). Begins x rest new) e f));
    }

-- one more entry was stored
pub goes_stored : (entries : List Entry) (first s t : Server) (all : List Ask) (end : ℕ) (e : Entry) → is_sealed s ≡ false → length_of s < end → slice_get entries (length_of s) ≡ Some e → t ≡ wrote s (Store (length_of s) e)
    → GoesOnBy first all s (lacking entries s end) → GoesOnBy first all t (lacking entries t end)
goes_stored entries first s t all end e unsealed lt here is h =
    goes_next first all (lacking entries t end) s t (Store (length_of s) e)
    (subst (λ (qs : List Ask). GoesOnBy first all s qs) (lacks_next entries s t end e lt here (next_length s t e is)) h)
    (is ∙ sym (does s (Store (length_of s) e) (may_store s e unsealed)))

-- all are stored
pub heeds_all : (entries : List Entry) (first s : Server) (all : List Ask) (end : ℕ) → end ≤ length_of s → GoesOnBy first all s (lacking entries s end) → Follows first all s
heeds_all entries first s all end le h = h.follows s (subst (λ (qs : List Ask). Follows s qs s) (sym (none_lacking entries s end le)) refl)

-- the next one isn't: the disk failed, or memory was wanting
pub heeds_some : {U : Type 0} (done : Result U Fault) (entries : List Entry) (first : Server) (all : List Ask) (old new : Held) (end : ℕ) (e : Entry) (f : Fault) → is_sealed old.server ≡ false → length_of old.server < end → slice_get entries (length_of old.server) ≡ Some e
    → GoesOnBy first all old.server (lacking entries old.server end) → Writes {U = U} old (Store (length_of old.server) e) (Err f) new → Heeds {U = U} first all (Err f) new.server
heeds_some done entries first all old new end e Disk unsealed lt here h w =
    let t = wrote old.server (Store (length_of old.server) e) in
    h.follows new.server (subst (λ (qs : List Ask). Follows old.server qs new.server) (sym (lacks_next entries old.server t end e lt here (next_length old.server t e refl))) (inl (may_store old.server e unsealed, w.0)))
heeds_some done entries first all old new end e Memory unsealed lt here h w =
    let t = wrote old.server (Store (length_of old.server) e) in
    h.begins new.server (subst (λ (qs : List Ask). Begins old.server qs new.server) (sym (lacks_next entries old.server t end e lt here (next_length old.server t e refl))) (inl w.0))

-- ---- in what is left of the log

drop_drop : (m n : ℕ) (xs : List Entry) → drop m (drop n xs) ≡ drop (n + m) xs
drop_drop m zero xs = rw zero-add refl
drop_drop m (suc n) [] = drop-nil m ∙ sym (drop-nil (suc n + m))
drop_drop m (suc n) (x ∷ xs) = let e : suc n + m ≡ suc (n + m) = omega arith in rw e (drop_drop m n xs)

pub behind_cut : (entries : List Entry) (cut n : ℕ) → cut ≤ n → drop (n - cut) (drop cut entries) ≡ drop n entries
behind_cut entries cut n le =
    let at : cut + (n - cut) ≡ n = omega arith in
    drop_drop (n - cut) cut entries ∙ ap (λ (k : ℕ). drop k entries) at

pub heeds_log : {U : Type 0} (entries : List Entry) (cut end : ℕ) (s new : Server) (done : Result U Fault) → cut ≤ length_of s → Heeds s (stores_up_to (drop (length_of s) entries) (length_of s) end) done new
    → Heeds s (stores_up_to (drop (length_of s - cut) (drop cut entries)) (length_of s) end) done new
heeds_log entries cut end s new done le h =
    subst (λ (xs : List Entry). Heeds s (stores_up_to xs (length_of s) end) done new) (sym (behind_cut entries cut (length_of s) le)) h
