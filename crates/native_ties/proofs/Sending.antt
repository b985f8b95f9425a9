-- A request is sent, comes to its server, and its answer is on its way.
use Rattle.std.proofs.Common.{◌≡◌, ℕ, zero, suc, ◌+◌, ◌-◌, ◌<◌, ◌≤◌, Bool, true, false, refl, sym, ◌∙◌, ap, subst, arith, List, [], ◌∷◌, ◌++◌, length, get_or, set, Option, Some, None, inl, inr, max}
use Rattle.std.specs.Prelude.{◌⊎◌, ◌||◌, nat_lt, is_some, slice_get, if◌then◌else◌, option_map}
use Rattle.std.specs.List.{list_any}
use Rattle.std.proofs.lemmas.Bool.{false≢true, cases_eq, lt-ltb, ltb-true, ltb-false}
use Rattle.std.proofs.lemmas.Option.{none-some, same_Some}
use Rattle.std.proofs.lemmas.List.{length-set, get_or-set_same, get_or-set_other}
use Rattle.delos_types.specs.declared.entry.Entry.{Entry}
use Rattle.quorum_cell.specs.declared.message.Ask.{Ask}
use Rattle.quorum_cell.specs.declared.message.Ask.TheVariants as ask
use Rattle.quorum_cell.specs.declared.message.Request.{Request}
use Rattle.quorum_cell.specs.declared.message.Told.TheVariants.{Down, Sealed, Unsealed, Behind, Ack, Cut, Trimmed}
use Rattle.quorum_cell.specs.declared.operation.Aim.TheVariants.{Read as AimRead}
use Rattle.quorum_cell.specs.declared.operation.Wish.{Wish}
use Rattle.quorum_cell.specs.Servers.{Server, told, told_place, told_entry, length_of, is_sealed}
use Rattle.quorum_cell.specs.Cells.{Cell, Operation, operation, server, server_before, is_seal}
use Rattle.quorum_cell.specs.Tallies.{says_sealed}
use Rattle.quorum_cell.specs.Steps.{ask_for, ask_read, send}
use Rattle.quorum_cell.specs.Law.{QuorumLaw}
use Rattle.native_plan.specs.declared.member.Member.{Member}
use Rattle.native_plan.specs.declared.aims.Aims.{Aims}
use Rattle.native_plan.specs.declared.message.Errand.{Errand}
use Rattle.native_plan.specs.declared.message.Errand.TheVariants.{Store, Seal, Tail, Repair, Read, Trim}
use Rattle.native_plan.specs.declared.message.Message.{Message}
use Rattle.native_plan.specs.declared.message.Phase.{Phase}
use Rattle.native_plan.specs.declared.message.Phase.TheVariants.{Filling, Asking, Opening, Shutting, Sealing, Mending, Reading, Trimming}
use Rattle.native_plan.specs.Members.{no_member}
use Rattle.native_plan.specs.Course.{Knows, PhaseFits, HaveTurned, IsOnCourse, IsPlanned, IsAskOf, ToldWell, LetsGo}
use Rattle.native_ties.specs.Parts.{wish_of}
use Rattle.native_ties.proofs.Resending.{knows_as}

-- the operation sends

request_of : ℕ → ℕ → Ask → Request
request_of t i a = record { ticket = t; server = i; ask = a }

pub sent_is : (c : Cell) (t i : ℕ) (wish : Wish) (a : Ask) → (operation c t).closed ≡ false → i < length c.servers → ask_for c (operation c t) wish ≡ Some a → send c t i wish ≡ record c { requests = c.requests ++ record { ticket = t; server = i; ask = a } ∷ [] }
sent_is c t i wish a is_open here asks =
    let there : nat_lt i (length c.servers) ≡ true = lt-ltb i (length c.servers) here in
    rw (is_open, there, asks) refl

-- the server answers so, whatever it is asked

store_well : (s before : Server) (cut want : ℕ) (ph : Phase) (m : Member) (p : ℕ) (x : Entry) → p ≡ m.at → m.at ≤ length_of s → ToldWell before cut ph want m (Store p) (told s (ask.Store p x))
store_well s before cut want ph m p x e l = by s.up (is_sealed s)
  where
    placed : (a : Bool) → nat_lt (length_of s) p ≡ a → (b : Bool) → nat_lt p (length_of s) ≡ b → ToldWell before cut ph want m (Store p) (if a then Behind (length_of s) else (if b then Ack (length_of s) else Ack (length_of s + 1)))
    placed true f b g = absurd (let over : length_of s < p = ltb-true _ _ f in omega (arith, over, e, l))
    placed false f true g = (let under : p < length_of s = ltb-true _ _ g in omega (arith, under, e))
    placed false f false g = omega (arith, l)

    by : (u z : Bool) → ToldWell before cut ph want m (Store p) (if u then (if z then Sealed (length_of s) else told_place p (length_of s)) else Down)
    by false z = tt
    by true true = l
    by true false = placed (nat_lt (length_of s) p) refl (nat_lt p (length_of s)) refl

repair_well : (s before : Server) (cut want : ℕ) (ph : Phase) (m : Member) (p : ℕ) (x : Entry) → p ≡ m.at → m.at ≤ length_of s → is_sealed s ≡ true → ToldWell before cut ph want m (Repair p) (told s (ask.Repair p x))
repair_well s before cut want ph m p x e l sealed = by s.up (is_sealed s) sealed
  where
    placed : (a : Bool) → nat_lt (length_of s) p ≡ a → (b : Bool) → nat_lt p (length_of s) ≡ b → ToldWell before cut ph want m (Repair p) (if a then Behind (length_of s) else (if b then Ack (length_of s) else Ack (length_of s + 1)))
    placed true f b g = absurd (let over : length_of s < p = ltb-true _ _ f in omega (arith, over, e, l))
    placed false f true g = (let under : p < length_of s = ltb-true _ _ g in omega (arith, under, e))
    placed false f false g = omega (arith, l)

    by : (u z : Bool) → z ≡ true → ToldWell before cut ph want m (Repair p) (if u then (if z then told_place p (length_of s) else Unsealed (length_of s)) else Down)
    by false z h = tt
    by true true h = placed (nat_lt (length_of s) p) refl (nat_lt p (length_of s)) refl
    by true false h = absurd (false≢true h)

seal_well : (s before : Server) (cut want : ℕ) (ph : Phase) (m : Member) → m.at ≤ length_of s → ToldWell before cut ph want m Seal (told s ask.Seal)
seal_well s before cut want ph m l = by s.up
  where
    by : (u : Bool) → ToldWell before cut ph want m Seal (if u then Sealed (length_of s) else Down)
    by false = tt
    by true = l

tail_well : (s before : Server) (cut want : ℕ) (ph : Phase) (m : Member) → m.at ≤ length_of s → ToldWell before cut ph want m Tail (told s ask.Tail)
tail_well s before cut want ph m l = by s.up (is_sealed s)
  where
    by : (u z : Bool) → ToldWell before cut ph want m Tail (if u then (if z then Sealed (length_of s) else Unsealed (length_of s)) else Down)
    by false z = tt
    by true true = l
    by true false = l

pub short_slice : (xs : List Entry) (k : ℕ) → slice_get xs k ≡ None → length xs ≤ k
short_slice [] k h = omega arith
short_slice (x ∷ xs) zero h = absurd (none-some x (sym h))
short_slice (x ∷ xs) (suc k) h = omega (arith, short_slice xs k h)

read_well : (s before : Server) (cut want : ℕ) (ph : Phase) (m : Member) (p : ℕ) → length_of before ≤ length_of s → s.base ≤ cut → ToldWell before cut ph want m (Read p) (told s (ask.Read p))
read_well s before cut want ph m p l base = by s.up (nat_lt p s.base) refl
  where
    entry : (z : Option Entry) → slice_get s.entries (p - s.base) ≡ z → nat_lt p s.base ≡ false → ToldWell before cut ph want m (Read p) (told_entry (length_of s) z)
    entry (Some x) e f = tt
    entry None e f = (let past = short_slice s.entries (p - s.base) e in let above : s.base ≤ p = ltb-false _ _ f in omega (arith, past, above, l))

    by : (u b : Bool) → nat_lt p s.base ≡ b → ToldWell before cut ph want m (Read p) (if u then (if b then Cut s.base else told_entry (length_of s) (slice_get s.entries (p - s.base))) else Down)
    by false b f = tt
    by true true f = (let under : p < s.base = ltb-true _ _ f in omega (arith, under, base))
    by true false f = entry (slice_get s.entries (p - s.base)) refl f

lets_go : (ph : Phase) (cut want at base : ℕ) → (ph ≡ Trimming → want ≤ cut) → ((ph ≡ Trimming → ⊥) → at < cut) → LetsGo ph want at (max cut base)
lets_go Trimming cut want at base a b = (let h = a refl in omega (arith, h))
lets_go Filling cut want at base a b = (let h = b (λ e. cc) in omega (arith, h))
lets_go Asking cut want at base a b = (let h = b (λ e. cc) in omega (arith, h))
lets_go (Opening t) cut want at base a b = (let h = b (λ e. cc) in omega (arith, h))
lets_go Shutting cut want at base a b = (let h = b (λ e. cc) in omega (arith, h))
lets_go Sealing cut want at base a b = (let h = b (λ e. cc) in omega (arith, h))
lets_go (Mending t) cut want at base a b = (let h = b (λ e. cc) in omega (arith, h))
lets_go (Reading j) cut want at base a b = (let h = b (λ e. cc) in omega (arith, h))

trim_well : (s before : Server) (cut want : ℕ) (ph : Phase) (m : Member) → (ph ≡ Trimming → want ≤ cut) → ((ph ≡ Trimming → ⊥) → m.at < cut) → ToldWell before cut ph want m Trim (told s (ask.Trim cut))
trim_well s before cut want ph m a b = by s.up
  where
    by : (u : Bool) → ToldWell before cut ph want m Trim (if u then Trimmed (max cut s.base) else Down)
    by false = tt
    by true = lets_go ph cut want m.at s.base a b

-- what is planned is where it should be

plan_store : (ph : Phase) (cut want place : ℕ) (m : Member) (p : ℕ) → IsPlanned ph cut want place m (Store p) → p ≡ m.at
plan_store Filling cut want place m p h = h.0
plan_store (Opening t) cut want place m p h = h.0
plan_store Asking cut want place m p h = absurd (cc)
plan_store Shutting cut want place m p h = absurd (cc)
plan_store Sealing cut want place m p h = absurd (cc)
plan_store (Mending t) cut want place m p h = absurd h
plan_store (Reading j) cut want place m p h = absurd (cc)
plan_store Trimming cut want place m p h = (let x = h.0 in absurd (cc))

plan_repair : (ph : Phase) (cut want place : ℕ) (m : Member) (p : ℕ) → IsPlanned ph cut want place m (Repair p) → (p ≡ m.at) × (is_some m.sealed ≡ true)
plan_repair (Mending t) cut want place m p h = (h.0, h.2)
plan_repair Filling cut want place m p h = absurd h
plan_repair (Opening t) cut want place m p h = absurd h
plan_repair Asking cut want place m p h = absurd (cc)
plan_repair Shutting cut want place m p h = absurd (cc)
plan_repair Sealing cut want place m p h = absurd (cc)
plan_repair (Reading j) cut want place m p h = absurd (cc)
plan_repair Trimming cut want place m p h = (let x = h.0 in absurd (cc))

plan_trim : (ph : Phase) (cut want place : ℕ) (m : Member) → IsPlanned ph cut want place m Trim → (ph ≡ Trimming → want ≤ cut) × ((ph ≡ Trimming → ⊥) → m.at < cut)
plan_trim Filling cut want place m h = (λ e. absurd (cc), λ n. h.1)
plan_trim (Opening t) cut want place m h = (λ e. absurd (cc), λ n. h.1)
plan_trim Trimming cut want place m h = (λ e. h.1, λ n. absurd (n refl))
plan_trim Asking cut want place m h = absurd (cc)
plan_trim Shutting cut want place m h = absurd (cc)
plan_trim Sealing cut want place m h = absurd (cc)
plan_trim (Mending t) cut want place m h = (λ e. absurd (cc), λ n. h.1)
plan_trim (Reading j) cut want place m h = absurd (cc)

---- the answer of a server to an operation that asks for this

-- what an operation asks is what it wishes: an entry at its place, a trim to the cut
pub asks_well : (c : Cell) (t i : ℕ) (aims : Aims) (ms : List Member) (m : Member) (e : Errand) (a : Ask) → QuorumLaw c → Knows (server c i) (operation c t) i m → IsPlanned aims.phase c.cut aims.want aims.place m e → (is_some m.sealed ≡ true → is_sealed (server c i) ≡ true) → ((p : ℕ) → e ≡ Read p → (operation c t).aim ≡ AimRead p) → ask_for c (operation c t) (wish_of e) ≡ Some a → (IsAskOf e a) × ToldWell (server_before (operation c t) i) c.cut aims.phase aims.want m e (told (server c i) a)
asks_well c t i aims ms m (Store p) a law k plan sealed read asks = by (slice_get c.entries p) asks
  where
    by : (z : Option Entry) → option_map (λ x. ask.Store p x) z ≡ Some a → (IsAskOf (Store p) a) × ToldWell (server_before (operation c t) i) c.cut aims.phase aims.want m (Store p) (told (server c i) a)
    by None h = absurd (none-some a h)
    by (Some x) h = subst (λ (y : Ask). (IsAskOf (Store p) y) × ToldWell (server_before (operation c t) i) c.cut aims.phase aims.want m (Store p) (told (server c i) y)) (same_Some _ _ h) (refl, store_well (server c i) (server_before (operation c t) i) c.cut aims.want aims.phase m p x (plan_store aims.phase c.cut aims.want aims.place m p plan) k.long)
asks_well c t i aims ms m (Repair p) a law k plan sealed read asks = by (slice_get c.entries p) asks
  where
    by : (z : Option Entry) → option_map (λ x. ask.Repair p x) z ≡ Some a → (IsAskOf (Repair p) a) × ToldWell (server_before (operation c t) i) c.cut aims.phase aims.want m (Repair p) (told (server c i) a)
    by None h = absurd (none-some a h)
    by (Some x) h = (let z : (p ≡ m.at) × (is_some m.sealed ≡ true) = plan_repair aims.phase c.cut aims.want aims.place m p plan in
        subst (λ (y : Ask). (IsAskOf (Repair p) y) × ToldWell (server_before (operation c t) i) c.cut aims.phase aims.want m (Repair p) (told (server c i) y)) (same_Some _ _ h) (refl, repair_well (server c i) (server_before (operation c t) i) c.cut aims.want aims.phase m p x z.0 k.long (sealed z.1)))
asks_well c t i aims ms m Seal a law k plan sealed read asks = by (is_seal (operation c t).aim || list_any says_sealed (operation c t).heard) asks
  where
    by : (z : Bool) → (if z then Some ask.Seal else None) ≡ Some a → (IsAskOf Seal a) × ToldWell (server_before (operation c t) i) c.cut aims.phase aims.want m Seal (told (server c i) a)
    by false h = absurd (none-some a h)
    by true h = subst (λ (y : Ask). (IsAskOf Seal y) × ToldWell (server_before (operation c t) i) c.cut aims.phase aims.want m Seal (told (server c i) y)) (same_Some _ _ h) (tt, seal_well (server c i) (server_before (operation c t) i) c.cut aims.want aims.phase m k.long)
asks_well c t i aims ms m Tail a law k plan sealed read asks = subst (λ (y : Ask). (IsAskOf Tail y) × ToldWell (server_before (operation c t) i) c.cut aims.phase aims.want m Tail (told (server c i) y)) (same_Some _ _ asks) (tt, tail_well (server c i) (server_before (operation c t) i) c.cut aims.want aims.phase m k.long)
asks_well c t i aims ms m (Read p) a law k plan sealed read asks =
    let aim : (operation c t).aim ≡ AimRead p = read p refl in
    let is : Some (ask.Read p) ≡ Some a = sym (ap ask_read aim) ∙ asks in
    subst (λ (y : Ask). (IsAskOf (Read p) y) × ToldWell (server_before (operation c t) i) c.cut aims.phase aims.want m (Read p) (told (server c i) y)) (same_Some _ _ is)
    (refl, read_well (server c i) (server_before (operation c t) i) c.cut aims.want aims.phase m p ((law.operations t).since i).longer (law.servers i).trimmed)
asks_well c t i aims ms m Trim a law k plan sealed read asks =
    let z : (aims.phase ≡ Trimming → aims.want ≤ c.cut) × ((aims.phase ≡ Trimming → ⊥) → m.at < c.cut) = plan_trim aims.phase c.cut aims.want aims.place m plan in
    subst (λ (y : Ask). (IsAskOf Trim y) × ToldWell (server_before (operation c t) i) c.cut aims.phase aims.want m Trim (told (server c i) y)) (same_Some _ _ asks) (tt, trim_well (server c i) (server_before (operation c t) i) c.cut aims.want aims.phase m z.0 z.1)

---- its answer is on its way

turned_message : (ms : List Member) (i j : ℕ) (z : Option Message) → i < length ms → HaveTurned ms j → HaveTurned (set ms i (record (get_or ms i no_member) { message = z })) j
turned_message ms i j z here h = record {
  here = rw (length-set ms i now) h.here;
  after = λ q l. same q ∙ h.after q l;
  before = λ q l. same q ∙ h.before q l;
}
  where
    now : Member
    now = record (get_or ms i no_member) { message = z }

    same : (q : ℕ) → ((get_or (set ms i (record (get_or ms i no_member) { message = z })) q no_member).passed || (get_or (set ms i (record (get_or ms i no_member) { message = z })) q no_member).unreached) ≡ ((get_or ms q no_member).passed || (get_or ms q no_member).unreached)
    same q = by (cases_eq q i)
      where
        by : (q ≡ i) ⊎ (q ≡ i → ⊥) → ((get_or (set ms i (record (get_or ms i no_member) { message = z })) q no_member).passed || (get_or (set ms i (record (get_or ms i no_member) { message = z })) q no_member).unreached) ≡ ((get_or ms q no_member).passed || (get_or ms q no_member).unreached)
        by (inl e) = rw (e, get_or-set_same ms i now no_member here) refl
        by (inr n) = rw (get_or-set_other ms i q now no_member n) refl

fits_message : (c : Cell) (o : Operation) (ms : List Member) (i : ℕ) (z : Option Message) (ph : Phase) → i < length ms → PhaseFits c o ms ph → PhaseFits c o (set ms i (record (get_or ms i no_member) { message = z })) ph
fits_message c o ms i z Filling here h = h
fits_message c o ms i z Asking here h = h
fits_message c o ms i z (Opening t) here h = h
fits_message c o ms i z Shutting here h = h
fits_message c o ms i z Sealing here h = h
fits_message c o ms i z (Mending t) here h = h
fits_message c o ms i z (Reading j) here h = turned_message ms i j z here h
fits_message c o ms i z Trimming here h = h

pub course_message : (c : Cell) (o : Operation) (aims : Aims) (ms : List Member) (i : ℕ) (z : Option Message) → i < length ms → IsOnCourse c o aims ms → IsOnCourse c o aims (set ms i (record (get_or ms i no_member) { message = z }))
course_message c o aims ms i z here f = record {
  odd = f.odd;
  few = f.few;
  all = length-set ms i now ∙ f.all;
  knows = λ q l. by q l (cases_eq q i);
  want = f.want;
  cut = f.cut;
  firm = f.firm;
  held = f.held;
  want_there = f.want_there;
  aims_at = f.aims_at;
  phase = fits_message c o ms i z aims.phase here f.phase;
}
  where
    now : Member
    now = record (get_or ms i no_member) { message = z }

    by : (q : ℕ) → q < length c.servers → (q ≡ i) ⊎ (q ≡ i → ⊥) → Knows (server c q) o q (get_or (set ms i (record (get_or ms i no_member) { message = z })) q no_member)
    by q l (inl e) = rw (e, get_or-set_same ms i now no_member here) (knows_as (server c i) o i (get_or ms i no_member).losses z (get_or ms i no_member) (f.knows i (subst (λ k. k < length c.servers) e l)))
    by q l (inr n) = rw (get_or-set_other ms i q now no_member n) (f.knows q l)
