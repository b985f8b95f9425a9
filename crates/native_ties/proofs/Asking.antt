-- What an operation wants of a server, the cell lets it ask.
use Rattle.std.proofs.Common.{◌≡◌, ℕ, zero, suc, ◌+◌, ◌-◌, ◌<◌, ◌≤◌, Bool, true, false, refl, ◌∙◌, ap, subst, arith, List, [], ◌∷◌, length, drop, get_or, Option, Some, None, inl, inr}
use Rattle.std.specs.Prelude.{◌⊎◌, ◌||◌, ⊤, nat_lt, slice_get, is_some, if◌then◌else◌, option_map}
use Rattle.std.specs.List.{list_any}
use Rattle.std.proofs.lemmas.Bool.{false≢true, or_left, or_right, or_cases, ltb-true, ltb-false}
use Rattle.delos_types.specs.declared.entry.Entry.{Entry}
use Rattle.quorum_cell.specs.declared.message.Ask.{Ask}
use Rattle.quorum_cell.specs.declared.message.Ask.TheVariants as ask
use Rattle.quorum_cell.specs.declared.message.Reply.{Reply}
use Rattle.quorum_cell.specs.declared.operation.Aim.TheVariants.{Read as AimRead}
use Rattle.quorum_cell.specs.Cells.{Cell, Operation, operation, is_seal}
use Rattle.quorum_cell.specs.Tallies.{says_sealed, sealed_at, sealed_told, exactly}
use Rattle.quorum_cell.specs.Steps.{ask_for, ask_read}
use Rattle.quorum_cell.proofs.Lists.{slice_get_drop}
use Rattle.native_plan.specs.declared.member.Member.{Member}
use Rattle.native_plan.specs.declared.aims.Aims.{Aims}
use Rattle.native_plan.specs.declared.pending.Pending.{Pending}
use Rattle.native_plan.specs.declared.message.Message.TheVariants.{Asked}
use Rattle.native_plan.specs.Members.{no_member, due_of}
use Rattle.native_plan.specs.Pendings.{aims_of}
use Rattle.native_plan.specs.declared.message.Errand.{Errand}
use Rattle.native_plan.specs.declared.message.Errand.TheVariants.{Store, Seal, Tail, Repair, Read, Trim}
use Rattle.native_plan.specs.declared.message.Phase.{Phase}
use Rattle.native_plan.specs.declared.message.Phase.TheVariants.{Filling, Asking, Opening, Shutting, Sealing, Mending, Reading, Trimming}
use Rattle.native_plan.specs.Course.{AimsAt, PhaseFits, IsOnCourse, IsPlanned}
use Rattle.native_ties.specs.Parts.{IsCarried, OnItsWay, IsPartOf, IsAllowed, wish_of, entry_at, asked_by}
use Rattle.native_ties.proofs.Resending.{due_way}

entry_there : (xs : List Entry) (k : ℕ) → k < length xs → (x : Entry) × (slice_get xs k ≡ Some x)
entry_there [] k h = absurd (omega (arith, h))
entry_there (x ∷ xs) zero h = (x, refl)
entry_there (x ∷ xs) (suc k) h = entry_there xs k (omega (arith, h))

-- a length was told while sealed
sealed_heard : (g : ℕ) (rs : List Reply) → list_any (sealed_at g) rs ≡ true → list_any says_sealed rs ≡ true
sealed_heard g [] h = absurd (false≢true h)
sealed_heard g (r ∷ rs) h = by (or_cases (sealed_at g r) (list_any (sealed_at g) rs) h) (sealed_heard g rs)
  where
    some : (z : Option ℕ) → exactly g z ≡ true → is_some z ≡ true
    some None e = absurd (false≢true e)
    some (Some n) e = refl

    by : (sealed_at g r ≡ true) ⊎ (list_any (sealed_at g) rs ≡ true) → (list_any (sealed_at g) rs ≡ true → list_any says_sealed rs ≡ true) → list_any says_sealed (r ∷ rs) ≡ true
    by (inl e) more = or_left (says_sealed r) (list_any says_sealed rs) (some (sealed_told r.told) e)
    by (inr e) more = or_right (says_sealed r) (list_any says_sealed rs) (more e)

-- an entry that is sent is below what is wanted

store_there : (c : Cell) (o : Operation) (aims : Aims) (ms : List Member) (m : Member) (p : ℕ) (ph : Phase) → aims.phase ≡ ph → IsOnCourse c o aims ms → PhaseFits c o ms ph → IsPlanned ph c.cut aims.want aims.place m (Store p) → p < length c.entries
store_there c o aims ms m p Filling is f h plan = (let there = f.want_there is in omega (arith, there, f.want, plan.0, plan.1))
store_there c o aims ms m p (Opening t) is f h plan = omega (arith, plan.0, plan.1, h.there)
store_there c o aims ms m p Asking is f h plan = absurd (cc)
store_there c o aims ms m p Shutting is f h plan = absurd (cc)
store_there c o aims ms m p Sealing is f h plan = absurd (cc)
store_there c o aims ms m p (Mending t) is f h plan = absurd plan
store_there c o aims ms m p (Reading j) is f h plan = absurd (cc)
store_there c o aims ms m p Trimming is f h plan = (let x = plan.0 in absurd (cc))

repair_there : (c : Cell) (o : Operation) (aims : Aims) (ms : List Member) (m : Member) (p : ℕ) (ph : Phase) → PhaseFits c o ms ph → IsPlanned ph c.cut aims.want aims.place m (Repair p) → p < length c.entries
repair_there c o aims ms m p (Mending t) h plan = omega (arith, plan.0, plan.1, h.there)
repair_there c o aims ms m p Filling h plan = absurd plan
repair_there c o aims ms m p (Opening t) h plan = absurd plan
repair_there c o aims ms m p Asking h plan = absurd (cc)
repair_there c o aims ms m p Shutting h plan = absurd (cc)
repair_there c o aims ms m p Sealing h plan = absurd (cc)
repair_there c o aims ms m p (Reading j) h plan = absurd (cc)
repair_there c o aims ms m p Trimming h plan = (let x = plan.0 in absurd (cc))

may_seal : (c : Cell) (o : Operation) (aims : Aims) (ms : List Member) (m : Member) (ph : Phase) → PhaseFits c o ms ph → IsPlanned ph c.cut aims.want aims.place m Seal → (is_seal o.aim || list_any says_sealed o.heard) ≡ true
may_seal c o aims ms m Shutting h plan = h
may_seal c o aims ms m Sealing h plan = or_right (is_seal o.aim) _ h
may_seal c o aims ms m (Mending t) h plan = or_right (is_seal o.aim) _ (sealed_heard t o.heard h.told)
may_seal c o aims ms m Filling h plan = absurd plan
may_seal c o aims ms m (Opening t) h plan = absurd plan
may_seal c o aims ms m Asking h plan = absurd (cc)
may_seal c o aims ms m (Reading j) h plan = absurd (cc)
may_seal c o aims ms m Trimming h plan = (let x = plan.0 in absurd (cc))

read_is : (o : Operation) (place p cut want : ℕ) (m : Member) (ph : Phase) → AimsAt place o.aim ph → IsPlanned ph cut want place m (Read p) → o.aim ≡ AimRead p
read_is o place p cut want m ph a plan = Rattle.native_ties.proofs.Hearing.read_reads ph cut want place o.aim m (Read p) a plan p refl

-- an entry that a server is to take isn't below the cut
abbrev pub IsDue : ℕ → Errand → Type 0
IsDue cut (Store p) = cut ≤ p
IsDue cut (Repair p) = cut ≤ p
IsDue cut e = ⊤

due_is : (cut : ℕ) (e : Errand) → IsDue cut (due_of cut e)
due_is cut (Store p) = by (nat_lt p cut) refl
  where
    by : (b : Bool) → nat_lt p cut ≡ b → IsDue cut (if b then Trim else Store p)
    by true e = tt
    by false e = ltb-false _ _ e
due_is cut (Repair p) = by (nat_lt p cut) refl
  where
    by : (b : Bool) → nat_lt p cut ≡ b → IsDue cut (if b then Trim else Repair p)
    by true e = tt
    by false e = ltb-false _ _ e
due_is cut Seal = tt
due_is cut Tail = tt
due_is cut (Read p) = tt
due_is cut Trim = tt

-- such an entry is kept
entry_kept : (cut : ℕ) (xs : List Entry) (p : ℕ) → cut ≤ p → entry_at cut (drop cut xs) p ≡ slice_get xs p
entry_kept cut xs p l = by (nat_lt p cut) refl
  where
    by : (b : Bool) → nat_lt p cut ≡ b → (if b then None else slice_get (drop cut xs) (p - cut)) ≡ slice_get xs p
    by true e = absurd (let under : p < cut = ltb-true _ _ e in omega (arith, under, l))
    by false e = (let same : cut + (p - cut) ≡ p = omega (arith, l) in slice_get_drop cut xs (p - cut) ∙ ap (slice_get xs) same)

-- the operation asks just this: an entry at its place, which is kept where it is due, a trim to the cut
pub can_ask : (c : Cell) (o : Operation) (aims : Aims) (ms : List Member) (m : Member) (e : Errand) → IsOnCourse c o aims ms → IsPlanned aims.phase c.cut aims.want aims.place m e → (a : Ask) × (IsDue c.cut e → asked_by (drop c.cut c.entries) c.cut e ≡ Some a) × (ask_for c o (wish_of e) ≡ Some a)
can_ask c o aims ms m (Store p) f plan =
    let x : (x : Entry) × (slice_get c.entries p ≡ Some x) = entry_there c.entries p (store_there c o aims ms m p aims.phase refl f f.phase plan) in
    (ask.Store p x.0, λ due. ap (option_map (λ y. ask.Store p y)) (entry_kept c.cut c.entries p due ∙ x.1), ap (option_map (λ y. ask.Store p y)) x.1)
can_ask c o aims ms m (Repair p) f plan =
    let x : (x : Entry) × (slice_get c.entries p ≡ Some x) = entry_there c.entries p (repair_there c o aims ms m p aims.phase f.phase plan) in
    (ask.Repair p x.0, λ due. ap (option_map (λ y. ask.Repair p y)) (entry_kept c.cut c.entries p due ∙ x.1), ap (option_map (λ y. ask.Repair p y)) x.1)
can_ask c o aims ms m Seal f plan = (ask.Seal, λ _. refl, ap (λ b. if b then Some ask.Seal else None) (may_seal c o aims ms m aims.phase f.phase plan))
can_ask c o aims ms m Tail f plan = (ask.Tail, λ _. refl, refl)
can_ask c o aims ms m (Read p) f plan = (ask.Read p, λ _. refl, ap ask_read (read_is o aims.place p c.cut aims.want m aims.phase f.aims_at plan))
can_ask c o aims ms m Trim f plan = (ask.Trim c.cut, λ _. refl, refl)

pub allowed : (c : Cell) (t i : ℕ) (p : Pending) (e : Errand) → IsPartOf c t p → p.outcome ≡ None → i < length c.servers → (get_or p.members.items i no_member).message ≡ Some (Asked e) → IsAllowed c t (due_of c.cut e)
allowed c t i p e part waiting here message =
    let way : OnItsWay c (operation c t) t i (aims_of c.cut p) (get_or p.members.items i no_member) e = subst (IsCarried c (operation c t) t i (aims_of c.cut p) (get_or p.members.items i no_member)) message ((part.goes waiting).carried i here) in
    let due : OnItsWay c (operation c t) t i (aims_of c.cut p) (get_or p.members.items i no_member) (due_of c.cut e) = due_way c (operation c t) t i (aims_of c.cut p) (get_or p.members.items i no_member) e way in
    let a : (a : Ask) × (IsDue c.cut (due_of c.cut e) → asked_by (drop c.cut c.entries) c.cut (due_of c.cut e) ≡ Some a) × (ask_for c (operation c t) (wish_of (due_of c.cut e)) ≡ Some a) = can_ask c (operation c t) (aims_of c.cut p) p.members.items (get_or p.members.items i no_member) (due_of c.cut e) (part.goes waiting).course due.planned in
    record { ask = a.0; is = a.1 (due_is c.cut e); allowed = a.2 }
