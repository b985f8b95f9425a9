-- Faults came each of its own.
use Rattle.std.proofs.Common.{◌≡◌, refl, sym, ap, ◌∙◌, subst, ◌⊎◌, inl, inr, ℕ, ◌+◌, ◌≤◌, max, if◌then◌else◌, cond, Bool, true, false, List, [], ◌∷◌, ◌++◌, Option, Some, map, arith, append_assoc, append-nil}
use Rattle.std.specs.Prelude.{count_by, min, ◌^◌, ◌-◌, ◌==◌}
use Rattle.std.proofs.lemmas.Bool.Decides.{nat_tests}
use Rattle.std.proofs.lemmas.List.{map-append}
use Rattle.std.proofs.lemmas.List.Sums.{sum_by-append}
use Rattle.std.proofs.lemmas.List.Elements.{filter_map-append}
use Rattle.delos_types.specs.declared.entry.Entry.{Entry}
use Rattle.delos_types.specs.declared.cause.Cause.{Cause}
use Rattle.delos_types.specs.declared.cause.Cause.TheVariants as cause
use Rattle.loglet_api.specs.declared.call.Answer.TheVariants as answers
use Rattle.disk_model.specs.Disk.{Rose}
use Rattle.replica_api.specs.Replica.{ReplicaView}
use Rattle.legal_journal.specs.declared.events.Event.{Event}
use Rattle.legal_journal.specs.declared.events.FabricCall.{FabricCall}
use Rattle.legal_journal.specs.declared.events.FabricCall.TheVariants.{Begin, Carry}
use Rattle.legal_journal.specs.declared.events.FabricAnswer.{FabricAnswer}
use Rattle.legal_journal.specs.declared.events.FabricAnswer.TheVariants as fabric
use Rattle.virtual_log.specs.Causes.{IsLack, IsFullOf, IsMetaFault}
use Rattle.virtual_log.specs.Holding.{Holds}
use Rattle.base_engine.specs.declared.fault.Fault.TheVariants.{Because}
use Rattle.base_engine.specs.Arming.{FailsTwice, StoreTwice}
use Rattle.base_engine.specs.declared.outbox.Given.{Given}
use Rattle.base_engine.specs.Causes.{HasEventOf, Blames}
use Rattle.base_engine.specs.Settling.{Fate, Landed, Lost, Meets, Settles, Settled, gives, given_to, sessions_in, OutboxView}
use Rattle.base_engine.specs.Settling as settling
use Rattle.node_lines.proofs.Settling.{Extends}
use Rattle.journal_laws.specs.Faults.{fault_of, faults_in}
use Rattle.journal_laws.specs.Own.{own, faults_of}
use Rattle.node_lines.specs.Moving.{is_store, Rises, Spends, strikes}

count_by-append : {A : Type 0} (p : A → Bool) (xs ys : List A) → count_by p (xs ++ ys) ≡ count_by p xs + count_by p ys
count_by-append p xs ys = sum_by-append (λ x. cond (p x) 1 0) xs ys

count_by-cons : {A : Type 0} (p : A → Bool) (x : A) (xs : List A) → count_by p (x ∷ xs) ≡ cond (p x) 1 0 + count_by p xs
count_by-cons p x xs = count_by-append p (x ∷ []) xs ∙ ap (λ k. k + count_by p xs) (let e : 0 + cond (p x) 1 0 ≡ cond (p x) 1 0 = omega arith in e)

faults-append : (xs ys : List Event) → faults_in (xs ++ ys) ≡ faults_in xs ++ faults_in ys
faults-append xs ys = filter_map-append (λ e. fault_of e.answer e.call) xs ys

own-append : (who : ℕ) (xs ys : List Event) → own who (xs ++ ys) ≡ own who xs ++ own who ys
own-append who [] ys = refl
own-append who (x ∷ xs) ys = by (x.who == who) (own-append who xs ys)
  where
    by : (b : Bool) → own who (xs ++ ys) ≡ own who xs ++ own who ys → cond b (x ∷ own who (xs ++ ys)) (own who (xs ++ ys)) ≡ cond b (x ∷ own who xs) (own who xs) ++ own who ys
    by true rest = ap (λ l. x ∷ l) rest
    by false rest = rest

own-event : (who : ℕ) (e : Event) (es : List Event) → e.who ≡ who → own who (e ∷ es) ≡ e ∷ own who es
own-event who e es its = by (e.who == who) refl
  where
    by : (b : Bool) → (e.who == who) ≡ b → cond b (e ∷ own who es) (own who es) ≡ e ∷ own who es
    by true is = refl
    by false is = absurd (grind (arith, nat_tests))

faults_of-append : (who : ℕ) (xs ys : List Event) → faults_of who (xs ++ ys) ≡ faults_of who xs ++ faults_of who ys
faults_of-append who xs ys = ap faults_in (own-append who xs ys) ∙ faults-append (own who xs) (own who ys)

-- own events tell no more faults than all
own-faults : (who : ℕ) (P : Cause → Bool) (es : List Event) → count_by P (faults_of who es) ≤ count_by P (faults_in es)
own-faults who P [] = omega arith
own-faults who P (e ∷ es) = by (e.who == who) (own-faults who P es)
  where
    head : (xs : List Event) → count_by P (faults_in (e ∷ xs)) ≡ count_by P (faults_in (e ∷ [])) + count_by P (faults_in xs)
    head xs = ap (count_by P) (faults-append (e ∷ []) xs) ∙ count_by-append P (faults_in (e ∷ [])) (faults_in xs)

    by : (b : Bool) → count_by P (faults_of who es) ≤ count_by P (faults_in es) → count_by P (faults_in (cond b (e ∷ own who es) (own who es))) ≤ count_by P (faults_in (e ∷ es))
    by true rest = omega (arith, head (own who es), head es, rest)
    by false rest = omega (arith, head es, rest)

-- so each of the causes has an event, of whomever
pub all-events : {who : ℕ} {old new : List Event} {a b : ℕ} {cs : List Cause} (h : Spends who old new a b cs) (P : Cause → Bool) → P cause.Store ≡ false → count_by P cs ≤ count_by P (faults_in h.more)
all-events {who} h P none = omega (arith, h.events P none, own-faults who P h.more)

-- Counts of the disk

rises-none : (a b : ℕ) → a ≤ b → Rises 0 a b
rises-none a b h = omega (arith, h)

rises-both : (n m a b c : ℕ) → Rises n a b → Rises m b c → Rises (n + m) a c
rises-both n m a b c h k = omega (arith, h, k)

-- it goes down by a fault alone
strikes-low : (d d' : Bool) (f f' : ℕ) → f ≤ f' → (d' ≡ true → (d ≡ true) ⊎ Rose f f') → (if d then f else max f 1) ≤ (if d' then f' else max f' 1)
strikes-low true true f f' low falls = low
strikes-low true false f f' low falls = omega (arith, low)
strikes-low false false f f' low falls = omega (arith, low)
strikes-low false true f f' low falls = elim (falls refl) [
  | inl was ↦ absurd (let no : false ≡ true = was in cc)
  | inr (inl more) ↦ omega (arith, more)
  | inr (inr most) ↦ omega (arith, most, low)
]

pub strikes-stay : (old new : ReplicaView) → old.faults ≤ new.faults → (new.down ≡ true → (old.down ≡ true) ⊎ Rose old.faults new.faults) → strikes old ≤ strikes new
strikes-stay old new low falls = strikes-low old.down new.down old.faults new.faults low falls

pub strikes-same : (old new : ReplicaView) → new ≡ old → strikes old ≤ strikes new
strikes-same old new same = let s = ap strikes same in omega (arith, s)

pub strikes-kept : (old new : ReplicaView) → new ≡ record old { kept = new.kept } → strikes old ≤ strikes new
strikes-kept old new same = let s : strikes new ≡ strikes old = ap strikes same in omega (arith, s)

-- a store that is a cause fails twice, or once more
strikes-one : (d d' : Bool) (f f' : ℕ) → (min (f + 2) (2 ^ 64 - 1) ≤ f') ⊎ ((d ≡ true) × (min (f + 1) (2 ^ 64 - 1) ≤ f')) → Rises 1 (if d then f else max f 1) (if d' then f' else max f' 1)
strikes-one true true f f' (inl h) = omega (arith, h)
strikes-one true false f f' (inl h) = omega (arith, h)
strikes-one false true f f' (inl h) = omega (arith, h)
strikes-one false false f f' (inl h) = omega (arith, h)
strikes-one true true f f' (inr h) = let more = h.1 in omega (arith, more)
strikes-one true false f f' (inr h) = let more = h.1 in omega (arith, more)
strikes-one false d' f f' (inr h) = absurd (let no : false ≡ true = h.0 in cc)

strikes-rise : (old new : ReplicaView) → FailsTwice old new → Rises 1 (strikes old) (strikes new)
strikes-rise old new h = strikes-one old.down new.down old.faults new.faults h

-- Events that tell a cause

lack : (id u : ℕ) (call : FabricCall) (answer : FabricAnswer) → IsLack id u call answer → fault_of answer call ≡ Some (cause.NoQuorum id u)
lack id u (Carry i t word) (fabric.Done (answers.NoQuorum v)) h = ap (λ x. Some (cause.NoQuorum x v)) h.0 ∙ ap (λ x. Some (cause.NoQuorum id x)) h.1
lack id u call answer h = absurd h

full : (id : ℕ) (call : FabricCall) (answer : FabricAnswer) → IsFullOf id call answer → fault_of answer call ≡ Some (cause.Full id)
full id (Begin i op) fabric.Full h = ap (λ x. Some (cause.Full x)) h
full id call answer h = absurd h

meta : (call : FabricCall) (answer : FabricAnswer) → IsMetaFault answer → fault_of answer call ≡ Some cause.Meta
meta call fabric.MetaFault h = refl
meta call fabric.Down h = refl
meta call answer h = absurd h

-- Spending

pub spends-none : (who : ℕ) (old new : List Event) (a b : ℕ) → Extends old new → a ≤ b → Spends who old new a b []
spends-none who old new a b on low = record { more = on.0; seen = on.1; events = λ P none. omega arith; disk = rises-none a b low }

pub spends-both : (who : ℕ) (old mid new : List Event) (a b c : ℕ) (cs ds : List Cause) → Spends who old mid a b cs → Spends who mid new b c ds → Spends who old new a c (cs ++ ds)
spends-both who old mid new a b c cs ds h k = record {
  more = h.more ++ k.more;
  seen = k.seen ∙ ap (λ l. l ++ k.more) h.seen ∙ append_assoc old h.more k.more;
  events = λ P none. let e = count_by-append P cs ds in let f = ap (count_by P) (faults_of-append who h.more k.more) ∙ count_by-append P (faults_of who h.more) (faults_of who k.more) in
      omega (arith, e, f, h.events P none, k.events P none);
  disk = subst (λ n. Rises n a c) (sym (count_by-append is_store cs ds)) (rises-both (count_by is_store cs) (count_by is_store ds) a b c h.disk k.disk);
}

one-event : (who : ℕ) (old before after new : List Event) (e : Event) (c : Cause) (a b : ℕ) → e.who ≡ who → fault_of e.answer e.call ≡ Some c → is_store c ≡ false → new ≡ (old ++ before) ++ e ∷ after → a ≤ b → Spends who old new a b (c ∷ [])
one-event who old before after new e c a b its tells low_store seen low = record {
  more = before ++ e ∷ after;
  seen = seen ∙ append_assoc old before (e ∷ after);
  events = λ P none.
      let f = ap (count_by P) (faults_of-append who before (e ∷ after) ∙ ap (λ l. faults_of who before ++ l) (ap faults_in (own-event who e after its) ∙ told (fault_of e.answer e.call) tells)) ∙ count_by-append P (faults_of who before) (c ∷ faults_of who after) in
      let g = count_by-cons P c (faults_of who after) in
      let k = count_by-cons P c [] in
      omega (arith, f, g, k);
  disk = subst (λ n. Rises n a b) (sym none_of) (rises-none a b low);
}
  where
    told : (o : Option Cause) → o ≡ Some c → faults_in (e ∷ own who after) ≡ c ∷ faults_of who after
    told o h = rw tells refl

    none_of : count_by is_store (c ∷ []) ≡ 0
    none_of = count_by-cons is_store c [] ∙ ap {B = ℕ} (λ x. cond x 1 0 + 0) low_store

pub spends-event : (who : ℕ) (old new : List Event) (c : Cause) (a b : ℕ) → a ≤ b → HasEventOf who old c new → Spends who old new a b (c ∷ [])
spends-event who old new (cause.NoQuorum id u) a b low h = one-event who old h.before h.after new h.event (cause.NoQuorum id u) a b h.is.0 (lack id u h.event.call h.event.answer h.is.1) refl h.seen low
spends-event who old new (cause.Full id) a b low h = one-event who old h.before h.after new h.event (cause.Full id) a b h.is.0 (full id h.event.call h.event.answer h.is.1) refl h.seen low
spends-event who old new cause.Meta a b low h = one-event who old h.before h.after new h.event cause.Meta a b h.is.0 (meta h.event.call h.event.answer h.is.1) refl h.seen low
spends-event who old new cause.Store a b low h = absurd h

-- a sync that failed came across its cause
pub spends-blames : (who : ℕ) (old new : List Event) (c : Cause) (a b : ReplicaView) → Extends old new → strikes a ≤ strikes b → Blames who old a.faults (Because c) new b.faults → StoreTwice a (Because c) b → Spends who old new (strikes a) (strikes b) (c ∷ [])
spends-blames who old new (cause.NoQuorum id u) a b on low h twice = spends-event who old new (cause.NoQuorum id u) (strikes a) (strikes b) low h
spends-blames who old new (cause.Full id) a b on low h twice = spends-event who old new (cause.Full id) (strikes a) (strikes b) low h
spends-blames who old new cause.Meta a b on low h twice = spends-event who old new cause.Meta (strikes a) (strikes b) low h
spends-blames who old new cause.Store a b on low h twice = record {
  more = on.0;
  seen = on.1;
  events = λ P none. let k = count_by-cons P cause.Store [] in let z : cond (P cause.Store) 1 0 ≡ 0 = ap {B = ℕ} (λ x. cond x 1 0) none in omega (arith, k, z);
  disk = strikes-rise a b (twice refl);
}

-- a cause of the store of a replica that is as it was came where its count of faults is at its end
pub twice-same : (who : ℕ) (old new : List Event) (c : Cause) (a b : ReplicaView) → b ≡ a → Blames who old a.faults (Because c) new b.faults → StoreTwice a (Because c) b
twice-same who old new (cause.NoQuorum id u) a b same h = λ is. absurd (cc)
twice-same who old new (cause.Full id) a b same h = λ is. absurd (cc)
twice-same who old new cause.Meta a b same h = λ is. absurd (cc)
twice-same who old new cause.Store a b same h = λ is.
    let faults = ap (λ (r : ReplicaView). r.faults) same in
    elim h [
      | inl more ↦ absurd (omega (arith, more, faults))
      | inr most ↦ inl (omega (arith, most, faults))
    ]

-- an entry meets its fate at a later moment
meets-extends : (who : ℕ) (old new : List Event) (e : Entry) (f : Fate) → Meets Holds who old e f new → Extends old new
meets-extends who old new e (Landed pos) h = let f = h.2.first in (f.others ++ f.event ∷ f.rest, f.seen ∙ append_assoc old f.others (f.event ∷ f.rest))
meets-extends who old new e (Lost (cause.NoQuorum id u)) h = (h.before ++ h.event ∷ h.after, h.seen ∙ append_assoc old h.before (h.event ∷ h.after))
meets-extends who old new e (Lost (cause.Full id)) h = (h.before ++ h.event ∷ h.after, h.seen ∙ append_assoc old h.before (h.event ∷ h.after))
meets-extends who old new e (Lost cause.Meta) h = (h.before ++ h.event ∷ h.after, h.seen ∙ append_assoc old h.before (h.event ∷ h.after))
meets-extends who old new e (Lost cause.Store) h = absurd h

-- each entry that failed came across its own
pub spends-settles : (who : ℕ) (old new : List Event) (done : List Entry) (given : List Given) (before after : Option Cause) (a : ℕ) → Settles Holds who old done new given before after → Spends who old new a a (map (λ g. g.cause) given)
spends-settles who old new [] given before after a h = subst (λ g. Spends who old new a a (map (λ x. x.cause) g)) (sym h.1) (spends-none who old new a a ([], h.0 ∙ sym (append-nil old)) (omega arith))
spends-settles who old new (e ∷ es) given before after a h =
    subst (λ g. Spends who old new a a (map (λ x. x.cause) g)) (sym h.4)
    (subst (λ cs. Spends who old new a a cs) (sym (map-append (λ (x : Given). x.cause) (gives e h.1) h.2))
    (spends-both who old h.0 new a a a (map (λ x. x.cause) (gives e h.1)) (map (λ x. x.cause) h.2) (met h.1 h.3) (spends-settles who h.0 new es h.2 (settling.first_of before h.1) after a h.5)))
  where
    met : (f : Fate) → Meets Holds who old e f h.0 → Spends who old h.0 a a (map (λ x. x.cause) (gives e f))
    met (Landed pos) m = spends-none who old h.0 a a (meets-extends who old h.0 e (Landed pos) m) (omega arith)
    met (Lost c) m = gave (sessions_in e)
      where
        gave : (ss : List ℕ) → Spends who old h.0 a a (map (λ x. x.cause) (given_to ss c))
        gave [] = spends-none who old h.0 a a (meets-extends who old h.0 e (Lost c) m) (omega arith)
        gave (s ∷ ss) = spends-event who old h.0 c a a (omega arith) m

pub spends-settled : (who : ℕ) (old new : List Event) (was is : OutboxView) (a : ℕ) (h : Settled Holds who old was new is) → Spends who old new a a (map (λ g. g.cause) h.given)
spends-settled who old new was is a h =
    subst (λ cs. Spends who old new a a cs) (append-nil (map (λ (g : Given). g.cause) h.given))
    (spends-both who old h.moment new a a a (map (λ g. g.cause) h.given) [] (spends-settles who old h.moment h.done h.given was.unsettled is.unsettled a h.fates) (spends-none who h.moment new a a h.rest (omega arith)))

-- in whatever order
pub spends-permuted : (who : ℕ) (old new : List Event) (a b : ℕ) (cs ds : List Cause) → ((P : Cause → Bool) → count_by P ds ≡ count_by P cs) → Spends who old new a b cs → Spends who old new a b ds
spends-permuted who old new a b cs ds same h = record {
  more = h.more;
  seen = h.seen;
  events = λ P none. let e = same P in omega (arith, e, h.events P none);
  disk = subst (λ n. Rises n a b) (sym (same is_store)) h.disk;
}

pub shuffled : (P : Cause → Bool) (xs bs cs ds : List Cause) → count_by P ((xs ++ cs) ++ (bs ++ ds)) ≡ count_by P ((xs ++ bs) ++ (cs ++ ds))
shuffled P xs bs cs ds =
    let e = count_by-append P (xs ++ cs) (bs ++ ds) in
    let f = count_by-append P xs cs in
    let g = count_by-append P bs ds in
    let h = count_by-append P (xs ++ bs) (cs ++ ds) in
    let k = count_by-append P xs bs in
    let l = count_by-append P cs ds in
    omega (arith, e, f, g, h, k, l)
