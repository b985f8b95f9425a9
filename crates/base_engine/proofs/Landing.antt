-- An item that went down was appended, where nothing failed.
use Rattle.std.proofs.Common.{◌≡◌, ◌⊎◌, inl, inr, ℕ, ◌<◌, ◌≤◌, ◌-◌, ◌^◌, Bool, true, false, List, [], ◌∷◌, ◌++◌, Option, Some, None, refl, sym, ap, ◌∙◌, subst, ⊎_elim, arith}
use Rattle.std.specs.Prelude.{All, Contains, nat_lt}
use Rattle.std.proofs.lemmas.Bool.Decides.{nat_tests}
use Rattle.std.proofs.lemmas.List.{append_assoc, append-nil}
use Rattle.std.proofs.lemmas.List.Elements.{All-nil, All-cons, All-weaker, All-contains, Contains-push, Contains-append_left, Contains-append_cases}
use Rattle.delos_types.specs.declared.cause.Cause.{Cause}
use Rattle.delos_types.specs.declared.cause.Cause.TheVariants as cause
use Rattle.delos_types.specs.declared.entry.Entry.{Entry}
use Rattle.delos_types.specs.declared.item.Item.{Item}
use Rattle.engine_api.specs.Packing.{packed, trim_item}
use Rattle.engine_steps.specs.Words.{under}
use Rattle.legal_journal.specs.declared.events.Event.{Event}
use Rattle.disk_model.specs.Disk.{Rose}
use Rattle.virtual_log.specs.declared.fault.Fault.TheVariants as log_fault
use Rattle.virtual_log.specs.declared.fault.Fault as log
use Rattle.virtual_log.specs.Causes.{HasCause}
use Rattle.virtual_log.specs.Turning.{HasEvent}
use Rattle.virtual_log.proofs.OneTurn.{event_since, event_until}
use Rattle.replica_api.specs.Replica.{Queues, Flushes}
use Rattle.base_engine.specs.declared.fault.Fault.{Fault}
use Rattle.base_engine.specs.declared.fault.Fault.TheVariants.{Because, Memory}
use Rattle.base_engine.specs.declared.outbox.Given.{Given}
use Rattle.base_engine.specs.Causes.{HasEventOf, Blames, told}
use Rattle.base_engine.specs.Settling.{OutboxView, Fate, Landed, Lost, Meets, first_of, Settles, Settled, Answers, Failing}
use Rattle.base_engine.specs.Proposing.{Sent, with_entry}
use Rattle.base_engine.specs.Trimming.{IsAppended, HasLanded}

-- the journal goes on
abbrev pub On : List Event → List Event → Type 0
On old new = (more : List Event) × (new ≡ old ++ more)

pub on_on : (a b c : List Event) → On a b → On b c → On a c
on_on a b c h k = (h.0 ++ k.0, k.1 ∙ ap (λ l. l ++ k.0) h.1 ∙ append_assoc a h.0 k.0)

-- The causes of faults

has_event_on : (P : Event → Type 0) (old new : List Event) → HasEvent old P new → On old new
has_event_on P old new h = (h.before ++ h.event ∷ h.after, h.seen ∙ append_assoc old h.before (h.event ∷ h.after))

event_on : (who : ℕ) (old new : List Event) (c : Cause) → HasEventOf who old c new → On old new
event_on who old new (cause.NoQuorum id unreached) h = has_event_on _ old new h
event_on who old new (cause.Full id) h = has_event_on _ old new h
event_on who old new cause.Meta h = has_event_on _ old new h
event_on who old new cause.Store h = absurd h

pub event_of_since : (who : ℕ) (a b c : List Event) (x : Cause) → On a b → HasEventOf who b x c → HasEventOf who a x c
event_of_since who a b c (cause.NoQuorum id unreached) on h = event_since _ a b c on.0 on.1 h
event_of_since who a b c (cause.Full id) on h = event_since _ a b c on.0 on.1 h
event_of_since who a b c cause.Meta on h = event_since _ a b c on.0 on.1 h
event_of_since who a b c cause.Store on h = absurd h

pub event_of_until : (who : ℕ) (a b c : List Event) (x : Cause) → On b c → HasEventOf who a x b → HasEventOf who a x c
event_of_until who a b c (cause.NoQuorum id unreached) on h = event_until _ a b c on.0 on.1 h
event_of_until who a b c (cause.Full id) on h = event_until _ a b c on.0 on.1 h
event_of_until who a b c cause.Meta on h = event_until _ a b c on.0 on.1 h
event_of_until who a b c cause.Store on h = absurd h

pub blames_event : (who : ℕ) (old new : List Event) (faults faults' : ℕ) (x : Cause) → HasEventOf who old x new → Blames who old faults (Because x) new faults'
blames_event who old new faults faults' (cause.NoQuorum id unreached) h = h
blames_event who old new faults faults' (cause.Full id) h = h
blames_event who old new faults faults' cause.Meta h = h
blames_event who old new faults faults' cause.Store h = absurd h

-- Fates

meets_on : (holds : List Event → ℕ → Entry → Type 0) (who : ℕ) (old : List Event) (e : Entry) (fate : Fate) (new : List Event) → Meets holds who old e fate new → On old new
meets_on holds who old e (Landed pos) new h =
    let f = h.2.first in
    (f.others ++ f.event ∷ f.rest, f.seen ∙ append_assoc old f.others (f.event ∷ f.rest))
meets_on holds who old e (Lost x) new h = event_on who old new x h

pub settles_on : (holds : List Event → ℕ → Entry → Type 0) (who : ℕ) (old new : List Event) (es : List Entry) (given : List Given) (before after : Option Cause) → Settles holds who old es new given before after → On old new
settles_on holds who old new [] given before after s = ([], s.0 ∙ sym (append-nil old))
settles_on holds who old new (e ∷ es) given before after s = on_on old s.0 new (meets_on holds who old e s.1 s.0 s.3) (settles_on holds who s.0 new es s.2 (first_of before s.1) after s.5)

pub calm_before : (now : Option Cause) (fate : Fate) → first_of now fate ≡ None → (now ≡ None) × ((pos : ℕ) × (fate ≡ Landed pos))
calm_before None (Landed pos) h = (refl, (pos, refl))
calm_before None (Lost x) h = absurd (cc)
calm_before (Some x) fate h = absurd (cc)

settles_calm : (holds : List Event → ℕ → Entry → Type 0) (who : ℕ) (old new : List Event) (es : List Entry) (given : List Given) (before after : Option Cause) → Settles holds who old es new given before after → after ≡ None → before ≡ None
settles_calm holds who old new [] given before after s none = sym s.2 ∙ none
settles_calm holds who old new (e ∷ es) given before after s none = (calm_before before s.1 (settles_calm holds who s.0 new es s.2 (first_of before s.1) after s.5 none)).0

appended_since : (holds : List Event → ℕ → Entry → Type 0) (who : ℕ) (old mid new : List Event) (e : Entry) → On old mid → IsAppended holds who mid e new → IsAppended holds who old e new
appended_since holds who old mid new e on a = record {
  before = a.before;
  since = on_on old mid a.before on a.since;
  position = a.position;
  after = a.after;
  met = a.met;
  rest = a.rest;
}

appended_until : (holds : List Event → ℕ → Entry → Type 0) (who : ℕ) (old mid new : List Event) (e : Entry) → On mid new → IsAppended holds who old e mid → IsAppended holds who old e new
appended_until holds who old mid new e on a = record {
  before = a.before;
  since = a.since;
  position = a.position;
  after = a.after;
  met = a.met;
  rest = on_on a.after mid new a.rest on;
}

-- where no cause was given, each was appended
landed_all : (holds : List Event → ℕ → Entry → Type 0) (who : ℕ) (old new : List Event) (es : List Entry) (given : List Given) (before after : Option Cause) → Settles holds who old es new given before after → after ≡ None → All (λ e. IsAppended holds who old e new) es
landed_all holds who old new [] given before after s none = All-nil (λ e. IsAppended holds who old e new)
landed_all holds who old new (e ∷ es) given before after s none =
    let rest = settles_on holds who s.0 new es s.2 (first_of before s.1) after s.5 in
    let calm = calm_before before s.1 (settles_calm holds who s.0 new es s.2 (first_of before s.1) after s.5 none) in
    let here : IsAppended holds who old e new = record {
      before = old;
      since = ([], sym (append-nil old));
      position = calm.1.0;
      after = s.0;
      met = subst (λ f. Meets holds who old e f s.0) calm.1.1 s.3;
      rest = rest;
    } in
    All-cons (λ x. IsAppended holds who old x new) e es here
    (All-weaker (λ x. IsAppended holds who s.0 x new) (λ x. IsAppended holds who old x new) (λ x a. appended_since holds who old s.0 new x (meets_on holds who old e s.1 s.0 s.3) a) es
    (landed_all holds who s.0 new es s.2 (first_of before s.1) after s.5 none))

-- What was outstanding

settled_calm : (holds : List Event → ℕ → Entry → Type 0) (who : ℕ) (old new : List Event) (was is : OutboxView) → Settled holds who old was new is → is.unsettled ≡ None → was.unsettled ≡ None
settled_calm holds who old new was is h none = settles_calm holds who old h.moment h.done h.given was.unsettled is.unsettled h.fates none

pub settled_on_from : (holds : List Event → ℕ → Entry → Type 0) (who : ℕ) (old new : List Event) (was is : OutboxView) → Settled holds who old was new is → On old new
settled_on_from holds who old new was is h = on_on old h.moment new (settles_on holds who old h.moment h.done h.given was.unsettled is.unsettled h.fates) h.rest

settled_entry : (holds : List Event → ℕ → Entry → Type 0) (who : ℕ) (old new : List Event) (was is : OutboxView) (e : Entry) → Settled holds who old was new is → is.unsettled ≡ None → Contains was.entries e → IsAppended holds who old e new ⊎ Contains is.entries e
settled_entry holds who old new was is e h none c =
    ⊎_elim
    (λ k. inl (appended_until holds who old h.moment new e h.rest (All-contains (λ x. IsAppended holds who old x h.moment) h.done e (landed_all holds who old h.moment h.done h.given was.unsettled is.unsettled h.fates none) k)))
    (λ k. inr k)
    (Contains-append_cases h.done is.entries e (subst (λ es. Contains es e) h.all c))

-- What was sent

with_calm : (o : OutboxView) (p : Option Entry) → (with_entry o p).unsettled ≡ o.unsettled
with_calm o None = refl
with_calm o (Some e) = refl

with_old : (o : OutboxView) (p : Option Entry) (e : Entry) → Contains o.entries e → Contains (with_entry o p).entries e
with_old o None e h = h
with_old o (Some x) e h = Contains-append_left o.entries (x ∷ []) e h

sent_calm : (holds : List Event → ℕ → Entry → Type 0) (who : ℕ) (old new : List Event) (was is : OutboxView) (Q : Option Entry → Type 0) (s : Sent holds who old was Q new is) → is.unsettled ≡ None → s.mid.unsettled ≡ None
sent_calm holds who old new was is Q s none = sym (with_calm s.mid s.packed) ∙ (sym (ap (λ (o : OutboxView). o.unsettled) s.is_with) ∙ none)

sent_old : (holds : List Event → ℕ → Entry → Type 0) (who : ℕ) (old new : List Event) (was is : OutboxView) (Q : Option Entry → Type 0) (e : Entry) (s : Sent holds who old was Q new is) → Contains s.mid.entries e → Contains is.entries e
sent_old holds who old new was is Q e s h = subst (λ (o : OutboxView). Contains o.entries e) (sym s.is_with) (with_old s.mid s.packed e h)

sent_new : (holds : List Event → ℕ → Entry → Type 0) (who : ℕ) (old new : List Event) (was is : OutboxView) (Q : Option Entry → Type 0) (e : Entry) (s : Sent holds who old was Q new is) → s.packed ≡ Some e → Contains is.entries e
sent_new holds who old new was is Q e s h = subst (λ (o : OutboxView). Contains o.entries e) (sym (s.is_with ∙ ap (with_entry s.mid) h)) (Contains-push s.mid.entries e)

none_in : (es : List Entry) (e : Entry) → es ≡ [] → Contains es e → ⊥
none_in [] e none h = omega (arith, h.1)
none_in (x ∷ xs) e none h = cc

queued_as : (origin : ℕ) (kept kept' : List Item) (item : Item) (p : Option Entry) → Queues origin kept item p kept' → ((e : Entry) × (p ≡ Some e) × (e ≡ packed origin (kept ++ item ∷ []))) ⊎ (kept' ≡ kept ++ item ∷ [])
queued_as origin kept kept' item None q = inr q.0
queued_as origin kept kept' item (Some e) q = inl (e, refl, q.1.entry)

flushed_as : (origin : ℕ) (kept kept' : List Item) (p : Option Entry) → Flushes origin kept p kept' → ((e : Entry) × (p ≡ Some e) × (e ≡ packed origin kept)) ⊎ (kept ≡ [])
flushed_as origin kept kept' None q = inr q.0
flushed_as origin kept kept' (Some e) q = inl (e, refl, q.1.entry)

pub no_push : (kept : List Item) (item : Item) → kept ++ item ∷ [] ≡ [] → ⊥
no_push [] item h = cc
no_push (x ∷ xs) item h = cc

-- an item went down, what waited was packed, and all that was outstanding was appended
pub item_landed : (holds : List Event → ℕ → Entry → Type 0) (who origin : ℕ) (old m1 m2 new : List Event) (was o1 o2 is : OutboxView) (kept kept1 kept2 : List Item) (item : Item) → On old m1 → On m1 m2
    → Sent holds who old was (λ p. Queues origin kept item p kept1) m1 o1 → Sent holds who m1 o1 (λ p. Flushes origin kept1 p kept2) m2 o2 → Answers holds who m2 o2 None new is → HasLanded holds who origin old item new
item_landed holds who origin old m1 m2 new was o1 o2 is kept kept1 kept2 item on1 on2 p f a = ⊎_elim first second (queued_as origin kept kept1 item p.packed p.out)
  where
    end : OutboxView
    end = record { entries = is.entries; given = is.given; unsettled = None }

    last : (e : Entry) → Contains o2.entries e → IsAppended holds who m2 e new
    last e c = ⊎_elim (λ k. k) (λ k. absurd (none_in is.entries e a.none k)) (settled_entry holds who m2 new o2 end e a.settled refl c)

    calm : o2.unsettled ≡ None
    calm = settled_calm holds who m2 new o2 end a.settled refl

    on3 : On m2 new
    on3 = settled_on_from holds who m2 new o2 end a.settled

    fits : (e : Entry) → e ≡ packed origin (kept ++ item ∷ []) → IsAppended holds who old e new → HasLanded holds who origin old item new
    fits e same h = record { items = kept ++ item ∷ []; among = Contains-push kept item; appended = subst (λ x. IsAppended holds who old x new) same h }

    first : (e : Entry) × (p.packed ≡ Some e) × (e ≡ packed origin (kept ++ item ∷ [])) → HasLanded holds who origin old item new
    first k =
        fits k.0 k.2
        (appended_since holds who old m1 new k.0 on1
        (⊎_elim
        (λ h. appended_until holds who m1 m2 new k.0 on3 h)
        (λ h. appended_since holds who m1 m2 new k.0 on2 (last k.0 (sent_old holds who m1 m2 o1 o2 _ k.0 f h)))
        (settled_entry holds who m1 m2 o1 f.mid k.0 f.settled (sent_calm holds who m1 m2 o1 o2 _ f calm) (sent_new holds who old m1 was o1 _ k.0 p k.1))))

    second : kept1 ≡ kept ++ item ∷ [] → HasLanded holds who origin old item new
    second same =
        ⊎_elim
        (λ (k : (e : Entry) × (f.packed ≡ Some e) × (e ≡ packed origin kept1)). fits k.0 (k.2 ∙ ap (packed origin) same) (appended_since holds who old m2 new k.0 (on_on old m1 m2 on1 on2) (last k.0 (sent_new holds who m1 m2 o1 o2 _ k.0 f k.1))))
        (λ none. absurd (no_push kept item (sym same ∙ none)))
        (flushed_as origin kept1 kept2 f.packed f.out)

-- Where something failed, its cause is an own event since the outbox had none

pub settles_keeps : (holds : List Event → ℕ → Entry → Type 0) (who : ℕ) (old new : List Event) (es : List Entry) (given : List Given) (before after : Option Cause) (x : Cause) → Settles holds who old es new given before after → before ≡ Some x → after ≡ Some x
settles_keeps holds who old new [] given before after x s is = s.2 ∙ is
settles_keeps holds who old new (e ∷ es) given before after x s is = settles_keeps holds who s.0 new es s.2 (first_of before s.1) after x s.5 (ap (λ o. first_of o s.1) is)

settles_blame : (holds : List Event → ℕ → Entry → Type 0) (who : ℕ) (old new : List Event) (es : List Entry) (given : List Given) (before after : Option Cause) (x : Cause) → Settles holds who old es new given before after → before ≡ None → after ≡ Some x → HasEventOf who old x new
settles_blame holds who old new [] given before after x s none is = let no : None ≡ Some x = sym none ∙ (sym s.2 ∙ is) in absurd (cc)
settles_blame holds who old new (e ∷ es) given before after x s none is = step (λ k. settles_blame holds who s.0 new es s.2 None after x k refl is) s.1 s.3 (subst (λ o. Settles holds who s.0 es new s.2 (first_of o s.1) after) none s.5)
  where
    step : (Settles holds who s.0 es new s.2 None after → HasEventOf who s.0 x new) → (fate : Fate) → Meets holds who old e fate s.0 → Settles holds who s.0 es new s.2 (first_of None fate) after → HasEventOf who old x new
    step again (Landed pos) met rest = event_of_since who old s.0 new x (meets_on holds who old e (Landed pos) s.0 met) (again rest)
    step again (Lost y) met rest =
        let same : Some y ≡ Some x = sym (settles_keeps holds who s.0 new es s.2 (Some y) after y rest refl) ∙ is in
        let one : y ≡ x = cc in
        event_of_until who old s.0 new x (settles_on holds who s.0 new es s.2 (Some y) after rest) (subst (λ c. HasEventOf who old c s.0) one met)

-- a cause that no settling has answered is an own event since old
abbrev pub Owned : ℕ → List Event → List Event → OutboxView → Type 0
Owned who old new o = (x : Cause) → o.unsettled ≡ Some x → HasEventOf who old x new

pub owned_none : (who : ℕ) (old new : List Event) (o : OutboxView) → o.unsettled ≡ None → Owned who old new o
owned_none who old new o none x is = let no : None ≡ Some x = sym none ∙ is in absurd (cc)

pub owned_settled : (holds : List Event → ℕ → Entry → Type 0) (who : ℕ) (a b c : List Event) (was is : OutboxView) → On a b → Owned who a b was → Settled holds who b was c is → Owned who a c is
owned_settled holds who a b c was is on own h x at = cases was.unsettled refl
  where
    cases : (o : Option Cause) → was.unsettled ≡ o → HasEventOf who a x c
    cases None none = event_of_until who a h.moment c x h.rest (event_of_since who a b h.moment x on (settles_blame holds who b h.moment h.done h.given was.unsettled is.unsettled x h.fates none at))
    cases (Some y) some =
        let same : Some y ≡ Some x = sym (settles_keeps holds who b h.moment h.done h.given was.unsettled is.unsettled y h.fates some) ∙ at in
        let one : y ≡ x = cc in
        event_of_until who a b c x (settled_on_from holds who b c was is h) (own x (some ∙ ap Some one))

pub owned_sent : (holds : List Event → ℕ → Entry → Type 0) (who : ℕ) (a b c : List Event) (was is : OutboxView) (Q : Option Entry → Type 0) → On a b → Owned who a b was → Sent holds who b was Q c is → Owned who a c is
owned_sent holds who a b c was is Q on own s x at =
    owned_settled holds who a b c was s.mid on own s.settled x (sym (with_calm s.mid s.packed) ∙ (sym (ap (λ (o : OutboxView). o.unsettled) s.is_with) ∙ at))

pub owned_answers : (holds : List Event → ℕ → Entry → Type 0) (who : ℕ) (a b c : List Event) (was is : OutboxView) (x : Cause) → On a b → Owned who a b was → Answers holds who b was (Some x) c is → HasEventOf who a x c
owned_answers holds who a b c was is x on own h = owned_settled holds who a b c was (record { entries = is.entries; given = is.given; unsettled = Some x }) on own h.settled x refl

-- a settling failed behind what was sent
pub blames_failing : (holds : List Event → ℕ → Entry → Type 0) (who : ℕ) (a b c d : List Event) (o1 o2 is : OutboxView) (Q : Option Entry → Type 0) (f : Fault) (faults faults' : ℕ) → On a b → On b c
    → Owned who a b o1 → Sent holds who b o1 Q c o2 → Failing holds who c o2 f d is → Blames who a faults f d faults'
blames_failing holds who a b c d o1 o2 is Q Memory faults faults' on1 on2 own sent h = tt
blames_failing holds who a b c d o1 o2 is Q (Because x) faults faults' on1 on2 own sent h =
    blames_event who a d faults faults' x (owned_answers holds who a c d o2 is x (on_on a b c on1 on2) (owned_sent holds who a b c o1 o2 Q on1 own sent) h)

-- Faults of one call after another

pub rose_since : (x y z : ℕ) → x ≤ y → y ≤ z → Rose y z → Rose x z
rose_since x y z h k r = by_test (nat_lt x z) refl
  where
    by_test : (b : Bool) → nat_lt x z ≡ b → Rose x z
    by_test true t = inl (grind (arith, nat_tests))
    by_test false t =
        let low : z ≤ x = grind (arith, nat_tests) in
        ⊎_elim (λ (a : y < z). absurd (omega (arith, a, h, low))) (λ (e : y ≡ 2 ^ 64 - 1). inr (omega (arith, e, h, k, low))) r

pub blames_since : (who : ℕ) (a b c : List Event) (x y z : ℕ) (f : Fault) → On a b → x ≤ y → y ≤ z → Blames who b y f c z → Blames who a x f c z
blames_since who a b c x y z Memory on le more h = tt
blames_since who a b c x y z (Because cause.Store) on le more h = rose_since x y z le more h
blames_since who a b c x y z (Because (cause.NoQuorum id unreached)) on le more h = event_of_since who a b c (cause.NoQuorum id unreached) on h
blames_since who a b c x y z (Because (cause.Full id)) on le more h = event_of_since who a b c (cause.Full id) on h
blames_since who a b c x y z (Because cause.Meta) on le more h = event_of_since who a b c cause.Meta on h

pub blames_told : (who : ℕ) (a b c : List Event) (x z : ℕ) (f : log.Fault) → On a b → HasCause who b f c → Blames who a x (told f) c z
blames_told who a b c x z (log_fault.NoQuorum id unreached) on h = event_of_since who a b c (cause.NoQuorum id unreached) on h
blames_told who a b c x z (log_fault.Full id) on h = event_of_since who a b c (cause.Full id) on h
blames_told who a b c x z log_fault.Meta on h = event_of_since who a b c cause.Meta on h
blames_told who a b c x z log_fault.Memory on h = tt

-- a request for a trim is no session's
pub plain_trim : (position : ℕ) → under 2 (trim_item position) ≡ None
plain_trim position = refl
