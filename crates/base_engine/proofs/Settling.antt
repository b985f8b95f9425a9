-- Outstanding entries meet their fates one after another.
use Rattle.std.proofs.Common.{◌≡◌, ℕ, suc, ◌<◌, ◌≤◌, List, [], ◌∷◌, ◌++◌, length, drop, Option, Some, None, refl, sym, ap, ◌∙◌, subst, arith}
use Rattle.std.specs.Prelude.{slice_index_or, remove, All}
use Rattle.std.proofs.lemmas.List.{append_assoc, append-nil}
use Rattle.delos_types.specs.declared.entry.Entry.{Entry}
use Rattle.delos_types.specs.declared.cause.Cause.{Cause}
use Rattle.legal_journal.specs.Law.{Law}
use Rattle.legal_journal.specs.declared.events.Event.{Event}
use Rattle.virtual_log.specs.Turning.{Later}
use Rattle.base_engine.specs.declared.outbox.Given.{Given}
use Rattle.base_engine.specs.Settling.{OutboxView, Fate, Landed, Meets, Lost, gives, first_of, Carried, Settles, Settled, Lands, LandsOldest}

-- one more at the end
pub settles_push : (holds : List Event → ℕ → Entry → Type 0) (who : ℕ) (old mid new : List Event) (done : List Entry) (given : List Given) (before now : Option Cause) (e : Entry) (fate : Fate)
    → Settles holds who old done mid given before now → Meets holds who mid e fate new → Settles holds who old (done ++ e ∷ []) new (given ++ gives e fate) before (first_of now fate)
settles_push holds who old mid new [] given before now e fate s m =
    (new, fate, [], subst (λ l. Meets holds who l e fate new) s.0 m, ap (λ l. l ++ gives e fate) s.1 ∙ sym (append-nil (gives e fate)), (refl, refl, ap (λ o. first_of o fate) s.2))
settles_push holds who old mid new (x ∷ xs) given before now e fate s m =
    (s.0, s.1, s.2 ++ gives e fate, s.3, ap (λ l. l ++ gives e fate) s.4 ∙ append_assoc (gives x s.1) s.2 (gives e fate), settles_push holds who s.0 mid new xs s.2 (first_of before s.1) now e fate s.5 m)

-- while the loop runs
pub record SoFar (holds : List Event → ℕ → Entry → Type 0) (who : ℕ) (old : List Event) (was : OutboxView) (new : List Event) (is : OutboxView) : Type 0 where
  pub done : List Entry
  pub given : List Given
  pub all : was.entries ≡ done ++ is.entries
  pub gained : is.given ≡ was.given ++ given
  pub fates : Settles holds who old done new given was.unsettled is.unsettled

pub none_yet : (holds : List Event → ℕ → Entry → Type 0) (who : ℕ) (old : List Event) (was : OutboxView) → SoFar holds who old was old was
none_yet holds who old was = record { done = []; given = []; all = refl; gained = sym (append-nil was.given); fates = (refl, refl, refl) }

pub one_more : (holds : List Event → ℕ → Entry → Type 0) (who : ℕ) (old mid new : List Event) (was now is : OutboxView) → SoFar holds who old was mid now → Carried holds who mid now new is → SoFar holds who old was new is
one_more holds who old mid new was now is h k = record {
  done = h.done ++ k.entry ∷ [];
  given = h.given ++ gives k.entry k.fate;
  all = h.all ∙ ap (λ x. h.done ++ x) k.oldest ∙ sym (append_assoc h.done (k.entry ∷ []) is.entries);
  gained = k.gained ∙ ap (λ x. x ++ gives k.entry k.fate) h.gained ∙ append_assoc was.given h.given (gives k.entry k.fate);
  fates = subst (λ o. Settles holds who old (h.done ++ k.entry ∷ []) new (h.given ++ gives k.entry k.fate) was.unsettled o) (sym k.unsettled)
      (settles_push holds who old mid new h.done h.given was.unsettled now.unsettled k.entry k.fate h.fates k.met);
}

-- Entries that were appended stay below what is known further on.
lands_known : (holds : List Event → ℕ → Entry → Type 0) (who : ℕ) (old new : List Event) (es : List Entry) (known known' : ℕ) → known ≤ known' → Lands holds who old es new known → Lands holds who old es new known'
lands_known holds who old new [] known known' more h = h
lands_known holds who old new (e ∷ es) known known' more h = (h.0, h.1, h.2, omega (arith, h.3, more), lands_known holds who h.0 new es known known' more h.4)

lands_push : (holds : List Event → ℕ → Entry → Type 0) (who : ℕ) (old mid new : List Event) (done : List Entry) (known : ℕ) (e : Entry) (pos : ℕ) → Lands holds who old done mid known → Meets holds who mid e (Landed pos) new → pos < known
    → Lands holds who old (done ++ e ∷ []) new known
lands_push holds who old mid new [] known e pos s m within = (new, pos, subst (λ l. Meets holds who l e (Landed pos) new) s m, within, refl)
lands_push holds who old mid new (x ∷ xs) known e pos s m within = (s.0, s.1, s.2, s.3, lands_push holds who s.0 mid new xs known e pos s.4 m within)

-- while the loop runs, where none failed
pub record LandedSoFar (holds : List Event → ℕ → Entry → Type 0) (who : ℕ) (old : List Event) (was : List Entry) (new : List Event) (is : List Entry) (known : ℕ) : Type 0 where
  pub done : List Entry
  pub all : was ≡ done ++ is
  pub lands : Lands holds who old done new known

pub landed_none : (holds : List Event → ℕ → Entry → Type 0) (who : ℕ) (old : List Event) (was : List Entry) (known : ℕ) → LandedSoFar holds who old was old was known
landed_none holds who old was known = record { done = []; all = refl; lands = refl }

pub landed_more : (holds : List Event → ℕ → Entry → Type 0) (who : ℕ) (old mid new : List Event) (was now is : List Entry) (known known' : ℕ) → LandedSoFar holds who old was mid now known → known ≤ known' → LandsOldest holds who mid now new is known'
    → LandedSoFar holds who old was new is known'
landed_more holds who old mid new was now is known known' h more k = record {
  done = h.done ++ k.entry ∷ [];
  all = h.all ∙ ap (λ x. h.done ++ x) k.oldest ∙ sym (append_assoc h.done (k.entry ∷ []) is);
  lands = lands_push holds who old mid new h.done known' k.entry k.position (lands_known holds who old mid h.done known known' more h.lands) k.met k.within;
}

pub landed_all : (holds : List Event → ℕ → Entry → Type 0) (who : ℕ) (old new : List Event) (was is : List Entry) (known : ℕ) → LandedSoFar holds who old was new is known → is ≡ [] → Lands holds who old was new known
landed_all holds who old new was is known h none = subst (λ es. Lands holds who old es new known) (sym (h.all ∙ ap (λ x. h.done ++ x) none ∙ append-nil h.done)) h.lands

-- where one failed there is a cause
pub never_calm : (o : Option Cause) (x : Cause) → first_of o (Lost x) ≡ None → ⊥
never_calm None x h = absurd (cc)
never_calm (Some y) x h = absurd (cc)

pub settled_then : (holds : List Event → ℕ → Entry → Type 0) (who : ℕ) (old mid new : List Event) (was now is : OutboxView) → SoFar holds who old was mid now → is ≡ now → ((more : List Event) × (new ≡ mid ++ more)) → Settled holds who old was new is
settled_then holds who old mid new was now is h same on =
    subst (λ v. Settled holds who old was new v) (sym same) record {
      done = h.done;
      given = h.given;
      all = h.all;
      gained = h.gained;
      moment = mid;
      fates = h.fates;
      rest = on;
    }

pub settled_on : (holds : List Event → ℕ → Entry → Type 0) (who : ℕ) (old mid new : List Event) (was is : OutboxView) → Settled holds who old was mid is → ((more : List Event) × (new ≡ mid ++ more)) → Settled holds who old was new is
settled_on holds who old mid new was is h on = record {
  done = h.done;
  given = h.given;
  all = h.all;
  gained = h.gained;
  moment = h.moment;
  fates = h.fates;
  rest = (h.rest.0 ++ on.0, on.1 ∙ ap (λ l. l ++ on.0) h.rest.1 ∙ append_assoc h.moment h.rest.0 on.0);
}

pub no_more : (es : List Event) → (more : List Event) × (es ≡ es ++ more)
no_more es = ([], sym (append-nil es))

pub more_of : (law : Law) (old new : List Event) → Later law old new → (more : List Event) × (new ≡ old ++ more)
more_of law old new l = (l.more, l.seen)

-- the head and the rest
pub head_rest : (es rest : List Entry) (e : Entry) → 0 < length es → e ≡ slice_index_or es 0 e → rest ≡ remove es 0 → es ≡ e ∷ rest
head_rest [] rest e h k r = absurd (omega (arith, h))
head_rest (x ∷ xs) rest e h k r = ap (λ y. y ∷ xs) (sym k) ∙ ap (λ y. e ∷ y) (sym r)

pub head_drop : (es rest : List Entry) (e : Entry) → 0 < length es → e ≡ slice_index_or es 0 e → rest ≡ drop 1 es → es ≡ e ∷ rest
head_drop [] rest e h k r = absurd (omega (arith, h))
head_drop (x ∷ xs) rest e h k r = ap (λ y. y ∷ xs) (sym k) ∙ ap (λ y. e ∷ y) (sym r)

pub all_tail : (P : Entry → Type 0) (es rest : List Entry) (e : Entry) → es ≡ e ∷ rest → All P es → All P rest
all_tail P es rest e is h k d l = (subst (λ xs. All P xs) is h) (suc k) d (omega (arith, l))

pub all_tail_by : (P Q : Entry → Type 0) (es rest : List Entry) (e : Entry) → es ≡ e ∷ rest → ((x : Entry) → P x → Q x) → All P es → All Q rest
all_tail_by P Q es rest e is f h k d l = f (slice_index_or rest k d) (all_tail P es rest e is h k d l)

pub first_landed : (o : Option Cause) (pos : ℕ) → o ≡ first_of o (Landed pos)
first_landed None pos = refl
first_landed (Some cause) pos = refl

pub settled_one : (holds : List Event → ℕ → Entry → Type 0) (who : ℕ) (old new : List Event) (was is : OutboxView) → Carried holds who old was new is → Settled holds who old was new is
settled_one holds who old new was is h = settled_then holds who old new new was is is (one_more holds who old old new was was is (none_yet holds who old was) h) refl (no_more new)

pub settled_none : (holds : List Event → ℕ → Entry → Type 0) (law : Law) (who : ℕ) (old new : List Event) (was is : OutboxView) → is ≡ was → Later law old new → Settled holds who old was new is
settled_none holds law who old new was is same l = settled_then holds who old old new was was is (none_yet holds who old was) same (more_of law old new l)

pub settled_given : (holds : List Event → ℕ → Entry → Type 0) (who : ℕ) (old new : List Event) (was is : OutboxView) (given : List Given) → Settled holds who old was new is → given ≡ is.given → Settled holds who old was new (record { entries = is.entries; given = given; unsettled = is.unsettled })
settled_given holds who old new was is given h same = record {
  done = h.done;
  given = h.given;
  all = h.all;
  gained = same ∙ h.gained;
  moment = h.moment;
  fates = h.fates;
  rest = h.rest;
}

abbrev pub outbox_of : List Entry → List Given → Option Cause → OutboxView
outbox_of es given u = record { entries = es; given = given; unsettled = u }

pub gave_is : (es : List Entry) (given given' : List Given) (u : Option Cause) (sessions : List ℕ) (session : ℕ) (cause : Cause) → es ≡ [] → given' ≡ given ++ record { sessions = sessions; cause = cause } ∷ [] → sessions ≡ session ∷ []
    → outbox_of es given' u ≡ outbox_of [] (given ++ record { sessions = session ∷ []; cause = cause } ∷ []) u
gave_is es given given' u sessions session cause h k m =
    ap (λ (x : List Entry). outbox_of x given' u) h ∙ ap (λ (x : List Given). outbox_of [] x u) (k ∙ ap (λ (s : List ℕ). given ++ record { sessions = s; cause = cause } ∷ []) m)

-- nothing was outstanding
pub settled_further : (holds : List Event → ℕ → Entry → Type 0) (who : ℕ) (a b c : List Event) (was mid is : OutboxView) → Settled holds who a was b mid → mid.entries ≡ [] → Settled holds who b mid c is → Settled holds who a was c is
settled_further holds who a b c was mid is h none k = nothing k.done k.given k.all k.gained k.fates
  where
    nothing : (done : List Entry) (given : List Given) → mid.entries ≡ done ++ is.entries → is.given ≡ mid.given ++ given → Settles holds who b done k.moment given mid.unsettled is.unsettled → Settled holds who a was c is
    nothing [] given all gained fates = record {
      done = h.done;
      given = h.given;
      all = h.all ∙ ap (λ x. h.done ++ x) all;
      gained = gained ∙ (ap (λ x. mid.given ++ x) fates.1 ∙ (append-nil mid.given ∙ h.gained));
      moment = h.moment;
      fates = subst (λ o. Settles holds who a h.done h.moment h.given was.unsettled o) (sym fates.2) h.fates;
      rest = (h.rest.0 ++ k.rest.0, k.rest.1 ∙ ap (λ l. l ++ k.rest.0) (fates.0 ∙ h.rest.1) ∙ append_assoc h.moment h.rest.0 k.rest.0);
    }
    nothing (e ∷ es) given all gained fates = let no : [] ≡ e ∷ (es ++ is.entries) = sym none ∙ all in absurd (cc)
