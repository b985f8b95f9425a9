-- A loglet that a fault names is in the shelf.
use Rattle.std.proofs.Common.{◌≡◌, refl, ap, ◌∙◌, subst, ℕ, ◌<◌, List, [], ◌∷◌, length, Some}
use Rattle.std.specs.Prelude.{All, Contains}
use Rattle.std.proofs.lemmas.List.Elements.{All-contains}
use Rattle.delos_types.specs.declared.cause.Cause.{Cause}
use Rattle.delos_types.specs.declared.cause.Cause.TheVariants as cause
use Rattle.legal_journal.specs.Law.{Law}
use Rattle.legal_journal.specs.declared.events.Event.{Event}
use Rattle.legal_journal.specs.Moves.{move}
use Rattle.legal_journal.specs.Journal.{State, Exists, IsLegalFrom, IsLegal, start, after}
use Rattle.journal_laws.specs.Faults.{fault_of, faults_in}
use Rattle.journal_laws.proofs.Telling.{all-more, all-none, lack_at, full_at}

record IsThere (shelf : List ℕ) (c : Cause) : Type 0 where
  pub lack : (i unreached : ℕ) → c ≡ cause.NoQuorum i unreached → i < length shelf
  pub full : (i : ℕ) → c ≡ cause.Full i → i < length shelf

there : (shelf : List ℕ) (e : Event) (c : Cause) → Exists shelf e.call → fault_of e.answer e.call ≡ Some c → IsThere shelf c
there shelf e c exists tells = record {
  lack = λ i u is. subst (Exists shelf) (lack_at i u e.answer e.call (tells ∙ ap (λ x. Some x) is)).called exists;
  full = λ i is. subst (Exists shelf) (full_at i e.answer e.call (tells ∙ ap (λ x. Some x) is)).called exists;
}

all_there : (law : Law) (w : State) (events : List Event) → IsLegalFrom w law events → All (IsThere law.shelf) (faults_in events)
all_there law w [] h = all-none (IsThere law.shelf)
all_there law w (e ∷ es) h = all-more (IsThere law.shelf) e es (λ c tells. there law.shelf e c h.0.there tells) (all_there law (after w e.who (move e)) es h.1)

pub lack_there : (law : Law) (i unreached : ℕ) (events : List Event) → IsLegal law events → Contains (faults_in events) (cause.NoQuorum i unreached) → i < length law.shelf
lack_there law i u events legal has = (All-contains (IsThere law.shelf) (faults_in events) (cause.NoQuorum i u) (all_there law start events legal.steps) has).lack i u refl

pub full_there : (law : Law) (i : ℕ) (events : List Event) → IsLegal law events → Contains (faults_in events) (cause.Full i) → i < length law.shelf
full_there law i events legal has = (All-contains (IsThere law.shelf) (faults_in events) (cause.Full i) (all_there law start events legal.steps) has).full i refl
