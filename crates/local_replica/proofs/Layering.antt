-- What the stack says of its engines, as a replica says it.
use Rattle.std.proofs.Common.{◌≡◌, ℕ, List, length, subst, sym, Option, Some, None, Result, Ok, Err}
use Rattle.std.specs.Prelude.{IfOk, OnOk}
use Rattle.delos_types.specs.declared.entry.Entry.{Entry}
use Rattle.delos_types.specs.declared.item.Item.{Item}
use Rattle.delos_types.specs.Spaces.{SpaceMap}
use Rattle.log_laws.specs.declared.rising.Acted.{Acted}
use Rattle.log_laws.specs.State.{IsStateOf, Grows}
use Rattle.log_laws.specs.Rises.{Proposes}
use Rattle.engine_steps.specs.Steps.{BatchFlush}
use Rattle.replica_api.specs.Replica.{Queues, Flushes}

pub queues_by : {E : Type 0} (o : ℕ) (k k' : List Item) (item : Item) (r : Result (Option Entry) E) → IfOk r (λ p. Proposes o k item p k') → IfOk r (λ p. Queues o k item p k')
queues_by o k k' item (Ok None) h = h
queues_by o k k' item (Ok (Some e)) h = (h.0, record { entry = h.1.entry; spelled = h.1.spellable }, h.1.none_left)
queues_by o k k' item (Err x) h = tt

pub flushes_by : {E : Type 0} (o : ℕ) (k k' : List Item) (r : Result (Option Entry) E) → IfOk r (λ p. BatchFlush o k p k') → IfOk r (λ p. Flushes o k p k')
flushes_by o k k' (Ok None) h = h
flushes_by o k k' (Ok (Some e)) h = (h.0, record { entry = h.1.entry; spelled = h.1.spellable }, h.1.none_left)
flushes_by o k k' (Err x) h = tt

-- the same of other names of the spaces before and behind
pub grows_so : {A E : Type 0} (r : Result A E) (items : A → List Acted) (pos : ℕ) (e : Entry) (m0 m0' m m' : SpaceMap) → m0 ≡ m0' → m' ≡ m → IfOk r (λ acted. (log : List Entry) → length log ≡ pos → IsStateOf log m0 → Grows log e (items acted) m)
    → IfOk r (λ acted. (log : List Entry) → length log ≡ pos → IsStateOf log m0' → Grows log e (items acted) m')
grows_so r items pos e m0 m0' m m' before behind grows =
    subst (λ (n : SpaceMap). IfOk r (λ acted. (log : List Entry) → length log ≡ pos → IsStateOf log n → Grows log e (items acted) m')) before
    (subst (λ (n : SpaceMap). IfOk r (λ acted. (log : List Entry) → length log ≡ pos → IsStateOf log m0 → Grows log e (items acted) n)) (sym behind) grows)

pub known_so : {A E : Type 0} (r : Result A E) (P : SpaceMap → Type 0) (m m' : SpaceMap) → m' ≡ m → OnOk r (P m) → OnOk r (P m')
known_so r P m m' behind h = subst (λ (n : SpaceMap). OnOk r (P n)) (sym behind) h
