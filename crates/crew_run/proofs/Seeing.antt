-- Where no fault was counted, a run has played the log to its end.
use Rattle.std.proofs.Common.{◌≡◌, refl, sym, ap, ◌∙◌, subst, inl, inr, ℕ, zero, suc, ◌+◌, ◌-◌, ◌<◌, ◌≤◌, ◌==◌, cond, true, List, [], ◌∷◌, ◌++◌, Option, Some, None, length, count_by, slice_get, arith, eq-eqb}
use Rattle.std.specs.Prelude.{All, Contains, sum_by, get_or}
use Rattle.std.proofs.lemmas.List.{length-map}
use Rattle.std.proofs.lemmas.List.Sums.{sum_by-cons}
use Rattle.std.proofs.lemmas.List.Elements.{All-nil, All-cons, All-contains, filter_map-append}
use Rattle.std.proofs.lemmas.Option.{slice_get_cases}
use Rattle.delos_types.specs.declared.entry.Entry.{Entry}
use Rattle.delos_types.specs.declared.cause.Cause.{Cause}
use Rattle.delos_types.specs.declared.cause.Cause.TheVariants as cause
use Rattle.delos_types.specs.declared.chain.Chain.{Chain}
use Rattle.loglet_api.specs.View.{LogletView}
use Rattle.loglet_api.specs.declared.call.Answer.TheVariants as answers
use Rattle.legal_journal.specs.Law.{Law}
use Rattle.legal_journal.specs.declared.events.Event.{Event}
use Rattle.legal_journal.specs.declared.events.FabricCall.{FabricCall}
use Rattle.legal_journal.specs.declared.events.FabricCall.TheVariants.{Begin, Carry, Forget, ReadChain, WriteChain, Stop, Mend, Stray, StopMeta, MendMeta}
use Rattle.legal_journal.specs.declared.events.FabricAnswer.{FabricAnswer}
use Rattle.legal_journal.specs.declared.events.FabricAnswer.TheVariants.{Begun, Full, Done, Going, NoTicket, Gone, At, Down, Written, Conflict, MetaFault, Set, Memory}
use Rattle.legal_journal.specs.Moves.{move, move_of}
use Rattle.legal_journal.specs.Journal.{State, start, state_of, after, after_all, tail_of, IsLegal}
use Rattle.legal_journal.proofs.Legal.{IsLegalFrom-split, after_all-append, legal_front}
use Rattle.fabric_core.specs.Log.{virtual_tail}
use Rattle.virtual_log.specs.Holding.{Holds}
use Rattle.base_engine.specs.Reading.{IsFront}
use Rattle.journal_laws.specs.Faults.{fault_of, faults_in, is_full_of, is_meta}
use Rattle.fitting_run.specs.Yard.{Shown}
use Rattle.fitting_run.specs.Calm.{IsCalm}
use Rattle.fitting_run.specs.Faults.{faults_of}
use Rattle.run_laws.proofs.Members.{Among, contains-among}
use Rattle.node_course.specs.FaultLines.{AreOutside}
use Rattle.node_course.proofs.Lines.{count-cons}
use Rattle.run_ends.specs.Closing.{WorkerEnd, IsGivenBack}
use Rattle.run_ends.proofs.Counting.{AreCounted}
use Rattle.run_ends.proofs.Reading.{reads_keep}
use Rattle.run_closing.specs.Finishing.{SeesAll}
use Rattle.run_closing.proofs.Opening.{same_tail}

-- The fault of an event, and those of the events after it

-- how often the fault of an event counts
abbrev weight : Option Cause → ℕ
weight None = 0
weight (Some c) = 1

count_more : (e : Event) (es : List Event) → count_by (λ k. true) (faults_in (e ∷ es)) ≡ weight (fault_of e.answer e.call) + count_by (λ k. true) (faults_in es)
count_more e es = by (fault_of e.answer e.call) refl
  where
    by : (o : Option Cause) → fault_of e.answer e.call ≡ o → count_by (λ k. true) (faults_in (e ∷ es)) ≡ weight o + count_by (λ k. true) (faults_in es)
    by None h = rw h (let k : count_by (λ k. true) (faults_in es) ≡ 0 + count_by (λ k. true) (faults_in es) = omega arith in k)
    by (Some c) h = rw h (count-cons (λ k. true) c (faults_in es))

all_more : (Q : Cause → Type 0) (e : Event) (es : List Event) → ((c : Cause) → fault_of e.answer e.call ≡ Some c → Q c) → All Q (faults_in es) → All Q (faults_in (e ∷ es))
all_more Q e es first rest = by (fault_of e.answer e.call) refl
  where
    by : (o : Option Cause) → fault_of e.answer e.call ≡ o → All Q (faults_in (e ∷ es))
    by None h = rw h rest
    by (Some c) h = rw h (All-cons Q c (faults_in es) (first c h) rest)

-- Where no fault is told, no write is in doubt

asked_step : (w : State) (who : ℕ) (call : FabricCall) (answer : FabricAnswer) → w.register.asked ≡ None → fault_of answer call ≡ None → (after w who (move_of call answer)).register.asked ≡ None
asked_step w who ReadChain (At v c) none calm = refl
asked_step w who (WriteChain x c) (Written v) none calm = refl
asked_step w who (WriteChain x c) (Conflict v d) none calm = refl
asked_step w who (WriteChain x c) MetaFault none calm = absurd (cc)
asked_step w who (Begin i op) (Begun t) none calm = none
asked_step w who (Begin i op) Full none calm = none
asked_step w who (Carry i t word) Going none calm = none
asked_step w who (Carry i t word) (Done a) none calm = none
asked_step w who (Carry i t word) Memory none calm = none
asked_step w who (Carry i t word) NoTicket none calm = none
asked_step w who (Forget i t) Gone none calm = none
asked_step w who (Forget i t) NoTicket none calm = none
asked_step w who (Stop i server n) (Set true) none calm = none
asked_step w who (Mend i server word) (Set b) none calm = none
asked_step w who (Stray i word) (Set true) none calm = none
asked_step w who (StopMeta n) (Set true) none calm = none
asked_step w who (MendMeta word) (Set b) none calm = none
asked_step w who call answer none calm = none

asked_none : (w : State) (es : List Event) → w.register.asked ≡ None → count_by (λ k. true) (faults_in es) ≡ 0 → (after_all w es).register.asked ≡ None
asked_none w [] none calm = none
asked_none w (e ∷ es) none calm =
    let more = count_more e es in
    asked_none (after w e.who (move e)) es
    (asked_step w e.who e.call e.answer none (no_weight (fault_of e.answer e.call) (omega (arith, more, calm))))
    (omega (arith, more, calm))
  where
    no_weight : (o : Option Cause) → weight o ≡ 0 → o ≡ None
    no_weight None h = refl
    no_weight (Some c) h = absurd (omega (arith, h))

-- Where nothing was counted, nothing is told

cell_faults : (cells : List LogletView) (i : ℕ) (v : LogletView) → slice_get cells i ≡ Some v → v.faults ≤ sum_by (λ v. v.faults) cells
cell_faults cells i v at = subst (λ o. faults_of o ≤ sum_by (λ v. v.faults) cells) at (below cells i)
  where
    below : (cells : List LogletView) (i : ℕ) → faults_of (slice_get cells i) ≤ sum_by (λ v. v.faults) cells
    below [] i = omega arith
    below (v ∷ cells) zero = omega (arith, sum_by-cons (λ (v : LogletView). v.faults) v cells)
    below (v ∷ cells) (suc i) = omega (arith, sum_by-cons (λ (v : LogletView). v.faults) v cells, below cells i)

disk_below : (disks : List ℕ) (i : ℕ) → get_or disks i 0 ≤ sum_by (λ n. n) disks
disk_below [] i = omega arith
disk_below (n ∷ disks) zero = omega (arith, sum_by-cons (λ (n : ℕ). n) n disks)
disk_below (n ∷ disks) (suc i) = omega (arith, sum_by-cons (λ (n : ℕ). n) n disks, disk_below disks i)

not_store : (a : FabricAnswer) (c : FabricCall) → fault_of a c ≡ Some cause.Store → ⊥
not_store (Done (answers.NoQuorum v)) (Carry i t word) h = cc
not_store Full (Begin i op) h = cc
not_store MetaFault c h = cc
not_store Down c h = cc
not_store a c h = cc

no_store : (events : List Event) → All (λ c. c ≡ cause.Store → ⊥) (faults_in events)
no_store [] = All-nil (λ c. c ≡ cause.Store → ⊥)
no_store (e ∷ es) = all_more (λ c. c ≡ cause.Store → ⊥) e es (λ c tells is. not_store e.answer e.call (tells ∙ ap (λ k. Some k) is)) (no_store es)

first_none : (xs ys : List Cause) → xs ++ ys ≡ [] → xs ≡ []
first_none [] ys e = refl
first_none (x ∷ xs) ys e = absurd (cc)

module _ (law : Law) (told : AreCounted law) where
  module _ (journal : List Event) (workers : List WorkerEnd) (chain : Chain) (yard : Shown) (back : IsGivenBack law journal workers chain yard) (calm : IsCalm yard) where
    same_length : length yard.cells ≡ length law.shelf
    same_length = sym (length-map yard.cells (λ v. v.servers)) ∙ ap length back.shelf_is

    cell_there : (i : ℕ) → i < length law.shelf → (v : LogletView) × (slice_get yard.cells i ≡ Some v)
    cell_there i low = elim ((slice_get_cases yard.cells i).1) [
      | inl some ↦ (some.0, some.2)
      | inr none ↦ absurd (let high = none.0 in omega (arith, low, high, same_length))
    ]

    none_first : (c : Cause) (cs : List Cause) → faults_in journal ≡ c ∷ cs → Contains (faults_in journal) c → ⊥
    none_first (cause.NoQuorum i unreached) cs is has =
        let v = cell_there i (told.lack_there i unreached journal back.legal has) in
        let one = (told.lack i unreached journal v.0 (back.runs i v.0 v.1) has).2 in
        let low = cell_faults yard.cells i v.0 v.1 in
        omega (arith, one, low, calm)
    none_first (cause.Full i) cs is has =
        let v = cell_there i (told.full_there i journal back.legal has) in
        let few = told.refusals i journal v.0 (back.runs i v.0 v.1) in
        let low = cell_faults yard.cells i v.0 v.1 in
        let some = ap (count_by (is_full_of i)) is ∙ count-cons (is_full_of i) (cause.Full i) cs in
        let one : cond (i == i) 1 0 ≡ 1 = ap {B = ℕ} (λ b. cond b 1 0) (eq-eqb i i refl) in
        omega (arith, few, low, some, one, calm)
    none_first cause.Meta cs is has =
        let few = told.register journal yard.register back.legal back.register_runs in
        let some = ap (count_by is_meta) is ∙ count-cons is_meta cause.Meta cs in
        omega (arith, few, some, calm)
    none_first cause.Store cs is has = All-contains (λ c. c ≡ cause.Store → ⊥) (faults_in journal) cause.Store (no_store journal) has refl

    pub none_told : faults_in journal ≡ []
    none_told = by (faults_in journal) refl
      where
        by : (l : List Cause) → faults_in journal ≡ l → faults_in journal ≡ []
        by [] is = is
        by (c ∷ cs) is = absurd (none_first c cs is (contains-among (faults_in journal) c (subst (λ l. Among l c) (sym is) (inl refl))))

    disk_calm : (j : ℕ) (w : WorkerEnd) → slice_get workers j ≡ Some w → w.seat.node.replica.faults ≡ 0
    disk_calm j w at = let few = back.disks j w at in let low = disk_below yard.disks (j + 1 - 1) in omega (arith, few, low, calm)

  pub seen_all : ((seen : List Event) (log : List Entry) → IsLegal law seen → IsFront Holds seen log → length log ≤ tail_of (state_of seen)) → (journal more : List Event) (workers : List WorkerEnd) (log : List Entry) (chain : Chain) (yard : Shown) → SeesAll journal (λ (w : WorkerEnd). w.seat) workers (length log) → IsFront Holds journal log
      → AreOutside more → IsGivenBack law (journal ++ more) workers chain yard → IsCalm yard → length log ≡ virtual_tail chain yard.cells
  seen_all within journal more workers log chain yard sees front reads back calm =
      let legal = legal_front law journal more back.legal in
      let parts = IsLegalFrom-split law start journal more back.legal.steps in
      let none = first_none (faults_in journal) (faults_in more) (sym (filter_map-append (λ (e : Event). fault_of e.answer e.call) journal more) ∙ none_told (journal ++ more) workers chain yard back calm) in
      let top = sees (record { told = none; disks = disk_calm (journal ++ more) workers chain yard back calm }) in
      let settled = asked_none start journal refl (ap (count_by (λ k. true)) none) in
      let same = same_tail (state_of journal) (after_all (state_of journal) more) (reads_keep law (state_of journal) more settled reads parts.1) in
      let tail : tail_of (state_of (journal ++ more)) ≡ tail_of (state_of journal) = ap tail_of (after_all-append start journal more) ∙ same in
      let below = within journal log legal front in
      let end : virtual_tail chain yard.cells ≡ tail_of (state_of (journal ++ more)) = ap (λ c. virtual_tail c yard.cells) back.chain_is ∙ back.tail in
      omega (arith, top, below, tail, end)
