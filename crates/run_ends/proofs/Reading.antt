-- A run whose nodes have closed stays closed by events of no node.
use Rattle.std.proofs.Common.{◌≡◌, refl, sym, ap, ◌∙◌, subst, ◌⊎◌, inl, inr, ⊎_elim, ℕ, zero, suc, ◌+◌, ◌-◌, ◌≤◌, Contains, true, false, List, [], ◌∷◌, ◌++◌, Option, Some, None, length, arith}
use Rattle.std.proofs.lemmas.Option.{slice_get_within}
use Rattle.delos_types.specs.declared.entry.Entry.{Entry}
use Rattle.legal_journal.specs.Law.{Law}
use Rattle.legal_journal.specs.declared.events.Event.{Event}
use Rattle.legal_journal.specs.declared.events.FabricCall.{FabricCall}
use Rattle.legal_journal.specs.declared.events.FabricCall.TheVariants.{ReadChain, Stop, Mend, Stray, StopMeta, MendMeta}
use Rattle.legal_journal.specs.declared.events.FabricAnswer.{FabricAnswer}
use Rattle.legal_journal.specs.declared.events.FabricAnswer.TheVariants.{At, Down, Set}
use Rattle.legal_journal.specs.FaultCalls.{is_fault}
use Rattle.legal_journal.specs.Moves.{move, move_of}
use Rattle.legal_journal.specs.Sealing.{begins_seal}
use Rattle.std.proofs.lemmas.Bool.{both_ways}
use Rattle.legal_journal.specs.Journal.{State, start, state_of, after, after_all, IsAllowed, IsLegalFrom, IsLegal}
use Rattle.legal_journal.proofs.Legal.{IsLegalFrom-split, IsLegalFrom-join}
use Rattle.base_engine.specs.Holding.{held_stays}
use Rattle.engine_api.specs.declared.content.Content.{Content}
use Rattle.engine_api.specs.declared.content.Content.TheVariants as content
use Rattle.replica_api.specs.Replica.{Meaning}
use Rattle.script_text.specs.declared.asks.NamedLine.{NamedLine}
use Rattle.script_text.specs.declared.faults.FaultLine.{FaultLine}
use Rattle.node_lines.specs.declared.lines.Looked.{Looked}
use Rattle.run_laws.proofs.Members.{Among, contained-among, contains-among}
use Rattle.node_course.specs.Moments.{NodeCourse, and_then}
use Rattle.node_course.specs.Course.{IsCourse}
use Rattle.node_course.specs.Joined.{faults_to}
use Rattle.node_course.specs.FaultLines.{AreOutside}
use Rattle.node_course.specs.Telling.{AreBehind, IsBehind}
use Rattle.node_course.specs.Workers.{NodeAt}
use Rattle.node_course.proofs.Outside.{outside_others, outside_unsaid, outside_unsealing}
use Rattle.node_course.proofs.Stands.{behind_so}
use Rattle.node_course.proofs.Staying.{node_stays_by}
use Rattle.run_ends.specs.Closing.{WorkerClosed, WorkerEnd, HasClosed}
use Rattle.run_ends.proofs.Turns.{some_at}

-- whatever b allows of such a call, a does: it is the register's, or a move of nothing
module _ (law : Law) (a b : ℕ → Entry → Type 0) (w : State) (who : ℕ) where
  abbrev MayBy : (ℕ → Entry → Type 0) → FabricCall → FabricAnswer → Type 0
  MayBy may call answer = IsAllowed w (record law { may = may }) who (move_of call answer)

  chain_read : (answer : FabricAnswer) → MayBy b ReadChain answer → MayBy a ReadChain answer
  chain_read (At v c) h = h
  chain_read Down h = h
  chain_read answer h = absurd h

  fault_made : (call : FabricCall) (answer : FabricAnswer) → is_fault call ≡ true → MayBy b call answer → MayBy a call answer
  fault_made (Stop i server n) (Set true) is h = h
  fault_made (Stop i server n) answer is h = absurd h
  fault_made (Mend i server word) (Set up) is h = h
  fault_made (Mend i server word) answer is h = absurd h
  fault_made (Stray i word) (Set true) is h = h
  fault_made (Stray i word) answer is h = absurd h
  fault_made (StopMeta n) (Set true) is h = h
  fault_made (StopMeta n) answer is h = absurd h
  fault_made (MendMeta word) (Set up) is h = h
  fault_made (MendMeta word) answer is h = absurd h
  fault_made call answer is h = absurd (both_ways false refl is)

  read_allowed : (call : FabricCall) (answer : FabricAnswer) → (call ≡ ReadChain) ⊎ (is_fault call ≡ true) → MayBy b call answer → MayBy a call answer
  read_allowed call answer (inl is) h = subst (λ k. MayBy a k answer) (sym is) (chain_read answer (subst (λ k. MayBy b k answer) is h))
  read_allowed call answer (inr is) h = fault_made call answer is h

reads_from : (law : Law) (a b : ℕ → Entry → Type 0) (w : State) (es : List Event) → AreOutside es → IsLegalFrom w (record law { may = b }) es → IsLegalFrom w (record law { may = a }) es
reads_from law a b w [] r h = h
reads_from law a b w (e ∷ es) r h =
    (record { there = h.0.there; allowed = read_allowed law a b w e.who e.call e.answer r.0.1 h.0.allowed }, reads_from law a b (after w e.who (move e)) es r.1 h.1)

-- A journal that was legal by rules that allow less stays so where what came since are no node's.
pub reads_legal : (law : Law) (a b : ℕ → Entry → Type 0) (early more : List Event) → AreOutside more → IsLegal (record law { may = a }) early → IsLegal (record law { may = b }) (early ++ more) → IsLegal (record law { may = a }) (early ++ more)
reads_legal law a b early more r h k = record {
  least = h.least;
  most = h.most;
  steps = IsLegalFrom-join (record law { may = a }) start early more h.steps (reads_from law a b (state_of early) more r (IsLegalFrom-split (record law { may = b }) start early more k.steps).1);
}

-- Events of no node, where no write is in doubt

-- what the tail comes of is the same, and no write is in doubt
pub record Same (a b : State) : Type 0 where
  pub chain : b.register.chain ≡ a.register.chain
  pub settled : b.register.asked ≡ None
  pub cells : b.cells ≡ a.cells

module _ (law : Law) where
  read_step : (w : State) (who : ℕ) (answer : FabricAnswer) → w.register.asked ≡ None → IsAllowed w law who (move_of ReadChain answer) → Same w (after w who (move_of ReadChain answer))
  read_step w who (At v c) none h =
      ⊎_elim
      (λ (same : (v ≡ w.register.version) × (c ≡ w.register.chain)). record { chain = same.1; settled = refl; cells = refl })
      (λ (asked : (v ≡ w.register.version + 1) × (w.register.asked ≡ Some c)). absurd (let e : None ≡ Some c = sym none ∙ asked.1 in cc))
      h.1
  read_step w who Down none h = record { chain = refl; settled = none; cells = refl }
  read_step w who answer none h = absurd h

  fault_step : (w : State) (who : ℕ) (call : FabricCall) (answer : FabricAnswer) → w.register.asked ≡ None → is_fault call ≡ true → IsAllowed w law who (move_of call answer) → Same w (after w who (move_of call answer))
  fault_step w who (Stop i server n) (Set true) none is h = record { chain = refl; settled = none; cells = refl }
  fault_step w who (Stop i server n) answer none is h = absurd h
  fault_step w who (Mend i server word) (Set up) none is h = record { chain = refl; settled = none; cells = refl }
  fault_step w who (Mend i server word) answer none is h = absurd h
  fault_step w who (Stray i word) (Set true) none is h = record { chain = refl; settled = none; cells = refl }
  fault_step w who (Stray i word) answer none is h = absurd h
  fault_step w who (StopMeta n) (Set true) none is h = record { chain = refl; settled = none; cells = refl }
  fault_step w who (StopMeta n) answer none is h = absurd h
  fault_step w who (MendMeta word) (Set up) none is h = record { chain = refl; settled = none; cells = refl }
  fault_step w who (MendMeta word) answer none is h = absurd h
  fault_step w who call answer none is h = absurd (both_ways false refl is)

  one_step : (w : State) (who : ℕ) (call : FabricCall) (answer : FabricAnswer) → w.register.asked ≡ None → (call ≡ ReadChain) ⊎ (is_fault call ≡ true) → IsAllowed w law who (move_of call answer) → Same w (after w who (move_of call answer))
  one_step w who call answer none (inl is) h =
      subst (λ k. Same w (after w who (move_of k answer))) (sym is) (read_step w who answer none (subst (λ k. IsAllowed w law who (move_of k answer)) is h))
  one_step w who call answer none (inr is) h = fault_step w who call answer none is h

  pub reads_keep : (w : State) (es : List Event) → w.register.asked ≡ None → AreOutside es → IsLegalFrom w law es → Same w (after_all w es)
  reads_keep w [] none reads legal = record { chain = refl; settled = none; cells = refl }
  reads_keep w (e ∷ es) none reads legal =
      let one = one_step w e.who e.call e.answer none reads.0.1 legal.0.allowed in
      let rest = reads_keep (after w e.who (move e)) es one.settled reads.1 legal.1 in
      record { chain = rest.chain ∙ one.chain; settled = rest.settled; cells = rest.cells ∙ one.cells }

among_split : (xs ys : List Event) (e : Event) → Among (xs ++ ys) e → Among xs e ⊎ Among ys e
among_split [] ys e h = inr h
among_split (x ∷ xs) ys e (inl same) = inl (inl same)
among_split (x ∷ xs) ys e (inr later) = ⊎_elim (λ (h : Among xs e). inl (inr h)) (λ (h : Among ys e). inr h) (among_split xs ys e later)

module _ (law : Law) (journal more : List Event) (reads : AreOutside more) (legal : IsLegal law (journal ++ more)) where
  behind_on : (c : Content) → IsBehind journal c → IsBehind (journal ++ more) c
  behind_on (content.Session s r x) b = tt
  behind_on (content.Alive node n) b = behind_so law journal (journal ++ more) more refl legal n (content.Alive node n) b
  behind_on (content.Leave node) b = tt
  behind_on (content.Trim n) b = behind_so law journal (journal ++ more) more refl legal n (content.Trim n) b

  are_behind : AreBehind journal → AreBehind (journal ++ more)
  are_behind h = λ e p has says. behind_on p.content (h e p (outside_unsaid more reads journal e has) says)

-- others' events bring no faults
faults_stay : (courses : ℕ → NodeCourse) (more : List Event) (n : ℕ) → faults_to (λ k. and_then (courses k) more) n ≡ faults_to courses n
faults_stay courses more zero = refl
faults_stay courses more (suc n) = ap (λ fs. fs ++ (courses (suc n)).faults) (faults_stay courses more n)

module _ (law : Law) (meaning : Meaning) (lines : List NamedLine) (fault_lines : List FaultLine) (journal more : List Event) (looks : List (Option Looked)) (log : List Entry) (workers : List WorkerEnd) (h : HasClosed law meaning lines fault_lines journal looks log workers) (reads : AreOutside more) (legal : IsLegal law (journal ++ more)) where
  abbrev then' : NodeCourse
  then' = and_then h.run more

  abbrev courses : ℕ → NodeCourse
  courses n = and_then (h.courses n) more

  -- a node stays as it was
  module _ (n : ℕ) (w : WorkerEnd) (k : WorkerClosed law meaning lines h.home (length workers) (h.courses n) looks log n w) (least : 1 ≤ n) (most : n ≤ length workers) where
    stays : NodeAt law meaning lines h.home (length workers) (courses n) looks n (length lines) (length lines) (h.courses n).phase w.seat k.was
    stays =
        let seen = (h.joined.part n least most).seen ∙ h.seen_is in
        node_stays_by law meaning lines h.home (length workers) (h.courses n) looks looks n (length lines) (length lines) (h.courses n).phase more w.seat k.was (outside_others n least more reads)
        (subst (λ j. IsLegal law (j ++ more)) (sym seen) legal) refl (λ i l at here. refl) k.rests.node
        (λ e p there among position is. k.rests.node.reports e p (outside_unsaid more reads (h.courses n).seen e there) among position is)

    closed : WorkerClosed law meaning lines h.home (length workers) (courses n) looks log n w
    closed = record { was = k.was; rests = record { node = stays; none_given = k.rests.none_given }; short = k.short; size = k.size; each = k.each }

  did : (n : ℕ) → 1 ≤ n → n ≤ length workers → IsCourse law lines (length workers) n (courses n) looks
  did n least most =
      let w = some_at workers (n - 1) (omega (arith, least, most)) in
      let same : n - 1 + 1 ≡ n = omega (arith, least) in
      let k = subst (λ m. WorkerClosed law meaning lines h.home (length workers) (h.courses m) looks log m w.0) same (h.each (n - 1) w.0 w.1) in
      (stays n w.0 k least most).did

  seals : (e : Event) → Contains (journal ++ more) e → begins_seal e ≡ true → (1 ≤ e.who) × (e.who ≤ length workers)
  seals e has is = ⊎_elim
      (λ (was : Among journal e). h.seals e (contains-among journal e was) is)
      (λ (now : Among more e). absurd (both_ways false refl (sym (outside_unsealing more e reads now) ∙ is)))
      (among_split journal more e (contained-among (journal ++ more) e has))

  pub closed_on : HasClosed law meaning lines fault_lines (journal ++ more) looks log workers
  closed_on = record {
    home = h.home;
    run = then';
    courses = courses;
    seen_is = ap (λ l. l ++ more) h.seen_is;
    lines_are = h.lines_are;
    joined = record {
      faults = h.joined.faults ∙ sym (faults_stay h.courses more (length workers));
      part = λ n least most.
          let part = h.joined.part n least most in
          record { seen = ap (λ l. l ++ more) part.seen; phase = part.phase; begins = part.begins; when = part.when };
      did = did;
    };
    over = h.over;
    front = λ pos e at. held_stays law journal more pos e legal (h.front pos e at);
    each = λ j w at. closed (j + 1) w (h.each j w at) (omega arith) (let low = slice_get_within workers j w at in omega (arith, low));
    beside = h.beside;
    seals = seals;
    behind = are_behind law journal more reads legal h.behind;
  }
