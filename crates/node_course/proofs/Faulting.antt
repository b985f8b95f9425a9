-- The faults of a run are those of its nodes.
use Rattle.std.proofs.Common.{◌≡◌, refl, sym, ap, ◌∙◌, subst, ⊎_elim, ℕ, zero, suc, ◌+◌, ◌<◌, ◌≤◌, ◌==◌, ◌&&◌, Bool, false, cond, List, [], ◌∷◌, Option, count_by, Contains, arith, eq-eqb}
use Rattle.std.specs.List.{AllByRecursion}
use Rattle.std.proofs.lemmas.Bool.{cases_lt}
use Rattle.std.proofs.lemmas.Bool.Decides.{nat_tests}
use Rattle.delos_types.specs.declared.cause.Cause.{Cause}
use Rattle.delos_types.specs.declared.cause.Cause.TheVariants as cause
use Rattle.legal_journal.specs.Law.{Law}
use Rattle.journal_laws.specs.Faults.{faults_in}
use Rattle.journal_laws.specs.Own.{faults_of}
use Rattle.journal_laws.proofs.Shares.{add_up}
use Rattle.script_text.specs.declared.asks.NamedLine.{NamedLine}
use Rattle.fitting_run.specs.Faults.{lacks_store}
use Rattle.log_laws.proofs.Pairs.{all-append, all-imply}
use Rattle.node_lines.specs.declared.lines.Looked.{Looked}
use Rattle.run_laws.specs.Ended.{CameTo, Fault, pays}
use Rattle.run_laws.proofs.Members.{among-right, contained-among, contains-among}
use Rattle.node_course.specs.Script.{AreLines, failure_of_look, failed_looks}
use Rattle.node_course.specs.Moments.{NodeCourse, at_node}
use Rattle.node_course.specs.Joined.{AreJoined, faults_to}
use Rattle.node_course.proofs.Lines.{count-cons}
use Rattle.node_course.proofs.Advance.{count-append}
use Rattle.node_course.proofs.Counted.{store_only}
use Rattle.node_course.proofs.Growing.{came_more}
use Rattle.node_course.proofs.Totals.{numbered_to, numbers_apart, total, total_add, total_has, total_less, total_listed, total_only}

-- what lines paid, each line's own node paid
failed_total : (kind : Cause → Bool) (nodes : ℕ) (lines : List NamedLine) (looks : List (Option Looked)) → AllByRecursion (λ l. (1 ≤ l.node) × (l.node ≤ nodes)) lines
    → failed_looks (λ n. kind) lines looks ≤ total (λ n. failed_looks (at_node n kind) lines looks) nodes
failed_total kind nodes [] looks there = omega arith
failed_total kind nodes (l ∷ lines) [] there = omega arith
failed_total kind nodes (l ∷ lines) (k ∷ looks) there =
    let b = total_add (λ n. count_by (pays (at_node n kind l.node)) (failure_of_look k ∷ [])) (λ n. failed_looks (at_node n kind) lines looks) (λ n. failed_looks (at_node n kind) (l ∷ lines) (k ∷ looks)) nodes (λ n. refl) in
    let has = total_has (λ n. count_by (pays (at_node n kind l.node)) (failure_of_look k ∷ [])) nodes l.node there.0.0 there.0.1 in
    let own : count_by (pays (at_node l.node kind l.node)) (failure_of_look k ∷ []) ≡ count_by (pays kind) (failure_of_look k ∷ []) = ap (λ t. count_by (pays (λ c. t && kind c)) (failure_of_look k ∷ [])) (eq-eqb l.node l.node refl) in
    let rest = failed_total kind nodes lines looks there.1 in
    omega (arith, b, has, own, rest)

-- the faults of all nodes count node by node
faults_total : (p : Fault → Bool) (courses : ℕ → NodeCourse) (nodes : ℕ) → count_by p (faults_to courses nodes) ≡ total (λ n. count_by p (courses n).faults) nodes
faults_total p courses zero = refl
faults_total p courses (suc n) = let a = count-append p (faults_to courses n) (courses (suc n)).faults in let rest = faults_total p courses n in omega (arith, a, rest)

all_faults : (P : Fault → Type 0) (courses : ℕ → NodeCourse) (nodes : ℕ) → ((n : ℕ) → 1 ≤ n → n ≤ nodes → AllByRecursion P (courses n).faults) → AllByRecursion P (faults_to courses nodes)
all_faults P courses zero each = tt
all_faults P courses (suc n) each = all-append P (faults_to courses n) (courses (suc n)).faults (all_faults P courses n (λ k least most. each k least (omega (arith, most)))) (each (suc n) (omega arith) (omega arith))

-- a fault that came to a node is one of all
came_to : (courses : ℕ → NodeCourse) (nodes n node phase : ℕ) (k : Cause) → 1 ≤ n → n ≤ nodes → CameTo (courses n).faults k node phase → CameTo (faults_to courses nodes) k node phase
came_to courses zero n node phase k least most h = absurd (omega (arith, least, most))
came_to courses (suc m) n node phase k least most h = ⊎_elim
    (λ (low : n < suc m). came_more (faults_to courses m) (faults_to courses (suc m)) (courses (suc m)).faults k node phase refl (came_to courses m n node phase k least (omega (arith, low)) h))
    (λ (high : suc m ≤ n).
    let same : n ≡ suc m = omega (arith, high, most) in
    let there : Contains (courses (suc m)).faults h.fault = subst (λ q. Contains (courses q).faults h.fault) same h.among in
    record {
      fault = h.fault;
      among = contains-among (faults_to courses (suc m)) h.fault (among-right (faults_to courses m) (courses (suc m)).faults h.fault (contained-among (courses (suc m)).faults h.fault there));
      cause_is = h.cause_is;
      node_is = h.node_is;
      phase_is = h.phase_is;
    })
    (cases_lt n (suc m))

none_of_other : (n m : ℕ) (fs : List Fault) → (n == m) ≡ false → AllByRecursion (λ f. f.node ≡ m) fs → count_by (λ (f : Fault). lacks_store n f.node f.cause) fs ≡ 0
none_of_other n m [] e here = refl
none_of_other n m (f ∷ fs) e here =
    let a = count-cons (λ (x : Fault). lacks_store n x.node x.cause) f fs in
    let other : (f.node == n) ≡ false = grind (arith, nat_tests, e, here.0) in
    let b : ◌≡◌ {A = ℕ} (cond (lacks_store n f.node f.cause) 1 0) 0 = ap {B = ℕ} (λ x. cond x 1 0) (store_only n f.node f.cause other) in
    let rest = none_of_other n m fs e here.1 in
    omega (arith, a, b, rest)

module _ (law : Law) (lines : List NamedLine) (home : ℕ → ℕ) (nodes : ℕ) (run : NodeCourse) (looks : List (Option Looked)) (courses : ℕ → NodeCourse) (join : AreJoined law lines home nodes run looks courses) where
  pub all_events : (kind : Cause → Bool) → kind cause.Store ≡ false → AreLines lines home nodes → failed_looks (λ n. kind) lines looks + count_by (λ f. kind f.cause) run.faults ≤ count_by kind (faults_in run.seen)
  all_events kind store are =
      let paid = failed_total kind nodes lines looks are.nodes_are in
      let came = ap (count_by (λ (f : Fault). kind f.cause)) join.faults ∙ faults_total (λ f. kind f.cause) courses nodes in
      let both = total_add (λ n. failed_looks (at_node n kind) lines looks) (λ n. count_by (λ (f : Fault). kind f.cause) (courses n).faults) (λ n. failed_looks (at_node n kind) lines looks + count_by (λ (f : Fault). kind f.cause) (courses n).faults) nodes (λ n. refl) in
      let each = total_less (λ n. failed_looks (at_node n kind) lines looks + count_by (λ (f : Fault). kind f.cause) (courses n).faults) (λ n. count_by kind (faults_of n run.seen)) nodes
      (λ n least most.
      subst (λ l. failed_looks (at_node n kind) lines looks + count_by (λ (f : Fault). kind f.cause) (courses n).faults ≤ count_by kind (faults_of n l)) (join.part n least most).seen
      ((join.did n least most).events kind store)) in
      let listed = total_listed (λ n. count_by kind (faults_of n run.seen)) nodes in
      let all = add_up kind (numbered_to nodes) run.seen (numbers_apart nodes) in
      omega (arith, paid, came, both, each, listed, all)

  pub of_nodes : AllByRecursion (λ f. (1 ≤ f.node) × (f.node ≤ nodes)) run.faults
  of_nodes = subst (AllByRecursion (λ (f : Fault). (1 ≤ f.node) × (f.node ≤ nodes))) (sym join.faults)
      (all_faults (λ f. (1 ≤ f.node) × (f.node ≤ nodes)) courses nodes
      (λ n least most. all-imply (λ (f : Fault). f.node ≡ n) (λ f. (1 ≤ f.node) × (f.node ≤ nodes)) (courses n).faults (λ f is. (omega (arith, least, is), omega (arith, most, is))) (join.did n least most).here))

  pub own_stores : (n : ℕ) → 1 ≤ n → n ≤ nodes → count_by (λ (f : Fault). lacks_store n f.node f.cause) run.faults ≡ count_by (λ (f : Fault). lacks_store n f.node f.cause) (courses n).faults
  own_stores n least most =
      ap (count_by (λ (f : Fault). lacks_store n f.node f.cause)) join.faults
      ∙ (faults_total (λ f. lacks_store n f.node f.cause) courses nodes
      ∙ total_only (λ m. count_by (λ (f : Fault). lacks_store n f.node f.cause) (courses m).faults) nodes n least most
      (λ m low high apart. none_of_other n m (courses m).faults apart (join.did m low high).here))

  pub came_run : (n node phase : ℕ) (k : Cause) → 1 ≤ n → n ≤ nodes → CameTo (courses n).faults k node phase → CameTo run.faults k node phase
  came_run n node phase k least most h = subst (λ fs. CameTo fs k node phase) (sym join.faults) (came_to courses nodes n node phase k least most h)
