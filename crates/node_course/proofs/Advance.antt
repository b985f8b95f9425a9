-- What a node did, once it made events and came across faults, or others did.
use Rattle.std.proofs.Common.{◌≡◌, refl, sym, ap, ◌∙◌, subst, ⊎_elim, ℕ, zero, suc, ◌+◌, ◌<◌, ◌≤◌, ◌&&◌, min, Bool, false, cond, List, [], ◌∷◌, ◌++◌, Option, Some, None, map, length, count_by, slice_get, slice_set, Contains, arith, eq-eqb}
use Rattle.std.specs.List.{AllByRecursion}
use Rattle.std.proofs.lemmas.Bool.{cases_lt}
use Rattle.std.proofs.lemmas.List.Sums.{sum_by-append}
use Rattle.delos_types.specs.declared.entry.Entry.{Entry}
use Rattle.delos_types.specs.declared.cause.Cause.{Cause}
use Rattle.delos_types.specs.declared.cause.Cause.TheVariants as cause
use Rattle.legal_journal.specs.Law.{Law}
use Rattle.legal_journal.specs.declared.events.Event.{Event}
use Rattle.legal_journal.specs.Journal.{IsLegal}
use Rattle.legal_journal.specs.Sealing.{own_seals}
use Rattle.journal_laws.specs.Own.{faults_of}
use Rattle.script_text.specs.declared.asks.NamedLine.{NamedLine}
use Rattle.fitting_run.specs.Faults.{lacks_store}
use Rattle.log_laws.proofs.Pairs.{all-append}
use Rattle.node_lines.specs.declared.lines.Looked.{Looked}
use Rattle.node_lines.specs.declared.lines.Looked.TheVariants as looked
use Rattle.node_lines.specs.Moving.{is_store, Rises}
use Rattle.node_lines.specs.UnderWay.{HasRank}
use Rattle.node_lines.specs.Workers.{Grows, appended_by}
use Rattle.run_laws.specs.Ended.{Fault, pays, most_faults}
use Rattle.node_course.specs.Script.{asked_before, failure_of_look, failed_looks}
use Rattle.node_course.specs.Moments.{NodeCourse, GoesOn, moment, at_node}
use Rattle.node_course.specs.Played.{Came, went_further}
use Rattle.node_course.specs.Course.{IsCourse}
use Rattle.node_course.specs.Replacing.{Replaced}
use Rattle.node_course.specs.Telling.{AreAsked, AreTold, HasToldSo, IsTrim, AsksBehind}
use Rattle.node_course.proofs.Events.{faults_on}
use Rattle.node_course.specs.Behind.{ReportsHold}
use Rattle.node_course.proofs.Held.{hold_on}
use Rattle.node_course.proofs.Lines.{count-cons}
use Rattle.node_course.proofs.Looks.{CameBack, CameOn}
use Rattle.node_course.proofs.Moments.{moment_now}
use Rattle.node_course.proofs.Growing.{Grown, grown_of}
use Rattle.node_course.proofs.Told.{asked_still, stand_then, trim_on}
use Rattle.node_course.proofs.Replacing.{replaced_on}

-- Counting

pub count-append : {A : Type 0} (p : A → Bool) (xs ys : List A) → count_by p (xs ++ ys) ≡ count_by p xs + count_by p ys
count-append p xs ys = sum_by-append (λ x. cond (p x) 1 0) xs ys

count-map : {A B : Type 0} (f : A → B) (p : B → Bool) (q : A → Bool) → ((x : A) → p (f x) ≡ q x) → (xs : List A) → count_by p (map f xs) ≡ count_by q xs
count-map f p q same [] = refl
count-map f p q same (x ∷ xs) =
    let a = count-cons p (f x) (map f xs) in
    let b = count-cons q x xs in
    let e : cond (p (f x)) 1 0 ≡ cond (q x) 1 0 = ap {B = ℕ} (λ t. cond t 1 0) (same x) in
    let rest = count-map f p q same xs in
    omega (arith, a, b, e, rest)

-- The course after events of its node

-- the fault of a cause that came to node n in a phase
abbrev pub fault_at : ℕ → ℕ → Cause → Fault
fault_at n phase k = record { cause = k; node = n; phase = phase }

-- So much has node n seen by now, and it came across these causes, but for those of its lines' own looks.
abbrev pub advanced : NodeCourse → ℕ → List Cause → List Event → (ℕ → ℕ) → NodeCourse
advanced c n came journal when = record {
  seen = journal;
  phase = c.phase;
  begins = c.begins;
  faults = c.faults ++ map (fault_at n c.phase) came;
  when = when;
}

pub advanced_on : (c : NodeCourse) (n : ℕ) (came : List Cause) (journal more : List Event) (when : ℕ → ℕ) → journal ≡ c.seen ++ more → GoesOn c (advanced c n came journal when)
advanced_on c n came journal more when seen = record { phase = refl; begins = refl; more = more; seen = seen; came = map (fault_at n c.phase) came; gained = refl }

-- what came of node n
pub count_came : (n phase : ℕ) (by : ℕ → Cause → Bool) (came : List Cause) → count_by (λ (f : Fault). by f.node f.cause) (map (fault_at n phase) came) ≡ count_by (by n) came
count_came n phase by came = count-map (fault_at n phase) (λ (f : Fault). by f.node f.cause) (by n) (λ k. refl) came

came_here : (n phase : ℕ) (came : List Cause) → AllByRecursion (λ (f : Fault). f.node ≡ n) (map (fault_at n phase) came)
came_here n phase [] = tt
came_here n phase (k ∷ came) = (refl, came_here n phase came)

-- of the node itself all such causes count
pub count_at_node : (n : ℕ) (kind : Cause → Bool) (ks : List Cause) → count_by (at_node n kind n) ks ≡ count_by kind ks
count_at_node n kind ks = ap (λ b. count_by (λ k. b && kind k) ks) (eq-eqb n n refl)

module _ (law : Law) (lines : List NamedLine) (nodes n : ℕ) (c : NodeCourse) (looks : List (Option Looked)) (ok : IsCourse law lines nodes n c looks) where
  -- in what follows the course goes on in its phase
  module _ (c' : NodeCourse) (goes : GoesOn c c') (legal : IsLegal law c'.seen) where
    pub grown : Grown law c c'
    grown = grown_of law c c' goes ok.long ok.rise legal

    long : length c'.begins ≡ c'.phase + 1
    long = ap (λ (bs : List (List Event)). length bs) goes.begins ∙ ok.long ∙ ap (λ k. k + 1) (sym goes.phase)

    rise : (p : ℕ) → Grows (moment c' p) (moment c' (p + 1))
    rise p = ⊎_elim
        (λ (high : c.phase < p + 1). subst (Grows (moment c' p)) (sym (moment_now c' (p + 1) (omega (arith, high, long, goes.phase)))) (grown.upto p))
        (λ (low : p + 1 ≤ c.phase). subst (λ m. Grows m (moment c' (p + 1))) (sym (grown.past p (omega (arith, low)))) (subst (Grows (moment c p)) (sym (grown.past (p + 1) low)) (ok.rise p)))
        (cases_lt c.phase (p + 1))

    began : (p s r : ℕ) (e : Entry) → p ≤ c'.phase → Contains (appended_by n (moment c' p)) e → HasRank s r e → r ≤ asked_before lines s p
    began p s r e low there has =
        let upto : p ≤ c.phase = omega (arith, low, goes.phase) in
        ok.began p s r e upto (subst (λ m. Contains (appended_by n m) e) (grown.past p upto) there) has

    module _ (here : AllByRecursion (λ f. f.node ≡ n) c'.faults) (looks' : List (Option Looked)) (on : CameOn lines looks looks' n) where
      asked : (p : ℕ) → p ≤ c'.phase → AreAsked lines looks' n (λ i l. l.phase < p) (moment c' p)
      asked p low =
          let upto : p ≤ c.phase = omega (arith, low, goes.phase) in
          subst (AreAsked lines looks' n (λ i l. l.phase < p)) (sym (grown.past p upto)) (asked_still lines looks looks' n (λ i l. l.phase < p) (moment c p) on (ok.asked p upto))

      -- What the node did then: what its lines paid, and what came, its new events told.
      pub advance : length looks' ≡ length looks
          → ((kind : Cause → Bool) → kind cause.Store ≡ false → failed_looks (at_node n kind) lines looks' + count_by (λ f. kind f.cause) c'.faults ≤ count_by kind (faults_of n c'.seen))
          → ((i : ℕ) (l : NamedLine) (look : Looked) → Came lines looks' n i l look → l.phase ≤ c.phase)
          → Replaced lines looks' n c' (length law.shelf)
          → (faults_of n c'.seen ≡ [] → own_seals n c'.seen ≤ went_further n lines looks')
          → AreTold lines looks' n c'.seen → AsksBehind n c'.seen
          → ((i : ℕ) (l : NamedLine) (look : Looked) → Came lines looks' n i l look → HasToldSo (moment c' (l.phase + 1)) n look)
          → ((j : ℕ) (l : NamedLine) (trim : ℕ) → Came lines looks' n j l (looked.Trimmed trim) → IsTrim lines looks' nodes n c' j l trim)
          → ReportsHold lines looks' n c'
          → IsCourse law lines nodes n c' looks'
      advance size events ahead replaced seals told behind stand trims reports = record {
        legal = legal;
        long = long;
        rise = rise;
        began = began;
        size = size ∙ ok.size;
        here = here;
        events = events;
        ahead = λ i l look come. let low = ahead i l look come in omega (arith, low, goes.phase);
        replaced = replaced;
        seals = seals;
        told = told;
        asked = asked;
        behind = behind;
        stand = stand;
        trims = trims;
        reports = reports;
      }

      -- .. where none of its lines came to anything meanwhile
      pub advance_back : CameBack lines looks looks' n → went_further n lines looks' ≡ went_further n lines looks → length looks' ≡ length looks
          → ((kind : Cause → Bool) → kind cause.Store ≡ false → failed_looks (at_node n kind) lines looks' + count_by (λ f. kind f.cause) c'.faults ≤ count_by kind (faults_of n c'.seen))
          → (faults_of n c'.seen ≡ [] → own_seals n c'.seen ≤ went_further n lines looks')
          → AreTold lines looks' n c'.seen → AsksBehind n c'.seen → IsCourse law lines nodes n c' looks'
      advance_back back same size events seals told behind = advance size events (λ i l look come. ok.ahead i l look (back i l look come))
          (replaced_on law c c' grown lines looks n ok.ahead ok.replaced looks' back same)
          seals told behind
          (λ i l look come. stand_then law c c' grown lines looks looks' nodes n l look (ok.stand i l look (back i l look come)))
          (λ j l trim come.
          let was = back j l (looked.Trimmed trim) come in
          trim_on law c c' grown lines looks looks' nodes n on j l trim (ok.ahead j l (looked.Trimmed trim) was) (λ i m look come' before. back i m look come') (ok.trims j l trim was))
          (hold_on law c c' grown lines looks looks' n back ok.reports)

  -- It made events of its own.
  module _ (came : List Cause) (journal more : List Event) (when : ℕ → ℕ) (seen : journal ≡ c.seen ++ more) where
    pub here_then : AllByRecursion (λ f. f.node ≡ n) (advanced c n came journal when).faults
    here_then = all-append (λ (f : Fault). f.node ≡ n) c.faults (map (fault_at n c.phase) came) ok.here (came_here n c.phase came)

    -- each fault that came, or that a line paid, its new events told
    pub events_then : (looks' : List (Option Looked)) (kind : Cause → Bool) → kind cause.Store ≡ false
        → failed_looks (at_node n kind) lines looks' + count_by kind came ≤ failed_looks (at_node n kind) lines looks + count_by kind (faults_of n more)
        → failed_looks (at_node n kind) lines looks' + count_by (λ f. kind f.cause) (advanced c n came journal when).faults ≤ count_by kind (faults_of n journal)
    events_then looks' kind store now =
        let was = ok.events kind store in
        let a = count-append (λ (f : Fault). kind f.cause) c.faults (map (fault_at n c.phase) came) in
        let b = count_came n c.phase (λ m. kind) came in
        let d = ap (λ l. count_by kind (faults_of n l)) seen ∙ ap (count_by kind) (faults_on n c.seen more) in
        let e = count-append kind (faults_of n c.seen) (faults_of n more) in
        omega (arith, was, now, a, b, d, e)

-- Looks

-- the cause by which a read's own look failed
abbrev pub failed_of : Looked → List Cause
failed_of (looked.Found after found) = []
failed_of (looked.Kept k) = []
failed_of (looked.Failed k) = k ∷ []
failed_of (looked.Extended x) = []
failed_of (looked.Reported position) = []
failed_of looked.Left = []
failed_of (looked.Trimmed trim) = []

look_pays : (by : Cause → Bool) (look : Looked) → count_by (pays by) (failure_of_look (Some look) ∷ []) ≡ count_by by (failed_of look)
look_pays by (looked.Found after found) = refl
look_pays by (looked.Kept k) = refl
look_pays by (looked.Failed k) = refl
look_pays by (looked.Extended x) = refl
look_pays by (looked.Reported position) = refl
look_pays by looked.Left = refl
look_pays by (looked.Trimmed trim) = refl

-- a line's look, where it hadn't looked yet
pub failed_set : (by : ℕ → Cause → Bool) (lines : List NamedLine) (looks : List (Option Looked)) (i : ℕ) (l : NamedLine) (look : Looked) → slice_get lines i ≡ Some l → slice_get looks i ≡ Some None
    → failed_looks by lines (slice_set looks i (Some look)) ≡ failed_looks by lines looks + count_by (by l.node) (failed_of look)
failed_set by [] looks i l look at none = absurd (cc)
failed_set by (m ∷ lines) [] i l look at none = absurd (cc)
failed_set by (m ∷ lines) (k ∷ looks) zero l look at none =
    let is : m ≡ l = cc in
    let was : k ≡ None = cc in
    let a = look_pays (by m.node) look in
    let b : count_by (pays (by m.node)) (failure_of_look k ∷ []) ≡ 0 = ap (λ x. count_by (pays (by m.node)) (failure_of_look x ∷ [])) was in
    let d : count_by (by m.node) (failed_of look) ≡ count_by (by l.node) (failed_of look) = ap (λ (x : NamedLine). count_by (by x.node) (failed_of look)) is in
    omega (arith, a, b, d)
failed_set by (m ∷ lines) (k ∷ looks) (suc i) l look at none =
    let rest = failed_set by lines looks i l look at none in
    omega (arith, rest)

-- A node's own disk

store_is : (n : ℕ) (k : Cause) → lacks_store n n k ≡ is_store k
store_is n (cause.NoQuorum id unreached) = refl
store_is n (cause.Full id) = refl
store_is n cause.Meta = refl
store_is n cause.Store = eq-eqb n n refl

count_stores : (n : ℕ) (ks : List Cause) → count_by (lacks_store n n) ks ≡ count_by is_store ks
count_stores n [] = refl
count_stores n (k ∷ ks) =
    let a = count-cons (lacks_store n n) k ks in
    let b = count-cons is_store k ks in
    let e : cond (lacks_store n n k) 1 0 ≡ cond (is_store k) 1 0 = ap {B = ℕ} (λ t. cond t 1 0) (store_is n k) in
    let rest = count_stores n ks in
    omega (arith, a, b, e, rest)

-- Each fault of the store was counted: those that came, and those that reads paid, rose the count by as many.
pub stores_counted : (lines : List NamedLine) (n phase : ℕ) (faults : List Fault) (looks looks' : List (Option Looked)) (came paid causes : List Cause) (before after : ℕ)
    → ((P : Cause → Bool) → count_by P came + count_by P paid ≡ count_by P causes) → failed_looks (lacks_store n) lines looks' ≡ failed_looks (lacks_store n) lines looks + count_by (lacks_store n n) paid
    → Rises (count_by is_store causes) before after
    → min (failed_looks (lacks_store n) lines looks + count_by (λ f. lacks_store n f.node f.cause) faults + 1) most_faults ≤ min before most_faults
    → min (failed_looks (lacks_store n) lines looks' + count_by (λ f. lacks_store n f.node f.cause) (faults ++ map (fault_at n phase) came) + 1) most_faults ≤ min after most_faults
stores_counted lines n phase faults looks looks' came paid causes before after all looked rose was =
    let a = count-append (λ (f : Fault). lacks_store n f.node f.cause) faults (map (fault_at n phase) came) in
    let b = count_came n phase (lacks_store n) came in
    let d = count_stores n came in
    let e = count_stores n paid in
    let f = all is_store in
    omega (arith, looked, rose, was, a, b, d, e, f)
