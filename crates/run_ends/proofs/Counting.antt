-- Each fault that came was counted, and stands in the yard.
use Rattle.std.proofs.Common.{◌≡◌, refl, sym, ap, ◌∙◌, subst, ◌⊎◌, inl, inr, ℕ, zero, suc, ◌+◌, ◌-◌, ◌^◌, ◌<◌, ◌≤◌, ◌==◌, ◌&&◌, nat_le, min, max, if◌then◌else◌, Bool, true, false, cond, List, [], ◌∷◌, Option, Some, None, length, Contains, count_by, slice_get, arith, eqb-true, eq-eqb, le-leb}
use Rattle.std.specs.List.{AllByRecursion}
use Rattle.std.proofs.lemmas.Bool.{and_from, and_parts, both_ways, cases_lt, false_from_ne_true, or_left, or_right}
use Rattle.std.proofs.lemmas.Option.{slice_get_within, slice_get_cases}
use Rattle.std.proofs.lemmas.List.{length-map}
use Rattle.delos_types.specs.declared.entry.Entry.{Entry}
use Rattle.delos_types.specs.declared.cause.Cause.{Cause}
use Rattle.delos_types.specs.declared.cause.Cause.TheVariants as cause
use Rattle.delos_types.specs.declared.chain.Chain.{Chain}
use Rattle.loglet_api.specs.View.{LogletView, size_of}
use Rattle.register_api.specs.View.{RegisterView}
use Rattle.legal_journal.specs.Law.{Law}
use Rattle.legal_journal.specs.declared.events.Event.{Event}
use Rattle.legal_journal.specs.Journal.{IsLegal}
use Rattle.fabric_core.specs.Runs.{HasRun, HasRegisterRun}
use Rattle.log_laws.proofs.Pairs.{all-imply}
use Rattle.journal_laws.specs.Faults.{faults_in, is_lack_of, is_full_of, is_meta}
use Rattle.script_text.specs.declared.asks.NamedLine.{NamedLine}
use Rattle.script_text.specs.declared.faults.FaultLine.{FaultLine}
use Rattle.row_text.specs.declared.row.Row.{Row}
use Rattle.fitting_run.specs.Yard.{Shown}
use Rattle.fitting_run.specs.Tests.{some_is}
use Rattle.fitting_run.specs.Faults.{is_full, lacked, lacks_of, faults_of, disk_faults, stands, lacks_quorum, finds_full, lacks_register, lacks_store}
use Rattle.node_lines.specs.declared.lines.Looked.{Looked}
use Rattle.run_laws.specs.Ended.{Played, Fault, FaultsCame, PaidStands, counted, most_faults, paid_by, pays}
use Rattle.run_laws.proofs.Members.{Among, all-at, all-of, contains-among}
use Rattle.node_course.specs.Script.{failed_looks, failure_of_look}
use Rattle.node_course.proofs.Lines.{count-cons}
use Rattle.node_course.proofs.Faulting.{all_events, of_nodes, own_stores}
use Rattle.replica_api.specs.Replica.{Meaning, ReplicaView}
use Rattle.node_lines.specs.Moving.{strikes}
use Rattle.run_ends.specs.Closing.{WorkerEnd, HasClosed, IsGivenBack}
use Rattle.run_ends.specs.Rows.{played_of}
use Rattle.run_ends.proofs.Lacking.{lack_of_servers}

-- Counting

pub strikes_most : (r : ReplicaView) → strikes r ≤ max r.faults 1
strikes_most r = by r.down
  where
    by : (b : Bool) → (if b then r.faults else max r.faults 1) ≤ max r.faults 1
    by true = omega arith
    by false = omega arith

zero_or : (n : ℕ) → (n ≡ 0) ⊎ (1 ≤ n)
zero_or zero = inl refl
zero_or (suc n) = inr (omega arith)

one_of : (s t : Bool) → (s ≡ true → t ≡ true) → cond s 1 0 ≤ cond t 1 0
one_of false t imply = omega arith
one_of true t imply = subst (λ b. 1 ≤ cond b 1 0) (sym (imply refl)) (omega arith)

module _ {A : Type 0} (p : A → Bool) where
  among_counted : (xs : List A) (x : A) → Among xs x → p x ≡ true → 1 ≤ count_by p xs
  among_counted [] x m e = absurd m
  among_counted (y ∷ ys) x m e =
      let more = count-cons p y ys in
      elim m [
        | inl same ↦ (let one : cond (p y) 1 0 ≡ 1 = ap {B = ℕ} (λ b. cond b 1 0) (ap p same ∙ e) in omega (arith, more, one))
        | inr later ↦ (let rest = among_counted ys x later e in omega (arith, more, rest))
      ]

  counted_among : (xs : List A) → 1 ≤ count_by p xs → (x : A) × Among xs x × (p x ≡ true)
  counted_among [] some = absurd (omega (arith, some))
  counted_among (y ∷ ys) some = by (p y) refl (counted_among ys)
    where
      by : (b : Bool) → p y ≡ b → (1 ≤ count_by p ys → (x : A) × Among ys x × (p x ≡ true)) → (x : A) × Among (y ∷ ys) x × (p x ≡ true)
      by true is rest = (y, inl refl, is)
      by false is rest =
          let more = count-cons p y ys in
          let none : cond (p y) 1 0 ≡ 0 = ap {B = ℕ} (λ b. cond b 1 0) is in
          let later = rest (omega (arith, some, more, none)) in
          (later.0, inr later.1, later.2)

  counted_less : (q : A → Bool) → ((x : A) → p x ≡ true → q x ≡ true) → (xs : List A) → count_by p xs ≤ count_by q xs
  counted_less q imply [] = omega arith
  counted_less q imply (x ∷ xs) =
      let a = count-cons p x xs in
      let b = count-cons q x xs in
      let one = one_of (p x) (q x) (imply x) in
      let rest = counted_less q imply xs in
      omega (arith, a, b, one, rest)

-- The causes that are counted

lacks_it : (cell n : ℕ) (k : Cause) → lacks_quorum cell n k ≡ true → is_lack_of cell k ≡ true
lacks_it cell n (cause.NoQuorum id unreached) e = e
lacks_it cell n (cause.Full id) e = e
lacks_it cell n cause.Meta e = e
lacks_it cell n cause.Store e = e

fills_it : (cell n : ℕ) (k : Cause) → finds_full cell n k ≡ true → is_full_of cell k ≡ true
fills_it cell n (cause.NoQuorum id unreached) e = e
fills_it cell n (cause.Full id) e = e
fills_it cell n cause.Meta e = e
fills_it cell n cause.Store e = e

fails_it : (n : ℕ) (k : Cause) → lacks_register n k ≡ true → is_meta k ≡ true
fails_it n (cause.NoQuorum id unreached) e = e
fails_it n (cause.Full id) e = e
fails_it n cause.Meta e = e
fails_it n cause.Store e = e

lack_is : (cell : ℕ) (k : Cause) → is_lack_of cell k ≡ true → (unreached : ℕ) × (k ≡ cause.NoQuorum cell unreached)
lack_is cell (cause.NoQuorum id unreached) e = (unreached, ap (λ i. cause.NoQuorum i unreached) (eqb-true id cell e))
lack_is cell (cause.Full id) e = absurd (both_ways false refl e)
lack_is cell cause.Meta e = absurd (both_ways false refl e)
lack_is cell cause.Store e = absurd (both_ways false refl e)

full_is : (cell : ℕ) (k : Cause) → is_full_of cell k ≡ true → k ≡ cause.Full cell
full_is cell (cause.Full id) e = ap cause.Full (eqb-true id cell e)
full_is cell (cause.NoQuorum id unreached) e = absurd (both_ways false refl e)
full_is cell cause.Meta e = absurd (both_ways false refl e)
full_is cell cause.Store e = absurd (both_ways false refl e)

store_at : (n m : ℕ) (k : Cause) → lacks_store n m k ≡ true → m ≡ n
store_at n m cause.Store e = eqb-true m n e
store_at n m (cause.NoQuorum id unreached) e = absurd (both_ways false refl e)
store_at n m (cause.Full id) e = absurd (both_ways false refl e)
store_at n m cause.Meta e = absurd (both_ways false refl e)

-- just so many servers of this loglet weren't reached
abbrev lacks_so : ℕ → ℕ → Cause → Bool
lacks_so cell so_many (cause.NoQuorum id unreached) = (id == cell) && (unreached == so_many)
lacks_so cell so_many other = false

lack_so : (cell so_many : ℕ) (k : Cause) → lacks_so cell so_many k ≡ true → k ≡ cause.NoQuorum cell so_many
lack_so cell so_many (cause.NoQuorum id unreached) e =
    let both = and_parts (id == cell) (unreached == so_many) e in
    ap (λ i. cause.NoQuorum i unreached) (eqb-true id cell both.0) ∙ ap (cause.NoQuorum cell) (eqb-true unreached so_many both.1)
lack_so cell so_many (cause.Full id) e = absurd (both_ways false refl e)
lack_so cell so_many cause.Meta e = absurd (both_ways false refl e)
lack_so cell so_many cause.Store e = absurd (both_ways false refl e)

-- The looks that failed, and the lines that are told to have paid

pays_less : (p q : Cause → Bool) → ((k : Cause) → p k ≡ true → q k ≡ true) → (o : Option Cause) → cond (pays p o) 1 0 ≤ count_by (pays q) (o ∷ [])
pays_less p q imply None = omega arith
pays_less p q imply (Some k) = let one = one_of (p k) (q k) (imply k) in omega (arith, one)

paid_less : (by more : ℕ → Cause → Bool) → ((n : ℕ) (k : Cause) → by n k ≡ true → more n k ≡ true) → (lines : List NamedLine) (rows : List Row) (looks : List (Option Looked)) → count_by (paid_by by) (played_of lines rows looks) ≤ failed_looks more lines looks
paid_less by more imply [] rows looks = omega arith
paid_less by more imply (l ∷ lines) [] looks = omega arith
paid_less by more imply (l ∷ lines) (row ∷ rows) [] = omega arith
paid_less by more imply (l ∷ lines) (row ∷ rows) (look ∷ looks) =
    let t : Played = record { line = l; row = row; paid = failure_of_look look } in
    let a = count-cons (paid_by by) t (played_of lines rows looks) in
    let one = pays_less (by l.node) (more l.node) (imply l.node) (failure_of_look look) in
    let rest = paid_less by more imply lines rows looks in
    omega (arith, a, one, rest)

-- no line's node failed by such causes
failed_none : (by : ℕ → Cause → Bool) (lines : List NamedLine) (looks : List (Option Looked)) → AllByRecursion (λ l. (k : Cause) → by l.node k ≡ false) lines → failed_looks by lines looks ≡ 0
failed_none by [] looks h = refl
failed_none by (l ∷ lines) [] h = refl
failed_none by (l ∷ lines) (look ∷ looks) h =
    let one = none (failure_of_look look) in
    let rest = failed_none by lines looks h.1 in
    omega (arith, one, rest)
  where
    none : (o : Option Cause) → count_by (pays (by l.node)) (o ∷ []) ≡ 0
    none None = refl
    none (Some k) = ap {B = ℕ} (λ b. 0 + cond b 1 0) (h.0 k)

-- What the laws of journals say of the faults that one tells

pub record AreCounted (law : Law) : Type 0 where
  pub lacks : (i : ℕ) (events : List Event) (now : LogletView) → HasRun i events now → count_by (is_lack_of i) (faults_in events) ≤ now.lacks
  pub lack : (i unreached : ℕ) (events : List Event) (now : LogletView) → HasRun i events now → Contains (faults_in events) (cause.NoQuorum i unreached) → (1 ≤ unreached) × (1 ≤ now.lacks) × (1 ≤ now.faults)
  pub refusals : (i : ℕ) (events : List Event) (now : LogletView) → HasRun i events now → min (count_by (is_full_of i) (faults_in events)) (2 ^ 64 - 1) ≤ now.faults
  pub full : (i : ℕ) (events : List Event) (now : LogletView) → HasRun i events now → Contains (faults_in events) (cause.Full i) → (size_of now ≡ now.room) ⊎ (now.begun ≡ now.limit)
  pub register : (events : List Event) (now : RegisterView) → IsLegal law events → HasRegisterRun events now → min (count_by is_meta (faults_in events)) (2 ^ 64 - 1) ≤ now.faults
  pub lack_there : (i unreached : ℕ) (events : List Event) → IsLegal law events → Contains (faults_in events) (cause.NoQuorum i unreached) → i < length law.shelf
  pub full_there : (i : ℕ) (events : List Event) → IsLegal law events → Contains (faults_in events) (cause.Full i) → i < length law.shelf

full_from : (v : LogletView) → (size_of v ≡ v.room) ⊎ (v.begun ≡ v.limit) → is_full v ≡ true
full_from v (inl room) = or_left (size_of v == v.room) (v.begun == v.limit) (eq-eqb (size_of v) v.room room)
full_from v (inr limit) = or_right (size_of v == v.room) (v.begun == v.limit) (eq-eqb v.begun v.limit limit)

module _ (law : Law) (told : AreCounted law) (meaning : Meaning) (lines : List NamedLine) (fault_lines : List FaultLine) (rows : List Row) (journal : List Event) (looks : List (Option Looked)) (log : List Entry) (workers : List WorkerEnd) (chain : Chain) (yard : Shown) (h : HasClosed law meaning lines fault_lines journal looks log workers) (back : IsGivenBack law journal workers chain yard) where
  abbrev played : List Played
  played = played_of lines rows looks

  abbrev faults : List Fault
  faults = h.run.faults

  of_their_nodes : AllByRecursion (λ f. (1 ≤ f.node) × (f.node ≤ length workers)) faults
  of_their_nodes = of_nodes law lines h.home (length workers) h.run looks h.courses h.joined

  -- how many faults came by such causes
  abbrev came_by : (ℕ → Cause → Bool) → ℕ
  came_by by = failed_looks by lines looks + count_by (λ f. by f.node f.cause) faults

  counted_few : (by more : ℕ → Cause → Bool) → ((n : ℕ) (k : Cause) → by n k ≡ true → more n k ≡ true) → counted by played faults ≤ came_by more
  counted_few by more imply =
      let a = paid_less by more imply lines rows looks in
      let b = counted_less (λ (f : Fault). by f.node f.cause) (λ f. more f.node f.cause) (λ f e. imply f.node f.cause e) faults in
      omega (arith, a, b)

  -- the journal tells each of them, but for those of stores
  in_journal : (P : Cause → Bool) → P cause.Store ≡ false → came_by (λ n. P) ≤ count_by P (faults_in journal)
  in_journal P store = subst (λ j. came_by (λ n. P) ≤ count_by P (faults_in j)) h.seen_is (all_events law lines h.home (length workers) h.run looks h.courses h.joined P store h.lines_are)

  -- the journal tells this cause
  in_journal_one : (P : Cause → Bool) (k : Cause) → ((j : Cause) → P j ≡ true → j ≡ k) → 1 ≤ count_by P (faults_in journal) → Contains (faults_in journal) k
  in_journal_one P k only some =
      let one = counted_among P (faults_in journal) some in
      subst (Contains (faults_in journal)) (only one.0 one.2) (contains-among (faults_in journal) one.0 one.1)

  -- The loglets

  same_length : length yard.cells ≡ length law.shelf
  same_length = sym (length-map yard.cells (λ v. v.servers)) ∙ ap length back.shelf_is

  cell_there : (i : ℕ) → i < length law.shelf → (v : LogletView) × (slice_get yard.cells i ≡ Some v)
  cell_there i low = elim ((slice_get_cases yard.cells i).1) [
    | inl some ↦ (some.0, some.2)
    | inr none ↦ absurd (let high = none.0 in omega (arith, low, high, same_length))
  ]

  not_there : (i : ℕ) → slice_get yard.cells i ≡ None → i < length law.shelf → ⊥
  not_there i none low = let v = cell_there i low in none_some v.0 (sym none ∙ v.1)
    where
      none_some : (v : LogletView) → None ≡ Some v → ⊥
      none_some v e = cc

  lacks_told : (cell : ℕ) → count_by (is_lack_of cell) (faults_in journal) ≤ lacks_of (slice_get yard.cells cell)
  lacks_told cell = by (slice_get yard.cells cell) refl
    where
      by : (o : Option LogletView) → slice_get yard.cells cell ≡ o → count_by (is_lack_of cell) (faults_in journal) ≤ lacks_of o
      by (Some v) is = told.lacks cell journal v (back.runs cell v is)
      by None is = elim (zero_or (count_by (is_lack_of cell) (faults_in journal))) [
        | inl none ↦ omega (arith, none)
        | inr some ↦ absurd (let one = counted_among (is_lack_of cell) (faults_in journal) some in
            let lack = lack_is cell one.0 one.2 in
            not_there cell is (told.lack_there cell lack.0 journal back.legal (subst (Contains (faults_in journal)) lack.1 (contains-among (faults_in journal) one.0 one.1))))
      ]

  refusals_told : (cell : ℕ) → min (count_by (is_full_of cell) (faults_in journal)) most_faults ≤ faults_of (slice_get yard.cells cell)
  refusals_told cell = by (slice_get yard.cells cell) refl
    where
      by : (o : Option LogletView) → slice_get yard.cells cell ≡ o → min (count_by (is_full_of cell) (faults_in journal)) most_faults ≤ faults_of o
      by (Some v) is = told.refusals cell journal v (back.runs cell v is)
      by None is = elim (zero_or (count_by (is_full_of cell) (faults_in journal))) [
        | inl none ↦ omega (arith, none)
        | inr some ↦ absurd (not_there cell is (told.full_there cell journal back.legal (in_journal_one (is_full_of cell) (cause.Full cell) (full_is cell) some)))
      ]

  register_told : min (count_by is_meta (faults_in journal)) most_faults ≤ yard.register.faults
  register_told = told.register journal yard.register back.legal back.register_runs

  -- The stores

  stores_few : (n : ℕ) → min (came_by (lacks_store n)) (most_faults - 1) ≤ disk_faults yard.disks n - 1
  stores_few n = elim (cases_lt 0 n) [
    | inl least ↦ elim ((slice_get_cases workers (n - 1)).1) [
      | inl some ↦ (let e : n - 1 + 1 ≡ n = omega (arith, least) in subst (λ m. min (came_by (lacks_store m)) (most_faults - 1) ≤ disk_faults yard.disks m - 1) e (at_worker (n - 1) some.0 some.2))
      | inr none ↦ nowhere (λ low high. let over = none.0 in omega (arith, over, low, high))
    ]
    | inr none ↦ nowhere (λ low high. omega (arith, none, low))
  ]
    where
      at_worker : (j : ℕ) (w : WorkerEnd) → slice_get workers j ≡ Some w → min (came_by (lacks_store (j + 1))) (most_faults - 1) ≤ disk_faults yard.disks (j + 1) - 1
      at_worker j w is =
          let counts = (h.each j w is).rests.node.stores in
          let low = slice_get_within workers j w is in
          let same = own_stores law lines h.home (length workers) h.run looks h.courses h.joined (j + 1) (omega arith) (omega (arith, low)) in
          let disk = back.disks j w is in
          let most = strikes_most w.seat.node.replica in
          omega (arith, counts, same, disk, most)

      -- nothing comes of a node that isn't there
      nowhere : (1 ≤ n → n ≤ length workers → ⊥) → min (came_by (lacks_store n)) (most_faults - 1) ≤ disk_faults yard.disks n - 1
      nowhere out =
          let looked = failed_none (lacks_store n) lines looks (all-imply (λ (l : NamedLine). (1 ≤ l.node) × (l.node ≤ length workers)) (λ (l : NamedLine). (k : Cause) → lacks_store n l.node k ≡ false) lines not_looked h.lines_are.nodes_are) in
          elim (zero_or (count_by (λ f. lacks_store n f.node f.cause) faults)) [
            | inl none ↦ omega (arith, looked, none)
            | inr some ↦ absurd (let one = counted_among (λ (f : Fault). lacks_store n f.node f.cause) faults some in
                let is = store_at n one.0.node one.0.cause one.2 in
                let there = all-at (λ (f : Fault). (1 ≤ f.node) × (f.node ≤ length workers)) faults one.0 of_their_nodes one.1 in
                let low = there.0 in
                let high = there.1 in
                out (omega (arith, low, is)) (omega (arith, high, is)))
          ]
        where
          not_looked : (l : NamedLine) → (1 ≤ l.node) × (l.node ≤ length workers) → (k : Cause) → lacks_store n l.node k ≡ false
          not_looked l there k = false_from_ne_true (lacks_store n l.node k) (λ e.
              let is = store_at n l.node k e in
              let low = there.0 in
              let high = there.1 in
              out (omega (arith, low, is)) (omega (arith, high, is)))

  -- Each stands

  -- a fault of this cause came to the node
  abbrev Came : ℕ → Cause → Type 0
  Came n k = (by : ℕ → Cause → Bool) → by n k ≡ true → 1 ≤ came_by by

  told_one : (P : Cause → Bool) (n : ℕ) (k : Cause) → P cause.Store ≡ false → P k ≡ true → ((j : Cause) → P j ≡ true → j ≡ k) → Came n k → Contains (faults_in journal) k
  told_one P n k store is only came = in_journal_one P k only (let a = in_journal P store in let b = came (λ m. P) is in omega (arith, a, b))

  lack_stands : (id unreached : ℕ) → Contains (faults_in journal) (cause.NoQuorum id unreached) → some_is (slice_get yard.cells id) (lacked unreached) ≡ true
  lack_stands id unreached has =
      let v = cell_there id (told.lack_there id unreached journal back.legal has) in
      let l = told.lack id unreached journal v.0 (back.runs id v.0 v.1) has in
      let s = lack_of_servers id unreached journal v.0 (back.runs id v.0 v.1) has in
      let some = nat_le 1 unreached in
      let enough = nat_le v.0.quorum unreached in
      let there = nat_le unreached v.0.servers in
      let lacks = nat_le 1 v.0.lacks in
      subst (λ o. some_is o (lacked unreached) ≡ true) (sym v.1)
      (and_from (some && enough && there && lacks) (nat_le 1 v.0.faults)
      (and_from (some && enough && there) lacks
      (and_from (some && enough) there (and_from some enough (le-leb 1 unreached l.0) (le-leb v.0.quorum unreached s.0)) (le-leb unreached v.0.servers s.1))
      (le-leb 1 v.0.lacks l.1))
      (le-leb 1 v.0.faults l.2))

  full_stands : (id : ℕ) → Contains (faults_in journal) (cause.Full id) → some_is (slice_get yard.cells id) is_full ≡ true
  full_stands id has =
      let v = cell_there id (told.full_there id journal back.legal has) in
      subst (λ o. some_is o is_full ≡ true) (sym v.1) (full_from v.0 (told.full id journal v.0 (back.runs id v.0 v.1) has))

  came_stands : (n : ℕ) (k : Cause) → Came n k → stands yard n k ≡ true
  came_stands n (cause.NoQuorum id unreached) came =
      lack_stands id unreached (told_one (lacks_so id unreached) n (cause.NoQuorum id unreached) refl
      (and_from (id == id) (unreached == unreached) (eq-eqb id id refl) (eq-eqb unreached unreached refl)) (lack_so id unreached) came)
  came_stands n (cause.Full id) came = full_stands id (told_one (is_full_of id) n (cause.Full id) refl (eq-eqb id id refl) (full_is id) came)
  came_stands n cause.Meta came =
      le-leb 1 yard.register.faults (let a = in_journal is_meta refl in let b = came (λ m. is_meta) refl in let told_so = register_told in omega (arith, a, b, told_so))
  came_stands n cause.Store came =
      le-leb 1 (disk_faults yard.disks n) (let b = came (lacks_store n) (eq-eqb n n refl) in let few = stores_few n in omega (arith, b, few))

  fault_came : (f : Fault) → Among faults f → Came f.node f.cause
  fault_came f m by is = let some = among_counted (λ (g : Fault). by g.node g.cause) faults f m is in omega (arith, some)

  look_came : (t : Played) → Among played t → (k : Cause) → t.paid ≡ Some k → Came t.line.node k
  look_came t m k paid by is =
      let some = among_counted (paid_by by) played t m (ap (pays (by t.line.node)) paid ∙ is) in
      let few = paid_less by by (λ n j e. e) lines rows looks in
      omega (arith, some, few)

  pub faults_came : FaultsCame played faults yard
  faults_came = record {
    stand = all-of (λ (f : Fault). stands yard f.node f.cause ≡ true) faults (λ f m. came_stands f.node f.cause (fault_came f m));
    paid = all-of (PaidStands yard) played (λ t m k is. came_stands t.line.node k (look_came t m k is));
    nodes = subst (λ n. AllByRecursion (λ (f : Fault). (1 ≤ f.node) × (f.node ≤ n)) faults) (sym back.nodes) of_their_nodes;
    lacks = λ cell.
        let few = counted_few (lacks_quorum cell) (λ n. is_lack_of cell) (lacks_it cell) in
        let a = in_journal (is_lack_of cell) refl in
        let b = lacks_told cell in
        omega (arith, few, a, b);
    refusals = λ cell.
        let few = counted_few (finds_full cell) (λ n. is_full_of cell) (fills_it cell) in
        let a = in_journal (is_full_of cell) refl in
        let b = refusals_told cell in
        omega (arith, few, a, b);
    register =
        let few = counted_few lacks_register (λ n. is_meta) fails_it in
        let a = in_journal is_meta refl in
        let b = register_told in
        omega (arith, few, a, b);
    stores = λ n.
        let few = counted_few (lacks_store n) (lacks_store n) (λ m k e. e) in
        let b = stores_few n in
        omega (arith, few, b);
  }
