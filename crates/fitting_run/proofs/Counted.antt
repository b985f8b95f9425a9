-- Each cause came as often as the rows need, since it did where a row tells it.
use Rattle.std.proofs.Common.{◌≡◌, ◌≤◌, refl, sym, ap, ◌∙◌, subst, inl, inr, ℕ, ◌+◌, ◌-◌, nat_le, Bool, true, false, not, ◌&&◌, ◌||◌, ◌↔◌, IsTrue, List, [], ◌∷◌, ◌++◌, Option, Some, None, length, slice_get, arith}
use Rattle.std.specs.List.{list_all, list_any}
use Rattle.std.proofs.lemmas.Bool.{and_from, and_left, and_parts, cases_Bool, eqb-true, false≢true, le-leb, leb-true}
use Rattle.delos_types.specs.declared.cause.Cause.{Cause}
use Rattle.delos_types.specs.declared.cause.Cause.TheVariants as cause
use Rattle.loglet_api.specs.View.{LogletView}
use Rattle.fitting_run.specs.declared.answered.Answered.{Answered}
use Rattle.fitting_run.specs.Answered.{cause_of}
use Rattle.fitting_run.specs.Tests.{some_is}
use Rattle.fitting_run.specs.Yards.{lacks_suffice, refusals_suffice}
use Rattle.fitting_run.specs.Faults.{picked, is_opened, is_alone, occasions, stops, turns_of, lacks_quorum, finds_full, lacks_store, lacks_of, faults_of, disk_faults}

-- the row tells such a cause
abbrev names : (ℕ → Cause → Bool) → Answered → Bool
names by a = some_is (cause_of a.row.outcome) (by a.line.node)

not-opened : (x y z : Bool) → x ≡ false → ((x && y) && z) ≡ false
not-opened x y z e = and_left (x && y) z (and_left x y e)

neither : (x y : Bool) → (x || y) ≡ false → (x ≡ false) × (y ≡ false)
neither true y e = absurd (false≢true (sym e))
neither false y e = (refl, e)

none-picked : (test : List Answered → Answered → Bool) (names : Answered → Bool) → ((before : List Answered) (a : Answered) → names a ≡ false → test before a ≡ false)
    → (before told : List Answered) → list_any names told ≡ false → picked test before told ≡ []
none-picked test names fails before [] h = refl
none-picked test names fails before (a ∷ rest) h =
    let parts = neither (names a) (list_any names rest) h in
    rw (fails before a parts.0) (none-picked test names fails (before ++ a ∷ []) rest parts.1)

none-came : (by : ℕ → Cause → Bool) (told : List Answered) → list_any (names by) told ≡ false → occasions by told ≡ 0
none-came by told h =
    let alone : List Answered → Answered → Bool = λ before b. is_opened by before b && is_alone before b in
    let other : List Answered → Answered → Bool = λ before b. is_opened by before b && not (is_alone before b) in
    let looks : picked alone [] told ≡ [] = none-picked alone (names by) (λ before a e. not-opened (names by a) (not (list_any (stops a) before)) (is_alone before a) e) [] told h in
    let others : picked other [] told ≡ [] = none-picked other (names by) (λ before a e. not-opened (names by a) (not (list_any (stops a) before)) (not (is_alone before a)) e) [] told h in
    let no_looks : length (picked alone [] told) ≡ 0 = ap length looks in
    let no_turns : turns_of (picked other [] told) ≡ 0 = ap turns_of others in
    let none : length (picked alone [] told) + turns_of (picked other [] told) ≡ 0 = omega arith in
    none

some-tells : {P : Type 0} (test tells : Answered → Bool) → ((a : Answered) → test a ≡ true → tells a ≡ true → P)
    → (some : List Answered) → list_all test some ≡ true → list_any tells some ≡ true → P
some-tells test tells gives [] h e = absurd (false≢true e)
some-tells test tells gives (a ∷ rest) h e =
    let parts = and_parts (test a) (list_all test rest) h in
    elim (cases_Bool (tells a)) [
      | inl told ↦ gives a parts.0 told
      | inr not_told ↦ some-tells test tells gives rest parts.1 (sym (ap (λ b. b || list_any tells rest) not_told) ∙ e)
    ]

-- so often at most, where each row that tells such a cause says so
pub counted : (by : ℕ → Cause → Bool) (told : List Answered) (test : Answered → Bool) (most : ℕ)
    → ((a : Answered) → test a ≡ true → names by a ≡ true → occasions by told ≤ most)
    → list_all test told ≡ true → occasions by told ≤ most
counted by told test most gives h =
    elim (cases_Bool (list_any (names by) told)) [
      | inl some ↦ some-tells test (names by) gives told h some
      | inr none ↦ subst (λ n. n ≤ most) (sym (none-came by told none)) (omega arith)
    ]

each-passes : {A : Type 0} (p : A → Bool) (xs : List A) → ((x : A) → p x ≡ true) → list_all p xs ≡ true
each-passes p [] f = refl
each-passes p (x ∷ xs) f = and_from (p x) (list_all p xs) (f x) (each-passes p xs f)

-- Loglets that lacked a quorum

lack-told : (told : List Answered) (cells : List LogletView) (cell node : ℕ) (c : Option Cause) → lacks_suffice told cells c ≡ true → some_is c (lacks_quorum cell node) ≡ true
    → occasions (lacks_quorum cell) told ≤ lacks_of (slice_get cells cell)
lack-told told cells cell node None h e = absurd (false≢true e)
lack-told told cells cell node (Some (cause.NoQuorum id unreached)) h e =
    subst (λ id. occasions (lacks_quorum id) told ≤ lacks_of (slice_get cells id)) (eqb-true id cell e) (leb-true (occasions (lacks_quorum id) told) (lacks_of (slice_get cells id)) h)
lack-told told cells cell node (Some (cause.Full id)) h e = absurd (false≢true e)
lack-told told cells cell node (Some cause.Meta) h e = absurd (false≢true e)
lack-told told cells cell node (Some cause.Store) h e = absurd (false≢true e)

lack-suffices : (told : List Answered) (cells : List LogletView) → ((cell : ℕ) → occasions (lacks_quorum cell) told ≤ lacks_of (slice_get cells cell)) → (c : Option Cause) → lacks_suffice told cells c ≡ true
lack-suffices told cells h None = refl
lack-suffices told cells h (Some (cause.NoQuorum id unreached)) = le-leb (occasions (lacks_quorum id) told) (lacks_of (slice_get cells id)) (h id)
lack-suffices told cells h (Some (cause.Full id)) = refl
lack-suffices told cells h (Some cause.Meta) = refl
lack-suffices told cells h (Some cause.Store) = refl

pub lacks-counted : (told : List Answered) (cells : List LogletView)
    → IsTrue (list_all (λ a. lacks_suffice told cells (cause_of a.row.outcome)) told) ↔ ((cell : ℕ) → occasions (lacks_quorum cell) told ≤ lacks_of (slice_get cells cell))
lacks-counted told cells = (
  (λ h cell. counted (lacks_quorum cell) told (λ a. lacks_suffice told cells (cause_of a.row.outcome)) (lacks_of (slice_get cells cell)) (λ a. lack-told told cells cell a.line.node (cause_of a.row.outcome)) h),
  (λ h. each-passes (λ a. lacks_suffice told cells (cause_of a.row.outcome)) told (λ a. lack-suffices told cells h (cause_of a.row.outcome))),
)

-- Loglets that were full

refusal-told : (told : List Answered) (cells : List LogletView) (cell node : ℕ) (c : Option Cause) → refusals_suffice told cells c ≡ true → some_is c (finds_full cell node) ≡ true
    → occasions (finds_full cell) told ≤ faults_of (slice_get cells cell)
refusal-told told cells cell node None h e = absurd (false≢true e)
refusal-told told cells cell node (Some (cause.NoQuorum id unreached)) h e = absurd (false≢true e)
refusal-told told cells cell node (Some (cause.Full id)) h e =
    subst (λ id. occasions (finds_full id) told ≤ faults_of (slice_get cells id)) (eqb-true id cell e) (leb-true (occasions (finds_full id) told) (faults_of (slice_get cells id)) h)
refusal-told told cells cell node (Some cause.Meta) h e = absurd (false≢true e)
refusal-told told cells cell node (Some cause.Store) h e = absurd (false≢true e)

refusal-suffices : (told : List Answered) (cells : List LogletView) → ((cell : ℕ) → occasions (finds_full cell) told ≤ faults_of (slice_get cells cell)) → (c : Option Cause) → refusals_suffice told cells c ≡ true
refusal-suffices told cells h None = refl
refusal-suffices told cells h (Some (cause.NoQuorum id unreached)) = refl
refusal-suffices told cells h (Some (cause.Full id)) = le-leb (occasions (finds_full id) told) (faults_of (slice_get cells id)) (h id)
refusal-suffices told cells h (Some cause.Meta) = refl
refusal-suffices told cells h (Some cause.Store) = refl

pub refusals-counted : (told : List Answered) (cells : List LogletView)
    → IsTrue (list_all (λ a. refusals_suffice told cells (cause_of a.row.outcome)) told) ↔ ((cell : ℕ) → occasions (finds_full cell) told ≤ faults_of (slice_get cells cell))
refusals-counted told cells = (
  (λ h cell. counted (finds_full cell) told (λ a. refusals_suffice told cells (cause_of a.row.outcome)) (faults_of (slice_get cells cell)) (λ a. refusal-told told cells cell a.line.node (cause_of a.row.outcome)) h),
  (λ h. each-passes (λ a. refusals_suffice told cells (cause_of a.row.outcome)) told (λ a. refusal-suffices told cells h (cause_of a.row.outcome))),
)

-- Disks

store-told : (told : List Answered) (disks : List ℕ) (n node : ℕ) (c : Option Cause) → nat_le (occasions (lacks_store node) told) (disk_faults disks node - 1) ≡ true → some_is c (lacks_store n node) ≡ true
    → occasions (lacks_store n) told ≤ disk_faults disks n - 1
store-told told disks n node None h e = absurd (false≢true e)
store-told told disks n node (Some (cause.NoQuorum id unreached)) h e = absurd (false≢true e)
store-told told disks n node (Some (cause.Full id)) h e = absurd (false≢true e)
store-told told disks n node (Some cause.Meta) h e = absurd (false≢true e)
store-told told disks n node (Some cause.Store) h e =
    subst (λ n. occasions (lacks_store n) told ≤ disk_faults disks n - 1) (eqb-true node n e) (leb-true (occasions (lacks_store node) told) (disk_faults disks node - 1) h)

pub stores-counted : (told : List Answered) (disks : List ℕ)
    → IsTrue (list_all (λ a. nat_le (occasions (lacks_store a.line.node) told) (disk_faults disks a.line.node - 1)) told) ↔ ((node : ℕ) → occasions (lacks_store node) told ≤ disk_faults disks node - 1)
stores-counted told disks = (
  (λ h node. counted (lacks_store node) told (λ a. nat_le (occasions (lacks_store a.line.node) told) (disk_faults disks a.line.node - 1)) (disk_faults disks node - 1) (λ a. store-told told disks node a.line.node (cause_of a.row.outcome)) h),
  (λ h. each-passes (λ (a : Answered). nat_le (occasions (lacks_store a.line.node) told) (disk_faults disks a.line.node - 1)) told (λ a. le-leb (occasions (lacks_store a.line.node) told) (disk_faults disks a.line.node - 1) (h a.line.node))),
)
