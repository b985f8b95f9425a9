-- Where no fault was counted, none came, so no row is open or late.
use Rattle.std.proofs.Common.{◌≡◌, refl, ap, ◌∙◌, inl, inr, ℕ, zero, suc, ◌-◌, ◌≤◌, Bool, true, false, nat_le, ◌&&◌, List, [], ◌∷◌, count_by, sum_by, slice_get, get_or, Option, Some, None, arith, eq-eqb}
use Rattle.std.proofs.lemmas.Bool.{and_parts, both_ways, leb-true, false_from_ne_true, not_from_false}
use Rattle.std.proofs.lemmas.List.Sums.{sum_by-cons}
use Rattle.delos_types.specs.declared.cause.Cause.{Cause}
use Rattle.delos_types.specs.declared.cause.Cause.TheVariants as cause
use Rattle.loglet_api.specs.View.{LogletView}
use Rattle.script_text.specs.declared.faults.FaultLine.{FaultLine}
use Rattle.row_text.specs.declared.row.Row.{Row}
use Rattle.row_text.specs.declared.row.Outcome.{Outcome}
use Rattle.row_text.specs.declared.row.Outcome.TheVariants as out
use Rattle.fitting_run.specs.declared.told.Told.{Told}
use Rattle.fitting_run.specs.Answered.{cause_of, is_late}
use Rattle.fitting_run.specs.Calm.{IsCalm, all_answered, is_answered}
use Rattle.fitting_run.specs.Faults.{disk_faults, faults_of, finds_full, lacked, stands}
use Rattle.fitting_run.specs.Tests.{some_is}
use Rattle.fitting_run.specs.Yard.{Shown}
use Rattle.run_laws.specs.Ended.{CameTo, Fault, PaidStands, Played, RunEnded, counted, paid_by, pays, session_in}
use Rattle.run_laws.proofs.Behind.{after-each}
use Rattle.run_laws.proofs.Causes.{Ended, came-stands, ended-among, has-cause, late-came, stop-came}
use Rattle.run_laws.proofs.Members.{Among, all-at, all-test, contained-among}
use Rattle.run_laws.proofs.Occasions.{all_ended}
use Rattle.run_laws.proofs.Spread.{one_if}

-- What a sum of nothing has

cell-faults : (cells : List LogletView) (id : ℕ) → faults_of (slice_get cells id) ≤ sum_by (λ v. v.faults) cells
cell-faults [] id = omega arith
cell-faults (v ∷ cells) zero = omega (arith, sum_by-cons (λ (v : LogletView). v.faults) v cells)
cell-faults (v ∷ cells) (suc id) = omega (arith, sum_by-cons (λ (v : LogletView). v.faults) v cells, cell-faults cells id)

disk-faults : (disks : List ℕ) (i : ℕ) → get_or disks i 0 ≤ sum_by (λ n. n) disks
disk-faults [] i = omega arith
disk-faults (n ∷ disks) zero = omega (arith, sum_by-cons (λ (n : ℕ). n) n disks)
disk-faults (n ∷ disks) (suc i) = omega (arith, sum_by-cons (λ (n : ℕ). n) n disks, disk-faults disks i)

some-counted : {A : Type 0} (p : A → Bool) (xs : List A) (x : A) → Among xs x → p x ≡ true → 1 ≤ count_by p xs
some-counted p [] x m e = absurd m
some-counted p (y ∷ ys) x m e = elim m [
  | inl same ↦ let here : one_if (p y) ≡ 1 = ap (λ z. one_if (p z)) same ∙ ap one_if e in omega (arith, sum_by-cons (λ z. one_if (p z)) y ys, here)
  | inr later ↦ let more = some-counted p ys x later e in omega (arith, sum_by-cons (λ z. one_if (p z)) y ys, more)
]

-- a loglet that lacked servers counted a fault
lacked-fault : (unreached : ℕ) (o : Option LogletView) → some_is o (lacked unreached) ≡ true → 1 ≤ faults_of o
lacked-fault unreached None e = absurd (both_ways false refl e)
lacked-fault unreached (Some v) e =
    leb-true 1 v.faults (and_parts (nat_le 1 unreached && nat_le v.quorum unreached && nat_le unreached v.servers && nat_le 1 v.lacks) (nat_le 1 v.faults) e).1

-- a row that is neither open nor late is answered
answered-from : (o : Outcome) → ((k : Cause) → cause_of o ≡ Some k → ⊥) → (is_late o ≡ true → ⊥) → is_answered o ≡ true
answered-from (out.Placed place reply late) shut timely = not_from_false late (false_from_ne_true late timely)
answered-from (out.Open k) shut timely = absurd (shut k refl)
answered-from o shut timely = refl

module _ (played : List Played) (fault_lines : List FaultLine) (o : Told) (yard : Shown) (e : RunEnded played fault_lines o yard) (calm : IsCalm yard) where
  -- no cause stands, but that of a full loglet, and no full loglet refused anything
  no-cause : (node : ℕ) (k : Cause) → stands yard node k ≡ true → ((id : ℕ) → k ≡ cause.Full id → 1 ≤ counted (finds_full id) played e.faults) → ⊥
  no-cause node (cause.NoQuorum id unreached) h full =
      let one = lacked-fault unreached (slice_get yard.cells id) h in
      absurd (omega (arith, calm, one, cell-faults yard.cells id))
  no-cause node (cause.Full id) h full =
      let one = full id refl in
      let few = e.came.refusals id in
      absurd (omega (arith, calm, one, few, cell-faults yard.cells id))
  no-cause node cause.Meta h full = absurd (omega (arith, calm, leb-true 1 yard.register.faults h))
  no-cause node cause.Store h full = absurd (omega (arith, calm, leb-true 1 (disk_faults yard.disks node) h, disk-faults yard.disks (node - 1)))

  none-came : (k : Cause) (node phase : ℕ) → CameTo e.faults k node phase → ⊥
  none-came k node phase c =
      let f : Fault = c.fault in
      no-cause node k (came-stands played fault_lines o yard e k node phase c) (λ id is.
      let found : finds_full id f.node f.cause ≡ true = ap (finds_full id f.node) (c.cause_is ∙ is) ∙ eq-eqb id id refl in
      let one = some-counted (λ (f : Fault). finds_full id f.node f.cause) e.faults f (contained-among e.faults f c.among) found in
      omega (arith, one))

  none-paid : (t : Played) (k : Cause) → Among played t → t.paid ≡ Some k → ⊥
  none-paid t k m paid =
      no-cause t.line.node k (all-at (PaidStands yard) played t e.came.paid m k paid) (λ id is.
      let found : paid_by (finds_full id) t ≡ true = ap (pays (finds_full id t.line.node)) (paid ∙ ap Some is) ∙ eq-eqb id id refl in
      let one = some-counted (paid_by (finds_full id)) played t m found in
      omega (arith, one))

  row-answered : (before : List Played) (t : Played) → Ended played fault_lines o yard e before t → is_answered t.row.outcome ≡ true
  row-answered before t h =
      let m = ended-among played fault_lines o yard e before t h in
      answered-from t.row.outcome
      (λ k is. elim (has-cause played fault_lines o yard e before t k h is) [
        | inl paid ↦ none-paid t k m paid
        | inr more ↦ elim more.1 [
          | inl stopped ↦ none-came k t.line.node (e.ends (session_in t.line.asks)).when (stop-came played fault_lines o yard e t k m more.0 stopped.0)
          | inr came ↦ none-came k t.line.node t.line.phase came.1
        ]
      ])
      (λ late. let c = late-came played fault_lines o yard e before t h late in none-came c.0 t.line.node t.line.phase c.1)

  pub calm-answers : all_answered o.rows ≡ true
  calm-answers =
      ap all_answered e.rows
      ∙ all-test (λ (t : Played). t.row) (λ (r : Row). is_answered r.outcome) played
      (after-each (Ended played fault_lines o yard e) (λ t. is_answered t.row.outcome ≡ true) [] played row-answered (all_ended played fault_lines o yard e))
