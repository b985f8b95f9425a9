-- Each fault is of one of four kinds, and the faults of each kind were counted: at the loglets, at the register or at the disks.
use Rattle.std.proofs.Common.{◌≡◌, refl, ap, ◌∙◌, subst, ℕ, ◌+◌, ◌-◌, ◌≤◌, min, Bool, true, false, List, [], ◌∷◌, length, count_by, sum_by, slice_get, get_or, Option, Some, None, IsSome, if◌then◌else◌, arith, eqb-true, eq-eqb}
use Rattle.std.proofs.lemmas.Bool.{both_ways}
use Rattle.std.proofs.lemmas.List.Sums.{sum_by-cons}
use Rattle.std.proofs.lemmas.Option.{get_or_from_slice_get, slice_get-get_or}
use Rattle.delos_types.specs.declared.cause.Cause.{Cause}
use Rattle.delos_types.specs.declared.cause.Cause.TheVariants as cause
use Rattle.loglet_api.specs.View.{LogletView}
use Rattle.fitting_run.specs.Faults.{faults_of, finds_full, is_full, lacked, lacks_of, lacks_quorum, lacks_register, lacks_store, refusals_of, stands}
use Rattle.fitting_run.specs.Tests.{some_is}
use Rattle.fitting_run.specs.Yard.{Shown}
use Rattle.log_laws.proofs.Pairs.{all-imply}
use Rattle.run_laws.specs.Ended.{Fault, FaultsCame, Played, counted, most_faults}
use Rattle.run_laws.proofs.Spread.{IsPlacedIn, count-none, one_if, spread}

abbrev lacks : Cause → Bool
lacks (cause.NoQuorum id unreached) = true
lacks other = false

abbrev fills : Cause → Bool
fills (cause.Full id) = true
fills other = false

abbrev fails_store : Cause → Bool
fails_store cause.Store = true
fails_store other = false

abbrev pub came_by : (ℕ → Cause → Bool) → List Fault → ℕ
came_by by faults = count_by (λ f. by f.node f.cause) faults

one_kind : (node : ℕ) (c : Cause) → one_if (lacks c) + one_if (fills c) + one_if (lacks_register node c) + one_if (fails_store c) ≡ 1
one_kind node (cause.NoQuorum id unreached) = refl
one_kind node (cause.Full id) = refl
one_kind node cause.Meta = refl
one_kind node cause.Store = refl

four_kinds : (faults : List Fault) → length faults ≡ came_by (λ n c. lacks c) faults + came_by (λ n c. fills c) faults + came_by lacks_register faults + came_by (λ n c. fails_store c) faults
four_kinds [] = refl
four_kinds (f ∷ faults) =
    omega (
      arith,
      four_kinds faults,
      one_kind f.node f.cause,
      sum_by-cons (λ (f : Fault). one_if (lacks f.cause)) f faults,
      sum_by-cons (λ (f : Fault). one_if (fills f.cause)) f faults,
      sum_by-cons (λ (f : Fault). one_if (lacks_register f.node f.cause)) f faults,
      sum_by-cons (λ (f : Fault). one_if (fails_store f.cause)) f faults,
    )

-- Where each fault was counted

is_some-test : {A : Type 0} (o : Option A) (test : A → Bool) → some_is o test ≡ true → IsSome o
is_some-test None test e = absurd (both_ways false refl e)
is_some-test (Some x) test e = refl

abbrev quorum_at : ℕ → Fault → Bool
quorum_at id f = lacks_quorum id f.node f.cause

abbrev full_at : ℕ → Fault → Bool
full_at id f = finds_full id f.node f.cause

abbrev store_at : ℕ → Fault → Bool
store_at n f = lacks_store n f.node f.cause

lack-placed : (yard : Shown) (f : Fault) (c : Cause) → f.cause ≡ c → stands yard f.node c ≡ true → lacks c ≡ true → IsPlacedIn yard.cells 0 quorum_at f
lack-placed yard f (cause.NoQuorum id unreached) is h e =
    record { at = id; within = is_some-test (slice_get yard.cells id) (lacked unreached) h; passes = ap (lacks_quorum (0 + id) f.node) is ∙ eq-eqb id (0 + id) (omega arith) }
lack-placed yard f (cause.Full id) is h e = absurd (both_ways false refl e)
lack-placed yard f cause.Meta is h e = absurd (both_ways false refl e)
lack-placed yard f cause.Store is h e = absurd (both_ways false refl e)

full-placed : (yard : Shown) (f : Fault) (c : Cause) → f.cause ≡ c → stands yard f.node c ≡ true → fills c ≡ true → IsPlacedIn yard.cells 0 full_at f
full-placed yard f (cause.Full id) is h e =
    record { at = id; within = is_some-test (slice_get yard.cells id) is_full h; passes = ap (finds_full (0 + id) f.node) is ∙ eq-eqb id (0 + id) (omega arith) }
full-placed yard f (cause.NoQuorum id unreached) is h e = absurd (both_ways false refl e)
full-placed yard f cause.Meta is h e = absurd (both_ways false refl e)
full-placed yard f cause.Store is h e = absurd (both_ways false refl e)

store-placed : (disks : List ℕ) (f : Fault) (c : Cause) → f.cause ≡ c → (1 ≤ f.node) × (f.node ≤ length disks) → fails_store c ≡ true → IsPlacedIn disks 1 store_at f
store-placed disks f cause.Store is h e =
    let low = h.0 in
    let high = h.1 in
    let there = slice_get-get_or disks (f.node - 1) 0 (omega (arith, low, high)) in
    record { at = f.node - 1; within = rw there refl; passes = ap (lacks_store (1 + (f.node - 1)) f.node) is ∙ eq-eqb f.node (1 + (f.node - 1)) (omega (arith, low)) }
store-placed disks f (cause.NoQuorum id unreached) is h e = absurd (both_ways false refl e)
store-placed disks f (cause.Full id) is h e = absurd (both_ways false refl e)
store-placed disks f cause.Meta is h e = absurd (both_ways false refl e)

-- a loglet that a fault found full is full
found_full : (yard : Shown) (node i : ℕ) (v : LogletView) (c : Cause) → stands yard node c ≡ true → finds_full i node c ≡ true → slice_get yard.cells i ≡ Some v → is_full v ≡ true
found_full yard node i v (cause.Full id) h e is =
    let there : slice_get yard.cells id ≡ Some v = ap (slice_get yard.cells) (eqb-true id i e) ∙ is in
    subst (λ o. some_is o is_full ≡ true) there h
found_full yard node i v (cause.NoQuorum id unreached) h e is = absurd (both_ways false refl e)
found_full yard node i v cause.Meta h e is = absurd (both_ways false refl e)
found_full yard node i v cause.Store h e is = absurd (both_ways false refl e)

-- Each kind

module _ (played : List Played) (faults : List Fault) (yard : Shown) (h : FaultsCame played faults yard) where
  abbrev Stands : Fault → Type 0
  Stands f = stands yard f.node f.cause ≡ true

  came-counted : (by : ℕ → Cause → Bool) (n : ℕ) → min (counted by played faults) most_faults ≤ n → min (came_by by faults) most_faults ≤ n
  came-counted by n low = omega (arith, low)

  -- the first fault of a store is no cause
  came-spared : (by : ℕ → Cause → Bool) (n : ℕ) → min (counted by played faults) (most_faults - 1) ≤ n - 1 → min (came_by by faults) most_faults ≤ n
  came-spared by n low = omega (arith, low)

  lacks-few : min (came_by (λ n c. lacks c) faults) most_faults ≤ sum_by (λ v. v.lacks) yard.cells
  lacks-few =
      spread (λ v. v.lacks) quorum_at most_faults faults yard.cells 0 (λ f. lacks f.cause)
      (λ i v is. subst (λ n. min (count_by (quorum_at n) faults) most_faults ≤ v.lacks) (let z : i ≡ 0 + i = omega arith in z)
      (let few : counted (lacks_quorum i) played faults ≤ v.lacks = subst (λ o. counted (lacks_quorum i) played faults ≤ lacks_of o) is (h.lacks i) in omega (arith, few)))
      (all-imply Stands (λ f. lacks f.cause ≡ true → IsPlacedIn yard.cells 0 quorum_at f) faults (λ f k. lack-placed yard f f.cause refl k) h.stand)

  refusals-few : min (came_by (λ n c. fills c) faults) most_faults ≤ sum_by refusals_of yard.cells
  refusals-few =
      spread refusals_of full_at most_faults faults yard.cells 0 (λ f. fills f.cause)
      (λ i v is. subst (λ n. min (count_by (full_at n) faults) most_faults ≤ refusals_of v) (let z : i ≡ 0 + i = omega arith in z) (at_cell i v is))
      (all-imply Stands (λ f. fills f.cause ≡ true → IsPlacedIn yard.cells 0 full_at f) faults (λ f k. full-placed yard f f.cause refl k) h.stand)
    where
      at_cell : (i : ℕ) (v : LogletView) → slice_get yard.cells i ≡ Some v → min (count_by (full_at i) faults) most_faults ≤ refusals_of v
      at_cell i v is =
          elim (is_full v) as (λ t. is_full v ≡ t → min (count_by (full_at i) faults) most_faults ≤ (if t then v.faults else 0)) [
            | true ↦ λ full. came-counted (finds_full i) v.faults (subst (λ o. min (counted (finds_full i) played faults) most_faults ≤ faults_of o) is (h.refusals i))
            | false ↦ λ room.
                let none = count-none (full_at i) faults (all-imply Stands (λ f. full_at i f ≡ true → ⊥) faults (λ f k e. both_ways (is_full v) room (found_full yard f.node i v f.cause k e is)) h.stand) in
                omega (arith, none)
          ] refl

  register-few : min (came_by lacks_register faults) most_faults ≤ yard.register.faults
  register-few = came-counted lacks_register yard.register.faults h.register

  stores-few : min (came_by (λ n c. fails_store c) faults) most_faults ≤ sum_by (λ n. n) yard.disks
  stores-few =
      spread (λ n. n) store_at most_faults faults yard.disks 1 (λ f. fails_store f.cause)
      (λ i v is. came-spared (lacks_store (1 + i)) v
      (subst (λ n. min (counted (lacks_store (1 + i)) played faults) (most_faults - 1) ≤ n - 1)
      (ap (λ n. get_or yard.disks n 0) (let z : (1 + i) - 1 ≡ i = omega arith in z) ∙ get_or_from_slice_get yard.disks i v 0 is) (h.stores (1 + i))))
      (all-imply (λ (f : Fault). (1 ≤ f.node) × (f.node ≤ length yard.disks)) (λ f. fails_store f.cause ≡ true → IsPlacedIn yard.disks 1 store_at f) faults
      (λ f k. store-placed yard.disks f f.cause refl k) h.nodes)

  -- so many as the faults, and no more than a count goes to
  pub all-few : (n : ℕ) → n ≤ length faults → n ≤ most_faults → n ≤ sum_by (λ v. v.lacks) yard.cells + sum_by refusals_of yard.cells + yard.register.faults + sum_by (λ n. n) yard.disks
  all-few n few most = omega (arith, few, most, four_kinds faults, lacks-few, refusals-few, register-few, stores-few)
