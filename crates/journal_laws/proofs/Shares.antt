-- The faults of several users.
use Rattle.std.proofs.Common.{◌≡◌, ◌≢◌, refl, sym, ap, ◌∙◌, ℕ, suc, ◌+◌, ◌≤◌, Bool, true, false, cond, List, [], ◌∷◌, arith}
use Rattle.std.specs.Prelude.{All, AllPairs, sum_by, count_by, ◌==◌}
use Rattle.std.proofs.lemmas.Bool.Decides.{nat_tests}
use Rattle.std.proofs.lemmas.List.Elements.{All-head, All-tail, filter_map-append}
use Rattle.std.proofs.lemmas.List.Sums.{sum_by-cons, sum_by-append}
use Rattle.delos_types.specs.declared.cause.Cause.{Cause}
use Rattle.legal_journal.specs.declared.events.Event.{Event}
use Rattle.journal_laws.specs.Faults.{fault_of, faults_in}
use Rattle.journal_laws.specs.Own.{own, faults_of}

-- how an event counts that is of the user, and how another
abbrev if_its : Bool → ℕ → ℕ
if_its b n = cond b n 0

-- a user differs from each one behind it, and so do these
apart_head : (u : ℕ) (us : List ℕ) → AllPairs (λ a b. a ≢ b) (u ∷ us) → All (λ b. u ≢ b) us
apart_head u us h = λ k d l. h 0 (suc k) d (omega arith) (omega (arith, l))

apart_tail : (u : ℕ) (us : List ℕ) → AllPairs (λ a b. a ≢ b) (u ∷ us) → AllPairs (λ a b. a ≢ b) us
apart_tail u us h = λ i j d l m. h (suc i) (suc j) d (omega (arith, l)) (omega (arith, m))

sum-add : (f g h : ℕ → ℕ) (us : List ℕ) → ((u : ℕ) → h u ≡ f u + g u) → sum_by h us ≡ sum_by f us + sum_by g us
sum-add f g h [] is = refl
sum-add f g h (u ∷ us) is = omega (arith, sum_by-cons f u us, sum_by-cons g u us, sum_by-cons h u us, is u, sum-add f g h us is)

-- what an event of nobody among them counts
sum-none : (who n : ℕ) (us : List ℕ) → All (λ u. who ≢ u) us → sum_by (λ u. if_its (who == u) n) us ≡ 0
sum-none who n [] h = refl
sum-none who n (u ∷ us) h = omega (arith, sum_by-cons (λ v. if_its (who == v) n) u us, not_its (who == u) refl, sum-none who n us (All-tail (λ v. who ≢ v) u us h))
  where
    not_its : (b : Bool) → (who == u) ≡ b → if_its b n ≡ 0
    not_its true is = let same : who ≡ u = grind (arith, nat_tests) in absurd (All-head (λ v. who ≢ v) u us h same)
    not_its false is = refl

-- an event is of one of them at most
sum-one : (who n : ℕ) (us : List ℕ) → AllPairs (λ a b. a ≢ b) us → sum_by (λ u. if_its (who == u) n) us ≤ n
sum-one who n [] h = omega arith
sum-one who n (u ∷ us) h = by (who == u) refl (sum-one who n us (apart_tail u us h))
  where
    counted : sum_by (λ v. if_its (who == v) n) (u ∷ us) ≡ if_its (who == u) n + sum_by (λ v. if_its (who == v) n) us
    counted = sum_by-cons (λ v. if_its (who == v) n) u us

    by : (b : Bool) → (who == u) ≡ b → sum_by (λ v. if_its (who == v) n) us ≤ n → sum_by (λ v. if_its (who == v) n) (u ∷ us) ≤ n
    by true is rest =
        let same : who ≡ u = grind (arith, nat_tests) in
        let its : if_its (who == u) n ≡ n = ap (λ (b : Bool). if_its b n) is in
        omega (arith, counted, its, sum-none who n us (λ k d l e. apart_head u us h k d l (sym same ∙ e)))
    by false is rest =
        let not_its : if_its (who == u) n ≡ 0 = ap (λ (b : Bool). if_its b n) is in
        omega (arith, counted, not_its, rest)

module _ (kind : Cause → Bool) where
  -- how the fault of an event counts
  abbrev weight : Event → ℕ
  weight e = count_by kind (faults_in (e ∷ []))

  counted : (e : Event) (es : List Event) → count_by kind (faults_in (e ∷ es)) ≡ weight e + count_by kind (faults_in es)
  counted e es =
      ap (count_by kind) (filter_map-append (λ (x : Event). fault_of x.answer x.call) (e ∷ []) es)
      ∙ sum_by-append (λ c. cond (kind c) 1 0) (faults_in (e ∷ [])) (faults_in es)

  own_counted : (e : Event) (es : List Event) (who : ℕ) → count_by kind (faults_of who (e ∷ es)) ≡ if_its (e.who == who) (weight e) + count_by kind (faults_of who es)
  own_counted e es who = by (e.who == who)
    where
      by : (b : Bool) → count_by kind (faults_in (cond b (e ∷ own who es) (own who es))) ≡ if_its b (weight e) + count_by kind (faults_of who es)
      by true = counted e (own who es)
      by false = omega arith

  pub add_up : (users : List ℕ) (events : List Event) → AllPairs (λ a b. a ≢ b) users → sum_by (λ user. count_by kind (faults_of user events)) users ≤ count_by kind (faults_in events)
  add_up users [] apart = omega (arith, sum-zero users)
    where
      sum-zero : (us : List ℕ) → sum_by (λ user. count_by kind (faults_of user [])) us ≡ 0
      sum-zero [] = refl
      sum-zero (u ∷ us) = omega (arith, sum_by-cons (λ user. count_by kind (faults_of user [])) u us, sum-zero us)
  add_up users (e ∷ es) apart = omega (
    arith,
    sum-add (λ user. if_its (e.who == user) (weight e)) (λ user. count_by kind (faults_of user es)) (λ user. count_by kind (faults_of user (e ∷ es))) users (own_counted e es),
    sum-one e.who (weight e) users apart,
    add_up users es apart,
    counted e es,
  )
