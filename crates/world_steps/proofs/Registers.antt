-- A register that does what it is asked goes on as the events tell.
use Rattle.std.proofs.Common.{◌≡◌, ◌≢◌, inl, inr, ℕ, zero, suc, ◌+◌, ◌-◌, Bool, true, false, refl, sym, ◌∙◌, ap, ⊎_elim, arith, List, [], ◌∷◌, ◌++◌, length, get_or, Option, Some, None, length-append}
use Rattle.std.specs.Prelude.{not, ◌==◌, if◌then◌else◌, slice_get}
use Rattle.std.proofs.lemmas.Bool.{eqb-true}
use Rattle.std.proofs.lemmas.Bool.Decides.{nat_tests}
use Rattle.delos_types.specs.declared.chain.Chain.{Chain}
use Rattle.chain_map.specs.Chain.{first_chain}
use Rattle.legal_journal.specs.Moves.{Faults, Mends}
use Rattle.legal_journal.specs.Journal.{State, known, register_after}
use Rattle.legal_journal.proofs.Cells.{put_cases}
use Rattle.legal_journal.proofs.Sound.{StateOk}
use Rattle.world_steps.specs.Parts.{Register, of_version, given_under}
use Rattle.world_steps.specs.Steps.{gave, replaced, torn_by, mended}
use Rattle.world_steps.specs.Laws.{IsRegisterTold}

-- the list of one more

pub push_here : {A : Type 0} (xs : List A) (a : A) (k : ℕ) → k ≡ length xs → slice_get (xs ++ a ∷ []) k ≡ Some a
push_here [] a zero h = refl
push_here [] a (suc k) h = absurd (omega arith)
push_here (x ∷ xs) a zero h = absurd (omega arith)
push_here (x ∷ xs) a (suc k) h = push_here xs a k (omega arith)

pub push_else : {A : Type 0} (xs : List A) (a : A) (k : ℕ) → k ≢ length xs → slice_get (xs ++ a ∷ []) k ≡ slice_get xs k
push_else [] a zero h = absurd (h refl)
push_else [] a (suc k) h = refl
push_else (x ∷ xs) a zero h = refl
push_else (x ∷ xs) a (suc k) h = push_else xs a k (λ e. h (omega arith))

pub last_here : {A : Type 0} (xs : List A) (a d : A) (k : ℕ) → k ≡ length xs → get_or (xs ++ a ∷ []) k d ≡ a
last_here [] a d zero h = refl
last_here [] a d (suc k) h = absurd (omega arith)
last_here (x ∷ xs) a d zero h = absurd (omega arith)
last_here (x ∷ xs) a d (suc k) h = last_here xs a d k (omega arith)

given_here : (xs : List Chain) (c : Chain) (v : ℕ) → v ≡ length xs + 1 → of_version (xs ++ c ∷ []) v ≡ Some c
given_here xs c zero h = absurd (omega arith)
given_here xs c (suc v) h = push_here xs c v (omega arith)

given_else : (xs : List Chain) (c : Chain) (v : ℕ) → v ≢ length xs + 1 → of_version (xs ++ c ∷ []) v ≡ of_version xs v
given_else xs c zero h = refl
given_else xs c (suc v) h = push_else xs c v (λ e. h (omega arith))

module _ (cells : ℕ) (w : State) (ok : StateOk cells w) (r : Register) (m : IsRegisterTold w.register r) where
  -- one more chain is known
  pushed : (v : ℕ) (c : Chain) (new : Register) → new.given ≡ r.given ++ c ∷ [] → v ≡ length r.given + 1 → new.version ≡ v → new.chain ≡ c → new.up ≡ true → new.torn ≡ None → IsRegisterTold (known w.register v c) new
  pushed v c new given at version chain up torn = record {
    count = omega (arith, at, ap (λ (xs : List Chain). length xs) given, length-append r.given (c ∷ []));
    given = λ u. put_cases (λ x. x ≡ of_version new.given u) w.register.given v (Some c) u
        (λ e. sym (ap (λ xs. of_version xs u) given ∙ given_here r.given c u (e ∙ at)))
        (λ k. m.given u ∙ sym (ap (λ xs. of_version xs u) given ∙ given_else r.given c u (λ e. k (e ∙ sym at))));
    last = sym (ap (λ (xs : List Chain). get_or xs (length xs - 1) first_chain) given ∙ last_here r.given c first_chain (length (r.given ++ c ∷ []) - 1) (omega (arith, length-append r.given (c ∷ []))));
    down = sym (ap not up);
    current = inl (version, chain);
    whole = λ _. torn;
    torn = λ d h. let no : None ≡ Some d = sym torn ∙ h in absurd (cc);
  }

  -- what was given last is given again
  again : r.up ≡ true → r.version ≡ length r.given → IsRegisterTold (known w.register r.version r.chain) r
  again up at = ⊎_elim
      (λ (h : (r.version ≡ w.register.version) × (r.chain ≡ w.register.chain)).
      record {
        count = at;
        given = λ u. put_cases (λ x. x ≡ of_version r.given u) w.register.given r.version (Some r.chain) u
            (λ e. ap (λ c. Some c) h.1 ∙ (sym (ap w.register.given (e ∙ h.0) ∙ ok.given) ∙ m.given u))
            (λ _. m.given u);
        last = h.1 ∙ m.last;
        down = sym (ap not up);
        current = inl (refl, refl);
        whole = m.whole;
        torn = λ d k. let no : None ≡ Some d = sym (m.whole up) ∙ k in absurd (cc);
      })
      (λ (h : (r.version ≡ w.register.version + 1) × (w.register.asked ≡ Some r.chain)). absurd (omega (arith, h.0, m.count, at)))
      m.current

  pub gave_told : r.up ≡ true → IsRegisterTold (known w.register r.version r.chain) (gave r)
  gave_told up = by (r.version == length r.given) refl
    where
      by : (b : Bool) → (r.version == length r.given) ≡ b → IsRegisterTold (known w.register r.version r.chain) (if b then r else record r { given = r.given ++ r.chain ∷ [] })
      by true t = again up (eqb-true _ _ t)
      by false t = ⊎_elim
          (λ (h : (r.version ≡ w.register.version) × (r.chain ≡ w.register.chain)). let no : r.version ≢ length r.given = grind (arith, nat_tests) in absurd (no (h.0 ∙ m.count)))
          (λ (h : (r.version ≡ w.register.version + 1) × (w.register.asked ≡ Some r.chain)).
          pushed r.version r.chain (record r { given = r.given ++ r.chain ∷ [] }) refl (h.0 ∙ ap (λ n. n + 1) m.count) refl refl up (m.whole up))
          m.current

  pub replaced_told : (c : Chain) → r.up ≡ true → r.version ≡ w.register.version → IsRegisterTold (known w.register (r.version + 1) c) (replaced r c)
  replaced_told c up at = pushed (r.version + 1) c (replaced r c) refl (ap (λ n. n + 1) (at ∙ m.count)) refl refl up (m.whole up)

  pub torn_told : (x : ℕ) (c : Chain) → r.version ≡ w.register.version → r.chain ≡ w.register.chain → IsRegisterTold (register_after w.register (Faults x c)) (torn_by r c)
  torn_told x c at same = record {
    count = m.count;
    given = m.given;
    last = m.last;
    down = refl;
    current = inl (at, same);
    whole = λ h. absurd (cc);
    torn = λ d h. (h, at, same);
  }

  -- it stays down
  pub missed_told : IsRegisterTold (register_after w.register (Mends false)) r
  missed_told = record {
    count = m.count;
    given = m.given;
    last = m.last;
    down = m.down;
    current = m.current;
    whole = m.whole;
    torn = m.torn;
  }

  mended_as : (kept : Bool) (o : Option Chain) → r.torn ≡ o → IsRegisterTold (register_after w.register (Mends true)) (mended r kept o)
  mended_as kept None e = record {
    count = m.count;
    given = m.given;
    last = m.last;
    down = refl;
    current = m.current;
    whole = λ _. refl;
    torn = λ d h. absurd (cc);
  }
  mended_as true (Some c) e =
      let t = m.torn c e in record {
        count = m.count;
        given = m.given;
        last = m.last;
        down = refl;
        current = inr (ap (λ n. n + 1) t.1, t.0);
        whole = λ _. refl;
        torn = λ d h. absurd (cc);
      }
  mended_as false (Some c) e = record {
    count = m.count;
    given = m.given;
    last = m.last;
    down = refl;
    current = m.current;
    whole = λ _. refl;
    torn = λ d h. absurd (cc);
  }

  pub mended_told : (kept : Bool) → IsRegisterTold (register_after w.register (Mends true)) (mended r kept r.torn)
  mended_told kept = mended_as kept r.torn refl

  -- an expected version that was given is the known one, where it stands, and so is its chain
  pub record IsKnown (x : ℕ) (old : Chain) : Type 0 where
    pub version : r.version ≡ w.register.version
    pub chain : r.chain ≡ w.register.chain
    pub old_is : old ≡ w.register.chain

  pub expected : (x : ℕ) (old : Chain) → given_under r x ≡ Some old → x ≡ r.version → IsKnown x old
  expected x old given at = ⊎_elim
      (λ (h : (r.version ≡ w.register.version) × (r.chain ≡ w.register.chain)).
      let both : Some old ≡ Some w.register.chain = sym given ∙ (sym (m.given x) ∙ (ap w.register.given (at ∙ h.0) ∙ ok.given)) in
      let same : old ≡ w.register.chain = cc in
      record { version = h.0; chain = h.1; old_is = same })
      (λ (h : (r.version ≡ w.register.version + 1) × (w.register.asked ≡ Some r.chain)).
      let none : w.register.given x ≡ None = ok.unborn x (omega (arith, h.0, at)) in
      let no : Some old ≡ None = sym given ∙ (sym (m.given x) ∙ none) in absurd (cc))
      m.current
