-- A register that does what it is called for goes on as the journal tells.
use Rattle.std.proofs.Common.{◌≡◌, inl, inr, ℕ, ◌+◌, ◌<◌, ◌≤◌, ◌^◌, List, Option, Some, None, Ok, Bool, true, false, refl, sym, ap, ◌∙◌, subst, ⊎_elim, arith}
use Rattle.std.specs.Prelude.{nat_lt}
use Rattle.std.proofs.lemmas.Bool.Decides.{nat_tests}
use Rattle.delos_types.specs.declared.entry.Entry.{Entry}
use Rattle.delos_types.specs.declared.chain.Chain.{Chain}
use Rattle.chain_map.specs.Chain.{is_chain}
use Rattle.chain_map.proofs.Changes.{is_chain-extended, is_chain-dropped}
use Rattle.register_api.specs.View.{RegisterView, IsSound, armed_by}
use Rattle.register_api.specs.Calls.{GivesNow, Replaces, Fails, Reopens, reopened}
use Rattle.legal_journal.specs.Moves as moves
use Rattle.legal_journal.specs.Journal.{RegisterState, State, ends, known, register_after, IsCurrent, Extends, Raises, IsFree, MayFollow}
use Rattle.legal_journal.proofs.Sound.{StateOk}
use Rattle.legal_journal.proofs.Chains.{chain_ok}
use Rattle.fabric_core.specs.Runs.{Drifts}
use Rattle.fabric_core.specs.Fabric.{IsRegisterAsTold}

-- a register that is up has no torn write
whole : (v : RegisterView) (c : Chain) → IsSound v → v.down ≡ false → v.asked ≡ Some c → ⊥
whole v c sound up h = let none = sound.asked up in absurd (cc)

module _ (r : RegisterState) (v : RegisterView) (m : IsRegisterAsTold r v) where
  -- the count of faults tells nothing
  pub counted : (new : RegisterView) (n : ℕ) → new ≡ record v { faults = n } → IsRegisterAsTold r new
  counted new n is = subst (IsRegisterAsTold r) (sym is) (record { down = m.down; given = m.given; given_chain = m.given_chain; current = m.current; torn = m.torn })

  -- nor does the count that its disk is armed with
  pub armed_told : (new : RegisterView) (n : ℕ) → new ≡ armed_by v n → IsRegisterAsTold r new
  armed_told new n is = subst (IsRegisterAsTold r) (sym is) (record { down = m.down; given = m.given; given_chain = m.given_chain; current = m.current; torn = m.torn })

  pub current_is : (n : ℕ) (c : Chain) → n ≡ v.version → c ≡ v.chain → IsCurrent r n c
  current_is n c a b = subst (λ k. IsCurrent r k c) (sym a) (subst (IsCurrent r v.version) (sym b) m.current)

  pub given_told : (n : ℕ) (c : Chain) (new : RegisterView) → IsSound v → GivesNow v n c new → IsRegisterAsTold (known r n c) new
  given_told n c new sound g = record {
    down = ap (λ (x : RegisterView). x.down) g.told ∙ g.up;
    given = ap (λ (x : RegisterView). x.given) g.told ∙ sym g.version_is;
    given_chain = ap (λ (x : RegisterView). x.given_chain) g.told ∙ sym g.chain_is;
    current = inl (ap (λ (x : RegisterView). x.version) g.told ∙ sym g.version_is, ap (λ (x : RegisterView). x.chain) g.told ∙ sym g.chain_is);
    torn = λ d h. absurd (whole v d sound g.up (sym (ap (λ (x : RegisterView). x.asked) g.told) ∙ h));
  }

  pub written_told : (x : ℕ) (c : Chain) (n : ℕ) (new : RegisterView) → IsSound v → Replaces v x c n new → IsRegisterAsTold (known r n c) new
  written_told x c n new sound g = record {
    down = ap (λ (y : RegisterView). y.down) g.stands ∙ g.up;
    given = ap (λ (y : RegisterView). y.given) g.stands ∙ sym g.version_is;
    given_chain = ap (λ (y : RegisterView). y.given_chain) g.stands;
    current = inl (ap (λ (y : RegisterView). y.version) g.stands ∙ sym g.version_is, ap (λ (y : RegisterView). y.chain) g.stands);
    torn = λ d h. absurd (whole v d sound g.up (sym (ap (λ (y : RegisterView). y.asked) g.stands) ∙ h));
  }

  pub failed_told : (x : ℕ) (c : Chain) (new : RegisterView) → v.version ≡ r.version → v.chain ≡ r.chain → Fails v x c new → IsRegisterAsTold (register_after r (moves.Faults x c)) new
  failed_told x c new at chain g = record {
    down = ap (λ (y : RegisterView). y.down) g.torn;
    given = ap (λ (y : RegisterView). y.given) g.torn ∙ m.given;
    given_chain = ap (λ (y : RegisterView). y.given_chain) g.torn ∙ m.given_chain;
    current = inl (ap (λ (y : RegisterView). y.version) g.torn ∙ at, ap (λ (y : RegisterView). y.chain) g.torn ∙ chain);
    torn = λ d h. (
      sym (ap (λ (y : RegisterView). y.asked) g.torn) ∙ h,
      ap (λ (y : RegisterView). y.version) g.torn ∙ at,
      ap (λ (y : RegisterView). y.chain) g.torn ∙ chain,
    );
  }

  -- nor do calls for which memory was wanting
  pub drifted_told : (new : RegisterView) → Drifts v new → IsRegisterAsTold r new
  drifted_told new d = subst (IsRegisterAsTold r) (sym d.is) (record { down = m.down; given = m.given; given_chain = m.given_chain; current = m.current; torn = m.torn })

  -- it was up
  idle_told : (new : RegisterView) (n : ℕ) → IsSound v → v.down ≡ false → new ≡ record v { reopenings = n } → IsRegisterAsTold (register_after r (moves.Mends true)) new
  idle_told new n sound up is = subst (IsRegisterAsTold (register_after r (moves.Mends true))) (sym is) (record {
    down = up;
    given = m.given;
    given_chain = m.given_chain;
    current = m.current;
    torn = λ d h. absurd (whole v d sound up h);
  })

  -- it is up again, with the write that faulted or without
  reopened_told : (new : RegisterView) (kept : Bool) (word n : ℕ) → new ≡ record (reopened v kept v.asked) { word = word; reopenings = n } → IsRegisterAsTold (register_after r (moves.Mends true)) new
  reopened_told new kept word n is = by_write v.asked refl kept is
    where
      by_write : (o : Option Chain) → v.asked ≡ o → (kept : Bool) → new ≡ record (reopened v kept o) { word = word; reopenings = n } → IsRegisterAsTold (register_after r (moves.Mends true)) new
      by_write None e kept is = subst (IsRegisterAsTold (register_after r (moves.Mends true))) (sym is) (record {
        down = refl;
        given = m.given;
        given_chain = m.given_chain;
        current = m.current;
        torn = λ d h. absurd (cc);
      })
      by_write (Some c) e true is =
          let t = m.torn c e in
          subst (IsRegisterAsTold (register_after r (moves.Mends true))) (sym is) (record {
            down = refl;
            given = m.given;
            given_chain = m.given_chain;
            current = inr (ap (λ n. n + 1) t.1, t.0);
            torn = λ d h. absurd (cc);
          })
      by_write (Some c) e false is =
          let t = m.torn c e in
          subst (IsRegisterAsTold (register_after r (moves.Mends true))) (sym is) (record {
            down = refl;
            given = m.given;
            given_chain = m.given_chain;
            current = inl (t.1, t.2);
            torn = λ d h. absurd (cc);
          })

  -- it is up, or up again with the write that faulted or without
  pub mended_told : (new : RegisterView) (word : ℕ) → IsSound v → Reopens v word (Ok true) new → IsRegisterAsTold (register_after r (moves.Mends true)) new
  mended_told new word sound h = by v.down refl
    where
      by : (b : Bool) → v.down ≡ b → IsRegisterAsTold (register_after r (moves.Mends true)) new
      by false up = idle_told new _ sound up (h.0 up)
      by true was = let found = h.1 was in reopened_told new found.0 word _ found.2

  -- it didn't come up
  pub missed_told : (new : RegisterView) (n k word times : ℕ) → new ≡ record v { faults = n; misses = k; word = word; reopenings = times } → IsRegisterAsTold (register_after r (moves.Mends false)) new
  missed_told new n k word times is = subst (IsRegisterAsTold (register_after r (moves.Mends false))) (sym is) (record { down = m.down; given = m.given; given_chain = m.given_chain; current = m.current; torn = m.torn })

module _ (cells : ℕ) (w : State) (ok : StateOk cells w) (x : ℕ) (old : Chain) (given : w.register.given x ≡ Some old) where
  -- only what is known has been given
  pub known_version : x ≤ w.register.version
  known_version = by_test (nat_lt w.register.version x) refl
    where
      by_test : (t : Bool) → nat_lt w.register.version x ≡ t → x ≤ w.register.version
      by_test true t =
          let none = ok.unborn x (grind (arith, nat_tests)) in
          let no : Some old ≡ None = sym given ∙ none in absurd (cc)
      by_test false t = grind (arith, nat_tests)

  -- a chain that may follow is one
  pub may_stand : (floor : List Entry → ℕ → Type 0) (c : Chain) → MayFollow w floor cells old c → is_chain c ≡ true
  may_stand floor c h =
      let was = chain_ok cells w x old ok given in
      ⊎_elim
      (λ (e : Extends (ends w.cells) cells old c). subst (λ (y : Chain). is_chain y ≡ true) (sym e.is) (is_chain-extended old e.at was (omega (arith, e.spare, ok.few))))
      (λ (e : Raises old c × IsFree w.shown floor c.trim). subst (λ (y : Chain). is_chain y ≡ true) (sym e.0.is) (is_chain-dropped old e.0.trim was e.0.above))
      h

  -- what was expected is what stands
  pub record IsExpected (v : RegisterView) : Type 0 where
    pub version : x ≡ w.register.version
    pub standing : v.version ≡ w.register.version
    pub chain : v.chain ≡ w.register.chain
    pub old_is : old ≡ w.register.chain

  pub expected : (v : RegisterView) → IsRegisterAsTold w.register v → x ≡ v.version → IsExpected v
  expected v m e = ⊎_elim
      (λ (h : (v.version ≡ w.register.version) × (v.chain ≡ w.register.chain)).
      let at : x ≡ w.register.version = e ∙ h.0 in
      let both : Some old ≡ Some w.register.chain = sym given ∙ (ap w.register.given at ∙ ok.given) in
      let same : old ≡ w.register.chain = cc in
      record { version = at; standing = h.0; chain = h.1; old_is = same })
      (λ (h : (v.version ≡ w.register.version + 1) × (w.register.asked ≡ Some v.chain)). absurd (omega (arith, h.0, e, known_version)))
      m.current

-- versions stay small
pub small_version : (cells : ℕ) (w : State) (v : RegisterView) → StateOk cells w → IsRegisterAsTold w.register v → v.version < 2 ^ 48
small_version cells w v ok m = ⊎_elim
    (λ (h : (v.version ≡ w.register.version) × (v.chain ≡ w.register.chain)). omega (arith, h.0, ok.version, ok.trim, ok.shelf, ok.few))
    (λ (h : (v.version ≡ w.register.version + 1) × (w.register.asked ≡ Some v.chain)). omega (arith, h.0, ok.version, ok.trim, ok.shelf, ok.few))
    m.current
