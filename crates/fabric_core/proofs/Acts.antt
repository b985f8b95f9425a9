-- What an event does to each cell and to the register, from the state before it; and a call that is none, without memory.
use Rattle.std.proofs.Common.{◌≡◌, ◌≢◌, inl, ℕ, List, [], length, set, Some, Bool, true, false, refl, sym, ap, ◌∙◌, subst, arith}
use Rattle.std.specs.Prelude.{slice_get, MatchBool, ◌==◌}
use Rattle.std.proofs.lemmas.Bool.Decides.{nat_tests}
use Rattle.std.proofs.lemmas.List.{length-set}
use Rattle.loglet_api.specs.declared.call.Kind.{Kind}
use Rattle.loglet_api.specs.View.{LogletView}
use Rattle.loglet_api.specs.Run.{LogletRun}
use Rattle.loglet_api.specs.Servers.{ServersView, ServesAll}
use Rattle.legal_journal.specs.Law.{Law}
use Rattle.register_api.specs.View.{RegisterView}
use Rattle.legal_journal.specs.declared.events.FabricCall.{FabricCall}
use Rattle.legal_journal.specs.declared.events.FabricCall.TheVariants.{Begin, Carry, Forget, ReadChain, WriteChain, Stop, Mend, Stray, StopMeta, MendMeta}
use Rattle.legal_journal.specs.declared.events.FabricAnswer.{FabricAnswer}
use Rattle.fabric_core.specs.Runs.{LogletSteps, StepsOf, RegisterDoes, RegisterLacks, ServersLack, is_on, is_on_register}
use Rattle.fabric_core.specs.Fabric.{FabricView, FabricOk, ActsOn, Acts, Lacks}
use Rattle.fabric_core.proofs.Ran.{off_register}
use Rattle.fabric_core.proofs.Marks.{set_same, set_other}

-- what holds of a fabric speaks of no server
pub any_serving : (law : Law) {kinds : List Kind} (f : FabricView) (marks : List (List Bool)) (serving : List ServersView) → FabricOk law kinds f marks → FabricOk law kinds (record f { serving = serving }) marks
any_serving law f marks serving ok = record {
  legal = ok.legal;
  shelf_is = ok.shelf_is;
  kinds_are = ok.kinds_are;
  cells = ok.cells;
  register = ok.register;
  register_ran = ok.register_ran;
}

-- an event of one cell
module _ (old new : FabricView) (call : FabricCall) (answer : FabricAnswer) (i : ℕ) (on : (j : ℕ) → is_on j call ≡ (j == i)) (u v : LogletView) (held holds : ServersView) (at : slice_get old.cells i ≡ Some u) (served_at : slice_get old.serving i ≡ Some held) (cells_are : new.cells ≡ set old.cells i v) (serving_are : new.serving ≡ set old.serving i holds) (steps : LogletSteps) (are : StepsOf call answer steps) (run : LogletRun u steps v) (served : ServesAll held steps holds) where
  here : (j : ℕ) → j ≡ i → ActsOn j call answer old new
  here j same =
      let test : (j == i) ≡ true = grind (arith, nat_tests) in record {
        steps = steps;
        are = subst (λ b. MatchBool b (StepsOf call answer steps) (steps ≡ [])) (sym (on j ∙ test)) are;
        cell = λ x h.
            let both : Some x ≡ Some u = sym h ∙ (ap (slice_get old.cells) same ∙ at) in
            let is : x ≡ u = cc in (
              v,
              ap (λ l. slice_get l j) cells_are ∙ (ap (slice_get (set old.cells i v)) same ∙ set_same old.cells i v u at),
              subst (λ y. LogletRun y steps v) (sym is) run,
            );
        served = λ x h.
            let both : Some x ≡ Some held = sym h ∙ (ap (slice_get old.serving) same ∙ served_at) in
            let is : x ≡ held = cc in (
              holds,
              ap (λ l. slice_get l j) serving_are ∙ (ap (slice_get (set old.serving i holds)) same ∙ set_same old.serving i holds held served_at),
              subst (λ y. ServesAll y steps holds) (sym is) served,
            );
      }

  there : (j : ℕ) → j ≢ i → ActsOn j call answer old new
  there j apart =
      let test : (j == i) ≡ false = grind (arith, nat_tests) in record {
        steps = [];
        are = subst (λ b. MatchBool b (StepsOf call answer []) (◌≡◌ {A = LogletSteps} [] [])) (sym (on j ∙ test)) refl;
        cell = λ x h. (x, ap (λ l. slice_get l j) cells_are ∙ (set_other old.cells i j v apart ∙ h), refl);
        served = λ x h. (x, ap (λ l. slice_get l j) serving_are ∙ (set_other old.serving i j holds apart ∙ h), refl);
      }

  place : (j : ℕ) (b : Bool) → (j == i) ≡ b → ActsOn j call answer old new
  place j true b = let same : j ≡ i = grind (arith, nat_tests) in here j same
  place j false b = let apart : j ≢ i = grind (arith, nat_tests) in there j apart

  own : is_on i call ≡ true
  own = let test : (i == i) ≡ true = grind (arith, nat_tests) in on i ∙ test

  pub cell_acts : new.register ≡ old.register → Acts old call answer new
  cell_acts register = record {
    cells = ap length cells_are ∙ length-set old.cells i v;
    serving = ap length serving_are ∙ length-set old.serving i holds;
    each = λ j. place j (j == i) refl;
    register = subst (λ b. MatchBool b (RegisterDoes old.register call answer new.register) (new.register ≡ old.register)) (sym (off_register i call own)) register;
  }

-- an event of the register
pub register_acts : (old new : FabricView) (call : FabricCall) (answer : FabricAnswer) → ((j : ℕ) → is_on j call ≡ false) → is_on_register call ≡ true → new.cells ≡ old.cells → new.serving ≡ old.serving → RegisterDoes old.register call answer new.register → Acts old call answer new
register_acts old new call answer off on cells_are serving_are does = record {
  cells = ap length cells_are;
  serving = ap length serving_are;
  each = λ j. record {
    steps = [];
    are = subst (λ b. MatchBool b (StepsOf call answer []) (◌≡◌ {A = LogletSteps} [] [])) (sym (off j)) refl;
    cell = λ x h. (x, ap (λ l. slice_get l j) cells_are ∙ h, refl);
    served = λ x h. (x, ap (λ l. slice_get l j) serving_are ∙ h, refl);
  };
  register = subst (λ b. MatchBool b (RegisterDoes old.register call answer new.register) (new.register ≡ old.register)) (sym on) does;
}

-- ---- without memory

pub no_lack : (c : FabricCall) (v : RegisterView) → RegisterLacks v c v
no_lack (WriteChain x c) v = (record { fewer = omega arith; at_most = omega arith; still = refl }, refl)
no_lack (MendMeta word) v = inl refl
no_lack ReadChain v = refl
no_lack (StopMeta n) v = refl
no_lack (Begin i op) v = refl
no_lack (Carry i t word) v = refl
no_lack (Forget i t) v = refl
no_lack (Stop i server n) v = refl
no_lack (Mend i server word) v = refl
no_lack (Stray i word) v = refl

pub no_server_lack : (c : FabricCall) (u : ServersView) → ServersLack u c u
no_server_lack (Mend i server word) u = inl refl
no_server_lack (Begin i op) u = refl
no_server_lack (Carry i t word) u = inl refl
no_server_lack (Forget i t) u = refl
no_server_lack (Stop i server n) u = refl
no_server_lack (Stray i word) u = inl refl
no_server_lack ReadChain u = refl
no_server_lack (WriteChain x c) u = refl
no_server_lack (StopMeta n) u = refl
no_server_lack (MendMeta word) u = refl

either : (b : Bool) (A B : Type 0) → A → B → MatchBool b A B
either true A B x y = x
either false A B x y = y

-- a call that changed nothing
pub nothing_lacks : (old new : FabricView) (call : FabricCall) → new ≡ old → Lacks old call new
nothing_lacks old new call same = subst (Lacks old call) (sym same) (record {
  cells = refl;
  serving = refl;
  each = λ i u h. (u, h, either (is_on i call) (ServersLack u call u) (u ≡ u) (no_server_lack call u) refl);
  register = no_lack call old.register;
  journal = refl;
})

-- a call that was of the servers of one cell
module _ (old new : FabricView) (call : FabricCall) (i : ℕ) (on : (j : ℕ) → is_on j call ≡ (j == i)) (held holds : ServersView) (served_at : slice_get old.serving i ≡ Some held) (serving_are : new.serving ≡ set old.serving i holds) (lacks : ServersLack held call holds) where
  abbrev Stays : ℕ → Type 0
  Stays j = (u : ServersView) → slice_get old.serving j ≡ Some u → (v : ServersView) × (slice_get new.serving j ≡ Some v) × MatchBool (is_on j call) (ServersLack u call v) (v ≡ u)

  stays_by : (j : ℕ) (b : Bool) → (j == i) ≡ b → Stays j
  stays_by j true test = λ u h.
      let same : j ≡ i = grind (arith, nat_tests) in
      let both : Some u ≡ Some held = sym h ∙ (ap (slice_get old.serving) same ∙ served_at) in
      let is : u ≡ held = cc in (
        holds,
        ap (λ l. slice_get l j) serving_are ∙ (ap (slice_get (set old.serving i holds)) same ∙ set_same old.serving i holds held served_at),
        subst (λ b. MatchBool b (ServersLack u call holds) (holds ≡ u)) (sym (on j ∙ test)) (subst (λ y. ServersLack y call holds) (sym is) lacks),
      )
  stays_by j false test = λ u h.
      let apart : j ≢ i = grind (arith, nat_tests) in (
        u,
        ap (λ l. slice_get l j) serving_are ∙ (set_other old.serving i j holds apart ∙ h),
        subst (λ b. MatchBool b (ServersLack u call u) (u ≡ u)) (sym (on j ∙ test)) refl,
      )

  pub servers_lack : new.cells ≡ old.cells → new.register ≡ old.register → new.journal ≡ old.journal → Lacks old call new
  servers_lack cells register journal = record {
    cells = cells;
    serving = ap length serving_are ∙ length-set old.serving i holds;
    each = λ j. stays_by j (j == i) refl;
    register = subst (RegisterLacks old.register call) (sym register) (no_lack call old.register);
    journal = journal;
  }
