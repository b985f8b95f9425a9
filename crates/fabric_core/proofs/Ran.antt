-- The events of a register are a run of it, and so they are with one more.
use Rattle.std.proofs.Common.{◌≡◌, inl, inr, ℕ, true, false, List, [], ◌∷◌, ◌++◌, refl, sym, ap, ◌∙◌, subst, arith}
use Rattle.std.specs.Prelude.{MatchBool, nat_lt}
use Rattle.register_api.specs.View.{RegisterView}
use Rattle.legal_journal.specs.declared.events.Event.{Event}
use Rattle.legal_journal.specs.declared.events.FabricCall.{FabricCall}
use Rattle.legal_journal.specs.declared.events.FabricCall.TheVariants.{Begin, Carry, Forget, ReadChain, WriteChain, Stop, Mend, Stray, StopMeta, MendMeta}
use Rattle.fabric_core.specs.Runs.{RegisterDoes, RegisterLacks, Drifts, RegisterStep, RegisterRun, HasRegisterRun, is_on, is_on_register}

-- ---- calls that are no events

pub no_drift : (v : RegisterView) → Drifts v v
no_drift v = record { is = refl; fewer = omega arith; still = refl; word = λ _. refl }

drift_on : (a b c : RegisterView) → Drifts a b → Drifts b c → Drifts a c
drift_on a b c h k = record {
  is = k.is ∙ ap (λ (v : RegisterView). record v { armed = c.armed; word = c.word }) h.is;
  fewer = omega (arith, h.fewer, k.fewer);
  still = k.still ∙ h.still;
  word = λ up. k.word (ap (λ (v : RegisterView). v.down) h.is ∙ up) ∙ h.word up;
}

never : {P : Type 0} → true ≡ false → P
never is = cc is

pub lacks_drift : (c : FabricCall) (old new : RegisterView) → RegisterLacks old c new → Drifts old new
lacks_drift (WriteChain x c) old new h =
    let word : new.word ≡ old.word = ap (λ (v : RegisterView). v.word) h.1 in
    record { is = h.1 ∙ ap (λ (n : ℕ). record old { armed = new.armed; word = n }) (sym word); fewer = h.0.fewer; still = h.0.still; word = λ _. word }
lacks_drift (MendMeta word) old new (inl same) = subst (Drifts old) (sym same) (no_drift old)
lacks_drift (MendMeta word) old new (inr h) =
    let armed : new.armed ≡ old.armed = ap (λ (v : RegisterView). v.armed) h.1 in
    record {
      is = h.1 ∙ ap (λ (n : ℕ). record old { armed = n; word = new.word }) (sym armed);
      fewer = omega (arith, armed);
      still = ap (λ (n : ℕ). nat_lt 0 n) armed;
      word = λ up. never (sym h.0.0 ∙ up);
    }
lacks_drift ReadChain old new same = subst (Drifts old) (sym same) (no_drift old)
lacks_drift (StopMeta n) old new same = subst (Drifts old) (sym same) (no_drift old)
lacks_drift (Begin i op) old new same = subst (Drifts old) (sym same) (no_drift old)
lacks_drift (Carry i t word) old new same = subst (Drifts old) (sym same) (no_drift old)
lacks_drift (Forget i t) old new same = subst (Drifts old) (sym same) (no_drift old)
lacks_drift (Stop i server n) old new same = subst (Drifts old) (sym same) (no_drift old)
lacks_drift (Mend i server word) old new same = subst (Drifts old) (sym same) (no_drift old)
lacks_drift (Stray i word) old new same = subst (Drifts old) (sym same) (no_drift old)

run_drifts : (o v now : RegisterView) (es : List Event) → RegisterRun o es v → Drifts v now → RegisterRun o es now
run_drifts o v now [] h d = drift_on o v now h d
run_drifts o v now (x ∷ es) h d = (h.0, h.1, run_drifts h.0 v now es h.2 d)

pub register_drifts : (v now : RegisterView) (es : List Event) → HasRegisterRun es v → Drifts v now → HasRegisterRun es now
register_drifts v now es h d = record { opening = h.opening; fresh = h.fresh; run = run_drifts h.opening v now es h.run d }

-- ---- events

run_more : (o v now : RegisterView) (es : List Event) (e : Event) → RegisterRun o es v → MatchBool (is_on_register e.call) (RegisterDoes v e.call e.answer now) (now ≡ v) → RegisterRun o (es ++ e ∷ []) now
run_more o v now [] e h does = (now, record { before = v; drifted = h; does = does }, no_drift now)
run_more o v now (x ∷ es) e h does = (h.0, h.1, run_more h.0 v now es e h.2 does)

pub register_more : (v now : RegisterView) (es : List Event) (e : Event) → HasRegisterRun es v → is_on_register e.call ≡ true → RegisterDoes v e.call e.answer now → HasRegisterRun (es ++ e ∷ []) now
register_more v now es e h on does = record {
  opening = h.opening;
  fresh = h.fresh;
  run = run_more h.opening v now es e h.run (subst (λ b. MatchBool b (RegisterDoes v e.call e.answer now) (now ≡ v)) (sym on) does);
}

-- an event of a cell
pub register_same : (v : RegisterView) (es : List Event) (e : Event) → HasRegisterRun es v → is_on_register e.call ≡ false → HasRegisterRun (es ++ e ∷ []) v
register_same v es e h off = record {
  opening = h.opening;
  fresh = h.fresh;
  run = run_more h.opening v v es e h.run (subst (λ b. MatchBool b (RegisterDoes v e.call e.answer v) (v ≡ v)) (sym off) refl);
}

-- an event of a cell is none of the register
pub off_register : (i : ℕ) (c : FabricCall) → is_on i c ≡ true → is_on_register c ≡ false
off_register i (Begin j op) h = refl
off_register i (Carry j t word) h = refl
off_register i (Forget j t) h = refl
off_register i (Stop j server n) h = refl
off_register i (Mend j server word) h = refl
off_register i (Stray j word) h = refl
off_register i ReadChain h = absurd (cc)
off_register i (WriteChain x c) h = absurd (cc)
off_register i (StopMeta n) h = absurd (cc)
off_register i (MendMeta word) h = absurd (cc)
