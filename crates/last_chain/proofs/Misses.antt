-- A register counts the reopenings that failed.
use Rattle.std.proofs.Common.{◌≡◌, refl, sym, ap, ◌∙◌, subst, ℕ, ◌+◌, ◌-◌, ◌^◌, ◌≤◌, min, cond, Bool, true, false, List, [], ◌∷◌, Option, Some, None, Ok, arith}
use Rattle.std.specs.Prelude.{MatchBool}
use Rattle.std.proofs.lemmas.List.Sums.{sum_by-cons}
use Rattle.delos_types.specs.declared.chain.Chain.{Chain}
use Rattle.register_api.specs.View.{RegisterView}
use Rattle.register_api.specs.Calls.{Reopens, reopened}
use Rattle.legal_journal.specs.declared.events.Event.{Event}
use Rattle.legal_journal.specs.declared.events.FabricCall.{FabricCall}
use Rattle.legal_journal.specs.declared.events.FabricCall.TheVariants.{Begin, Carry, Forget, ReadChain, WriteChain, Stop, Mend, Stray, StopMeta, MendMeta}
use Rattle.legal_journal.specs.declared.events.FabricAnswer.{FabricAnswer}
use Rattle.legal_journal.specs.declared.events.FabricAnswer.TheVariants as fabric
use Rattle.fabric_core.specs.Runs.{RegisterDoes, Drifts, RegisterRun, HasRegisterRun, is_on_register}
use Rattle.last_chain.specs.Gifts.{is_miss, misses_in}

-- how often an event counts
abbrev weight : FabricCall → FabricAnswer → ℕ
weight c a = cond (is_miss c a) 1 0

misses-more : (e : Event) (es : List Event) → misses_in (e ∷ es) ≡ weight e.call e.answer + misses_in es
misses-more e es = sum_by-cons (λ (x : Event). cond (is_miss x.call x.answer) 1 0) e es

-- so many more, up to the end of the count's type
abbrev Counted : ℕ → RegisterView → RegisterView → Type 0
Counted n old new = old.misses ≤ 2 ^ 64 - 1 → new.misses ≡ min (n + old.misses) (2 ^ 64 - 1)

same : (old new : RegisterView) → new.misses ≡ old.misses → Counted 0 old new
same old new e small = omega (arith, e, small)

both : (n m : ℕ) (a b c : RegisterView) → Counted n a b → Counted m b c → Counted (n + m) a c
both n m a b c h k small =
    let mid = h small in
    let at : b.misses ≤ 2 ^ 64 - 1 = omega (arith, mid) in
    let end = k at in
    omega (arith, mid, end)

reopened-misses : (v : RegisterView) (kept : Bool) (o : Option Chain) → (reopened v kept o).misses ≡ v.misses
reopened-misses v kept None = refl
reopened-misses v true (Some c) = refl
reopened-misses v false (Some c) = refl

-- one that is up, or up again, missed nothing
mended : (word : ℕ) (old new : RegisterView) → Reopens old word (Ok true) new → Counted 0 old new
mended word old new d = by old.down refl
  where
    by : (b : Bool) → old.down ≡ b → Counted 0 old new
    by false up = same old new (ap (λ (v : RegisterView). v.misses) (d.0 up))
    by true was = let h = d.1 was in same old new (ap (λ (v : RegisterView). v.misses) h.2 ∙ reopened-misses old h.0 old.asked)

-- each call counts where it failed
does : (c : FabricCall) (a : FabricAnswer) (old new : RegisterView) → RegisterDoes old c a new → Counted (weight c a) old new
does ReadChain (fabric.At version chain) old new d = same old new (ap (λ (v : RegisterView). v.misses) d.told)
does ReadChain fabric.Down old new d = same old new (ap (λ (v : RegisterView). v.misses) d.counted)
does (WriteChain x c) (fabric.Written version) old new d = same old new (ap (λ (v : RegisterView). v.misses) d.stands)
does (WriteChain x c) (fabric.Conflict version chain) old new d = same old new (ap (λ (v : RegisterView). v.misses) d.0.told)
does (WriteChain x c) fabric.MetaFault old new d = same old new (ap (λ (v : RegisterView). v.misses) d.torn)
does (WriteChain x c) fabric.Down old new d = same old new (ap (λ (v : RegisterView). v.misses) d.counted)
does (StopMeta n) (fabric.Set true) old new d = same old new (ap (λ (v : RegisterView). v.misses) d)
does (MendMeta word) (fabric.Set true) old new d = mended word old new d
does (MendMeta word) (fabric.Set false) old new d = λ small. let e = ap (λ (v : RegisterView). v.misses) d.1 in omega (arith, e)
does c a old new d = absurd d

off_none : (c : FabricCall) (a : FabricAnswer) → is_on_register c ≡ false → weight c a ≡ 0
off_none (Begin i op) a off = refl
off_none (Carry i t word) a off = refl
off_none (Forget i t) a off = refl
off_none (Stop i server n) a off = refl
off_none (Mend i server word) a off = refl
off_none (Stray i word) a off = refl
off_none ReadChain a off = absurd (cc)
off_none (WriteChain x c) a off = absurd (cc)
off_none (StopMeta n) a off = absurd (cc)
off_none (MendMeta word) a off = absurd (cc)

-- calls for which memory was wanting count nothing
drifted : (old new : RegisterView) → Drifts old new → Counted 0 old new
drifted old new d = same old new (ap (λ (v : RegisterView). v.misses) d.is)

-- what is counted behind them is counted in all
behind : (n : ℕ) (a b c : RegisterView) → Counted 0 a b → Counted n b c → Counted n a c
behind n a b c h k small =
    let mid = h small in
    let at : b.misses ≤ 2 ^ 64 - 1 = omega (arith, mid) in
    let end = k at in
    omega (arith, mid, end)

run_counts : (events : List Event) (old new : RegisterView) → RegisterRun old events new → Counted (misses_in events) old new
run_counts [] old new run = drifted old new run
run_counts (e ∷ es) old new run =
    subst (λ n. Counted n old new) (sym (misses-more e es))
    (both (weight e.call e.answer) (misses_in es) old run.0 new (by (is_on_register e.call) refl) (run_counts es run.0 new run.2))
  where
    by : (b : Bool) → is_on_register e.call ≡ b → Counted (weight e.call e.answer) old run.0
    by true on =
        let at = run.1.before in
        behind (weight e.call e.answer) old at run.0 (drifted old at run.1.drifted)
        (does e.call e.answer at run.0 (subst (λ b. MatchBool b (RegisterDoes at e.call e.answer run.0) (run.0 ≡ at)) on run.1.does))
    by false off =
        let at = run.1.before in
        let stays = subst (λ b. MatchBool b (RegisterDoes at e.call e.answer run.0) (run.0 ≡ at)) off run.1.does in
        subst (λ n. Counted n old run.0) (sym (off_none e.call e.answer off))
        (behind 0 old at run.0 (drifted old at run.1.drifted) (same at run.0 (ap (λ (v : RegisterView). v.misses) stays)))

pub counted : (events : List Event) (now : RegisterView) → HasRegisterRun events now → now.misses ≡ min (misses_in events) (2 ^ 64 - 1)
counted events now h =
    let none = h.fresh.misses in
    let k = run_counts events h.opening now h.run (omega (arith, none)) in
    omega (arith, k, none)
