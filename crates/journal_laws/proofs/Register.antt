-- The register counted each write in which it failed, and each call while it was down.
use Rattle.std.proofs.Common.{◌≡◌, refl, sym, ap, ◌∙◌, subst, ℕ, ◌+◌, ◌-◌, ◌^◌, ◌≤◌, min, Bool, true, false, List, [], ◌∷◌, Option, None, Some, Ok, arith}
use Rattle.std.specs.Prelude.{MatchBool, count_by, filter}
use Rattle.delos_types.specs.declared.chain.Chain.{Chain}
use Rattle.loglet_api.specs.declared.call.Answer.TheVariants as answers
use Rattle.register_api.specs.View.{RegisterView}
use Rattle.register_api.specs.Calls.{IsDown, Reopens, reopened}
use Rattle.legal_journal.specs.Law.{Law}
use Rattle.legal_journal.specs.declared.events.Event.{Event}
use Rattle.legal_journal.specs.declared.events.FabricCall.{FabricCall}
use Rattle.legal_journal.specs.declared.events.FabricCall.TheVariants.{Begin, Carry, Forget, ReadChain, WriteChain, Stop, Mend, Stray, StopMeta, MendMeta}
use Rattle.legal_journal.specs.declared.events.FabricAnswer.{FabricAnswer}
use Rattle.legal_journal.specs.declared.events.FabricAnswer.TheVariants as fabric
use Rattle.legal_journal.specs.Moves.{Never, move_of, move}
use Rattle.legal_journal.specs.Journal.{State, IsAllowed, IsLegalFrom, IsLegal, start, after}
use Rattle.fabric_core.specs.Runs.{RegisterDoes, Drifts, RegisterRun, HasRegisterRun, is_on_register}
use Rattle.journal_laws.specs.Faults.{fault_of, faults_in, is_meta}
use Rattle.journal_laws.proofs.Telling.{weight, count-more}

-- so many more, up to the end of the count's type
abbrev Counted : ℕ → RegisterView → RegisterView → Type 0
Counted n old new = min (n + old.faults) (2 ^ 64 - 1) ≤ new.faults

down : (old new : RegisterView) → IsDown old new → Counted 1 old new
down old new d = let e = ap (λ (v : RegisterView). v.faults) d.counted in omega (arith, e)

reopened-faults : (v : RegisterView) (kept : Bool) (o : Option Chain) → (reopened v kept o).faults ≡ v.faults
reopened-faults v kept None = refl
reopened-faults v true (Some c) = refl
reopened-faults v false (Some c) = refl

-- one that is up, or up again, counts none
mended : (word : ℕ) (old new : RegisterView) → Reopens old word (Ok true) new → Counted 0 old new
mended word old new d = by old.down refl
  where
    by : (b : Bool) → old.down ≡ b → Counted 0 old new
    by false up = let e = ap (λ (v : RegisterView). v.faults) (d.0 up) in omega (arith, e)
    by true was = let h = d.1 was in let e = ap (λ (v : RegisterView). v.faults) h.2 ∙ reopened-faults old h.0 old.asked in omega (arith, e)

-- each call counts its fault
does : (c : FabricCall) (a : FabricAnswer) (old new : RegisterView) → RegisterDoes old c a new → Counted (weight is_meta (fault_of a c)) old new
does ReadChain (fabric.At version chain) old new d = let e = ap (λ (v : RegisterView). v.faults) d.told in omega (arith, e)
does ReadChain fabric.Down old new d = down old new d
does (WriteChain x c) (fabric.Written version) old new d = let e = ap (λ (v : RegisterView). v.faults) d.stands in omega (arith, e)
does (WriteChain x c) (fabric.Conflict version chain) old new d = let e = ap (λ (v : RegisterView). v.faults) d.0.told in omega (arith, e)
does (WriteChain x c) fabric.MetaFault old new d = let e = ap (λ (v : RegisterView). v.faults) d.torn in omega (arith, e)
does (WriteChain x c) fabric.Down old new d = down old new d
does (StopMeta n) (fabric.Set true) old new d = let e = ap (λ (v : RegisterView). v.faults) d in omega (arith, e)
does (MendMeta word) (fabric.Set true) old new d = mended word old new d
does (MendMeta word) (fabric.Set false) old new d = let e = ap (λ (v : RegisterView). v.faults) d.1 in omega (arith, e)
does c a old new d = absurd d

abbrev own : List Event → List Event
own events = filter (λ e. is_on_register e.call) events

both : (n m : ℕ) (a b c : RegisterView) → Counted n a b → Counted m b c → Counted (n + m) a c
both n m a b c h k = omega (arith, h, k)

-- calls for which memory was wanting count none
drifted : (old new : RegisterView) → Drifts old new → Counted 0 old new
drifted old new d = let e = ap (λ (v : RegisterView). v.faults) d.is in omega (arith, e)

-- what is counted behind them is counted in all
behind : (n : ℕ) (a b c : RegisterView) → Counted 0 a b → Counted n b c → Counted n a c
behind n a b c h k = omega (arith, h, k)

run_counts : (events : List Event) (old new : RegisterView) → RegisterRun old events new → Counted (count_by is_meta (faults_in (own events))) old new
run_counts [] old new run = drifted old new run
run_counts (e ∷ es) old new run = by (run_counts es run.0 new run.2) (is_on_register e.call) refl
  where
    by : Counted (count_by is_meta (faults_in (own es))) run.0 new → (b : Bool) → is_on_register e.call ≡ b → Counted (count_by is_meta (faults_in (own (e ∷ es)))) old new
    by rest true on =
        let at = run.1.before in
        let d = subst (λ b. MatchBool b (RegisterDoes at e.call e.answer run.0) (run.0 ≡ at)) on run.1.does in
        let h = behind (weight is_meta (fault_of e.answer e.call)) old at run.0 (drifted old at run.1.drifted) (does e.call e.answer at run.0 d) in
        let k = both (weight is_meta (fault_of e.answer e.call)) (count_by is_meta (faults_in (own es))) old run.0 new h rest in
        rw on (subst (λ n. Counted n old new) (sym (count-more is_meta e (own es))) k)
    by rest false off =
        let at = run.1.before in
        let same = subst (λ b. MatchBool b (RegisterDoes at e.call e.answer run.0) (run.0 ≡ at)) off run.1.does in
        let k = behind (count_by is_meta (faults_in (own es))) old at new (drifted old at run.1.drifted) (subst (λ v. Counted (count_by is_meta (faults_in (own es))) v new) same rest) in
        rw off k

pub own_counted : (events : List Event) (now : RegisterView) → HasRegisterRun events now → min (count_by is_meta (faults_in (filter (λ e. is_on_register e.call) events))) (2 ^ 64 - 1) ≤ now.faults
own_counted events now h = let k = run_counts events h.opening now h.run in omega (arith, k)

-- In a legal journal no other calls are answered so.

off_never : (c : FabricCall) → is_on_register c ≡ false → (move_of c fabric.MetaFault ≡ Never) × (move_of c fabric.Down ≡ Never)
off_never (Begin i op) off = (refl, refl)
off_never (Carry i t word) off = (refl, refl)
off_never (Forget i t) off = (refl, refl)
off_never (Stop i server n) off = (refl, refl)
off_never (Mend i server word) off = (refl, refl)
off_never (Stray i word) off = (refl, refl)
off_never ReadChain off = absurd (cc)
off_never (WriteChain x c) off = absurd (cc)
off_never (StopMeta n) off = absurd (cc)
off_never (MendMeta word) off = absurd (cc)

off_none : (a : FabricAnswer) (c : FabricCall) → is_on_register c ≡ false → (move_of c a ≡ Never → ⊥) → weight is_meta (fault_of a c) ≡ 0
off_none fabric.MetaFault c off may = absurd (may (off_never c off).0)
off_none fabric.Down c off may = absurd (may (off_never c off).1)
off_none fabric.Full (Begin i op) off may = refl
off_none (fabric.Done (answers.NoQuorum u)) (Carry i t word) off may = refl
off_none a c off may = refl

all_own : (law : Law) (w : State) (events : List Event) → IsLegalFrom w law events → count_by is_meta (faults_in events) ≡ count_by is_meta (faults_in (own events))
all_own law w [] h = refl
all_own law w (e ∷ es) h = by (all_own law (after w e.who (move e)) es h.1) (is_on_register e.call) refl
  where
    by : count_by is_meta (faults_in es) ≡ count_by is_meta (faults_in (own es)) → (b : Bool) → is_on_register e.call ≡ b → count_by is_meta (faults_in (e ∷ es)) ≡ count_by is_meta (faults_in (own (e ∷ es)))
    by rest true on = rw on (count-more is_meta e es ∙ ap (λ n. weight is_meta (fault_of e.answer e.call) + n) rest ∙ sym (count-more is_meta e (own es)))
    by rest false off =
        let none = off_none e.answer e.call off (λ never. subst (λ m. IsAllowed w law e.who m) never h.0.allowed) in
        let more = count-more is_meta e es in
        rw off (omega (arith, none, more, rest))

pub all_counted : (law : Law) (events : List Event) (now : RegisterView) → IsLegal law events → HasRegisterRun events now → min (count_by is_meta (faults_in events)) (2 ^ 64 - 1) ≤ now.faults
all_counted law events now legal h =
    let k = own_counted events now h in
    let e = all_own law start events legal.steps in
    omega (arith, k, e)
