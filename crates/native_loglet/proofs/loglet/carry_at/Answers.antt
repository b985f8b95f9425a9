use Rattle.std.proofs.Common.{◌≡◌, ℕ, Bool, sym, ◌∙◌, ap, subst, List, Some, inl, inr}
use Rattle.std.specs.Prelude.{◌⊎◌, is_some, Result, Ok, Err, IfOk, OnErr}
use Rattle.native_loglet.specs.Natives.{UpdatesAt}
use Rattle.std.proofs.lemmas.Bool.{cases_eq}
use Rattle.std.proofs.lemmas.Option.{same_Some}
use Rattle.delos_types.specs.declared.entry.Entry.{Entry}
use Rattle.log_server.specs.View.{View}
use Rattle.native_plan.specs.declared.pending.Pending.{Pending}
use Rattle.native_loglet.specs.Natives.{PendingList, look_in}
use Rattle.native_loglet.specs.Moving.{Moves, CarriesAt}
use Rattle.native_loglet.specs.Natives.{states_in}
use Rattle.native_loglet.proofs.Serving.{wear_same}
use Rattle.native_loglet.proofs.Stepping.{not_at}
use Rattle.native_loglet.proofs.Disks.{same_disks}
use Rattle.native_loglet.proofs.loglet.carry_at.Goals as goal

-- what the operation of the ticket came to is put in its place
carried_at : {E : Type 0} (entries : List Entry) (cut t word : ℕ) (p q : Pending) (old new : PendingList) (vs ws : List View) (r : Result Bool E) → look_in old t ≡ Some p → UpdatesAt old new t (Some q) → IfOk r (Moves entries cut word p q vs ws)
    → (k : Pending) → look_in old t ≡ Some k → IfOk r (CarriesAt entries cut t word k old new vs ws)
carried_at entries cut t word p q old new vs ws (Ok failed) was u m k is = record {
  next = q;
  moves = subst (λ (x : Pending). Moves entries cut word x q vs ws failed) (same_Some _ _ (sym was ∙ is)) m;
  is = u.1;
  others = λ n other. u.2 n (not_at t n other);
}
carried_at entries cut t word p q old new vs ws (Err e) was u m k is = tt

-- it is put back as it was
put_back : {E : Type 0} (t : ℕ) (p q : Pending) (old new : PendingList) (r : Result Bool E) → look_in old t ≡ Some p → UpdatesAt old new t (Some q) → OnErr r (q ≡ p) → OnErr r ((n : ℕ) → look_in new n ≡ look_in old n)
put_back t p q old new (Ok failed) was u same = tt
put_back t p q old new (Err e) was u same = λ n. by n (cases_eq n t)
  where
    by : (n : ℕ) → (n ≡ t) ⊎ (n ≡ t → ⊥) → look_in new n ≡ look_in old n
    by n (inl here) = ap (look_in new) here ∙ u.1 ∙ ap (λ x. Some x) same ∙ sym was ∙ sym (ap (look_in old) here)
    by n (inr other) = u.2 n (not_at t n other)

pub returns-in-Some-clause-carries : goal.returns-in-Some-clause-carries
returns-in-Some-clause-carries g c =
    carried_at c.args.entries.now.items c.args.cut c.args.number c.args.word c.in-Some.p.now c.carry_one.new.p c.args.pending.now.entries (c.get_mut.follows.lender c.carry_one.new.p).entries c.args.replicas.now c.carry_one.new.replicas c.carry_one.result
    (sym c.in-Some.ensures.value) ((c.get_mut.follows.holds c.carry_one.new.p).3 (ap is_some (sym c.in-Some.ensures.value))) c.carry_one.ensures.moves

pub returns-in-Some-clause-pending : goal.returns-in-Some-clause-pending
returns-in-Some-clause-pending g c =
    put_back c.args.number c.in-Some.p.now c.carry_one.new.p c.args.pending.now.entries (c.get_mut.follows.lender c.carry_one.new.p).entries c.carry_one.result
    (sym c.in-Some.ensures.value) ((c.get_mut.follows.holds c.carry_one.new.p).3 (ap is_some (sym c.in-Some.ensures.value))) c.carry_one.ensures.p

pub returns-in-None-clause-wear : goal.returns-in-None-clause-wear
returns-in-None-clause-wear g c = wear_same (states_in c.args.replicas.now)

pub returns-in-None-clause-disks : goal.returns-in-None-clause-disks
returns-in-None-clause-disks g c = same_disks c.args.replicas.now
