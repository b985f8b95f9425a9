-- What the client of an operation is told, a loglet may tell.
use Rattle.std.proofs.Common.{◌≡◌, ℕ, ◌+◌, ◌-◌, ◌<◌, ◌≤◌, Bool, true, false, cond, refl, sym, ◌∙◌, ap, subst, arith, length, drop, Option, Some, None}
use Rattle.std.specs.Prelude.{if◌then◌else◌, min, nat_lt, slice_get, option_map}
use Rattle.std.proofs.lemmas.Bool.{false≢true, ltb-true, ltb-false}
use Rattle.delos_types.specs.declared.entry.Entry.{Entry}
use Rattle.loglet_api.specs.declared.call.Answer.{Answer}
use Rattle.loglet_api.specs.declared.call.Answer.TheVariants.{Placed, Settled, OpenTail as TailOpen, SealedTail as TailSealed, SealDone, Got, CutAt, Beyond as PastFirm, TrimDone as Trimmed, Sealed, NoQuorum as Lacking}
use Rattle.loglet_api.specs.Step.{MayAnswer, IsLack, told_reach, told_firm, told_cap, told_lacks, wanted_by, task_of}
use Rattle.quorum_cell.specs.declared.operation.Aim.{Aim}
use Rattle.quorum_cell.specs.declared.operation.Aim.TheVariants.{Append as AimAppend, Settle as AimSettle, Tail as AimTail, Seal as AimSeal, Read as AimRead, Trim as AimTrim}
use Rattle.quorum_cell.specs.declared.operation.Outcome.{Outcome}
use Rattle.quorum_cell.specs.declared.operation.Outcome.TheVariants.{Reached, OpenTail, SealedTail, Shut, Found, Gone, Beyond, TrimDone, NoQuorum}
use Rattle.quorum_cell.specs.Cells.{Cell, operation, is_lack}
use Rattle.quorum_cell.specs.Tallies.{may_decide, entry_heard}
use Rattle.quorum_cell.specs.Steps.{reached, shown, cap_after, given_outcome}
use Rattle.quorum_cell.specs.Outcomes.{OutcomeHolds, IsLacking}
use Rattle.quorum_cell.proofs.Lists.{slice_get_drop}
use Rattle.quorum_cell.specs.Law.{IsLawful}
use Rattle.cell_views.specs.Views.{Manner, cell_view, operation_view, op_of, answer_of}

-- the operation of ticket t came to a, its client is given g of that, and is told so
pub record Tells (m : Manner) (c : Cell) (t : ℕ) (aim : Aim) (a g : Outcome) : Type 0 where
  pub answer : Answer
  pub is : answer_of c.cut (operation c t) aim g ≡ Some answer
  pub may : MayAnswer (cell_view m c) (operation_view (length c.servers) (operation c t) (m.left t)) (task_of (op_of aim)) answer
  pub reach : reached (operation c t) a ≡ told_reach (wanted_by (task_of (op_of aim)) (operation c t).size_before) answer
  pub firm : shown (operation c t) a ≡ told_firm (wanted_by (task_of (op_of aim)) (operation c t).size_before) answer
  pub cap : cap_after c.cap a ≡ told_cap answer c.cap
  pub lacks : cond (is_lack (Some g)) 1 0 ≡ told_lacks answer

abbrev is_sealed_tail : Outcome → Bool
is_sealed_tail (SealedTail x) = true
is_sealed_tail _ = false

cap_kept : (cap : Option ℕ) (a : Outcome) → is_sealed_tail a ≡ false → cap_after cap a ≡ cap
cap_kept None (SealedTail x) h = absurd (false≢true (sym h))
cap_kept (Some u) (SealedTail x) h = absurd (false≢true (sym h))
cap_kept None _ h = refl
cap_kept (Some u) _ h = refl

cap_sealed : (cap : Option ℕ) (x : ℕ) → cap_after cap (SealedTail x) ≡ told_cap (TailSealed x) cap
cap_sealed None x = refl
cap_sealed (Some u) x = refl

lack : (m : Manner) (c : Cell) → IsLawful c → (t u : ℕ) → IsLacking c (operation c t) u → IsLack (cell_view m c) (operation_view (length c.servers) (operation c t) (m.left t)) u
lack m c law t u h = record {
  enough = h.many;
  servers = h.servers;
  faults = omega (arith, h.cause, (law.law.quorum.operations t).faults);
}

-- the entry at a place from the cut on is the one that clients see there
entry_seen : (c : Cell) (p : ℕ) (e : Entry) → slice_get c.entries p ≡ Some e → c.cut ≤ p → slice_get (drop c.cut c.entries) (p - c.cut) ≡ Some e
entry_seen c p e h above = let at : c.cut + (p - c.cut) ≡ p = omega arith in slice_get_drop c.cut c.entries (p - c.cut) ∙ ap (slice_get c.entries) at ∙ h

-- below the cut a read is told so, whatever it came to
gone_tells : (m : Manner) (c : Cell) (t p : ℕ) (a : Outcome) → p < c.cut → reached (operation c t) a ≡ 0 → shown (operation c t) a ≡ 0 → is_sealed_tail a ≡ false → Tells m c t (AimRead p) a Gone
gone_tells m c t p a below reach firm cap = record { answer = CutAt c.cut; is = refl; may = (below, refl); reach = reach; firm = firm; cap = cap_kept c.cap a cap; lacks = refl }

same_place : (p q : ℕ) (aim : Aim) → aim ≡ AimRead p → aim ≡ AimRead q → p ≡ q
same_place p q aim e f = cc

found_tells : (m : Manner) (c : Cell) (t p : ℕ) → (operation c t).aim ≡ AimRead p → OutcomeHolds c (operation c t) Found → Tells m c t (AimRead p) Found (given_outcome c.cut (AimRead p) Found)
found_tells m c t p is h = by (nat_lt p c.cut) refl
  where
    by : (b : Bool) → nat_lt p c.cut ≡ b → Tells m c t (AimRead p) Found (if b then Gone else Found)
    by true e = gone_tells m c t p Found (ltb-true p c.cut e) refl refl refl
    by false e =
        let same : h.0 ≡ p = same_place h.0 p (operation c t).aim h.1 is in
        record {
          answer = Got h.3.0;
          is = ap (option_map (λ x. Got x)) (subst (λ k. entry_heard k (operation c t).heard ≡ Some h.3.0) same h.3.1);
          may = (ltb-false p c.cut e, omega (arith, h.2, same), entry_seen c p h.3.0 (subst (λ k. slice_get c.entries k ≡ Some h.3.0) same h.3.2) (ltb-false p c.cut e));
          reach = refl;
          firm = refl;
          cap = cap_kept c.cap Found refl;
          lacks = refl;
        }

beyond_tells : (m : Manner) (c : Cell) (t p : ℕ) → (operation c t).aim ≡ AimRead p → OutcomeHolds c (operation c t) Beyond → Tells m c t (AimRead p) Beyond (given_outcome c.cut (AimRead p) Beyond)
beyond_tells m c t p is h = by (nat_lt p c.cut) refl
  where
    by : (b : Bool) → nat_lt p c.cut ≡ b → Tells m c t (AimRead p) Beyond (if b then Gone else Beyond)
    by true e = gone_tells m c t p Beyond (ltb-true p c.cut e) refl refl refl
    by false e =
        let same : h.0 ≡ p = same_place h.0 p (operation c t).aim h.1 is in
        record { answer = PastFirm (operation c t).firm_before; is = refl; may = (ltb-false p c.cut e, omega (arith, h.2, same), refl); reach = refl; firm = refl; cap = cap_kept c.cap Beyond refl; lacks = refl }

lacking_tells : (m : Manner) (c : Cell) → IsLawful c → (t p u : ℕ) → (operation c t).aim ≡ AimRead p → OutcomeHolds c (operation c t) (NoQuorum u) → Tells m c t (AimRead p) (NoQuorum u) (given_outcome c.cut (AimRead p) (NoQuorum u))
lacking_tells m c law t p u is h = by (nat_lt p c.cut) refl
  where
    by : (b : Bool) → nat_lt p c.cut ≡ b → Tells m c t (AimRead p) (NoQuorum u) (if b then Gone else NoQuorum u)
    by true e = gone_tells m c t p (NoQuorum u) (ltb-true p c.cut e) refl refl refl
    by false e = record { answer = Lacking u; is = refl; may = (ltb-false p c.cut e, h.1 p is, lack m c law t u h.0); reach = refl; firm = refl; cap = cap_kept c.cap (NoQuorum u) refl; lacks = refl }

read_gone_tells : (m : Manner) (c : Cell) (t p : ℕ) → p < c.cut → Tells m c t (AimRead p) Gone (given_outcome c.cut (AimRead p) Gone)
read_gone_tells m c t p below = by (nat_lt p c.cut)
  where
    by : (b : Bool) → Tells m c t (AimRead p) Gone (if b then Gone else Gone)
    by true = gone_tells m c t p Gone below refl refl refl
    by false = gone_tells m c t p Gone below refl refl refl

pub tells : (m : Manner) (c : Cell) → IsLawful c → (t : ℕ) (aim : Aim) → (operation c t).aim ≡ aim → (a : Outcome) → may_decide (length c.servers) c.cut (operation c t) aim a ≡ true → OutcomeHolds c (operation c t) a → Tells m c t aim a (given_outcome c.cut aim a)
tells m c law t (AimAppend e) is Reached h holds =
    let want : (operation c t).want ≡ (operation c t).size_before + 1 = ((law.law.quorum.operations t).placed e is).0 in
    record { answer = Placed (operation c t).size_before; is = refl; may = (refl, holds.0); reach = want; firm = want; cap = cap_kept c.cap Reached refl; lacks = refl }
tells m c law t (AimAppend e) is Shut h holds = record { answer = Sealed; is = refl; may = holds; reach = refl; firm = refl; cap = cap_kept c.cap Shut refl; lacks = refl }
tells m c law t (AimAppend e) is (NoQuorum u) h holds = record { answer = Lacking u; is = refl; may = lack m c law t u holds.0; reach = refl; firm = refl; cap = cap_kept c.cap (NoQuorum u) refl; lacks = refl }
tells m c law t (AimAppend e) is _ h holds = absurd (false≢true h)
tells m c law t (AimSettle n) is Reached h holds =
    let want : (operation c t).want ≡ min n (operation c t).size_before = (law.law.quorum.operations t).settled n is in
    record { answer = Settled; is = refl; may = holds.0; reach = want; firm = want; cap = cap_kept c.cap Reached refl; lacks = refl }
tells m c law t (AimSettle n) is Shut h holds = record { answer = Sealed; is = refl; may = holds; reach = refl; firm = refl; cap = cap_kept c.cap Shut refl; lacks = refl }
tells m c law t (AimSettle n) is (NoQuorum u) h holds = record { answer = Lacking u; is = refl; may = lack m c law t u holds.0; reach = refl; firm = refl; cap = cap_kept c.cap (NoQuorum u) refl; lacks = refl }
tells m c law t (AimSettle n) is _ h holds = absurd (false≢true h)
tells m c law t AimTail is (OpenTail x) h holds = record { answer = TailOpen x; is = refl; may = (holds.1, holds.0); reach = refl; firm = refl; cap = cap_kept c.cap (OpenTail x) refl; lacks = refl }
tells m c law t AimTail is (SealedTail x) h holds = record { answer = TailSealed x; is = refl; may = (holds.1, holds.0); reach = refl; firm = refl; cap = cap_sealed c.cap x; lacks = refl }
tells m c law t AimTail is (NoQuorum u) h holds = record { answer = Lacking u; is = refl; may = lack m c law t u holds.0; reach = refl; firm = refl; cap = cap_kept c.cap (NoQuorum u) refl; lacks = refl }
tells m c law t AimTail is _ h holds = absurd (false≢true h)
tells m c law t AimSeal is Shut h holds = record { answer = SealDone; is = refl; may = holds; reach = refl; firm = refl; cap = cap_kept c.cap Shut refl; lacks = refl }
tells m c law t AimSeal is (NoQuorum u) h holds = record { answer = Lacking u; is = refl; may = lack m c law t u holds.0; reach = refl; firm = refl; cap = cap_kept c.cap (NoQuorum u) refl; lacks = refl }
tells m c law t AimSeal is _ h holds = absurd (false≢true h)
tells m c law t (AimRead p) is Found h holds = found_tells m c t p is holds
tells m c law t (AimRead p) is Gone h holds = read_gone_tells m c t p (ltb-true p c.cut h)
tells m c law t (AimRead p) is Beyond h holds = beyond_tells m c t p is holds
tells m c law t (AimRead p) is (NoQuorum u) h holds = lacking_tells m c law t p u is holds
tells m c law t (AimRead p) is _ h holds = absurd (false≢true h)
tells m c law t (AimTrim n) is TrimDone h holds = record { answer = Trimmed; is = refl; may = tt; reach = refl; firm = refl; cap = cap_kept c.cap TrimDone refl; lacks = refl }
tells m c law t (AimTrim n) is (NoQuorum u) h holds = record { answer = Lacking u; is = refl; may = lack m c law t u holds.0; reach = refl; firm = refl; cap = cap_kept c.cap (NoQuorum u) refl; lacks = refl }
tells m c law t (AimTrim n) is _ h holds = absurd (false≢true h)
