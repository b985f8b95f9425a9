-- Each step of a lawful cell is a step of a loglet, or changes nothing that clients see.
use Rattle.std.proofs.Common.{◌≡◌, ℕ, zero, suc, ◌+◌, ◌-◌, ◌<◌, ◌≤◌, Bool, true, false, cond, refl, sym, ◌∙◌, ap, subst, arith, List, [], ◌∷◌, ◌++◌, length, drop, get_or, set, Option, Some, None, inl, inr, length-append}
use Rattle.std.specs.Prelude.{◌⊎◌, ◌&&◌, ◌==◌, if◌then◌else◌, min, max, not, nat_lt, is_some, slice_get, count_by, All}
use Rattle.std.proofs.lemmas.Bool.{false≢true, cases_eq, and_parts, and_from, or_parts, or_cases, ltb-true, ltb-false, eqb-true, eq-eqb, ne_eqb, not-true}
use Rattle.std.proofs.lemmas.Option.{none-some, same_Some}
use Rattle.std.proofs.lemmas.List.{length-set, set_past, get_or-set_same, get_or-set_other, drop-append-le, append-nil}
use Rattle.std.proofs.lemmas.List.Elements.{All-head, All-tail}
use Rattle.std.proofs.lemmas.List.Sums.{sum_by-set, sum_by-append}
use Rattle.delos_types.specs.declared.entry.Entry.{Entry}
use Rattle.delos_types.specs.Spelling.{IsSpellable}
use Rattle.loglet_api.specs.declared.call.Refused.TheVariants.{Full}
use Rattle.loglet_api.specs.declared.call.LogletCall.{LogletCall}
use Rattle.loglet_api.specs.declared.call.LogletCall.TheVariants.{Begin as CallBegin, Take as CallTake, Forget as CallForget, Stray as CallStray, Restart as CallRestart}
use Rattle.loglet_api.specs.declared.call.LogletAnswer.{LogletAnswer}
use Rattle.loglet_api.specs.declared.call.LogletAnswer.TheVariants.{Begun, Refusal, Taken, Forgotten, Strayed, Restarted}
use Rattle.loglet_api.specs.View.{LogletView, operation_at, size_of}
use Rattle.loglet_api.specs.Sound.{IsSound}
use Rattle.loglet_api.specs.Step.{Does, CanCall, CanBegin, IsFull, IsAppend, Begins, begun_operation, PutsOperation, entries_of, seals_of, task_of, cut_after as cut_after_op, TakesAnswer, Forgets, Restarts, bumped, told_reach, told_firm, told_cap, told_lacks, wanted_by}
use Rattle.loglet_api.specs.Run.{LogletRun}
use Rattle.quorum_cell.specs.declared.operation.Aim.{Aim}
use Rattle.quorum_cell.specs.declared.operation.Aim.TheVariants.{Append as AimAppend, Settle as AimSettle, Tail as AimTail, Seal as AimSeal, Read as AimRead, Trim as AimTrim}
use Rattle.quorum_cell.specs.declared.operation.Outcome.{Outcome}
use Rattle.quorum_cell.specs.declared.operation.CellStep.{CellStep}
use Rattle.quorum_cell.specs.declared.operation.CellStep.TheVariants.{Begin, Send, RequestComes, RequestStops, ReplyComes, Lose, Restart, RestartFails, Decide, Take, Forget}
use Rattle.majority_rule.specs.Majority.{majority, votes_below}
use Rattle.quorum_cell.specs.Servers.{Server, restarted}
use Rattle.quorum_cell.specs.Cells.{Cell, Operation, server, operation, no_server, no_operation, is_shut, is_seal, is_lack, seals, lacks, down}
use Rattle.quorum_cell.specs.Steps.{cell_step, run_cell, with_fault, is_append, is_full, entries_after, cut_after, begun, admit, begin, give, take_outcome, put_operation, forget, restart, restart_fails, given_outcome, reached, shown, cap_after}
use Rattle.quorum_cell.proofs.Steps.{cut_within, fault_later}
use Rattle.quorum_cell.proofs.Conclusions.{outcome_holds}
use Rattle.quorum_cell.proofs.Table.{restarted_up}
use Rattle.quorum_cell.proofs.Runs.{step_later}
use Rattle.quorum_cell.specs.Law.{IsLawful}
use Rattle.cell_views.specs.Views.{Manner, IsManner, IsNearer, IsStray, IsSpelled, BringsSpelled, cell_view, operation_view, open_from, left_of, counted, op_of, taken, calls, calls_of}
use Rattle.majority_rule.proofs.Majorities.{votes_within}
use Rattle.quorum_cell.proofs.Lawful.{step_lawful}
use Rattle.cell_views.proofs.Opened.{opened, opened_is}
use Rattle.cell_views.proofs.Sounds.{view_sound, size_is, open_known}
use Rattle.cell_views.proofs.Moves.{count_same, step_stirs, step_moves, stirs_moves, stirs_fault}
use Rattle.cell_views.proofs.Tells.{Tells, tells}

---- entries are spelled

spelled_push : (xs : List Entry) (a : Entry) → ((i : ℕ) (e : Entry) → slice_get xs i ≡ Some e → IsSpellable e) → IsSpellable a → (i : ℕ) (e : Entry) → slice_get (xs ++ a ∷ []) i ≡ Some e → IsSpellable e
spelled_push [] a old new zero e h = subst IsSpellable (same_Some a e h) new
spelled_push [] a old new (suc i) e h = absurd (none-some e h)
spelled_push (x ∷ xs) a old new zero e h = old 0 e h
spelled_push (x ∷ xs) a old new (suc i) e h = spelled_push xs a (λ k. old (suc k)) new i e h

spelled_begun : (c : Cell) (aim : Aim) → IsSpelled c → BringsSpelled (Begin aim) → IsSpelled (admit c aim)
spelled_begun c (AimAppend e) old new = spelled_push c.entries e old new
spelled_begun c (AimSettle n) old new = old
spelled_begun c AimTail old new = old
spelled_begun c AimSeal old new = old
spelled_begun c (AimRead p) old new = old
spelled_begun c (AimTrim n) old new = old

nothing_left : ℕ → ℕ × ℕ
nothing_left t = (0, 0)

nearest : (left : ℕ → ℕ × ℕ) → IsNearer left left
nearest left = λ t. inr (refl, omega arith)

spelled_given : (c : Cell) (t : ℕ) (z : Option Outcome) → IsSpelled c → IsSpelled (give c t (operation c t) z)
spelled_given c t None old = old
spelled_given c t (Some a) old = old

spelled_stray : (c : Cell) (step : CellStep) → IsStray step → IsSpelled c → IsSpelled (cell_step c step)
spelled_stray c step stray old = subst (λ (es : List Entry). (i : ℕ) (e : Entry) → slice_get es i ≡ Some e → IsSpellable e) (sym (step_stirs nothing_left nothing_left c step stray (nearest nothing_left)).entries) old

pub spelled_after : (c : Cell) (step : CellStep) → IsSpelled c → BringsSpelled step → IsSpelled (cell_step c step)
spelled_after c (Begin aim) old new = by (is_full c aim)
  where
    by : (b : Bool) → IsSpelled (if b then with_fault c (length c.servers) else admit c aim)
    by true = old
    by false = spelled_begun c aim old new
spelled_after c (Send t i wish) old new = spelled_stray c (Send t i wish) tt old
spelled_after c (RequestComes k) old new = spelled_stray c (RequestComes k) tt old
spelled_after c (RequestStops k) old new = spelled_stray c (RequestStops k) tt old
spelled_after c (ReplyComes k) old new = spelled_stray c (ReplyComes k) tt old
spelled_after c (Lose k) old new = spelled_stray c (Lose k) tt old
spelled_after c (Restart i kept) old new = spelled_stray c (Restart i kept) tt old
spelled_after c (RestartFails i) old new = spelled_stray c (RestartFails i) tt old
spelled_after c (Decide t a) old new = spelled_stray c (Decide t a) tt old
spelled_after c (Take t) old new = by (operation c t).closed
  where
    by : (b : Bool) → IsSpelled (if b then c else give c t (operation c t) (operation c t).decided)
    by true = old
    by false = spelled_given c t (operation c t).decided old
spelled_after c (Forget t) old new = by (operation c t).closed
  where
    by : (b : Bool) → IsSpelled (if b then c else put_operation c t (record (operation c t) { closed = true }))
    by true = old
    by false = old

---- a step from before to after

manner_after : (m : Manner) (c : Cell) (step : CellStep) → IsManner (length c.servers) m → IsManner (length (cell_step c step).servers) m
manner_after m c step manner = rw (step_later c step).servers manner

-- what both ends of a step are
pub record Ends (m : Manner) (c d : Cell) : Type 0 where
  pub before : IsSound (cell_view m c)
  pub after : IsSound (cell_view m d)

ends_of : (m : Manner) (c : Cell) (step : CellStep) → IsManner (length c.servers) m → IsLawful c → IsSpelled c → BringsSpelled step → Ends m c (cell_step c step)
ends_of m c step manner law spelled new = record {
  before = view_sound m c manner law spelled;
  after = view_sound m (cell_step c step) (manner_after m c step manner) (step_lawful c step law) (spelled_after c step spelled new);
}

one_call : (old new : LogletView) (call : LogletCall) (answer : LogletAnswer) → IsSound old → CanCall old call → Does old call answer new → IsSound new → LogletRun old ((call, answer) ∷ []) new
one_call old new call answer before can does after = (new, record { before = before; can = can; does = does; after = after }, refl)

---- an operation begins

full_append : (aim : Aim) → is_append aim ≡ true → IsAppend (op_of aim)
full_append (AimAppend e) h = tt
full_append _ h = absurd (false≢true h)

append_full : (aim : Aim) → IsAppend (op_of aim) → is_append aim ≡ true
append_full (AimAppend e) h = refl
append_full (AimSettle n) h = absurd h
append_full AimTail h = absurd h
append_full AimSeal h = absurd h
append_full (AimRead p) h = absurd h
append_full (AimTrim n) h = absurd h

full_is : (m : Manner) (c : Cell) → IsLawful c → (aim : Aim) → is_full c aim ≡ true → IsFull (cell_view m c) (op_of aim)
full_is m c law aim h = by (or_cases _ _ h)
  where
    by : (((is_append aim && (length c.entries == c.room)) ≡ true) ⊎ ((length c.operations == c.limit) ≡ true)) → IsFull (cell_view m c) (op_of aim)
    by (inl e) = let parts : (is_append aim ≡ true) × ((length c.entries == c.room) ≡ true) = and_parts _ _ e in inl (full_append aim parts.0, size_is m c law ∙ eqb-true _ _ parts.1)
    by (inr e) = inr (eqb-true _ _ e)

not_full : (m : Manner) (c : Cell) → IsLawful c → (aim : Aim) → is_full c aim ≡ false → IsFull (cell_view m c) (op_of aim) → ⊥
not_full m c law aim h (inl e) = false≢true (sym (or_parts _ _ h).0 ∙ and_from _ _ (append_full aim e.0) (eq-eqb _ _ (sym (size_is m c law) ∙ e.1)))
not_full m c law aim h (inr e) = false≢true (sym (or_parts _ _ h).1 ∙ eq-eqb _ _ e)

can_begin : (aim : Aim) → BringsSpelled (Begin aim) → CanBegin (op_of aim)
can_begin (AimAppend e) h = h
can_begin (AimSettle n) h = tt
can_begin AimTail h = tt
can_begin AimSeal h = tt
can_begin (AimRead p) h = tt
can_begin (AimTrim n) h = tt

push_here : (os : List Operation) (o : Operation) (q : ℕ) → q ≡ length os → get_or (os ++ o ∷ []) q no_operation ≡ o
push_here [] o zero h = refl
push_here [] o (suc q) h = absurd (omega (arith, h))
push_here (x ∷ os) o zero h = absurd (omega (arith, h))
push_here (x ∷ os) o (suc q) h = push_here os o q (omega (arith, h))

push_else : (os : List Operation) (o : Operation) (q : ℕ) → (length os ≡ q → ⊥) → get_or (os ++ o ∷ []) q no_operation ≡ get_or os q no_operation
push_else [] o zero h = absurd (h refl)
push_else [] o (suc q) h = refl
push_else (x ∷ os) o zero h = refl
push_else (x ∷ os) o (suc q) h = push_else os o q (λ e. h (omega (arith, e)))

puts_begun : (m : Manner) (c : Cell) → IsLawful c → (aim : Aim) → PutsOperation (cell_view m c).operations (length c.operations) (Some (begun_operation (cell_view m c) (op_of aim) (m.left (length c.operations)))) (cell_view m (admit c aim)).operations
puts_begun m c law aim q = opened_is (length c.servers) m.left q (c.operations ++ begun c aim ∷ []) ∙ by (cases_eq (length c.operations) q)
  where
    size : size_of (cell_view m c) ≡ length c.entries
    size = size_is m c law

    by : ((length c.operations ≡ q) ⊎ (length c.operations ≡ q → ⊥)) → opened (length c.servers) m.left q (get_or (c.operations ++ begun c aim ∷ []) q no_operation) ≡ (if length c.operations == q then Some (begun_operation (cell_view m c) (op_of aim) (m.left (length c.operations))) else operation_at (open_from (length c.servers) m.left 0 c.operations) q)
    by (inl e) = rw (eq-eqb _ _ e, push_here c.operations (begun c aim) q (sym e), ← e) (ap (λ k. Some (record (begun_operation (cell_view m c) (op_of aim) (m.left (length c.operations))) { size = k })) (sym (size_is m c law)))
    by (inr n) = rw (ne_eqb _ _ n, push_else c.operations (begun c aim) q n) (sym (opened_is (length c.servers) m.left q c.operations))

drop_none : (n : ℕ) → drop {A = Entry} n [] ≡ []
drop_none zero = refl
drop_none (suc n) = refl

drop_twice : (a b : ℕ) (xs : List Entry) → drop b (drop a xs) ≡ drop (a + b) xs
drop_twice zero b xs = ap (λ k. drop k xs) (omega arith)
drop_twice (suc a) b [] = drop_none b ∙ sym (drop_none (suc a + b))
drop_twice (suc a) b (x ∷ xs) = let e : suc a + b ≡ suc (a + b) = omega arith in rw e (drop_twice a b xs)

cut_is : (m : Manner) (c : Cell) (aim : Aim) → cut_after c aim ≡ cut_after_op (cell_view m c) (op_of aim)
cut_is m c (AimAppend e) = refl
cut_is m c (AimSettle n) = refl
cut_is m c AimTail = refl
cut_is m c AimSeal = refl
cut_is m c (AimRead p) = refl
cut_is m c (AimTrim n) = refl

-- where the cut stays
log_same : (c : Cell) → drop c.cut c.entries ≡ drop (c.cut - c.cut) (drop c.cut c.entries) ++ []
log_same c = let none : c.cut - c.cut ≡ 0 = omega arith in rw none (sym (append-nil (drop c.cut c.entries)))

log_is : (m : Manner) (c : Cell) → IsLawful c → (aim : Aim) → drop (cut_after c aim) (entries_after c aim) ≡ drop (cut_after_op (cell_view m c) (op_of aim) - c.cut) (drop c.cut c.entries) ++ entries_of (op_of aim)
log_is m c law (AimAppend e) = let none : c.cut - c.cut ≡ 0 = omega arith in rw none (drop-append-le c.cut c.entries (e ∷ []) (cut_within c law.law.quorum))
log_is m c law (AimSettle n) = log_same c
log_is m c law AimTail = log_same c
log_is m c law AimSeal = log_same c
log_is m c law (AimRead p) = log_same c
log_is m c law (AimTrim n) =
    let reach : c.cut + (max c.cut (min n c.reach) - c.cut) ≡ max c.cut (min n c.reach) = omega arith in
    sym (append-nil _ ∙ drop_twice c.cut (max c.cut (min n c.reach) - c.cut) c.entries ∙ ap (λ k. drop k c.entries) reach)

seal_is : (aim : Aim) → cond (is_seal aim) 1 0 ≡ seals_of (op_of aim)
seal_is (AimAppend e) = refl
seal_is (AimSettle n) = refl
seal_is AimTail = refl
seal_is AimSeal = refl
seal_is (AimRead p) = refl
seal_is (AimTrim n) = refl

begins : (m : Manner) (c : Cell) → IsLawful c → (aim : Aim) → is_full c aim ≡ false → Begins (cell_view m c) (op_of aim) (length c.operations) (cell_view m (admit c aim))
begins m c law aim space =
    let d : Cell = admit c aim in
    let cut = cut_is m c aim in
    let log = log_is m c law aim in
    let more : length d.operations ≡ length c.operations + 1 = omega (arith, length-append c.operations (begun c aim ∷ [])) in
    let sealing : seals d ≡ seals c + seals_of (op_of aim) = omega (arith, seal_is aim, sum_by-append (λ (x : Operation). cond (is_seal x.aim) 1 0) c.operations (begun c aim ∷ [])) in
    let lacking : lacks d ≡ lacks c = omega (arith, sum_by-append (λ (x : Operation). cond (is_lack x.given) 1 0) c.operations (begun c aim ∷ [])) in
    record {
      room = not_full m c law aim space;
      ticket = refl;
      left = m.left (length c.operations);
      operation = puts_begun m c law aim;
      rest = λ i. record {
        kind = m.kind;
        servers = length c.servers;
        quorum = majority (length c.servers);
        room = c.room;
        rounds = m.rounds;
        limit = c.limit;
        cut = cut i;
        log = log i;
        reach = c.reach;
        cap = c.cap;
        firm = c.firm;
        shut = is_shut c;
        operations = open_from (length c.servers) m.left 0 d.operations;
        faults = counted (length c.faults);
        down = down c;
        begun = more i;
        seals = sealing i;
        lacks = lacking i;
      };
    }

begin_runs : (m : Manner) (c : Cell) (aim : Aim) → IsManner (length c.servers) m → IsLawful c → IsSpelled c → BringsSpelled (Begin aim) → LogletRun (cell_view m c) (calls c (Begin aim)) (cell_view m (begin c aim))
begin_runs m c aim manner law spelled new = by (is_full c aim) refl (ends_of m c (Begin aim) manner law spelled new)
  where
    by : (b : Bool) → is_full c aim ≡ b → Ends m c (if b then with_fault c (length c.servers) else admit c aim) →
        LogletRun (cell_view m c) ((CallBegin (op_of aim), if b then Refusal Full else Begun (length c.operations)) ∷ []) (cell_view m (if b then with_fault c (length c.servers) else admit c aim))
    by true e ends =
        let faults : counted (length (c.faults ++ length c.servers ∷ [])) ≡ bumped (counted (length c.faults)) = omega (arith, length-append c.faults (length c.servers ∷ [])) in
        one_call (cell_view m c) _ (CallBegin (op_of aim)) (Refusal Full) ends.before (can_begin aim new) (full_is m c law aim e, ap (λ f. record (cell_view m c) { faults = f }) faults) ends.after
    by false e ends = one_call (cell_view m c) _ (CallBegin (op_of aim)) (Begun (length c.operations)) ends.before (can_begin aim new) (begins m c law aim e) ends.after

---- an outcome is given, or the operation closed without it

open_is : (n : ℕ) (left : ℕ → ℕ × ℕ) (t : ℕ) (o : Operation) → o.closed ≡ false → opened n left t o ≡ Some (operation_view n o (left t))
open_is n left t o h = by o.closed h
  where
    by : (b : Bool) → b ≡ false → (if b then None else Some (operation_view n o (left t))) ≡ Some (operation_view n o (left t))
    by true e = absurd (false≢true (sym e))
    by false e = refl

closed_is : (n : ℕ) (left : ℕ → ℕ × ℕ) (t : ℕ) (o : Operation) → o.closed ≡ true → opened n left t o ≡ None
closed_is n left t o h = by o.closed h
  where
    by : (b : Bool) → b ≡ true → (if b then None else Some (operation_view n o (left t))) ≡ None
    by true e = refl
    by false e = absurd (false≢true e)

seen_at : (m : Manner) (c : Cell) (t : ℕ) → (operation c t).closed ≡ false → operation_at (cell_view m c).operations t ≡ Some (operation_view (length c.servers) (operation c t) (m.left t))
seen_at m c t h = opened_is (length c.servers) m.left t c.operations ∙ open_is (length c.servers) m.left t (operation c t) h

puts_closed : (m : Manner) (c : Cell) (t : ℕ) (o : Operation) → t < length c.operations → o.closed ≡ true → PutsOperation (cell_view m c).operations t None (open_from (length c.servers) m.left 0 (set c.operations t o))
puts_closed m c t o known closed q = opened_is (length c.servers) m.left q (set c.operations t o) ∙ by (cases_eq t q)
  where
    by : ((t ≡ q) ⊎ (t ≡ q → ⊥)) → opened (length c.servers) m.left q (get_or (set c.operations t o) q no_operation) ≡ (if t == q then None else operation_at (open_from (length c.servers) m.left 0 c.operations) q)
    by (inl e) = rw (eq-eqb t q e, ← e, get_or-set_same c.operations t o no_operation known) (closed_is (length c.servers) m.left t o closed)
    by (inr n) = rw (ne_eqb t q n, get_or-set_other c.operations t q o no_operation (λ e. n (sym e))) (sym (opened_is (length c.servers) m.left q c.operations))

decided_left : (d : Option Outcome) (a : Outcome) (left : ℕ × ℕ) → d ≡ Some a → (left_of d left).0 + (left_of d left).1 ≡ 0
decided_left None a left h = absurd (none-some a h)
decided_left (Some b) a left h = omega arith

undecided_left : (d : Option Outcome) (left : ℕ × ℕ) → d ≡ None → 0 < left.0 + left.1 → 0 < (left_of d left).0 + (left_of d left).1
undecided_left None left h some = some
undecided_left (Some b) left h some = absurd (none-some b (sym h))

-- the operation with what its client was given
abbrev pub given_to : Cell → ℕ → Outcome → Operation
given_to c t a = record (operation c t) { given = Some (given_outcome c.cut (operation c t).aim a); closed = true }

takes : (m : Manner) (c : Cell) → IsLawful c → (t : ℕ) (a : Outcome) → (operation c t).closed ≡ false → (operation c t).decided ≡ Some a → (x : Tells m c t (operation c t).aim a (given_outcome c.cut (operation c t).aim a)) →
    TakesAnswer (cell_view m c) t x.answer (cell_view m (give c t (operation c t) (Some a)))
takes m c law t a is_open decided x =
    let known : t < length c.operations = open_known c t is_open in
    let none : (operation c t).given ≡ None = (law.law.quorum.operations t).ungiven is_open in
    let reaches : max c.reach (reached (operation c t) a) ≡ max c.reach (told_reach (wanted_by (task_of (op_of (operation c t).aim)) (operation c t).size_before) x.answer) = ap (max c.reach) x.reach in
    let firms : max c.firm (shown (operation c t) a) ≡ max c.firm (told_firm (wanted_by (task_of (op_of (operation c t).aim)) (operation c t).size_before) x.answer) = ap (max c.firm) x.firm in
    let caps : cap_after c.cap a ≡ told_cap x.answer c.cap = x.cap in
    let begins_same : length (set c.operations t (given_to c t a)) ≡ length c.operations = length-set c.operations t (given_to c t a) in
    let seals_same : count_by (λ (o : Operation). is_seal o.aim) (set c.operations t (given_to c t a)) ≡ seals c = count_same (λ (o : Operation). is_seal o.aim) c.operations t (given_to c t a) refl in
    let lacks_more : count_by (λ (o : Operation). is_lack o.given) (set c.operations t (given_to c t a)) ≡ lacks c + told_lacks x.answer = omega (arith, sum_by-set (λ (o : Operation). cond (is_lack o.given) 1 0) c.operations t (given_to c t a) no_operation known, x.lacks, ap {B = ℕ} (λ z. cond (is_lack z) 1 0) none) in
    record {
      operation = operation_view (length c.servers) (operation c t) (m.left t);
      is = seen_at m c t is_open;
      decided = decided_left (operation c t).decided a (m.left t) decided;
      may = x.may;
      closed = puts_closed m c t (given_to c t a) known refl;
      rest = λ i. record {
        kind = m.kind;
        servers = length c.servers;
        quorum = majority (length c.servers);
        room = c.room;
        rounds = m.rounds;
        limit = c.limit;
        cut = c.cut;
        log = drop c.cut c.entries;
        reach = reaches i;
        cap = caps i;
        firm = firms i;
        shut = is_shut c;
        operations = open_from (length c.servers) m.left 0 (set c.operations t (given_to c t a));
        faults = counted (length c.faults);
        down = down c;
        begun = begins_same i;
        seals = seals_same i;
        lacks = lacks_more i;
      };
    }

seen_open : (m : Manner) (c : Cell) (t : ℕ) → (operation c t).closed ≡ false → CanCall (cell_view m c) (CallTake t)
seen_open m c t h = ap is_some (seen_at m c t h)

give_runs : (m : Manner) (c : Cell) → IsManner (length c.servers) m → IsLawful c → (t : ℕ) → (operation c t).closed ≡ false → (z : Option Outcome) → (operation c t).decided ≡ z → Ends m c (give c t (operation c t) z) →
    LogletRun (cell_view m c) ((CallTake t, Taken (taken c.cut (operation c t) z)) ∷ []) (cell_view m (give c t (operation c t) z))
give_runs m c manner law t is_open None decided ends =
    one_call (cell_view m c) (cell_view m c) (CallTake t) (Taken None) ends.before (seen_open m c t is_open)
    (record { operation = operation_view (length c.servers) (operation c t) (m.left t); is = seen_at m c t is_open; undecided = undecided_left (operation c t).decided (m.left t) decided (manner.undecided t) }, refl) ends.after
give_runs m c manner law t is_open (Some a) decided ends =
    let told : Tells m c t (operation c t).aim a (given_outcome c.cut (operation c t).aim a) = tells m c law t (operation c t).aim refl a ((law.law.quorum.operations t).justified a decided) (outcome_holds c law.law.quorum t a decided) in
    rw told.is (one_call (cell_view m c) (cell_view m (give c t (operation c t) (Some a))) (CallTake t) (Taken (Some told.answer)) ends.before (seen_open m c t is_open) (takes m c law t a is_open decided told) ends.after)

nothing_called : (v : LogletView) → LogletRun v [] v
nothing_called v = refl

take_runs : (m : Manner) (c : Cell) (t : ℕ) → IsManner (length c.servers) m → IsLawful c → IsSpelled c → LogletRun (cell_view m c) (calls c (Take t)) (cell_view m (take_outcome c t))
take_runs m c t manner law spelled = by (operation c t).closed refl (ends_of m c (Take t) manner law spelled tt)
  where
    by : (b : Bool) → (operation c t).closed ≡ b → Ends m c (if b then c else give c t (operation c t) (operation c t).decided) →
        LogletRun (cell_view m c) (if b then [] else (CallTake t, Taken (taken c.cut (operation c t) (operation c t).decided)) ∷ []) (cell_view m (if b then c else give c t (operation c t) (operation c t).decided))
    by true e ends = nothing_called (cell_view m c)
    by false e ends = give_runs m c manner law t e (operation c t).decided refl ends

forgets : (m : Manner) (c : Cell) (t : ℕ) → (operation c t).closed ≡ false → Forgets (cell_view m c) t (cell_view m (put_operation c t (record (operation c t) { closed = true })))
forgets m c t is_open =
    let o : Operation = record (operation c t) { closed = true } in
    let begins_same : length (set c.operations t o) ≡ length c.operations = length-set c.operations t o in
    let seals_same : count_by (λ (x : Operation). is_seal x.aim) (set c.operations t o) ≡ seals c = count_same (λ (x : Operation). is_seal x.aim) c.operations t o refl in
    let lacks_same : count_by (λ (x : Operation). is_lack x.given) (set c.operations t o) ≡ lacks c = count_same (λ (x : Operation). is_lack x.given) c.operations t o refl in
    record {
      closed = puts_closed m c t o (open_known c t is_open) refl;
      rest = λ i. record {
        kind = m.kind;
        servers = length c.servers;
        quorum = majority (length c.servers);
        room = c.room;
        rounds = m.rounds;
        limit = c.limit;
        cut = c.cut;
        log = drop c.cut c.entries;
        reach = c.reach;
        cap = c.cap;
        firm = c.firm;
        shut = is_shut c;
        operations = open_from (length c.servers) m.left 0 (set c.operations t o);
        faults = counted (length c.faults);
        down = down c;
        begun = begins_same i;
        seals = seals_same i;
        lacks = lacks_same i;
      };
    }

forget_runs : (m : Manner) (c : Cell) (t : ℕ) → IsManner (length c.servers) m → IsLawful c → IsSpelled c → LogletRun (cell_view m c) (calls c (Forget t)) (cell_view m (forget c t))
forget_runs m c t manner law spelled = by (operation c t).closed refl (ends_of m c (Forget t) manner law spelled tt)
  where
    by : (b : Bool) → (operation c t).closed ≡ b → Ends m c (if b then c else put_operation c t (record (operation c t) { closed = true })) →
        LogletRun (cell_view m c) (if b then [] else (CallForget t, Forgotten) ∷ []) (cell_view m (if b then c else put_operation c t (record (operation c t) { closed = true })))
    by true e ends = nothing_called (cell_view m c)
    by false e ends = one_call (cell_view m c) _ (CallForget t) Forgotten ends.before (seen_open m c t e) (forgets m c t e) ends.after

---- a server comes up again, or does not

votes_miss : (n : ℕ) (f : ℕ → Bool) (i : ℕ) → i < n → f i ≡ false → votes_below n f < n
votes_miss zero f i l h = absurd (omega (arith, l))
votes_miss (suc n) f i l h = by (cases_eq i n) (votes_miss n f i)
  where
    at_most_one : (b : Bool) → (if b then 1 else 0) ≤ 1
    at_most_one true = omega arith
    at_most_one false = omega arith

    none : (b : Bool) → b ≡ false → (if b then 1 else 0) ≤ 0
    none true e = absurd (false≢true (sym e))
    none false e = omega arith

    by : ((i ≡ n) ⊎ (i ≡ n → ⊥)) → (i < n → f i ≡ false → votes_below n f < n) → votes_below n f + (if f n then 1 else 0) < suc n
    by (inl e) more = omega (arith, none (f n) (subst (λ k. f k ≡ false) e h), votes_within n f)
    by (inr e) more = omega (arith, more (omega (arith, l, e)) h, at_most_one (f n))

votes_hit : (n : ℕ) (f : ℕ → Bool) (i : ℕ) → i < n → f i ≡ true → 0 < votes_below n f
votes_hit zero f i l h = absurd (omega (arith, l))
votes_hit (suc n) f i l h = by (cases_eq i n) (votes_hit n f i)
  where
    one : (b : Bool) → b ≡ true → 1 ≤ (if b then 1 else 0)
    one true e = omega arith
    one false e = absurd (false≢true e)

    by : ((i ≡ n) ⊎ (i ≡ n → ⊥)) → (i < n → f i ≡ true → 0 < votes_below n f) → 0 < votes_below n f + (if f n then 1 else 0)
    by (inl e) more = omega (arith, one (f n) (subst (λ k. f k ≡ true) e h))
    by (inr e) more = omega (arith, more (omega (arith, l, e)) h)

up_after : (c : Cell) (i : ℕ) (kept : Bool) → i < length c.servers → (server (restart c i kept) i).up ≡ true
up_after c i kept here = by (server c i).up refl
  where
    by : (b : Bool) → (server c i).up ≡ b → (server (if b then c else record c { servers = set c.servers i (restarted (server c i) kept (server c i).torn) }) i).up ≡ true
    by true e = e
    by false e = rw (get_or-set_same c.servers i (restarted (server c i) kept (server c i).torn) no_server here) (restarted_up (server c i) kept (server c i).torn)

idle_after : (m : Manner) (c : Cell) (i : ℕ) (kept : Bool) → i < length c.servers → down c ≡ 0 → cell_view m (restart c i kept) ≡ cell_view m c
idle_after m c i kept here none = by (server c i).up refl
  where
    by : (b : Bool) → (server c i).up ≡ b → cell_view m (if b then c else record c { servers = set c.servers i (restarted (server c i) kept (server c i).torn) }) ≡ cell_view m c
    by true e = refl
    by false e = absurd (omega (arith, none, votes_hit (length c.servers) (λ j. not (server c j).up) i here (ap not e)))

restarts : (m : Manner) (c : Cell) (i : ℕ) (kept : Bool) → i < length c.servers → Restarts (cell_view m c) true (cell_view m (restart c i kept))
restarts m c i kept here =
    let same : length (restart c i kept).servers ≡ length c.servers = (step_later c (Restart i kept)).servers in
    record {
      moves = step_moves m m.left c (Restart i kept) tt (nearest m.left);
      failed = λ e. absurd (false≢true (sym e));
      up = λ _. votes_miss (length (restart c i kept).servers) (λ j. not (server (restart c i kept) j).up) i (omega (arith, here, same)) (ap not (up_after c i kept here));
      idle = λ none. (refl, idle_after m c i kept here none);
    }

-- there is no such server
restart_none : (m : Manner) (c : Cell) (i : ℕ) (kept : Bool) → length c.servers ≤ i → cell_view m (restart c i kept) ≡ cell_view m c
restart_none m c i kept past = by (server c i).up
  where
    by : (b : Bool) → cell_view m (if b then c else record c { servers = set c.servers i (restarted (server c i) kept (server c i).torn) }) ≡ cell_view m c
    by true = refl
    by false = ap (λ (ss : List Server). cell_view m (record c { servers = ss })) (set_past c.servers i (restarted (server c i) kept (server c i).torn) past)

restart_runs : (m : Manner) (c : Cell) (i : ℕ) (kept : Bool) → Ends m c (restart c i kept) → LogletRun (cell_view m c) (calls c (Restart i kept)) (cell_view m (restart c i kept))
restart_runs m c i kept ends = by (nat_lt i (length c.servers)) refl
  where
    by : (b : Bool) → nat_lt i (length c.servers) ≡ b → LogletRun (cell_view m c) (if b then (CallRestart i 0, Restarted true) ∷ [] else []) (cell_view m (restart c i kept))
    by true e = one_call (cell_view m c) (cell_view m (restart c i kept)) (CallRestart i 0) (Restarted true) ends.before (ltb-true i _ e) (restarts m c i kept (ltb-true i _ e)) ends.after
    by false e = restart_none m c i kept (ltb-false i _ e)

fails_to_restart : (m : Manner) (c : Cell) (i : ℕ) → i < length c.servers → (server c i).up ≡ false → Restarts (cell_view m c) false (cell_view m (with_fault c i))
fails_to_restart m c i here is_down = record {
  moves = stirs_moves m m.left c (with_fault c i) (fault_later c i) (stirs_fault m.left m.left c i (nearest m.left));
  failed = λ _. omega (arith, length-append c.faults (i ∷ []));
  up = λ e. absurd (false≢true e);
  idle = λ none. absurd (omega (arith, none, votes_hit (length c.servers) (λ j. not (server c j).up) i here (ap not is_down)));
}

restart_fails_runs : (m : Manner) (c : Cell) (i : ℕ) → Ends m c (restart_fails c i) → LogletRun (cell_view m c) (calls c (RestartFails i)) (cell_view m (restart_fails c i))
restart_fails_runs m c i = by (nat_lt i (length c.servers) && not (server c i).up) refl
  where
    by : (b : Bool) → (nat_lt i (length c.servers) && not (server c i).up) ≡ b → Ends m c (if b then with_fault c i else c) → LogletRun (cell_view m c) (if b then (CallRestart i 0, Restarted false) ∷ [] else []) (cell_view m (if b then with_fault c i else c))
    by true e ends =
        let parts : (nat_lt i (length c.servers) ≡ true) × (not (server c i).up ≡ true) = and_parts _ _ e in
        one_call (cell_view m c) (cell_view m (with_fault c i)) (CallRestart i 0) (Restarted false) ends.before (ltb-true i _ parts.0) (fails_to_restart m c i (ltb-true i _ parts.0) (not-true _ parts.1)) ends.after
    by false e ends = nothing_called (cell_view m c)

---- every step, and every list of steps

stray_runs : (m : Manner) (c : Cell) (step : CellStep) → IsStray step → Ends m c (cell_step c step) → LogletRun (cell_view m c) ((CallStray 0, Strayed) ∷ []) (cell_view m (cell_step c step))
stray_runs m c step stray ends = one_call (cell_view m c) (cell_view m (cell_step c step)) (CallStray 0) Strayed ends.before tt (step_moves m m.left c step stray (nearest m.left)) ends.after

pub step_runs : (m : Manner) (c : Cell) (step : CellStep) → IsManner (length c.servers) m → IsLawful c → IsSpelled c → BringsSpelled step → LogletRun (cell_view m c) (calls c step) (cell_view m (cell_step c step))
step_runs m c (Begin aim) manner law spelled new = begin_runs m c aim manner law spelled new
step_runs m c (Send t i wish) manner law spelled new = stray_runs m c (Send t i wish) tt (ends_of m c (Send t i wish) manner law spelled new)
step_runs m c (RequestComes k) manner law spelled new = stray_runs m c (RequestComes k) tt (ends_of m c (RequestComes k) manner law spelled new)
step_runs m c (RequestStops k) manner law spelled new = stray_runs m c (RequestStops k) tt (ends_of m c (RequestStops k) manner law spelled new)
step_runs m c (ReplyComes k) manner law spelled new = stray_runs m c (ReplyComes k) tt (ends_of m c (ReplyComes k) manner law spelled new)
step_runs m c (Lose k) manner law spelled new = stray_runs m c (Lose k) tt (ends_of m c (Lose k) manner law spelled new)
step_runs m c (Restart i kept) manner law spelled new = restart_runs m c i kept (ends_of m c (Restart i kept) manner law spelled new)
step_runs m c (RestartFails i) manner law spelled new = restart_fails_runs m c i (ends_of m c (RestartFails i) manner law spelled new)
step_runs m c (Decide t a) manner law spelled new = stray_runs m c (Decide t a) tt (ends_of m c (Decide t a) manner law spelled new)
step_runs m c (Take t) manner law spelled new = take_runs m c t manner law spelled
step_runs m c (Forget t) manner law spelled new = forget_runs m c t manner law spelled

runs_both : (a b : LogletView) (xs ys : List (LogletCall × LogletAnswer)) (d : LogletView) → LogletRun a xs b → LogletRun b ys d → LogletRun a (xs ++ ys) d
runs_both a b [] ys d first second = subst (λ v. LogletRun v ys d) first second
runs_both a b (x ∷ xs) ys d first second = (first.0, first.1, runs_both first.0 b xs ys d first.2 second)

pub steps_run : (m : Manner) (steps : List CellStep) (c : Cell) → IsManner (length c.servers) m → IsLawful c → IsSpelled c → All BringsSpelled steps → LogletRun (cell_view m c) (calls_of steps c) (cell_view m (run_cell steps c))
steps_run m [] c manner law spelled new = nothing_called (cell_view m c)
steps_run m (step ∷ steps) c manner law spelled new =
    let brings : BringsSpelled step = All-head BringsSpelled step steps new in
    runs_both (cell_view m c) (cell_view m (cell_step c step)) (calls c step) (calls_of steps (cell_step c step)) (cell_view m (run_cell steps (cell_step c step)))
    (step_runs m c step manner law spelled brings)
    (steps_run m steps (cell_step c step) (manner_after m c step manner) (step_lawful c step law) (spelled_after c step spelled brings) (All-tail BringsSpelled step steps new))
