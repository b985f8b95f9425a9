-- What steps of a world are in a cell.
use Rattle.std.proofs.Common.{◌≡◌, ◌≢◌, ◌⊎◌, inl, inr, ⊎_elim, ℕ, ◌<◌, Bool, true, false, refl, sym, ◌∙◌, ap, subst, arith, List, [], ◌∷◌, ◌++◌, length, set, Option, Some, None, get_or-set_same, get_or-set_other}
use Rattle.std.specs.Prelude.{◌&&◌, ◌==◌, not, nat_lt, is_some, if◌then◌else◌, All}
use Rattle.std.proofs.lemmas.Bool.{false≢true, and_parts, ltb-true, eqb-true}
use Rattle.std.proofs.lemmas.Bool.Decides.{nat_tests}
use Rattle.std.proofs.lemmas.List.Elements.{All-nil, All-cons, All-head, All-tail, All-append}
use Rattle.delos_types.specs.declared.chain.Chain.{Chain}
use Rattle.loglet_api.specs.declared.call.Op.{Op}
use Rattle.loglet_api.specs.declared.call.Op.TheVariants.{Append, Settle, Tail, Seal, Read, Trim}
use Rattle.loglet_api.specs.declared.call.Answer.{Answer}
use Rattle.loglet_api.specs.declared.call.Refused.TheVariants.{Full as FullLoglet}
use Rattle.loglet_api.specs.declared.call.LogletCall.{LogletCall}
use Rattle.loglet_api.specs.declared.call.LogletCall.TheVariants.{Begin as CallBegin, Take as CallTake, Forget as CallForget, Stray as CallStray}
use Rattle.loglet_api.specs.declared.call.LogletAnswer.{LogletAnswer}
use Rattle.loglet_api.specs.declared.call.LogletAnswer.TheVariants.{Begun as BegunOn, Refusal, Taken, Forgotten, Strayed}
use Rattle.loglet_api.specs.View.{LogletView}
use Rattle.loglet_api.specs.Step.{CanBegin, CanCall, Does}
use Rattle.loglet_api.specs.Run.{LogletRun}
use Rattle.quorum_cell.specs.declared.operation.CellStep.{CellStep}
use Rattle.quorum_cell.specs.declared.operation.CellStep.TheVariants as cell
use Rattle.quorum_cell.specs.Cells.{Cell}
use Rattle.quorum_cell.specs.Steps.{cell_step, run_cell}
use Rattle.quorum_cell.proofs.Runs.{run_cell-append}
use Rattle.cell_views.specs.Views as views
use Rattle.striped_cells.specs.declared.motion.Motion.{Motion}
use Rattle.striped_cells.specs.declared.motion.Motion.TheVariants.{Servers, Ask, Hear}
use Rattle.striped_cells.specs.Motions.{is_inner, aim_of}
use Rattle.striped_cells.specs.Quorums.{stir_cell}
use Rattle.world_steps.specs.declared.cell.WorldCell.{WorldCell}
use Rattle.world_steps.specs.declared.cell.WorldCell.TheVariants.{Quorum}
use Rattle.world_steps.specs.declared.step.ChainChange.{ChainChange}
use Rattle.world_steps.specs.declared.step.WorldStep.{WorldStep}
use Rattle.world_steps.specs.declared.step.WorldStep.TheVariants as step
use Rattle.world_steps.specs.Cells.{view_of, IsLawfulCell, is_full, begun, answer_of, taken, is_open, forgotten, stirred}
use Rattle.world_steps.specs.Parts.{World, no_cell, cell_at, node_at, given_under}
use Rattle.world_steps.specs.Events.{is_owner}
use Rattle.world_steps.specs.Guards.{may_begin, may_follow}
use Rattle.world_steps.specs.Steps.{Deed, inner_steps, begin_returned, deed, done, takes_answer, told, writes, stops_writing, world_step, run_world}
use Rattle.world_steps.specs.Moves.{step_in, steps_in, call_in, calls_in}
use Rattle.world_steps.specs.Laws.{WorldLaw, BringsSpelled, any_append, any_trim}
use Rattle.world_steps.proofs.Kind.{cell_kind}
use Rattle.world_steps.proofs.Stepped.{step_law}
use Rattle.world_steps.proofs.Fresh.{keeps_any}

---- cells stay where they are not named

same_if : {A : Type 0} (f : World → A) (a : A) (b : Bool) (x y : World) → f x ≡ a → f y ≡ a → f (if b then x else y) ≡ a
same_if f a true x y h k = h
same_if f a false x y h k = k

writes_elsewhere : (w : World) (who x : ℕ) (change : ChainChange) (o : Option Chain) → (writes w who x change o).cells ≡ w.cells
writes_elsewhere w who x change None = refl
writes_elsewhere w who x change (Some old) =
    same_if (λ v. v.cells) w.cells (may_follow w old change) _ _
    (same_if (λ v. v.cells) w.cells (not w.register.up) _ _ refl (same_if (λ v. v.cells) w.cells (not (x == w.register.version)) _ _ refl refl)) refl

stops_elsewhere : (w : World) (who x : ℕ) (change : ChainChange) (o : Option Chain) → (stops_writing w who x change o).cells ≡ w.cells
stops_elsewhere w who x change None = refl
stops_elsewhere w who x change (Some old) = same_if (λ v. v.cells) w.cells ((w.register.up && (x == w.register.version)) && may_follow w old change) _ _ refl refl

-- a deed is in a cell that is there, what it brings is spelled, and it is these steps of a quorum cell
pub record IsDeed (w : World) (s : WorldStep) (d : Deed) : Type 0 where
  pub here : d.at < length w.cells
  pub brings : BringsSpelled s → All views.BringsSpelled d.steps
  pub quorum : (c : Cell) → cell_at w.cells d.at ≡ Quorum c → d.cell ≡ Quorum (run_cell d.steps c)

if_some : {A : Type 0} (P : A → Type 0) (b : Bool) (x : A) → (b ≡ true → P x) → (d : A) → (if b then Some x else None) ≡ Some d → P d
if_some P true x h d e = let same : x ≡ d = cc in subst P same (h refl)
if_some P false x h d e = absurd (cc)

inner_brings : (s : CellStep) → is_inner s ≡ true → views.BringsSpelled s
inner_brings (cell.Begin aim) h = absurd (false≢true h)
inner_brings s h = tt

motion_brings : (path : List ℕ) (m : Motion) → All views.BringsSpelled (inner_steps path m)
motion_brings [] (Servers s) = by (is_inner s) refl
  where
    by : (b : Bool) → is_inner s ≡ b → All views.BringsSpelled (if b then s ∷ [] else [])
    by true e = All-cons views.BringsSpelled s [] (inner_brings s e) (All-nil views.BringsSpelled)
    by false e = All-nil views.BringsSpelled
motion_brings [] (Ask t) = All-nil views.BringsSpelled
motion_brings [] (Hear t) = All-nil views.BringsSpelled
motion_brings (i ∷ path) m = All-nil views.BringsSpelled

motion_is : (c : Cell) (path : List ℕ) (m : Motion) → stir_cell c path m ≡ run_cell (inner_steps path m) c
motion_is c [] (Servers s) = by (is_inner s)
  where
    by : (b : Bool) → (if b then cell_step c s else c) ≡ run_cell (if b then s ∷ [] else []) c
    by true = refl
    by false = refl
motion_is c [] (Ask t) = refl
motion_is c [] (Hear t) = refl
motion_is c (i ∷ path) m = refl

op_brings : (op : Op) → CanBegin op → views.BringsSpelled (cell.Begin (aim_of op))
op_brings (Append e) h = h
op_brings (Settle n) h = tt
op_brings Tail h = tt
op_brings Seal h = tt
op_brings (Read p) h = tt
op_brings (Trim n) h = tt

one : (s : CellStep) → views.BringsSpelled s → All views.BringsSpelled (s ∷ [])
one s h = All-cons views.BringsSpelled s [] h (All-nil views.BringsSpelled)

take_deed : (w : World) (who i t : ℕ) → i < length w.cells → (o : Option Answer) (d : Deed) → told w who i t o ≡ Some d → IsDeed w (step.Take who i t) d
take_deed w who i t here None d e = absurd (cc)
take_deed w who i t here (Some a) d e = if_some (IsDeed w (step.Take who i t)) true _ (λ _. record { here = here; brings = λ _. one (cell.Take t) tt; quorum = λ c q. ap (λ x. taken x t) q }) d e

takes_deed : (w : World) (who i t : ℕ) (d : Deed) → takes_answer w who i t ≡ Some d → IsDeed w (step.Take who i t) d
takes_deed w who i t d = by (nat_lt i (length w.cells) && is_owner w.events who i t) refl
  where
    by : (b : Bool) → (nat_lt i (length w.cells) && is_owner w.events who i t) ≡ b → (if b then told w who i t (answer_of (cell_at w.cells i) t) else None) ≡ Some d → IsDeed w (step.Take who i t) d
    by true t1 e = take_deed w who i t (ltb-true _ _ (and_parts _ _ t1).0) (answer_of (cell_at w.cells i) t) d e
    by false t1 e = absurd (cc)

pub deeds : (w : World) (s : WorldStep) (d : Deed) → deed w s ≡ Some d → IsDeed w s d
deeds w (step.Inside i path m) d e = if_some (IsDeed w (step.Inside i path m)) (nat_lt i (length w.cells)) _ (λ t. record { here = ltb-true _ _ t; brings = λ _. motion_brings path m; quorum = λ c q. ap (λ x. stirred x path m) q ∙ ap Quorum (motion_is c path m) }) d e
deeds w (step.Begin who i op) d e = if_some (IsDeed w (step.Begin who i op)) (nat_lt i (length w.cells) && may_begin w i op) _ (λ t. record { here = ltb-true _ _ (and_parts _ _ t).0; brings = λ h. one (cell.Begin (aim_of op)) (op_brings op h); quorum = λ c q. ap (λ x. begun x op) q }) d e
deeds w (step.Take who i t) d e = takes_deed w who i t d e
deeds w (step.Forget who i t) d e = if_some (IsDeed w (step.Forget who i t)) ((nat_lt i (length w.cells) && is_owner w.events who i t) && is_open (cell_at w.cells i) t) _ (λ u. record { here = ltb-true _ _ (and_parts _ _ (and_parts _ _ u).0).0; brings = λ _. one (cell.Forget t) tt; quorum = λ c q. ap (λ x. forgotten x t) q }) d e
deeds w (step.ReadChain who) d e = absurd (cc)
deeds w (step.WriteChain who x change) d e = absurd (cc)
deeds w (step.WriteStops who x change) d e = absurd (cc)
deeds w (step.MendRegister who kept) d e = absurd (cc)
deeds w (step.MendFails who) d e = absurd (cc)
deeds w (step.Apply k) d e = absurd (cc)
deeds w (step.StopNode k) d e = absurd (cc)
deeds w (step.RestartNode k kept) d e = absurd (cc)

-- what a deed leaves in a cell
left_in : (i : ℕ) (w : World) (d : Deed) → d.at < length w.cells → (b : Bool) → (d.at == i) ≡ b → cell_at (set w.cells d.at d.cell) i ≡ (if b then d.cell else cell_at w.cells i)
left_in i w d here true t = subst (λ k. cell_at (set w.cells d.at d.cell) k ≡ d.cell) (eqb-true _ _ t) (get_or-set_same w.cells d.at d.cell no_cell here)
left_in i w d here false t = let apart : i ≢ d.at = grind (arith, nat_tests) in get_or-set_other w.cells d.at i d.cell no_cell apart

-- and in a quorum cell
done_in : (i : ℕ) (w : World) (s : WorldStep) (o : Option Deed) (c : Cell) → ((d : Deed) → o ≡ Some d → IsDeed w s d) → cell_at w.cells i ≡ Quorum c → cell_at (done w o).cells i ≡ Quorum (run_cell (step_in i o) c)
done_in i w s None c is q = q
done_in i w s (Some d) c is q = by (d.at == i) refl
  where
    by : (b : Bool) → (d.at == i) ≡ b → cell_at (set w.cells d.at d.cell) i ≡ Quorum (run_cell (if b then d.steps else []) c)
    by true t = left_in i w d (is d refl).here true t ∙ (is d refl).quorum c (ap (cell_at w.cells) (eqb-true _ _ t) ∙ q)
    by false t = left_in i w d (is d refl).here false t ∙ q

---- every step of a world, in one cell

-- a step is a deed in a cell, or leaves the cells as they are
record Elsewhere (w : World) (s : WorldStep) : Type 0 where
  pub cells : (world_step w s).cells ≡ w.cells
  pub none : deed w s ≡ None

where_done : (w : World) (s : WorldStep) → (world_step w s ≡ done w (deed w s)) ⊎ Elsewhere w s
where_done w (step.Inside j path m) = inl refl
where_done w (step.Begin who j op) = inl refl
where_done w (step.Take who j t) = inl refl
where_done w (step.Forget who j t) = inl refl
where_done w (step.ReadChain who) = inr (record { cells = same_if (λ v. v.cells) w.cells w.register.up _ _ refl refl; none = refl })
where_done w (step.WriteChain who x change) = inr (record { cells = writes_elsewhere w who x change (given_under w.register x); none = refl })
where_done w (step.WriteStops who x change) = inr (record { cells = stops_elsewhere w who x change (given_under w.register x); none = refl })
where_done w (step.MendRegister who kept) = inr (record { cells = same_if (λ v. v.cells) w.cells w.register.up _ _ refl refl; none = refl })
where_done w (step.MendFails who) = inr (record { cells = same_if (λ v. v.cells) w.cells w.register.up _ _ refl refl; none = refl })
where_done w (step.Apply k) = inr (record { cells = same_if (λ v. v.cells) w.cells (node_at w.nodes k).up _ _ refl refl; none = refl })
where_done w (step.StopNode k) = inr (record { cells = same_if (λ v. v.cells) w.cells (node_at w.nodes k).up _ _ refl refl; none = refl })
where_done w (step.RestartNode k kept) = inr (record { cells = same_if (λ v. v.cells) w.cells (node_at w.nodes k).up _ _ refl refl; none = refl })

world_in : (i : ℕ) (w : World) (s : WorldStep) (c : Cell) → cell_at w.cells i ≡ Quorum c → cell_at (world_step w s).cells i ≡ Quorum (run_cell (step_in i (deed w s)) c)
world_in i w s c q = ⊎_elim
    (λ (h : world_step w s ≡ done w (deed w s)). ap (λ (v : World). cell_at v.cells i) h ∙ done_in i w s (deed w s) c (λ d e. deeds w s d e) q)
    (λ (h : Elsewhere w s). ap (λ (cs : List WorldCell). cell_at cs i) h.cells ∙ (q ∙ ap (λ (o : Option Deed). Quorum (run_cell (step_in i o) c)) (sym h.none)))
    (where_done w s)

pub run_in : (steps : List WorldStep) (w : World) (i : ℕ) (c : Cell) → cell_at w.cells i ≡ Quorum c → cell_at (run_world steps w).cells i ≡ Quorum (run_cell (steps_in i steps w) c)
run_in [] w i c q = q
run_in (s ∷ steps) w i c q =
    run_in steps (world_step w s) i (run_cell (step_in i (deed w s)) c) (world_in i w s c q)
    ∙ ap Quorum (sym (run_cell-append (step_in i (deed w s)) (steps_in i steps (world_step w s)) c))

one_spelled : (i : ℕ) (o : Option Deed) → ((d : Deed) → o ≡ Some d → All views.BringsSpelled d.steps) → All views.BringsSpelled (step_in i o)
one_spelled i None h = All-nil views.BringsSpelled
one_spelled i (Some d) h = by (d.at == i)
  where
    by : (b : Bool) → All views.BringsSpelled (if b then d.steps else [])
    by true = h d refl
    by false = All-nil views.BringsSpelled

pub all_spelled : (i : ℕ) (steps : List WorldStep) (w : World) → All BringsSpelled steps → All views.BringsSpelled (steps_in i steps w)
all_spelled i [] w h = All-nil views.BringsSpelled
all_spelled i (s ∷ steps) w h =
    All-append views.BringsSpelled (step_in i (deed w s)) (steps_in i steps (world_step w s))
    (one_spelled i (deed w s) (λ d e. (deeds w s d e).brings (All-head BringsSpelled s steps h)))
    (all_spelled i steps (world_step w s) (All-tail BringsSpelled s steps h))

---- what a step is of any cell, as its clients see it

runs_both : (a b : LogletView) (xs ys : List (LogletCall × LogletAnswer)) (d : LogletView) → LogletRun a xs b → LogletRun b ys d → LogletRun a (xs ++ ys) d
runs_both a b [] ys d first second = subst (λ v. LogletRun v ys d) first second
runs_both a b (x ∷ xs) ys d first second = (first.0, first.1, runs_both first.0 b xs ys d first.2 second)

one_call : (c new : WorldCell) (u : LogletCall) (a : LogletAnswer) → IsLawfulCell c → IsLawfulCell new → CanCall (view_of c) u → Does (view_of c) u a (view_of new) → LogletRun (view_of c) ((u, a) ∷ []) (view_of new)
one_call c new u a lawful still can does = (view_of new, record { before = cell_kind.sound c lawful; can = can; does = does; after = cell_kind.sound new still }, refl)

-- a deed's calls are those of a loglet
abbrev IsCalled : World → Deed → Type 0
IsCalled w d = LogletRun (view_of (cell_at w.cells d.at)) d.calls (view_of d.cell)

module _ (w : World) (law : (i : ℕ) → IsLawfulCell (cell_at w.cells i)) where
  stir_called : (i : ℕ) (path : List ℕ) (m : Motion) → LogletRun (view_of (cell_at w.cells i)) ((CallStray 0, Strayed) ∷ []) (view_of (stirred (cell_at w.cells i) path m))
  stir_called i path m = let b = cell_kind.stirs (cell_at w.cells i) path m (law i) in one_call (cell_at w.cells i) (stirred (cell_at w.cells i) path m) (CallStray 0) Strayed (law i) b.lawful tt b.does

  begin_called : (i : ℕ) (op : Op) → CanBegin op → LogletRun (view_of (cell_at w.cells i)) ((CallBegin op, begin_returned (cell_at w.cells i) op) ∷ []) (view_of (begun (cell_at w.cells i) op))
  begin_called i op can = by (is_full (cell_at w.cells i) op) refl
    where
      by : (b : Bool) → is_full (cell_at w.cells i) op ≡ b → LogletRun (view_of (cell_at w.cells i)) ((CallBegin op, if b then Refusal FullLoglet else BegunOn (view_of (cell_at w.cells i)).begun) ∷ []) (view_of (begun (cell_at w.cells i) op))
      by true e = let b = cell_kind.refuses (cell_at w.cells i) op (law i) can e in one_call (cell_at w.cells i) (begun (cell_at w.cells i) op) (CallBegin op) (Refusal FullLoglet) (law i) b.lawful can b.does
      by false e = let b = cell_kind.begins (cell_at w.cells i) op (law i) can e in one_call (cell_at w.cells i) (begun (cell_at w.cells i) op) (CallBegin op) (BegunOn (view_of (cell_at w.cells i)).begun) (law i) b.lawful can b.does

  take_called : (i t : ℕ) (a : Answer) → answer_of (cell_at w.cells i) t ≡ Some a → LogletRun (view_of (cell_at w.cells i)) ((CallTake t, Taken (Some a)) ∷ []) (view_of (taken (cell_at w.cells i) t))
  take_called i t a e = let b = cell_kind.takes (cell_at w.cells i) t a (law i) e in one_call (cell_at w.cells i) (taken (cell_at w.cells i) t) (CallTake t) (Taken (Some a)) (law i) b.lawful (ap is_some b.does.is) b.does

  forget_called : (i t : ℕ) → is_open (cell_at w.cells i) t ≡ true → LogletRun (view_of (cell_at w.cells i)) ((CallForget t, Forgotten) ∷ []) (view_of (forgotten (cell_at w.cells i) t))
  forget_called i t e = let b = cell_kind.forgets (cell_at w.cells i) t (law i) e in one_call (cell_at w.cells i) (forgotten (cell_at w.cells i) t) (CallForget t) Forgotten (law i) b.lawful b.does.0 b.does.1

  told_called : (who i t : ℕ) (o : Option Answer) (d : Deed) → answer_of (cell_at w.cells i) t ≡ o → told w who i t o ≡ Some d → IsCalled w d
  told_called who i t None d a e = absurd (cc)
  told_called who i t (Some x) d a e = if_some (IsCalled w) true _ (λ _. take_called i t x a) d e

  deed_called : (s : WorldStep) (d : Deed) → BringsSpelled s → deed w s ≡ Some d → IsCalled w d
  deed_called (step.Inside i path m) d h e = if_some (IsCalled w) (nat_lt i (length w.cells)) _ (λ _. stir_called i path m) d e
  deed_called (step.Begin who i op) d h e = if_some (IsCalled w) (nat_lt i (length w.cells) && may_begin w i op) _ (λ _. begin_called i op h) d e
  deed_called (step.Take who i t) d h e = by (nat_lt i (length w.cells) && is_owner w.events who i t) e
    where
      by : (b : Bool) → (if b then told w who i t (answer_of (cell_at w.cells i) t) else None) ≡ Some d → IsCalled w d
      by true k = told_called who i t (answer_of (cell_at w.cells i) t) d refl k
      by false k = absurd (cc)
  deed_called (step.Forget who i t) d h e = if_some (IsCalled w) ((nat_lt i (length w.cells) && is_owner w.events who i t) && is_open (cell_at w.cells i) t) _ (λ u. forget_called i t (and_parts _ _ u).1) d e
  deed_called (step.ReadChain who) d h e = absurd (cc)
  deed_called (step.WriteChain who x change) d h e = absurd (cc)
  deed_called (step.WriteStops who x change) d h e = absurd (cc)
  deed_called (step.MendRegister who kept) d h e = absurd (cc)
  deed_called (step.MendFails who) d h e = absurd (cc)
  deed_called (step.Apply k) d h e = absurd (cc)
  deed_called (step.StopNode k) d h e = absurd (cc)
  deed_called (step.RestartNode k kept) d h e = absurd (cc)

  done_called : (i : ℕ) (s : WorldStep) (o : Option Deed) → ((d : Deed) → o ≡ Some d → (d.at < length w.cells) × IsCalled w d) → LogletRun (view_of (cell_at w.cells i)) (call_in i o) (view_of (cell_at (done w o).cells i))
  done_called i s None is = refl
  done_called i s (Some d) is = by (d.at == i) refl
    where
      by : (b : Bool) → (d.at == i) ≡ b → LogletRun (view_of (cell_at w.cells i)) (if b then d.calls else []) (view_of (cell_at (set w.cells d.at d.cell) i))
      by true t =
          subst (λ (c : WorldCell). LogletRun (view_of (cell_at w.cells i)) d.calls (view_of c)) (sym (left_in i w d (is d refl).0 true t))
          (subst (λ k. LogletRun (view_of (cell_at w.cells k)) d.calls (view_of d.cell)) (eqb-true _ _ t) (is d refl).1)
      by false t = ap view_of (left_in i w d (is d refl).0 false t)

  pub step_called : (i : ℕ) (s : WorldStep) → BringsSpelled s → LogletRun (view_of (cell_at w.cells i)) (call_in i (deed w s)) (view_of (cell_at (world_step w s).cells i))
  step_called i s h = ⊎_elim
      (λ (e : world_step w s ≡ done w (deed w s)). subst (λ (v : World). LogletRun (view_of (cell_at w.cells i)) (call_in i (deed w s)) (view_of (cell_at v.cells i))) (sym e) (done_called i s (deed w s) (λ d k. ((deeds w s d k).here, deed_called s d h k))))
      (λ (e : Elsewhere w s). subst (λ (o : Option Deed). LogletRun (view_of (cell_at w.cells i)) (call_in i o) (view_of (cell_at (world_step w s).cells i))) (sym e.none) (ap (λ (cs : List WorldCell). view_of (cell_at cs i)) e.cells))
      (where_done w s)

pub all_called : (i : ℕ) (steps : List WorldStep) (w : World) → WorldLaw any_append any_trim w → All BringsSpelled steps → LogletRun (view_of (cell_at w.cells i)) (calls_in i steps w) (view_of (cell_at (run_world steps w).cells i))
all_called i [] w law h = refl
all_called i (s ∷ steps) w law h =
    let brings = All-head BringsSpelled s steps h in
    let next = step_law any_append any_trim w s law (keeps_any w s brings) in
    runs_both (view_of (cell_at w.cells i)) (view_of (cell_at (world_step w s).cells i)) (call_in i (deed w s)) (calls_in i steps (world_step w s)) (view_of (cell_at (run_world steps (world_step w s)).cells i))
    (step_called w (λ k. (law.cells k).lawful) i s brings)
    (all_called i steps (world_step w s) next (All-tail BringsSpelled s steps h))
