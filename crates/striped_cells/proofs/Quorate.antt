-- Quorum cells are a lawful kind.
use Rattle.std.proofs.Common.{◌≡◌, ℕ, ◌++◌, Bool, true, false, inr, refl, sym, ◌∙◌, ap, subst, arith, List, [], ◌∷◌, length, Option, Some, None}
use Rattle.std.specs.Prelude.{if◌then◌else◌, not}
use Rattle.std.proofs.lemmas.Bool.{false≢true, not-true}
use Rattle.std.proofs.lemmas.Option.{none-some, same_Some}
use Rattle.std.proofs.lemmas.List.{append-nil}
use Rattle.loglet_api.specs.declared.call.Op.{Op}
use Rattle.loglet_api.specs.declared.call.Op.TheVariants.{Append, Settle, Tail, Seal, Read, Trim}
use Rattle.loglet_api.specs.declared.call.Answer.{Answer}
use Rattle.loglet_api.specs.declared.call.Refused.TheVariants.{Full}
use Rattle.loglet_api.specs.declared.call.LogletCall.{LogletCall}
use Rattle.loglet_api.specs.declared.call.LogletCall.TheVariants as call
use Rattle.loglet_api.specs.declared.call.LogletAnswer.{LogletAnswer}
use Rattle.loglet_api.specs.declared.call.LogletAnswer.TheVariants as answer
use Rattle.loglet_api.specs.View.{LogletView, Operation as OpenOperation, operation_at, IsOpen}
use Rattle.loglet_api.specs.Step.{CanBegin, LogletStep, Begins, IsFull, TakesAnswer, Forgets, Moves, entries_of, bumped}
use Rattle.loglet_api.specs.Run.{LogletRun}
use Rattle.quorum_cell.specs.declared.operation.CellStep.{CellStep}
use Rattle.quorum_cell.specs.declared.operation.CellStep.TheVariants as cell
use Rattle.quorum_cell.specs.declared.operation.Outcome.{Outcome}
use Rattle.quorum_cell.specs.Cells.{Cell, Operation, operation}
use Rattle.quorum_cell.specs.Steps.{cell_step, is_full, begin, admit, with_fault, give, take_outcome, forget, put_operation, entries_after}
use Rattle.quorum_cell.specs.Law.{IsLawful}
use Rattle.quorum_cell.proofs.Lawful.{step_lawful}
use Rattle.cell_views.specs.Views.{IsManner, IsSpelled, IsStray, IsNearer, BringsSpelled, cell_view, operation_view, left_of, op_of, taken}
use Rattle.cell_views.proofs.Calls.{step_runs, spelled_after}
use Rattle.cell_views.proofs.Moves.{step_moves, step_stirs}
use Rattle.cell_views.proofs.Opened.{opened_is}
use Rattle.cell_views.proofs.Sounds.{view_sound, size_is}
use Rattle.striped_loglet.proofs.Changes.{advances_same}
use Rattle.striped_cells.specs.declared.motion.Motion.{Motion}
use Rattle.striped_cells.specs.declared.motion.Motion.TheVariants.{Servers, Ask, Hear}
use Rattle.striped_cells.specs.Motions.{is_inner, aim_of}
use Rattle.striped_cells.specs.Ways.{GoesOn, IsKind}
use Rattle.striped_cells.specs.Quorums.{plain, answer_of, stir_cell, quorum_itself, quorum_ways}

pub plain_manner : (c : Cell) → IsLawful c → IsManner (length c.servers) plain
plain_manner c law = record {
  rounds = omega arith;
  undecided = λ t. omega arith;
  first = λ t. omega arith;
  second = λ t. omega (arith, law.shape.servers.0);
}

single : (old new : LogletView) (c : LogletCall) (a : LogletAnswer) → LogletRun old ((c, a) ∷ []) new → LogletStep old c a new
single old new c a r = subst (λ (v : LogletView). LogletStep old c a v) (sym r.2) r.1

op_same : (op : Op) → op_of (aim_of op) ≡ op
op_same (Append e) = refl
op_same (Settle n) = refl
op_same Tail = refl
op_same Seal = refl
op_same (Read p) = refl
op_same (Trim n) = refl

brings : (op : Op) → CanBegin op → BringsSpelled (cell.Begin (aim_of op))
brings (Append e) h = h
brings (Settle n) h = tt
brings Tail h = tt
brings Seal h = tt
brings (Read p) h = tt
brings (Trim n) h = tt

entries_are : (c : Cell) (op : Op) → entries_after c (aim_of op) ≡ c.entries ++ entries_of op
entries_are c (Append e) = refl
entries_are c (Settle n) = sym (append-nil c.entries)
entries_are c Tail = sym (append-nil c.entries)
entries_are c Seal = sym (append-nil c.entries)
entries_are c (Read p) = sym (append-nil c.entries)
entries_are c (Trim n) = sym (append-nil c.entries)

-- nothing moved
pub moves_same : (v : LogletView) → Moves v v
moves_same v = record { rest = refl; shut = λ h. h; faults = omega arith; down = omega arith; operations = λ q. advances_same (operation_at v.operations q) }

---- an operation begins

lawful_begun : (c : Cell) (op : Op) → IsLawful c × IsSpelled c → CanBegin op → IsLawful (begin c (aim_of op)) × IsSpelled (begin c (aim_of op))
lawful_begun c op h can = (step_lawful c (cell.Begin (aim_of op)) h.0, spelled_after c (cell.Begin (aim_of op)) h.1 (brings op can))

begun_step : (c : Cell) (op : Op) → IsLawful c → IsSpelled c → CanBegin op → is_full c (aim_of op) ≡ false
    → LogletStep (cell_view plain c) (call.Begin op) (answer.Begun (length c.operations)) (cell_view plain (begin c (aim_of op)))
begun_step c op law spelled can room =
    let run = step_runs plain c (cell.Begin (aim_of op)) (plain_manner c law) law spelled (brings op can) in
    let now = cell_view plain (begin c (aim_of op)) in
    let free : LogletRun (cell_view plain c) ((call.Begin (op_of (aim_of op)), answer.Begun (length c.operations)) ∷ []) now =
    subst (λ (b : Bool). LogletRun (cell_view plain c) ((call.Begin (op_of (aim_of op)), if b then answer.Refusal Full else answer.Begun (length c.operations)) ∷ []) now) room run in
    subst (λ (x : Op). LogletStep (cell_view plain c) (call.Begin x) (answer.Begun (length c.operations)) now) (op_same op)
    (single (cell_view plain c) now _ _ free)

quorum_begins : (c : Cell) (op : Op) → IsLawful c × IsSpelled c → CanBegin op → is_full c (aim_of op) ≡ false
    → GoesOn quorum_ways (begin c (aim_of op)) (c.entries ++ entries_of op) (Begins (cell_view plain c) op (length c.operations) (cell_view plain (begin c (aim_of op))))
quorum_begins c op h can room =
    let is : begin c (aim_of op) ≡ admit c (aim_of op) = ap (λ (b : Bool). if b then with_fault c (length c.servers) else admit c (aim_of op)) room in
    record {
      lawful = lawful_begun c op h can;
      does = (begun_step c op h.0 h.1 can room).does;
      keeps = ap (λ (x : Cell). x.entries) is ∙ entries_are c op;
    }

quorum_refuses : (c : Cell) (op : Op) → IsLawful c × IsSpelled c → CanBegin op → is_full c (aim_of op) ≡ true
    → GoesOn quorum_ways (begin c (aim_of op)) c.entries (IsFull (cell_view plain c) op × (cell_view plain (begin c (aim_of op)) ≡ record (cell_view plain c) { faults = bumped (cell_view plain c).faults }))
quorum_refuses c op h can full =
    let now = begin c (aim_of op) in
    let is : now ≡ with_fault c (length c.servers) = ap (λ (b : Bool). if b then with_fault c (length c.servers) else admit c (aim_of op)) full in
    let run = step_runs plain c (cell.Begin (aim_of op)) (plain_manner c h.0) h.0 h.1 (brings op can) in
    let refused : LogletRun (cell_view plain c) ((call.Begin (op_of (aim_of op)), answer.Refusal Full) ∷ []) (cell_view plain now) =
    subst (λ (b : Bool). LogletRun (cell_view plain c) ((call.Begin (op_of (aim_of op)), if b then answer.Refusal Full else answer.Begun (length c.operations)) ∷ []) (cell_view plain now)) full run in
    let step : LogletStep (cell_view plain c) (call.Begin op) (answer.Refusal Full) (cell_view plain now) =
    subst (λ (x : Op). LogletStep (cell_view plain c) (call.Begin x) (answer.Refusal Full) (cell_view plain now)) (op_same op) (single (cell_view plain c) (cell_view plain now) _ _ refused) in
    record {
      lawful = lawful_begun c op h can;
      does = (step.does.0, step.does.1);
      keeps = ap (λ (x : Cell). x.entries) is;
    }

---- servers and messages move

inner_stray : (step : CellStep) → is_inner step ≡ true → IsStray step
inner_stray (cell.Begin aim) h = absurd (false≢true h)
inner_stray (cell.Take t) h = absurd (false≢true h)
inner_stray (cell.Forget t) h = absurd (false≢true h)
inner_stray step h = tt

inner_brings : (step : CellStep) → is_inner step ≡ true → BringsSpelled step
inner_brings (cell.Begin aim) h = absurd (false≢true h)
inner_brings step h = tt

nearest : (left : ℕ → ℕ × ℕ) → IsNearer left left
nearest left t = inr (refl, omega arith)

unmoved : (c : Cell) → IsLawful c × IsSpelled c → GoesOn quorum_ways c c.entries (Moves (cell_view plain c) (cell_view plain c))
unmoved c h = record { lawful = h; does = moves_same (cell_view plain c); keeps = refl }

inner_moves : (c : Cell) (step : CellStep) → IsLawful c × IsSpelled c → is_inner step ≡ true → GoesOn quorum_ways (cell_step c step) c.entries (Moves (cell_view plain c) (cell_view plain (cell_step c step)))
inner_moves c step h inner =
    let stray = inner_stray step inner in
    record {
      lawful = (step_lawful c step h.0, spelled_after c step h.1 (inner_brings step inner));
      does = step_moves plain plain.left c step stray (nearest plain.left);
      keeps = (step_stirs plain.left plain.left c step stray (nearest plain.left)).entries;
    }

quorum_stirs : (c : Cell) (path : List ℕ) (m : Motion) → IsLawful c × IsSpelled c → GoesOn quorum_ways (stir_cell c path m) c.entries (Moves (cell_view plain c) (cell_view plain (stir_cell c path m)))
quorum_stirs c [] (Servers step) h = by (is_inner step) refl
  where
    by : (b : Bool) → is_inner step ≡ b → GoesOn quorum_ways (if b then cell_step c step else c) c.entries (Moves (cell_view plain c) (cell_view plain (if b then cell_step c step else c)))
    by true e = inner_moves c step h e
    by false e = unmoved c h
quorum_stirs c [] (Ask t) h = unmoved c h
quorum_stirs c [] (Hear t) h = unmoved c h
quorum_stirs c (i ∷ path) m h = unmoved c h

---- an operation is answered, or closed

is_closed : (b : Bool) (x y : Option Answer) (a : Answer) → (if b then None else x) ≡ Some a → (b ≡ false) × (x ≡ Some a)
is_closed true x y a h = absurd (cc)
is_closed false x y a h = (refl, h)

give_entries : (c : Cell) (t : ℕ) (o : Operation) (x : Option Outcome) → (give c t o x).entries ≡ c.entries
give_entries c t o None = refl
give_entries c t o (Some a) = refl

take_entries : (c : Cell) (t : ℕ) → (take_outcome c t).entries ≡ c.entries
take_entries c t = by (operation c t).closed
  where
    by : (b : Bool) → (if b then c else give c t (operation c t) (operation c t).decided).entries ≡ c.entries
    by true = refl
    by false = give_entries c t (operation c t) (operation c t).decided

quorum_takes : (c : Cell) (t : ℕ) (a : Answer) → IsLawful c × IsSpelled c → answer_of c t ≡ Some a → GoesOn quorum_ways (take_outcome c t) c.entries (TakesAnswer (cell_view plain c) t a (cell_view plain (take_outcome c t)))
quorum_takes c t a h is =
    let o = operation c t in
    let parts : (o.closed ≡ false) × (taken c.cut o o.decided ≡ Some a) = is_closed o.closed (taken c.cut o o.decided) None a is in
    let now = take_outcome c t in
    let run = step_runs plain c (cell.Take t) (plain_manner c h.0) h.0 h.1 tt in
    let some : LogletRun (cell_view plain c) ((call.Take t, answer.Taken (taken c.cut o o.decided)) ∷ []) (cell_view plain now) =
    subst (λ (b : Bool). LogletRun (cell_view plain c) (if b then [] else (call.Take t, answer.Taken (taken c.cut o o.decided)) ∷ []) (cell_view plain now)) parts.0 run in
    let one : LogletRun (cell_view plain c) ((call.Take t, answer.Taken (Some a)) ∷ []) (cell_view plain now) =
    subst (λ (x : Option Answer). LogletRun (cell_view plain c) ((call.Take t, answer.Taken x) ∷ []) (cell_view plain now)) parts.1 some in
    let step = single (cell_view plain c) (cell_view plain now) _ _ one in
    record {
      lawful = (step_lawful c (cell.Take t) h.0, spelled_after c (cell.Take t) h.1 tt);
      does = step.does;
      keeps = take_entries c t;
    }

forget_entries : (c : Cell) (t : ℕ) → (forget c t).entries ≡ c.entries
forget_entries c t = by (operation c t).closed
  where
    by : (b : Bool) → (if b then c else put_operation c t (record (operation c t) { closed = true })).entries ≡ c.entries
    by true = refl
    by false = refl

quorum_forgets : (c : Cell) (t : ℕ) → IsLawful c × IsSpelled c → not (operation c t).closed ≡ true → GoesOn quorum_ways (forget c t) c.entries (IsOpen (cell_view plain c) t × Forgets (cell_view plain c) t (cell_view plain (forget c t)))
quorum_forgets c t h going =
    let now = forget c t in
    let run = step_runs plain c (cell.Forget t) (plain_manner c h.0) h.0 h.1 tt in
    let one : LogletRun (cell_view plain c) ((call.Forget t, answer.Forgotten) ∷ []) (cell_view plain now) =
    subst (λ (b : Bool). LogletRun (cell_view plain c) (if b then [] else (call.Forget t, answer.Forgotten) ∷ []) (cell_view plain now)) (not-true _ going) run in
    let step = single (cell_view plain c) (cell_view plain now) _ _ one in
    record {
      lawful = (step_lawful c (cell.Forget t) h.0, spelled_after c (cell.Forget t) h.1 tt);
      does = (step.can, step.does);
      keeps = forget_entries c t;
    }

quorum_left : (c : Cell) (t : ℕ) (o : OpenOperation) → operation_at (cell_view plain c).operations t ≡ Some o → left_of (operation c t).decided (0, 1) ≡ o.left
quorum_left c t o e = by (operation c t).closed (sym (opened_is (length c.servers) plain.left t c.operations) ∙ e)
  where
    by : (b : Bool) → (if b then None else Some (operation_view (length c.servers) (operation c t) (0, 1))) ≡ Some o → left_of (operation c t).decided (0, 1) ≡ o.left
    by true h = absurd (none-some o h)
    by false h = ap (λ (x : OpenOperation). x.left) (same_Some _ _ h)

quorum_opens : (c : Cell) (t : ℕ) (o : OpenOperation) → operation_at (cell_view plain c).operations t ≡ Some o → not (operation c t).closed ≡ true
quorum_opens c t o e = by (operation c t).closed (sym (opened_is (length c.servers) plain.left t c.operations) ∙ e)
  where
    by : (b : Bool) → (if b then None else Some (operation_view (length c.servers) (operation c t) (0, 1))) ≡ Some o → not b ≡ true
    by true h = absurd (none-some o h)
    by false h = refl

quorum_found : (c : Cell) (path : List ℕ) (q : Cell) → IsLawful c → quorum_itself c path ≡ Some q → IsLawful q
quorum_found c [] q law e = subst IsLawful (same_Some _ _ e) law
quorum_found c (i ∷ path) q law e = absurd (none-some q e)

pub quorum_kind : IsKind quorum_ways
quorum_kind = record {
  sound = λ c h. view_sound plain c (plain_manner c h.0) h.0 h.1;
  whole = λ c h. sym (size_is plain c h.0);
  left = λ c t o h e. quorum_left c t o e;
  opens = λ c t o h e. quorum_opens c t o e;
  begins = quorum_begins;
  refuses = quorum_refuses;
  takes = quorum_takes;
  forgets = quorum_forgets;
  stirs = quorum_stirs;
  quorums = λ c path q h e. quorum_found c path q h.0 e;
}
