-- What lists of steps that are nobody's call leave of a cell.
use Rattle.std.proofs.Common.{ℕ, refl, ◌∙◌, ap, subst, arith, List, [], ◌∷◌, Option, Some, None, inl, inr}
use Rattle.loglet_api.specs.Step.{Moves, Advances, IsAtMost}
use Rattle.loglet_api.specs.View.{Operation as OpenOperation}
use Rattle.quorum_cell.specs.declared.operation.CellStep.{CellStep}
use Rattle.quorum_cell.specs.Cells.{Cell, operation}
use Rattle.quorum_cell.specs.Steps.{cell_step, run_cell}
use Rattle.quorum_cell.specs.Law.{IsLawful, Later}
use Rattle.quorum_cell.proofs.Lawful.{step_lawful}
use Rattle.quorum_cell.proofs.Runs.{step_later, run_later}
use Rattle.cell_views.specs.Views.{Manner, IsNearer, IsSpelled, BringsSpelled, IsStray, cell_view}
use Rattle.cell_views.proofs.Moves.{Stirs, stirs_same, step_stirs, stirs_moves}
use Rattle.cell_views.proofs.Calls.{spelled_after}
use Rattle.native_ties.specs.Parts.{AreStrays}

at_most_twice : (a b c : ℕ × ℕ) → IsAtMost b a → IsAtMost c b → IsAtMost c a
at_most_twice a b c (inl h) (inl k) = inl (omega (arith, h, k))
at_most_twice a b c (inl h) (inr k) = inl (omega (arith, h, k.0))
at_most_twice a b c (inr h) (inl k) = inl (omega (arith, h.0, k))
at_most_twice a b c (inr h) (inr k) = inr (k.0 ∙ h.0, omega (arith, h.1, k.1))

advances_twice : (a b c : Option OpenOperation) → Advances a b → Advances b c → Advances a c
advances_twice None None None h k = tt
advances_twice None None (Some z) h k = absurd k
advances_twice None (Some y) c h k = absurd h
advances_twice (Some x) None c h k = absurd h
advances_twice (Some x) (Some y) None h k = absurd k
advances_twice (Some x) (Some y) (Some z) h k = (k.0 ∙ ap (λ (o : OpenOperation). record o { left = z.left }) h.0, at_most_twice x.left y.left z.left h.1 k.1)

stirs_twice : (l m n : ℕ → ℕ × ℕ) (c d e : Cell) → Later c d → Later d e → Stirs l m c d → Stirs m n d e → Stirs l n c e
stirs_twice l m n c d e p q h k = record {
  servers = k.servers ∙ h.servers;
  room = k.room ∙ h.room;
  limit = k.limit ∙ h.limit;
  cut = k.cut ∙ h.cut;
  entries = k.entries ∙ h.entries;
  reach = k.reach ∙ h.reach;
  cap = k.cap ∙ h.cap;
  firm = k.firm ∙ h.firm;
  begun = k.begun ∙ h.begun;
  seals = k.seals ∙ h.seals;
  lacks = k.lacks ∙ h.lacks;
  falls = omega (arith, h.falls, k.falls, p.faults, q.faults);
  advances = λ t. advances_twice _ _ _ (h.advances t) (subst (λ s. Advances (Rattle.cell_views.proofs.Opened.opened s m t (operation d t)) (Rattle.cell_views.proofs.Opened.opened s n t (operation e t))) h.servers (k.advances t));
}

nearest : (left : ℕ → ℕ × ℕ) → IsNearer left left
nearest left t = inr (refl, omega arith)

pub run_stirs : (left next : ℕ → ℕ × ℕ) (steps : List CellStep) (c : Cell) → AreStrays steps → IsNearer left next → Stirs left next c (run_cell steps c)
run_stirs left next [] c h near = stirs_same left next c near
run_stirs left next (s ∷ ss) c h near = stirs_twice left left next c (cell_step c s) (run_cell ss (cell_step c s)) (step_later c s) (run_later ss (cell_step c s)) (step_stirs left left c s h.0 (nearest left)) (run_stirs left next ss (cell_step c s) h.1 near)

pub run_moves : (m : Manner) (next : ℕ → ℕ × ℕ) (steps : List CellStep) (c : Cell) → AreStrays steps → IsNearer m.left next → Moves (cell_view m c) (cell_view (record m { left = next }) (run_cell steps c))
run_moves m next steps c h near = stirs_moves m next c (run_cell steps c) (run_later steps c) (run_stirs m.left next steps c h near)

pub run_lawful : (steps : List CellStep) (c : Cell) → IsLawful c → IsLawful (run_cell steps c)
run_lawful [] c h = h
run_lawful (s ∷ ss) c h = run_lawful ss (cell_step c s) (step_lawful c s h)

stray_brings : (s : CellStep) → IsStray s → BringsSpelled s
stray_brings (Rattle.quorum_cell.specs.declared.operation.CellStep.TheVariants.Begin aim) h = absurd h
stray_brings s h = tt

pub run_spelled : (steps : List CellStep) (c : Cell) → AreStrays steps → IsSpelled c → IsSpelled (run_cell steps c)
run_spelled [] c h k = k
run_spelled (s ∷ ss) c h k = run_spelled ss (cell_step c s) h.1 (spelled_after c s k (stray_brings s h.0))
