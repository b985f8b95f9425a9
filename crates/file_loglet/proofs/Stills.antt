-- What a loglet and its cell show, side by side.
use Rattle.std.proofs.Common.{◌≡◌, ℕ, ◌+◌, Bool, true, false, refl, sym, ◌∙◌, ap, subst, arith, List, [], ◌∷◌, ◌++◌, Option, Some, None, inr}
use Rattle.std.specs.Prelude.{◌==◌, ◌-◌, max, drop, if◌then◌else◌}
use Rattle.std.proofs.lemmas.Option.{same_Some}
use Rattle.loglet_api.specs.declared.call.Op.{Op}
use Rattle.loglet_api.specs.declared.call.Answer.{Answer}
use Rattle.loglet_api.specs.View.{LogletView, Operation as OpenOperation, operation_at}
use Rattle.loglet_api.specs.Step.{bumped, Moves, Advances, Begins, TakesAnswer, Forgets, PutsOperation, begun_operation, cut_after, entries_of, seals_of, told_reach, told_firm, told_cap, told_lacks, wanted}
use Rattle.quorum_cell.specs.declared.operation.CellStep.{CellStep}
use Rattle.quorum_cell.specs.declared.operation.CellStep.TheVariants.{Begin}
use Rattle.quorum_cell.specs.Cells.{Cell}
use Rattle.quorum_cell.specs.Steps.{cell_step, run_cell}
use Rattle.quorum_cell.specs.Law.{IsLawful}
use Rattle.quorum_cell.proofs.Lawful.{step_lawful}
use Rattle.cell_views.specs.Views.{IsNearer, IsSpelled, BringsSpelled, IsStray, cell_view}
use Rattle.cell_views.proofs.Moves.{step_moves}
use Rattle.cell_views.proofs.Calls.{spelled_after}
use Rattle.file_loglet.specs.Steps.{manner}

-- the same operation, or none, but for what is left to do
abbrev pub IsAlike : Option OpenOperation → Option OpenOperation → Type 0
IsAlike None None = Unit {0}
IsAlike (Some a) (Some b) = b ≡ record a { left = b.left }
IsAlike None (Some b) = ⊥
IsAlike (Some a) None = ⊥

pub alike_same : (a : Option OpenOperation) → IsAlike a a
alike_same None = tt
alike_same (Some a) = refl

pub alike_twice : (a b c : Option OpenOperation) → IsAlike a b → IsAlike b c → IsAlike a c
alike_twice None None None h k = tt
alike_twice None None (Some z) h k = absurd k
alike_twice None (Some y) c h k = absurd h
alike_twice (Some x) None c h k = absurd h
alike_twice (Some x) (Some y) None h k = absurd k
alike_twice (Some x) (Some y) (Some z) h k = k ∙ ap (λ (o : OpenOperation). record o { left = z.left }) h

pub alike_back : (a b : Option OpenOperation) → IsAlike a b → IsAlike b a
alike_back None None h = tt
alike_back None (Some y) h = absurd h
alike_back (Some x) None h = absurd h
alike_back (Some x) (Some y) h = ap (λ (o : OpenOperation). record o { left = x.left }) (sym h)

advances_alike : (a b : Option OpenOperation) → Advances a b → IsAlike a b
advances_alike None None h = tt
advances_alike None (Some b) h = absurd h
advances_alike (Some a) None h = absurd h
advances_alike (Some a) (Some b) h = h.0

-- nothing changed but what is sealed, what failed, and what is left to do
pub record Still (v w : LogletView) : Type 0 where
  pub rest : w ≡ record v { shut = w.shut; operations = w.operations; faults = w.faults; down = w.down }
  pub operations : (q : ℕ) → IsAlike (operation_at v.operations q) (operation_at w.operations q)

pub moves_still : (v w : LogletView) → Moves v w → Still v w
moves_still v w h = record { rest = h.rest; operations = λ q. advances_alike _ _ (h.operations q) }

pub still_same : (v w : LogletView) → w ≡ v → Still v w
still_same v w e = subst (λ (x : LogletView). Still v x) (sym e) (record { rest = refl; operations = λ q. alike_same (operation_at v.operations q) })

still_twice : (a b c : LogletView) → Still a b → Still b c → Still a c
still_twice a b c h k = record {
  rest = k.rest ∙ ap (λ (x : LogletView). record x { shut = c.shut; operations = c.operations; faults = c.faults; down = c.down }) h.rest;
  operations = λ q. alike_twice _ _ _ (h.operations q) (k.operations q);
}

-- steps that are nobody's call
abbrev pub AreStrays : List CellStep → Type 0
AreStrays [] = Unit {0}
AreStrays (step ∷ steps) = IsStray step × AreStrays steps

pub strays_both : (xs ys : List CellStep) → AreStrays xs → AreStrays ys → AreStrays (xs ++ ys)
strays_both [] ys h k = k
strays_both (x ∷ xs) ys h k = (h.0, strays_both xs ys h.1 k)

nearest : (left : ℕ → ℕ × ℕ) → IsNearer left left
nearest left t = inr (refl, omega arith)

pub run_still : (steps : List CellStep) (c : Cell) → AreStrays steps → Still (cell_view manner c) (cell_view manner (run_cell steps c))
run_still [] c h = still_same (cell_view manner c) (cell_view manner c) refl
run_still (step ∷ steps) c h =
    still_twice (cell_view manner c) (cell_view manner (cell_step c step)) (cell_view manner (run_cell steps (cell_step c step)))
    (moves_still _ _ (step_moves manner manner.left c step h.0 (nearest manner.left))) (run_still steps (cell_step c step) h.1)

pub run_lawful : (steps : List CellStep) (c : Cell) → IsLawful c → IsLawful (run_cell steps c)
run_lawful [] c h = h
run_lawful (step ∷ steps) c h = run_lawful steps (cell_step c step) (step_lawful c step h)

stray_brings : (step : CellStep) → IsStray step → BringsSpelled step
stray_brings (Begin aim) h = absurd h
stray_brings step h = tt

pub run_spelled : (steps : List CellStep) (c : Cell) → AreStrays steps → IsSpelled c → IsSpelled (run_cell steps c)
run_spelled [] c h k = k
run_spelled (step ∷ steps) c h k = run_spelled steps (cell_step c step) h.1 (spelled_after c step k (stray_brings step h.0))

---- both go on

-- they show the same, but the operations in another order and what is left of them
pub record Shows (v w : LogletView) : Type 0 where
  pub shows : v ≡ record w { operations = v.operations }
  pub operations : (t : ℕ) → IsAlike (operation_at w.operations t) (operation_at v.operations t)

pub shows_still : (v v' w w' : LogletView) → Shows v w → Still v v' → Still w w' → w'.shut ≡ v'.shut → w'.faults ≡ v'.faults → w'.down ≡ v'.down → Shows v' w'
shows_still v v' w w' e h k shut faults down = record {
  shows =
      h.rest
      ∙ ap (λ (x : LogletView). record x { shut = v'.shut; operations = v'.operations; faults = v'.faults; down = v'.down }) e.shows
      ∙ sym (ap (λ (x : LogletView). record x { operations = v'.operations }) k.rest ∙ onto);
  operations = λ t. alike_twice _ _ _ (alike_back _ _ (k.operations t)) (alike_twice _ _ _ (e.operations t) (h.operations t));
}
  where
    onto : record w { shut = w'.shut; operations = v'.operations; faults = w'.faults; down = w'.down } ≡ record w { shut = v'.shut; operations = v'.operations; faults = v'.faults; down = v'.down }
    onto = λ i. record w { shut = shut i; operations = v'.operations; faults = faults i; down = down i }

-- one operation is put in the place of a ticket, on both sides
puts_alike : (t q : ℕ) (x y : Option OpenOperation) (v v' w w' : List (ℕ × OpenOperation)) → PutsOperation v t x v' → PutsOperation w t y w' → IsAlike y x → IsAlike (operation_at w q) (operation_at v q) → IsAlike (operation_at w' q) (operation_at v' q)
puts_alike t q x y v v' w w' h k new old =
    subst (λ (z : Option OpenOperation). IsAlike z (operation_at v' q)) (sym (k q)) (subst (λ (z : Option OpenOperation). IsAlike (if t == q then y else operation_at w q) z) (sym (h q)) (by (t == q)))
  where
    by : (b : Bool) → IsAlike (if b then y else operation_at w q) (if b then x else operation_at v q)
    by true = new
    by false = old

pub shows_begun : (v v' w w' : LogletView) (op : Op) (t u : ℕ) → Shows v w → Begins v op t v' → Begins w op u w' → Shows v' w'
shows_begun v v' w w' op t u e h k =
    let begun : v.begun ≡ w.begun = ap (λ (x : LogletView). x.begun) e.shows in
    let same : u ≡ t = k.ticket ∙ sym begun ∙ sym h.ticket in
    let puts : PutsOperation w.operations t (Some (begun_operation w op k.left)) w'.operations = subst (λ (n : ℕ). PutsOperation w.operations n (Some (begun_operation w op k.left)) w'.operations) same k.operation in
    let new : begun_operation v op h.left ≡ record (begun_operation w op k.left) { left = h.left } = ap (λ (x : LogletView). begun_operation x op h.left) e.shows in
    record {
      shows =
          h.rest
          ∙ ap (λ (x : LogletView). record x { cut = cut_after x op; log = drop (cut_after x op - x.cut) x.log ++ entries_of op; operations = v'.operations; begun = x.begun + 1; seals = x.seals + seals_of op }) e.shows
          ∙ sym (ap (λ (x : LogletView). record x { operations = v'.operations }) k.rest);
      operations = λ q. puts_alike t q (Some (begun_operation v op h.left)) (Some (begun_operation w op k.left)) v.operations v'.operations w.operations w'.operations h.operation puts new (e.operations q);
    }

pub shows_full : (v v' w w' : LogletView) → Shows v w → v' ≡ record v { faults = bumped v.faults } → w' ≡ record w { faults = bumped w.faults } → Shows v' w'
shows_full v v' w w' e h k = record {
  shows =
      h
      ∙ ap (λ (x : LogletView). record x { faults = bumped x.faults }) e.shows
      ∙ ap (λ (os : List (ℕ × OpenOperation)). record w { faults = bumped w.faults; operations = os }) (sym (ap (λ (x : LogletView). x.operations) h))
      ∙ sym (ap (λ (x : LogletView). record x { operations = v'.operations }) k);
  operations = λ t. subst (λ (os : List (ℕ × OpenOperation)). IsAlike (operation_at w'.operations t) (operation_at os t)) (sym (ap (λ (x : LogletView). x.operations) h))
      (subst (λ (os : List (ℕ × OpenOperation)). IsAlike (operation_at os t) (operation_at v.operations t)) (sym (ap (λ (x : LogletView). x.operations) k)) (e.operations t));
}

-- what both have at a ticket
pub there_alike : (v w : LogletView) (t : ℕ) (a : OpenOperation) → Shows v w → operation_at v.operations t ≡ Some a → (b : OpenOperation) × (operation_at w.operations t ≡ Some b) × (a ≡ record b { left = a.left })
there_alike v w t a e is = by (operation_at w.operations t) refl
  where
    by : (z : Option OpenOperation) → operation_at w.operations t ≡ z → (b : OpenOperation) × (operation_at w.operations t ≡ Some b) × (a ≡ record b { left = a.left })
    by None h = absurd (subst (λ (x : Option OpenOperation). IsAlike x (Some a)) h (subst (λ (x : Option OpenOperation). IsAlike (operation_at w.operations t) x) is (e.operations t)))
    by (Some b) h = (b, h, subst (λ (x : Option OpenOperation). IsAlike x (Some a)) h (subst (λ (x : Option OpenOperation). IsAlike (operation_at w.operations t) x) is (e.operations t)))

pub shows_taken : (v v' w w' : LogletView) (t : ℕ) (y : Answer) → Shows v w → TakesAnswer v t y v' → TakesAnswer w t y w' → Shows v' w'
shows_taken v v' w w' t y e h k =
    let other = there_alike v w t h.operation e h.is in
    let same : other.0 ≡ k.operation = same_Some _ _ (sym other.1 ∙ k.is) in
    let far : wanted h.operation ≡ wanted k.operation = ap wanted other.2 ∙ ap wanted same in
    record {
      shows =
          h.rest
          ∙ ap (λ (n : ℕ). record v { reach = max v.reach (told_reach n y); firm = max v.firm (told_firm n y); cap = told_cap y v.cap; operations = v'.operations; lacks = v.lacks + told_lacks y }) far
          ∙ ap (λ (x : LogletView). record x { reach = max x.reach (told_reach (wanted k.operation) y); firm = max x.firm (told_firm (wanted k.operation) y); cap = told_cap y x.cap; operations = v'.operations; lacks = x.lacks + told_lacks y }) e.shows
          ∙ sym (ap (λ (x : LogletView). record x { operations = v'.operations }) k.rest);
      operations = λ q. puts_alike t q None None v.operations v'.operations w.operations w'.operations h.closed k.closed tt (e.operations q);
    }

pub shows_forgotten : (v v' w w' : LogletView) (t : ℕ) → Shows v w → Forgets v t v' → Forgets w t w' → Shows v' w'
shows_forgotten v v' w w' t e h k = record {
  shows =
      h.rest
      ∙ ap (λ (x : LogletView). record x { operations = v'.operations }) e.shows
      ∙ sym (ap (λ (x : LogletView). record x { operations = v'.operations }) k.rest);
  operations = λ q. puts_alike t q None None v.operations v'.operations w.operations w'.operations h.closed k.closed tt (e.operations q);
}
