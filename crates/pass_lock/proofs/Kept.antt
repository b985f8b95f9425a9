-- One seat's view changes, and the rule of the lock's table stays.
use Rattle.std.proofs.Common.{◌≡◌, ◌≢◌, ℕ, ◌+◌, ◌%◌, ◌^◌, ◌<◌, ◌≤◌, eqb, ne_eqb, List, [], ◌∷◌, ◌++◌, length, set, sym, ap, ◌∙◌, subst, ⊎_elim, inl, inr, arith, cond, Option, Some, None}
use mathlib.Core.Logic.{dite}
use mathlib.Core.Option.{none, some, some-injective, some-ne-none}
use mathlib.Core.Option as maybe
use native.Mathlib.Decide.{ℕ_discrete}
use lib.ListN.{get_elem?}
use Rattle.std.specs.List.{All, Contains}
use Rattle.std.proofs.lemmas.List.Elements.{All-weaker}
use Rattle.atomic_table.specs.Table.{State}
use Rattle.atomic_table.proofs.Lists.{at_set, set_else, at_snoc, at_longer}
use Rattle.pass_lock.specs.declared.view.View.{View}
use Rattle.pass_lock.specs.Journal.{total, is_number, numbers, IsKnown, Signed}
use Rattle.pass_lock.specs.Rule.{parts_with, Turned, part_count, in_turn, Fits, Placed, Kept}
use Rattle.pass_lock.specs.Steps.{raised}
use Rattle.pass_lock.proofs.Sums.{total-set}
use Rattle.pass_lock.proofs.Known.{has_number}

abbrev un : {S : Type 0} → S → Option S → S
un d (Some x) = x
un d None = d

pub some_is : {S : Type 0} (y x : S) → Some y ≡ Some x → y ≡ x
some_is y x e = ap (un y) e

pub has_part : {E : Type 0} (u : View E) → (0 < u.stage → (0 < length u.parts) × Unit {0}) → in_turn u ≤ part_count u
has_part u h = dite (ℕ_discrete u.stage 0) (λ e. let a : in_turn u ≡ 0 = ap (λ (k : ℕ). cond (eqb k 0) 0 1) e in omega arith)
    (λ ne. let a : in_turn u ≡ 1 = ap (λ b. cond b 0 1) (ne_eqb u.stage 0 ne) in let b = (h (omega arith)).0 in omega arith)

-- a piece that these parts signed has no entry of a number that they haven't
pub signs_not : {E : Type 0} (signer : E → ℕ) (k : ℕ) (ps : List (ℕ × List E)) (piece : List E) → Signed signer ps piece → total (is_number k) ps ≡ 0 → All (λ e. signer e ≢ k) piece
signs_not {E} signer k ps piece signs none-has = All-weaker (λ (e : E). Contains (numbers ps) (signer e)) (λ (e : E). signer e ≢ k)
    (λ e c is. let a : 0 < total (is_number (signer e)) ps = has_number ps (signer e) c in let b : total (is_number (signer e)) ps ≡ total (is_number k) ps = ap (λ (m : ℕ). total (is_number m) ps) is in omega arith) piece signs

module _ {S E : Type 0} (journal : S → List E) (signer : E → ℕ) (count : ℕ) where
  abbrev St : Type 0
  St = State (Option S) (View E)

  abbrev Rule : St → Type 0
  Rule = Kept journal signer count

  -- the seat id goes from v to w
  pub moved : (s : St) (r : Rule s) (id : ℕ) (v w : View E) (words' : List ℕ) (homes' : List (maybe.Option (Option S))) (drawn' served' raised' : ℕ) (log' : List E)
      → get_elem? s.views id ≡ some v
      → words' ≡ drawn' % 2 ^ 64 ∷ served' % 2 ^ 64 ∷ raised' % 2 ^ 64 ∷ []
      → drawn' + r.served + in_turn v ≡ r.drawn + served' + in_turn w
      → length w.parts ≡ length v.parts → ((k : ℕ) → parts_with k w ≡ parts_with k v)
      → Fits signer log' drawn' served' raised' w
      → ((j : ℕ) (u : View E) → j ≢ id → get_elem? s.views j ≡ some u → Fits signer r.log r.drawn r.served r.raised u → Fits signer log' drawn' served' raised' u)
      → ((j : ℕ) (u : View E) → j ≢ id → get_elem? s.views j ≡ some u → 0 < u.stage → 0 < w.stage → u.ticket ≢ w.ticket)
      → Placed journal log' served' raised' homes' (set s.views id w) → All (λ e. 0 < total (parts_with (signer e)) s.views) log' → Turned log' raised' (set s.views id w)
      → Rule record { words = words'; homes = homes'; views = set s.views id w }
  moved s r id v w words' homes' drawn' served' raised' log' at ws ts long same mine others far at-home signs in-turns = record {
    drawn = drawn';
    served = served';
    raised = raised';
    log = log';
    words = ws;
    turns = let a = r.turns in let b = total-set in_turn s.views id v w at in omega arith;
    parts = let a = r.parts in let b = total-set part_count s.views id v w at in omega arith;
    once = λ k. let a = r.once k in let b = total-set (parts_with k) s.views id v w at in let c = same k in omega arith;
    signed = All-weaker (λ (e : E). 0 < total (parts_with (signer e)) s.views) (λ (e : E). 0 < total (parts_with (signer e)) (set s.views id w))
        (λ e pos. let b = total-set (parts_with (signer e)) s.views id v w at in let c = same (signer e) in omega arith) log' signs;
    fits = λ j u e. ⊎_elim (λ (t : (j ≡ id) × (w ≡ u)). subst (λ (x : View E). Fits signer log' drawn' served' raised' x) t.1 mine)
        (λ (t : (j ≢ id) × (get_elem? s.views j ≡ some u)). others j u t.0 t.1 (r.fits j u t.1)) (at_set s.views id j w u e);
    apart = λ i j a b ea eb sa sb same-ticket.
        ⊎_elim (λ (x : (i ≡ id) × (w ≡ a)).
        ⊎_elim (λ (y : (j ≡ id) × (w ≡ b)). x.0 ∙ sym y.0)
        (λ (y : (j ≢ id) × (get_elem? s.views j ≡ some b)). absurd (far j b y.0 y.1 sb (subst (λ (z : View E). 0 < z.stage) (sym x.1) sa) (sym same-ticket ∙ ap (λ (z : View E). z.ticket) (sym x.1)))) (at_set s.views id j w b eb))
        (λ (x : (i ≢ id) × (get_elem? s.views i ≡ some a)).
        ⊎_elim (λ (y : (j ≡ id) × (w ≡ b)). absurd (far i a x.0 x.1 sa (subst (λ (z : View E). 0 < z.stage) (sym y.1) sb) (same-ticket ∙ ap (λ (z : View E). z.ticket) (sym y.1))))
        (λ (y : (j ≢ id) × (get_elem? s.views j ≡ some b)). r.apart i j a b x.1 y.1 sa sb same-ticket) (at_set s.views id j w b eb)) (at_set s.views id i w a ea);
    placed = at-home;
    turned = in-turns;
  }

  -- the value stays where it is, as a seat that is not inside a turn moves, and is not inside afterwards
  pub still : (log : List E) (served raised : ℕ) (homes : List (maybe.Option (Option S))) (views : List (View E)) (id : ℕ) (v w : View E) → get_elem? views id ≡ some v → v.stage < 2 → w.stage < 2
      → Placed journal log served raised homes views → Placed journal log served raised homes (set views id w)
  still log served raised homes views id v w at before after p =
      ⊎_elim (λ (t : (x : S) × (homes ≡ some (Some x) ∷ []) × (journal x ≡ log) × (raised ≡ served) × ((id : ℕ) (v : View E) → get_elem? views id ≡ some v → v.stage < 2)).
      inl (t.0, t.1, t.2, t.3, λ j u e. ⊎_elim (λ (y : (j ≡ id) × (w ≡ u)). subst (λ (z : View E). z.stage < 2) y.1 after) (λ (y : (j ≢ id) × (get_elem? views j ≡ some u)). t.4 j u y.1) (at_set views id j w u e)))
      (λ (t : (homes ≡ none ∷ []) × (holder : ℕ) × (v : View E) × (get_elem? views holder ≡ some v) × (2 ≤ v.stage)).
      let other : t.1 ≢ id = λ e. let same : t.2 ≡ v = some-injective t.2 v (sym t.3 ∙ ap (get_elem? views) e ∙ at) in let a : t.2.stage ≡ v.stage = ap (λ (z : View E). z.stage) same in let b = t.4 in omega arith in
      inr (t.0, t.1, t.2, set_else views id t.1 w other ∙ t.3, t.4)) p

  pub fits_outside : (log : List E) (drawn served raised : ℕ) (v : View E) → v.stage ≡ 0 → IsKnown signer log v.parts → Fits signer log drawn served raised v
  fits_outside log drawn served raised v idle known = record {
    known = known;
    queued = λ h. absurd (omega arith);
    holds = λ h. absurd (omega arith);
    not_raised = λ h. absurd (omega arith);
    is_raised = λ h. absurd (omega arith);
  }

  pub placed_more : (log : List E) (served raised : ℕ) (homes : List (maybe.Option (Option S))) (views : List (View E)) (m : View E) → m.stage < 2
      → Placed journal log served raised homes views → Placed journal log served raised homes (views ++ m ∷ [])
  placed_more log served raised homes views m low p =
      ⊎_elim (λ (t : (x : S) × (homes ≡ some (Some x) ∷ []) × (journal x ≡ log) × (raised ≡ served) × ((id : ℕ) (v : View E) → get_elem? views id ≡ some v → v.stage < 2)).
      inl (t.0, t.1, t.2, t.3, λ j u e. ⊎_elim (λ (y : get_elem? views j ≡ some u). t.4 j u y) (λ (y : m ≡ u). subst (λ (z : View E). z.stage < 2) y low) (at_snoc views m u j e)))
      (λ (t : (homes ≡ none ∷ []) × (holder : ℕ) × (v : View E) × (get_elem? views holder ≡ some v) × (2 ≤ v.stage)). inr (t.0, t.1, t.2, at_longer views (m ∷ []) t.1 t.2 t.3, t.4)) p

  -- no other pass is inside its turn, where one that is in a turn has the turn that is served
  pub alone : (s : St) (r : Rule s) (id : ℕ) (v : View E) → get_elem? s.views id ≡ some v → 0 < v.stage → v.ticket ≡ r.served → (j : ℕ) (u : View E) → j ≢ id → get_elem? s.views j ≡ some u → u.stage < 2
  alone s r id v at in' mine j u other there = dite (native.Mathlib.Decide.dec_le 2 u.stage)
      (λ deep. absurd (other (r.apart j id u v there at (omega arith) in' (((r.fits j u there).holds deep).0 ∙ sym mine)))) (λ no. omega arith)
