-- The history as the pieces of turns, as views change.
use Rattle.std.proofs.Common.{◌≡◌, ◌≢◌, ℕ, suc, ◌<◌, eq-eqb, ne_eqb, length-append, List, [], ◌∷◌, ◌++◌, length, set, append_assoc, sym, refl, ap, ◌∙◌, subst, ⊎_elim, arith, cond}
use mathlib.Core.Logic.{dite}
use mathlib.Core.Option.{some}
use native.Mathlib.Decide.{ℕ_discrete}
use lib.ListN.{get_elem?}
use Rattle.std.specs.List.{All}
use Rattle.std.proofs.lemmas.List.{append-nil}
use Rattle.std.proofs.lemmas.List.Elements.{All-head, All-tail, All-weaker, All-nil, All-cons, All-append}
use Rattle.atomic_table.proofs.Lists.{at_set, at_snoc, at_longer, at_last}
use Rattle.pass_lock.specs.declared.view.View.{View}
use Rattle.pass_lock.specs.Journal.{total, is_number, concat}
use Rattle.pass_lock.specs.Rule.{made_count, turns_with, Turned}
use Rattle.pass_lock.proofs.Sums.{at_inside, total-append, total-set, total_zero}

pub concat-snoc : {E : Type 0} (ps : List (List E)) (p : List E) → concat (ps ++ p ∷ []) ≡ concat ps ++ p
concat-snoc [] p = append-nil p
concat-snoc (q ∷ ps) p = ap (λ l. q ++ l) (concat-snoc ps p) ∙ sym (append_assoc q (concat ps) p)

pub absent : {E : Type 0} (n : ℕ) (ps : List (ℕ × List E)) → All (λ p. p.0 ≢ n) ps → total (is_number n) ps ≡ 0
absent n [] h = refl
absent {E} n (p ∷ ps) h = let P : (ℕ × List E) → Type 0 = λ p. p.0 ≢ n in let a : is_number n p ≡ 0 = ap (λ b. cond b 1 0) (ne_eqb p.0 n (All-head P p ps h)) in let b = absent n ps (All-tail P p ps h) in omega arith

module _ {E : Type 0} (log : List E) (raised : ℕ) (views : List (View E)) (T : Turned log raised views) where
  abbrev Told : List (ℕ × List E) → Type 0
  Told made = All (λ t. get_elem? T.pieces t.0 ≡ some t.1) made

  -- a seat moves, and its turns stay
  pub turned_still : (id : ℕ) (v w : View E) → get_elem? views id ≡ some v → w.made ≡ v.made → (length w.parts ≡ 0 → length v.parts ≡ 0) → Turned log raised (set views id w)
  turned_still id v w at same parts = record {
    pieces = T.pieces;
    whole = T.whole;
    counted = T.counted;
    told = λ j u e. ⊎_elim (λ (y : (j ≡ id) × (w ≡ u)). subst (λ (z : View E). Told z.made) y.1 (subst Told (sym same) (T.told id v at))) (λ (y : (j ≢ id) × (get_elem? views j ≡ some u)). T.told j u y.1) (at_set views id j w u e);
    all_made = let a = T.all_made in let b = total-set made_count views id v w at in let c : length w.made ≡ length v.made = ap length same in omega arith;
    once_made = λ t. let a = T.once_made t in let b = total-set (turns_with t) views id v w at in let c : turns_with t w ≡ turns_with t v = ap (total (is_number t)) same in omega arith;
    owned = λ j u e. ⊎_elim (λ (y : (j ≡ id) × (w ≡ u)). subst (λ (z : View E). length z.parts ≡ 0 → z.made ≡ []) y.1 (λ h. same ∙ T.owned id v at (parts h))) (λ (y : (j ≢ id) × (get_elem? views j ≡ some u)). T.owned j u y.1) (at_set views id j w u e);
  }

  -- a seat comes that made no turn
  pub turned_snoc : (m : View E) → m.made ≡ [] → Turned log raised (views ++ m ∷ [])
  turned_snoc m none-made = record {
    pieces = T.pieces;
    whole = T.whole;
    counted = T.counted;
    told = λ j u e. ⊎_elim (λ (y : get_elem? views j ≡ some u). T.told j u y) (λ (y : m ≡ u). subst (λ (z : View E). Told z.made) y (subst Told (sym none-made) (All-nil (λ (t : ℕ × List E). get_elem? T.pieces t.0 ≡ some t.1)))) (at_snoc views m u j e);
    all_made = let a = T.all_made in let b = total-append made_count views (m ∷ []) in let c : length m.made ≡ 0 = ap length none-made in omega arith;
    once_made = λ t. let a = T.once_made t in let b = total-append (turns_with t) views (m ∷ []) in let c : turns_with t m ≡ 0 = ap (total (is_number t)) none-made in omega arith;
    owned = λ j u e. ⊎_elim (λ (y : get_elem? views j ≡ some u). T.owned j u y) (λ (y : m ≡ u). subst (λ (z : View E). length z.parts ≡ 0 → z.made ≡ []) y (λ h. none-made)) (at_snoc views m u j e);
  }

  -- no pass made a turn that is not raised
  pub not_yet : total (turns_with raised) views ≡ 0
  not_yet = total_zero (turns_with raised) views (λ i u e. absent raised u.made (All-weaker (λ (t : ℕ × List E). get_elem? T.pieces t.0 ≡ some t.1) (λ (t : ℕ × List E). t.0 ≢ raised)
      (λ t there same. let a = at_inside T.pieces t.0 t.1 there in let b = T.counted in omega arith) u.made (T.told i u e)))

  -- a turn is raised
  pub turned_more : (id : ℕ) (v w : View E) (piece : List E) → get_elem? views id ≡ some v → w.made ≡ v.made ++ (raised, piece) ∷ [] → 0 < length w.parts → Turned (log ++ piece) (suc raised) (set views id w)
  turned_more id v w piece at more has = let P : (ℕ × List E) → Type 0 = λ t. get_elem? T.pieces t.0 ≡ some t.1 in let Q : (ℕ × List E) → Type 0 = λ t. get_elem? (T.pieces ++ piece ∷ []) t.0 ≡ some t.1 in
      let keep : (made : List (ℕ × List E)) → All P made → All Q made = λ made h. All-weaker P Q (λ t e. at_longer T.pieces (piece ∷ []) t.0 t.1 e) made h in
      record {
        pieces = T.pieces ++ piece ∷ [];
        whole = ap (λ l. l ++ piece) T.whole ∙ sym (concat-snoc T.pieces piece);
        counted = let a = T.counted in omega (arith, length-append T.pieces (piece ∷ []));
        told = λ j u e. ⊎_elim (λ (y : (j ≡ id) × (w ≡ u)). subst (λ (z : View E). All Q z.made) y.1 (subst (All Q) (sym more) (All-append Q v.made ((raised, piece) ∷ []) (keep v.made (T.told id v at))
            (All-cons Q (raised, piece) [] (at_last T.pieces piece raised T.counted) (All-nil Q))))) (λ (y : (j ≢ id) × (get_elem? views j ≡ some u)). keep u.made (T.told j u y.1)) (at_set views id j w u e);
        all_made = let a = T.all_made in let b = total-set made_count views id v w at in let c : length w.made ≡ length (v.made ++ (raised, piece) ∷ []) = ap length more in let d = length-append v.made ((raised, piece) ∷ []) in omega arith;
        once_made = λ t. let a = T.once_made t in let b = total-set (turns_with t) views id v w at in let c : turns_with t w ≡ total (is_number t) (v.made ++ (raised, piece) ∷ []) = ap (total (is_number t)) more in
            let d = total-append (is_number t) v.made ((raised, piece) ∷ []) in dite (ℕ_discrete raised t)
            (λ is. let z : total (turns_with t) views ≡ 0 = ap (λ (n : ℕ). total (turns_with n) views) (sym is) ∙ not_yet in let o : is_number t (raised, piece) ≡ 1 = ap (λ b. cond b 1 0) (eq-eqb raised t is) in omega arith)
            (λ ne. let o : is_number t (raised, piece) ≡ 0 = ap (λ b. cond b 1 0) (ne_eqb raised t ne) in omega arith);
        owned = λ j u e. ⊎_elim (λ (y : (j ≡ id) × (w ≡ u)). subst (λ (z : View E). length z.parts ≡ 0 → z.made ≡ []) y.1 (λ h. absurd (omega arith))) (λ (y : (j ≢ id) × (get_elem? views j ≡ some u)). T.owned j u y.1) (at_set views id j w u e);
      }

  -- a seat takes in another's turns
  pub turned_both : (id other : ℕ) (v u b o : View E) → get_elem? views id ≡ some v → get_elem? views other ≡ some u → get_elem? (set views id b) other ≡ some u → b.made ≡ u.made ++ v.made → o.made ≡ []
      → (length b.parts ≡ 0 → (length u.parts ≡ 0) × (length v.parts ≡ 0)) → Turned log raised (set (set views id b) other o)
  turned_both id other v u b o at old there both none-made parts = let P : (ℕ × List E) → Type 0 = λ t. get_elem? T.pieces t.0 ≡ some t.1 in let vs : List (View E) = set views id b in record {
    pieces = T.pieces;
    whole = T.whole;
    counted = T.counted;
    told = λ j x e. ⊎_elim (λ (y : (j ≡ other) × (o ≡ x)). subst (λ (z : View E). All P z.made) y.1 (subst (All P) (sym none-made) (All-nil P)))
        (λ (t : (j ≢ other) × (get_elem? vs j ≡ some x)). ⊎_elim (λ (y : (j ≡ id) × (b ≡ x)). subst (λ (z : View E). All P z.made) y.1 (subst (All P) (sym both) (All-append P u.made v.made (T.told other u old) (T.told id v at))))
        (λ (y : (j ≢ id) × (get_elem? views j ≡ some x)). T.told j x y.1) (at_set views id j b x t.1)) (at_set vs other j o x e);
    all_made = let a = T.all_made in let c = total-set made_count views id v b at in let d = total-set made_count vs other u o there in let e : length b.made ≡ length (u.made ++ v.made) = ap length both in
        let f = length-append u.made v.made in let g : length o.made ≡ 0 = ap length none-made in omega arith;
    once_made = λ t. let a = T.once_made t in let c = total-set (turns_with t) views id v b at in let d = total-set (turns_with t) vs other u o there in let e : turns_with t b ≡ total (is_number t) (u.made ++ v.made) = ap (total (is_number t)) both in
        let f = total-append (is_number t) u.made v.made in let g : turns_with t o ≡ 0 = ap (total (is_number t)) none-made in omega arith;
    owned = λ j x e. ⊎_elim (λ (y : (j ≡ other) × (o ≡ x)). subst (λ (z : View E). length z.parts ≡ 0 → z.made ≡ []) y.1 (λ h. none-made))
        (λ (t : (j ≢ other) × (get_elem? vs j ≡ some x)). ⊎_elim (λ (y : (j ≡ id) × (b ≡ x)). subst (λ (z : View E). length z.parts ≡ 0 → z.made ≡ []) y.1
        (λ h. let q = parts h in both ∙ (λ i. T.owned other u old q.0 i ++ T.owned id v at q.1 i)))
        (λ (y : (j ≢ id) × (get_elem? views j ≡ some x)). T.owned j x y.1) (at_set views id j b x t.1)) (at_set vs other j o x e);
  }
