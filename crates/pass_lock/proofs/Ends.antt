-- A new table has the rule, and a table that ends gives the value.
use Rattle.std.proofs.Common.{◌≡◌, ◌≢◌, ℕ, zero, suc, ◌+◌, ◌<◌, ◌≤◌, List, [], ◌∷◌, length, sym, refl, ap, ◌∙◌, subst, ⊎_elim, inl, arith, Option, Some}
use mathlib.Core.Option.{none, some, some-injective, some-ne-none}
use mathlib.Core.Option as maybe
use lib.ListN.{get_elem?}
use Rattle.std.specs.List.{All, Contains}
use Rattle.std.proofs.lemmas.List.Elements.{All-weaker, All-nil}
use Rattle.atomic_table.specs.Table.{State, opening, Final, Seen}
use Rattle.pass_lock.specs.declared.view.View.{View}
use Rattle.pass_lock.specs.Journal.{total, InTurns, numbers, IsKnown, Signed}
use Rattle.pass_lock.specs.Rule.{parts_with, made_count, turns_with, part_count, opened, Fits, Kept}
use Rattle.pass_lock.proofs.Sums.{term_le, terms_le, total_alone, total_only}
use Rattle.pass_lock.proofs.Known.{number_there, times_le}
use Rattle.pass_lock.proofs.Kept.{fits_outside}
use Rattle.pass_lock.proofs.Numbered.{numbered-length, numbered-times, numbered-known}

single : {A : Type 0} (a : A) (i : ℕ) (b : A) → get_elem? (a ∷ []) i ≡ some b → a ≡ b
single a zero b e = some-injective a b e
single a (suc i) b e = absurd (some-ne-none b (sym e))

module _ {S E : Type 0} (journal : S → List E) (signer : E → ℕ) (count : ℕ) where
  abbrev St : Type 0
  St = State (Option S) (View E)

  abbrev Rule : St → Type 0
  Rule = Kept journal signer count

  -- a table with an empty journal
  pub opens : (x : S) → journal x ≡ [] → Rule (opening (0 ∷ 0 ∷ 0 ∷ []) (Some x ∷ []) (opened count))
  opens x empty = record {
    drawn = 0;
    served = 0;
    raised = 0;
    log = [];
    words = refl;
    turns = refl;
    parts = let a = numbered-length E 0 count in omega arith;
    once = λ k. let a = numbered-times E k 0 count in omega arith;
    signed = All-nil (λ (e : E). 0 < total (parts_with (signer e)) (opened count ∷ []));
    fits = λ id v e. subst (Fits signer [] 0 0 0) (single (opened count) id v e) (fits_outside journal signer count [] 0 0 0 (opened count) refl (numbered-known signer 0 count));
    apart = λ i j v w ei ej si. absurd (let z : v.stage ≡ 0 = ap (λ (x : View E). x.stage) (sym (single (opened count) i v ei)) in omega arith);
    placed = inl (x, refl, empty, refl, λ id v e. let z : v.stage ≡ 0 = ap (λ (x : View E). x.stage) (sym (single (opened count) id v e)) in omega arith);
    turned = record {
      pieces = [];
      whole = refl;
      counted = refl;
      told = λ id v e. subst (λ (z : View E). All (λ t. get_elem? [] t.0 ≡ some t.1) z.made) (single (opened count) id v e) (All-nil (λ (t : ℕ × List E). get_elem? [] t.0 ≡ some t.1));
      all_made = refl;
      once_made = λ t. omega arith;
      owned = λ id v e h. ap (λ (z : View E). z.made) (sym (single (opened count) id v e));
    };
  }

  -- where one seat has all parts, and is outside a turn, the value is at home, and its journal is known with these parts
  pub closes : (id : ℕ) (v : View E) (ws : List ℕ) (xs : List (Option S)) → v.stage ≡ 0 → length v.parts ≡ count → Final (Seen Rule id v) ws xs
      → (x : S) × (get_elem? xs 0 ≡ some (Some x)) × IsKnown signer (journal x) v.parts × Signed signer v.parts (journal x) × InTurns (length v.made) (journal x) v.made
  closes id v ws xs idle all t = let s : St = t.0 in let r : Rule s = t.1.0 in let at : get_elem? s.views id ≡ some v = t.1.1 in let f = r.fits id v at in
      ⊎_elim (λ (h : (x : S) × (s.homes ≡ some (Some x) ∷ []) × (journal x ≡ r.log) × (r.raised ≡ r.served) × ((id : ℕ) (v : View E) → get_elem? s.views id ≡ some v → v.stage < 2)). (
        h.0,
        t.4 0 (Some h.0) (ap (λ (l : List (maybe.Option (Option S))). get_elem? l 0) h.1),
        subst (λ (l : List E). IsKnown signer l v.parts) (sym h.2) f.known,
        subst (λ (l : List E). Signed signer v.parts l) (sym h.2) (All-weaker (λ (e : E). 0 < total (parts_with (signer e)) s.views) (λ (e : E). Contains (numbers v.parts) (signer e))
            (λ e pos. let same : total (parts_with (signer e)) s.views ≡ parts_with (signer e) v = total_alone (parts_with (signer e)) part_count (λ u. times_le (signer e) u.parts) s.views id v at (all ∙ sym r.parts) in
            number_there (signer e) v.parts (omega arith)) r.log r.signed),
        record {
          pieces = r.turned.pieces;
          counted = r.turned.counted ∙ (sym r.turned.all_made ∙ total_only made_count part_count s.views (λ i u e z. ap length (r.turned.owned i u e z)) id v at (all ∙ sym r.parts));
          whole = h.2 ∙ r.turned.whole;
          told = r.turned.told id v at;
          once = λ n. let a = r.turned.once_made n in let b = term_le (turns_with n) s.views id v at in omega arith;
        },
      ))
      (λ (h : (s.homes ≡ none ∷ []) × (holder : ℕ) × (v : View E) × (get_elem? s.views holder ≡ some v) × (2 ≤ v.stage)).
      let deep = h.4 in let q = (r.fits h.1 h.2 h.3).queued (omega arith) in let some-part = q.0 in
      let other : h.1 ≢ id = λ e. let same : h.2 ≡ v = some-injective h.2 v (sym h.3 ∙ ap (get_elem? s.views) e ∙ at) in let a : h.2.stage ≡ v.stage = ap (λ (z : View E). z.stage) same in omega arith in
      let both : part_count v + part_count h.2 ≤ total part_count s.views = terms_le part_count s.views id h.1 v h.2 other at h.3 in let a = r.parts in absurd (omega arith)) r.placed
