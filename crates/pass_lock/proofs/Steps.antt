-- The six steps of a turn keep the rule of the lock's table.
use Rattle.std.proofs.Common.{◌≡◌, ◌≢◌, ℕ, suc, ◌+◌, ◌%◌, ◌^◌, ◌<◌, ◌≤◌, eqb, List, [], ◌∷◌, ◌++◌, length, get_or, set, sym, refl, ap, ◌∙◌, subst, ⊎_elim, inl, inr, arith, cond, Option, Some}
use prog.Atomic.{either}
use mathlib.Core.Logic.{dite}
use mathlib.Core.Option.{none, some, some-injective, some-ne-none}
use mathlib.Core.Option as maybe
use native.Mathlib.Decide.{ℕ_discrete}
use lib.ListN.{get_elem?}
use lib.Seq.{set-get_or}
use Rattle.std.specs.List.{All, Contains}
use Rattle.std.proofs.lemmas.List.{append_cancel_left}
use Rattle.std.proofs.lemmas.List.Elements.{All-weaker, All-append}
use Rattle.atomic_table.specs.Table.{State, step, Act, keeps, takes, gives, stepped, carried_after, put_back, rest, Valid, Allows}
use Rattle.atomic_table.proofs.Lists.{at_set, exchanged, set_here, set_again, one_turn}
use Rattle.pass_lock.specs.declared.view.View.{View}
use Rattle.pass_lock.specs.Journal.{total, InTurns, numbers, IsKnown, Signed}
use Rattle.pass_lock.specs.Pass.{all_parts, brought}
use Rattle.pass_lock.specs.Rule.{parts_with, turns_with, Turned, part_count, in_turn, seeing, Kept}
use Rattle.pass_lock.specs.Steps.{Held, drew, tried, looked, raised, advanced}
use Rattle.pass_lock.proofs.Sums.{at_inside, term_le, terms_le, total_le, total_alone}
use Rattle.pass_lock.proofs.Known.{brought-length, brought-times, brought-again, brought-same, has_number, number_there, times_le, known_brought, known_more}
use Rattle.pass_lock.proofs.Kept.{some_is, has_part, signs_not, moved, still, alone}
use Rattle.pass_lock.proofs.Turned.{turned_still, turned_more}

module _ {S E : Type 0} (journal : S → List E) (signer : E → ℕ) (count : ℕ) where
  abbrev St : Type 0
  St = State (Option S) (View E)

  abbrev Rule : St → Type 0
  Rule = Kept journal signer count

  pub draws : (slots id : ℕ) (me : Held S E) → me.0.stage ≡ 0 → 0 < length me.0.parts → Allows Rule slots id me 0 (λ n. (n + 1) % 2 ^ 64) (drew (step slots 0 1 0 none) me)
  draws slots id me idle has s r deep at small = let v : View E = me.0 in let w : View E = seeing v.parts v.made 1 r.drawn in let f = r.fits id v at in let ts = r.turns in
      let out : in_turn v ≡ 0 = ap (λ (k : ℕ). cond (eqb k 0) 0 1) idle in (
        w,
        keeps,
        tt,
        moved journal signer count s r id v w (set s.words 0 ((get_or s.words 0 0 + 1) % 2 ^ 64)) s.homes (suc r.drawn) r.served r.raised r.log at
            (ap (λ (ws : List ℕ). set ws 0 ((get_or ws 0 0 + 1) % 2 ^ 64)) r.words ∙ ap (λ (n : ℕ). n ∷ r.served % 2 ^ 64 ∷ r.raised % 2 ^ 64 ∷ []) (omega arith))
            (omega arith) refl (λ k. refl)
            record {
              known = f.known;
              queued = λ _. (has, omega arith, omega arith);
              holds = λ h. absurd (omega arith);
              not_raised = λ h. absurd (omega arith);
              is_raised = λ h. absurd (omega arith);
            }
            (λ j u other there g. record {
              known = g.known;
              queued = λ h. let q = g.queued h in let q₂ = q.2 in (q.0, q.1, omega arith);
              holds = g.holds;
              not_raised = g.not_raised;
              is_raised = g.is_raised;
            })
            (λ j u other there in' _ e. let q = ((r.fits j u there).queued in').2 in omega arith)
            (still journal signer count r.log r.served r.raised s.homes s.views id v w at (omega arith) (omega arith) r.placed) r.signed (turned_still r.log r.raised s.views r.turned id v w at refl (λ h. h)),
        (refl, ap (λ (ws : List ℕ). get_or ws 0 0) r.words, refl),
      )

  -- a load that changes nothing
  unmoved : (s : St) (r : Rule s) (i id : ℕ) (me : Held S E) → get_elem? s.views id ≡ some me.0 → Rule (stepped s i (get_or s.words i 0) id me.1 me.0 keeps)
  unmoved s r i id me at = let P : List ℕ → List (View E) → Type 0 = λ ws vs. Rule record { words = ws; homes = s.homes; views = vs } in
      subst (λ (ws : List ℕ). P ws (set s.views id me.0)) (sym (set-get_or s.words i 0)) (subst (P s.words) (sym (set_again s.views id me.0 at)) r)

  pub tries : (slots id old new : ℕ) (me : Held S E) → me.0.stage ≡ 0 → 0 < length me.0.parts → new ≡ (old + 1) % 2 ^ 64 → Allows Rule slots id me 0 (λ n. either (eqb n old) new n) (tried (step slots 0 old new none) me)
  tries slots id old new me idle has next s r deep at small = let n : ℕ = get_or s.words 0 0 in
      let F : ℕ → Type 0 = λ k. (w : View E) × (a : Act (Option S)) × Valid s.homes me.1 a × Rule (stepped s 0 k id me.1 w a) × tried (step slots 0 old new none) me n (w, carried_after me.1 a) in
      exchanged n old new F
      (λ hit. let d = draws slots id me idle has s r deep at small in
      (d.0, d.1, d.2, subst (λ (k : ℕ). Rule (stepped s 0 k id me.1 d.0 d.1)) (ap (λ (k : ℕ). (k + 1) % 2 ^ 64) hit ∙ sym next) d.3, (λ _. d.4, λ no. absurd (no hit))))
      (λ miss. (me.0, keeps, tt, unmoved s r 0 id me at, ((λ hit. absurd (miss hit)), λ _. refl)))

  pub looks : (slots id : ℕ) (me : Held S E) → count ≡ all_parts → me.0.stage ≡ 1 → me.1 ≡ [] → Allows Rule slots id me 1 (λ n. n) (looked journal signer (step slots 1 0 0 none) me)
  looks slots id me whole waits empty s r deep at small = let few : count < 2 ^ 64 = omega (arith, whole) in let v : View E = me.0 in let f = r.fits id v at in let q = f.queued (omega arith) in
      let n : ℕ = get_or s.words 1 0 in let found : n ≡ r.served % 2 ^ 64 = ap (λ (ws : List ℕ). get_or ws 1 0) r.words in
      let bound : total in_turn s.views ≤ total part_count s.views = total_le in_turn part_count s.views (λ j u e. has_part u (λ h. (((r.fits j u e).queued h).0, tt))) in
      let near : v.ticket < r.served + 2 ^ 64 = let a = r.turns in let b = r.parts in let c = q.2 in omega arith in
      let Goal : Type 0 = (w : View E) × (a : Act (Option S)) × Valid s.homes me.1 a × Rule (stepped s 1 n id me.1 w a) × looked journal signer (step slots 1 0 0 none) me n (w, carried_after me.1 a) in
      dite (ℕ_discrete n (v.ticket % 2 ^ 64))
      (λ hit. let now : r.served ≡ v.ticket = one_turn r.served v.ticket (2 ^ 64) q.1 near (sym found ∙ hit) in
      ⊎_elim (λ (t : (x : S) × (s.homes ≡ some (Some x) ∷ []) × (journal x ≡ r.log) × (r.raised ≡ r.served) × ((id : ℕ) (v : View E) → get_elem? s.views id ≡ some v → v.stage < 2)).
      let x : S = t.0 in let w : View E = seeing (brought (journal x) v.parts) v.made 2 v.ticket in
      let known : IsKnown signer (journal x) v.parts = subst (λ (l : List E). IsKnown signer l v.parts) (sym t.2) f.known in
      let so_far : InTurns v.ticket (journal x) v.made = record {
        pieces = r.turned.pieces;
        counted = r.turned.counted ∙ (t.3 ∙ now);
        whole = t.2 ∙ r.turned.whole;
        told = r.turned.told id v at;
        once = λ n. let a = r.turned.once_made n in let b = term_le (turns_with n) s.views id v at in omega arith;
      } in
      let signs : length v.parts ≡ all_parts → Signed signer v.parts (journal x) = λ all. subst (λ (l : List E). Signed signer v.parts l) (sym t.2)
      (All-weaker (λ (e : E). 0 < total (parts_with (signer e)) s.views) (λ (e : E). Contains (numbers v.parts) (signer e))
      (λ e pos. let one : total (parts_with (signer e)) s.views ≡ parts_with (signer e) v = total_alone (parts_with (signer e)) part_count (λ u. times_le (signer e) u.parts) s.views id v at (all ∙ (sym whole ∙ sym r.parts)) in
      number_there (signer e) v.parts (omega arith)) r.log r.signed) in
      let in' : in_turn v ≡ 1 = ap (λ (k : ℕ). cond (eqb k 0) 0 1) waits in (
        w,
        takes 0 (Some x),
        ap (λ (l : List (maybe.Option (Option S))). get_elem? l 0) t.1,
        subst (λ (ws : List ℕ). Rule record { words = ws; homes = set s.homes 0 none; views = set s.views id w }) (sym (set-get_or s.words 1 0))
            (moved journal signer count s r id v w s.words (set s.homes 0 none) r.drawn r.served r.raised r.log at r.words (omega arith) (brought-length (journal x) v.parts) (λ k. brought-times (journal x) k v.parts)
            record {
              known = subst (λ (l : List E). IsKnown signer r.log (brought l v.parts)) (sym t.2) (known_brought signer r.log v.parts);
              queued = λ _. (let a = q.0 in let b = brought-length (journal x) v.parts in omega arith, q.1, q.2);
              holds = λ _. (sym now, ap (λ (l : List E). brought l v.parts) t.2 ∙ sym (brought-again r.log (journal x) v.parts));
              not_raised = λ _. t.3;
              is_raised = λ h. absurd (omega arith);
            }
            (λ j u other there g. g)
            (λ j u other there su _ e. other (r.apart j id u v there at su (omega arith) e))
            (inr (ap (λ (l : List (maybe.Option (Option S))). set l 0 none) t.1, id, w, set_here s.views id w (at_inside s.views id v at), omega arith)) r.signed (turned_still r.log r.raised s.views r.turned id v w at refl (λ h. let b = brought-length (journal x) v.parts in omega arith))),
        ((λ _. (x, ap (λ (l : List (ℕ × Option S)). (0, Some x) ∷ l) empty, refl, known, so_far, signs)), λ no. absurd (no hit)),
      ))
      (λ (t : (s.homes ≡ none ∷ []) × (holder : ℕ) × (v : View E) × (get_elem? s.views holder ≡ some v) × (2 ≤ v.stage)).
      let g = (r.fits t.1 t.2 t.3).holds t.4 in let deep' = t.4 in let same : t.1 ≡ id = r.apart t.1 id t.2 v t.3 at (omega arith) (omega arith) (g.0 ∙ now) in
      let is : t.2 ≡ v = some-injective t.2 v (sym t.3 ∙ ap (get_elem? s.views) same ∙ at) in let st : t.2.stage ≡ v.stage = ap (λ (z : View E). z.stage) is in absurd (omega arith)) r.placed)
      (λ miss. (v, keeps, tt, unmoved s r 1 id me at, ((λ hit. absurd (miss hit)), λ _. refl)))

  pub raises : (slots id new : ℕ) (me : Held S E) (x : S) (was piece : List E) → me.0.stage ≡ 2 → me.1 ≡ (0, Some x) ∷ [] → me.0.parts ≡ brought was me.0.parts → journal x ≡ was ++ piece → Signed signer me.0.parts piece
      → new ≡ suc me.0.ticket % 2 ^ 64 → Allows Rule slots id me 2 (λ _. new) (λ n. raised journal (step slots 2 new 0 none) me new)
  raises slots id new me x was piece inside holds-x seen grew signs word s r deep at small = let v : View E = me.0 in let f = r.fits id v at in let q = f.queued (omega arith) in let h = f.holds (omega arith) in
      let same : r.log ≡ was = brought-same r.log was v.parts q.0 (sym h.1 ∙ seen) in
      let more : journal x ≡ r.log ++ piece = grew ∙ ap (λ (l : List E). l ++ piece) (sym same) in
      let w : View E = seeing (brought (journal x) v.parts) (v.made ++ (v.ticket, piece) ∷ []) 3 v.ticket in
      let in' : in_turn v ≡ 1 = ap (λ (k : ℕ). cond (eqb k 0) 0 1) inside in
      let number : new ≡ suc r.raised % 2 ^ 64 = word ∙ ap (λ (k : ℕ). suc k % 2 ^ 64) (h.0 ∙ sym (f.not_raised inside)) in
      let Out : Type 0 = (s.homes ≡ none ∷ []) × (holder : ℕ) × (v : View E) × (get_elem? s.views holder ≡ some v) × (2 ≤ v.stage) in
      let out : s.homes ≡ none ∷ [] = ⊎_elim (λ (t : (x : S) × (s.homes ≡ some (Some x) ∷ []) × (journal x ≡ r.log) × (r.raised ≡ r.served) × ((id : ℕ) (v : View E) → get_elem? s.views id ≡ some v → v.stage < 2)).
      absurd (let a = t.4 id v at in omega arith)) (λ (t : Out). t.0) r.placed in (
        w,
        keeps,
        tt,
        moved journal signer count s r id v w (set s.words 2 new) s.homes r.drawn r.served (suc r.raised) (journal x) at
            (ap (λ (ws : List ℕ). set ws 2 new) r.words ∙ ap (λ (n : ℕ). r.drawn % 2 ^ 64 ∷ r.served % 2 ^ 64 ∷ n ∷ []) number)
            (omega arith) (brought-length (journal x) v.parts) (λ k. brought-times (journal x) k v.parts)
            record {
              known = known_brought signer (journal x) v.parts;
              queued = λ _. (let a = q.0 in let b = brought-length (journal x) v.parts in omega arith, q.1, q.2);
              holds = λ _. (h.0, sym (brought-again (journal x) (journal x) v.parts));
              not_raised = λ e. absurd (omega arith);
              is_raised = λ _. ap suc (f.not_raised inside);
            }
            (λ j u other there g. let low = alone journal signer count s r id v at (omega arith) h.0 j u other there in record {
              known = subst (λ (l : List E). IsKnown signer l u.parts) (sym more) (known_more signer r.log piece u.parts g.known
                  (λ k has. let k-here : parts_with k u + parts_with k v ≤ total (parts_with k) s.views = terms_le (parts_with k) s.views j id u v (λ e. other (sym e)) there at in
                  signs_not signer k v.parts piece signs (let a = r.once k in omega arith)));
              queued = g.queued;
              holds = λ two. absurd (omega arith);
              not_raised = λ two. absurd (omega arith);
              is_raised = λ three. absurd (omega arith);
            })
            (λ j u other there su _ e. other (r.apart j id u v there at su (omega arith) e))
            (inr (out, id, w, set_here s.views id w (at_inside s.views id v at), omega arith))
            (subst (λ (l : List E). All (λ e. 0 < total (parts_with (signer e)) s.views) l) (sym more) (All-append (λ (e : E). 0 < total (parts_with (signer e)) s.views) r.log piece r.signed
            (All-weaker (λ (e : E). Contains (numbers v.parts) (signer e)) (λ (e : E). 0 < total (parts_with (signer e)) s.views)
            (λ e c. let a : 0 < parts_with (signer e) v = has_number v.parts (signer e) c in let b = term_le (parts_with (signer e)) s.views id v at in omega arith) piece signs)))
            (subst (λ (l : List E). Turned l (suc r.raised) (set s.views id w)) (sym more) (turned_more r.log r.raised s.views r.turned id v w piece at
            (ap (λ (n : ℕ). v.made ++ (n, piece) ∷ []) (h.0 ∙ sym (f.not_raised inside))) (let a = q.0 in let b = brought-length (journal x) v.parts in omega arith))),
        λ y was' piece' is seen' grew'. let same-value : y ≡ x = some_is y x (ap (λ (l : List (ℕ × Option S)). (get_or l 0 (0, Some x)).1) (sym is ∙ holds-x)) in
            let same-was : was' ≡ was = brought-same was' was v.parts q.0 (sym seen' ∙ seen) in
            let same-piece : piece' ≡ piece = append_cancel_left was piece' piece (ap (λ (l : List E). l ++ piece') (sym same-was) ∙ (sym grew' ∙ (ap journal same-value ∙ grew))) in
            (refl, λ i. seeing (brought (journal (sym same-value i)) v.parts) (v.made ++ (v.ticket, sym same-piece i) ∷ []) 3 v.ticket),
      )

  pub advances : (slots id : ℕ) (me : Held S E) (x : S) → me.0.stage ≡ 3 → me.1 ≡ (0, Some x) ∷ [] → me.0.parts ≡ brought (journal x) me.0.parts
      → Allows Rule slots id me 1 (λ n. (n + 1) % 2 ^ 64) (advanced (step slots 1 1 0 none) me)
  advances slots id me x ends holds-x seen s r deep at small = let v : View E = me.0 in let f = r.fits id v at in let q = f.queued (omega arith) in let h = f.holds (omega arith) in
      let same : r.log ≡ journal x = brought-same r.log (journal x) v.parts q.0 (sym h.1 ∙ seen) in
      let w : View E = seeing v.parts v.made 0 v.ticket in
      let in' : in_turn v ≡ 1 = ap (λ (k : ℕ). cond (eqb k 0) 0 1) ends in
      let now = h.0 in let done : r.raised ≡ suc r.served = f.is_raised ends in
      let Homes : Type 0 = List (maybe.Option (Option S)) in
      let home : put_back s.homes me.1 ≡ some (Some x) ∷ [] = ⊎_elim (λ (t : (x : S) × (s.homes ≡ some (Some x) ∷ []) × (journal x ≡ r.log) × (r.raised ≡ r.served) × ((id : ℕ) (v : View E) → get_elem? s.views id ≡ some v → v.stage < 2)).
      absurd (let a = t.4 id v at in omega arith))
      (λ (t : (s.homes ≡ none ∷ []) × (holder : ℕ) × (v : View E) × (get_elem? s.views holder ≡ some v) × (2 ≤ v.stage)). ap (put_back s.homes) holds-x ∙ ap (λ (l : Homes). set l 0 (some (Some x))) t.0) r.placed in (
        w,
        gives,
        tt,
        moved journal signer count s r id v w (set s.words 1 ((get_or s.words 1 0 + 1) % 2 ^ 64)) (put_back s.homes me.1) r.drawn (suc r.served) r.raised r.log at
            (ap (λ (ws : List ℕ). set ws 1 ((get_or ws 1 0 + 1) % 2 ^ 64)) r.words ∙ ap (λ (n : ℕ). r.drawn % 2 ^ 64 ∷ n ∷ r.raised % 2 ^ 64 ∷ []) (omega arith))
            (omega arith) refl (λ k. refl)
            record {
              known = f.known;
              queued = λ z. absurd (omega arith);
              holds = λ z. absurd (omega arith);
              not_raised = λ e. absurd (omega arith);
              is_raised = λ e. absurd (omega arith);
            }
            (λ j u other there g. let low = alone journal signer count s r id v at (omega arith) now j u other there in record {
              known = g.known;
              queued = λ some-turn. let b = g.queued some-turn in let b₁ = b.1 in let ne : u.ticket ≢ r.served = λ e. other (r.apart j id u v there at some-turn (omega arith) (e ∙ sym now)) in (b.0, omega arith, b.2);
              holds = λ two. absurd (omega arith);
              not_raised = λ two. absurd (omega arith);
              is_raised = λ three. absurd (omega arith);
            })
            (λ j u other there su z e. absurd (omega arith))
            (inl (
              x,
              home,
              sym same,
              done,
              λ j u e. ⊎_elim (λ (y : (j ≡ id) × (w ≡ u)). subst (λ (z : View E). z.stage < 2) y.1 (omega arith)) (λ (y : (j ≢ id) × (get_elem? s.views j ≡ some u)). alone journal signer count s r id v at (omega arith) now j u y.0 y.1)
                  (at_set s.views id j w u e),
            )) r.signed (turned_still r.log r.raised s.views r.turned id v w at refl (λ h. h)),
        (ap rest holds-x, refl),
      )
