-- What publishing leaves.
use Rattle.std.proofs.Common.{◌≡◌, ◌≤◌, ℕ, List, [], ◌∷◌, ◌++◌, map, refl, sym, ap, subst, ◌∙◌, ⊎_elim, append_assoc, append-nil}
use Rattle.std.specs.Prelude.{Result, Ok, Err, MatchResult, OnOk, None}
use mathlib.Core.Option.{some, some-ne-none}
use lib.ListN.{get_elem?}
use Rattle.atomic_table.proofs.Lists.{at_snoc}
use Rattle.snap_reads.specs.declared.shown.Op.{Op}
use Rattle.snap_reads.specs.declared.snap.Refused.{Refused}
use Rattle.snap_reads.specs.declared.snap.Refused.TheVariants.{NotTaken, Owed}
use Rattle.snap_reads.specs.declared.change.Published.{Published}
use Rattle.snap_reads.specs.declared.shown.Shown.{Shown}
use Rattle.snap_reads.specs.declared.rule.View.{View}
use Rattle.snap_reads.specs.Tables.{last_position, IsRisingFrom, StartsWith}
use Rattle.snap_reads.specs.Steps.{Step, says, nothing, steps_of, published_by, IsWhole}
use Rattle.snap_reads.specs.Rule.{Shows, Kept, Adds, newcomer}
use Rattle.snap_reads.specs.Queue.{queue_of, IsSound}
use Rattle.snap_reads.specs.Views.{Shelf, shelf, Publishes}
use Rattle.snap_reads.proofs.Keeps.{none, rising_more}
use Rattle.snap_reads.proofs.Steps.{whole_more, published_more}

-- ---- one call of the store underneath

pub next_seen : {E : Type 0} (r : Result (Unit {0}) E) (picked list : List Published) (v w : View) (x y : Shown) → picked ≡ list
    → MatchResult r (λ _. Adds picked v x y w) (λ _. w ≡ v) → MatchResult r (λ _. w.seen ≡ v.seen ++ list) (λ _. w.seen ≡ v.seen)
next_seen (Ok done) picked list v w x y is h = h.seen ∙ ap (λ (l : List Published). v.seen ++ l) is
next_seen (Err e) picked list v w x y is h = ap (λ (u : View). u.seen) h

pub next_shows : {E : Type 0} (A B : Type 0) (r : Result (Unit {0}) E) (picked : List Published) (v w : View) (x y : Shown) → Shows (says x) v.seen
    → MatchResult r (λ _. Adds picked v x y w) (λ _. w ≡ v) → MatchResult r (λ _. A) (λ _. (y ≡ x) × B) → Shows (says y) w.seen
next_shows A B (Ok done) picked v w x y now h k = h.shows
next_shows A B (Err e) picked v w x y now h k = subst (λ (s : Shown). Shows (says s) w.seen) (sym k.0) (subst (λ (u : View). Shows (says x) u.seen) (sym h) now)

pub next_log : {E L : Type 0} (A B : Type 0) (r : Result (Unit {0}) E) (old new : List L) → MatchResult r (λ _. A × (new ≡ [])) (λ _. B × (new ≡ old)) → MatchResult r (λ _. new ≡ []) (λ _. new ≡ old)
next_log A B (Ok done) old new h = h.1
next_log A B (Err e) old new h = h.1

-- ---- what is known of all that waits

pub sound_more : (x : Shown) (seen : List Published) (q0 q1 : List Step) (e : ℕ × Published) → IsSound x seen q0 → q1 ≡ q0 ++ steps_of e → last_position (seen ++ published_by q0) ≤ e.1.pos → IsSound x seen q1
sound_more x seen q0 q1 e h is up = subst (IsSound x seen) (sym is) (record {
  shows = h.shows;
  whole = whole_more q0 e h.whole;
  rising = subst (IsRisingFrom 0) (append_assoc seen (published_by q0) (e.1 ∷ []) ∙ ap (λ (l : List Published). seen ++ l) (sym (published_more q0 e))) (rising_more 0 (seen ++ published_by q0) e.1 h.rising up);
})

pub sound_after : {E : Type 0} (r : Result (Unit {0}) E) (x1 x2 : Shown) (seen1 seen2 : List Published) (q1 q2 : List Step) → IsSound x1 seen1 q1 → Shows (says x2) seen2
    → MatchResult r (λ _. seen2 ≡ seen1 ++ published_by q1) (λ _. seen2 ≡ seen1) → MatchResult r (λ _. q2 ≡ []) (λ _. q2 ≡ q1) → IsSound x2 seen2 q2
sound_after (Ok done) x1 x2 seen1 seen2 q1 q2 h shows s q = subst (IsSound x2 seen2) (sym q) (record {
  shows = shows;
  whole = refl;
  rising = subst (IsRisingFrom 0) (sym s ∙ sym (append-nil seen2)) h.rising;
})
sound_after (Err e) x1 x2 seen1 seen2 q1 q2 h shows s q = subst (IsSound x2 seen2) (sym q) (record {
  shows = shows;
  whole = h.whole;
  rising = subst (λ (l : List Published). IsRisingFrom 0 (l ++ published_by q1)) (sym s) h.rising;
})

-- ---- what contracts see of it

pub all_published : (seen1 seen2 : List Published) (q0 q1 q2 : List Step) (e : ℕ × Published) → q1 ≡ q0 ++ steps_of e → seen2 ≡ seen1 ++ published_by q1 → q2 ≡ []
    → shelf seen2 q2 ≡ record { published = (seen1 ++ published_by q0) ++ e.1 ∷ []; owed = [] }
all_published seen1 seen2 q0 q1 q2 e is s q =
    let published : seen2 ≡ (seen1 ++ published_by q0) ++ e.1 ∷ [] = s ∙ ap (λ (l : List Step). seen1 ++ published_by l) is ∙ ap (λ (l : List Published). seen1 ++ l) (published_more q0 e) ∙ sym (append_assoc seen1 (published_by q0) (e.1 ∷ [])) in
    let owed : published_by q2 ≡ [] = ap published_by q in
    λ i. record { published = published i; owed = owed i }

pub one_owed : (seen1 seen2 : List Published) (q0 q1 q2 : List Step) (e : ℕ × Published) → q1 ≡ q0 ++ steps_of e → seen2 ≡ seen1 → q2 ≡ q1
    → shelf seen2 q2 ≡ record { published = seen1; owed = published_by q0 ++ e.1 ∷ [] }
one_owed seen1 seen2 q0 q1 q2 e is s q =
    let owed : published_by q2 ≡ published_by q0 ++ e.1 ∷ [] = ap published_by (q ∙ is) ∙ published_more q0 e in
    λ i. record { published = s i; owed = owed i }

pub sound_taken : (x0 x1 : Shown) (s0 s1 : List Published) (q0 q1 : List Step) (e : ℕ × Published) → x1 ≡ x0 → s1 ≡ s0 → IsSound x0 s0 q0 → q1 ≡ q0 ++ steps_of e → last_position (s0 ++ published_by q0) ≤ e.1.pos → IsSound x1 s1 q1
sound_taken x0 x1 s0 s1 q0 q1 e x s h is up =
    subst (λ (y : Shown). IsSound y s1 q1) (sym x) (subst (λ (l : List Published). IsSound x0 l q1) (sym s) (sound_more x0 s0 q0 q1 e h is up))

pub publishes_ok : (p : Published) (r : Result (Unit {0}) Refused) (old seen new : Shelf) → old ≡ seen → Publishes p r old new → OnOk r (new ≡ record { published = (seen.published ++ seen.owed) ++ p ∷ []; owed = [] })
publishes_ok p (Ok done) old seen new is h = h ∙ ap (λ (s : Shelf). record { published = (s.published ++ s.owed) ++ p ∷ []; owed = [] }) is
publishes_ok p (Err e) old seen new is h = tt

pub publishes_not : (p : Published) (r : Result (Unit {0}) Refused) (old seen new : Shelf) → old ≡ seen → Publishes p r old new → r ≡ Err NotTaken → new ≡ seen
publishes_not p (Ok done) old seen new is h e = absurd (cc)
publishes_not p (Err NotTaken) old seen new is h e = h ∙ is
publishes_not p (Err Owed) old seen new is h e = absurd (cc)

pub publishes_owed : (p : Published) (r : Result (Unit {0}) Refused) (old seen new : Shelf) → old ≡ seen → Publishes p r old new → r ≡ Err Owed → new ≡ record { published = seen.published; owed = seen.owed ++ p ∷ [] }
publishes_owed p (Ok done) old seen new is h e = absurd (cc)
publishes_owed p (Err NotTaken) old seen new is h e = absurd (cc)
publishes_owed p (Err Owed) old seen new is h e = h ∙ ap (λ (s : Shelf). record { published = s.published; owed = s.owed ++ p ∷ [] }) is

-- ---- how it begins

pub shows_nothing : (x : Shown) → says x ≡ nothing → Shows (says x) []
shows_nothing x is = subst (λ s. Shows s []) (sym is) (record { tables = refl; pos = refl; count = refl; carried = ([], refl) })

pub opens : (x : Shown) → says x ≡ nothing → Kept x (newcomer ∷ [])
opens x is = record {
  all = [];
  shows = shows_nothing x is;
  rising = tt;
  seen = λ j u e. ⊎_elim (λ (no : get_elem? {A = View} [] j ≡ some u). absurd (some-ne-none u (sym no))) (λ (same : newcomer ≡ u). subst (λ (z : View). StartsWith [] z.seen) same (none [])) (at_snoc [] newcomer u j e);
  told = λ j u e. ⊎_elim (λ (no : get_elem? {A = View} [] j ≡ some u). absurd (some-ne-none u (sym no))) (λ (same : newcomer ≡ u). subst (λ (z : View). StartsWith [] z.told) same (none [])) (at_snoc [] newcomer u j e);
}

pub sound_new : (x y : Shown) (v : View) (ops : List Op) → says x ≡ nothing → y ≡ x → v ≡ newcomer → ops ≡ [] → IsSound y v.seen (queue_of ops None)
sound_new x y v ops is same new empty =
    subst (λ (z : Shown). IsSound z v.seen (queue_of ops None)) (sym same)
    (subst (λ (u : View). IsSound x u.seen (queue_of ops None)) (sym new)
    (subst (λ (l : List Op). IsSound x [] (queue_of l None)) (sym empty) (record { shows = shows_nothing x is; whole = refl; rising = tt })))

pub shelf_new : (v : View) (ops : List Op) → v ≡ newcomer → ops ≡ [] → shelf v.seen (queue_of ops None) ≡ record { published = []; owed = [] }
shelf_new v ops new empty = λ i. shelf (new i).seen (queue_of (empty i) None)
