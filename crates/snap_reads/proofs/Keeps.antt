-- Each step keeps the rule.
use Rattle.std.proofs.Common.{◌≡◌, ℕ, zero, suc, ◌+◌, ◌-◌, ◌≤◌, ◌≢◌, List, [], ◌∷◌, ◌++◌, length, fold, map, take, drop, set, refl, sym, ap, subst, ◌∙◌, ⊎_elim, le_refl, le_trans, append_assoc, append-nil, length-append, arith}
use mathlib.Core.Option.{some}
use lib.ListN.{get_elem?}
use Rattle.left_right.specs.Register.{Admits, TurnsAt, Forks, Merges}
use Rattle.atomic_table.proofs.Lists.{at_set, at_snoc}
use Rattle.snap_reads.specs.declared.change.Published.{Published}
use Rattle.snap_reads.specs.declared.shown.Shown.{Shown}
use Rattle.snap_reads.specs.declared.shown.Says.{Says}
use Rattle.snap_reads.specs.declared.shown.Op.{Op}
use Rattle.snap_reads.specs.declared.rule.View.{View}
use Rattle.snap_reads.specs.Tables.{with_published, tables_after, last_position, IsRisingFrom, StartsWith}
use Rattle.snap_reads.specs.Steps.{Step, meant, act, applied, says, all_steps, ended, published_by, IsWhole}
use Rattle.snap_reads.specs.Rule.{EndsWith, Shows, newcomer, informed, Kept, Looks, Adds}
use Rattle.snap_reads.proofs.Steps.{fold-append, fold-applied, take_drop, shown_after, all_made}

-- ---- beginnings of lists

pub whole : (l : List Published) → StartsWith l l
whole l = ([], sym (append-nil l))

pub none : (l : List Published) → StartsWith l []
none l = (l, refl)

pub longer : (l s m : List Published) → StartsWith l s → StartsWith (l ++ m) s
longer l s m h = (h.0 ++ m, ap (λ (k : List Published). k ++ m) h.1 ∙ append_assoc s h.0 m)

pub chain : (a b c : List Published) → StartsWith a b → StartsWith b c → StartsWith a c
chain a b c h k = (k.0 ++ h.0, h.1 ∙ ap (λ (l : List Published). l ++ h.0) k.1 ∙ append_assoc c k.0 h.0)

-- what begins a list and is as long is the list
same_size : (l s : List Published) → StartsWith l s → length l ≡ length s → l ≡ s
same_size l s h size = by h.0 h.1
  where
    by : (rest : List Published) → l ≡ s ++ rest → l ≡ s
    by [] e = e ∙ append-nil s
    by (x ∷ xs) e = let k = ap length e ∙ length-append s (x ∷ xs) in absurd (omega (arith, k, size))

-- ---- positions

rising_parts : (least : ℕ) (xs ys : List Published) → IsRisingFrom least (xs ++ ys) → IsRisingFrom least xs × (least ≤ fold (λ _ p. p.pos) least (xs ++ ys)) × (fold (λ _ p. p.pos) least xs ≤ fold (λ _ p. p.pos) least (xs ++ ys))
rising_parts least [] ys h = (tt, rise least ys h, rise least ys h)
  where
    rise : (least : ℕ) (ys : List Published) → IsRisingFrom least ys → least ≤ fold (λ _ p. p.pos) least ys
    rise least [] h = le_refl least
    rise least (y ∷ ys) h = le_trans h.0 (rise y.pos ys h.1)
rising_parts least (x ∷ xs) ys h = let r = rising_parts x.pos xs ys h.1 in ((h.0, r.0), le_trans h.0 r.1, r.2)

-- a longer list ends at no lower position
pub later_position : (l s : List Published) → IsRisingFrom 0 l → StartsWith l s → last_position s ≤ last_position l
later_position l s h starts = subst (λ (k : List Published). last_position s ≤ last_position k) (sym starts.1) (rising_parts 0 s starts.0 (subst (IsRisingFrom 0) starts.1 h)).2

pub rising_front : (l s : List Published) → IsRisingFrom 0 l → StartsWith l s → IsRisingFrom 0 s
rising_front l s h starts = (rising_parts 0 s starts.0 (subst (IsRisingFrom 0) starts.1 h)).0

pub rising_more : (least : ℕ) (l : List Published) (p : Published) → IsRisingFrom least l → fold (λ _ q. q.pos) least l ≤ p.pos → IsRisingFrom least (l ++ p ∷ [])
rising_more least [] p h up = (up, tt)
rising_more least (x ∷ xs) p h up = (h.0, rising_more x.pos xs p h.1 up)

-- ---- what is shown after a list

shows_one : (s : Says) (list : List Published) (e : ℕ × Published) → Shows s list → Shows (shown_after s e) (list ++ e.1 ∷ [])
shows_one s list e h = record {
  tables = ap (λ m. with_published m e.1) h.tables ∙ sym (fold-append with_published _ list (e.1 ∷ []));
  pos = sym (fold-append (λ _ p. p.pos) 0 list (e.1 ∷ []));
  count = (let k = length-append list (e.1 ∷ []) in let c = h.count in omega (arith, k, c));
  carried = (
    h.carried.0 ++ take (e.0 - (s.count - length s.carried)) (s.carried ++ e.1 ∷ []),
    ap (λ (l : List Published). l ++ e.1 ∷ []) h.carried.1 ∙ append_assoc h.carried.0 s.carried (e.1 ∷ [])
        ∙ ap (λ (l : List Published). h.carried.0 ++ l) (take_drop (e.0 - (s.count - length s.carried)) (s.carried ++ e.1 ∷ [])) ∙ sym (append_assoc h.carried.0 (take (e.0 - (s.count - length s.carried)) (s.carried ++ e.1 ∷ [])) (drop (e.0 - (s.count - length s.carried)) (s.carried ++ e.1 ∷ []))),
  );
}

shows_all : (s : Says) (list : List Published) (es : List (ℕ × Published)) → Shows s list → Shows (fold shown_after s es) (list ++ map (λ e. e.1) es)
shows_all s list [] h = subst (Shows s) (sym (append-nil list)) h
shows_all s list (e ∷ es) h = subst (Shows (fold shown_after (shown_after s e) es)) (append_assoc list (e.1 ∷ []) (map (λ e. e.1) es)) (shows_all (shown_after s e) (list ++ e.1 ∷ []) es (shows_one s list e h))

-- what is shown once operations that are whole were applied
pub shows_next : (x next : Shown) (list : List Published) (ops : List Op) → Shows (says x) list → IsWhole (map meant ops) → says next ≡ fold applied (says x) ops → Shows (says next) (list ++ published_by (map meant ops))
shows_next x next list ops h is made =
    subst (λ (s : Says). Shows s (list ++ published_by (map meant ops)))
    (sym (made ∙ fold-applied (says x) ops ∙ ap (fold act (says x)) is ∙ all_made (says x) (ended (map meant ops))))
    (shows_all (says x) list (ended (map meant ops)) h)

-- ---- the steps

pub admits : Admits Kept newcomer
admits x views h = record {
  all = h.all;
  shows = h.shows;
  rising = h.rising;
  seen = λ j u e. ⊎_elim (h.seen j u) (λ (same : newcomer ≡ u). subst (λ (z : View). StartsWith h.all z.seen) same (none h.all)) (at_snoc views newcomer u j e);
  told = λ j u e. ⊎_elim (h.told j u) (λ (same : newcomer ≡ u). subst (λ (z : View). StartsWith h.all z.told) same (none h.all)) (at_snoc views newcomer u j e);
}

-- one view is put for another of which the list begins with all
kept_set : (all : List Published) (part : View → List Published) (views : List View) (seat : ℕ) (w : View) → StartsWith all (part w)
    → ((j : ℕ) (u : View) → get_elem? views j ≡ some u → StartsWith all (part u)) → (j : ℕ) (u : View) → get_elem? (set views seat w) j ≡ some u → StartsWith all (part u)
kept_set all part views seat w own others j u e =
    ⊎_elim (λ (t : (j ≡ seat) × (w ≡ u)). subst (λ (z : View). StartsWith all (part z)) t.1 own) (λ (t : (j ≢ seat) × (get_elem? views j ≡ some u)). others j u t.1) (at_set views seat j w u e)

pub looks : (seat : ℕ) (v : View) (x : Shown) → TurnsAt Kept seat v x x (λ v x y w. Looks v y w)
looks seat v x views h at =
    let w : View = record { seen = h.all; told = v.told } in (
      w,
      record {
        all = h.all;
        shows = h.shows;
        rising = h.rising;
        seen = kept_set h.all (λ u. u.seen) views seat w (whole h.all) h.seen;
        told = kept_set h.all (λ u. u.told) views seat w (h.told seat v at) h.told;
      },
      record { seen = h.seen seat v at; told = h.told seat v at; shows = h.shows; rising = h.rising; same = refl },
    )

-- who knows all that is shown publishes more
pub adds : (list : List Published) (seat : ℕ) (v : View) (x y : Shown) → Shows (says x) v.seen → Shows (says y) (v.seen ++ list) → IsRisingFrom 0 (v.seen ++ list) → TurnsAt Kept seat v x y (λ v x y w. Adds list v x y w)
adds list seat v x y now next rising views h at =
    let w : View = record { seen = v.seen ++ list; told = v.told } in
    let known : h.all ≡ v.seen = same_size h.all v.seen (h.seen seat v at) (sym h.shows.count ∙ now.count) in
    let on : (s : List Published) → StartsWith h.all s → StartsWith (v.seen ++ list) s = λ s k. longer v.seen s list (subst (λ (l : List Published). StartsWith l s) known k) in (
      w,
      record {
        all = v.seen ++ list;
        shows = next;
        rising = rising;
        seen = kept_set (v.seen ++ list) (λ u. u.seen) views seat w (whole (v.seen ++ list)) (λ j u e. on u.seen (h.seen j u e));
        told = kept_set (v.seen ++ list) (λ u. u.told) views seat w (on v.told (h.told seat v at)) (λ j u e. on u.told (h.told j u e));
      },
      record { seen = refl; told = refl; shows = next },
    )

kept_more : (all : List Published) (part : View → List Published) (views : List View) (v : View) → StartsWith all (part v)
    → ((j : ℕ) (u : View) → get_elem? views j ≡ some u → StartsWith all (part u)) → (j : ℕ) (u : View) → get_elem? (views ++ v ∷ []) j ≡ some u → StartsWith all (part u)
kept_more all part views v own others j u e = ⊎_elim (others j u) (λ (same : v ≡ u). subst (λ (z : View). StartsWith all (part z)) same own) (at_snoc views v u j e)

pub forks : (seat : ℕ) (v : View) → Forks Kept seat v v v
forks seat v x views h at = record {
  all = h.all;
  shows = h.shows;
  rising = h.rising;
  seen = kept_more h.all (λ u. u.seen) (set views seat v) v (h.seen seat v at) (kept_set h.all (λ u. u.seen) views seat v (h.seen seat v at) h.seen);
  told = kept_more h.all (λ u. u.told) (set views seat v) v (h.told seat v at) (kept_set h.all (λ u. u.told) views seat v (h.told seat v at) h.told);
}

pub merges : (seat : ℕ) (v : View) (other : ℕ) (w : View) → Merges Kept seat v other w (informed v w) newcomer
merges seat v other w x views h at apart there =
    let theirs : StartsWith h.all w.seen = ⊎_elim (λ (t : (other ≡ seat) × (informed v w ≡ w)). absurd (apart t.0)) (λ (t : (other ≢ seat) × (get_elem? views other ≡ some w)). h.seen other w t.1) (at_set views seat other (informed v w) w there) in
    record {
      all = h.all;
      shows = h.shows;
      rising = h.rising;
      seen = kept_set h.all (λ u. u.seen) (set views seat (informed v w)) other newcomer (none h.all) (kept_set h.all (λ u. u.seen) views seat (informed v w) (h.seen seat v at) h.seen);
      told = kept_set h.all (λ u. u.told) (set views seat (informed v w)) other newcomer (none h.all) (kept_set h.all (λ u. u.told) views seat (informed v w) theirs h.told);
    }

-- ---- two lists of which the same is carried

same_front : (t f g r q c d : List Published) → t ++ r ≡ f ++ c → t ++ q ≡ g ++ d → length f ≡ length g → length f ≤ length t → f ≡ g
same_front t [] [] r q c d e k same short = refl
same_front t [] (y ∷ g) r q c d e k same short = absurd (omega arith)
same_front t (x ∷ f) [] r q c d e k same short = absurd (omega arith)
same_front [] (x ∷ f) (y ∷ g) r q c d e k same short = absurd (omega arith)
same_front (z ∷ t) (x ∷ f) (y ∷ g) r q c d e k same short =
    let here : x ≡ y = cc in
    let rest-e : t ++ r ≡ f ++ c = cc in
    let rest-k : t ++ q ≡ g ++ d = cc in
    let rest : f ≡ g = same_front t f g r q c d rest-e rest-k (omega arith) (omega arith) in
    λ i. here i ∷ rest i

-- Two lists of one length begin with what was told, and end with what is carried, which is all that came since: they are one list.
pub same_list : (l m t c : List Published) → length l ≡ length m → StartsWith l t → StartsWith m t → EndsWith l c → EndsWith m c → length l - length t ≤ length c → l ≡ m
same_list l m t c size lt mt lc mc since =
    let a = ap length lc.1 ∙ length-append lc.0 c in
    let b = ap length mc.1 ∙ length-append mc.0 c in
    let fronts : lc.0 ≡ mc.0 = same_front t lc.0 mc.0 lt.0 mt.0 c c (sym lt.1 ∙ lc.1) (sym mt.1 ∙ mc.1) (omega (arith, a, b, size)) (omega (arith, a, since)) in
    lc.1 ∙ ap (λ (f : List Published). f ++ c) fronts ∙ sym mc.1
