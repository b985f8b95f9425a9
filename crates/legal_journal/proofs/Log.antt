-- The log of joined segments, as reach grow and the chain goes on.
use Rattle.std.proofs.Common.{◌≡◌, ◌⊎◌, inl, inr, ℕ, zero, suc, ◌+◌, ◌-◌, ◌<◌, ◌≤◌, List, [], ◌∷◌, ◌++◌, Option, Some, None, Bool, true, false, cond, refl, sym, ap, ◌∙◌, subst, ⊎_elim, arith}
use Rattle.std.specs.Prelude.{slice_get, nat_le, unwrap_or, Contains, filter, not}
use Rattle.std.proofs.lemmas.Bool.Decides.{nat_tests}
use Rattle.delos_types.specs.declared.entry.Entry.{Entry}
use Rattle.delos_types.specs.declared.chain.Segment.{Segment}
use Rattle.std.specs.Option.{option_map_or}
use Rattle.chain_map.specs.Chain.{last_of_segments}
use Rattle.chain_map.specs.Step.{extended_segments}
use Rattle.legal_journal.specs.Shown.{is_within, entry_in, end_of}

-- the segment that goes on t positions above the start of s
abbrev pub next : Segment → ℕ → Segment
next s t = record { id = s.id + 1; start = s.start + t; end = None }

abbrev pub ends_by : ℕ → Option ℕ → Bool
ends_by n o = option_map_or (λ end. nat_le end n) o false

-- without the segments that end by n
abbrev pub kept : ℕ → List Segment → List Segment
kept n ss = filter (λ s. not (ends_by n s.end)) ss

-- segments joined without gap from this id and start, closed at answered sealed tails; the last is open
abbrev pub Joined : (ℕ → List ℕ) → ℕ → ℕ → List Segment → Type 0
Joined ends i a [] = ⊥
Joined ends i a (s ∷ []) = (s.id ≡ i) × (s.start ≡ a) × (s.end ≡ None)
Joined ends i a (s ∷ r ∷ rs) =
    (s.id ≡ i) × (s.start ≡ a) × ((t : ℕ) × (s.end ≡ Some (a + t)) × Contains (ends i) t × Joined ends (i + 1) (a + t) (r ∷ rs))

pub within_true : (a b pos : ℕ) → a ≤ pos → pos < b → is_within a b pos ≡ true
within_true a b pos h k = grind (arith, nat_tests)

pub within_cases : (a b pos : ℕ) → ((is_within a b pos ≡ true) × ((a ≤ pos) × (pos < b))) ⊎ ((is_within a b pos ≡ false) × ((pos < a) ⊎ (b ≤ pos)))
within_cases a b pos = grind (arith, nat_tests)

pub slice_get_front : {A : Type 0} (xs ys : List A) (k : ℕ) (p : A) → slice_get xs k ≡ Some p → slice_get (xs ++ ys) k ≡ Some p
slice_get_front [] ys k p e = absurd (cc)
slice_get_front (x ∷ xs) ys zero p e = e
slice_get_front (x ∷ xs) ys (suc k) p e = slice_get_front xs ys k p e

-- cells only answer further, and get entries only at their ends
pub record Grows (reach reach' : ℕ → ℕ) (entries entries' : ℕ → List Entry) : Type 0 where
  pub further : (i : ℕ) → reach i ≤ reach' i
  pub longer : (i : ℕ) → (more : List Entry) × (entries' i ≡ entries i ++ more)

pub end_closed : (reach : ℕ → ℕ) (s : Segment) (n : ℕ) → s.end ≡ Some n → end_of reach s ≡ n
end_closed reach s n h = ap (λ o. unwrap_or o (s.start + reach s.id)) h

pub end_open : (reach : ℕ → ℕ) (s : Segment) → s.end ≡ None → end_of reach s ≡ s.start + reach s.id
end_open reach s h = ap (λ o. unwrap_or o (s.start + reach s.id)) h

either_way : (t : Bool) (x y x' y' : Option Entry) (e : Entry) → cond t x y ≡ Some e → (x ≡ Some e → x' ≡ Some e) → (y ≡ Some e → y' ≡ Some e) → cond t x' y' ≡ Some e
either_way true x y x' y' e h f g = f h
either_way false x y x' y' e h f g = g h

if_true : (t t' : Bool) (x x' y' : Option Entry) (e : Entry) → (t ≡ true → t' ≡ true) → cond t x None ≡ Some e → (x ≡ Some e → x' ≡ Some e) → cond t' x' y' ≡ Some e
if_true true t' x x' y' e k h f = subst (λ b. cond b x' y' ≡ Some e) (sym (k refl)) (f h)
if_true false t' x x' y' e k h f = absurd (cc)

within_grows : (a b b' pos : ℕ) → b ≤ b' → is_within a b pos ≡ true → is_within a b' pos ≡ true
within_grows a b b' pos h k =
    ⊎_elim
    (λ (x : (is_within a b pos ≡ true) × ((a ≤ pos) × (pos < b))). within_true a b' pos x.1.0 (omega arith))
    (λ (x : (is_within a b pos ≡ false) × ((pos < a) ⊎ (b ≤ pos))). absurd (cc))
    (within_cases a b pos)

slice_get-grows : (xs ys more : List Entry) (k : ℕ) (e : Entry) → ys ≡ xs ++ more → slice_get xs k ≡ Some e → slice_get ys k ≡ Some e
slice_get-grows xs ys more k e h g = subst (λ zs. slice_get zs k ≡ Some e) (sym h) (slice_get_front xs more k e g)

pub entry_in-grows : (reach reach' : ℕ → ℕ) (entries entries' : ℕ → List Entry) (ends : ℕ → List ℕ) (i a : ℕ) (ss : List Segment) (pos : ℕ) (e : Entry) → Grows reach reach' entries entries' → Joined ends i a ss → entry_in reach entries ss pos ≡ Some e → entry_in reach' entries' ss pos ≡ Some e
entry_in-grows reach reach' entries entries' ends i a [] pos e g j h = absurd j
entry_in-grows reach reach' entries entries' ends i a (s ∷ []) pos e g j h =
    let m = g.longer s.id in
    let at : end_of reach s ≤ end_of reach' s = omega (arith, end_open reach s j.2, end_open reach' s j.2, g.further s.id) in
    if_true _ _ _ _ None e (within_grows s.start _ _ pos at) h (slice_get-grows (entries s.id) (entries' s.id) m.0 (pos - s.start) e m.1)
entry_in-grows reach reach' entries entries' ends i a (s ∷ r ∷ rs) pos e g j h =
    let m = g.longer s.id in
    let same : is_within s.start (end_of reach s) pos ≡ is_within s.start (end_of reach' s) pos =
    ap (λ n. is_within s.start n pos) (end_closed reach s _ j.2.1 ∙ sym (end_closed reach' s _ j.2.1)) in
    subst (λ b. cond b (slice_get (entries' s.id) (pos - s.start)) (entry_in reach' entries' (r ∷ rs) pos) ≡ Some e) same
    (either_way _ _ _ _ _ e h
    (slice_get-grows (entries s.id) (entries' s.id) m.0 (pos - s.start) e m.1)
    (entry_in-grows reach reach' entries entries' ends (i + 1) (a + j.2.0) (r ∷ rs) pos e g j.2.3))

-- closing the last segment no earlier than its cell's answers reach keeps each entry
pub entry_in-extended_segments : (reach : ℕ → ℕ) (entries : ℕ → List Entry) (ends : ℕ → List ℕ) (i a : ℕ) (ss : List Segment) (t pos : ℕ) (e : Entry) → Joined ends i a ss → reach (last_of_segments ss).id ≤ t → entry_in reach entries ss pos ≡ Some e → entry_in reach entries (extended_segments ss t) pos ≡ Some e
entry_in-extended_segments reach entries ends i a [] t pos e j k h = absurd j
entry_in-extended_segments reach entries ends i a (s ∷ []) t pos e j k h =
    let at : end_of reach s ≤ s.start + t = omega (arith, end_open reach s j.2) in
    if_true _ _ _ _ (entry_in reach entries (next s t ∷ []) pos) e (within_grows s.start _ _ pos at) h (λ x. x)
entry_in-extended_segments reach entries ends i a (s ∷ r ∷ rs) t pos e j k h =
    either_way (is_within s.start (end_of reach s) pos) (slice_get (entries s.id) (pos - s.start)) _ _ _ e h (λ x. x) (entry_in-extended_segments reach entries ends (i + 1) (a + j.2.0) (r ∷ rs) t pos e j.2.3 k)

ended : (n d : ℕ) (o : Option ℕ) → ends_by n o ≡ true → unwrap_or o d ≤ n
ended n d None h = absurd (cc)
ended n d (Some e) h = grind (arith, nat_tests)

if_none : (b a n pos : ℕ) (x y : Option Entry) (e : Entry) → b ≤ n → n ≤ pos → cond (is_within a b pos) x y ≡ Some e → y ≡ Some e
if_none b a n pos x y e h k g =
    ⊎_elim
    (λ (w : (is_within a b pos ≡ true) × ((a ≤ pos) × (pos < b))). absurd (omega arith))
    (λ (w : (is_within a b pos ≡ false) × ((pos < a) ⊎ (b ≤ pos))). subst (λ t. cond t x y ≡ Some e) w.0 g)
    (within_cases a b pos)

kept_head : (reach : ℕ → ℕ) (entries : ℕ → List Entry) (n pos : ℕ) (s : Segment) (rest : List Segment) (e : Entry) (t : Bool) → ends_by n s.end ≡ t → n ≤ pos → entry_in reach entries (s ∷ rest) pos ≡ Some e → (entry_in reach entries rest pos ≡ Some e → entry_in reach entries (kept n rest) pos ≡ Some e) → entry_in reach entries (cond (not t) (s ∷ kept n rest) (kept n rest)) pos ≡ Some e
kept_head reach entries n pos s rest e true is k h f =
    f (if_none (end_of reach s) s.start n pos _ _ e (ended n (s.start + reach s.id) s.end is) k h)
kept_head reach entries n pos s rest e false is k h f = either_way (is_within s.start (end_of reach s) pos) (slice_get (entries s.id) (pos - s.start)) _ _ _ e h (λ x. x) f

-- dropping the segments below a position keeps its entry
pub entry_in-kept : (reach : ℕ → ℕ) (entries : ℕ → List Entry) (n pos : ℕ) (ss : List Segment) (e : Entry) → n ≤ pos → entry_in reach entries ss pos ≡ Some e → entry_in reach entries (kept n ss) pos ≡ Some e
entry_in-kept reach entries n pos [] e k h = h
entry_in-kept reach entries n pos (s ∷ ss) e k h =
    kept_head reach entries n pos s ss e (ends_by n s.end) refl k h (entry_in-kept reach entries n pos ss e k)

joined_cons : (ends : ℕ → List ℕ) (i a : ℕ) (s : Segment) (ss : List Segment) (t : ℕ) → s.id ≡ i → s.start ≡ a → s.end ≡ Some (a + t) → Contains (ends i) t → Joined ends (i + 1) (a + t) ss → Joined ends i a (s ∷ ss)
joined_cons ends i a s [] t h k g c j = absurd j
joined_cons ends i a s (r ∷ rs) t h k g c j = (h, k, (t, g, c, j))

pub Joined-extended_segments : (ends : ℕ → List ℕ) (i a : ℕ) (ss : List Segment) (t : ℕ) → Joined ends i a ss → Contains (ends (last_of_segments ss).id) t → Joined ends i a (extended_segments ss t)
Joined-extended_segments ends i a [] t j c = absurd j
Joined-extended_segments ends i a (s ∷ []) t j c =
    (j.0, j.1, (t, ap (λ n. Some (n + t)) j.1, subst (λ n. Contains (ends n) t) j.0 c, (ap (λ n. n + 1) j.0, ap (λ n. n + t) j.1, refl)))
Joined-extended_segments ends i a (s ∷ r ∷ rs) t j c =
    joined_cons ends i a s (extended_segments (r ∷ rs) t) j.2.0 j.0 j.1 j.2.1 j.2.2 (Joined-extended_segments ends (i + 1) (a + j.2.0) (r ∷ rs) t j.2.3 c)

not_ended : (n m : ℕ) (o : Option ℕ) → o ≡ Some m → n < m → ends_by n o ≡ false
not_ended n m o h k = subst (λ x. ends_by n x ≡ false) (sym h) (grind (arith, nat_tests))

never_ended : (n : ℕ) (o : Option ℕ) → o ≡ None → ends_by n o ≡ false
never_ended n o h = subst (λ x. ends_by n x ≡ false) (sym h) refl

stays : (n : ℕ) (s : Segment) (rest : List Segment) → ends_by n s.end ≡ false → kept n (s ∷ rest) ≡ s ∷ kept n rest
stays n s rest h = ap (λ b. cond (not b) (s ∷ kept n rest) (kept n rest)) h

goes : (n : ℕ) (s : Segment) (rest : List Segment) → ends_by n s.end ≡ true → kept n (s ∷ rest) ≡ kept n rest
goes n s rest h = ap (λ b. cond (not b) (s ∷ kept n rest) (kept n rest)) h

kept_all : (ends : ℕ → List ℕ) (n i a : ℕ) (ss : List Segment) → Joined ends i a ss → n < a → kept n ss ≡ ss
kept_all ends n i a [] j h = absurd j
kept_all ends n i a (s ∷ []) j h = stays n s [] (never_ended n s.end j.2)
kept_all ends n i a (s ∷ r ∷ rs) j h =
    stays n s (r ∷ rs) (not_ended n (a + j.2.0) s.end j.2.1 (omega arith))
    ∙ ap (λ l. s ∷ l) (kept_all ends n (i + 1) (a + j.2.0) (r ∷ rs) j.2.3 (omega arith))

-- what is left once the segments that end by n are dropped: joined, with the same last one
pub record Rest (ends : ℕ → List ℕ) (n first : ℕ) (ss : List Segment) : Type 0 where
  pub id : ℕ
  pub from : ℕ
  pub joined : Joined ends id from (kept n ss)
  pub last : last_of_segments (kept n ss) ≡ last_of_segments ss
  pub low : first ≤ n → from ≤ n

rest_head : (ends : ℕ → List ℕ) (n i a : ℕ) (s r : Segment) (rs : List Segment) (t : Bool) → ends_by n s.end ≡ t → (j : Joined ends i a (s ∷ r ∷ rs)) → Rest ends n (a + j.2.0) (r ∷ rs) → Rest ends n a (s ∷ r ∷ rs)
rest_head ends n i a s r rs true is j rest = record {
  id = rest.id;
  from = rest.from;
  joined = subst (Joined ends rest.id rest.from) (sym (goes n s (r ∷ rs) is)) rest.joined;
  last = ap last_of_segments (goes n s (r ∷ rs) is) ∙ rest.last;
  low = λ _. rest.low (is_ended n (a + j.2.0) s.end j.2.1 is);
}
  where
    is_ended : (n m : ℕ) (o : Option ℕ) → o ≡ Some m → ends_by n o ≡ true → m ≤ n
    is_ended n m o h k = at_some n m (subst (λ x. ends_by n x ≡ true) h k)
      where
        at_some : (n m : ℕ) → nat_le m n ≡ true → m ≤ n
        at_some n m h = grind (arith, nat_tests)
rest_head ends n i a s r rs false is j rest =
    let above : n < a + j.2.0 = open_end n (a + j.2.0) s.end j.2.1 is in
    let all = stays n s (r ∷ rs) is ∙ ap (λ l. s ∷ l) (kept_all ends n (i + 1) (a + j.2.0) (r ∷ rs) j.2.3 above) in record {
      id = i;
      from = a;
      joined = subst (Joined ends i a) (sym all) j;
      last = ap last_of_segments all;
      low = λ h. h;
    }
  where
    open_end : (n m : ℕ) (o : Option ℕ) → o ≡ Some m → ends_by n o ≡ false → n < m
    open_end n m o h k = at_some n m (subst (λ x. ends_by n x ≡ false) h k)
      where
        at_some : (n m : ℕ) → nat_le m n ≡ false → n < m
        at_some n m h = grind (arith, nat_tests)

pub rest_of : (ends : ℕ → List ℕ) (n i a : ℕ) (ss : List Segment) → Joined ends i a ss → Rest ends n a ss
rest_of ends n i a [] j = absurd j
rest_of ends n i a (s ∷ []) j =
    let all = stays n s [] (never_ended n s.end j.2) in
    record { id = i; from = a; joined = subst (Joined ends i a) (sym all) j; last = ap last_of_segments all; low = λ h. h }
rest_of ends n i a (s ∷ r ∷ rs) j =
    rest_head ends n i a s r rs (ends_by n s.end) refl j (rest_of ends n (i + 1) (a + j.2.0) (r ∷ rs) j.2.3)

pub last_open : (ends : ℕ → List ℕ) (i a : ℕ) (ss : List Segment) → Joined ends i a ss → (last_of_segments ss).end ≡ None
last_open ends i a [] j = absurd j
last_open ends i a (s ∷ []) j = j.2
last_open ends i a (s ∷ r ∷ rs) j = last_open ends (i + 1) (a + j.2.0) (r ∷ rs) j.2.3

pub last_of_segments-extended_segments : (ends : ℕ → List ℕ) (i a : ℕ) (ss : List Segment) (t : ℕ) → Joined ends i a ss → last_of_segments (extended_segments ss t) ≡ next (last_of_segments ss) t
last_of_segments-extended_segments ends i a [] t j = absurd j
last_of_segments-extended_segments ends i a (s ∷ []) t j = refl
last_of_segments-extended_segments ends i a (s ∷ r ∷ []) t j = refl
last_of_segments-extended_segments ends i a (s ∷ r ∷ q ∷ qs) t j = last_of_segments-extended_segments ends (i + 1) (a + j.2.0) (r ∷ q ∷ qs) t j.2.3

pub Joined-more : (ends ends' : ℕ → List ℕ) (i a : ℕ) (ss : List Segment) → ((k t : ℕ) → Contains (ends k) t → Contains (ends' k) t) → Joined ends i a ss → Joined ends' i a ss
Joined-more ends ends' i a [] f j = j
Joined-more ends ends' i a (s ∷ []) f j = j
Joined-more ends ends' i a (s ∷ r ∷ rs) f j =
    (j.0, j.1, (j.2.0, j.2.1, f i j.2.0 j.2.2, Joined-more ends ends' (i + 1) (a + j.2.0) (r ∷ rs) f j.2.3))

-- a segment of this id starts here
abbrev pub HasStart : List Segment → ℕ → ℕ → Type 0
HasStart [] k b = ⊥
HasStart (s ∷ ss) k b = ((s.id ≡ k) × (s.start ≡ b)) ⊎ HasStart ss k b

pub start_above : (ends : ℕ → List ℕ) (i a : ℕ) (ss : List Segment) (k b : ℕ) → Joined ends i a ss → HasStart ss k b → a ≤ b
start_above ends i a [] k b j h = absurd j
start_above ends i a (s ∷ []) k b j (inl x) = omega arith
start_above ends i a (s ∷ []) k b j (inr x) = absurd x
start_above ends i a (s ∷ r ∷ rs) k b j (inl x) = omega arith
start_above ends i a (s ∷ r ∷ rs) k b j (inr x) =
    let up = start_above ends (i + 1) (a + j.2.0) (r ∷ rs) k b j.2.3 x in omega arith

pub last_starts : (ends : ℕ → List ℕ) (i a : ℕ) (ss : List Segment) → Joined ends i a ss → HasStart ss (last_of_segments ss).id (last_of_segments ss).start
last_starts ends i a [] j = absurd j
last_starts ends i a (s ∷ []) j = inl (refl, refl)
last_starts ends i a (s ∷ r ∷ rs) j = inr (last_starts ends (i + 1) (a + j.2.0) (r ∷ rs) j.2.3)

outside : (a b pos : ℕ) (x y : Option Entry) → b ≤ pos → cond (is_within a b pos) x y ≡ y
outside a b pos x y h =
    ⊎_elim
    (λ (w : (is_within a b pos ≡ true) × ((a ≤ pos) × (pos < b))). absurd (omega arith))
    (λ (w : (is_within a b pos ≡ false) × ((pos < a) ⊎ (b ≤ pos))). ap (λ t. cond t x y) w.0)
    (within_cases a b pos)

inside : (entries : ℕ → List Entry) (i k a b s p : ℕ) (y : Option Entry) → i ≡ k → a ≡ s → s + p < b → cond (is_within a b (s + p)) (slice_get (entries i) (s + p - a)) y ≡ slice_get (entries k) p
inside entries i k a b s p y hi ha h =
    let on : is_within a b (s + p) ≡ true = within_true a b (s + p) (omega arith) h in
    let place : s + p - a ≡ p = omega arith in
    ap (λ t. cond t (slice_get (entries i) (s + p - a)) y) on ∙ (ap (λ n. slice_get (entries i) n) place ∙ ap (λ n. slice_get (entries n) p) hi)

-- what a cell's answers reach is in the log at the segment's start
pub entry_in-at : (reach : ℕ → ℕ) (entries : ℕ → List Entry) (ends : ℕ → List ℕ) (i a : ℕ) (ss : List Segment) (k b p : ℕ) → Joined ends i a ss → HasStart ss k b → ((t : ℕ) → Contains (ends k) t → reach k ≤ t) → p < reach k → entry_in reach entries ss (b + p) ≡ slice_get (entries k) p
entry_in-at reach entries ends i a [] k b p j h c l = absurd j
entry_in-at reach entries ends i a (s ∷ []) k b p j (inl x) c l =
    let same : reach s.id ≡ reach k = ap reach x.0 in
    inside entries s.id k s.start (end_of reach s) b p None x.0 x.1 (omega (arith, end_open reach s j.2))
entry_in-at reach entries ends i a (s ∷ []) k b p j (inr x) c l = absurd x
entry_in-at reach entries ends i a (s ∷ r ∷ rs) k b p j (inl x) c l =
    let far = c j.2.0 (subst (λ n. Contains (ends n) j.2.0) (sym j.0 ∙ x.0) j.2.2) in
    inside entries s.id k s.start (end_of reach s) b p (entry_in reach entries (r ∷ rs) (b + p)) x.0 x.1 (omega (arith, end_closed reach s _ j.2.1))
entry_in-at reach entries ends i a (s ∷ r ∷ rs) k b p j (inr x) c l =
    let up = start_above ends (i + 1) (a + j.2.0) (r ∷ rs) k b j.2.3 x in
    outside s.start (end_of reach s) (b + p) _ _ (omega (arith, end_closed reach s _ j.2.1))
    ∙ entry_in-at reach entries ends (i + 1) (a + j.2.0) (r ∷ rs) k b p j.2.3 x c l

-- Single segments.

-- the segment is one of these
abbrev pub IsIn : Segment → List Segment → Type 0
IsIn x [] = ⊥
IsIn x (s ∷ ss) = (x ≡ s) ⊎ IsIn x ss

pub HasStart-in : (x : Segment) (ss : List Segment) → IsIn x ss → HasStart ss x.id x.start
HasStart-in x [] h = absurd h
HasStart-in x (s ∷ ss) (inl e) = inl (ap (λ (y : Segment). y.id) (sym e), ap (λ (y : Segment). y.start) (sym e))
HasStart-in x (s ∷ ss) (inr h) = inr (HasStart-in x ss h)

-- a closed segment stays as the chain is extended
pub IsIn-extended : (ends : ℕ → List ℕ) (i a : ℕ) (ss : List Segment) (t n : ℕ) (x : Segment) → Joined ends i a ss → x.end ≡ Some n → IsIn x ss → IsIn x (extended_segments ss t)
IsIn-extended ends i a [] t n x j e h = absurd j
IsIn-extended ends i a (s ∷ []) t n x j e (inl h) = let no : None ≡ Some n = sym j.2 ∙ (ap (λ (y : Segment). y.end) (sym h) ∙ e) in absurd (cc)
IsIn-extended ends i a (s ∷ []) t n x j e (inr h) = absurd h
IsIn-extended ends i a (s ∷ r ∷ rs) t n x j e (inl h) = inl h
IsIn-extended ends i a (s ∷ r ∷ rs) t n x j e (inr h) = inr (IsIn-extended ends (i + 1) (a + j.2.0) (r ∷ rs) t n x j.2.3 e h)

kept_in : (m n : ℕ) (s : Segment) (rest : List Segment) (b : Bool) → ends_by m s.end ≡ b → (x : Segment) → x.end ≡ Some n → (x ≡ s) ⊎ IsIn x rest → (IsIn x rest → IsIn x (kept m rest) ⊎ (n ≤ m)) → IsIn x (cond (not b) (s ∷ kept m rest) (kept m rest)) ⊎ (n ≤ m)
kept_in m n s rest false is x e (inl h) f = inl (inl h)
kept_in m n s rest false is x e (inr h) f = ⊎_elim (λ (w : IsIn x (kept m rest)). inl (inr w)) (λ (w : n ≤ m). inr w) (f h)
kept_in m n s rest true is x e (inr h) f = f h
kept_in m n s rest true is x e (inl h) f =
    let at : s.end ≡ Some n = ap (λ (y : Segment). y.end) (sym h) ∙ e in
    inr (low (subst (λ o. ends_by m o ≡ true) at is))
  where
    low : nat_le n m ≡ true → n ≤ m
    low k = grind (arith, nat_tests)

-- and as the trim is raised, unless it ends at or below the trim
pub IsIn-kept : (m n : ℕ) (ss : List Segment) (x : Segment) → x.end ≡ Some n → IsIn x ss → IsIn x (kept m ss) ⊎ (n ≤ m)
IsIn-kept m n [] x e h = absurd h
IsIn-kept m n (s ∷ ss) x e h = kept_in m n s ss (ends_by m s.end) refl x e h (IsIn-kept m n ss x e)

IsIn-above : (ends : ℕ → List ℕ) (i a : ℕ) (ss : List Segment) (x : Segment) → Joined ends i a ss → IsIn x ss → a ≤ x.start
IsIn-above ends i a ss x j h = start_above ends i a ss x.id x.start j (HasStart-in x ss h)

-- what a segment holds is what the segments show there
pub entry_in-inside : (reach : ℕ → ℕ) (entries : ℕ → List Entry) (ends : ℕ → List ℕ) (i a : ℕ) (ss : List Segment) (x : Segment) (pos : ℕ) → Joined ends i a ss → IsIn x ss → x.start ≤ pos → pos < end_of reach x → entry_in reach entries ss pos ≡ slice_get (entries x.id) (pos - x.start)
entry_in-inside reach entries ends i a [] x pos j h up low = absurd j
entry_in-inside reach entries ends i a (s ∷ ss) x pos j (inl h) up low =
    let at : is_within s.start (end_of reach s) pos ≡ true = subst (λ (y : Segment). is_within y.start (end_of reach y) pos ≡ true) h (within_true x.start (end_of reach x) pos up low) in
    ap (λ t. cond t (slice_get (entries s.id) (pos - s.start)) (entry_in reach entries ss pos)) at ∙ ap (λ (y : Segment). slice_get (entries y.id) (pos - y.start)) (sym h)
entry_in-inside reach entries ends i a (s ∷ []) x pos j (inr h) up low = absurd h
entry_in-inside reach entries ends i a (s ∷ r ∷ rs) x pos j (inr h) up low =
    let above = IsIn-above ends (i + 1) (a + j.2.0) (r ∷ rs) x j.2.3 h in
    outside s.start (end_of reach s) pos _ _ (omega (arith, end_closed reach s _ j.2.1))
    ∙ entry_in-inside reach entries ends (i + 1) (a + j.2.0) (r ∷ rs) x pos j.2.3 h up low

-- a segment is the last, or closed at a sealed tail that its cell answered
pub closed_or_last : (ends : ℕ → List ℕ) (i a : ℕ) (ss : List Segment) (x : Segment) → Joined ends i a ss → IsIn x ss → (x ≡ last_of_segments ss) ⊎ ((t : ℕ) × (x.end ≡ Some (x.start + t)) × Contains (ends x.id) t)
closed_or_last ends i a [] x j h = absurd j
closed_or_last ends i a (s ∷ []) x j (inl h) = inl h
closed_or_last ends i a (s ∷ []) x j (inr h) = absurd h
closed_or_last ends i a (s ∷ r ∷ rs) x j (inl h) =
    inr (j.2.0, subst (λ (y : Segment). y.end ≡ Some (y.start + j.2.0)) (sym h) (j.2.1 ∙ ap (λ n. Some (n + j.2.0)) (sym j.1)), subst (λ (y : Segment). Contains (ends y.id) j.2.0) (sym h) (subst (λ n. Contains (ends n) j.2.0) (sym j.0) j.2.2))
closed_or_last ends i a (s ∷ r ∷ rs) x j (inr h) = closed_or_last ends (i + 1) (a + j.2.0) (r ∷ rs) x j.2.3 h

-- a start that an extended chain has was there, or is the new segment's
pub HasStart-was : (ends : ℕ → List ℕ) (k a : ℕ) (ss : List Segment) (t i s : ℕ) → Joined ends k a ss → HasStart (extended_segments ss t) i s → HasStart ss i s ⊎ ((i ≡ (last_of_segments ss).id + 1) × (s ≡ (last_of_segments ss).start + t))
HasStart-was ends k a [] t i s j h = absurd j
HasStart-was ends k a (x ∷ []) t i s j (inl h) = inl (inl h)
HasStart-was ends k a (x ∷ []) t i s j (inr (inl h)) = inr (sym h.0, sym h.1)
HasStart-was ends k a (x ∷ []) t i s j (inr (inr h)) = absurd h
HasStart-was ends k a (x ∷ r ∷ rs) t i s j (inl h) = inl (inl h)
HasStart-was ends k a (x ∷ r ∷ rs) t i s j (inr h) =
    ⊎_elim (λ (w : HasStart (r ∷ rs) i s). inl (inr w)) (λ (w : (i ≡ (last_of_segments (r ∷ rs)).id + 1) × (s ≡ (last_of_segments (r ∷ rs)).start + t)). inr w)
    (HasStart-was ends (k + 1) (a + j.2.0) (r ∷ rs) t i s j.2.3 h)

kept_was : (n : ℕ) (x : Segment) (rest : List Segment) (b : Bool) (i s : ℕ) → HasStart (cond (not b) (x ∷ kept n rest) (kept n rest)) i s → (HasStart (kept n rest) i s → HasStart rest i s) → HasStart (x ∷ rest) i s
kept_was n x rest true i s h f = inr (f h)
kept_was n x rest false i s (inl h) f = inl h
kept_was n x rest false i s (inr h) f = inr (f h)

pub HasStart-kept_was : (n : ℕ) (ss : List Segment) (i s : ℕ) → HasStart (kept n ss) i s → HasStart ss i s
HasStart-kept_was n [] i s h = h
HasStart-kept_was n (x ∷ ss) i s h = kept_was n x ss (ends_by n x.end) i s h (HasStart-kept_was n ss i s)
