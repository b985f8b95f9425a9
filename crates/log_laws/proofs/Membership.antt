-- Who is a member by what stands in a log, how much each reported, and how far a trim was asked for.
use Rattle.std.proofs.Common.{◌≡◌, refl, sym, ap, ◌∙◌, subst, inl, inr, ◌⊎◌, ⊎_elim, ℕ, zero, suc, ◌+◌, ◌<◌, ◌≤◌, ◌==◌, Bool, true, false, cond, List, [], ◌∷◌, ◌++◌, Option, Some, None, map, filter, length, slice_index_or, min, max, not, Contains, arith, eq-eqb}
use Rattle.std.specs.Prelude.{filter_map}
use Rattle.std.specs.List.{cons_option}
use Rattle.std.specs.Option.{option_and_then}
use Rattle.std.proofs.lemmas.Bool.Decides.{nat_tests}
use Rattle.std.proofs.lemmas.Bool.{cases_lt}
use Rattle.std.proofs.lemmas.List.Elements.{Contains-append_left, Contains-append_right, Contains-append_cases}
use Rattle.delos_types.specs.declared.entry.Entry.{Entry}
use Rattle.engine_api.specs.declared.content.Content.{Content}
use Rattle.engine_api.specs.declared.content.Content.TheVariants.{Session, Alive, Leave, Trim}
use Rattle.engine_api.specs.declared.content.Placed.{Placed}
use Rattle.engine_api.specs.Items.{contents_of, items_of, placed_from, placed_at, unpack}
use Rattle.engine_api.specs.Acted.{unpack_all}
use Rattle.engine_api.specs.Order.{numbers}
use Rattle.engine_api.specs.Members.{greatest, least, is_leave_of, report_of, trim_asked, has_left, is_member, position_of, members, least_position, trim_point}
use Rattle.log_laws.specs.Least.{IsLeast}

-- Lists

first : {A : Type 0} (x : A) (xs : List A) → Contains (x ∷ xs) x
first x xs = (0, omega arith, refl)

later : {A : Type 0} (y : A) (xs : List A) (x : A) → Contains xs x → Contains (y ∷ xs) x
later y xs x h = Contains-append_right (y ∷ []) xs x h

one_of : {A : Type 0} (y : A) (ys : List A) (x : A) → Contains (y ∷ ys) x → (y ≡ x) ⊎ Contains ys x
one_of {A} y ys x c = at c.0 c.1 c.2
  where
    at : (k : ℕ) → k < length (y ∷ ys) → slice_index_or (y ∷ ys) k x ≡ x → (y ≡ x) ⊎ Contains ys x
    at zero low e = inl e
    at (suc k) low e = inr (k, omega (arith, low), e)

none : {A : Type 0} (x : A) → Contains [] x → ⊥
none x c = let low = c.1 in absurd (omega (arith, low))

-- Who left

is_leave : (k : ℕ) (c : Content) → is_leave_of k c ≡ true → c ≡ Leave k
is_leave k (Session s r c) e = absurd (cc)
is_leave k (Alive n position) e = absurd (cc)
is_leave k (Leave n) e = ap Leave (grind (arith, nat_tests, e))
is_leave k (Trim position) e = absurd (cc)

pub left_says : (ps : List Placed) (k : ℕ) → has_left ps k ≡ true → (p : Placed) × Contains ps p × (p.content ≡ Leave k)
left_says [] k h = absurd (cc)
left_says (p ∷ ps) k h = by (is_leave_of k p.content) refl h (left_says ps k)
  where
    by : (b : Bool) → is_leave_of k p.content ≡ b → has_left (p ∷ ps) k ≡ true → (has_left ps k ≡ true → (q : Placed) × Contains ps q × (q.content ≡ Leave k)) → (q : Placed) × Contains (p ∷ ps) q × (q.content ≡ Leave k)
    by true is e more = (p, first p ps, is_leave k p.content is)
    by false is e more =
        let rest : has_left ps k ≡ true = cc in
        let q = more rest in
        (q.0, later p ps q.0 q.1, q.2)

here_left : (ps : List Placed) (p : Placed) (k : ℕ) → p.content ≡ Leave k → has_left (p ∷ ps) k ≡ true
here_left ps p k is =
    let own : is_leave_of k p.content ≡ true = ap (is_leave_of k) is ∙ eq-eqb k k refl in
    cc

there_left : (ps : List Placed) (p : Placed) (k : ℕ) → has_left ps k ≡ true → has_left (p ∷ ps) k ≡ true
there_left ps p k h = by (is_leave_of k p.content) refl
  where
    by : (b : Bool) → is_leave_of k p.content ≡ b → has_left (p ∷ ps) k ≡ true
    by true is = cc
    by false is = cc

pub says_left : (ps : List Placed) (p : Placed) (k : ℕ) → Contains ps p → p.content ≡ Leave k → has_left ps k ≡ true
says_left [] p k h is = absurd (none p h)
says_left (q ∷ ps) p k h is = ⊎_elim
    (λ (same : q ≡ p). here_left ps q k (ap (λ (x : Placed). x.content) same ∙ is))
    (λ (more : Contains ps p). there_left ps q k (says_left ps p k more is))
    (one_of q ps p h)

-- The greatest of what is told

module _ (told : Content → Option ℕ) (says : ℕ → Content) (only : (c : Content) (n : ℕ) → told c ≡ Some n → c ≡ says n) (all : (n : ℕ) → told (says n) ≡ Some n) where
  abbrev most : List Placed → ℕ
  most ps = greatest (filter_map (λ (p : Placed). told p.content) ps)

  most_says : (ps : List Placed) → (most ps ≡ 0) ⊎ ((p : Placed) × Contains ps p × (p.content ≡ says (most ps)))
  most_says [] = inl refl
  most_says (p ∷ ps) = by (told p.content) refl (most_says ps)
    where
      Goal : Type 0
      Goal = (most (p ∷ ps) ≡ 0) ⊎ ((q : Placed) × Contains (p ∷ ps) q × (q.content ≡ says (most (p ∷ ps))))

      rest_of : most (p ∷ ps) ≡ most ps → (most ps ≡ 0) ⊎ ((q : Placed) × Contains ps q × (q.content ≡ says (most ps))) → Goal
      rest_of same (inl zero_is) = inl (same ∙ zero_is)
      rest_of same (inr q) = inr (q.0, later p ps q.0 q.1, q.2 ∙ ap says (sym same))

      by : (o : Option ℕ) → told p.content ≡ o → (most ps ≡ 0) ⊎ ((q : Placed) × Contains ps q × (q.content ≡ says (most ps))) → Goal
      by None is h = rest_of (ap (λ x. greatest (cons_option x (filter_map (λ (q : Placed). told q.content) ps))) is) h
      by (Some n) is h =
          let now : most (p ∷ ps) ≡ max n (most ps) = ap (λ x. greatest (cons_option x (filter_map (λ (q : Placed). told q.content) ps))) is in
          ⊎_elim
          (λ (low : n < most ps). rest_of (let m : max n (most ps) ≡ most ps = omega (arith, low) in now ∙ m) h)
          (λ (high : most ps ≤ n). let m : max n (most ps) ≡ n = omega (arith, high) in inr (p, first p ps, only p.content n is ∙ ap says (sym (now ∙ m))))
          (cases_lt n (most ps))

  says_most : (ps : List Placed) (p : Placed) (n : ℕ) → Contains ps p → p.content ≡ says n → n ≤ most ps
  says_most [] p n h is = absurd (none p h)
  says_most (q ∷ ps) p n h is = by (told q.content) refl (one_of q ps p h) (λ more. says_most ps p n more is)
    where
      by : (o : Option ℕ) → told q.content ≡ o → (q ≡ p) ⊎ Contains ps p → (Contains ps p → n ≤ most ps) → n ≤ most (q ∷ ps)
      by None e (inl same) rest =
          let own : told q.content ≡ Some n = ap told (ap (λ (x : Placed). x.content) same ∙ is) ∙ all n in
          absurd (cc)
      by (Some m) e (inl same) rest =
          let own : told q.content ≡ Some n = ap told (ap (λ (x : Placed). x.content) same ∙ is) ∙ all n in
          let equal : m ≡ n = cc in
          let now : most (q ∷ ps) ≡ max m (most ps) = ap (λ x. greatest (cons_option x (filter_map (λ (y : Placed). told y.content) ps))) e in
          omega (arith, now, equal)
      by None e (inr more) rest =
          let now : most (q ∷ ps) ≡ most ps = ap (λ x. greatest (cons_option x (filter_map (λ (y : Placed). told y.content) ps))) e in
          let low = rest more in
          omega (arith, now, low)
      by (Some m) e (inr more) rest =
          let now : most (q ∷ ps) ≡ max m (most ps) = ap (λ x. greatest (cons_option x (filter_map (λ (y : Placed). told y.content) ps))) e in
          let low = rest more in
          omega (arith, now, low)

-- .. by a node

report_only : (k : ℕ) (c : Content) (n : ℕ) → report_of k c ≡ Some n → c ≡ Alive k n
report_only k (Session s r c) n e = absurd (cc)
report_only k (Alive m position) n e = by (m == k) refl
  where
    by : (b : Bool) → (m == k) ≡ b → Alive m position ≡ Alive k n
    by true is = let same : m ≡ k = grind (arith, nat_tests, is) in let value : position ≡ n = cc in ap (λ x. Alive x position) same ∙ ap (Alive k) value
    by false is = absurd (cc)
report_only k (Leave m) n e = absurd (cc)
report_only k (Trim position) n e = absurd (cc)

report_all : (k n : ℕ) → report_of k (Alive k n) ≡ Some n
report_all k n = ap (λ b. cond b (Some n) None) (eq-eqb k k refl)

pub position_says : (ps : List Placed) (k : ℕ) → (position_of ps k ≡ 0) ⊎ ((p : Placed) × Contains ps p × (p.content ≡ Alive k (position_of ps k)))
position_says ps k = most_says (report_of k) (Alive k) (report_only k) (report_all k) ps

pub says_position : (ps : List Placed) (p : Placed) (k n : ℕ) → Contains ps p → p.content ≡ Alive k n → n ≤ position_of ps k
says_position ps p k n h is = says_most (report_of k) (Alive k) (report_only k) (report_all k) ps p n h is

-- .. of a trim

trim_only : (c : Content) (n : ℕ) → trim_asked c ≡ Some n → c ≡ Trim n
trim_only (Session s r c) n e = absurd (cc)
trim_only (Alive m position) n e = absurd (cc)
trim_only (Leave m) n e = absurd (cc)
trim_only (Trim position) n e = let value : position ≡ n = cc in ap Trim value

pub point_says : (ps : List Placed) → (trim_point ps ≡ 0) ⊎ ((p : Placed) × Contains ps p × (p.content ≡ Trim (trim_point ps)))
point_says ps = most_says trim_asked Trim trim_only (λ n. refl) ps

pub says_point : (ps : List Placed) (p : Placed) (n : ℕ) → Contains ps p → p.content ≡ Trim n → n ≤ trim_point ps
says_point ps p n h is = says_most trim_asked Trim trim_only (λ n. refl) ps p n h is

-- The least

least_low : (ns : List ℕ) (n : ℕ) → Contains ns n → least ns ≤ n
least_low [] n h = absurd (none n h)
least_low (m ∷ []) n h = ⊎_elim (λ (same : m ≡ n). omega (arith, same)) (λ (more : Contains [] n). absurd (none n more)) (one_of m [] n h)
least_low (m ∷ k ∷ ns) n h = ⊎_elim
    (λ (same : m ≡ n). omega (arith, same))
    (λ (more : Contains (k ∷ ns) n). let low = least_low (k ∷ ns) n more in omega (arith, low))
    (one_of m (k ∷ ns) n h)

-- the least of a list with an element is one of its elements
least_one : (n : ℕ) (ns : List ℕ) → Contains (n ∷ ns) (least (n ∷ ns))
least_one n [] = first n []
least_one n (m ∷ ns) = ⊎_elim
    (λ (low : n < least (m ∷ ns)). let is : min n (least (m ∷ ns)) ≡ n = omega (arith, low) in subst (Contains (n ∷ m ∷ ns)) (sym is) (first n (m ∷ ns)))
    (λ (high : least (m ∷ ns) ≤ n).
    let is : min n (least (m ∷ ns)) ≡ least (m ∷ ns) = omega (arith, high) in
    subst (Contains (n ∷ m ∷ ns)) (sym is) (later n (m ∷ ns) (least (m ∷ ns)) (least_one m ns)))
    (cases_lt n (least (m ∷ ns)))

mapped : {A : Type 0} (f : A → ℕ) (xs : List A) (x : A) → Contains xs x → Contains (map f xs) (f x)
mapped f [] x h = absurd (none x h)
mapped f (y ∷ ys) x h = ⊎_elim
    (λ (same : y ≡ x). subst (λ v. Contains (f y ∷ map f ys) v) (ap f same) (first (f y) (map f ys)))
    (λ (more : Contains ys x). later (f y) (map f ys) (f x) (mapped f ys x more))
    (one_of y ys x h)

from_map : {A : Type 0} (f : A → ℕ) (xs : List A) (n : ℕ) → Contains (map f xs) n → (x : A) × Contains xs x × (f x ≡ n)
from_map f [] n h = absurd (none n h)
from_map f (y ∷ ys) n h = ⊎_elim
    (λ (same : f y ≡ n). (y, first y ys, same))
    (λ (more : Contains (map f ys) n). let x = from_map f ys n more in (x.0, later y ys x.0 x.1, x.2))
    (one_of (f y) (map f ys) n h)

kept : (test : ℕ → Bool) (xs : List ℕ) (x : ℕ) → Contains xs x → test x ≡ true → Contains (filter test xs) x
kept test [] x h is = absurd (none x h)
kept test (y ∷ ys) x h is = by (test y) refl (one_of y ys x h) (λ more. kept test ys x more is)
  where
    by : (b : Bool) → test y ≡ b → (y ≡ x) ⊎ Contains ys x → (Contains ys x → Contains (filter test ys) x) → Contains (filter test (y ∷ ys)) x
    by true e (inl same) rest = subst (λ l. Contains l x) (ap (λ b. cond b (y ∷ filter test ys) (filter test ys)) (sym e)) (subst (λ v. Contains (y ∷ filter test ys) v) same (first y (filter test ys)))
    by true e (inr more) rest = subst (λ l. Contains l x) (ap (λ b. cond b (y ∷ filter test ys) (filter test ys)) (sym e)) (later y (filter test ys) x (rest more))
    by false e (inl same) rest = let pass : test y ≡ true = ap test same ∙ is in absurd (cc)
    by false e (inr more) rest = subst (λ l. Contains l x) (ap (λ b. cond b (y ∷ filter test ys) (filter test ys)) (sym e)) (rest more)

from_kept : (test : ℕ → Bool) (xs : List ℕ) (x : ℕ) → Contains (filter test xs) x → Contains xs x × (test x ≡ true)
from_kept test [] x h = absurd (none x h)
from_kept test (y ∷ ys) x h = by (test y) refl (from_kept test ys x)
  where
    by : (b : Bool) → test y ≡ b → (Contains (filter test ys) x → Contains ys x × (test x ≡ true)) → Contains (y ∷ ys) x × (test x ≡ true)
    by true e rest =
        let there : Contains (y ∷ filter test ys) x = subst (λ l. Contains l x) (ap (λ b. cond b (y ∷ filter test ys) (filter test ys)) e) h in
        ⊎_elim
        (λ (same : y ≡ x). (subst (λ v. Contains (y ∷ ys) v) same (first y ys), ap test (sym same) ∙ e))
        (λ (more : Contains (filter test ys) x). let k = rest more in (later y ys x k.0, k.1))
        (one_of y (filter test ys) x there)
    by false e rest =
        let k = rest (subst (λ l. Contains l x) (ap (λ b. cond b (y ∷ filter test ys) (filter test ys)) e) h) in
        (later y ys x k.0, k.1)

numbered : (a n k : ℕ) → a ≤ k → k < a + n → Contains (numbers a n) k
numbered a zero k low high = absurd (omega (arith, low, high))
numbered a (suc n) k low high = ⊎_elim
    (λ (above : a < k). later a (numbers (a + 1) n) k (numbered (a + 1) n k (omega (arith, above)) (omega (arith, high))))
    (λ (upto : k ≤ a). let same : a ≡ k = omega (arith, low, upto) in subst (λ v. Contains (a ∷ numbers (a + 1) n) v) same (first a (numbers (a + 1) n)))
    (cases_lt a k)

from_numbers : (a n k : ℕ) → Contains (numbers a n) k → (a ≤ k) × (k < a + n)
from_numbers a zero k h = absurd (none k h)
from_numbers a (suc n) k h = ⊎_elim
    (λ (same : a ≡ k). (omega (arith, same), omega (arith, same)))
    (λ (more : Contains (numbers (a + 1) n) k). let r = from_numbers (a + 1) n k more in let low = r.0 in let high = r.1 in (omega (arith, low), omega (arith, high)))
    (one_of a (numbers (a + 1) n) k h)

member_in : (nodes k : ℕ) (ps : List Placed) → 1 ≤ k → k ≤ nodes → has_left ps k ≡ false → Contains (members nodes ps) k
member_in nodes k ps low high stays = kept (is_member ps) (numbers 1 nodes) k (numbered 1 nodes k low (omega (arith, high))) (ap not stays)

not_true : (b : Bool) → not b ≡ true → b ≡ false
not_true true e = absurd (cc)
not_true false e = refl

pub least_upto : (nodes k : ℕ) (ps : List Placed) → 1 ≤ k → k ≤ nodes → has_left ps k ≡ false → least_position nodes ps ≤ position_of ps k
least_upto nodes k ps low high stays = least_low (map (position_of ps) (members nodes ps)) (position_of ps k) (mapped (position_of ps) (members nodes ps) k (member_in nodes k ps low high stays))

some_least : (nodes : ℕ) (ps : List Placed) (ns : List ℕ) → members nodes ps ≡ ns → (n : ℕ) → Contains ns n → IsLeast nodes ps
some_least nodes ps [] is n h = absurd (none n h)
some_least nodes ps (m ∷ ns) is n h =
    let there : Contains (map (position_of ps) (m ∷ ns)) (least (map (position_of ps) (m ∷ ns))) = least_one (position_of ps m) (map (position_of ps) ns) in
    let k = from_map (position_of ps) (m ∷ ns) (least (map (position_of ps) (m ∷ ns))) there in
    let own = from_kept (is_member ps) (numbers 1 nodes) k.0 (subst (λ l. Contains l k.0) (sym is) k.1) in
    let range = from_numbers 1 nodes k.0 own.0 in
    let high = range.1 in
    record {
      node = k.0;
      low = range.0;
      high = omega (arith, high);
      stays = not_true (has_left ps k.0) own.1;
      is = ap (λ l. least (map (position_of ps) l)) is ∙ sym k.2;
    }

pub least_at : (nodes m : ℕ) (ps : List Placed) → 1 ≤ m → m ≤ nodes → has_left ps m ≡ false → IsLeast nodes ps
least_at nodes m ps low high stays = some_least nodes ps (members nodes ps) refl m (member_in nodes m ps low high stays)

pub least_some : (nodes : ℕ) (ps : List Placed) → 0 < least_position nodes ps → IsLeast nodes ps
least_some nodes ps some = by (members nodes ps) refl
  where
    by : (ns : List ℕ) → members nodes ps ≡ ns → IsLeast nodes ps
    by [] is = let zero_is : least_position nodes ps ≡ 0 = ap (λ l. least (map (position_of ps) l)) is in absurd (omega (arith, some, zero_is))
    by (m ∷ ns) is = some_least nodes ps (m ∷ ns) is m (first m ns)

-- Entries

placed_says : (pos sub other sub' : ℕ) (cs : List Content) (p : Placed) → Contains (placed_from pos sub cs) p → (q : Placed) × Contains (placed_from other sub' cs) q × (q.content ≡ p.content)
placed_says pos sub other sub' [] p h = absurd (none p h)
placed_says pos sub other sub' (c ∷ cs) p h = ⊎_elim
    (λ (same : record { place = record { pos = pos; sub = sub }; content = c } ≡ p).
    (record { place = record { pos = other; sub = sub' }; content = c }, first _ (placed_from other (sub' + 1) cs), ap (λ (x : Placed). x.content) same))
    (λ (more : Contains (placed_from pos (sub + 1) cs) p).
    let q = placed_says pos (sub + 1) other (sub' + 1) cs p more in
    (q.0, later _ (placed_from other (sub' + 1) cs) q.0 q.1, q.2))
    (one_of _ (placed_from pos (sub + 1) cs) p h)

at_says : (pos other : ℕ) (o : Option (List Content)) (p : Placed) → Contains (placed_at pos o) p → (q : Placed) × Contains (placed_at other o) q × (q.content ≡ p.content)
at_says pos other None p h = absurd (none p h)
at_says pos other (Some cs) p h = placed_says pos 0 other 0 cs p h

-- an entry says the same wherever it stands
pub unpack_moved : (pos other : ℕ) (e : Entry) (p : Placed) → Contains (unpack pos e) p → (q : Placed) × Contains (unpack other e) q × (q.content ≡ p.content)
unpack_moved pos other e p h = at_says pos other (option_and_then contents_of (items_of e)) p h

all_says : (pos : ℕ) (log : List Entry) (p : Placed) → Contains (unpack_all pos log) p → (e : Entry) × Contains log e × (q : Placed) × Contains (unpack 0 e) q × (q.content ≡ p.content)
all_says pos [] p h = absurd (none p h)
all_says pos (e ∷ es) p h = ⊎_elim
    (λ (own : Contains (unpack pos e) p). let q = unpack_moved pos 0 e p own in (e, first e es, q.0, q.1, q.2))
    (λ (more : Contains (unpack_all (pos + 1) es) p). let k = all_says (pos + 1) es p more in (k.0, later e es k.0 k.1, k.2, k.3, k.4))
    (Contains-append_cases (unpack pos e) (unpack_all (pos + 1) es) p h)

pub unpack_says : (log : List Entry) (p : Placed) → Contains (unpack_all 0 log) p → (e : Entry) × Contains log e × (q : Placed) × Contains (unpack 0 e) q × (q.content ≡ p.content)
unpack_says log p h = all_says 0 log p h

says_all : (pos : ℕ) (log : List Entry) (e : Entry) (q : Placed) → Contains log e → Contains (unpack 0 e) q → (p : Placed) × Contains (unpack_all pos log) p × (p.content ≡ q.content)
says_all pos [] e q h k = absurd (none e h)
says_all pos (x ∷ xs) e q h k = ⊎_elim
    (λ (same : x ≡ e).
    let p = unpack_moved 0 pos x q (subst (λ y. Contains (unpack 0 y) q) (sym same) k) in
    (p.0, Contains-append_left (unpack pos x) (unpack_all (pos + 1) xs) p.0 p.1, p.2))
    (λ (more : Contains xs e).
    let p = says_all (pos + 1) xs e q more k in
    (p.0, Contains-append_right (unpack pos x) (unpack_all (pos + 1) xs) p.0 p.1, p.2))
    (one_of x xs e h)

pub says_unpack : (log : List Entry) (e : Entry) (q : Placed) → Contains log e → Contains (unpack 0 e) q → (p : Placed) × Contains (unpack_all 0 log) p × (p.content ≡ q.content)
says_unpack log e q h k = says_all 0 log e q h k

-- A longer log

longer_has : (pos : ℕ) (log more : List Entry) (p : Placed) → Contains (unpack_all pos log) p → Contains (unpack_all pos (log ++ more)) p
longer_has pos [] more p h = absurd (none p h)
longer_has pos (e ∷ es) more p h = ⊎_elim
    (λ (own : Contains (unpack pos e) p). Contains-append_left (unpack pos e) (unpack_all (pos + 1) (es ++ more)) p own)
    (λ (rest : Contains (unpack_all (pos + 1) es) p). Contains-append_right (unpack pos e) (unpack_all (pos + 1) (es ++ more)) p (longer_has (pos + 1) es more p rest))
    (Contains-append_cases (unpack pos e) (unpack_all (pos + 1) es) p h)

pub longer_point : (log more : List Entry) → trim_point (unpack_all 0 log) ≤ trim_point (unpack_all 0 (log ++ more))
longer_point log more = ⊎_elim
    (λ (zero_is : trim_point (unpack_all 0 log) ≡ 0). omega (arith, zero_is))
    (λ (p : (q : Placed) × Contains (unpack_all 0 log) q × (q.content ≡ Trim (trim_point (unpack_all 0 log)))).
    says_point (unpack_all 0 (log ++ more)) p.0 (trim_point (unpack_all 0 log)) (longer_has 0 log more p.0 p.1) p.2)
    (point_says (unpack_all 0 log))

pub longer_position : (log more : List Entry) (k : ℕ) → position_of (unpack_all 0 log) k ≤ position_of (unpack_all 0 (log ++ more)) k
longer_position log more k = ⊎_elim
    (λ (zero_is : position_of (unpack_all 0 log) k ≡ 0). omega (arith, zero_is))
    (λ (p : (q : Placed) × Contains (unpack_all 0 log) q × (q.content ≡ Alive k (position_of (unpack_all 0 log) k))).
    says_position (unpack_all 0 (log ++ more)) p.0 k (position_of (unpack_all 0 log) k) (longer_has 0 log more p.0 p.1) p.2)
    (position_says (unpack_all 0 log) k)

pub longer_stays : (log more : List Entry) (k : ℕ) → has_left (unpack_all 0 (log ++ more)) k ≡ false → has_left (unpack_all 0 log) k ≡ false
longer_stays log more k h = by (has_left (unpack_all 0 log) k) refl
  where
    by : (b : Bool) → has_left (unpack_all 0 log) k ≡ b → has_left (unpack_all 0 log) k ≡ false
    by false is = is
    by true is =
        let p = left_says (unpack_all 0 log) k is in
        let gone = says_left (unpack_all 0 (log ++ more)) p.0 k (longer_has 0 log more p.0 p.1) p.2 in
        absurd (cc)

pub longer_least : (nodes m : ℕ) (log more : List Entry) → 1 ≤ m → m ≤ nodes → has_left (unpack_all 0 (log ++ more)) m ≡ false → least_position nodes (unpack_all 0 log) ≤ least_position nodes (unpack_all 0 (log ++ more))
longer_least nodes m log more low high stays =
    let k = least_at nodes m (unpack_all 0 (log ++ more)) low high stays in
    let before = least_upto nodes k.node (unpack_all 0 log) k.low k.high (longer_stays log more k.node k.stays) in
    let grown = longer_position log more k.node in
    let now = k.is in
    omega (arith, before, grown, now)
