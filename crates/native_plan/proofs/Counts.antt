-- Members are counted as votes.
use Rattle.std.proofs.Common.{◌≡◌, ℕ, zero, suc, ◌+◌, ◌*◌, ◌<◌, ◌≤◌, Bool, true, false, cond, refl, sym, ◌∙◌, ap, arith, List, [], ◌∷◌, length, get_or, inl, inr, max}
use Rattle.std.specs.Prelude.{◌⊎◌, ◌||◌, nat_le, if◌then◌else◌, count_by}
use Rattle.std.specs.List.{list_any, list_all}
use Rattle.std.proofs.lemmas.Bool.{false≢true, leb-true, leb-false, le-leb, and_parts, and_from, or_cases, or_parts}
use Rattle.std.proofs.lemmas.List.Sums.{sum_by-cons}
use Rattle.majority_rule.specs.Majority.{majority, is_majority, votes_below}
use Rattle.majority_rule.proofs.Majorities.{votes_more, votes_first, majority_stays}
use Rattle.native_plan.specs.declared.member.Member.{Member}
use Rattle.native_plan.specs.Members.{no_member}
use Rattle.native_plan.specs.Plans.{many, greatest}

abbrev pub member : List Member → ℕ → Member
member ms i = get_or ms i no_member

pub count_votes : (test : Member → Bool) (ms : List Member) → count_by test ms ≡ votes_below (length ms) (λ i. test (member ms i))
count_votes test [] = refl
count_votes test (m ∷ ms) = sum_by-cons (λ (x : Member). cond (test x) 1 0) m ms ∙ rw (votes_first (length ms) (λ i. test (member (m ∷ ms) i))) (at (test m) (count_votes test ms))
  where
    at : (b : Bool) → count_by test ms ≡ votes_below (length ms) (λ i. test (member ms i)) → cond b 1 0 + count_by test ms ≡ (if b then 1 else 0) + votes_below (length ms) (λ i. test (member ms i))
    at true e = omega (arith, e)
    at false e = omega (arith, e)

-- members that are a majority are one of the servers, where each has the vote
pub many_votes : (n : ℕ) (test : Member → Bool) (ms : List Member) (vote : ℕ → Bool) → length ms ≡ n → ((i : ℕ) → i < n → test (member ms i) ≡ true → vote i ≡ true) → many test ms ≡ true → is_majority n vote ≡ true
many_votes n test ms vote all each h =
    let most : majority (length ms) ≤ count_by test ms = leb-true _ _ h in
    let counted : count_by test ms ≡ votes_below n (λ i. test (member ms i)) = count_votes test ms ∙ ap (λ k. votes_below k (λ i. test (member ms i))) all in
    let same : majority (length ms) ≡ majority n = ap majority all in
    majority_stays n (λ i. test (member ms i)) vote each (le-leb _ _ (omega (arith, most, counted, same)))

-- and just as many as have it
pub count_same : (n : ℕ) (test : Member → Bool) (ms : List Member) (vote : ℕ → Bool) → length ms ≡ n → ((i : ℕ) → i < n → vote i ≡ test (member ms i)) → count_by test ms ≡ votes_below n vote
count_same n test ms vote all each =
    let counted : count_by test ms ≡ votes_below n (λ i. test (member ms i)) = count_votes test ms ∙ ap (λ k. votes_below k (λ i. test (member ms i))) all in
    omega (arith, counted, votes_more n (λ i. test (member ms i)) vote (λ i l h. each i l ∙ h), votes_more n vote (λ i. test (member ms i)) (λ i l h. sym (each i l) ∙ h))

-- of an odd number, all in two groups, one group is more than half
either : (a b : Bool) → (a || b) ≡ true → 1 ≤ (if a then 1 else 0) + (if b then 1 else 0)
either true b h = omega arith
either false true h = omega arith
either false false h = absurd (false≢true h)

pub votes_cover : (n : ℕ) (f g : ℕ → Bool) → ((i : ℕ) → i < n → (f i || g i) ≡ true) → n ≤ votes_below n f + votes_below n g
votes_cover zero f g h = omega arith
votes_cover (suc n) f g h = omega (arith, votes_cover n f g (λ i l. h i (omega arith)), either (f n) (g n) (h n (omega arith)))

pub not_stuck : (k : ℕ) (first second : Member → Bool) (ms : List Member) → length ms ≡ 2 * k + 1 → many first ms ≡ false → many second ms ≡ false → ((i : ℕ) → i < length ms → (first (member ms i) || second (member ms i)) ≡ true) → ⊥
not_stuck k first second ms odd a b cover =
    let few_a : count_by first ms < majority (length ms) = leb-false _ _ a in
    let few_b : count_by second ms < majority (length ms) = leb-false _ _ b in
    let covered = votes_cover (length ms) (λ i. first (member ms i)) (λ i. second (member ms i)) cover in
    omega (arith, few_a, few_b, covered, count_votes first ms, count_votes second ms, odd)

-- a test of some member
pub any_member : (test : Member → Bool) (ms : List Member) → list_any test ms ≡ true → (i : ℕ) × (i < length ms) × (test (member ms i) ≡ true)
any_member test [] h = absurd (false≢true h)
any_member test (m ∷ ms) h = by (or_cases (test m) (list_any test ms) h) (any_member test ms)
  where
    by : ((test m ≡ true) ⊎ (list_any test ms ≡ true)) → (list_any test ms ≡ true → (i : ℕ) × (i < length ms) × (test (member ms i) ≡ true)) → (i : ℕ) × (i < suc (length ms)) × (test (member (m ∷ ms) i) ≡ true)
    by (inl e) more = (0, omega arith, e)
    by (inr e) more = let found : (i : ℕ) × (i < length ms) × (test (member ms i) ≡ true) = more e in (suc found.0, omega (arith, found.1), found.2)

pub none_member : (test : Member → Bool) (ms : List Member) → list_any test ms ≡ false → (i : ℕ) → i < length ms → test (member ms i) ≡ false
none_member test [] h i l = absurd (omega arith)
none_member test (m ∷ ms) h zero l = (or_parts (test m) (list_any test ms) h).0
none_member test (m ∷ ms) h (suc i) l = none_member test ms (or_parts (test m) (list_any test ms) h).1 i (omega arith)

pub all_members : (test : Member → Bool) (ms : List Member) → ((i : ℕ) → i < length ms → test (member ms i) ≡ true) → list_all test ms ≡ true
all_members test [] h = refl
all_members test (m ∷ ms) h = and_from _ _ (h 0 (omega arith)) (all_members test ms (λ i l. h (suc i) (omega arith)))

pub each_member : (test : Member → Bool) (ms : List Member) → list_all test ms ≡ true → (i : ℕ) → i < length ms → test (member ms i) ≡ true
each_member test [] h i l = absurd (omega arith)
each_member test (m ∷ ms) h zero l = (and_parts (test m) (list_all test ms) h).0
each_member test (m ∷ ms) h (suc i) l = each_member test ms (and_parts (test m) (list_all test ms) h).1 i (omega arith)

pub many_some : (test : Member → Bool) (ms : List Member) → many test ms ≡ true → list_any test ms ≡ true
many_some test ms h = by (list_any test ms) refl
  where
    most : majority (length ms) ≤ count_by test ms
    most = leb-true _ _ h

    by : (b : Bool) → list_any test ms ≡ b → b ≡ true
    by true e = refl
    by false e =
        let none = votes_more (length ms) (λ i. test (member ms i)) (λ i. false) (λ i l k. absurd (false≢true (sym (none_member test ms e i l) ∙ k))) in
        absurd (omega (arith, most, count_votes test ms, none, no_votes (length ms)))
      where
        no_votes : (n : ℕ) → votes_below n (λ i. false) ≡ 0
        no_votes zero = refl
        no_votes (suc n) = omega (arith, no_votes n)

-- the greatest length

pub greatest_above : (f : Member → ℕ) (ms : List Member) (i : ℕ) → i < length ms → f (member ms i) ≤ greatest f ms
greatest_above f [] i l = absurd (omega arith)
greatest_above f (m ∷ ms) zero l = omega arith
greatest_above f (m ∷ ms) (suc i) l = omega (arith, greatest_above f ms i (omega arith))

-- is one of those that some member has that passes, where the others have 0
pub record Attains (f : Member → ℕ) (test : Member → Bool) (ms : List Member) : Type 0 where
  pub at : ℕ
  pub here : at < length ms
  pub passes : test (member ms at) ≡ true
  pub is : f (member ms at) ≡ greatest f ms

attained_or_none : (f : Member → ℕ) (test : Member → Bool) (ms : List Member) → ((m : Member) → test m ≡ false → f m ≡ 0) → Attains f test ms ⊎ (greatest f ms ≡ 0)
attained_or_none f test [] zeros = inr refl
attained_or_none f test (m ∷ ms) zeros = by (test m) refl (attained_or_none f test ms zeros)
  where
    later : Attains f test ms → f m ≤ greatest f ms → Attains f test (m ∷ ms)
    later a le = record { at = suc a.at; here = omega (arith, a.here); passes = a.passes; is = omega (arith, a.is) }

    by : (b : Bool) → test m ≡ b → Attains f test ms ⊎ (greatest f ms ≡ 0) → Attains f test (m ∷ ms) ⊎ (max (f m) (greatest f ms) ≡ 0)
    by true e (inl a) = side (nat_le (f m) (greatest f ms)) refl
      where
        side : (b : Bool) → nat_le (f m) (greatest f ms) ≡ b → Attains f test (m ∷ ms) ⊎ (max (f m) (greatest f ms) ≡ 0)
        side true h = inl (later a (leb-true _ _ h))
        side false h = let less : greatest f ms < f m = leb-false _ _ h in inl (record { at = 0; here = omega arith; passes = e; is = omega (arith, less) })
    by true e (inr none) = inl (record { at = 0; here = omega arith; passes = e; is = omega (arith, none) })
    by false e (inl a) = inl (later a (omega (arith, zeros m e)))
    by false e (inr none) = inr (omega (arith, none, zeros m e))

pub attains : (f : Member → ℕ) (test : Member → Bool) (ms : List Member) → ((m : Member) → test m ≡ false → f m ≡ 0) → list_any test ms ≡ true → Attains f test ms
attains f test ms zeros some = by (attained_or_none f test ms zeros) (any_member test ms some)
  where
    by : Attains f test ms ⊎ (greatest f ms ≡ 0) → (i : ℕ) × (i < length ms) × (test (member ms i) ≡ true) → Attains f test ms
    by (inl a) found = a
    by (inr none) found = record { at = found.0; here = found.1; passes = found.2; is = omega (arith, none, greatest_above f ms found.0 found.1) }

pub same_default : (ms : List Member) (i : ℕ) (a b : Member) → i < length ms → get_or ms i a ≡ get_or ms i b
same_default [] i a b l = absurd (omega arith)
same_default (m ∷ ms) zero a b l = refl
same_default (m ∷ ms) (suc i) a b l = same_default ms i a b (omega arith)
