-- The sessions of a made script, each at its node.
use Rattle.std.proofs.Common.{◌≡◌, ◌≢◌, ◌≤◌, ◌<◌, ◌+◌, ◌-◌, ◌%◌, ◌==◌, inl, inr, ℕ, zero, suc, Bool, true, false, cond, List, [], ◌∷◌, ◌++◌, length, Some, None, refl, sym, ap, ◌∙◌, arith, length-append}
use Rattle.std.specs.Prelude.{min, find, nat_lt}
use Rattle.std.specs.Option.{option_or}
use Rattle.std.proofs.lemmas.Bool.{ltb-true, ltb-false}
use Rattle.std.proofs.lemmas.Bool.Decides.{nat_tests}
use Rattle.std.proofs.lemmas.List.Folds.{find-append}
use Rattle.std.proofs.Math.Nat.{mod-eq_of_lt, mod-lt}
use Rattle.script_text.specs.declared.seen.Home.{Home}
use Rattle.script_text.specs.Seen.{Before, session, home, home_of, is_named}
use Rattle.script_text.specs.Spelling.{Belongs}
use Rattle.made_script.specs.Generator.{node_at}
use Rattle.made_script.specs.Made.{session_of}

-- the sessions of nodes 1 to `m`
pub homes_to : ℕ → List Home
homes_to zero = []
homes_to (suc m) = homes_to m ++ home (session_of (suc m)) (suc m) ∷ []

abbrev pub seen_to : ℕ → Before
seen_to m = record { homes = homes_to m; retired = [] }

pub homes_none : homes_to 0 ≡ []
unfolding homes_to
homes_none = refl

length-homes : (m : ℕ) → length (homes_to m) ≡ m
unfolding homes_to
length-homes zero = refl
length-homes (suc m) = omega (arith, length-append (homes_to m) (home (session_of (suc m)) (suc m) ∷ []), length-homes m)

abbrev named : ℕ → Home → Bool
named k h = is_named (session_of k).name h

same-named : (k m : ℕ) → k ≡ m → named k (home (session_of m) m) ≡ true
same-named k m is = grind (arith, nat_tests)

other-named : (k m : ℕ) → k ≢ m → named k (home (session_of m) m) ≡ false
other-named k m differ = grind (arith, nat_tests)

find-one : (k m : ℕ) (t : Bool) → named k (home (session_of m) m) ≡ t → find (named k) (home (session_of m) m ∷ []) ≡ cond t (Some (home (session_of m) m)) None
find-one k m t is = rw is refl

-- a session whose node comes later isn't there
absent : (m k : ℕ) → m < k → home_of (homes_to m) (session_of k).name ≡ None
unfolding homes_to
absent zero k later = refl
absent (suc m) k later =
    find-append (named k) (homes_to m) (home (session_of (suc m)) (suc m) ∷ [])
    ∙ rw (absent m k (omega arith)) (find-one k (suc m) false (other-named k (suc m) (λ e. absurd (omega arith))))

-- the others are at home
present : (m k : ℕ) → 1 ≤ k → k ≤ m → home_of (homes_to m) (session_of k).name ≡ Some (home (session_of k) k)
unfolding homes_to
present zero k some within = absurd (omega arith)
present (suc m) k some within =
    find-append (named k) (homes_to m) (home (session_of (suc m)) (suc m) ∷ []) ∙ go (k == suc m) refl (λ w. present m k some w)
  where
    go : (t : Bool) → (k == suc m) ≡ t → (k ≤ m → home_of (homes_to m) (session_of k).name ≡ Some (home (session_of k) k))
        → option_or (find (named k) (homes_to m)) (find (named k) (home (session_of (suc m)) (suc m) ∷ [])) ≡ Some (home (session_of k) k)
    go true is before =
        let e : k ≡ suc m = grind (arith, nat_tests) in
        rw (absent m k (omega arith)) (find-one k (suc m) true (same-named k (suc m) e) ∙ ap (λ (j : ℕ). Some (home (session_of j) j)) (sym e))
    go false is before =
        let e : k ≢ suc m = λ s. grind (arith, nat_tests) in
        rw (before (omega arith)) refl

-- the session of the next node is the next one
next-one : (m : ℕ) → m < 8 → Belongs (seen_to m) (suc m) (session_of (suc m)) (seen_to (suc m))
unfolding homes_to
next-one m few =
    let id : (suc m - 1) ≡ length (homes_to m) = omega (arith, length-homes m) in
    inr (
      absent m (suc m) (omega arith),
      id,
      omega arith,
      ap (λ (n : ℕ). let b : Before = record { homes = homes_to m ++ home (session n (session_of (suc m)).name) (suc m) ∷ []; retired = [] } in b) id,
    )

-- the session of an earlier one is at home
earlier-one : (m k : ℕ) → 1 ≤ k → k ≤ m → Belongs (seen_to m) k (session_of k) (seen_to m)
earlier-one m k some within = inl (present m k some within, refl)

moved : (a a' b b' k k' : ℕ) → a ≡ a' → b ≡ b' → k ≡ k' → Belongs (seen_to a') k' (session_of k') (seen_to b') → Belongs (seen_to a) k (session_of k) (seen_to b)
moved a a' b b' k k' ea eb ek h = rw (ea, eb, ek) h

-- the session of the next command is the next one, or at home
pub belongs : (nodes i : ℕ) → 1 ≤ nodes → nodes ≤ 8
    → Belongs (seen_to (min i nodes)) (node_at nodes (i + 1)) (session_of (node_at nodes (i + 1))) (seen_to (min (i + 1) nodes))
belongs nodes i least most = go (nat_lt i nodes) refl
  where
    go : (t : Bool) → nat_lt i nodes ≡ t → Belongs (seen_to (min i nodes)) (node_at nodes (i + 1)) (session_of (node_at nodes (i + 1))) (seen_to (min (i + 1) nodes))
    go true is =
        let lt : i < nodes = ltb-true i nodes is in
        let back : (i + 1 - 1) ≡ i = omega arith in
        let turn : (i + 1 - 1) % nodes ≡ i = ap (λ (n : ℕ). n % nodes) back ∙ mod-eq_of_lt lt in
        moved (min i nodes) i (min (i + 1) nodes) (suc i) (node_at nodes (i + 1)) (suc i) (omega arith) (omega arith) (omega (arith, turn)) (next-one i (omega arith))
    go false is =
        let le : nodes ≤ i = ltb-false i nodes is in
        let turn : (i + 1 - 1) % nodes < nodes = mod-lt (i + 1 - 1) least in
        moved (min i nodes) nodes (min (i + 1) nodes) nodes (node_at nodes (i + 1)) (node_at nodes (i + 1)) (omega arith) (omega arith) refl
        (earlier-one nodes (node_at nodes (i + 1)) (omega arith) (omega (arith, turn)))
