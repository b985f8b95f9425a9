-- Where the sessions of a script are at home.
use Rattle.std.proofs.Common.{◌≡◌, refl, sym, ap, ◌∙◌, subst, ◌⊎◌, inl, inr, ℕ, zero, suc, ◌+◌, ◌<◌, ◌≤◌, List, [], ◌∷◌, ◌++◌, length, Option, Some, None, arith, length-append}
use Rattle.std.specs.Prelude.{slice_get}
use Rattle.std.specs.List.{AllByRecursion}
use Rattle.std.proofs.lemmas.List.Folds.{find_at}
use Rattle.std.proofs.lemmas.Option.{slice_get_within}
use Rattle.script_text.specs.declared.line.Line.{Line}
use Rattle.script_text.specs.declared.line.Line.TheVariants as line
use Rattle.script_text.specs.declared.line.Session.{Session}
use Rattle.script_text.specs.declared.line.Admin.{Admin}
use Rattle.script_text.specs.declared.line.Admin.TheVariants.{Extend, Alive, Retire, Trim}
use Rattle.script_text.specs.declared.line.Ask.TheVariants as ask
use Rattle.script_text.specs.declared.asks.NamedLine.{NamedLine}
use Rattle.script_text.specs.declared.asks.Asks.{Asks}
use Rattle.script_text.specs.declared.asks.Asks.TheVariants as asks
use Rattle.script_text.specs.declared.seen.Home.{Home}
use Rattle.script_text.specs.Seen.{Before, nothing_yet, home, home_of, is_named, with_asked, with_session}
use Rattle.script_text.specs.Script.{RawLine, lines_in}
use Rattle.script_text.specs.Spelling.{IsScript, IsNode, Belongs, SpellsFrom}
use Rattle.script_text.specs.Lines.{lines_of, lines_after}
use Rattle.run_laws.specs.Ended.{session_in, IsAtHome}

-- the sessions so far, by their numbers, each at one of the nodes
pub record AreHomes (nodes : ℕ) (homes : List Home) : Type 0 where
  pub few : length homes ≤ 64
  pub numbered : (i : ℕ) (h : Home) → slice_get homes i ≡ Some h → h.session.id ≡ i
  pub within : (i : ℕ) (h : Home) → slice_get homes i ≡ Some h → (1 ≤ h.node) × (h.node ≤ nodes)

-- nobody moves
abbrev Keep : List Home → List Home → Type 0
Keep old new = (i : ℕ) (h : Home) → slice_get old i ≡ Some h → slice_get new i ≡ Some h

append_at : {A : Type 0} (xs : List A) (x : A) (i : ℕ) (y : A) → slice_get (xs ++ x ∷ []) i ≡ Some y → (slice_get xs i ≡ Some y) ⊎ ((i ≡ length xs) × (x ≡ y))
append_at [] x zero y at = inr (refl, cc)
append_at [] x (suc i) y at = absurd (cc)
append_at (z ∷ xs) x zero y at = inl at
append_at (z ∷ xs) x (suc i) y at = elim (append_at xs x i y at) [
  | inl e ↦ inl e
  | inr e ↦ inr (omega (arith, e.0), e.1)
]

append_front : {A : Type 0} (xs : List A) (x : A) (i : ℕ) (y : A) → slice_get xs i ≡ Some y → slice_get (xs ++ x ∷ []) i ≡ Some y
append_front [] x i y at = absurd (cc)
append_front (z ∷ xs) x zero y at = at
append_front (z ∷ xs) x (suc i) y at = append_front xs x i y at

append_last : {A : Type 0} (xs : List A) (x : A) → slice_get (xs ++ x ∷ []) (length xs) ≡ Some x
append_last [] x = refl
append_last (z ∷ xs) x = append_last xs x

-- A line's session is at home at the line's node
record IsHome (nodes : ℕ) (b after : Before) (n : ℕ) (s : Session) : Type 0 where
  are : AreHomes nodes after.homes
  keep : Keep b.homes after.homes
  there : slice_get after.homes s.id ≡ Some (home s n)

known_home : (nodes : ℕ) (b after : Before) (n : ℕ) (s : Session) → AreHomes nodes b.homes → home_of b.homes s.name ≡ Some (home s n) → after ≡ b → IsHome nodes b after n s
known_home nodes b after n s ok found same =
    let at = sym (find_at (is_named s.name) b.homes) ∙ found in
    let number = ok.numbered _ (home s n) at in
    subst (λ (x : Before). IsHome nodes b x n s) (sym same) (record {
      are = ok;
      keep = λ i h e. e;
      there = ap (slice_get b.homes) number ∙ at;
    })

new_home : (nodes : ℕ) (b after : Before) (n : ℕ) (s : Session) → AreHomes nodes b.homes → IsNode nodes n → s.id ≡ length b.homes → s.id < 64 → after ≡ with_session b n s.name → IsHome nodes b after n s
new_home nodes b after n s ok node number low same =
    let added : after ≡ record { homes = b.homes ++ home s n ∷ []; retired = b.retired } = same ∙ ap (λ k. with_one (home (record { id = k; name = s.name }) n)) (sym number) in
    subst (λ (x : Before). IsHome nodes b x n s) (sym added) (record {
      are = record {
        few = omega (arith, length-append b.homes (home s n ∷ []), number, low);
        numbered = λ i h at. elim (append_at b.homes (home s n) i h at) [
          | inl e ↦ ok.numbered i h e
          | inr e ↦ ap (λ (x : Home). x.session.id) (sym e.1) ∙ (number ∙ sym e.0)
        ];
        within = λ i h at. elim (append_at b.homes (home s n) i h at) [
          | inl e ↦ ok.within i h e
          | inr e ↦ subst (λ (x : Home). (1 ≤ x.node) × (x.node ≤ nodes)) e.1 (node.least, node.most)
        ];
      };
      keep = λ i h at. append_front b.homes (home s n) i h at;
      there = ap (slice_get (b.homes ++ home s n ∷ [])) number ∙ append_last b.homes (home s n);
    })
  where
    with_one : Home → Before
    with_one h = record { homes = b.homes ++ h ∷ []; retired = b.retired }

belongs : (nodes : ℕ) (b after : Before) (n : ℕ) (s : Session) → AreHomes nodes b.homes → IsNode nodes n → Belongs b n s after → IsHome nodes b after n s
belongs nodes b after n s ok node (inl h) = known_home nodes b after n s ok h.0 h.1
belongs nodes b after n s ok node (inr h) = new_home nodes b after n s ok node h.1 h.2 h.3

-- All lines

-- a session's line is at the node where the session is at home; each line's node is one of the run's
abbrev pub IsThere : List Home → ℕ → Asks → Type 0
IsThere homes node (asks.Logged s r c) = (h : Home) × (slice_get homes s.id ≡ Some h) × (node ≡ h.node)
IsThere homes node (asks.Look s q) = (h : Home) × (slice_get homes s.id ≡ Some h) × (node ≡ h.node)
IsThere homes node (asks.Admin a) = Unit {0}

pub record IsAt (nodes : ℕ) (homes : List Home) (l : NamedLine) : Type 0 where
  pub least : 1 ≤ l.node
  pub most : l.node ≤ nodes
  pub there : IsThere homes l.node l.asks

pub record HaveHomes (nodes : ℕ) (early : List Home) (lines : List NamedLine) : Type 0 where
  pub homes : List Home
  pub are : AreHomes nodes homes
  pub keep : Keep early homes
  pub each : AllByRecursion (IsAt nodes homes) lines

goes_on : (nodes : ℕ) (early late : List Home) (lines : List NamedLine) → Keep early late → HaveHomes nodes late lines → HaveHomes nodes early lines
goes_on nodes early late lines keep h = record { homes = h.homes; are = h.are; keep = λ i x at. h.keep i x (keep i x at); each = h.each }

-- one line more, whatever homes there are later
one_more : (nodes : ℕ) (early late : List Home) (l : NamedLine) (lines : List NamedLine) → Keep early late → 1 ≤ l.node → l.node ≤ nodes → ((homes : List Home) → Keep late homes → IsThere homes l.node l.asks) → HaveHomes nodes late lines → HaveHomes nodes early (l ∷ lines)
one_more nodes early late l lines keep least most there h = record {
  homes = h.homes;
  are = h.are;
  keep = λ i y e. h.keep i y (keep i y e);
  each = (record { least = least; most = most; there = there h.homes h.keep }, h.each);
}

same_homes : (nodes : ℕ) (b after : Before) → after ≡ b → AreHomes nodes b.homes → AreHomes nodes after.homes × Keep b.homes after.homes
same_homes nodes b after same ok = subst (λ (x : Before). AreHomes nodes x.homes × Keep b.homes x.homes) (sym same) (ok, λ i h e. e)

-- what is asked of a node itself moves nobody
asked_homes : (nodes : ℕ) (b after : Before) (n : ℕ) (a : Admin) → after ≡ with_asked b n a → AreHomes nodes b.homes → AreHomes nodes after.homes × Keep b.homes after.homes
asked_homes nodes b after n Extend same ok = same_homes nodes b after same ok
asked_homes nodes b after n Alive same ok = same_homes nodes b after same ok
asked_homes nodes b after n Trim same ok = same_homes nodes b after same ok
asked_homes nodes b after n Retire same ok = subst (λ (x : Before). AreHomes nodes x.homes × Keep b.homes x.homes) (sym same) (ok, λ i h e. e)

at_home : (nodes : ℕ) (b : Before) (n at : ℕ) (rs : List RawLine) (before ls : List Line) → AreHomes nodes b.homes → SpellsFrom nodes b n at rs ls → HaveHomes nodes b.homes (lines_after before ls)
at_home nodes b n at [] before [] ok h = record { homes = b.homes; are = ok; keep = λ i x e. e; each = tt }
at_home nodes b n at (r ∷ rs) before (line.Session node t (ask.Log c) ∷ ls) ok h =
    let is = belongs nodes b h.2 node t ok h.3.fits.0 h.3.follows.1 in
    one_more nodes b.homes h.2.homes _ _ is.keep h.3.fits.0.least h.3.fits.0.most (λ homes keep. (home t node, keep t.id (home t node) is.there, refl))
    (at_home nodes h.2 (n + 1) (at + r.size) rs (before ++ line.Session node t (ask.Log c) ∷ []) ls is.are h.4)
at_home nodes b n at (r ∷ rs) before (line.Session node t (ask.Look q) ∷ ls) ok h =
    let is = belongs nodes b h.2 node t ok h.3.fits.0 h.3.follows.1 in
    one_more nodes b.homes h.2.homes _ _ is.keep h.3.fits.0.least h.3.fits.0.most (λ homes keep. (home t node, keep t.id (home t node) is.there, refl))
    (at_home nodes h.2 (n + 1) (at + r.size) rs (before ++ line.Session node t (ask.Look q) ∷ []) ls is.are h.4)
at_home nodes b n at (r ∷ rs) before (line.Admin node a ∷ ls) ok h =
    let is = asked_homes nodes b h.2 node a h.3.follows.1 ok in
    one_more nodes b.homes h.2.homes _ _ is.1 h.3.fits.least h.3.fits.most (λ homes keep. tt)
    (at_home nodes h.2 (n + 1) (at + r.size) rs (before ++ line.Admin node a ∷ []) ls is.0 h.4)
at_home nodes b n at (r ∷ rs) before (line.Blank ∷ ls) ok h =
    let is = same_homes nodes b h.2 h.3.follows ok in
    goes_on nodes b.homes h.2.homes (lines_after (before ++ line.Blank ∷ []) ls) is.1 (at_home nodes h.2 (n + 1) (at + r.size) rs (before ++ line.Blank ∷ []) ls is.0 h.4)
at_home nodes b n at (r ∷ rs) before (line.Barrier ∷ ls) ok h =
    let is = same_homes nodes b h.2 h.3.follows ok in
    goes_on nodes b.homes h.2.homes (lines_after (before ++ line.Barrier ∷ []) ls) is.1 (at_home nodes h.2 (n + 1) (at + r.size) rs (before ++ line.Barrier ∷ []) ls is.0 h.4)
at_home nodes b n at [] before (l ∷ ls) ok h = absurd h
at_home nodes b n at (r ∷ rs) before [] ok h = absurd h

pub script_homes : (nodes : ℕ) (bytes : List ℕ) (ls : List Line) → IsScript nodes bytes ls → HaveHomes nodes [] (lines_of ls)
script_homes nodes bytes ls h =
    at_home nodes nothing_yet 1 0 (lines_in bytes) [] ls (record { few = omega arith; numbered = λ i x e. absurd (cc); within = λ i x e. absurd (cc) }) h

-- the node of each session; of one that asks nothing the first one
abbrev pub node_of : Option Home → ℕ
node_of None = 1
node_of (Some h) = h.node

abbrev pub home_at : List Home → ℕ → ℕ
home_at homes s = node_of (slice_get homes s)

pub home_low : (nodes : ℕ) (homes : List Home) → 1 ≤ nodes → AreHomes nodes homes → (s : ℕ) → (1 ≤ home_at homes s) × (home_at homes s ≤ nodes)
home_low nodes homes some are s = by (slice_get homes s) refl
  where
    by : (o : Option Home) → slice_get homes s ≡ o → (1 ≤ node_of o) × (node_of o ≤ nodes)
    by None e = (omega arith, some)
    by (Some h) e = are.within s h e

at_one : (nodes : ℕ) (homes : List Home) (l : NamedLine) → IsAt nodes homes l → IsAtHome (home_at homes) l.node l.asks
at_one nodes homes l h = by l.asks h.there
  where
    by : (a : Asks) → IsThere homes l.node a → IsAtHome (home_at homes) l.node a
    by (asks.Logged s r c) x = x.2 ∙ sym (ap node_of x.1)
    by (asks.Look s q) x = x.2 ∙ sym (ap node_of x.1)
    by (asks.Admin a) x = tt

pub all_home : (nodes : ℕ) (homes : List Home) (lines : List NamedLine) → AllByRecursion (IsAt nodes homes) lines → AllByRecursion (λ l. IsAtHome (home_at homes) l.node l.asks) lines
all_home nodes homes [] h = tt
all_home nodes homes (l ∷ ls) h = (at_one nodes homes l h.0, all_home nodes homes ls h.1)

pub all_within : (nodes : ℕ) (homes : List Home) (lines : List NamedLine) → AllByRecursion (IsAt nodes homes) lines → AllByRecursion (λ l. (1 ≤ l.node) × (l.node ≤ nodes)) lines
all_within nodes homes [] h = tt
all_within nodes homes (l ∷ ls) h = ((h.0.least, h.0.most), all_within nodes homes ls h.1)

known_one : (nodes : ℕ) (homes : List Home) → AreHomes nodes homes → (node : ℕ) (a : Asks) → IsThere homes node a → session_in a ≤ 63
known_one nodes homes are node (asks.Logged s r c) x = let low = slice_get_within homes s.id x.0 x.1 in omega (arith, low, are.few)
known_one nodes homes are node (asks.Look s q) x = let low = slice_get_within homes s.id x.0 x.1 in omega (arith, low, are.few)
known_one nodes homes are node (asks.Admin a) x = omega arith

pub all_known : (nodes : ℕ) (homes : List Home) (lines : List NamedLine) → AreHomes nodes homes → AllByRecursion (IsAt nodes homes) lines → AllByRecursion (λ l. session_in l.asks ≤ 63) lines
all_known nodes homes [] are h = tt
all_known nodes homes (l ∷ ls) are h = (known_one nodes homes are l.node l.asks h.0.there, all_known nodes homes ls are h.1)
