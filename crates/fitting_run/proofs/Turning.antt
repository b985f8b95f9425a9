-- What placed rows say acted, put in its turns, is what they say acted, in order; and reads.
use Rattle.std.proofs.Common.{◌≡◌, refl, sym, ap, ◌∙◌, subst, inl, inr, ℕ, ◌+◌, ◌<◌, ◌==◌, if◌then◌else◌, List, [], ◌∷◌, ◌++◌, length, map, fold, slice_index, slice_set, get_or-set_same, get_or-set_other, zero, suc, ◌≤◌, replicate, le_of_eq, Bool, Result, Ok, Err, IfOk, IsTrue, ◌↔◌, zero-add, add-zero, Less, Equal, Greater, Ordering}
use Rattle.std.proofs.lemmas.Bool.{cases_eq, eq-eqb, ne_eqb}
use Rattle.std.proofs.lemmas.List.Sums.{sum_by-append}
use Rattle.std.proofs.Math.Path.{fun_ext}
use Rattle.std.specs.Ordering.{ordering_then, nat_cmp, match_ordering}
use Rattle.std.specs.BTreeMap.{insert_entry}
use Rattle.std.specs.List.{AllByRecursion}
use Rattle.std.specs.FinMap as finmap
use Rattle.std.specs.FinMap.Entries.{by_order}
use Rattle.engine_api.specs.declared.act.Act.{Act}
use Rattle.script_text.specs.declared.asks.Asks.{Asks}
use Rattle.script_text.specs.declared.asks.Asks.TheVariants as asks
use Rattle.row_text.specs.declared.row.Outcome.{Outcome}
use Rattle.row_text.specs.declared.row.Outcome.TheVariants as out
use Rattle.fitting_run.specs.declared.answered.Answered.{Answered}
use Rattle.fitting_run.specs.declared.acting.Turn.{Turn}
use Rattle.fitting_run.specs.Acts.{act_order, placed_acts}
use Rattle.fitting_run.specs.Reads.{Shows}
use Rattle.fitting_run.specs.Turns.{turn_cmp, turn_of, with_acts, acts_told, number_of, next_rank, ShowsAfter, AreNumbers}

then-assoc : (a b c : Ordering) → ordering_then a (ordering_then b c) ≡ ordering_then (ordering_then a b) c
then-assoc Less b c = refl
then-assoc Equal b c = refl
then-assoc Greater b c = refl

pub order-turn : (a b : Act) → act_order a b ≡ turn_cmp (turn_of a) (turn_of b)
order-turn a b =
    then-assoc (nat_cmp a.place.pos b.place.pos) (nat_cmp a.place.sub b.place.sub) (ordering_then (nat_cmp a.rank b.rank) (nat_cmp a.session b.session))

-- an act by its turn
abbrev by_turn : Act × Act → Turn × Act
by_turn e = (turn_of e.0, e.1)

put-by_turn : (a : Act) (es : List (Act × Act)) → map by_turn (finmap.put act_order a a es) ≡ insert_entry turn_cmp (map by_turn es) (turn_of a) a
put-by_turn a [] = refl
put-by_turn a (e ∷ es) =
    elim (act_order a e.0) as (λ o. map by_turn (by_order o ((a, a) ∷ e ∷ es) ((e.0, a) ∷ es) (e ∷ finmap.put act_order a a es)) ≡ match_ordering o ((turn_of a, a) ∷ map by_turn (e ∷ es)) ((turn_of e.0, a) ∷ map by_turn es) (by_turn e ∷ insert_entry turn_cmp (map by_turn es) (turn_of a) a)) [
      | Less ↦ refl
      | Equal ↦ refl
      | Greater ↦ ap (λ l. by_turn e ∷ l) (put-by_turn a es)
    ]
    ∙ ap (λ o. match_ordering o ((turn_of a, a) ∷ map by_turn (e ∷ es)) ((turn_of e.0, a) ∷ map by_turn es) (by_turn e ∷ insert_entry turn_cmp (map by_turn es) (turn_of a) a)) (order-turn a e.0)

acts-by_turn : (es : List (Act × Act)) (acts : List Act) → map by_turn (fold (λ es a. finmap.put act_order a a es) es acts) ≡ with_acts (map by_turn es) acts
acts-by_turn es [] = refl
acts-by_turn es (a ∷ acts) = acts-by_turn (finmap.put act_order a a es) acts ∙ ap (λ ts. with_acts ts acts) (put-by_turn a es)

values-by_turn : (es : List (Act × Act)) → map (λ e. e.1) (map by_turn es) ≡ map (λ e. e.1) es
values-by_turn [] = refl
values-by_turn (e ∷ es) = ap (λ l. e.1 ∷ l) (values-by_turn es)

pub in-turns : (told : List Answered) (turns : List (Turn × Act)) → turns ≡ with_acts [] (acts_told told) → map (λ e. e.1) turns ≡ placed_acts told
in-turns told turns e =
    let es = fold (λ es a. finmap.put act_order a a es) [] (acts_told told) in
    ap (map (λ (t : Turn × Act). t.1)) (e ∙ sym (acts-by_turn [] (acts_told told))) ∙ values-by_turn es

to-shows : (told : List Answered) (asked : Asks) (outcome : Outcome) → ShowsAfter (placed_acts told) asked outcome → Shows told asked outcome
to-shows told (asks.Look s q) (out.Read after found) h = h
to-shows told (asks.Look s q) outcome h = tt
to-shows told (asks.Logged s r c) outcome h = tt
to-shows told (asks.Admin a) outcome h = tt

from-shows : (told : List Answered) (asked : Asks) (outcome : Outcome) → Shows told asked outcome → ShowsAfter (placed_acts told) asked outcome
from-shows told (asks.Look s q) (out.Read after found) h = h
from-shows told (asks.Look s q) outcome h = tt
from-shows told (asks.Logged s r c) outcome h = tt
from-shows told (asks.Admin a) outcome h = tt

to-show : (told some : List Answered) → AllByRecursion (λ a. ShowsAfter (placed_acts told) a.line.asks a.row.outcome) some → AllByRecursion (λ a. Shows told a.line.asks a.row.outcome) some
to-show told [] h = tt
to-show told (a ∷ rest) h = (to-shows told a.line.asks a.row.outcome h.0, to-show told rest h.1)

from-show : (told some : List Answered) → AllByRecursion (λ a. Shows told a.line.asks a.row.outcome) some → AllByRecursion (λ a. ShowsAfter (placed_acts told) a.line.asks a.row.outcome) some
from-show told [] h = tt
from-show told (a ∷ rest) h = (from-shows told a.line.asks a.row.outcome h.0, from-show told rest h.1)

if-ok : {A E : Type 0} (r : Result A E) (P Q : A → Type 0) → ((x : A) → P x → Q x) → IfOk r P → IfOk r Q
if-ok (Ok x) P Q f h = f x h
if-ok (Err e) P Q f h = tt

-- whether all reads show what these acts leave, whether they show what the placed rows leave
pub all-show : {E : Type 0} (told : List Answered) (acts : List Act) (r : Result Bool E) → acts ≡ placed_acts told
    → IfOk r (λ holds. IsTrue holds ↔ AllByRecursion (λ a. ShowsAfter acts a.line.asks a.row.outcome) told)
    → IfOk r (λ holds. IsTrue holds ↔ AllByRecursion (λ a. Shows told a.line.asks a.row.outcome) told)
all-show told acts r e h =
    let placed = subst (λ acts. IfOk r (λ holds. IsTrue holds ↔ AllByRecursion (λ a. ShowsAfter acts a.line.asks a.row.outcome) told)) e h in
    if-ok r (λ holds. IsTrue holds ↔ AllByRecursion (λ a. ShowsAfter (placed_acts told) a.line.asks a.row.outcome) told) (λ holds. IsTrue holds ↔ AllByRecursion (λ a. Shows told a.line.asks a.row.outcome) told)
    (λ holds both. (λ yes. to-show told told (both.0 yes), λ all. both.1 (from-show told told all))) placed

-- How many acts are each session's

number-more : (s : ℕ) (acts : List Act) (x : Act) → number_of s (acts ++ x ∷ []) ≡ number_of s acts + (if x.session == s then 1 else 0)
number-more s acts x = sum_by-append (λ (a : Act). if a.session == s then 1 else 0) acts (x ∷ []) ∙ ap (λ n. number_of s acts + n) (zero-add (if x.session == s then 1 else 0))

nothing-at : (n s : ℕ) → slice_index (replicate n 0) s ≡ 0
nothing-at zero s = refl
nothing-at (suc n) zero = refl
nothing-at (suc n) (suc s) = nothing-at n s

pub none-counted : (n : ℕ) → AreNumbers (replicate n 0) []
none-counted n s = nothing-at n s

pub no-more : (n s : ℕ) → slice_index (replicate n 0) s ≤ 0
no-more n s = le_of_eq (nothing-at n s)

pub one-counted : (numbers : List ℕ) (acts : List Act) (x : Act) → AreNumbers numbers acts → x.session < length numbers
    → AreNumbers (slice_set numbers x.session (slice_index numbers x.session + 1)) (acts ++ x ∷ [])
one-counted numbers acts x are inside s =
    let more = number-more s acts x in
    elim (cases_eq x.session s) [
      | inl e ↦
          subst (λ s. slice_index (slice_set numbers x.session (slice_index numbers x.session + 1)) s ≡ number_of s (acts ++ x ∷ [])) e
          (
          get_or-set_same numbers x.session (slice_index numbers x.session + 1) 0 inside
          ∙ ap (λ n. n + 1) (are x.session)
          ∙ sym (number-more x.session acts x ∙ ap (λ b. number_of x.session acts + (if b then 1 else 0)) (eq-eqb x.session x.session refl))
          )
      | inr ne ↦
          get_or-set_other numbers x.session s (slice_index numbers x.session + 1) 0 (λ e. ne (sym e))
          ∙ are s
          ∙ sym (more ∙ ap (λ b. number_of s acts + (if b then 1 else 0)) (ne_eqb x.session s ne) ∙ add-zero (number_of s acts))
    ]

pub starts : (numbers : List ℕ) (acts : List Act) → AreNumbers numbers acts → (λ (s : ℕ). slice_index numbers s + 1) ≡ next_rank acts
starts numbers acts are = fun_ext (λ s. ap (λ n. n + 1) (are s))
