-- The servers of stripes, one after another.
use Rattle.std.proofs.Common.{◌≡◌, inl, inr, ℕ, zero, suc, ◌+◌, ◌<◌, ◌≤◌, Bool, List, [], ◌∷◌, ◌++◌, length, map, set, take, drop, get_or, Some, Result, Ok, Err, refl, sym, ap, ◌∙◌, subst, arith}
use Rattle.std.specs.Prelude.{◌⊎◌, slice_get}
use Rattle.loglet_api.specs.declared.call.LogletCall.TheVariants.{Carry, Stray, Stop, Restart}
use Rattle.loglet_api.specs.declared.call.LogletAnswer.{LogletAnswer}
use Rattle.loglet_api.specs.declared.call.LogletAnswer.TheVariants.{Stopped}
use Rattle.loglet_api.specs.declared.call.Refused.{Refused}
use Rattle.loglet_api.specs.declared.call.Refused.TheVariants.{Full, Memory}
use Rattle.loglet_api.specs.Answers.{carry_answer, stray_answer, restart_answer}
use Rattle.loglet_api.specs.Servers.{ServerState, ServersView, downs_of, Wears, Wear, TakesSome, TakeSome, ChangesAt, IsArmed, RestartsTo, MayReopen, Serves}
use Rattle.loglet_api.specs.Step.{bumped}
use Rattle.striped_loglet.specs.declared.given.Given.{Given}
use Rattle.striped_loglet.specs.Servings.{states_of, CarriesAt}
use Rattle.striped_loglet.proofs.Lists.{map_get, map_set, set_back}
use Rattle.striped_loglet.proofs.Places.{got_at}

-- each changes so
abbrev pub EachBy : (ServerState → ServerState → Type 0) → List ServerState → List ServerState → Type 0
EachBy R [] [] = Unit {0}
EachBy R (s ∷ ss) (t ∷ ts) = R s t × EachBy R ss ts
EachBy R [] (t ∷ ts) = ⊥
EachBy R (s ∷ ss) [] = ⊥

wear_each : (a b : List ServerState) → Wear a b → EachBy Wears a b
wear_each [] [] h = tt
wear_each (s ∷ ss) (t ∷ ts) h = (h.0, wear_each ss ts h.1)
wear_each [] (t ∷ ts) h = absurd h
wear_each (s ∷ ss) [] h = absurd h

each_wear : (a b : List ServerState) → EachBy Wears a b → Wear a b
each_wear [] [] h = tt
each_wear (s ∷ ss) (t ∷ ts) h = (h.0, each_wear ss ts h.1)
each_wear [] (t ∷ ts) h = absurd h
each_wear (s ∷ ss) [] h = absurd h

take_each : (a b : List ServerState) → TakeSome a b → EachBy TakesSome a b
take_each [] [] h = tt
take_each (s ∷ ss) (t ∷ ts) h = (h.0, take_each ss ts h.1)
take_each [] (t ∷ ts) h = absurd h
take_each (s ∷ ss) [] h = absurd h

each_take : (a b : List ServerState) → EachBy TakesSome a b → TakeSome a b
each_take [] [] h = tt
each_take (s ∷ ss) (t ∷ ts) h = (h.0, each_take ss ts h.1)
each_take [] (t ∷ ts) h = absurd h
each_take (s ∷ ss) [] h = absurd h

wears_same : (s : ServerState) → Wears s s
wears_same s = inl refl

takes_same : (s : ServerState) → TakesSome s s
takes_same s = record { is = refl; fewer = omega arith; still = refl }

module _ (R : ServerState → ServerState → Type 0) (same : (s : ServerState) → R s s) where
  each_same : (a : List ServerState) → EachBy R a a
  each_same [] = tt
  each_same (s ∷ ss) = (same s, each_same ss)

  each_both : (a b c d : List ServerState) → EachBy R a b → EachBy R c d → EachBy R (a ++ c) (b ++ d)
  each_both [] [] c d h k = k
  each_both (s ∷ ss) (t ∷ ts) c d h k = (h.0, each_both ss ts c d h.1 k)
  each_both [] (t ∷ ts) c d h k = absurd h
  each_both (s ∷ ss) [] c d h k = absurd h

  each_length : (a b : List ServerState) → EachBy R a b → length b ≡ length a
  each_length [] [] h = refl
  each_length (s ∷ ss) (t ∷ ts) h = ap suc (each_length ss ts h.1)
  each_length [] (t ∷ ts) h = absurd h
  each_length (s ∷ ss) [] h = absurd h

  -- what happens to the servers of one stripe happens among all
  each_set : (vs : List ServersView) (i : ℕ) (v w : ServersView) → slice_get vs i ≡ Some v → EachBy R v.states w.states → EachBy R (states_of vs) (states_of (set vs i w))
  each_set [] i v w h k = absurd (cc)
  each_set (x ∷ vs) zero v w h k = let e : x ≡ v = cc in rw e (each_both v.states w.states (states_of vs) (states_of vs) k (each_same (states_of vs)))
  each_set (x ∷ vs) (suc i) v w h k = each_both x.states x.states (states_of vs) (states_of (set vs i w)) (each_same x.states) (each_set vs i v w h k)

pub changes_length : (R : ServerState → ServerState → Type 0) (i : ℕ) (a b : List ServerState) → ChangesAt R i a b → length b ≡ length a
changes_length R i [] b h = absurd h
changes_length R i (s ∷ ss) [] h = absurd h
changes_length R zero (s ∷ ss) (t ∷ ts) h = ap (λ (x : List ServerState). suc (length x)) h.1
changes_length R (suc i) (s ∷ ss) (t ∷ ts) h = ap suc (changes_length R i ss ts h.1)

changes_before : (R : ServerState → ServerState → Type 0) (i : ℕ) (a b c : List ServerState) → ChangesAt R i a b → ChangesAt R i (a ++ c) (b ++ c)
changes_before R i [] b c h = absurd h
changes_before R i (s ∷ ss) [] c h = absurd h
changes_before R zero (s ∷ ss) (t ∷ ts) c h = (h.0, ap (λ (x : List ServerState). x ++ c) h.1)
changes_before R (suc i) (s ∷ ss) (t ∷ ts) c h = (h.0, changes_before R i ss ts c h.1)

changes_behind : (R : ServerState → ServerState → Type 0) (n i : ℕ) (c a b : List ServerState) → n ≡ length c + i → ChangesAt R i a b → ChangesAt R n (c ++ a) (c ++ b)
changes_behind R n i [] a b e h = let k : n ≡ i = omega (arith, e) in rw k h
changes_behind R n i (s ∷ ss) a b e h = let k : n ≡ suc (length ss + i) = omega (arith, e) in rw k (refl, changes_behind R (length ss + i) i ss a b refl h)

length_both : (a b : List ServerState) → length (a ++ b) ≡ length a + length b
length_both [] b = omega arith
length_both (s ∷ ss) b = let more : length (ss ++ b) ≡ length ss + length b = length_both ss b in omega (arith, more)

downs_both : (a b : List ServerState) → downs_of (a ++ b) ≡ downs_of a + downs_of b
downs_both [] b = omega arith
downs_both (s ∷ ss) b = let more : downs_of (ss ++ b) ≡ downs_of ss + downs_of b = downs_both ss b in omega (arith, more)

pub changes_set : (R : ServerState → ServerState → Type 0) (vs : List ServersView) (i inner n : ℕ) (v w : ServersView) → slice_get vs i ≡ Some v → n ≡ length (states_of (take i vs)) + inner → ChangesAt R inner v.states w.states → ChangesAt R n (states_of vs) (states_of (set vs i w))
changes_set R [] i inner n v w h e c = absurd (cc)
changes_set R (x ∷ vs) zero inner n v w h e c = let same : x ≡ v = cc in let k : n ≡ inner = omega (arith, e) in rw (k, same) (changes_before R inner v.states w.states (states_of vs) c)
changes_set R (x ∷ vs) (suc i) inner n v w h e c =
    let split : length (x.states ++ states_of (take i vs)) ≡ length x.states + length (states_of (take i vs)) = length_both x.states (states_of (take i vs)) in
    changes_behind R n (length (states_of (take i vs)) + inner) x.states (states_of vs) (states_of (set vs i w)) (omega (arith, e, split)) (changes_set R vs i inner (length (states_of (take i vs)) + inner) v w h refl c)

-- sums over the stripes, one after another
length_drop' : (vs : List ServersView) (i : ℕ) (v : ServersView) → slice_get vs i ≡ Some v → length (states_of (drop i vs)) ≡ length v.states + length (states_of (drop (suc i) vs))
length_drop' [] i v h = absurd (cc)
length_drop' (x ∷ vs) zero v h = let same : x ≡ v = cc in rw same (length_both v.states (states_of vs))
length_drop' (x ∷ vs) (suc i) v h = length_drop' vs i v h

downs_drop' : (vs : List ServersView) (i : ℕ) (v : ServersView) → slice_get vs i ≡ Some v → downs_of (states_of (drop i vs)) ≡ downs_of v.states + downs_of (states_of (drop (suc i) vs))
downs_drop' [] i v h = absurd (cc)
downs_drop' (x ∷ vs) zero v h = let same : x ≡ v = cc in rw same (downs_both v.states (states_of vs))
downs_drop' (x ∷ vs) (suc i) v h = downs_drop' vs i v h

length_take' : (vs : List ServersView) (i : ℕ) (v : ServersView) → slice_get vs i ≡ Some v → length (states_of (take (suc i) vs)) ≡ length (states_of (take i vs)) + length v.states
length_take' [] i v h = absurd (cc)
length_take' (x ∷ vs) zero v h = let same : x ≡ v = cc in let a = length_both v.states [] in rw same (omega (arith, a))
length_take' (x ∷ vs) (suc i) v h =
    let more : length (states_of (take (suc i) vs)) ≡ length (states_of (take i vs)) + length v.states = length_take' vs i v h in
    let a = length_both x.states (states_of (take (suc i) vs)) in
    let b = length_both x.states (states_of (take i vs)) in
    omega (arith, more, a, b)

none_left : (vs : List ServersView) (n : ℕ) → length vs ≤ n → states_of (drop n vs) ≡ []
none_left [] zero l = refl
none_left [] (suc n) l = refl
none_left (v ∷ vs) zero l = absurd (omega arith)
none_left (v ∷ vs) (suc n) l = none_left vs n (omega arith)

length_map : {A C : Type 0} (f : A → C) (xs : List A) → length (map f xs) ≡ length xs
length_map f [] = refl
length_map f (x ∷ xs) = ap suc (length_map f xs)

module _ {L : Type 0} (serving : L → ServersView) where
  pub serving_at : (xs : List L) (i : ℕ) (x : L) → i < length xs → x ≡ get_or xs i x → slice_get (map serving xs) i ≡ Some (serving x)
  serving_at xs i x l e = map_get serving xs i x (got_at xs i x l e)

  pub length_drop : (xs : List L) (i : ℕ) (x : L) → i < length xs → x ≡ get_or xs i x → length (states_of (drop i (map serving xs))) ≡ length (serving x).states + length (states_of (drop (i + 1) (map serving xs)))
  length_drop xs i x l e = let n : i + 1 ≡ suc i = omega arith in rw n (length_drop' (map serving xs) i (serving x) (serving_at xs i x l e))

  pub downs_drop : (xs : List L) (i : ℕ) (x : L) → i < length xs → x ≡ get_or xs i x → downs_of (states_of (drop i (map serving xs))) ≡ downs_of (serving x).states + downs_of (states_of (drop (i + 1) (map serving xs)))
  downs_drop xs i x l e = let n : i + 1 ≡ suc i = omega arith in rw n (downs_drop' (map serving xs) i (serving x) (serving_at xs i x l e))

  pub length_take : (xs : List L) (i : ℕ) (x : L) → i < length xs → x ≡ get_or xs i x → length (states_of (take (i + 1) (map serving xs))) ≡ length (states_of (take i (map serving xs))) + length (serving x).states
  length_take xs i x l e = let n : i + 1 ≡ suc i = omega arith in rw n (length_take' (map serving xs) i (serving x) (serving_at xs i x l e))

  pub states_end : (xs : List L) (n : ℕ) → length xs ≤ n → states_of (drop n (map serving xs)) ≡ []
  states_end xs n l = none_left (map serving xs) n (let e : length (map serving xs) ≡ length xs = length_map serving xs in omega (arith, e, l))

  -- a stripe whose servers are as they were
  pub kept_set : (xs : List L) (i : ℕ) (x y : L) → i < length xs → x ≡ get_or xs i x → serving y ≡ serving x → map serving (set xs i y) ≡ map serving xs
  kept_set xs i x y l e same = map_set serving xs i y ∙ ap (λ z. set (map serving xs) i z) same ∙ set_back (map serving xs) i (serving x) (serving_at xs i x l e)

  -- what carrying an operation of one stripe does to the servers of all
  pub carried_at : (xs : List L) (i t word : ℕ) (answer : LogletAnswer) (x y : L) → i < length xs → x ≡ get_or xs i x → (serving y ≡ serving x) ⊎ Serves (serving x) (Carry t word) answer (serving y) → CarriesAt (map serving xs) i t word answer (map serving (set xs i y))
  carried_at xs i t word answer x y l e (inl same) = inl (kept_set xs i x y l e same)
  carried_at xs i t word answer x y l e (inr h) = inr (record { before = serving x; after = serving y; is = serving_at xs i x l e; serves = h; rest = map_set serving xs i y })

-- the servers of these stripes, once the loglet was given this
abbrev pub served : List ServersView → Given → ServersView
served vs given = record { states = states_of vs; told = given.told; carries = given.carries; strays = given.strays }

pub same_served : (vs ws : List ServersView) (given : Given) → ws ≡ vs → served ws given ≡ served vs given
same_served vs ws given e = ap (λ (xs : List ServersView). served xs given) e

module _ (vs ws : List ServersView) (i : ℕ) (v w : ServersView) (at : slice_get vs i ≡ Some v) (rest : ws ≡ set vs i w) where
  worn : Wear v.states w.states → Wear (states_of vs) (states_of ws)
  worn k = subst (λ (xs : List ServersView). Wear (states_of vs) (states_of xs)) (sym rest) (each_wear (states_of vs) (states_of (set vs i w)) (each_set Wears wears_same vs i v w at (wear_each v.states w.states k)))

  taken : TakeSome v.states w.states → TakeSome (states_of vs) (states_of ws)
  taken k = subst (λ (xs : List ServersView). TakeSome (states_of vs) (states_of xs)) (sym rest) (each_take (states_of vs) (states_of (set vs i w)) (each_set TakesSome takes_same vs i v w at (take_each v.states w.states k)))

  unworn : w ≡ v → ws ≡ vs
  unworn e = rest ∙ ap (λ (x : ServersView). set vs i x) e ∙ set_back vs i v at

wear_length : (a b : List ServerState) → Wear a b → length b ≡ length a
wear_length a b h = each_length Wears wears_same a b (wear_each a b h)

take_length : (a b : List ServerState) → TakeSome a b → length b ≡ length a
take_length a b h = each_length TakesSome takes_same a b (take_each a b h)

same_states : (vs ws : List ServersView) → ws ≡ vs → length (states_of ws) ≡ length (states_of vs)
same_states vs ws e = ap (λ (xs : List ServersView). length (states_of xs)) e

-- what the loglet was given, once it was carried by this word
abbrev pub carried_by : ℕ → Given → Given
carried_by word given = record given { told = word; carries = bumped given.carries }

abbrev pub strayed_by : ℕ → Given → Given
strayed_by word given = record given { told = word; strays = bumped given.strays }

-- what the loglet was given after a carry with this answer
abbrev pub given_by : {A : Type 0} → ℕ → Result A Refused → Given → Given
given_by word (Ok u) given = carried_by word given
given_by word (Err refused) given = given

pub carry_served : {A : Type 0} (vs ws : List ServersView) (i t u word : ℕ) (given given' : Given) (r : Result A Refused) → given' ≡ given_by word r given → CarriesAt vs i t word (carry_answer r) ws → Serves (served vs given) (Carry u word) (carry_answer r) (served ws given')
carry_served vs ws i t u word given given' (Ok x) e (inl h) = rw e (subst (λ (xs : List ServersView). Wear (states_of vs) (states_of xs)) (sym h) (each_wear (states_of vs) (states_of vs) (each_same Wears wears_same (states_of vs))), refl)
carry_served vs ws i t u word given given' (Ok x) e (inr h) = rw e (worn vs ws i h.before h.after h.is h.rest h.serves.0, refl)
carry_served vs ws i t u word given given' (Err Memory) e (inl h) = rw e (subst (λ (xs : List ServersView). TakeSome (states_of vs) (states_of xs)) (sym h) (each_take (states_of vs) (states_of vs) (each_same TakesSome takes_same (states_of vs))), refl)
carry_served vs ws i t u word given given' (Err Memory) e (inr h) = rw e (taken vs ws i h.before h.after h.is h.rest h.serves.0, refl)
carry_served vs ws i t u word given given' (Err Full) e (inl h) = rw e (same_served vs ws given h)
carry_served vs ws i t u word given given' (Err Full) e (inr h) = rw e (same_served vs ws given (unworn vs ws i h.before h.after h.is h.rest h.serves))

pub carry_length : {A : Type 0} (vs ws : List ServersView) (i t word : ℕ) (r : Result A Refused) → CarriesAt vs i t word (carry_answer r) ws → length (states_of ws) ≡ length (states_of vs)
carry_length vs ws i t word r (inl e) = same_states vs ws e
carry_length vs ws i t word (Ok u) (inr h) = wear_length (states_of vs) (states_of ws) (worn vs ws i h.before h.after h.is h.rest h.serves.0)
carry_length vs ws i t word (Err Memory) (inr h) = take_length (states_of vs) (states_of ws) (taken vs ws i h.before h.after h.is h.rest h.serves.0)
carry_length vs ws i t word (Err Full) (inr h) = same_states vs ws (unworn vs ws i h.before h.after h.is h.rest h.serves)

-- .. and after a stray
abbrev pub stray_given : {A : Type 0} → ℕ → Result A Refused → Given → Given
stray_given word (Ok u) given = strayed_by word given
stray_given word (Err refused) given = given

module _ {L : Type 0} (serving : L → ServersView) where
  changed : (R : ServerState → ServerState → Type 0) (xs : List L) (i inner number : ℕ) (x y : L) → i < length xs → x ≡ get_or xs i x → number ≡ length (states_of (take i (map serving xs))) + inner → ChangesAt R inner (serving x).states (serving y).states
      → ChangesAt R number (states_of (map serving xs)) (states_of (map serving (set xs i y)))
  changed R xs i inner number x y l e n h =
      subst (λ (vs : List ServersView). ChangesAt R number (states_of (map serving xs)) (states_of vs)) (sym (map_set serving xs i y)) (changes_set R (map serving xs) i inner number (serving x) (serving y) (serving_at serving xs i x l e) n h)

  changed_length : (R : ServerState → ServerState → Type 0) (xs : List L) (i inner number : ℕ) (x y : L) → i < length xs → x ≡ get_or xs i x → number ≡ length (states_of (take i (map serving xs))) + inner → ChangesAt R inner (serving x).states (serving y).states
      → length (states_of (map serving (set xs i y))) ≡ length (states_of (map serving xs))
  changed_length R xs i inner number x y l e n h = changes_length R number (states_of (map serving xs)) (states_of (map serving (set xs i y))) (changed R xs i inner number x y l e n h)

  pub stop_served : (xs : List L) (i inner number after : ℕ) (given : Given) (x y : L) → i < length xs → x ≡ get_or xs i x → number ≡ length (states_of (take i (map serving xs))) + inner → Serves (serving x) (Stop inner after) Stopped (serving y)
      → Serves (served (map serving xs) given) (Stop number after) Stopped (served (map serving (set xs i y)) given)
  stop_served xs i inner number after given x y l e n h = (changed (IsArmed after) xs i inner number x y l e n h.0, refl)

  pub stop_length : (xs : List L) (i inner number after : ℕ) (x y : L) → i < length xs → x ≡ get_or xs i x → number ≡ length (states_of (take i (map serving xs))) + inner → Serves (serving x) (Stop inner after) Stopped (serving y)
      → length (states_of (map serving (set xs i y))) ≡ length (states_of (map serving xs))
  stop_length xs i inner number after x y l e n h = changed_length (IsArmed after) xs i inner number x y l e n h.0

  pub restart_served : (xs : List L) (i inner number word : ℕ) (given : Given) (r : Result Bool Refused) (x y : L) → i < length xs → x ≡ get_or xs i x → number ≡ length (states_of (take i (map serving xs))) + inner → Serves (serving x) (Restart inner word) (restart_answer r) (serving y)
      → Serves (served (map serving xs) given) (Restart number word) (restart_answer r) (served (map serving (set xs i y)) given)
  restart_served xs i inner number word given (Ok up) x y l e n h = (changed (RestartsTo word up) xs i inner number x y l e n h.0, refl)
  restart_served xs i inner number word given (Err Memory) x y l e n h = (changed (MayReopen word) xs i inner number x y l e n h.0, refl)
  restart_served xs i inner number word given (Err Full) x y l e n h = same_served (map serving xs) (map serving (set xs i y)) given (kept_set serving xs i x y l e h)

  pub restart_length : (xs : List L) (i inner number word : ℕ) (r : Result Bool Refused) (x y : L) → i < length xs → x ≡ get_or xs i x → number ≡ length (states_of (take i (map serving xs))) + inner → Serves (serving x) (Restart inner word) (restart_answer r) (serving y)
      → length (states_of (map serving (set xs i y))) ≡ length (states_of (map serving xs))
  restart_length xs i inner number word (Ok up) x y l e n h = changed_length (RestartsTo word up) xs i inner number x y l e n h.0
  restart_length xs i inner number word (Err Memory) x y l e n h = changed_length (MayReopen word) xs i inner number x y l e n h.0
  restart_length xs i inner number word (Err Full) x y l e n h = same_states (map serving xs) (map serving (set xs i y)) (kept_set serving xs i x y l e h)

  pub stray_served : {A : Type 0} (xs : List L) (i inner word : ℕ) (given given' : Given) (r : Result A Refused) (x y : L) → given' ≡ stray_given word r given → i < length xs → x ≡ get_or xs i x → Serves (serving x) (Stray inner) (stray_answer r) (serving y)
      → Serves (served (map serving xs) given) (Stray word) (stray_answer r) (served (map serving (set xs i y)) given')
  stray_served xs i inner word given given' (Ok u) x y same l e h = rw same (worn (map serving xs) (map serving (set xs i y)) i (serving x) (serving y) (serving_at serving xs i x l e) (map_set serving xs i y) h.0, refl)
  stray_served xs i inner word given given' (Err Memory) x y same l e h = rw same (taken (map serving xs) (map serving (set xs i y)) i (serving x) (serving y) (serving_at serving xs i x l e) (map_set serving xs i y) h.0, refl)
  stray_served xs i inner word given given' (Err Full) x y same l e h = rw same (same_served (map serving xs) (map serving (set xs i y)) given (kept_set serving xs i x y l e h))

  pub stray_length : {A : Type 0} (xs : List L) (i inner word : ℕ) (r : Result A Refused) (x y : L) → i < length xs → x ≡ get_or xs i x → Serves (serving x) (Stray inner) (stray_answer r) (serving y) → length (states_of (map serving (set xs i y))) ≡ length (states_of (map serving xs))
  stray_length xs i inner word (Ok u) x y l e h = wear_length (states_of (map serving xs)) (states_of (map serving (set xs i y))) (worn (map serving xs) (map serving (set xs i y)) i (serving x) (serving y) (serving_at serving xs i x l e) (map_set serving xs i y) h.0)
  stray_length xs i inner word (Err Memory) x y l e h = take_length (states_of (map serving xs)) (states_of (map serving (set xs i y))) (taken (map serving xs) (map serving (set xs i y)) i (serving x) (serving y) (serving_at serving xs i x l e) (map_set serving xs i y) h.0)
  stray_length xs i inner word (Err Full) x y l e h = same_states (map serving xs) (map serving (set xs i y)) (kept_set serving xs i x y l e h)
