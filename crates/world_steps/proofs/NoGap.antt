-- Where nobody trims more than the log has, the whole log has no gap.
use Rattle.std.proofs.Common.{◌≡◌, ℕ, zero, suc, ◌+◌, ◌-◌, ◌<◌, ◌≤◌, Bool, true, false, refl, sym, ◌∙◌, subst, arith, List, [], ◌∷◌, ◌++◌, length, get_or, Option, Some, None, IsSome}
use Rattle.std.specs.Prelude.{not, ◌&&◌, ◌==◌, nat_lt, if◌then◌else◌, slice_get, All}
use Rattle.std.proofs.lemmas.Bool.Decides.{nat_tests}
use Rattle.std.proofs.lemmas.List.Elements.{All-nil, All-cons}
use Rattle.std.proofs.lemmas.Option.{none-some, same_Some}
use Rattle.delos_types.specs.declared.entry.Entry.{Entry}
use Rattle.delos_types.specs.declared.chain.Chain.{Chain}
use Rattle.chain_map.specs.Chain.{first_chain}
use Rattle.loglet_api.specs.declared.call.Op.{Op}
use Rattle.loglet_api.specs.declared.call.Op.TheVariants.{Append, Settle, Tail, Seal, Read, Trim}
use Rattle.world_steps.specs.declared.shape.Shape.{Shape}
use Rattle.world_steps.specs.declared.step.ChainChange.{ChainChange}
use Rattle.world_steps.specs.declared.step.ChainChange.TheVariants.{Extend, Raise}
use Rattle.world_steps.specs.declared.step.WorldStep.{WorldStep}
use Rattle.world_steps.specs.declared.step.WorldStep.TheVariants as step
use Rattle.world_steps.specs.Parts.{Register, World, node_at, of_version, given_under, last_given, fresh}
use Rattle.world_steps.specs.Guards.{changed, may_follow}
use Rattle.world_steps.specs.Logs.{trim_of, tail_of, shown_in, whole_log}
use Rattle.world_steps.specs.Steps.{Deed, deed, done, gave, replaced, torn_by, mended, writes, stops_writing, world_step, run_world}
use Rattle.world_steps.specs.Laws.{WorldLaw, IsLet, KeepsTo, AllKeepTo, BringsSpelled, IsShelf, any_append, any_trim}
use Rattle.world_steps.proofs.Kept.{Goes}
use Rattle.world_steps.proofs.Stepped.{step_goes}
use Rattle.world_steps.proofs.Fresh.{fresh_law, reached}
use Rattle.world_steps.proofs.LogLaws.{some_at, continues}
use Rattle.world_steps.proofs.WholeLog.{front_ends, was, whole_full}

---- the chains that a register knows of

-- each chain that it gave, or that may stand, has this
record AllHave (P : Chain → Type 0) (r : Register) : Type 0 where
  pub given : (v : ℕ) (c : Chain) → given_under r v ≡ Some c → P c
  pub chain : P r.chain
  pub torn : (c : Chain) → r.torn ≡ Some c → P c

in_push : (P : Chain → Type 0) (xs : List Chain) (c : Chain) → P c → ((k : ℕ) (d : Chain) → slice_get xs k ≡ Some d → P d) → (k : ℕ) (d : Chain) → slice_get (xs ++ c ∷ []) k ≡ Some d → P d
in_push P [] c new old zero d h = subst P (same_Some c d h) new
in_push P [] c new old (suc k) d h = absurd (none-some d h)
in_push P (x ∷ xs) c new old zero d h = old 0 d h
in_push P (x ∷ xs) c new old (suc k) d h = in_push P xs c new (λ j. old (suc j)) k d h

in_given : (P : Chain → Type 0) (r : Register) (c : Chain) → P c → AllHave P r → (v : ℕ) (d : Chain) → of_version (r.given ++ c ∷ []) v ≡ Some d → P d
in_given P r c new h zero d e = absurd (none-some d e)
in_given P r c new h (suc k) d e = in_push P r.given c new (λ j. h.given (suc j)) k d e

gave_have : (P : Chain → Type 0) (r : Register) → AllHave P r → AllHave P (gave r)
gave_have P r h = by (r.version == length r.given)
  where
    by : (b : Bool) → AllHave P (if b then r else record r { given = r.given ++ r.chain ∷ [] })
    by true = h
    by false = record { given = in_given P r r.chain h.chain h; chain = h.chain; torn = h.torn }

replaced_have : (P : Chain → Type 0) (r : Register) (c : Chain) → P c → AllHave P r → AllHave P (replaced r c)
replaced_have P r c new h = record { given = in_given P r c new h; chain = new; torn = h.torn }

torn_have : (P : Chain → Type 0) (r : Register) (c : Chain) → P c → AllHave P r → AllHave P (torn_by r c)
torn_have P r c new h = record { given = h.given; chain = h.chain; torn = λ d e. subst P (same_Some c d e) new }

mended_have : (P : Chain → Type 0) (r : Register) (kept : Bool) (o : Option Chain) → r.torn ≡ o → AllHave P r → AllHave P (mended r kept o)
mended_have P r kept None e h = record { given = h.given; chain = h.chain; torn = λ d z. absurd (none-some d z) }
mended_have P r true (Some c) e h = record { given = h.given; chain = h.torn c e; torn = λ d z. absurd (none-some d z) }
mended_have P r false (Some c) e h = record { given = h.given; chain = h.chain; torn = λ d z. absurd (none-some d z) }

have_if : (P : Chain → Type 0) (b : Bool) (x y : World) → AllHave P x.register → AllHave P y.register → AllHave P (if b then x else y).register
have_if P true x y h k = h
have_if P false x y h k = k

done_have : (P : Chain → Type 0) (w : World) (o : Option Deed) → AllHave P w.register → AllHave P (done w o).register
done_have P w None h = h
done_have P w (Some d) h = h

-- a chain that is asked for has it
abbrev AsksWell : (Chain → Type 0) → World → WorldStep → Type 0
AsksWell P w (step.WriteChain who x change) = (c : Chain) → given_under w.register x ≡ Some c → P (changed c change)
AsksWell P w (step.WriteStops who x change) = (c : Chain) → given_under w.register x ≡ Some c → P (changed c change)
AsksWell P w s = Unit {0}

writes_have : (P : Chain → Type 0) (w : World) (who x : ℕ) (change : ChainChange) (o : Option Chain) → ((c : Chain) → o ≡ Some c → P (changed c change)) → AllHave P w.register → AllHave P (writes w who x change o).register
writes_have P w who x change None asks h = h
writes_have P w who x change (Some c) asks h =
    have_if P (may_follow w c change) _ w
    (have_if P (not w.register.up) _ _ h
    (have_if P (not (x == w.register.version)) _ _ (gave_have P w.register h) (replaced_have P w.register (changed c change) (asks c refl) h))) h

stops_have : (P : Chain → Type 0) (w : World) (who x : ℕ) (change : ChainChange) (o : Option Chain) → ((c : Chain) → o ≡ Some c → P (changed c change)) → AllHave P w.register → AllHave P (stops_writing w who x change o).register
stops_have P w who x change None asks h = h
stops_have P w who x change (Some c) asks h =
    have_if P ((w.register.up && (x == w.register.version)) && may_follow w c change) _ w (torn_have P w.register (changed c change) (asks c refl) h) h

step_have : (P : Chain → Type 0) (w : World) (s : WorldStep) → AsksWell P w s → AllHave P w.register → AllHave P (world_step w s).register
step_have P w (step.Inside i path m) asks h = done_have P w _ h
step_have P w (step.Begin who i op) asks h = done_have P w _ h
step_have P w (step.Take who i t) asks h = done_have P w _ h
step_have P w (step.Forget who i t) asks h = done_have P w _ h
step_have P w (step.ReadChain who) asks h = have_if P w.register.up _ _ (gave_have P w.register h) h
step_have P w (step.WriteChain who x change) asks h = writes_have P w who x change (given_under w.register x) asks h
step_have P w (step.WriteStops who x change) asks h = stops_have P w who x change (given_under w.register x) asks h
step_have P w (step.MendRegister who kept) asks h = have_if P w.register.up w _ h (mended_have P w.register kept w.register.torn refl h)
step_have P w (step.MendFails who) asks h = have_if P w.register.up w _ h h
step_have P w (step.Apply k) asks h = have_if P (node_at w.nodes k).up _ w h h
step_have P w (step.StopNode k) asks h = have_if P (node_at w.nodes k).up _ w h h
step_have P w (step.RestartNode k kept) asks h = have_if P (node_at w.nodes k).up w _ h h

---- their trims are below what was shown

-- something is shown at each position below the chain's trim, or was
abbrev IsShownTo : (ℕ → Option Entry) → Chain → Type 0
IsShownTo shown c = (pos : ℕ) → pos < c.trim → IsSome (shown pos)

some_later : (a b : Option Entry) → ((e : Entry) → a ≡ Some e → b ≡ Some e) → IsSome a → IsSome b
some_later None b later h = absurd (cc)
some_later (Some e) b later h = subst (λ (o : Option Entry). IsSome o) (sym (later e refl)) h

module _ (may : ℕ → Entry → Type 0) (floor : List Entry → ℕ → Type 0) (within : (log : List Entry) (n : ℕ) → floor log n → n ≤ length log) where
  let_shown : (w : World) (old : Chain) (change : ChainChange) → IsLet floor w change → IsShownTo (shown_in w) old → IsShownTo (shown_in w) (changed old change)
  let_shown w old (Extend t) free h pos low = h pos low
  let_shown w old (Raise n) free h pos low =
      let x = some_at free.log pos (omega (arith, low, within free.log n free.free)) in
      subst (λ (o : Option Entry). IsSome o) (sym (free.shows pos (omega (arith, low, within free.log n free.free)) ∙ x.1)) refl

  module _ (w : World) (s : WorldStep) (law : WorldLaw may floor w) (keeps : KeepsTo may floor w s) (h : AllHave (IsShownTo (shown_in w)) w.register) where
    goes : Goes may floor w (world_step w s)
    goes = step_goes may floor w s law keeps

    later : (c : Chain) → IsShownTo (shown_in w) c → IsShownTo (shown_in (world_step w s)) c
    later c k pos low = some_later (shown_in w pos) (shown_in (world_step w s) pos) (λ e is. (continues may floor w law (world_step w s) goes).shown pos e is) (k pos low)

    asks_well : (t : WorldStep) → KeepsTo may floor w t → AsksWell (IsShownTo (shown_in (world_step w s))) w t
    asks_well (step.WriteChain who x change) k = λ c e. later (changed c change) (let_shown w c change k (h.given x c e))
    asks_well (step.WriteStops who x change) k = λ c e. later (changed c change) (let_shown w c change k (h.given x c e))
    asks_well t k = tt

    stays_full : AllHave (IsShownTo (shown_in (world_step w s))) (world_step w s).register
    stays_full = step_have (IsShownTo (shown_in (world_step w s))) w s (asks_well s keeps) (record {
      given = λ v c e. later c (h.given v c e);
      chain = later w.register.chain h.chain;
      torn = λ c e. later c (h.torn c e);
    })

  all_full : (steps : List WorldStep) (w : World) → WorldLaw may floor w → AllKeepTo may floor w steps → AllHave (IsShownTo (shown_in w)) w.register → AllHave (IsShownTo (shown_in (run_world steps w))) (run_world steps w).register
  all_full [] w law keeps h = h
  all_full (s ∷ steps) w law keeps h = all_full steps (world_step w s) (goes w s law keeps.0 h).law keeps.1 (stays_full w s law keeps.0 h)

  begun_full : (shapes : List Shape) (nodes : ℕ) → AllHave (IsShownTo (shown_in (fresh shapes nodes))) (fresh shapes nodes).register
  begun_full shapes nodes = record {
    given = λ v c e. first v c e;
    chain = λ pos low. absurd (omega (arith, low));
    torn = λ c e. absurd (none-some c e);
  }
    where
      first : (v : ℕ) (c : Chain) → of_version (first_chain ∷ []) v ≡ Some c → IsShownTo (shown_in (fresh shapes nodes)) c
      first zero c e = absurd (none-some c e)
      first (suc zero) c e = subst (IsShownTo (shown_in (fresh shapes nodes))) (same_Some first_chain c e) (λ pos low. absurd (omega (arith, low)))
      first (suc (suc v)) c e = absurd (none-some c e)

  ---- what keeps to these rules brings what is spelled

  op_spelled : (w : World) (who i : ℕ) (op : Op) → KeepsTo may floor w (step.Begin who i op) → BringsSpelled (step.Begin who i op)
  op_spelled w who i (Append e) k = k.0
  op_spelled w who i (Settle n) k = tt
  op_spelled w who i Tail k = tt
  op_spelled w who i Seal k = tt
  op_spelled w who i (Read p) k = tt
  op_spelled w who i (Trim n) k = tt

  step_spelled : (w : World) (s : WorldStep) → KeepsTo may floor w s → BringsSpelled s
  step_spelled w (step.Begin who i op) k = op_spelled w who i op k
  step_spelled w s k = tt

  all_brought : (steps : List WorldStep) (w : World) → AllKeepTo may floor w steps → All BringsSpelled steps
  all_brought [] w k = All-nil BringsSpelled
  all_brought (s ∷ steps) w k = All-cons BringsSpelled s steps (step_spelled w s k.0) (all_brought steps (world_step w s) k.1)

  -- the last of them, if there is one, has it
  last_has : (P : Chain → Type 0) (xs : List Chain) (k : ℕ) (d : Chain) → P d → ((j : ℕ) (c : Chain) → slice_get xs j ≡ Some c → P c) → P (get_or xs k d)
  last_has P [] k d h all = h
  last_has P (x ∷ xs) zero d h all = all 0 x refl
  last_has P (x ∷ xs) (suc k) d h all = last_has P xs k d h (λ j. all (suc j))

  pub no_gap : (shapes : List Shape) (nodes : ℕ) (steps : List WorldStep) → IsShelf shapes → AllKeepTo may floor (fresh shapes nodes) steps → let w = run_world steps (fresh shapes nodes) in length (whole_log w) ≡ tail_of w
  no_gap shapes nodes steps shelf keeps = whole_full w law (trim_low (nat_lt (length (whole_log w)) (trim_of w)) refl)
    where
      w : World
      w = run_world steps (fresh shapes nodes)

      brings : All BringsSpelled steps
      brings = all_brought steps (fresh shapes nodes) keeps

      law : WorldLaw any_append any_trim w
      law = reached shapes nodes steps shelf brings

      full : AllHave (IsShownTo (shown_in w)) w.register
      full = all_full steps (fresh shapes nodes) (fresh_law may floor shapes nodes shelf) keeps (begun_full shapes nodes)

      shown_to : (pos : ℕ) → pos < trim_of w → IsSome (shown_in w pos)
      shown_to = last_has (IsShownTo (shown_in w)) w.register.given (length w.register.given - 1) first_chain (λ pos low. absurd (omega (arith, low))) (λ j. full.given (suc j))

      shown_low : (pos : ℕ) (o : Option Entry) → shown_in w pos ≡ o → IsSome o → pos < tail_of w
      shown_low pos None e h = absurd (cc)
      shown_low pos (Some x) e h = (was shapes nodes steps shelf brings pos x e).low

      ends_not : (o : Option Entry) → o ≡ None → IsSome o → ⊥
      ends_not None e h = absurd (cc)
      ends_not (Some x) e h = absurd (none-some x (sym e))

      trim_low : (b : Bool) → nat_lt (length (whole_log w)) (trim_of w) ≡ b → trim_of w ≤ length (whole_log w)
      trim_low true t =
          let n = length (whole_log w) in
          let up : n < trim_of w = grind (arith, nat_tests) in
          let has = shown_to n up in
          let low : n < tail_of w = shown_low n (shown_in w n) refl has in
          let at : 0 + n ≡ n = omega arith in
          absurd (ends_not (shown_in w n) (subst (λ p. shown_in w p ≡ None) at (front_ends (shown_in w) 0 (tail_of w) low)) has)
      trim_low false t = grind (arith, nat_tests)
