-- What holds of a cell after any allowed moves, and how a move changes it.
use Rattle.std.proofs.Common.{◌≡◌, ◌≢◌, ◌⊎◌, inl, inr, ℕ, ◌+◌, ◌-◌, ◌<◌, ◌≤◌, ◌^◌, min, max, List, [], ◌∷◌, ◌++◌, length, drop, Option, Some, None, Bool, true, false, cond, refl, sym, ap, ◌∙◌, subst, ⊎_elim, arith}
use Rattle.std.specs.Prelude.{slice_get, ◌==◌, Contains}
use Rattle.std.proofs.lemmas.Bool.Decides.{nat_tests}
use Rattle.std.proofs.lemmas.List.{drop-drop, drop-append-le, length-drop, length-append}
use Rattle.std.proofs.lemmas.List.Elements.{Contains-append_left, Contains-push_cases}
use Rattle.delos_types.specs.declared.entry.Entry.{Entry}
use Rattle.loglet_api.specs.declared.call.Op.{Op}
use Rattle.loglet_api.specs.declared.call.Op.TheVariants.{Append, Settle, Tail, Seal, Read, Trim}
use Rattle.loglet_api.specs.declared.call.Answer.{Answer}
use Rattle.loglet_api.specs.declared.call.Answer.TheVariants.{Placed, Settled, OpenTail, SealedTail, SealDone, Got, CutAt, Beyond, TrimDone, Sealed, NoQuorum}
use Rattle.loglet_api.specs.Step.{entries_of, cut_by, task_of, wanted_by, told_cap}
use Rattle.legal_journal.specs.Told.{Told, Running, put, answered, size_of, started, cut_begun, MayAnswer, IsWithin, MayReach, MayEnd}
use Rattle.legal_journal.specs.Moves.{Begins, Answers, Drops}
use Rattle.legal_journal.specs.Journal.{CellState, cell_after, ends_told, answered_by, HasRoom, fresh_cell}
use Rattle.legal_journal.specs.Laws.{Goes}
use Rattle.legal_journal.proofs.Log.{slice_get_front}

by_test : (P : Type 0) (b : Bool) → (b ≡ true → P) → (b ≡ false → P) → P
by_test P true h k = h refl
by_test P false h k = k refl

-- a value put at i is there, and the others stay
pub put_cases : {A : Type 0} (P : A → Type 0) (f : ℕ → A) (i : ℕ) (x : A) (j : ℕ) → (j ≡ i → P x) → (j ≢ i → P (f j)) → P (put f i x j)
put_cases P f i x j h k =
    by_test _ (j == i)
    (λ t. let same : j ≡ i = grind (arith, nat_tests) in subst (λ b. P (cond b x (f j))) (sym t) (h same))
    (λ t. let apart : j ≢ i = grind (arith, nat_tests) in subst (λ b. P (cond b x (f j))) (sym t) (k apart))

pub put_same : {A : Type 0} (f : ℕ → A) (i : ℕ) (x : A) → put f i x i ≡ x
put_same f i x = put_cases (λ y. y ≡ x) f i x i (λ _. refl) (λ k. absurd (k refl))

pub put_other : {A : Type 0} (f : ℕ → A) (i : ℕ) (x : A) (j : ℕ) → j ≢ i → put f i x j ≡ f j
put_other f i x j k = put_cases (λ y. y ≡ f j) f i x j (λ e. absurd (k e)) (λ _. refl)

-- what holds of the open operation of a ticket
pub record OpOk (c : Told) (es : List Entry) (t : ℕ) (r : Running) : Type 0 where
  pub ticket : t < c.begun
  pub size : r.size ≤ length es
  pub reach : r.reach ≤ c.reach
  pub firm : r.firm ≤ c.firm
  pub place : (e : Entry) → r.op ≡ Append e → slice_get es r.size ≡ Some e

-- what holds of a cell
pub record CellOk (c : CellState) : Type 0 where
  pub size : c.told.cut + length c.told.log ≡ length c.entries
  pub log : c.told.log ≡ drop c.told.cut c.entries
  pub cut : c.told.cut ≤ c.told.reach
  pub reach : c.told.reach ≤ c.told.firm
  pub firm : c.told.firm ≤ length c.entries
  pub room : length c.entries ≤ 2 ^ 32
  pub cap : (k : ℕ) → c.told.cap ≡ Some k → (c.told.reach ≤ k) × (c.told.sealed ≡ true)
  pub ends : (t : ℕ) → Contains c.ends t → (k : ℕ) × (c.told.cap ≡ Some k) × (k ≤ t) × (t ≤ c.told.firm)
  pub seals : c.told.sealed ≡ true → 0 < c.told.seals
  pub ops : (t : ℕ) (r : Running) → c.told.ops t ≡ Some r → OpOk c.told c.entries t r

pub fresh_ok : CellOk fresh_cell
fresh_ok = record {
  size = refl;
  log = refl;
  cut = omega arith;
  reach = omega arith;
  firm = omega arith;
  room = omega arith;
  cap = λ k e. absurd (cc);
  ends = λ t h. absurd (omega (arith, h.1));
  seals = λ e. absurd (cc);
  ops = λ t r e. absurd (cc);
}

-- A begin.

cut_from : (op : Op) (cut reach : ℕ) → cut ≤ reach → (cut ≤ cut_by op cut reach) × (cut_by op cut reach ≤ reach)
cut_from (Trim n) cut reach h = (omega arith, omega arith)
cut_from (Append e) cut reach h = (omega arith, h)
cut_from (Settle n) cut reach h = (omega arith, h)
cut_from Tail cut reach h = (omega arith, h)
cut_from Seal cut reach h = (omega arith, h)
cut_from (Read p) cut reach h = (omega arith, h)

room_for : (c : Told) (op : Op) (n : ℕ) → size_of c ≡ n → n ≤ 2 ^ 32 → HasRoom c op → n + length (entries_of op) ≤ 2 ^ 32
room_for c (Append e) n s h r = omega arith
room_for c (Settle k) n s h r = omega arith
room_for c Tail n s h r = omega arith
room_for c Seal n s h r = omega arith
room_for c (Read p) n s h r = omega arith
room_for c (Trim k) n s h r = omega arith

slice_get_end : (xs : List Entry) (e : Entry) (n : ℕ) → n ≡ length xs → slice_get (xs ++ e ∷ []) n ≡ Some e
slice_get_end xs e n h = subst (λ k. slice_get (xs ++ e ∷ []) k ≡ Some e) (sym h) (at_end xs)
  where
    at_end : (ys : List Entry) → slice_get (ys ++ e ∷ []) (length ys) ≡ Some e
    at_end [] = refl
    at_end (y ∷ ys) = at_end ys

append_nil : (xs : List Entry) → xs ≡ xs ++ []
append_nil [] = refl
append_nil (x ∷ xs) = ap (λ l. x ∷ l) (append_nil xs)

seals_grow : (a b : ℕ) → 0 < a → 0 < a + b
seals_grow a b h = omega arith

module _ (who : ℕ) (c : CellState) (op : Op) (t : ℕ) (ok : CellOk c) (room : HasRoom c.told op) (ticket : t ≡ c.told.begun) where
  begun_op : (u : ℕ) (r : Running) → put c.told.ops t (Some (started c.told op)) u ≡ Some r → OpOk (cell_after who c (Begins op t)).told (c.entries ++ entries_of op) u r
  begun_op u r =
      put_cases (λ o. o ≡ Some r → OpOk (cell_after who c (Begins op t)).told (c.entries ++ entries_of op) u r) c.told.ops t (Some (started c.told op)) u
      (λ at e. let same : started c.told op ≡ r = cc in subst (OpOk (cell_after who c (Begins op t)).told (c.entries ++ entries_of op) u) same (record {
        ticket = omega arith;
        size = omega (arith, ok.size, length-append c.entries (entries_of op));
        reach = omega arith;
        firm = omega arith;
        place = λ x h. let at_end = slice_get_end c.entries x (size_of c.told) ok.size in subst (λ o. slice_get (c.entries ++ entries_of o) (size_of c.told) ≡ Some x) (sym h) at_end;
      }))
      (λ _ e. let was = ok.ops u r e in record {
        ticket = omega (arith, was.ticket);
        size = omega (arith, was.size, length-append c.entries (entries_of op));
        reach = was.reach;
        firm = was.firm;
        place = λ x h. slice_get_front c.entries (entries_of op) r.size x (was.place x h);
      })

  pub begins_ok : CellOk (cell_after who c (Begins op t)) × Goes c (cell_after who c (Begins op t))
  begins_ok =
      let cut = cut_begun c.told op in
      let bounds = cut_from op c.told.cut c.told.reach ok.cut in
      let step = cut - c.told.cut in
      let at : c.told.cut + step ≡ cut = omega (arith, bounds.0) in
      let low : cut ≤ length c.entries = omega (arith, bounds.1, ok.reach, ok.firm) in
      let more = entries_of op in (
        record {
          size = omega (arith, ok.size, low, at, length-append (drop step c.told.log) more, length-drop step c.told.log, length-append c.entries more);
          log = ap (λ l. l ++ more) (ap (drop step) ok.log ∙ (drop-drop step c.told.cut c.entries ∙ ap (λ k. drop k c.entries) at)) ∙ sym (drop-append-le cut c.entries more low);
          cut = bounds.1;
          reach = ok.reach;
          firm = omega (arith, ok.firm, length-append c.entries more);
          room = omega (arith, room_for c.told op (length c.entries) ok.size ok.room room, length-append c.entries more);
          cap = ok.cap;
          ends = ok.ends;
          seals = λ h. seals_grow _ _ (ok.seals h);
          ops = begun_op;
        },
        record {
          reach = omega arith;
          firm = omega arith;
          begun = omega arith;
          longer = (more, refl);
          ends = λ u h. h;
          sealed = λ h. h;
          owner = λ u h. put_other c.owner t who u (λ e. absurd (omega arith));
        },
      )

-- A ticket that closes, and an answer.

closes : (c : Told) (es : List Entry) (t u : ℕ) (r : Running) (d : Told) → ((v : ℕ) (q : Running) → c.ops v ≡ Some q → OpOk c es v q) → c.begun ≤ d.begun → c.reach ≤ d.reach → c.firm ≤ d.firm → put c.ops t None u ≡ Some r → OpOk d es u r
closes c es t u r d ok hb hr hf =
    put_cases (λ o. o ≡ Some r → OpOk d es u r) c.ops t None u
    (λ _ e. absurd (cc))
    (λ _ e. let was = ok u r e in record { ticket = omega (arith, was.ticket); size = was.size; reach = omega (arith, was.reach); firm = omega (arith, was.firm); place = was.place })

pub drops_ok : (who : ℕ) (c : CellState) (t : ℕ) → CellOk c → CellOk (cell_after who c (Drops t)) × Goes c (cell_after who c (Drops t))
drops_ok who c t ok = (
  record {
    size = ok.size;
    log = ok.log;
    cut = ok.cut;
    reach = ok.reach;
    firm = ok.firm;
    room = ok.room;
    cap = ok.cap;
    ends = ok.ends;
    seals = ok.seals;
    ops = λ u r e. closes c.told c.entries t u r _ ok.ops (omega arith) (omega arith) (omega arith) e;
  },
  record { reach = omega arith; firm = omega arith; begun = omega arith; longer = ([], append_nil c.entries); ends = λ u h. h; sealed = λ h. h; owner = λ u h. refl },
)

-- an answer that tells length n and is no sealed tail
plain_ok : (c : CellState) (t n lacks : ℕ) (sealed : Bool) (new : CellState) → CellOk c → n ≤ size_of c.told → ((k : ℕ) → c.told.cap ≡ Some k → n ≤ k) → (c.told.sealed ≡ true → sealed ≡ true) → (sealed ≡ true → 0 < c.told.seals) → new ≡ record {
  told = record { cut = c.told.cut; log = c.told.log; reach = max c.told.reach n; cap = c.told.cap; firm = max c.told.firm n; sealed = sealed; begun = c.told.begun; seals = c.told.seals; lacks = lacks; ops = put c.told.ops t None };
  entries = c.entries;
  ends = c.ends;
  owner = c.owner;
  carried = c.carried;
} → CellOk new × Goes c new
plain_ok c t n lacks sealed new ok small capped keeps seals is =
    subst (λ x. CellOk x × Goes c x) (sym is) (
      record {
        size = ok.size;
        log = ok.log;
        cut = omega (arith, ok.cut);
        reach = omega (arith, ok.reach);
        firm = omega (arith, ok.firm, ok.size);
        room = ok.room;
        cap = λ k e. (omega (arith, (ok.cap k e).0, capped k e), keeps (ok.cap k e).1);
        ends = λ u h. let w = ok.ends u h in (w.0, w.1, w.2, omega (arith, w.3));
        seals = seals;
        ops = λ u r e. closes c.told c.entries t u r _ ok.ops (omega arith) (omega arith) (omega arith) e;
      },
      record { reach = omega arith; firm = omega arith; begun = omega arith; longer = ([], append_nil c.entries); ends = λ u h. h; sealed = keeps; owner = λ u h. refl },
    )

within_is : (n k : ℕ) (o : Option ℕ) → IsWithin n o → o ≡ Some k → n ≤ k
within_is n k None h e = absurd (cc)
within_is n k (Some m) h e = let same : m ≡ k = cc in omega arith

least_is : (o : Option ℕ) (t k : ℕ) → told_cap (SealedTail t) o ≡ Some k → (k ≤ t) × ((o ≡ None) × (k ≡ t) ⊎ ((m : ℕ) × (o ≡ Some m) × (k ≡ min m t)))
least_is None t k e = let same : t ≡ k = cc in (omega arith, inl (refl, sym same))
least_is (Some m) t k e = let same : min m t ≡ k = cc in (omega arith, inr (m, refl, sym same))

least_some : (o : Option ℕ) (t : ℕ) → (k : ℕ) × (told_cap (SealedTail t) o ≡ Some k) × (k ≤ t)
least_some None t = (t, refl, omega arith)
least_some (Some m) t = (min m t, refl, omega arith)

least_of : (o : Option ℕ) (t m : ℕ) → o ≡ Some m → told_cap (SealedTail t) o ≡ Some (min m t)
least_of o t m e = ap (λ x. told_cap (SealedTail t) x) e

-- a sealed tail
ended_ok : (c : CellState) (t n lacks : ℕ) (new : CellState) → CellOk c → MayEnd c.told n → new ≡ record {
  told = record { cut = c.told.cut; log = c.told.log; reach = max c.told.reach 0; cap = told_cap (SealedTail n) c.told.cap; firm = max c.told.firm n; sealed = true; begun = c.told.begun; seals = c.told.seals; lacks = lacks; ops = put c.told.ops t None };
  entries = c.entries;
  ends = c.ends ++ n ∷ [];
  owner = c.owner;
  carried = c.carried;
} → CellOk new × Goes c new
ended_ok c t n lacks new ok e is =
    subst (λ x. CellOk x × Goes c x) (sym is) (
      record {
        size = ok.size;
        log = ok.log;
        cut = omega (arith, ok.cut);
        reach = omega (arith, ok.reach);
        firm = omega (arith, ok.firm, ok.size, e.exists);
        room = ok.room;
        cap = λ k h. (at_cap k (least_is c.told.cap n k h), refl);
        ends = λ u h. ⊎_elim
            (λ (w : Contains c.ends u). let old = ok.ends u w in (min old.0 n, least_of c.told.cap n old.0 old.1, omega (arith, old.2), omega (arith, old.3)))
            (λ (w : n ≡ u). let s = least_some c.told.cap n in (s.0, s.1, omega (arith, s.2), omega arith))
            (Contains-push_cases c.ends n u h);
        seals = λ _. e.asked;
        ops = λ u q h. closes c.told c.entries t u q _ ok.ops (omega arith) (omega arith) (omega arith) h;
      },
      record { reach = omega arith; firm = omega arith; begun = omega arith; longer = ([], append_nil c.entries); ends = λ u h. Contains-append_left c.ends (n ∷ []) u h; sealed = λ _. refl; owner = λ u h. refl },
    )
  where
    at_cap : (k : ℕ) → (k ≤ n) × ((c.told.cap ≡ None) × (k ≡ n) ⊎ ((m : ℕ) × (c.told.cap ≡ Some m) × (k ≡ min m n))) → max c.told.reach 0 ≤ k
    at_cap k h = ⊎_elim
        (λ (w : (c.told.cap ≡ None) × (k ≡ n)). omega (arith, e.reached))
        (λ (w : (m : ℕ) × (c.told.cap ≡ Some m) × (k ≡ min m n)). omega (arith, e.reached, (ok.cap w.0 w.1).0, w.2))
        h.1

-- the cell after an answer of this operation
abbrev pub told_by : CellState → ℕ → Running → Answer → CellState
told_by c t r a = record { told = answered c.told t r a; entries = c.entries; ends = ends_told c.ends a; owner = c.owner; carried = c.carried }

reaches_ok : (c : CellState) (t n lacks : ℕ) (r : Running) (new : CellState) → CellOk c → MayReach c.told r n → new ≡ record {
  told = record { cut = c.told.cut; log = c.told.log; reach = max c.told.reach n; cap = c.told.cap; firm = max c.told.firm n; sealed = c.told.sealed; begun = c.told.begun; seals = c.told.seals; lacks = lacks; ops = put c.told.ops t None };
  entries = c.entries;
  ends = c.ends;
  owner = c.owner;
  carried = c.carried;
} → CellOk new × Goes c new
reaches_ok c t n lacks r new ok h is = plain_ok c t n lacks c.told.sealed new ok h.exists (λ k e. within_is n k c.told.cap h.capped e) (λ x. x) ok.seals is

-- an answer that tells of no length
silent_ok : (c : CellState) (t lacks : ℕ) (new : CellState) → CellOk c → new ≡ record {
  told = record { cut = c.told.cut; log = c.told.log; reach = max c.told.reach 0; cap = c.told.cap; firm = max c.told.firm 0; sealed = c.told.sealed; begun = c.told.begun; seals = c.told.seals; lacks = lacks; ops = put c.told.ops t None };
  entries = c.entries;
  ends = c.ends;
  owner = c.owner;
  carried = c.carried;
} → CellOk new × Goes c new
silent_ok c t lacks new ok is = plain_ok c t 0 lacks c.told.sealed new ok (omega arith) (λ k e. omega arith) (λ x. x) ok.seals is

sealed_ok : (c : CellState) (t lacks : ℕ) (new : CellState) → CellOk c → 0 < c.told.seals → new ≡ record {
  told = record { cut = c.told.cut; log = c.told.log; reach = max c.told.reach 0; cap = c.told.cap; firm = max c.told.firm 0; sealed = true; begun = c.told.begun; seals = c.told.seals; lacks = lacks; ops = put c.told.ops t None };
  entries = c.entries;
  ends = c.ends;
  owner = c.owner;
  carried = c.carried;
} → CellOk new × Goes c new
sealed_ok c t lacks new ok h is = plain_ok c t 0 lacks true new ok (omega arith) (λ k e. omega arith) (λ _. refl) (λ _. h) is

told_ok : (c : CellState) (t : ℕ) (r : Running) (op : Op) (a : Answer) → CellOk c → r.op ≡ op → MayAnswer c.told r op a → CellOk (told_by c t r a) × Goes c (told_by c t r a)
told_ok c t r (Append e) (Placed p) ok is h = reaches_ok c t (p + 1) (c.told.lacks + 0) r _ ok h.1 refl
told_ok c t r (Append e) Sealed ok is h = sealed_ok c t (c.told.lacks + 0) _ ok h refl
told_ok c t r (Settle n) Settled ok is h = reaches_ok c t (wanted_by (task_of r.op) r.size) (c.told.lacks + 0) r _ ok (subst (λ o. MayReach c.told r (wanted_by (task_of o) r.size)) (sym is) h) refl
told_ok c t r (Settle n) Sealed ok is h = sealed_ok c t (c.told.lacks + 0) _ ok h refl
told_ok c t r Tail (OpenTail n) ok is h = reaches_ok c t n (c.told.lacks + 0) r _ ok h.1 refl
told_ok c t r Tail (SealedTail n) ok is h = ended_ok c t n (c.told.lacks + 0) _ ok h refl
told_ok c t r Seal SealDone ok is h = sealed_ok c t (c.told.lacks + 0) _ ok h refl
told_ok c t r (Read p) (Got e) ok is h = silent_ok c t (c.told.lacks + 0) _ ok refl
told_ok c t r (Read p) (CutAt n) ok is h = silent_ok c t (c.told.lacks + 0) _ ok refl
told_ok c t r (Read p) (Beyond n) ok is h = silent_ok c t (c.told.lacks + 0) _ ok refl
told_ok c t r (Trim n) TrimDone ok is h = silent_ok c t (c.told.lacks + 0) _ ok refl
told_ok c t r op (NoQuorum u) ok is h = silent_ok c t (c.told.lacks + 1) _ ok refl
told_ok c t r op a ok is h = absurd h

pub answers_ok : (who : ℕ) (c : CellState) (t : ℕ) (a : Answer) (r : Running) → CellOk c → c.told.ops t ≡ Some r → MayAnswer c.told r r.op a → CellOk (cell_after who c (Answers t a)) × Goes c (cell_after who c (Answers t a))
answers_ok who c t a r ok is h =
    let P : Option Running → Type 0 = λ o. CellOk (record { told = answered_by c.told t a o; entries = c.entries; ends = ends_told c.ends a; owner = c.owner; carried = c.carried }) × Goes c (record { told = answered_by c.told t a o; entries = c.entries; ends = ends_told c.ends a; owner = c.owner; carried = c.carried }) in
    subst P (sym is) (told_ok c t r r.op a ok refl h)
