-- What the calls and answers of a loglet tell of it. All of it is a function of the calls and answers, so a journal
-- tells it too. What the loglet chooses (when it is sealed, its faults, how far an operation is) isn't here.
use Rattle.std.specs.Prelude.{◌≡◌, ℕ, ◌+◌, ◌-◌, ◌<◌, ◌≤◌, min, max, Bool, true, false, ◌==◌, if◌then◌else◌, List, [], ◌++◌, length, drop, slice_get, Option, Some, None}
use Rattle.delos_types.specs.declared.entry.Entry.{Entry}
use Rattle.loglet_api.specs.declared.call.Op.{Op}
use Rattle.loglet_api.specs.declared.call.Op.TheVariants.{Append, Settle, Tail, Seal, Read, Trim}
use Rattle.loglet_api.specs.declared.call.Answer.{Answer}
use Rattle.loglet_api.specs.declared.call.Answer.TheVariants.{Placed, Settled, OpenTail, SealedTail, SealDone, Got, CutAt, Beyond, TrimDone, Sealed, NoQuorum}
use Rattle.loglet_api.specs.Step.{entries_of, cut_by, seals_of, task_of, wanted_by, told_reach, told_firm, told_cap, told_lacks}

-- an operation that was begun and isn't answered, with what had been told as it began
pub record Running : Type 0 where
  pub op : Op
  pub size : ℕ
  pub reach : ℕ
  pub firm : ℕ
  pub sealed : Bool

pub record Told : Type 0 where
  -- the entries from the cut on
  pub cut : ℕ
  pub log : List Entry
  pub reach : ℕ
  pub cap : Option ℕ
  pub firm : ℕ
  -- an answer told that it takes no more entries
  pub sealed : Bool
  -- how many operations were begun, how many of them are Seals, and how many answers were NoQuorum
  pub begun : ℕ
  pub seals : ℕ
  pub lacks : ℕ
  -- the open operations, by ticket
  pub ops : ℕ → Option Running

-- x at i, and as before elsewhere
abbrev pub put : {A : Type 0} → (ℕ → A) → ℕ → A → ℕ → A
put f i x j = if j == i then x else f j

abbrev pub untold : Told
untold = record {
  cut = 0;
  log = [];
  reach = 0;
  cap = None;
  firm = 0;
  sealed = false;
  begun = 0;
  seals = 0;
  lacks = 0;
  ops = λ _. None;
}

-- the length of the log, trimmed positions included
abbrev pub size_of : Told → ℕ
size_of c = c.cut + length c.log

abbrev pub started : Told → Op → Running
started c op = record { op = op; size = size_of c; reach = c.reach; firm = c.firm; sealed = c.sealed }

-- the cut once the operation is begun
abbrev pub cut_begun : Told → Op → ℕ
cut_begun c op = cut_by op c.cut c.reach

-- after `begin` gave this ticket
abbrev pub begun : Told → Op → ℕ → Told
begun c op t = record {
  cut = cut_begun c op;
  log = drop (cut_begun c op - c.cut) c.log ++ entries_of op;
  reach = c.reach;
  cap = c.cap;
  firm = c.firm;
  sealed = c.sealed;
  begun = c.begun + 1;
  seals = c.seals + seals_of op;
  lacks = c.lacks;
  ops = put c.ops t (Some (started c op));
}

-- the length that an Append or a Settle speaks of
abbrev pub wanted : Running → ℕ
wanted r = wanted_by (task_of r.op) r.size

abbrev pub told_sealed : Bool → Answer → Bool
told_sealed b (SealedTail t) = true
told_sealed b SealDone = true
told_sealed b Sealed = true
told_sealed b answer = b

-- after `take` gave this answer of the operation
abbrev pub answered : Told → ℕ → Running → Answer → Told
answered c t r a = record {
  cut = c.cut;
  log = c.log;
  reach = max c.reach (told_reach (wanted r) a);
  cap = told_cap a c.cap;
  firm = max c.firm (told_firm (wanted r) a);
  sealed = told_sealed c.sealed a;
  begun = c.begun;
  seals = c.seals;
  lacks = c.lacks + told_lacks a;
  ops = put c.ops t None;
}

-- after the operation was closed without its answer
abbrev pub forgotten : Told → ℕ → Told
forgotten c t = record {
  cut = c.cut;
  log = c.log;
  reach = c.reach;
  cap = c.cap;
  firm = c.firm;
  sealed = c.sealed;
  begun = c.begun;
  seals = c.seals;
  lacks = c.lacks;
  ops = put c.ops t None;
}

-- at most the cap, where there is one
abbrev pub IsWithin : ℕ → Option ℕ → Type 0
IsWithin n None = Unit {0}
IsWithin n (Some c) = n ≤ c

-- Length n may be told to be there for good: to an operation that was begun before any answer told the loglet sealed,
-- and above neither the cap nor the log.
pub record MayReach (c : Told) (r : Running) (n : ℕ) : Type 0 where
  pub unsealed : r.sealed ≡ false
  pub capped : IsWithin n c.cap
  pub exists : n ≤ size_of c

-- Length n may be told to be a sealed tail: where a Seal was begun, and below nothing that was answered.
pub record MayEnd (c : Told) (n : ℕ) : Type 0 where
  pub asked : 0 < c.seals
  pub reached : c.reach ≤ n
  pub exists : n ≤ size_of c

-- what may be answered to an operation, as far as calls and answers tell
abbrev pub MayAnswer : Told → Running → Op → Answer → Type 0
MayAnswer c r (Append e) (Placed p) = (p ≡ r.size) × MayReach c r (p + 1)
MayAnswer c r (Append e) Sealed = 0 < c.seals
MayAnswer c r (Settle n) Settled = MayReach c r (min n r.size)
MayAnswer c r (Settle n) Sealed = 0 < c.seals
MayAnswer c r Tail (OpenTail t) = (r.reach ≤ t) × MayReach c r t
MayAnswer c r Tail (SealedTail t) = MayEnd c t
MayAnswer c r Seal SealDone = 0 < c.seals
MayAnswer c r (Read p) (Got e) = (c.cut ≤ p) × (p < r.firm) × (slice_get c.log (p - c.cut) ≡ Some e)
MayAnswer c r (Read p) (CutAt n) = (p < c.cut) × (n ≡ c.cut)
MayAnswer c r (Read p) (Beyond n) = (c.cut ≤ p) × (r.firm ≤ p) × (n ≡ r.firm)
MayAnswer c r (Read p) (NoQuorum u) = (c.cut ≤ p) × (p < r.firm) × (0 < u)
MayAnswer c r (Trim n) TrimDone = Unit {0}
MayAnswer c r op (NoQuorum u) = 0 < u
MayAnswer c r op a = ⊥
