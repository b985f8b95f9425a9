-- Cells in stripes, as a kind of cells over a kind of cells.
use Rattle.std.specs.Prelude.{◌≡◌, ℕ, zero, suc, ◌+◌, ◌*◌, ◌/◌, ◌%◌, ◌^◌, ◌-◌, ◌<◌, ◌≤◌, ◌==◌, ◌&&◌, ◌||◌, min, max, Bool, true, false, if◌then◌else◌, List, [], ◌∷◌, ◌++◌, length, map, set, replicate, slice_get, Option, None, Some, is_some}
use Rattle.delos_types.specs.declared.entry.Entry.{Entry}
use Rattle.loglet_api.specs.declared.call.Op.{Op}
use Rattle.loglet_api.specs.declared.call.Op.TheVariants.{Append}
use Rattle.loglet_api.specs.declared.call.Answer.{Answer}
use Rattle.loglet_api.specs.declared.call.Answer.TheVariants.{Beyond}
use Rattle.loglet_api.specs.declared.call.Kind.{Kind}
use Rattle.loglet_api.specs.declared.call.Kind.TheVariants.{Striped as StripedKind}
use Rattle.loglet_api.specs.View.{LogletView, IsFresh}
use Rattle.loglet_api.specs.Step.{task_of, cut_by, seals_of, wanted_by, told_reach, told_firm, told_cap, told_lacks}
use Rattle.quorum_cell.specs.Cells.{Cell}
use Rattle.striped_loglet.specs.declared.marks.Marks.{Marks}
use Rattle.striped_loglet.specs.declared.shape.Shape.{Shape}
use Rattle.striped_loglet.specs.declared.stripe.Inner.{Inner}
use Rattle.striped_loglet.specs.Plans.{added_by, first_plan, target_of, asked_of, plan_behind, heard_by}
use Rattle.striped_loglet.specs.Shapes.{kind_of_two}
use Rattle.striped_loglet.specs.Views.{listed}
use Rattle.striped_loglet.specs.State.{State, left_of, loglet_of, faults_of, down_of}
use Rattle.striped_loglet.specs.Going.{IsStriped}
use Rattle.striped_cells.specs.declared.motion.Motion.{Motion}
use Rattle.striped_cells.specs.declared.motion.Motion.TheVariants.{Servers, Ask, Hear}
use Rattle.striped_cells.specs.Pursuits.{Pursuit, open_at, plain_at, is_waiting, is_unspoken, heard_so, answer_at}
use Rattle.striped_cells.specs.Ways.{Ways, IsKind}

-- Of m stripes, position p is index p / m of stripe p % m.
pub record Striped (C : Type 0) : Type 0 where
  -- the numbers that never change
  pub shape : Shape
  pub stripes : List C
  -- what it told and counted
  pub marks : Marks
  -- by ticket
  pub operations : List Pursuit

---- the entries of the stripes, in turn

-- the entry at an index of a stripe
abbrev pub index_of : Option (List Entry) → ℕ → Option Entry
index_of None index = None
index_of (Some entries) index = slice_get entries index

-- the entry at a position
abbrev pub position_of : List (List Entry) → ℕ → Option Entry
position_of stripes p = index_of (slice_get stripes (p % length stripes)) (p / length stripes)

-- the entries at so many positions
abbrev pub woven : List (List Entry) → ℕ → List Entry
woven stripes zero = []
woven stripes (suc n) = woven stripes n ++ listed (position_of stripes n)

---- numbers

abbrev pub no_marks : Marks
no_marks = record { size = 0; cut = 0; reach = 0; firm = 0; cap = None; begun = 0; seals = 0; lacks = 0; refusals = 0 }

abbrev pub refused_marks : Marks → Marks
refused_marks m = record m { refusals = min (m.refusals + 1) (2 ^ 64 - 1) }

abbrev pub begun_marks : Marks → Op → Marks
begun_marks m op = record m { size = m.size + added_by op; cut = cut_by op m.cut m.reach; begun = m.begun + 1; seals = m.seals + seals_of op }

-- they stay numbers of words as an operation begins
abbrev pub AreSmall : Marks → Type 0
AreSmall m = (m.size + 1 < 2 ^ 64) × (m.begun + 1 < 2 ^ 64) × (m.seals + 1 < 2 ^ 64)

-- an answer counts from when it is given, to an operation that speaks of this length
abbrev pub told_marks : Marks → Answer → ℕ → Marks
told_marks m answer length = record m { reach = max m.reach (told_reach length answer); firm = max m.firm (told_firm length answer); cap = told_cap answer m.cap; lacks = m.lacks + told_lacks answer }

-- two striped cells make a nested one
abbrev pub kind_like : ℕ → Kind → Kind
kind_like count kind = if count == 2 then kind_of_two kind kind else StripedKind count

-- the numbers of a cell of so many stripes that show this
abbrev pub shape_like : ℕ → LogletView → Shape
shape_like count v = record { kind = kind_like count v.kind; servers = count * v.servers; room = count * v.room; turn = v.rounds + 2; rounds = (3 * count + 1) * (v.rounds + 2); limit = v.limit / 4 }

abbrev pub is_append : Op → Bool
is_append (Append e) = true
is_append op = false

-- a count in a word of 64 bits, which stands still at its end
abbrev pub most_count : ℕ → ℕ
most_count n = min n (2 ^ 64 - 1)

module _ {C : Type 0} (k : Ways C) where
  -- all of these cells are lawful
  abbrev pub AllLawful : List C → Type 0
  AllLawful stripes = (i : ℕ) (x : C) → slice_get stripes i ≡ Some x → k.is_lawful x

  abbrev pub shut_of : C → Bool
  shut_of x = (k.view x).shut

  ---- what a cell in stripes shows

  -- as plain values that a striped loglet has
  abbrev pub state_of : Striped C → State
  state_of c = record { views = map k.view c.stripes; shape = c.shape; marks = c.marks; at = plain_at c.operations }

  -- every stripe is lawful, and all are as those of a striped loglet
  pub record IsLawfulStriped (c : Striped C) : Type 0 where
    pub kind : IsKind k
    pub stripes : AllLawful c.stripes
    pub striped : IsStriped (state_of c)
    pub tickets : length c.operations ≡ c.marks.begun

  ---- an operation begins

  -- what is noted of an operation that a stripe begins
  abbrev pub inner_of : ℕ → C → Op → Inner
  inner_of stripe x op =
      let left = k.left (k.begin x op) (k.view x).begun in
      record { stripe = stripe; ticket = (k.view x).begun; rounds = left.0; steps = left.1 }

  abbrev pub pursuit_of : Striped C → Op → Option Inner → Pursuit
  pursuit_of c op inner = record {
    asked = record { task = task_of op; size = c.marks.size; reach = c.marks.reach; firm = c.marks.firm; faults = faults_of (state_of c); down = down_of (state_of c) };
    sealed_before = map shut_of c.stripes;
    plan = first_plan (task_of op);
    inner = inner;
    answer = None;
    closed = false;
  }

  abbrev pub admitted : Striped C → Op → List C → Option Inner → Striped C
  admitted c op stripes inner = record c { stripes = stripes; marks = begun_marks c.marks op; operations = c.operations ++ pursuit_of c op inner ∷ [] }

  -- an Append begins on the stripe that has the next position
  abbrev pub appended : Striped C → Op → ℕ → Option C → Striped C
  appended c op i None = c
  appended c op i (Some x) = admitted c op (set c.stripes i (k.begin x op)) (Some (inner_of i x op))

  -- all else begins nothing yet
  abbrev pub admit : Striped C → Op → Striped C
  admit c (Append e) = let i = c.marks.size % length c.stripes in appended c (Append e) i (slice_get c.stripes i)
  admit c op = admitted c op c.stripes None

  abbrev pub is_full : Striped C → Op → Bool
  is_full c op = (is_append op && (c.marks.size == c.shape.room)) || (c.marks.begun == c.shape.limit)

  abbrev pub begin : Striped C → Op → Striped C
  begin c op = if is_full c op then record c { marks = refused_marks c.marks } else admit c op

  ---- it goes round the stripes

  abbrev pub put_operation : Striped C → ℕ → Pursuit → Striped C
  put_operation c t p = record c { operations = set c.operations t p }

  abbrev pub asked_on : Striped C → ℕ → Pursuit → ℕ → Option C → Striped C
  asked_on c t p i None = c
  asked_on c t p i (Some x) =
      let op = asked_of p.asked.task p.asked.size p.plan.stage c.marks.cut i (length c.stripes) in
      record c {
        stripes = set c.stripes i (k.begin x op);
        operations = set c.operations t (record p { plan = plan_behind p.asked.task (length c.stripes) p.plan; inner = Some (inner_of i x op); answer = None });
      }

  -- it asks the next stripe
  abbrev pub asked : Striped C → ℕ → Pursuit → Striped C
  asked c t p =
      if is_unspoken p.asked.task p.asked.firm
      then put_operation c t (record p { inner = None; answer = Some (Beyond p.asked.firm) })
      else let i = target_of p.asked.task (length c.stripes) p.plan in asked_on c t p i (slice_get c.stripes i)

  abbrev pub asks : Striped C → ℕ → Option Pursuit → Striped C
  asks c t None = c
  asks c t (Some p) = if is_waiting p then asked c t p else c

  abbrev pub heard : Striped C → ℕ → Pursuit → Inner → C → Option Answer → Striped C
  heard c t p inner x None = c
  heard c t p inner x (Some answer) = record c {
    stripes = set c.stripes inner.stripe (k.take x inner.ticket);
    operations = set c.operations t (heard_so p (heard_by p.asked.task p.asked.size p.plan inner.stripe (length c.stripes) answer));
  }

  abbrev pub heard_on : Striped C → ℕ → Pursuit → Inner → Option C → Striped C
  heard_on c t p inner None = c
  heard_on c t p inner (Some x) = heard c t p inner x (k.answer x inner.ticket)

  abbrev pub heard_from : Striped C → ℕ → Pursuit → Option Inner → Striped C
  heard_from c t p None = c
  heard_from c t p (Some inner) = heard_on c t p inner (slice_get c.stripes inner.stripe)

  -- it hears what its stripe's operation came to
  abbrev pub hears : Striped C → ℕ → Option Pursuit → Striped C
  hears c t None = c
  hears c t (Some p) = if is_some p.answer then c else heard_from c t p p.inner

  ---- its client is told, or it is forgotten

  abbrev pub answer : Striped C → ℕ → Option Answer
  answer c t = answer_at c.marks.cut (open_at c.operations t)

  abbrev pub given : Striped C → ℕ → Pursuit → Option Answer → Striped C
  given c t p None = c
  given c t p (Some answer) = record c {
    marks = told_marks c.marks answer (wanted_by p.asked.task p.asked.size);
    operations = set c.operations t (record p { closed = true });
  }

  abbrev pub takes : Striped C → ℕ → Option Pursuit → Striped C
  takes c t None = c
  takes c t (Some p) = given c t p (answer_at c.marks.cut (Some p))

  -- what a stripe is doing for it is forgotten too
  abbrev pub dropped_on : Striped C → Inner → Option C → List C
  dropped_on c inner None = c.stripes
  dropped_on c inner (Some x) = set c.stripes inner.stripe (k.forget x inner.ticket)

  abbrev pub dropped : Striped C → Option Inner → List C
  dropped c None = c.stripes
  dropped c (Some inner) = dropped_on c inner (slice_get c.stripes inner.stripe)

  abbrev pub forgets : Striped C → ℕ → Option Pursuit → Striped C
  forgets c t None = c
  forgets c t (Some p) = record c { stripes = dropped c p.inner; operations = set c.operations t (record p { closed = true }) }

  ---- what is left, and what is nobody's call

  abbrev pub left_at : Striped C → Option Pursuit → ℕ × ℕ
  left_at c None = (0, 0)
  left_at c (Some p) = left_of c.shape.turn (length c.stripes) p.plan p.inner p.answer

  abbrev pub stirred : Striped C → ℕ → List ℕ → Motion → Option C → Striped C
  stirred c i path m None = c
  stirred c i path m (Some x) = record c { stripes = set c.stripes i (k.stir x path m) }

  abbrev pub stir : Striped C → List ℕ → Motion → Striped C
  stir c [] (Ask t) = asks c t (open_at c.operations t)
  stir c [] (Hear t) = hears c t (open_at c.operations t)
  stir c [] (Servers step) = c
  stir c (i ∷ path) m = stirred c i path m (slice_get c.stripes i)

  abbrev pub quorum_in : Option C → List ℕ → Option Cell
  quorum_in None path = None
  quorum_in (Some x) path = k.quorum_at x path

  abbrev pub quorum_at : Striped C → List ℕ → Option Cell
  quorum_at c [] = None
  quorum_at c (i ∷ path) = quorum_in (slice_get c.stripes i) path

  ---- the kind

  abbrev pub striped_ways : Ways (Striped C)
  striped_ways = record {
    view = λ c. loglet_of (state_of c);
    entries = λ c. woven (map k.entries c.stripes) c.marks.size;
    is_lawful = IsLawfulStriped;
    is_full = is_full;
    begin = begin;
    left = λ c t. left_at c (open_at c.operations t);
    answer = answer;
    take = λ c t. takes c t (open_at c.operations t);
    is_open = λ c t. is_some (open_at c.operations t);
    forget = λ c t. forgets c t (open_at c.operations t);
    stir = stir;
    quorum_at = quorum_at;
  }

  -- a cell of so many stripes, each like this one
  abbrev pub stripes_like : ℕ → C → Striped C
  stripes_like count x = record { shape = shape_like count (k.view x); stripes = replicate count x; marks = no_marks; operations = [] }

  -- such a cell may be made
  pub record MayStripe (m : ℕ) (x : C) : Type 0 where
    pub kind : IsKind k
    pub lawful : k.is_lawful x
    pub fresh : IsFresh (k.view x)
    pub count : (2 ≤ m) × (m ≤ 8)
    pub servers : m * (k.view x).servers ≤ 64
    pub rounds : (k.view x).rounds ≤ 2 ^ 24
    pub room : m * (k.view x).room ≤ 2 ^ 32
