-- What stands and what the records spell stay together, and what a crash leaves of them.
use Rattle.std.proofs.Common.{◌≡◌, ℕ, ◌+◌, ◌<◌, ◌≤◌, inl, inr, Bool, true, false, cond, eqb, ltb, List, [], ◌∷◌, ◌++◌, length, take, drop, slice_index_or, Option, Some, None, Result, Ok, Err, refl, sym, ap, subst, ◌∙◌, arith, Vec, Global}
use Rattle.std.specs.Prelude.{option_map, nat_lt, if◌then◌else◌, IfOk}
use Rattle.std.specs.declared.alloc.AllocError.{AllocError}
use Rattle.std.specs.Option.{ForSome}
use Rattle.std.specs.Result.{result_ok}
use Rattle.std.proofs.lemmas.Bool.{le-ltb, lt-ltb, ltb-true, cases_eq, eq-eqb, ne_eqb}
use Rattle.std.proofs.lemmas.Bool.Decides.{nat_tests}
use Rattle.std.proofs.lemmas.List.{length-append, take_more}
use Rattle.std.proofs.lemmas.List.Sums.{fold-append}
use Rattle.std.proofs.Math.Seq.{take-append_seam, drop-append_seam}
use Rattle.delos_types.specs.Numbers.{u64_bytes, u64_of}
use Rattle.delos_types.proofs.NumberLaws.{length-u64_bytes, u64_of-u64_bytes}
use Rattle.delos_types.specs.declared.chain.Chain.{Chain}
use Rattle.chain_map.specs.declared.fault.BadChain.{BadChain}
use Rattle.chain_map.specs.Chain.{IsChain}
use Rattle.chain_map.specs.Reading.{chain_read}
use Rattle.chain_map.proofs.Spellings.{chain_again}
use Rattle.disk_model.specs.Disk.{DiskView, reads}
use Rattle.disk_model.specs.Disk as disk
use Rattle.disk_model.specs.Crash.{AnyCrash}
use Rattle.disk_model.specs.CrashLaws.{stays, weaker}
use Rattle.journal_core.specs.Records.{payloads}
use Rattle.journal_core.proofs.Reading.{now_has}
use Rattle.journal_pair.specs.Records.{records_of}
use Rattle.kept_value.specs.View as value
use Rattle.kept_value.specs.Keeping as keeping
use Rattle.kept_value.proofs.Laws.{kept_left}
use Rattle.register_api.specs.View.{RegisterView, IsSound, IsFresh, bumped}
use Rattle.register_api.specs.Calls as calls
use Rattle.meta_register.specs.declared.counts.Counts.{Counts}
use Rattle.meta_register.specs.declared.standing.Standing.{Standing}
use Rattle.meta_register.specs.Records.{SpellsStanding, standing_in, follows, standing_next, standing_after, standing_of, first_standing, IsFirstBad}
use Rattle.meta_register.specs.View.{View, MayFind, MayFindDuring, Survives, counted, standing_in_view, most_records, CountsWrites}
use Rattle.meta_register.specs.Keeping.{given_of, view_of, advanced, standing_kind, IsWhole, IsOlder, IsKept, older_after}

-- ---- what is spelled is read

pub standing_again : (bytes : List ℕ) (s : Standing) → SpellsStanding bytes s → standing_in bytes ≡ Some s
unfolding standing_in
standing_again bytes s spelled =
    let text = u64_bytes s.version ++ spelled.rest in
    let long : 8 ≤ length text = omega (arith, length-append (u64_bytes s.version) spelled.rest, length-u64_bytes s.version) in
    let test : ltb (length text) 8 ≡ false = le-ltb _ _ long in
    let front : take 8 text ≡ u64_bytes s.version = ap (λ n. take n text) (sym (length-u64_bytes s.version)) ∙ take-append_seam (u64_bytes s.version) spelled.rest in
    let back : drop 8 text ≡ spelled.rest = ap (λ n. drop n text) (sym (length-u64_bytes s.version)) ∙ drop-append_seam (u64_bytes s.version) spelled.rest in
    let value : u64_of (take 8 text) ≡ s.version = ap u64_of front ∙ u64_of-u64_bytes s.version spelled.version in
    let chain : chain_read (drop 8 text) ≡ Ok s.chain = ap chain_read back ∙ chain_again spelled.rest s.chain spelled.chain in
    ap standing_in spelled.is
    ∙ ap (λ t. cond t None (option_map (λ c. record { version = u64_of (take 8 text); chain = c }) (result_ok (chain_read (drop 8 text))))) test
    ∙ ap (λ n. option_map (λ c. record { version = n; chain = c }) (result_ok (chain_read (drop 8 text)))) value
    ∙ ap (λ (r : Result Chain BadChain). option_map (λ c. record { version = s.version; chain = c }) (result_ok r)) chain

same_eqb : (n : ℕ) → eqb n n ≡ true
same_eqb n = grind (arith, nat_tests)

next_follows : (s : Standing) (chain : Chain) → follows s (advanced s chain) ≡ true
next_follows s chain = elim (cases_eq s.version 1) [
  | inl is ↦ ap (λ b. cond b (ltb 1 (s.version + 1)) (eqb (s.version + 1) (s.version + 1))) (eq-eqb s.version 1 is) ∙ lt-ltb 1 (s.version + 1) (omega (arith, is))
  | inr isnt ↦ ap (λ b. cond b (ltb 1 (s.version + 1)) (eqb (s.version + 1) (s.version + 1))) (ne_eqb s.version 1 isnt) ∙ same_eqb (s.version + 1)
]

-- the record of the next write is the next
pub record_follows : (s : Standing) (chain : Chain) (bytes : List ℕ) → SpellsStanding bytes (advanced s chain) → standing_after (Some s) bytes ≡ Some (advanced s chain)
record_follows s chain bytes spelled =
    ap (standing_next s) (standing_again bytes (advanced s chain) spelled) ∙ ap (λ t. cond t (Some (advanced s chain)) None) (next_follows s chain)

pub standing_of-more : (records : List (List ℕ)) (bytes : List ℕ) → standing_of (records ++ bytes ∷ []) ≡ standing_after (standing_of records) bytes
standing_of-more records bytes = fold-append standing_after (Some first_standing) records (bytes ∷ [])

-- ---- a standing as a value that is kept

pub spells_next : (s : Standing) (chain : Chain) (bytes : List ℕ) → SpellsStanding bytes (advanced s chain) → (records : List (List ℕ)) → standing_of records ≡ Some s → standing_of (records ++ bytes ∷ []) ≡ Some (advanced s chain)
spells_next s chain bytes text records spelled = standing_of-more records bytes ∙ ap (λ (o : Option Standing). standing_after o bytes) spelled ∙ record_follows s chain bytes text

pub ok_weaker : {T E : Type 0} (r : Result T E) (P Q : T → Type 0) → ((x : T) → P x → Q x) → IfOk r P → IfOk r Q
ok_weaker (Ok x) P Q weaker h = weaker x h
ok_weaker (Err e) P Q weaker h = h

-- the last record alone
pub spells_alone : (s : Standing) (chain : Chain) (bytes : List ℕ) → SpellsStanding bytes (advanced s chain) → 1 ≤ s.version → standing_of (bytes ∷ []) ≡ Some (advanced s chain)
spells_alone s chain bytes text least =
    ap (standing_next first_standing) (standing_again bytes (advanced s chain) text) ∙ ap (λ t. cond t (Some (advanced s chain)) None) (lt-ltb 1 (s.version + 1) (omega (arith, least)))

-- the records that it is compacted to
pub one_payload : (none all : List (Vec ℕ Global)) (last : Vec ℕ Global) → none ≡ [] → all ≡ none ++ last ∷ [] → payloads all ≡ last.items ∷ []
one_payload none all last empty is = ap payloads (is ∙ ap (λ (vs : List (Vec ℕ Global)). vs ++ last ∷ []) empty)

-- a record more, that is none of a register's, doesn't follow, or follows
pub took_none : (s : Standing) (bytes : List ℕ) (records : List (List ℕ)) → standing_of records ≡ Some s → standing_in bytes ≡ None → standing_of (records ++ bytes ∷ []) ≡ None
took_none s bytes records spelled none = standing_of-more records bytes ∙ ap (λ (o : Option Standing). standing_after o bytes) spelled ∙ ap (standing_next s) none

pub took_other : (s next : Standing) (bytes : List ℕ) (records : List (List ℕ)) (test : Bool) → standing_of records ≡ Some s → standing_in bytes ≡ Some next → follows s next ≡ test → standing_of (records ++ bytes ∷ []) ≡ cond test (Some next) None
took_other s next bytes records test spelled read is =
    standing_of-more records bytes ∙ ap (λ (o : Option Standing). standing_after o bytes) spelled ∙ ap (standing_next s) read ∙ ap (λ t. cond t (Some next) None) is

pub taken_whole : (s next : Standing) → IsWhole s → IsChain next.chain → follows s next ≡ true → IsWhole next
taken_whole s next whole joined fine = record {
  least = elim (cases_eq s.version 1) [
    | inl is ↦ omega (arith, ltb-true 1 next.version (sym (ap (λ b. cond b (ltb 1 next.version) (eqb next.version (s.version + 1))) (eq-eqb s.version 1 is)) ∙ fine))
    | inr isnt ↦ omega (arith, eqb_same next.version (s.version + 1) (sym (ap (λ b. cond b (ltb 1 next.version) (eqb next.version (s.version + 1))) (ne_eqb s.version 1 isnt)) ∙ fine))
  ];
  joined = joined;
}
  where
    eqb_same : (a b : ℕ) → eqb a b ≡ true → a ≡ b
    eqb_same a b e = grind (arith, nat_tests, e)

-- the first bad record
pub bad_of : (records : List (List ℕ)) (index : ℕ) → value.IsFirstBad standing_kind records index → IsFirstBad records index
bad_of records index bad = record {
  within = bad.within;
  before = bad.before;
  good = bad.good;
  bad = ap (λ (o : Option Standing). standing_after o (slice_index_or records index [])) (sym bad.good)
      ∙ sym (standing_of-more (take index records) (slice_index_or records index [])) ∙ ap standing_of (sym (take_more records index [] bad.within)) ∙ bad.bad;
}

-- ---- what a reopening may find

pub shows_by : (v : RegisterView) (asked : Option Chain) (done : Bool) → value.reopened_by standing_kind (standing_in_view v) asked done ≡ standing_in_view (calls.reopened v done asked)
shows_by v None done = refl
shows_by v (Some chain) true = refl
shows_by v (Some chain) false = refl

shows_before : (v : RegisterView) (asked : Option Chain) → standing_in_view v ≡ standing_in_view (calls.reopened v false asked)
shows_before v None = refl
shows_before v (Some chain) = refl

module _ (s : Standing) (older : Option Standing) (counts : Counts) (k : value.View Chain) where
  abbrev here : View
  here = view_of s older counts k

  pub may_find : (found : List (List ℕ)) → value.MayFind standing_kind s k found → MayFind here.register found
  may_find found m = (m.0, m.2 ∙ ap (λ (x : Standing). Some x) (shows_by here.register k.asked m.0))

  pub kept_survives : IsKept s older k → Survives here
  kept_survives i = λ image is. may_find (records_of image) (kept_left standing_kind s k i.kept image is)

  -- a crash inside a write of a chain that was copied
  pub during : (now : View) (chain given : Chain) (new : DiskView) → here ≡ now → given ≡ chain → AnyCrash k.journal.disk.timeline new.timeline (λ c. value.BeforeOrAfter standing_kind s given (records_of c)) →
      AnyCrash now.disk.timeline new.timeline (λ c. MayFindDuring now.register chain (records_of c))
  during now chain given new is same run =
      subst (λ (v : View). AnyCrash v.disk.timeline new.timeline (λ c. MayFindDuring v.register chain (records_of c))) is
      (weaker k.journal.disk.timeline new.timeline (λ c. value.BeforeOrAfter standing_kind s given (records_of c)) (λ c. MayFindDuring here.register chain (records_of c))
      (λ c. elim [ inl before ↦ inl (false, before ∙ ap (λ (x : Standing). Some x) (shows_before here.register k.asked)) | inr after ↦ inr (after ∙ ap (λ (x : Chain). Some (advanced s x)) same) ]) run)

  -- and inside a reopening
  pub reopened : (now : View) (new : DiskView) → here ≡ now → AnyCrash k.journal.disk.timeline new.timeline (λ c. value.MayFind standing_kind s k (records_of c)) →
      AnyCrash now.disk.timeline new.timeline (λ c. MayFind now.register (records_of c))
  reopened now new is run =
      subst (λ (v : View). AnyCrash v.disk.timeline new.timeline (λ c. MayFind v.register (records_of c))) is
      (weaker k.journal.disk.timeline new.timeline (λ c. value.MayFind standing_kind s k (records_of c)) (λ c. MayFind here.register (records_of c)) (λ c. may_find (records_of c)) run)

  -- of what callers see
  pub seen_survives : (now : View) → IsKept s older k → here ≡ now → Survives now
  seen_survives now i is = subst (λ (v : View). Survives v) is (kept_survives i)

-- what stays is as it was
pub stays_during : (v : View) (chain : Chain) (new : DiskView) → new.timeline ≡ v.disk.timeline → Survives v → AnyCrash v.disk.timeline new.timeline (λ c. MayFindDuring v.register chain (records_of c))
stays_during v chain new same left = stays v.disk.timeline new.timeline (λ c. MayFindDuring v.register chain (records_of c)) same (λ image is. inl (left image is))

-- the same, of a call that asks for no write
pub stays_found : (v : View) (new : DiskView) → new.timeline ≡ v.disk.timeline → Survives v → AnyCrash v.disk.timeline new.timeline (λ c. MayFind v.register (records_of c))
stays_found v new same left = stays v.disk.timeline new.timeline (λ c. MayFind v.register (records_of c)) same (λ image is. left image is)

-- ---- what is held

none_older : (s : Standing) → ForSome None (IsOlder s)
none_older s = λ x e. absurd (cc)

pub kept_written : (now : Standing) (k : value.View Chain) → IsWhole now → keeping.IsKept standing_kind now k → IsKept now None k
kept_written now k whole kept = record { whole = whole; before = none_older now; kept = kept }

pub kept_same : (s now : Standing) (older : Option Standing) (k : value.View Chain) → now ≡ s → IsWhole now → ForSome older (IsOlder s) → keeping.IsKept standing_kind now k → IsKept now older k
kept_same s now older k is whole before kept = record { whole = whole; before = subst (λ (x : Standing). ForSome older (IsOlder x)) (sym is) before; kept = kept }

for_some : {A : Type 0} (P : A → Type 0) (x : A) → P x → ForSome (Some x) P
for_some P x holds = λ y e. let same : x ≡ y = cc in subst P same holds

-- what was given before is older than what stands then
older_given : (s now : Standing) (older : Option Standing) → IsWhole s → s.version < now.version → ForSome older (IsOlder s) → IsOlder now (given_of s older)
older_given s now None whole less before = record { least = whole.least; below = less; joined = whole.joined }
older_given s now (Some o) whole less before = let it = before o refl in record { least = it.least; below = omega (arith, it.below, less); joined = it.joined }

no_less : (s now : Standing) (chain : Option Chain) (done : Bool) → now ≡ value.reopened_by standing_kind s chain done → s.version ≤ now.version
no_less s now None done is = omega (arith, ap (λ (x : Standing). x.version) is)
no_less s now (Some chain) true is = omega (arith, ap (λ (x : Standing). x.version) is)
no_less s now (Some chain) false is = omega (arith, ap (λ (x : Standing). x.version) is)

older_is : (s now : Standing) (older : Option Standing) (test : Bool) → nat_lt s.version now.version ≡ test → s.version ≤ now.version → IsWhole s → ForSome older (IsOlder s) → ForSome (older_after s older now) (IsOlder now)
older_is s now older true less le whole before =
    subst (λ (o : Option Standing). ForSome o (IsOlder now)) (sym (ap (λ t. cond t (Some (given_of s older)) older) less)) (for_some (IsOlder now) (given_of s older) (older_given s now older whole (ltb-true _ _ less) before))
older_is s now older false same le whole before =
    subst (λ (o : Option Standing). ForSome o (IsOlder now)) (sym (ap (λ t. cond t (Some (given_of s older)) older) same)) (λ o e. let it = before o e in record { least = it.least; below = omega (arith, it.below, le); joined = it.joined })

-- the one of before was a copy
pub given_after : (s : Standing) (chain : Chain) (older given : Option Standing) (now : Standing) → chain ≡ s.chain → given ≡ older_after (record { version = s.version; chain = chain }) older now → given ≡ older_after s older now
given_after s chain older given now same is = is ∙ ap (λ (x : Chain). older_after (record { version = s.version; chain = x }) older now) same

pub kept_reopened : (s now : Standing) (older given : Option Standing) (asked : Option Chain) (done : Bool) (k : value.View Chain) → now ≡ value.reopened_by standing_kind s asked done → given ≡ older_after s older now → IsWhole s → ForSome older (IsOlder s) → IsWhole now → keeping.IsKept standing_kind now k → IsKept now given k
kept_reopened s now older given asked done k is gives whole before after kept = record {
  whole = after;
  before = subst (λ (o : Option Standing). ForSome o (IsOlder now)) (sym gives) (older_is s now older (nat_lt s.version now.version) refl (no_less s now asked done is) whole before);
  kept = kept;
}

-- ---- a reopening

abbrev with_state : RegisterView → Bool → ℕ → ℕ → ℕ → ℕ → ℕ → RegisterView
with_state v down faults misses armed word reopenings =
    record v { down = down; faults = faults; misses = misses; armed = armed; word = word; reopenings = reopenings }

same_state : (v : RegisterView) (d d' : Bool) (n n' m m' a a' w w' r r' : ℕ) → d ≡ d' → n ≡ n' → m ≡ m' → a ≡ a' → w ≡ w' → r ≡ r' → with_state v d n m a w r ≡ with_state v d' n' m' a' w' r'
same_state v d d' n n' m m' a a' w w' r r' down faults misses armed word reopenings =
    ap (λ (b : Bool). with_state v b n m a w r) down
    ∙ ap (λ (k : ℕ). with_state v d' k m a w r) faults
    ∙ ap (λ (k : ℕ). with_state v d' n' k a w r) misses
    ∙ ap (λ (k : ℕ). with_state v d' n' m' k w r) armed
    ∙ ap (λ (k : ℕ). with_state v d' n' m' a' k r) word
    ∙ ap (λ (k : ℕ). with_state v d' n' m' a' w' k) reopenings

-- one that is down isn't armed
none_armed : (b : Bool) (n m : ℕ) → b ≡ true → (if b then 0 else n) ≡ (if b then 0 else m)
none_armed b n m is = ap (λ (t : Bool). if t then 0 else n) is ∙ sym (ap (λ (t : Bool). if t then 0 else m) is)

-- a fault of the disk is one of the register
pub counted_bumped : (old new downs : ℕ) → new ≡ disk.bumped old → counted new downs ≡ bumped (counted old downs)
counted_bumped old new downs is = omega (arith, is)

true_false : {P : Type 0} → true ≡ false → P
true_false is = cc is

less_more : (n : ℕ) → nat_lt n (n + 1) ≡ true
less_more n = lt-ltb n (n + 1) (omega arith)

less_same : (n : ℕ) → nat_lt n n ≡ false
less_same n = le-ltb n n (omega arith)

-- it is up again, by this word, and nothing is armed
module _ (s : Standing) (older : Option Standing) (counts : Counts) (word : ℕ) (k new : value.View Chain) (was : k.journal.shut ≡ true) (up : new.journal.shut ≡ false) (calm : new ≡ value.calm new.journal) (disarmed : new.journal.disk.armed ≡ 0) (no_fault : new.journal.disk.faults ≡ k.journal.disk.faults) (by_word : new.journal.disk.word ≡ word) where
  not_armed : (if new.journal.shut then 0 else new.journal.disk.armed) ≡ (if k.journal.shut then 0 else k.journal.disk.armed)
  not_armed = ap (λ (b : Bool). if b then 0 else new.journal.disk.armed) up ∙ disarmed ∙ sym (ap (λ (b : Bool). if b then 0 else k.journal.disk.armed) was)

  abbrev now_counts : Counts
  now_counts = record counts { reopenings = bumped counts.reopenings }

  -- with nothing asked for
  abbrev plain : value.View Chain
  plain = value.calm new.journal

  abbrev Shows : Option Chain → Bool → Standing → Option Standing → Type 0
  Shows asked done now given =
      (view_of now given now_counts plain).register ≡ record (calls.reopened (view_of s older counts (record k { asked = asked })).register done asked) { word = word; reopenings = bumped counts.reopenings }

  same_all : (v : RegisterView) → with_state v new.journal.shut (counted new.journal.disk.faults counts.downs) counts.misses (if new.journal.shut then 0 else new.journal.disk.armed) new.journal.disk.word (bumped counts.reopenings)
      ≡ with_state v false (counted k.journal.disk.faults counts.downs) counts.misses (if k.journal.shut then 0 else k.journal.disk.armed) word (bumped counts.reopenings)
  same_all v = same_state v _ _ _ _ _ _ _ _ _ _ _ _ up (ap (λ (n : ℕ). counted n counts.downs) no_fault) refl not_armed by_word refl

  same_now : (asked : Option Chain) (given : Option Standing) → given ≡ older → (done : Bool) → calls.reopened (view_of s older counts (record k { asked = asked })).register done asked ≡ record (view_of s older counts (record k { asked = None; stands = false })).register { down = false } → Shows asked done s given
  same_now asked given is done plain_is =
      ap (λ (o : Option Standing). (view_of s o now_counts plain).register) is
      ∙ same_all (view_of s older counts (record k { asked = None; stands = false })).register
      ∙ ap (λ (r : RegisterView). record r { word = word; reopenings = bumped counts.reopenings }) (sym plain_is)

  older_same : older_after s older s ≡ older
  older_same = ap (λ t. cond t (Some (given_of s older)) older) (less_same s.version)

  shows_reopened : (asked : Option Chain) (done : Bool) → Shows asked done (value.reopened_by standing_kind s asked done) (older_after s older (value.reopened_by standing_kind s asked done))
  shows_reopened None done = same_now None (older_after s older s) older_same done refl
  shows_reopened (Some chain) false = same_now (Some chain) (older_after s older s) older_same false refl
  shows_reopened (Some chain) true =
      ap (λ t. (view_of (advanced s chain) (cond t (Some (given_of s older)) older) now_counts plain).register) (less_more s.version)
      ∙ same_all (calls.reopened (view_of s older counts (record k { asked = Some chain })).register true (Some chain))

  pub reopens_so : (last : Counts) (now : Standing) (given : Option Standing) (done : Bool) (v : View) → last ≡ now_counts → view_of s older counts k ≡ v → (k.stands ≡ true → done ≡ true) → now ≡ value.reopened_by standing_kind s k.asked done → given ≡ older_after s older now →
      calls.Reopens v.register word (Ok true) (view_of now given last new).register
  reopens_so last now given done v once is standing settles gives =
      let shows : (view_of now given last new).register ≡ record (calls.reopened (view_of s older counts k).register done k.asked) { word = word; reopenings = bumped counts.reopenings } =
      ap (λ (n : Counts). (view_of now given n new).register) once
      ∙ ap (λ (n : value.View Chain). (view_of now given now_counts n).register) calm
      ∙ ap (λ (o : Option Standing). (view_of now o now_counts plain).register) gives
      ∙ ap (λ (x : Standing). (view_of x (older_after s older x) now_counts plain).register) settles
      ∙ shows_reopened k.asked done in
      subst (λ (w : View). calls.Reopens w.register word (Ok true) (view_of now given last new).register) is ((λ running. true_false (sym was ∙ running)), (λ _. (done, standing, shows)))

-- it stays down, and showed the same but for what is counted and the word
module _ (s : Standing) (older : Option Standing) (counts : Counts) (word : ℕ) (k new : value.View Chain) (was : k.journal.shut ≡ true) (now : Standing) (same : now ≡ s) (tries : value.Tries word k.journal.disk new.journal.disk) (v : View) (is : view_of s older counts k ≡ v) where
  -- its disk failed
  pub misses_so : (last : Counts) → last ≡ record counts { misses = bumped counts.misses; reopenings = bumped counts.reopenings } → new ≡ record k { journal = record k.journal { shut = true; disk = new.journal.disk } } → new.journal.disk.faults ≡ disk.bumped k.journal.disk.faults →
      calls.Reopens v.register word (Ok false) (view_of now older last new).register
  misses_so last once kept fault =
      let missed : Counts = record counts { misses = bumped counts.misses; reopenings = bumped counts.reopenings } in
      let shows : (view_of now older last new).register ≡ record (view_of s older counts k).register { faults = bumped (counted k.journal.disk.faults counts.downs); misses = bumped counts.misses; word = new.journal.disk.word; reopenings = bumped counts.reopenings } =
      ap (λ (n : Counts). (view_of now older n new).register) once
      ∙ ap (λ (x : Standing). (view_of x older missed new).register) same
      ∙ ap (λ (n : value.View Chain). (view_of s older missed n).register) kept
      ∙ same_state (view_of s older missed k).register _ _ _ _ _ _ _ _ _ _ _ _ (sym was) (counted_bumped _ _ counts.downs fault) refl (sym (ap (λ (b : Bool). if b then 0 else k.journal.disk.armed) was)) refl refl in
      subst (λ (w : View). calls.Reopens w.register word (Ok false) (view_of now older last new).register) is ((was, tries), shows)

  -- there was no memory
  pub unheard_so : (e : AllocError) → new ≡ record k { journal = record k.journal { disk = new.journal.disk } } → new.journal.disk.faults ≡ k.journal.disk.faults → calls.Reopens v.register word (Err e) (view_of now older counts new).register
  unheard_so e kept no_fault =
      let shows : (view_of now older counts new).register ≡ record (view_of s older counts k).register { word = new.journal.disk.word } =
      ap (λ (x : Standing). (view_of x older counts new).register) same
      ∙ ap (λ (n : value.View Chain). (view_of s older counts n).register) kept
      ∙ same_state (view_of s older counts k).register _ _ _ _ _ _ _ _ _ _ _ _ refl (ap (λ (n : ℕ). counted n counts.downs) no_fault) refl (none_armed k.journal.shut _ _ was) refl refl in
      subst (λ (w : View). calls.Reopens w.register word (Err e) (view_of now older counts new).register) is (inr ((was, tries), shows))

-- ---- how many writes

-- while it is up its disk has as many records as its journal
all_there : (s : Standing) (k : value.View Chain) → keeping.IsKept standing_kind s k → k.journal.shut ≡ false → length (records_of (reads k.journal.disk)) ≡ length k.journal.records
all_there s k kept running = ap length (now_has k.journal.disk.timeline.now _ (kept.survives.exact running))

pub counts_writes : (s : Standing) (chain : Chain) (k new : value.View Chain) → keeping.IsKept standing_kind s k → k.journal.shut ≡ false →
    (nat_lt most_records (length k.journal.records + 1) ≡ false → value.AddsOne k.journal new.journal) → value.TakesWrite 4 k.journal.disk new.journal.disk →
    CountsWrites k.journal.disk new.journal.disk
counts_writes s chain k new kept running one writes = record {
  two = λ few.
      let all = all_there s k kept running in
      (one (le-ltb most_records (length k.journal.records + 1) (omega (arith, few, all)))).taken;
  six = writes.taken;
  no_fault = writes.faults;
}

pub counts_records : (s : Standing) (older : Option Standing) (counts : Counts) (k : value.View Chain) (now : View) → IsKept s older k → view_of s older counts k ≡ now →
    (n : ℕ) → n ≡ length k.journal.records → now.register.down ≡ false → n ≡ length (records_of (reads now.disk))
counts_records s older counts k now i is n counted up =
    let running : k.journal.shut ≡ false = ap (λ (v : View). v.register.down) is ∙ up in
    counted ∙ sym (all_there s k i.kept running) ∙ ap (λ (v : View). length (records_of (reads v.disk))) is

-- ---- an opening of a disk without records

abbrev pub nothing_counted : Counts
nothing_counted = record { downs = 0; misses = 0; stops = 0; reopenings = 0 }

pub opened_fresh : (s : Standing) (k : value.View Chain) (rs : List (List ℕ)) → standing_of rs ≡ Some s → rs ≡ [] → k ≡ value.calm k.journal → k.journal.shut ≡ false → k.journal.disk.faults ≡ 0 → k.journal.disk.armed ≡ 0 → IsFresh (view_of s None nothing_counted k).register
opened_fresh s k rs spelled none calm up no_fault unarmed =
    let first : s ≡ first_standing = same_some s first_standing (sym spelled ∙ ap standing_of none) in
    record {
      version = ap (λ (x : Standing). x.version) first;
      chain = ap (λ (x : Standing). x.chain) first;
      given = ap (λ (x : Standing). x.version) first;
      given_chain = ap (λ (x : Standing). x.chain) first;
      asked = ap (λ (w : value.View Chain). w.asked) calm;
      down = up;
      faults = ap (λ (n : ℕ). counted n 0) no_fault;
      misses = refl;
      armed = ap (λ (b : Bool). if b then 0 else k.journal.disk.armed) up ∙ unarmed;
    }
  where
    same_some : (x y : Standing) → Some x ≡ Some y → x ≡ y
    same_some x y e = cc

-- ---- what holds at every moment

sound_of : (s : Standing) (older : Option Standing) (counts : Counts) (k : value.View Chain) → IsKept s older k → IsSound (view_of s older counts k).register
sound_of s older counts k i = record {
  least = i.whole.least;
  chain = i.whole.joined;
  given = given_within older i.before;
  given_chain = given_joined older i.before;
  same = given_same older i.before;
  asked = i.kept.whole;
  settled = i.kept.settled;
  asked_chain = λ chain is. (i.kept.can chain is).joined;
}
  where
    given_within : (o : Option Standing) → ForSome o (IsOlder s) → (1 ≤ (given_of s o).version) × ((given_of s o).version ≤ s.version)
    given_within None b = (i.whole.least, omega arith)
    given_within (Some o) b = let it = b o refl in (it.least, omega (arith, it.below))

    given_joined : (o : Option Standing) → ForSome o (IsOlder s) → IsChain (given_of s o).chain
    given_joined None b = i.whole.joined
    given_joined (Some o) b = (b o refl).joined

    given_same : (o : Option Standing) → ForSome o (IsOlder s) → (given_of s o).version ≡ s.version → (given_of s o).chain ≡ s.chain
    given_same None b e = refl
    given_same (Some o) b e = let it = b o refl in absurd (apart it.below e)
      where
        apart : o.version < s.version → o.version ≡ s.version → ⊥
        apart less same = omega (arith, less, same)

pub seen_sound : (s : Standing) (older : Option Standing) (counts : Counts) (k : value.View Chain) (now : View) → IsKept s older k → view_of s older counts k ≡ now → IsSound now.register
seen_sound s older counts k now i is = subst (λ (v : View). IsSound v.register) is (sound_of s older counts k i)
