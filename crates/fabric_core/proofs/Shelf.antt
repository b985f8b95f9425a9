-- A shelf of values, one of which takes part in an event.
use Rattle.std.proofs.Common.{◌≡◌, inl, inr, ℕ, zero, suc, ◌<◌, List, [], ◌∷◌, ◌++◌, length, map, set, Option, Some, None, Bool, true, IsSome, refl, sym, ap, ◌∙◌, subst, ⊎_elim, arith}
use Rattle.std.specs.Prelude.{slice_get, ◌==◌}
use Rattle.std.proofs.lemmas.List.{length-append, length-map}
use Rattle.std.proofs.lemmas.Option.{slice_get_within}
use Rattle.loglet_api.specs.declared.call.Kind.{Kind}
use Rattle.loglet_api.specs.View.{LogletView, Operation, operation_at, IsOpen}
use Rattle.loglet_api.specs.Servers.{ServersView}
use Rattle.loglet_api.specs.declared.call.Op.{Op}
use Rattle.legal_journal.specs.Law.{Law}
use Rattle.legal_journal.specs.declared.events.Event.{Event}
use Rattle.legal_journal.specs.declared.events.FabricCall.{FabricCall}
use Rattle.legal_journal.specs.declared.events.FabricCall.TheVariants.{Begin, Carry, Forget, ReadChain, WriteChain, Stop, Mend, Stray, StopMeta, MendMeta}
use Rattle.legal_journal.specs.declared.events.FabricAnswer.{FabricAnswer}
use Rattle.legal_journal.specs.declared.events.FabricAnswer.TheVariants.{Begun, Full, Done, Going, NoTicket, Gone, Set, Memory}
use Rattle.legal_journal.specs.Told.{Running}
use Rattle.legal_journal.specs.Journal.{state_of}
use Rattle.legal_journal.specs.Turns.{MayCall, OwnEvents}
use Rattle.register_api.specs.View.{RegisterView}
use Rattle.fabric_core.specs.Runs.{LogletSteps, StepsOf, is_on}
use Rattle.fabric_core.specs.CellEvent.{CellView, Worked, Happens, Wants, Applies, Serves, ServerLacks, ServerApplies}
use Rattle.fabric_core.specs.Fabric.{FabricView, FabricOk, IsMarked, MatchesOperation, Adds, Keeps}
use Rattle.fabric_core.proofs.Acts.{any_serving, cell_acts, servers_lack}
use Rattle.fabric_core.proofs.Kept.{IsAfter, begin_kept, carry_kept, forget_kept, stop_kept, mend_kept, stray_kept}

pub map_get : {A C : Type 0} (g : A → C) (xs : List A) (i : ℕ) (x : A) → slice_get xs i ≡ Some x → slice_get (map g xs) i ≡ Some (g x)
map_get g [] i x h = absurd (cc)
map_get g (y ∷ ys) zero x h = let same : y ≡ x = cc in ap (λ z. Some (g z)) same
map_get g (y ∷ ys) (suc i) x h = map_get g ys i x h

pub map_set : {A C : Type 0} (g : A → C) (xs : List A) (i : ℕ) (x : A) → map g (set xs i x) ≡ set (map g xs) i (g x)
map_set g [] i x = refl
map_set g (y ∷ ys) zero x = refl
map_set g (y ∷ ys) (suc i) x = ap (λ zs. g y ∷ zs) (map_set g ys i x)

pub some_at : {A : Type 0} (xs : List A) (i : ℕ) → i < length xs → (x : A) × (slice_get xs i ≡ Some x)
some_at [] i h = absurd (omega arith)
some_at (x ∷ xs) zero h = (x, refl)
some_at (x ∷ xs) (suc i) h = some_at xs i (omega arith)

pub set_back : {A : Type 0} (xs : List A) (i : ℕ) (x : A) → slice_get xs i ≡ Some x → set xs i x ≡ xs
set_back [] i x h = absurd (cc)
set_back (y ∷ ys) zero x h = let same : x ≡ y = cc in ap (λ z. z ∷ ys) same
set_back (y ∷ ys) (suc i) x h = ap (λ zs. y ∷ zs) (set_back ys i x h)

nil : (xs : List Event) → xs ≡ xs ++ []
nil [] = refl
nil (x ∷ xs) = ap (λ l. x ∷ l) (nil xs)

none_of : (who : ℕ) (call : FabricCall) → OwnEvents who call Memory []
none_of who (Begin i op) = refl
none_of who (Carry i t word) = inl refl
none_of who (Forget i t) = refl
none_of who ReadChain = refl
none_of who (WriteChain x c) = refl
none_of who (Stop i s n) = refl
none_of who (Mend i s word) = refl
none_of who (Stray i word) = refl
none_of who (StopMeta n) = refl
none_of who (MendMeta word) = refl

-- a call that makes no event
pub adds_none : (who : ℕ) (call : FabricCall) (j now : List Event) (answer : FabricAnswer) → answer ≡ Memory → now ≡ j → Adds j who call answer now
adds_none who call j now answer e same = subst (λ (a : FabricAnswer). Adds j who call a now) (sym e) (record { own = []; event = none_of who call; added = same ∙ nil j })

own_begin : (who i : ℕ) (op : Op) (a : FabricAnswer) (steps : LogletSteps) → StepsOf (Begin i op) a steps → OwnEvents who (Begin i op) a (record { who = who; call = Begin i op; answer = a } ∷ [])
own_begin who i op (Begun t) steps h = refl
own_begin who i op Full steps h = refl
own_begin who i op a steps h = absurd h

own_carry : (who i t word : ℕ) (a : FabricAnswer) (steps : LogletSteps) → StepsOf (Carry i t word) a steps → OwnEvents who (Carry i t word) a (record { who = who; call = Carry i t word; answer = a } ∷ [])
own_carry who i t word Going steps h = refl
own_carry who i t word (Done x) steps h = refl
own_carry who i t word Memory steps h = inr refl
own_carry who i t word NoTicket steps h = refl
own_carry who i t word a steps h = absurd h

own_forget : (who i t : ℕ) (a : FabricAnswer) (steps : LogletSteps) → StepsOf (Forget i t) a steps → OwnEvents who (Forget i t) a (record { who = who; call = Forget i t; answer = a } ∷ [])
own_forget who i t Gone steps h = refl
own_forget who i t NoTicket steps h = refl
own_forget who i t a steps h = absurd h

marked_open : (r : Option Running) (o : Option Operation) (m : Option Bool) → IsMarked r m → m ≡ Some true → MatchesOperation r o → IsSome o
marked_open None o m h k e = absurd (h k)
marked_open (Some r) None m h k e = absurd e
marked_open (Some r) (Some o) m h k e = refl

-- a cell of the shelf is there, and has its marks
module _ (law : Law) {kinds : List Kind} {A B : Type 0} (view : A → LogletView) (serving : A → ServersView) (items : B → List Bool) (cells : List A) (marks : List B) (register : RegisterView) (journal : List Event) (ok : FabricOk law kinds (record { cells = map view cells; serving = map serving cells; register = register; journal = journal }) (map items marks)) (i : ℕ) (low : i < length law.shelf) where
  pub cell_within : i < length cells
  cell_within = omega (arith, ap length ok.shelf_is, length-map (map view cells) (λ (v : LogletView). v.servers), length-map cells view)

  pub marks_within : i < length marks
  marks_within =
      let d = some_at (map view cells) i (omega (arith, cell_within, length-map cells view)) in
      let k = ok.cells i d.0 d.1 in
      omega (arith, slice_get_within (map items marks) i k.here k.is, length-map marks items)

module _ (law : Law) {kinds : List Kind} {A B : Type 0} (view : A → LogletView) (serving : A → ServersView) (items : B → List Bool) (cells : List A) (marks : List B) (register : RegisterView) (journal : List Event) (ok : FabricOk law kinds (record { cells = map view cells; serving = map serving cells; register = register; journal = journal }) (map items marks)) (i : ℕ) (a : A) (b : B) (at : slice_get cells i ≡ Some a) (marked : slice_get marks i ≡ Some b) (a' : A) (b' : B) (journal' : List Event) where
  -- a marked ticket is open
  pub open_where_marked : (t : ℕ) → slice_get (items b) t ≡ Some true → IsOpen (view a) t
  open_where_marked t h =
      let k = ok.cells i (view a) (map_get view cells i a at) in
      let both : Some k.here ≡ Some (items b) = sym k.is ∙ map_get items marks i b marked in
      let same : k.here ≡ items b = cc in
      let tie = subst (λ l. IsMarked (((state_of journal).cells i).told.ops t) (slice_get l t)) same (k.marked.each t) in
      marked_open (((state_of journal).cells i).told.ops t) (operation_at (view a).operations t) (slice_get (items b) t) tie h (k.told.operations t)

  -- the fabric before and after
  abbrev old : FabricView
  old = record { cells = map view cells; serving = map serving cells; register = register; journal = journal }

  abbrev new : FabricView
  new = record { cells = map view (set cells i a'); serving = map serving (set cells i a'); register = register; journal = journal' }

  abbrev cell_old : CellView
  cell_old = record { loglet = view a; serving = serving a; marks = items b; journal = journal }

  abbrev cell_new : CellView
  cell_new = record { loglet = view a'; serving = serving a'; marks = items b'; journal = journal' }

  pub record Goes (who : ℕ) (call : FabricCall) (answer : FabricAnswer) : Type 0 where
    pub now : FabricOk law kinds new (map items (set marks i b'))
    pub keeps : Keeps law old who call answer new

  happened : (who : ℕ) (call : FabricCall) (answer : FabricAnswer) → ((steps : LogletSteps) → StepsOf call answer steps → OwnEvents who call answer (record { who = who; call = call; answer = answer } ∷ [])) → ((j : ℕ) → is_on j call ≡ (j == i)) → Happens cell_old who call answer cell_new → IsAfter law old (map items marks) ok i (view a) (serving a) (items b) (map_get view cells i a at) (map_get items marks i b marked) cell_new → Goes who call answer
  happened who call answer own on h after =
      let now : FabricOk law kinds new (map items (set marks i b')) =
      subst (λ (cs : List LogletView). FabricOk law kinds (record { cells = cs; serving = map serving (set cells i a'); register = register; journal = journal' }) (map items (set marks i b'))) (sym (map_set view cells i a'))
      (subst (λ (ms : List (List Bool)). FabricOk law kinds (record { cells = set (map view cells) i (view a'); serving = map serving (set cells i a'); register = register; journal = journal' }) ms) (sym (map_set items marks i b'))
      (any_serving law _ _ (map serving (set cells i a')) after)) in
      let e : Event = record { who = who; call = call; answer = answer } in record {
        now = now;
        keeps = record {
          adds = record { own = e ∷ []; event = own h.steps h.are; added = h.recorded };
          legal = now.legal;
          same = λ is. absurd (omega (arith, ap length is, ap length h.recorded, length-append journal (e ∷ [])));
          acts = inr (cell_acts old new call answer i on (view a) (view a') (serving a) (serving a') (map_get view cells i a at) (map_get serving cells i a at)
              (map_set view cells i a') (map_set serving cells i a') h.steps h.are h.run h.served refl);
        };
      }

  unheard : (who : ℕ) (call : FabricCall) (answer : FabricAnswer) → ((j : ℕ) → is_on j call ≡ (j == i)) → Wants cell_old call answer cell_new → Goes who call answer
  unheard who call answer on h =
      let cells_are : map view (set cells i a') ≡ map view cells = map_set view cells i a' ∙ (ap (set (map view cells) i) h.loglet ∙ set_back (map view cells) i (view a) (map_get view cells i a at)) in
      let marks_are : map items (set marks i b') ≡ map items marks = map_set items marks i b' ∙ (ap (set (map items marks) i) h.marked ∙ set_back (map items marks) i (items b) (map_get items marks i b marked)) in
      let same : record new { serving = map serving cells } ≡ old = ap (λ cs. record { cells = cs; serving = map serving cells; register = register; journal = journal' }) cells_are
      ∙ ap (λ j. record { cells = map view cells; serving = map serving cells; register = register; journal = j }) h.journal in
      let now : FabricOk law kinds new (map items (set marks i b')) =
      any_serving law _ _ (map serving (set cells i a')) (subst (λ (f : FabricView). FabricOk law kinds f (map items (set marks i b'))) (sym same) (subst (FabricOk law kinds old) (sym marks_are) ok)) in
      let left = servers_lack old new call i on (serving a) (serving a') (map_get serving cells i a at) (map_set serving cells i a') h.served cells_are refl h.journal in record {
        now = now;
        keeps = record { adds = adds_none who call journal journal' answer h.answer h.journal; legal = now.legal; same = λ _. left; acts = inl left };
      }

  pub begun : (who : ℕ) (op : Op) (answer : FabricAnswer) → MayCall (state_of journal) law who (Begin i op) → Applies cell_old who (Begin i op) answer cell_new → Goes who (Begin i op) answer
  begun who op answer can h =
      ⊎_elim
      (λ (x : Happens cell_old who (Begin i op) answer cell_new). happened who (Begin i op) answer (own_begin who i op answer) (λ j. refl) x
      (begin_kept law old (map items marks) ok i (view a) (serving a) (items b) (map_get view cells i a at) (map_get items marks i b marked) who op answer cell_new can x))
      (λ (x : Wants cell_old (Begin i op) answer cell_new). unheard who (Begin i op) answer (λ j. refl) x)
      h

  pub carried : (who t word : ℕ) (answer : FabricAnswer) → MayCall (state_of journal) law who (Carry i t word) → Applies cell_old who (Carry i t word) answer cell_new → Goes who (Carry i t word) answer
  carried who t word answer can h =
      ⊎_elim
      (λ (x : Happens cell_old who (Carry i t word) answer cell_new). happened who (Carry i t word) answer (own_carry who i t word answer) (λ j. refl) x
      (carry_kept law old (map items marks) ok i (view a) (serving a) (items b) (map_get view cells i a at) (map_get items marks i b marked) who t word answer cell_new can x))
      (λ (x : Wants cell_old (Carry i t word) answer cell_new). unheard who (Carry i t word) answer (λ j. refl) x)
      h

  pub forgotten : (who t : ℕ) (answer : FabricAnswer) → MayCall (state_of journal) law who (Forget i t) → Applies cell_old who (Forget i t) answer cell_new → Goes who (Forget i t) answer
  forgotten who t answer can h =
      ⊎_elim
      (λ (x : Happens cell_old who (Forget i t) answer cell_new). happened who (Forget i t) answer (own_forget who i t answer) (λ j. refl) x
      (forget_kept law old (map items marks) ok i (view a) (serving a) (items b) (map_get view cells i a at) (map_get items marks i b marked) who t answer cell_new can x))
      (λ (x : Wants cell_old (Forget i t) answer cell_new). unheard who (Forget i t) answer (λ j. refl) x)
      h

own_stop : (who i server n : ℕ) (a : FabricAnswer) (steps : LogletSteps) → StepsOf (Stop i server n) a steps → OwnEvents who (Stop i server n) a (record { who = who; call = Stop i server n; answer = a } ∷ [])
own_stop who i server n (Set true) steps h = refl
own_stop who i server n a steps h = absurd h

own_mend : (who i server word : ℕ) (a : FabricAnswer) (steps : LogletSteps) → StepsOf (Mend i server word) a steps → OwnEvents who (Mend i server word) a (record { who = who; call = Mend i server word; answer = a } ∷ [])
own_mend who i server word (Set b) steps h = refl
own_mend who i server word a steps h = absurd h

own_stray : (who i word : ℕ) (a : FabricAnswer) (steps : LogletSteps) → StepsOf (Stray i word) a steps → OwnEvents who (Stray i word) a (record { who = who; call = Stray i word; answer = a } ∷ [])
own_stray who i word (Set true) steps h = refl
own_stray who i word a steps h = absurd h

-- an event of a cell's servers, which opens and closes no ticket
module _ (law : Law) {kinds : List Kind} {A B : Type 0} (view : A → LogletView) (serving : A → ServersView) (items : B → List Bool) (cells : List A) (marks : List B) (register : RegisterView) (journal : List Event) (ok : FabricOk law kinds (record { cells = map view cells; serving = map serving cells; register = register; journal = journal }) (map items marks)) (i : ℕ) (low : i < length law.shelf) (a : A) (at : slice_get cells i ≡ Some a) (a' : A) (journal' : List Event) where
  mark : (b : B) × (slice_get marks i ≡ Some b)
  mark = some_at marks i (marks_within law view serving items cells marks register journal ok i low)

  abbrev worked_old : Worked
  worked_old = record { loglet = view a; serving = serving a }

  abbrev worked_new : Worked
  worked_new = record { loglet = view a'; serving = serving a' }

  abbrev before : FabricView
  before = record { cells = map view cells; serving = map serving cells; register = register; journal = journal }

  abbrev served_cells : FabricView
  served_cells = record { cells = map view (set cells i a'); serving = map serving (set cells i a'); register = register; journal = journal' }

  pub record Served (who : ℕ) (call : FabricCall) (answer : FabricAnswer) : Type 0 where
    pub now : FabricOk law kinds served_cells (map items marks)
    pub keeps : Keeps law before who call answer served_cells

  serves : (who : ℕ) (call : FabricCall) (answer : FabricAnswer) → ((steps : LogletSteps) → StepsOf call answer steps → OwnEvents who call answer (record { who = who; call = call; answer = answer } ∷ [])) → ((j : ℕ) → is_on j call ≡ (j == i)) → (Serves worked_old journal who call answer worked_new journal' → IsAfter law before (map items marks) ok i (view a) (serving a) (items mark.0) (map_get view cells i a at) (map_get items marks i mark.0 mark.1) (record { loglet = view a'; serving = serving a'; marks = items mark.0; journal = journal' })) → ServerApplies worked_old journal who call answer worked_new journal' → Served who call answer
  serves who call answer own on after h = ⊎_elim happened unheard h
    where
      happened : Serves worked_old journal who call answer worked_new journal' → Served who call answer
      happened x =
          let k : FabricOk law kinds (record { cells = set (map view cells) i (view a'); serving = map serving (set cells i a'); register = register; journal = journal' }) (set (map items marks) i (items mark.0)) =
          any_serving law _ _ (map serving (set cells i a')) (after x) in
          let same : set (map items marks) i (items mark.0) ≡ map items marks = set_back (map items marks) i (items mark.0) (map_get items marks i mark.0 mark.1) in
          let now : FabricOk law kinds served_cells (map items marks) =
          subst (λ (cs : List LogletView). FabricOk law kinds (record { cells = cs; serving = map serving (set cells i a'); register = register; journal = journal' }) (map items marks)) (sym (map_set view cells i a'))
          (subst (FabricOk law kinds (record { cells = set (map view cells) i (view a'); serving = map serving (set cells i a'); register = register; journal = journal' })) same k) in
          let e : Event = record { who = who; call = call; answer = answer } in record {
            now = now;
            keeps = record {
              adds = record { own = e ∷ []; event = own x.steps x.are; added = x.recorded };
              legal = now.legal;
              same = λ is. absurd (omega (arith, ap length is, ap length x.recorded, length-append journal (e ∷ [])));
              acts = inr (cell_acts before served_cells call answer i on (view a) (view a') (serving a) (serving a') (map_get view cells i a at) (map_get serving cells i a at)
                  (map_set view cells i a') (map_set serving cells i a') x.steps x.are x.run x.served refl);
            };
          }

      unheard : ServerLacks worked_old journal call answer worked_new journal' → Served who call answer
      unheard x =
          let cells_are : map view (set cells i a') ≡ map view cells = map_set view cells i a' ∙ (ap (set (map view cells) i) x.loglet ∙ set_back (map view cells) i (view a) (map_get view cells i a at)) in
          let same : record served_cells { serving = map serving cells } ≡ before = ap (λ cs. record { cells = cs; serving = map serving cells; register = register; journal = journal' }) cells_are
          ∙ ap (λ j. record { cells = map view cells; serving = map serving cells; register = register; journal = j }) x.journal in
          let now : FabricOk law kinds served_cells (map items marks) =
          any_serving law _ _ (map serving (set cells i a')) (subst (λ (f : FabricView). FabricOk law kinds f (map items marks)) (sym same) ok) in
          let left = servers_lack before served_cells call i on (serving a) (serving a') (map_get serving cells i a at) (map_set serving cells i a') x.served cells_are refl x.journal in record {
            now = now;
            keeps = record { adds = adds_none who call journal journal' answer x.answer x.journal; legal = now.legal; same = λ _. left; acts = inl left };
          }

  pub stopped : (who server n : ℕ) (answer : FabricAnswer) → MayCall (state_of journal) law who (Stop i server n) → ServerApplies worked_old journal who (Stop i server n) answer worked_new journal' → Served who (Stop i server n) answer
  stopped who server n answer can h =
      serves who (Stop i server n) answer (own_stop who i server n answer) (λ j. refl)
      (stop_kept law before (map items marks) ok i (view a) (serving a) (items mark.0) (map_get view cells i a at) (map_get items marks i mark.0 mark.1) who server n answer (view a') (serving a') journal' can) h

  pub mended : (who server word : ℕ) (answer : FabricAnswer) → MayCall (state_of journal) law who (Mend i server word) → ServerApplies worked_old journal who (Mend i server word) answer worked_new journal' → Served who (Mend i server word) answer
  mended who server word answer can h =
      serves who (Mend i server word) answer (own_mend who i server word answer) (λ j. refl)
      (mend_kept law before (map items marks) ok i (view a) (serving a) (items mark.0) (map_get view cells i a at) (map_get items marks i mark.0 mark.1) who server word answer (view a') (serving a') journal' can) h

  pub strayed : (who word : ℕ) (answer : FabricAnswer) → MayCall (state_of journal) law who (Stray i word) → ServerApplies worked_old journal who (Stray i word) answer worked_new journal' → Served who (Stray i word) answer
  strayed who word answer can h =
      serves who (Stray i word) answer (own_stray who i word answer) (λ j. refl)
      (stray_kept law before (map items marks) ok i (view a) (serving a) (items mark.0) (map_get view cells i a at) (map_get items marks i mark.0 mark.1) who word answer (view a') (serving a') journal' can) h

  -- the cell has this server
  pub server_within : (server : ℕ) → (n : ℕ) → slice_get law.shelf i ≡ Some n → server < n → server < (view a).servers
  server_within server n is h =
      let counts = map_get (λ (v : LogletView). v.servers) (map view cells) i (view a) (map_get view cells i a at) in
      let both : Some n ≡ Some (view a).servers = sym is ∙ (ap (λ (l : List ℕ). slice_get l i) (sym ok.shelf_is) ∙ counts) in
      let same : n ≡ (view a).servers = cc in
      omega (arith, h, same)
