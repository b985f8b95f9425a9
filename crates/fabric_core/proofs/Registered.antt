-- A fabric goes on after an event of its register.
use Rattle.std.proofs.Common.{◌≡◌, inl, inr, ℕ, ◌+◌, ◌<◌, ◌^◌, List, [], ◌∷◌, ◌++◌, length, Bool, true, false, refl, sym, ap, ◌∙◌, subst, ⊎_elim, arith}
use Rattle.std.specs.Prelude.{MatchBool}
use Rattle.std.proofs.lemmas.List.{length-append}
use Rattle.loglet_api.specs.declared.call.Kind.{Kind}
use Rattle.delos_types.specs.declared.chain.Chain.{Chain}
use Rattle.chain_map.specs.Chain.{is_chain}
use Rattle.register_api.specs.View.{RegisterView}
use Rattle.legal_journal.specs.Law.{Law}
use Rattle.legal_journal.specs.declared.events.Event.{Event}
use Rattle.legal_journal.specs.declared.events.FabricCall.{FabricCall}
use Rattle.legal_journal.specs.declared.events.FabricCall.TheVariants.{ReadChain, WriteChain, StopMeta, MendMeta}
use Rattle.legal_journal.specs.declared.events.FabricAnswer.{FabricAnswer}
use Rattle.legal_journal.specs.declared.events.FabricAnswer.TheVariants.{At, Down, Written, Conflict, MetaFault, Set, Memory}
use Rattle.legal_journal.specs.Moves.{move, move_of}
use Rattle.legal_journal.specs.Journal.{CellState, State, state_of, after, MayHappen, MayFollow}
use Rattle.legal_journal.specs.Turns.{MayCall, OwnEvents}
use Rattle.legal_journal.proofs.Sound.{StateOk}
use Rattle.legal_journal.proofs.Legal.{sound}
use Rattle.fabric_core.specs.Runs.{RegisterDoes, RegisterLacks, ServersLack, is_on, is_on_register}
use Rattle.fabric_core.specs.RegisterEvent.{RegisterActs, RegisterApplies}
use Rattle.fabric_core.specs.Fabric.{FabricView, FabricOk, IsAsTold, AreMarked, IsRegisterAsTold, Lacks, Keeps}
use Rattle.fabric_core.proofs.Ran.{lacks_drift, register_drifts, register_more}
use Rattle.fabric_core.proofs.Acts.{register_acts}
use Rattle.fabric_core.proofs.Registers.{counted, current_is, given_told, written_told, failed_told, armed_told, drifted_told, mended_told, missed_told, may_stand, expected, small_version}
use Rattle.fabric_core.proofs.Kept.{legal_more, state_more, has_run_same}
use Rattle.fabric_core.proofs.Shelf.{adds_none}

module _ (law : Law) {kinds : List Kind} (f : FabricView) (marks : List (List Bool)) (ok : FabricOk law kinds f marks) where
  state_ok : StateOk (length law.shelf) (state_of f.journal)
  state_ok = sound law f.journal ok.legal

  -- the event is of no cell
  off_cells : (e : Event) → MayHappen (state_of f.journal) law e → ((j : ℕ) → (after (state_of f.journal) e.who (move e)).cells j ≡ (state_of f.journal).cells j) → ((j : ℕ) → is_on j e.call ≡ false) → is_on_register e.call ≡ true → (r : RegisterView) → RegisterDoes f.register e.call e.answer r → IsRegisterAsTold (after (state_of f.journal) e.who (move e)).register r → FabricOk law kinds (record { cells = f.cells; serving = f.serving; register = r; journal = f.journal ++ e ∷ [] }) marks
  off_cells e can same off on r does register =
      let next = state_more law f.journal e in record {
        legal = legal_more law f.journal e ok.legal can;
        shelf_is = ok.shelf_is;
        kinds_are = ok.kinds_are;
        cells = λ j x g.
            let old = ok.cells j x g in
            let cell : (state_of (f.journal ++ e ∷ [])).cells j ≡ (state_of f.journal).cells j = ap (λ (y : State). y.cells j) next ∙ same j in record {
              told = subst (λ (y : CellState). IsAsTold y x) (sym cell) old.told;
              here = old.here;
              is = old.is;
              marked = subst (λ (y : CellState). AreMarked y old.here) (sym cell) old.marked;
              ran = has_run_same j x f.journal e old.ran (off j);
            };
        register = subst (λ (y : State). IsRegisterAsTold y.register r) (sym next) register;
        register_ran = register_more f.register r f.journal e ok.register_ran on does;
      }

  pub record Goes (who : ℕ) (call : FabricCall) (answer : FabricAnswer) (r : RegisterView) (journal : List Event) : Type 0 where
    pub now : FabricOk law kinds (record { cells = f.cells; serving = f.serving; register = r; journal = journal }) marks
    pub keeps : Keeps law f who call answer (record { cells = f.cells; serving = f.serving; register = r; journal = journal })

  -- one event is recorded
  acted : (who : ℕ) (call : FabricCall) (answer : FabricAnswer) (r : RegisterView) (journal : List Event) → MayHappen (state_of f.journal) law (record { who = who; call = call; answer = answer }) → ((j : ℕ) → (after (state_of f.journal) who (move_of call answer)).cells j ≡ (state_of f.journal).cells j) → ((j : ℕ) → is_on j call ≡ false) → is_on_register call ≡ true → OwnEvents who call answer (record { who = who; call = call; answer = answer } ∷ []) → RegisterActs f.register f.journal who call answer r journal → IsRegisterAsTold (after (state_of f.journal) who (move_of call answer)).register r → Goes who call answer r journal
  acted who call answer r journal can same off on own h told =
      let e : Event = record { who = who; call = call; answer = answer } in
      let all : FabricOk law kinds (record { cells = f.cells; serving = f.serving; register = r; journal = journal }) marks = subst (λ j. FabricOk law kinds (record { cells = f.cells; serving = f.serving; register = r; journal = j }) marks) (sym h.recorded) (off_cells e can same off on r h.does told) in record {
        now = all;
        keeps = record {
          adds = record { own = e ∷ []; event = own; added = h.recorded };
          legal = all.legal;
          same = λ x. absurd (omega (arith, ap length x, ap length h.recorded, length-append f.journal (e ∷ [])));
          acts = inr (register_acts f (record { cells = f.cells; serving = f.serving; register = r; journal = journal }) call answer off on refl refl h.does);
        };
      }

  -- no event
  unheard : (who : ℕ) (call : FabricCall) (answer : FabricAnswer) (r : RegisterView) (journal : List Event) → ((j : ℕ) → is_on j call ≡ false) → answer ≡ Memory → RegisterLacks f.register call r → journal ≡ f.journal → Goes who call answer r journal
  unheard who call answer r journal off memory lacks is =
      let drift = lacks_drift call f.register r lacks in
      let still : FabricOk law kinds (record { cells = f.cells; serving = f.serving; register = r; journal = f.journal }) marks = record {
        legal = ok.legal;
        shelf_is = ok.shelf_is;
        kinds_are = ok.kinds_are;
        cells = ok.cells;
        register = drifted_told (state_of f.journal).register f.register ok.register r drift;
        register_ran = register_drifts f.register r f.journal ok.register_ran drift;
      } in
      let all = subst (λ j. FabricOk law kinds (record { cells = f.cells; serving = f.serving; register = r; journal = j }) marks) (sym is) still in
      let left : Lacks f call (record { cells = f.cells; serving = f.serving; register = r; journal = journal }) = record {
        cells = refl;
        serving = refl;
        each = λ i u h. (u, h, subst (λ b. MatchBool b (ServersLack u call u) (u ≡ u)) (sym (off i)) refl);
        register = lacks;
        journal = is;
      } in record {
        now = all;
        keeps = record {
          adds = adds_none who call f.journal journal answer memory is;
          legal = all.legal;
          same = λ _. left;
          acts = inl left;
        };
      }

  up : f.register.down ≡ false → (state_of f.journal).register.down ≡ false
  up h = sym ok.register.down ∙ h

  read_acts : (who : ℕ) (answer : FabricAnswer) (r : RegisterView) (journal : List Event) → RegisterActs f.register f.journal who ReadChain answer r journal → Goes who ReadChain answer r journal
  read_acts who (At n c) r journal h =
      let w = state_of f.journal in
      acted who ReadChain (At n c) r journal
      (record { there = tt; allowed = (up h.does.up, current_is w.register f.register ok.register n c h.does.version_is h.does.chain_is) })
      (λ j. refl) (λ j. refl) refl refl h (given_told w.register f.register ok.register n c r h.sound h.does)
  read_acts who Down r journal h =
      acted who ReadChain Down r journal (record { there = tt; allowed = sym ok.register.down ∙ h.does.was })
      (λ j. refl) (λ j. refl) refl refl h (counted (state_of f.journal).register f.register ok.register r _ h.does.counted)
  read_acts who answer r journal h = absurd h.does

  pub read_goes : (who : ℕ) (answer : FabricAnswer) (r : RegisterView) (journal : List Event) → RegisterApplies f.register f.journal who ReadChain answer r journal → Goes who ReadChain answer r journal
  read_goes who answer r journal h = ⊎_elim
      (λ (x : RegisterActs f.register f.journal who ReadChain answer r journal). read_acts who answer r journal x)
      (λ (x : (answer ≡ Memory) × RegisterLacks f.register ReadChain r × (journal ≡ f.journal)). unheard who ReadChain answer r journal (λ j. refl) x.0 x.1 x.2)
      h

  pub may_write : (who x : ℕ) (c : Chain) → MayCall (state_of f.journal) law who (WriteChain x c) → is_chain c ≡ true
  may_write who x c can = may_stand (length law.shelf) (state_of f.journal) state_ok x can.asks.0 can.asks.1 law.floor c can.asks.2

  pub version_small : f.register.version < 2 ^ 48
  version_small = small_version (length law.shelf) (state_of f.journal) f.register state_ok ok.register

  write_acts : (who x : ℕ) (c : Chain) (answer : FabricAnswer) (r : RegisterView) (journal : List Event) → MayCall (state_of f.journal) law who (WriteChain x c) → RegisterActs f.register f.journal who (WriteChain x c) answer r journal → Goes who (WriteChain x c) answer r journal
  write_acts who x c (Written n) r journal can h =
      let w = state_of f.journal in
      let k = expected (length law.shelf) w state_ok x can.asks.0 can.asks.1 f.register ok.register h.does.expected_is in
      acted who (WriteChain x c) (Written n) r journal
      (record { there = tt; allowed = (up h.does.up, k.version, subst (λ (o : Chain). MayFollow w law.floor (length law.shelf) o c) k.old_is can.asks.2, h.does.version_is ∙ ap (λ m. m + 1) (sym h.does.expected_is)) })
      (λ j. refl) (λ j. refl) refl refl h (written_told w.register f.register ok.register x c n r h.sound h.does)
  write_acts who x c (Conflict n d) r journal can h =
      let w = state_of f.journal in
      acted who (WriteChain x c) (Conflict n d) r journal
      (record { there = tt; allowed = (up h.does.0.up, current_is w.register f.register ok.register n d h.does.0.version_is h.does.0.chain_is, λ e. h.does.1 (e ∙ h.does.0.version_is)) })
      (λ j. refl) (λ j. refl) refl refl h (given_told w.register f.register ok.register n d r h.sound h.does.0)
  write_acts who x c MetaFault r journal can h =
      let w = state_of f.journal in
      let k = expected (length law.shelf) w state_ok x can.asks.0 can.asks.1 f.register ok.register h.does.expected_is in
      acted who (WriteChain x c) MetaFault r journal
      (record { there = tt; allowed = (up h.does.up, k.version, subst (λ (o : Chain). MayFollow w law.floor (length law.shelf) o c) k.old_is can.asks.2) })
      (λ j. refl) (λ j. refl) refl refl h (failed_told w.register f.register ok.register x c r k.standing k.chain h.does)
  write_acts who x c Down r journal can h =
      acted who (WriteChain x c) Down r journal (record { there = tt; allowed = sym ok.register.down ∙ h.does.was })
      (λ j. refl) (λ j. refl) refl refl h (counted (state_of f.journal).register f.register ok.register r _ h.does.counted)
  write_acts who x c answer r journal can h = absurd h.does

  pub write_goes : (who x : ℕ) (c : Chain) (answer : FabricAnswer) (r : RegisterView) (journal : List Event) → MayCall (state_of f.journal) law who (WriteChain x c) → RegisterApplies f.register f.journal who (WriteChain x c) answer r journal → Goes who (WriteChain x c) answer r journal
  write_goes who x c answer r journal can h = ⊎_elim
      (λ (y : RegisterActs f.register f.journal who (WriteChain x c) answer r journal). write_acts who x c answer r journal can y)
      (λ (y : (answer ≡ Memory) × RegisterLacks f.register (WriteChain x c) r × (journal ≡ f.journal)). unheard who (WriteChain x c) answer r journal (λ j. refl) y.0 y.1 y.2)
      h

  arm_acts : (who n : ℕ) (answer : FabricAnswer) (r : RegisterView) (journal : List Event) → RegisterActs f.register f.journal who (StopMeta n) answer r journal → Goes who (StopMeta n) answer r journal
  arm_acts who n (Set true) r journal h =
      acted who (StopMeta n) (Set true) r journal (record { there = tt; allowed = tt }) (λ j. refl) (λ j. refl) refl refl h
      (armed_told (state_of f.journal).register f.register ok.register r n h.does)
  arm_acts who n answer r journal h = absurd h.does

  pub arm_goes : (who n : ℕ) (answer : FabricAnswer) (r : RegisterView) (journal : List Event) → RegisterApplies f.register f.journal who (StopMeta n) answer r journal → Goes who (StopMeta n) answer r journal
  arm_goes who n answer r journal h = ⊎_elim
      (λ (x : RegisterActs f.register f.journal who (StopMeta n) answer r journal). arm_acts who n answer r journal x)
      (λ (x : (answer ≡ Memory) × RegisterLacks f.register (StopMeta n) r × (journal ≡ f.journal)). unheard who (StopMeta n) answer r journal (λ j. refl) x.0 x.1 x.2)
      h

  reopen_acts : (who word : ℕ) (answer : FabricAnswer) (r : RegisterView) (journal : List Event) → RegisterActs f.register f.journal who (MendMeta word) answer r journal → Goes who (MendMeta word) answer r journal
  reopen_acts who word (Set true) r journal h =
      acted who (MendMeta word) (Set true) r journal (record { there = tt; allowed = tt }) (λ j. refl) (λ j. refl) refl refl h
      (mended_told (state_of f.journal).register f.register ok.register r word h.sound h.does)
  reopen_acts who word (Set false) r journal h =
      acted who (MendMeta word) (Set false) r journal (record { there = tt; allowed = tt }) (λ j. refl) (λ j. refl) refl refl h
      (missed_told (state_of f.journal).register f.register ok.register r _ _ _ _ h.does.1)
  reopen_acts who word answer r journal h = absurd h.does

  pub reopen_goes : (who word : ℕ) (answer : FabricAnswer) (r : RegisterView) (journal : List Event) → RegisterApplies f.register f.journal who (MendMeta word) answer r journal → Goes who (MendMeta word) answer r journal
  reopen_goes who word answer r journal h = ⊎_elim
      (λ (x : RegisterActs f.register f.journal who (MendMeta word) answer r journal). reopen_acts who word answer r journal x)
      (λ (x : (answer ≡ Memory) × RegisterLacks f.register (MendMeta word) r × (journal ≡ f.journal)). unheard who (MendMeta word) answer r journal (λ j. refl) x.0 x.1 x.2)
      h
