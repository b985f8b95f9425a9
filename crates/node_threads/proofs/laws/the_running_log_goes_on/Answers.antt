use Rattle.std.proofs.Common.{◌++◌, List, length, sym, subst, arith}
use Rattle.legal_journal.specs.Law.{Law}
use Rattle.legal_journal.specs.declared.events.Event.{Event}
use Rattle.legal_journal.specs.Journal.{IsLegal, state_of}
use Rattle.legal_journal.proofs.Chains.{chain_ok, closed_at}
use Rattle.legal_journal.proofs.Legal.{agrees, goes_on, sound, stands_on, whole}
use Rattle.node_threads.specs.Running.{LogGoesOn}
use Rattle.node_threads.proofs.laws.the_running_log_goes_on.Goals as goal

goes : (law : Law) (seen later : List Event) → IsLegal law (seen ++ later) → LogGoesOn (state_of seen) (state_of (seen ++ later))
goes law seen later legal =
    let on = goes_on law seen later legal in
    let ok = sound law (seen ++ later) legal in
    record {
      goes = on;
      agrees = λ pos e f a b. agrees (state_of seen) (state_of (seen ++ later)) pos e f on a b;
      whole = λ pos up low. let tail = on.tail in whole (length law.shelf) (state_of (seen ++ later)) pos ok up (omega (arith, low, tail));
      stands = λ pos e s. stands_on (state_of seen) (state_of (seen ++ later)) pos e on s;
      chain = λ v c given. chain_ok (length law.shelf) (state_of (seen ++ later)) v c ok (on.given v c given);
      closed = λ v c given. closed_at (length law.shelf) (state_of (seen ++ later)) v c ok (on.given v c given);
    }

pub returns : goal.returns
returns g c = λ part seen journal follows legal.
    subst (λ es. LogGoesOn (state_of seen) (state_of es)) (sym follows.1) (goes g.P.Rules.law seen follows.0 (subst (IsLegal g.P.Rules.law) follows.1 legal))
