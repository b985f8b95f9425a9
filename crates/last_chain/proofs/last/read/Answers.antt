use Rattle.std.specs.Prelude.{Result, Ok, Err, OnOk}
use Rattle.last_chain.proofs.Asking.{watches_on, asks_three}
use Rattle.last_chain.proofs.last.read.Goals as goal

on_ok : {A E : Type 0} (r : Result A E) (P : Type 0) → P → OnOk r P
on_ok (Ok x) P p = p
on_ok (Err e) P p = tt

pub returns-in_err-last-2-clause-watches : goal.returns-in_err-last-2-clause-watches
returns-in_err-last-2-clause-watches g c =
    watches_on c.args.who c.args.fabric.now.journal c.reopen.new.fabric.journal c.ask-2.new.fabric.journal
    (watches_on c.args.who c.args.fabric.now.journal c.ask.new.fabric.journal c.reopen.new.fabric.journal c.ask.ensures.watches c.reopen.ensures.watches)
    c.ask-2.ensures.watches

pub returns-in-Some-2-clause-asks : goal.returns-in-Some-2-clause-asks
returns-in-Some-2-clause-asks g c =
    asks_three c.args.who c.args.fabric.now.journal c.ask.new.fabric.journal c.reopen.new.fabric.journal c.ask-2.new.fabric.journal
    c.in_ok-last.ensures.makes c.in_ok-reopen.ensures.makes c.in_ok-last-2.ensures.makes

pub returns-clause-asks : goal.returns-clause-asks
returns-clause-asks g c =
    on_ok c.find.result _
    (asks_three c.args.who c.args.fabric.now.journal c.ask.new.fabric.journal c.reopen.new.fabric.journal c.ask-2.new.fabric.journal
    c.in_ok-last.ensures.makes c.in_ok-reopen.ensures.makes c.in_ok-last-2.ensures.makes)
