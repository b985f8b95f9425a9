use Rattle.std.proofs.Common.{length}
use Rattle.base_engine.proofs.Extending.{extended_by, known_grows}
use Rattle.base_engine.proofs.over_virtual_log.VirtualLogSharedLog.extend.Goals as goal

pub returns-clause-extension : goal.returns-clause-extension
returns-clause-extension g c =
    let old = c.args.self.now in
    let new = c.extend.new.self in
    extended_by (length g.T.Law.Rules.law.shelf) old.who old.seen old.known new.known new.version new.seen c.extend.result c.extend.ensures.extension

pub returns-clause-known : goal.returns-clause-known
returns-clause-known g c =
    let old = c.args.self.now in
    let new = c.extend.new.self in
    known_grows (length g.T.Law.Rules.law.shelf) old.who old.seen old.known new.known new.version new.seen c.extend.result c.extend.ensures.extension c.extend.ensures.unknown
